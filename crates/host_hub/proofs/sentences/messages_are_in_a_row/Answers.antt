use Rattle.std.proofs.Common.{List, sym, subst}
use Rattle.usbip_wire.specs.Up as up
use Rattle.host_urbs.specs.Unanswered.{AreInARow}
use Rattle.host_hub.specs.Crossings.{crossings}
use Rattle.host_hub.proofs.Exact.{before}
use Rattle.host_hub.proofs.Lawful.{lawful_crossings}
use Rattle.host_hub.proofs.Messages.{written_same}
use Rattle.host_hub.proofs.sentences.messages_are_in_a_row.Goals as goal

pub returns-clause-numbers : goal.returns-clause-numbers
returns-clause-numbers c = λ setting past lawful.
    subst (λ (l : List up.Message). AreInARow setting.first l) (sym (written_same setting past))
    (c.numbers_are_in_a_row.ensures setting.first (crossings setting past) (lawful_crossings setting past lawful))

pub returns-clause-before : goal.returns-clause-before
returns-clause-before c = before
