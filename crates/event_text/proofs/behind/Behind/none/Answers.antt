use Rattle.std.proofs.Common.{sym, ap, ◌∙◌}
use Rattle.event_text.specs.Script.{if_none}
use Rattle.event_text.specs.Read.{words_behind}
use Rattle.event_text.proofs.Cuts.{some_word}
use Rattle.event_text.proofs.behind.Behind.none.Goals as goal

pub returns-in-Words : goal.returns-in-Words
returns-in-Words c = sym (ap (λ b. if_none (words_behind b)) c.in-Words.is ∙ some_word c.in-Words.field-0.now)
