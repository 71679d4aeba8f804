use Rattle.usbip_wire.proofs.AnswerTurns.{entries_without, left_unlinked, left_unnamed, entries_added}
use Rattle.usbip_wire.proofs.laws.answers_take_out.Goals as goal

pub returns-clause-submit : goal.returns-clause-submit
returns-clause-submit c = λ awaited head transferred. entries_without head.seqnum awaited

pub returns-clause-unlink : goal.returns-clause-unlink
returns-clause-unlink c = λ old later head target. left_unlinked head target old later

pub returns-clause-unnamed : goal.returns-clause-unnamed
returns-clause-unnamed c = left_unnamed

pub returns-clause-added : goal.returns-clause-added
returns-clause-added c = entries_added
