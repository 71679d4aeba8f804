use Rattle.host_joint.proofs.Hosting.{out_answered, in_answered, other_answered, unlink_answered}
use Rattle.host_joint.proofs.host_moves.answers_are_taken.Goals as goal

pub returns-clause-outs : goal.returns-clause-outs
returns-clause-outs c ask = out_answered ask.last ask.message ask.tag ask.size ask.written ask.answered ask.sofar ask.read ask.gone

pub returns-clause-ins : goal.returns-clause-ins
returns-clause-ins c ask = in_answered ask.last ask.message ask.tag ask.size ask.written ask.answered ask.sofar ask.read ask.gone

pub returns-clause-interrupts : goal.returns-clause-interrupts
returns-clause-interrupts c ask = other_answered ask.last ask.message ask.tag ask.size ask.written ask.answered ask.sofar ask.read ask.gone

pub returns-clause-unlinks : goal.returns-clause-unlinks
returns-clause-unlinks c ask = unlink_answered ask.last ask.message ask.tag ask.size ask.written ask.answered ask.sofar ask.read ask.gone
