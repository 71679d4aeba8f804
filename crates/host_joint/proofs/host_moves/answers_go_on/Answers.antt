use Rattle.host_joint.proofs.Telling.{out_halted, in_halted, begins}
use Rattle.host_joint.proofs.host_moves.answers_go_on.Goals as goal

pub returns-clause-outs : goal.returns-clause-outs
returns-clause-outs c ask ups head answer transferred downs s own is h = out_halted ask ups head answer transferred downs s own is h (c.answers_are_taken.ensures.outs ask ups head answer transferred downs s own h)

pub returns-clause-ins : goal.returns-clause-ins
returns-clause-ins c ask ups head answer transferred downs s own is h = in_halted ask ups head answer transferred downs s own is h (c.answers_are_taken.ensures.ins ask ups head answer transferred downs s own h)

pub returns-clause-first : goal.returns-clause-first
returns-clause-first c ask ups head answer transferred downs s own good none h = begins ask ups head answer transferred downs s good none (c.answers_are_taken.ensures.ins ask ups head answer transferred downs s own h)
