use Rattle.std.proofs.Common.{ap, Ok}
use Rattle.host_recover.proofs.stage.Stage.answered.Goals as goal

pub returns-in-AbortsOut : goal.returns-in-AbortsOut
returns-in-AbortsOut c = rw c.in-AbortsOut.is (ap (λ stage. Ok stage) (c.behind_abort_of_out.ensures c.in-AbortsOut.tag c.args.answer.second))

pub returns-in-ChecksOut : goal.returns-in-ChecksOut
returns-in-ChecksOut c = rw c.in-ChecksOut.is (ap (λ stage. Ok stage) (c.behind_check_of_out.ensures c.args.answer.second))

pub returns-in-AbortsIn : goal.returns-in-AbortsIn
returns-in-AbortsIn c = rw c.in-AbortsIn.is (ap (λ stage. Ok stage) (c.behind_abort_of_in.ensures c.in-AbortsIn.tag c.args.answer.second))

pub returns-in-Clears : goal.returns-in-Clears
returns-in-Clears c = rw c.in-Clears.is (c.behind_initiated_clear.ensures c.args.answer.second)
