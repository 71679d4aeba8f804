use Rattle.std.proofs.Common.{length}
use Rattle.tmc_tool.proofs.Limits.{Followed}
use Rattle.tmc_tool.proofs.script.follow.Given as goal

abbrev pub invariant-lines : goal.invariant-lines
invariant-lines l = Followed l.piece l.rest l.fn.place l.at

abbrev pub decreases-lines : goal.decreases-lines
decreases-lines l = length l.rest
