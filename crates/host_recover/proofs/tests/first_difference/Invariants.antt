use Rattle.host_recover.specs.Recover.{Wants}
use Rattle.host_recover.proofs.tests.first_difference.Given as goal

abbrev pub invariant-loop-at : goal.invariant-loop-at
invariant-loop-at l = Wants l.recover.ends l.recover.awaits l.want
