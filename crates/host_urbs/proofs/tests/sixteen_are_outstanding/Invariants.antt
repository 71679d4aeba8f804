use Rattle.std.proofs.Common.{◌≡◌, ◌+◌, length}
use Rattle.host_urbs.proofs.tests.sixteen_are_outstanding.Given as goal

abbrev pub invariant-loop-number : goal.invariant-loop-number
invariant-loop-number g l = length l.urbs.entries + 3 ≡ l.number

abbrev pub invariant-loop-number-2 : goal.invariant-loop-number-2
invariant-loop-number-2 g l = Unit {0}
