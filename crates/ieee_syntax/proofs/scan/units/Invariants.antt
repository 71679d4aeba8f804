use Rattle.ieee_syntax.proofs.Scanning.{HasRead}
use Rattle.ieee_syntax.proofs.scan.units.Given as goal

abbrev pub invariant-loop-at : goal.invariant-loop-at
invariant-loop-at l = HasRead l.message l.at l.units.items l.place
