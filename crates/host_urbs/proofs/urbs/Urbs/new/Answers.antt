use Rattle.std.proofs.Common.{arith}
use Rattle.host_urbs.proofs.Keeping.{kept_none}
use Rattle.host_urbs.proofs.urbs.Urbs.new.Goals as goal

pub invariant_of-result : goal.invariant_of-result
invariant_of-result c =
    rw (c.new.ensures, c.new-2.ensures, c.in_ok-new.ensures) (kept_none c.args.first c.args.devid (omega (arith, c.ranges.first.fits)))
