use Rattle.std.proofs.Common.{◌<◌, arith}
use Rattle.ieee_syntax.proofs.Rounding.{pow-small, pow-some, clamped-places_many, clamped-up}
use Rattle.ieee_syntax.proofs.nrf.divided.Goals as goal

pub returns-then-places-gt-GREATEST_POWER : goal.returns-then-places-gt-GREATEST_POWER
returns-then-places-gt-GREATEST_POWER c = clamped-places_many c.args.digits c.args.places (omega arith) (omega arith)

pub pow-power-requires : goal.pow-power-requires
pow-power-requires c = pow-small c.args.places (omega arith)

pub nonzero_div-whole : goal.nonzero_div-whole
nonzero_div-whole c = omega (arith, pow-some c.args.places)

pub nonzero_rem-rest : goal.nonzero_rem-rest
nonzero_rem-rest c = omega (arith, pow-some c.args.places)

pub overflow_sub-power : goal.overflow_sub-power
overflow_sub-power c = let some : 0 < c.pow-power.result = omega (arith, pow-some c.args.places) in omega arith

pub returns-then-rest-power : goal.returns-then-rest-power
returns-then-rest-power c =
    rw (← c.pow-power.ensures) (clamped-up c.args.digits c.pow-power.result (omega (arith, pow-some c.args.places)) (omega arith) (omega arith))
