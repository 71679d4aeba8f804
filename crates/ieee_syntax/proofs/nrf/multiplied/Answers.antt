use Rattle.std.proofs.Common.{arith, inl, inr}
use Rattle.ieee_syntax.proofs.Rounding.{clamped-zeros_many, clamped-zeros_great}
use Rattle.ieee_syntax.proofs.nrf.multiplied.Goals as goal

pub returns-then-zeros-gt6 : goal.returns-then-zeros-gt6
returns-then-zeros-gt6 c =
    elim c.then-zeros-gt6.either [
      | inl many ↦ clamped-zeros_many c.args.digits c.args.zeros (omega arith) many
      | inr great ↦ clamped-zeros_great c.args.digits c.args.zeros great.1
    ]
