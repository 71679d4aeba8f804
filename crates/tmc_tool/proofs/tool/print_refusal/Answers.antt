use Rattle.std.proofs.Common.{inl, inr, refl}
use Rattle.tmc_base.specs.Writing.{none}
use Rattle.tmc_tool.proofs.tool.print_refusal.Goals as goal

pub returns-in-Ok : goal.returns-in-Ok
returns-in-Ok g c = inl (rw (c.as_bytes.ensures.value, c.in-Ok.ensures) at c.print.ensures)

pub returns-in-Err : goal.returns-in-Err
returns-in-Err g c = inr (refl, refl, refl, none)
