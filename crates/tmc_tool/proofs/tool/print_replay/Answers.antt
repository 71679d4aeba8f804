use Rattle.std.proofs.Common.{inl, inr, refl, sym, subst}
use Rattle.tmc_base.specs.Writing.{none}
use Rattle.tmc_tool.specs.Told.{Replayed}
use Rattle.tmc_tool.proofs.tool.print_replay.Goals as goal

pub returns-in-Ok : goal.returns-in-Ok
returns-in-Ok g c =
    inl (c.deref.result.now, subst (λ text. Replayed c.args.script.now text) (sym c.deref.ensures.value) c.in-Ok.ensures, c.print.ensures)

pub returns-in-Err : goal.returns-in-Err
returns-in-Err g c = inr (refl, refl, refl, none)
