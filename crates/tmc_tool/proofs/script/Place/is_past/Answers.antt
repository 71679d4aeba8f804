use Rattle.std.proofs.Common.{subst}
use Rattle.tmc_tool.specs.Script.{Stands}
use Rattle.tmc_tool.proofs.Limits.{within_keeps}
use Rattle.tmc_tool.proofs.script.Place.is_past.Goals as goal

pub returns-in-Within-clause-keeps : goal.returns-in-Within-clause-keeps
returns-in-Within-clause-keeps c = λ bytes at none.
    within_keeps bytes c.in-Within.ended c.in-Within.begun (subst (λ place. Stands bytes place) c.in-Within.is at)
