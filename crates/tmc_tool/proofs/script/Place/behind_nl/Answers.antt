use Rattle.std.proofs.Common.{[], ◌∷◌, subst}
use Rattle.tmc_tool.specs.Script.{Stands}
use Rattle.tmc_tool.proofs.Limits.{behind_nl, past_stays}
use Rattle.tmc_tool.proofs.script.Place.behind_nl.Goals as goal

pub returns-in-Past : goal.returns-in-Past
returns-in-Past c = λ bytes at. past_stays bytes (10 ∷ []) (subst (λ place. Stands bytes place) c.in-Past.is at)

pub returns-else-ended-ge-LINES : goal.returns-else-ended-ge-LINES
returns-else-ended-ge-LINES c = λ bytes at.
    behind_nl bytes c.in-Within.ended c.in-Within.begun c.if-ended-ge-LINES.false (subst (λ place. Stands bytes place) c.in-Within.is at)
