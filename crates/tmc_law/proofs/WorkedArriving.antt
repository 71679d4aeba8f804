-- submits that no bytes of this link spell, step by step
use Rattle.std.proofs.Common.{[], ◌∷◌, refl, arith}
use Rattle.tmc_law.specs.Endpoint.{Endpoint, Control, BulkOut, BulkIn, InterruptIn}
use Rattle.tmc_law.specs.State.{start, arrived}
use Rattle.tmc_law.specs.Queues.{IsTaken, TurnedAway}
use Rattle.tmc_law.specs.Run.{Runs}
use Rattle.tmc_law.specs.WorkedArriving.{far_submit, other_submit, coming_to_no_endpoint, coming_for_another}
use Rattle.tmc_law.proofs.WorkedComing.{comes, turned_away}

none_takes : (endpoint : Endpoint) → IsTaken start far_submit endpoint → ⊥
none_takes Control taken = omega (arith, taken.number)
none_takes BulkOut taken = omega (arith, taken.number)
none_takes BulkIn taken = omega (arith, taken.number)
none_takes InterruptIn taken = omega (arith, taken.number)

pub comes_to_none : Runs start coming_to_no_endpoint start
comes_to_none = (start, turned_away start far_submit [] _ (record { plugged = refl; free = refl; few = refl }) refl (TurnedAway none_takes refl refl), refl)

pub comes_for_another : Runs start coming_for_another (record start { bulk_in = arrived other_submit [] ∷ [] })
comes_for_another = (
  record start { bulk_in = arrived other_submit [] ∷ [] },
  comes start other_submit [] BulkIn (record { plugged = refl; free = refl; few = refl }) refl (record { number = refl; way = refl; usable = refl }),
  refl,
)
