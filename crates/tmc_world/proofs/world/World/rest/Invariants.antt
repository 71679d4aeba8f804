use Rattle.std.proofs.Common.{ℕ}
use Rattle.tmc_world.specs.World.{Worldly, IsBehind}
use Rattle.tmc_world.specs.RestCalls.{HasMade, to_send}
use Rattle.tmc_world.proofs.world.World.rest.Given as goal

-- moves were made
abbrev pub invariant-rounds : goal.invariant-rounds
invariant-rounds l = (first depth : ℕ) (old : Worldly) → IsBehind first depth old l.fn.self.hub → HasMade first depth old l.self.hub

abbrev pub decreases-rounds : goal.decreases-rounds
decreases-rounds l = to_send l.self.hub
