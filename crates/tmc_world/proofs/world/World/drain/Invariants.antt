use Rattle.std.proofs.Common.{ℕ, ◌≤◌}
use Rattle.tmc_world.specs.World.{Worldly, IsBehind}
use Rattle.tmc_world.specs.RestCalls.{HasMade, IsSpent, to_take, to_write}
use Rattle.tmc_world.proofs.world.World.drain.Given as goal

-- bytes went down, and none is to go up
abbrev pub invariant-pieces : goal.invariant-pieces
invariant-pieces l = record {
  spent : IsSpent l.self.hub;
  made : (first depth : ℕ) (old : Worldly) → IsBehind first depth old l.fn.self.hub → HasMade first depth old l.self.hub;
  no_more : to_write l.self.hub ≤ to_write l.fn.self.hub;
}

abbrev pub decreases-pieces : goal.decreases-pieces
decreases-pieces l = to_take l.self.hub
