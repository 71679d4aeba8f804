use Rattle.std.proofs.Common.{rules}
use Rattle.tmc_world.specs.World.{begun}
use Rattle.tmc_world.proofs.world.World.new.Goals as goal

pub invariant_of-result : goal.invariant_of-result
invariant_of-result c = record { first = c.args.first; numbered = search rules; depth = c.args.depth; world = begun; behind = search rules }
