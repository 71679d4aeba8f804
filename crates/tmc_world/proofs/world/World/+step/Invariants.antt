use Rattle.std.proofs.Common.{length}
use Rattle.tmc_world.proofs.world.World.+step.Given as goal

abbrev pub decreases-step : goal.decreases-step
decreases-step l = length l.events.now
