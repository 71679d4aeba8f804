use Rattle.tmc_world.proofs.Unchanged.{leaves_world}
use Rattle.tmc_world.proofs.world.World.apply.Goals as goal

pub returns-clause-unchanged : goal.returns-clause-unchanged
returns-clause-unchanged c = λ first depth old b.
    leaves_world first depth c.args.event.now old c.happens.result c.happens.new.self.hub (c.happens.ensures first depth old b)
