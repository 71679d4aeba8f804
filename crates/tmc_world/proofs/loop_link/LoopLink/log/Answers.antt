use Rattle.tmc_world.proofs.Showing.{telling_told}
use Rattle.tmc_world.proofs.loop_link.LoopLink.log.Goals as goal

pub returns-clause-told : goal.returns-clause-told
returns-clause-told c = rw (← c.self.view_is) (telling_told _ _ _ _ _ _ _ _ c.self.invariant)
