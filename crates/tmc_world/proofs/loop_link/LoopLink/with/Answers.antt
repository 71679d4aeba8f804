use Rattle.tmc_world.proofs.Moving.{telling_begun}
use Rattle.tmc_world.proofs.loop_link.LoopLink.with.Goals as goal

pub invariant_of-result : goal.invariant_of-result
invariant_of-result c = telling_begun _ _ _ c.new-2.ensures c.in_ok-new.ensures
