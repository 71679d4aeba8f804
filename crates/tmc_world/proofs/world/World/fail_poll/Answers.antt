use Rattle.tmc_world.proofs.RestStands.{stands_fail_poll}
use Rattle.tmc_world.proofs.world.World.fail_poll.Goals as goal

pub invariant_of-self : goal.invariant_of-self
invariant_of-self c =
    let h = c.self.invariant in
    stands_fail_poll c.self.inside.hub c.tend.new.self c.tend.result h c.tend.ensures.tends c.tend.ensures.core c.tend.ensures.behind
