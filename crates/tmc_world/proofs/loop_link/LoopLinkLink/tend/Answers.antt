use Rattle.tmc_world.proofs.Showing.{tends_told}
use Rattle.tmc_world.proofs.loop_link.LoopLinkLink.tend.Goals as goal

pub returns-clause-told : goal.returns-clause-told
returns-clause-told c = tends_told _ _ _ _ c.tend_on-step.ensures.goes c.tells.ensures
