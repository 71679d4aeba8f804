use Rattle.tmc_world.proofs.Showing.{polls_told}
use Rattle.tmc_world.proofs.loop_link.LoopLinkLink.poll.Goals as goal

pub returns-clause-told : goal.returns-clause-told
returns-clause-told c = polls_told _ _ _ _ _ c.poll_on-step.ensures.goes c.tells.ensures
