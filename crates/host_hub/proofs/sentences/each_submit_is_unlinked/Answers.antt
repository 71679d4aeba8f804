use Rattle.host_hub.proofs.Exact.{cancelled_once, cleared_once, left_once}
use Rattle.host_hub.proofs.sentences.each_submit_is_unlinked.Goals as goal

pub returns-clause-cancelled : goal.returns-clause-cancelled
returns-clause-cancelled c = cancelled_once (record { once = c.each_submit_is_unlinked_once.ensures.once; one = c.each_submit_is_unlinked_once.ensures.one })

pub returns-clause-cleared : goal.returns-clause-cleared
returns-clause-cleared c = cleared_once (record { once = c.each_submit_is_unlinked_once.ensures.once; one = c.each_submit_is_unlinked_once.ensures.one })

pub returns-clause-left : goal.returns-clause-left
returns-clause-left c = left_once (record { once = c.each_submit_is_unlinked_once.ensures.once; one = c.each_submit_is_unlinked_once.ensures.one })
