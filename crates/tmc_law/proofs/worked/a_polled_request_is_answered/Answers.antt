use Rattle.tmc_law.specs.State.{start}
use Rattle.tmc_law.specs.WorkedStatus.{status_asked, unlink_behind_poll}
use Rattle.tmc_law.proofs.WorkedJoined.{joined}
use Rattle.tmc_law.proofs.WorkedStatus.{status_came, done, asks, polls_then_unlinks}
use Rattle.tmc_law.proofs.worked.a_polled_request_is_answered.Goals as goal

pub returns : goal.returns
returns c = joined status_asked unlink_behind_poll start status_came done asks polls_then_unlinks
