use Rattle.tmc_law.proofs.WorkedStatus.{reads_statuses}
use Rattle.tmc_law.proofs.worked.statuses_may_fail.Goals as goal

pub returns : goal.returns
returns c = reads_statuses
