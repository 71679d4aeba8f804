use Rattle.tmc_law.specs.State.{start}
use Rattle.tmc_law.specs.WorkedRead.{reading}
use Rattle.tmc_law.specs.WorkedAbortIn.{checking_in}
use Rattle.tmc_law.proofs.WorkedJoined.{joined}
use Rattle.tmc_law.proofs.WorkedRead.{half, reads_half}
use Rattle.tmc_law.proofs.WorkedChecks.{checks}
use Rattle.tmc_law.proofs.WorkedAbortIn.{done, checks_in}
use Rattle.tmc_law.proofs.worked.checks_may_be_pending.Goals as goal

pub returns-clause-clear : goal.returns-clause-clear
returns-clause-clear c = checks

pub returns-clause-bulk_in : goal.returns-clause-bulk_in
returns-clause-bulk_in c = joined reading checking_in start half done reads_half checks_in
