use Rattle.tmc_law.specs.State.{start}
use Rattle.tmc_law.specs.WorkedRead.{reading}
use Rattle.tmc_law.specs.WorkedAbortIn.{aborting_in}
use Rattle.tmc_law.proofs.WorkedJoined.{joined}
use Rattle.tmc_law.proofs.WorkedRead.{half, reads_half}
use Rattle.tmc_law.proofs.WorkedAbortIn.{done, aborts_in}
use Rattle.tmc_law.proofs.worked.a_response_is_aborted.Goals as goal

pub returns : goal.returns
returns c = joined reading aborting_in start half done reads_half aborts_in
