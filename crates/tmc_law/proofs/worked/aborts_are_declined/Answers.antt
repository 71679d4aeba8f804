use Rattle.tmc_law.specs.State.{start}
use Rattle.tmc_law.specs.WorkedRead.{reading}
use Rattle.tmc_law.specs.WorkedDeclinedIn.{declining_in}
use Rattle.tmc_law.proofs.WorkedJoined.{joined}
use Rattle.tmc_law.proofs.WorkedRead.{half, reads_half}
use Rattle.tmc_law.proofs.WorkedAbortIn.{done}
use Rattle.tmc_law.proofs.WorkedDeclined.{declines}
use Rattle.tmc_law.proofs.WorkedDeclinedIn.{declines_in}
use Rattle.tmc_law.proofs.worked.aborts_are_declined.Goals as goal

pub returns-clause-bulk_out : goal.returns-clause-bulk_out
returns-clause-bulk_out c = declines

pub returns-clause-bulk_in : goal.returns-clause-bulk_in
returns-clause-bulk_in c = joined reading declining_in start half done reads_half declines_in
