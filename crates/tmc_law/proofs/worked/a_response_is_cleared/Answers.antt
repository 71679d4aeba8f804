use Rattle.tmc_law.specs.State.{start}
use Rattle.tmc_law.specs.WorkedRead.{reading}
use Rattle.tmc_law.specs.WorkedClear.{clearing}
use Rattle.tmc_law.proofs.WorkedJoined.{joined}
use Rattle.tmc_law.proofs.WorkedRead.{half, reads_half}
use Rattle.tmc_law.proofs.WorkedClear.{done, clears_all}
use Rattle.tmc_law.proofs.worked.a_response_is_cleared.Goals as goal

pub returns : goal.returns
returns c = joined reading clearing start half done reads_half clears_all
