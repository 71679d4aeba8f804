use Rattle.tmc_law.specs.State.{start}
use Rattle.tmc_law.specs.WorkedRead.{reading}
use Rattle.tmc_law.specs.WorkedHalt.{halting}
use Rattle.tmc_law.proofs.WorkedJoined.{joined}
use Rattle.tmc_law.proofs.WorkedRead.{half, reads_half}
use Rattle.tmc_law.proofs.WorkedHalt.{done, halts_in}
use Rattle.tmc_law.proofs.worked.a_halt_drops_a_response.Goals as goal

pub returns : goal.returns
returns c = joined reading halting start half done reads_half halts_in
