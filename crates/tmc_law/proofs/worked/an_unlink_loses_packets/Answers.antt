use Rattle.tmc_law.specs.State.{start}
use Rattle.tmc_law.specs.WorkedRead.{reading, read_log}
use Rattle.tmc_law.specs.WorkedUnlink.{unlinking}
use Rattle.tmc_law.proofs.WorkedJoined.{joined}
use Rattle.tmc_law.proofs.WorkedRead.{half, reads_half}
use Rattle.tmc_law.proofs.WorkedUnlink.{unlinks}
use Rattle.tmc_law.proofs.worked.an_unlink_loses_packets.Goals as goal

pub returns : goal.returns
returns c = joined reading unlinking start half (record start { log = read_log }) reads_half unlinks
