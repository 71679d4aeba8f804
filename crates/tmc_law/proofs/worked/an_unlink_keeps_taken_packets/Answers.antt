use Rattle.tmc_law.proofs.WorkedUnlink.{unlinks_out}
use Rattle.tmc_law.proofs.worked.an_unlink_keeps_taken_packets.Goals as goal

pub returns : goal.returns
returns c = unlinks_out
