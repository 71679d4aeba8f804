use Rattle.tmc_law.proofs.FewPackets.{few_packets}
use Rattle.tmc_law.proofs.reachable.few_packets_are_queued.Goals as goal

pub returns : goal.returns
returns c = few_packets
