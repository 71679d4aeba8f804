use Rattle.tmc_law.proofs.PacketLayouts.{packets}
use Rattle.tmc_law.proofs.layouts.packets_are_laid_out.Goals as goal

pub returns : goal.returns
returns c = packets
