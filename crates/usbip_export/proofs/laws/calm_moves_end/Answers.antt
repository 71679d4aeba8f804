use Rattle.usbip_export.proofs.Driven.{drives_less}
use Rattle.usbip_export.proofs.laws.calm_moves_end.Goals as goal

pub returns : goal.returns
returns c = drives_less c.packets_are_of_transfers.ensures.takes c.packets_are_of_transfers.ensures.fills
