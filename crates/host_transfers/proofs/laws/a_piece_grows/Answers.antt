use Rattle.host_transfers.proofs.Grows.{grows}
use Rattle.host_transfers.proofs.laws.a_piece_grows.Goals as goal

pub returns : goal.returns
returns c = grows
