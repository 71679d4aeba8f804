use Rattle.host_transfers.proofs.Transfers.{data_is, eom_is}
use Rattle.host_transfers.proofs.laws.a_piece_is_its_transfer.Goals as goal

pub returns-clause-data : goal.returns-clause-data
returns-clause-data c = data_is

pub returns-clause-eom : goal.returns-clause-eom
returns-clause-eom c = eom_is
