use Rattle.tmc_law.proofs.PieceTransfers.{transfers, goes_on}
use Rattle.tmc_law.proofs.layouts.pieces_are_transfers.Goals as goal

pub returns-clause-begins : goal.returns-clause-begins
returns-clause-begins c = transfers

pub returns-clause-goes_on : goal.returns-clause-goes_on
returns-clause-goes_on c = goes_on
