use Rattle.tmc_law.proofs.Orders.{in_order}
use Rattle.tmc_law.proofs.reachable.transfers_are_in_order.Goals as goal

pub returns : goal.returns
returns c = in_order
