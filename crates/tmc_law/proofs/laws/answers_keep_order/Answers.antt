use Rattle.tmc_law.proofs.Order.{keep_order}
use Rattle.tmc_law.proofs.laws.answers_keep_order.Goals as goal

pub returns : goal.returns
returns c = keep_order
