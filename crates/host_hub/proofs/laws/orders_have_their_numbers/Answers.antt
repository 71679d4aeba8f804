use Rattle.host_hub.proofs.Orders.{numbered}
use Rattle.host_hub.proofs.laws.orders_have_their_numbers.Goals as goal

pub returns : goal.returns
returns c = numbered
