use Rattle.host_hub.proofs.Tickets.{live_low, settled_low}
use Rattle.host_hub.proofs.laws.tickets_are_numbered.Goals as goal

pub returns-clause-live : goal.returns-clause-live
returns-clause-live c = live_low

pub returns-clause-settled : goal.returns-clause-settled
returns-clause-settled c = settled_low
