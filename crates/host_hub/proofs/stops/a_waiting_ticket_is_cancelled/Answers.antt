use Rattle.host_hub.proofs.Cancelling.{waiting_cancelled}
use Rattle.host_hub.proofs.stops.a_waiting_ticket_is_cancelled.Goals as goal

pub returns : goal.returns
returns c = waiting_cancelled
