use Rattle.host_hub.proofs.Stopping.{stops_works}
use Rattle.host_hub.proofs.stops.a_stopped_ticket_settles.Goals as goal

pub returns : goal.returns
returns c = stops_works
