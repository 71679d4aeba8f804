use Rattle.host_hub.proofs.Stopping.{cancel_kept, clear_kept}
use Rattle.host_hub.proofs.stops.an_active_ticket_is_stopped.Goals as goal

pub returns-clause-cancelled : goal.returns-clause-cancelled
returns-clause-cancelled c = cancel_kept

pub returns-clause-cleared : goal.returns-clause-cleared
returns-clause-cleared c = clear_kept
