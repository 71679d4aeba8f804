use Rattle.host_hub.proofs.WorkedAsks.{dropped_kept}
use Rattle.host_hub.proofs.worked.a_ticket_is_dropped.Goals as goal

pub returns-clause-kept : goal.returns-clause-kept
returns-clause-kept c = dropped_kept
