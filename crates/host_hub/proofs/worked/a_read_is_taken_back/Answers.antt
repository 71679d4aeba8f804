use Rattle.host_hub.proofs.WorkedStops.{cancel_record_kept}
use Rattle.host_hub.proofs.worked.a_read_is_taken_back.Goals as goal

pub returns-clause-kept : goal.returns-clause-kept
returns-clause-kept c = cancel_record_kept
