use Rattle.host_hub.proofs.WorkedStatus.{status_kept}
use Rattle.host_hub.proofs.worked.a_status_is_read.Goals as goal

pub returns-clause-kept : goal.returns-clause-kept
returns-clause-kept c = status_kept
