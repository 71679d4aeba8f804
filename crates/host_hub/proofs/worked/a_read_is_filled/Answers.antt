use Rattle.host_hub.proofs.WorkedAsks.{full_kept}
use Rattle.host_hub.proofs.worked.a_read_is_filled.Goals as goal

pub returns-clause-kept : goal.returns-clause-kept
returns-clause-kept c = full_kept
