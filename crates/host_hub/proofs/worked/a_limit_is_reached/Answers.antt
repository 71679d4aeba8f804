use Rattle.host_hub.proofs.WorkedAsks.{next_kept}
use Rattle.host_hub.proofs.worked.a_limit_is_reached.Goals as goal

pub returns-clause-kept : goal.returns-clause-kept
returns-clause-kept c = next_kept
