use Rattle.host_hub.proofs.WorkedAsks.{query_kept}
use Rattle.host_hub.proofs.worked.a_query_is_answered.Goals as goal

pub returns-clause-kept : goal.returns-clause-kept
returns-clause-kept c = query_kept
