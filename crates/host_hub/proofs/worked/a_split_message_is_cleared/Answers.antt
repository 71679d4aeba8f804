use Rattle.host_hub.proofs.WorkedStops.{split_kept}
use Rattle.host_hub.proofs.worked.a_split_message_is_cleared.Goals as goal

pub returns-clause-kept : goal.returns-clause-kept
returns-clause-kept c = split_kept
