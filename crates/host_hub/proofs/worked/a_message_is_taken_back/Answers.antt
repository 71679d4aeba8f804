use Rattle.host_hub.proofs.WorkedStops.{aborted_kept}
use Rattle.host_hub.proofs.worked.a_message_is_taken_back.Goals as goal

pub returns-clause-kept : goal.returns-clause-kept
returns-clause-kept c = aborted_kept
