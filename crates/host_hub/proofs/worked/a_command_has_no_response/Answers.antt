use Rattle.host_hub.proofs.WorkedStops.{unanswered_kept}
use Rattle.host_hub.proofs.worked.a_command_has_no_response.Goals as goal

pub returns-clause-kept : goal.returns-clause-kept
returns-clause-kept c = unanswered_kept
