use Rattle.host_hub.proofs.WorkedStops.{race_kept}
use Rattle.host_hub.proofs.worked.a_completion_outruns_an_unlink.Goals as goal

pub returns-clause-kept : goal.returns-clause-kept
returns-clause-kept c = race_kept
