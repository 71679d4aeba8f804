use Rattle.host_hub.proofs.Failing.{failed_kept}
use Rattle.host_hub.proofs.Endings.{fell_kept, stopped_kept, gave_up_kept}
use Rattle.host_hub.proofs.steps.a_hub_ends.Goals as goal

pub returns-clause-fell : goal.returns-clause-fell
returns-clause-fell c = fell_kept

pub returns-clause-stopped : goal.returns-clause-stopped
returns-clause-stopped c = stopped_kept

pub returns-clause-given_up : goal.returns-clause-given_up
returns-clause-given_up c = gave_up_kept

pub returns-clause-failed : goal.returns-clause-failed
returns-clause-failed c = failed_kept
