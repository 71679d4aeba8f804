use Rattle.host_hub.proofs.Stepping.{wrote_works, written_kept}
use Rattle.host_hub.proofs.steps.a_submit_is_written.Goals as goal

pub returns-clause-works : goal.returns-clause-works
returns-clause-works c = wrote_works

pub returns-clause-waits : goal.returns-clause-waits
returns-clause-waits c = written_kept
