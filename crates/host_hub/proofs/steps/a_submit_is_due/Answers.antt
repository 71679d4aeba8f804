use Rattle.host_hub.proofs.Stepping.{begins_planned, goes_on_planned}
use Rattle.host_hub.proofs.steps.a_submit_is_due.Goals as goal

pub returns-clause-first : goal.returns-clause-first
returns-clause-first c = begins_planned

pub returns-clause-next : goal.returns-clause-next
returns-clause-next c = goes_on_planned
