use Rattle.host_hub.proofs.Stepping.{asked_works}
use Rattle.host_hub.proofs.steps.a_ticket_is_asked.Goals as goal

pub returns : goal.returns
returns c = asked_works
