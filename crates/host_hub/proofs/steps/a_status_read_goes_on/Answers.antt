use Rattle.host_hub.proofs.Stepping.{status_planned, packet_works, packet_settles}
use Rattle.host_hub.proofs.steps.a_status_read_goes_on.Goals as goal

pub returns-clause-due : goal.returns-clause-due
returns-clause-due c = status_planned

pub returns-clause-goes_on : goal.returns-clause-goes_on
returns-clause-goes_on c = packet_works

pub returns-clause-settles : goal.returns-clause-settles
returns-clause-settles c = packet_settles
