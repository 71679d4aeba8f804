use Rattle.tmc_law.proofs.WorkedControl.{asks_control, asks_part}
use Rattle.tmc_law.proofs.worked.control_requests_are_answered.Goals as goal

pub returns-clause-standard : goal.returns-clause-standard
returns-clause-standard c = asks_control

pub returns-clause-class : goal.returns-clause-class
returns-clause-class c = asks_part
