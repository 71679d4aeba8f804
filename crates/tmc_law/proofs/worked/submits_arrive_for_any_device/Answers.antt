use Rattle.tmc_law.proofs.WorkedArriving.{comes_to_none, comes_for_another}
use Rattle.tmc_law.proofs.worked.submits_arrive_for_any_device.Goals as goal

pub returns-clause-endpoint : goal.returns-clause-endpoint
returns-clause-endpoint c = comes_to_none

pub returns-clause-devid : goal.returns-clause-devid
returns-clause-devid c = comes_for_another
