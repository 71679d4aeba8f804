use Rattle.tmc_law.proofs.WorkedTrigger.{triggers}
use Rattle.tmc_law.proofs.worked.a_trigger_is_counted.Goals as goal

pub returns : goal.returns
returns c = triggers
