use Rattle.tmc_law.proofs.Adding.{adds}
use Rattle.tmc_law.proofs.steps.a_step_logs_at_most_once.Goals as goal

pub returns : goal.returns
returns c s t move puts step = adds s t move puts step.leads
