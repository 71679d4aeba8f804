use Rattle.tmc_law.proofs.Sound.{does, sound}
use Rattle.tmc_law.proofs.steps.steps_act.Goals as goal

pub returns : goal.returns
returns c run s t move puts reached step = does s move puts t (sound run s reached) step
