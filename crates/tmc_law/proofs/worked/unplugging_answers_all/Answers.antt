use Rattle.tmc_law.proofs.WorkedUnplug.{unplugs}
use Rattle.tmc_law.proofs.worked.unplugging_answers_all.Goals as goal

pub returns : goal.returns
returns c = unplugs
