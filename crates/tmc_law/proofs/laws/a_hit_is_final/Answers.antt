use Rattle.tmc_law.proofs.Hit.{hit_is_final}
use Rattle.tmc_law.proofs.laws.a_hit_is_final.Goals as goal

pub returns : goal.returns
returns c = hit_is_final
