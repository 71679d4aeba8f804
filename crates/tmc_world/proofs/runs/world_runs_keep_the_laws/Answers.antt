use Rattle.tmc_world.proofs.Calming.{told_calmly}
use Rattle.tmc_world.proofs.Keeping.{through_kept, through_more}
use Rattle.tmc_world.proofs.runs.world_runs_keep_the_laws.Goals as goal

pub returns-clause-kept : goal.returns-clause-kept
returns-clause-kept c = through_kept

pub returns-clause-more : goal.returns-clause-more
returns-clause-more c = through_more

pub returns-clause-calm : goal.returns-clause-calm
returns-clause-calm c = told_calmly
