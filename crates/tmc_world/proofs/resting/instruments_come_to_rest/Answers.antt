use Rattle.tmc_world.proofs.Bounded.{acts_less, calms_bounded}
use Rattle.tmc_world.proofs.resting.instruments_come_to_rest.Goals as goal

pub returns-clause-less : goal.returns-clause-less
returns-clause-less c = acts_less c.calm_moves_end.ensures

pub returns-clause-bounded : goal.returns-clause-bounded
returns-clause-bounded c = calms_bounded c.calm_moves_end.ensures
