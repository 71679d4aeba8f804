use Rattle.tmc_world.proofs.RestLess.{moves_less, none_goes_on}
use Rattle.tmc_world.proofs.resting.worlds_come_to_rest.Goals as goal

pub returns-clause-less : goal.returns-clause-less
returns-clause-less c = moves_less c.calm_moves_end.ensures c.numbers_fit.ensures

pub returns-clause-ends : goal.returns-clause-ends
returns-clause-ends c = none_goes_on c.calm_moves_end.ensures c.numbers_fit.ensures
