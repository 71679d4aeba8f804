use Rattle.tmc_law.proofs.Rising as rising
use Rattle.tmc_law.proofs.numbers.numbers_rise.Goals as goal

pub returns-clause-rise : goal.returns-clause-rise
returns-clause-rise c = rising.numbers_rise

pub returns-clause-below : goal.returns-clause-below
returns-clause-below c = rising.numbers_below

pub returns-clause-run : goal.returns-clause-run
returns-clause-run c = rising.numbers_run
