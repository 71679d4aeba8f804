use Rattle.tmc_law.proofs.Refused.{took_first}
use Rattle.tmc_law.proofs.Telling.{untold, told, fits, fits_told}
use Rattle.tmc_law.proofs.laws.told_runs_are_lawful.Goals as goal

pub returns-clause-runs : goal.returns-clause-runs
returns-clause-runs c = untold

pub returns-clause-tells : goal.returns-clause-tells
returns-clause-tells c = told

pub returns-clause-took : goal.returns-clause-took
returns-clause-took c = λ devid. took_first devid (c.urbs_are_determined.ensures.free devid)

pub returns-clause-fits : goal.returns-clause-fits
returns-clause-fits c = fits

pub returns-clause-fits_told : goal.returns-clause-fits_told
returns-clause-fits_told c = fits_told
