use Rattle.tmc_law.proofs.Refused.{plugged_open, ends, closes}
use Rattle.tmc_law.proofs.laws.a_closed_run_ends_with_refused_bytes.Goals as goal

pub returns-clause-ends : goal.returns-clause-ends
returns-clause-ends c = λ devid run s t bytes f plugged. ends devid run s t bytes f (plugged_open s plugged)

pub returns-clause-closes : goal.returns-clause-closes
returns-clause-closes c = closes
