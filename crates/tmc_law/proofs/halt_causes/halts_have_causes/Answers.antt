use Rattle.tmc_law.proofs.Flags.{flags, halted_by, usable_by}
use Rattle.tmc_law.proofs.halt_causes.halts_have_causes.Goals as goal

pub returns-clause-halts : goal.returns-clause-halts
returns-clause-halts c = λ s t move puts e step. halted_by s t move e (flags s t move puts step.leads)

pub returns-clause-ends : goal.returns-clause-ends
returns-clause-ends c = λ s t move puts e step. usable_by s t move e (flags s t move puts step.leads)
