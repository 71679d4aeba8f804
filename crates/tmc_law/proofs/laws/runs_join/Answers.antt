use Rattle.tmc_law.proofs.Joined.{apart, together, told_apart, told_together, taken_apart, taken_together, inputs_together, outputs_together}
use Rattle.tmc_law.proofs.laws.runs_join.Goals as goal

pub returns-clause-apart : goal.returns-clause-apart
returns-clause-apart c = apart

pub returns-clause-together : goal.returns-clause-together
returns-clause-together c = together

pub returns-clause-told_apart : goal.returns-clause-told_apart
returns-clause-told_apart c = told_apart

pub returns-clause-told_together : goal.returns-clause-told_together
returns-clause-told_together c = told_together

pub returns-clause-taken_apart : goal.returns-clause-taken_apart
returns-clause-taken_apart c = taken_apart

pub returns-clause-taken_together : goal.returns-clause-taken_together
returns-clause-taken_together c = taken_together

pub returns-clause-inputs : goal.returns-clause-inputs
returns-clause-inputs c = inputs_together

pub returns-clause-outputs : goal.returns-clause-outputs
returns-clause-outputs c = outputs_together
