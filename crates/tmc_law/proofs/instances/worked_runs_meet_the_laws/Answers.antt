use Rattle.tmc_law.proofs.WorkedLaws.{query_waits, transfer_begun, response_owed, bulk_in_halts, query_numbers}
use Rattle.tmc_law.proofs.instances.worked_runs_meet_the_laws.Goals as goal

pub returns-clause-waits : goal.returns-clause-waits
returns-clause-waits c = query_waits

pub returns-clause-begun : goal.returns-clause-begun
returns-clause-begun c = transfer_begun

pub returns-clause-busy : goal.returns-clause-busy
returns-clause-busy c = response_owed

pub returns-clause-halts : goal.returns-clause-halts
returns-clause-halts c = bulk_in_halts

pub returns-clause-numbers : goal.returns-clause-numbers
returns-clause-numbers c = query_numbers
