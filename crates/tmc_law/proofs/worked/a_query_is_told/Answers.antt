use Rattle.tmc_law.proofs.WorkedTold.{tells_query, tells_at_once}
use Rattle.tmc_law.proofs.worked.a_query_is_told.Goals as goal

pub returns-clause-stepwise : goal.returns-clause-stepwise
returns-clause-stepwise c = tells_query

pub returns-clause-at_once : goal.returns-clause-at_once
returns-clause-at_once c = tells_at_once
