use Rattle.tmc_law.proofs.WorkedOverflow.{overflows}
use Rattle.tmc_law.proofs.worked.a_response_overflows.Goals as goal

pub returns : goal.returns
returns c = overflows
