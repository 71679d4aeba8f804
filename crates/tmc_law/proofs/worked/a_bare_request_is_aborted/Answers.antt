use Rattle.tmc_law.proofs.WorkedBare.{requests_nothing}
use Rattle.tmc_law.proofs.worked.a_bare_request_is_aborted.Goals as goal

pub returns : goal.returns
returns c = requests_nothing
