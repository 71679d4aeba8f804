use Rattle.host_hub.proofs.WorkedAsks.{halted_kept}
use Rattle.host_hub.proofs.worked.an_endpoint_halts.Goals as goal

pub returns-clause-kept : goal.returns-clause-kept
returns-clause-kept c = halted_kept
