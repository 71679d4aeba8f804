use Rattle.host_hub.proofs.WorkedAsks.{unplugged_kept}
use Rattle.host_hub.proofs.worked.a_device_is_unplugged.Goals as goal

pub returns-clause-kept : goal.returns-clause-kept
returns-clause-kept c = unplugged_kept
