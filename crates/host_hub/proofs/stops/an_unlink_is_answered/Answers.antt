use Rattle.host_hub.proofs.Recovering.{unlink_answered}
use Rattle.host_hub.proofs.stops.an_unlink_is_answered.Goals as goal

pub returns : goal.returns
returns c = unlink_answered
