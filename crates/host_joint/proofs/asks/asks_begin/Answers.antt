use Rattle.host_joint.proofs.Starting.{starts}
use Rattle.host_joint.proofs.asks.asks_begin.Goals as goal

pub returns : goal.returns
returns c = starts
