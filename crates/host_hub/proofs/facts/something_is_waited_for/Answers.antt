use Rattle.host_hub.proofs.Sound.{waiting}
use Rattle.host_hub.proofs.facts.something_is_waited_for.Goals as goal

pub returns : goal.returns
returns c = waiting
