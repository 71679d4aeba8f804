use Rattle.host_hub.proofs.Sound.{traffic}
use Rattle.host_hub.proofs.facts.traffic_is_planned.Goals as goal

pub returns : goal.returns
returns c = traffic
