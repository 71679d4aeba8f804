use Rattle.host_hub.proofs.Sound.{caused}
use Rattle.host_hub.proofs.facts.each_outcome_has_its_cause.Goals as goal

pub returns : goal.returns
returns c = caused
