use Rattle.host_hub.proofs.Sound.{recovered}
use Rattle.host_hub.proofs.facts.recoveries_are_made.Goals as goal

pub returns : goal.returns
returns c = recovered
