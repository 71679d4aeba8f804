use Rattle.host_hub.proofs.Sound.{unlinked}
use Rattle.host_hub.proofs.facts.unlinks_are_due.Goals as goal

pub returns : goal.returns
returns c = unlinked
