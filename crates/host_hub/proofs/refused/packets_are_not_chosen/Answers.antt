use Rattle.host_hub.proofs.WorkedWrong.{not_stale}
use Rattle.host_hub.proofs.refused.packets_are_not_chosen.Goals as goal

pub returns-clause-outcome : goal.returns-clause-outcome
returns-clause-outcome c = not_stale
