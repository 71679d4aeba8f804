use Rattle.host_hub.proofs.Tickets.{dead, stays}
use Rattle.host_hub.proofs.laws.a_settled_outcome_stays.Goals as goal

pub returns-clause-dead : goal.returns-clause-dead
returns-clause-dead c = dead

pub returns-clause-stays : goal.returns-clause-stays
returns-clause-stays c = stays
