use Rattle.tmc_law.proofs.Taking.{submits_come, unlinks_come}
use Rattle.tmc_law.proofs.reachable.what_arrives_can_be_taken.Goals as goal

pub returns-clause-submits : goal.returns-clause-submits
returns-clause-submits c = submits_come

pub returns-clause-unlinks : goal.returns-clause-unlinks
returns-clause-unlinks c = unlinks_come
