use Rattle.tmc_law.proofs.Arrivals.{submit_comes, unlink_comes}
use Rattle.tmc_law.proofs.laws.what_is_spelled_may_come.Goals as goal

pub returns-clause-submit : goal.returns-clause-submit
returns-clause-submit c = submit_comes

pub returns-clause-unlink : goal.returns-clause-unlink
returns-clause-unlink c = unlink_comes
