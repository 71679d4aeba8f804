use Rattle.tmc_law.proofs.WorkedRefused.{no_more_come, refuses_more}
use Rattle.tmc_law.proofs.worked.no_more_come_than_may_be_pending.Goals as goal

pub returns-clause-none : goal.returns-clause-none
returns-clause-none c = no_more_come

pub returns-clause-refused : goal.returns-clause-refused
returns-clause-refused c = refuses_more
