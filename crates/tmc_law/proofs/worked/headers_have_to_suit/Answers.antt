use Rattle.tmc_law.proofs.WorkedUnsuited.{sends_nothing, sends_inside, triggers_inside, sends_while_owed, sends_too_much}
use Rattle.tmc_law.proofs.worked.headers_have_to_suit.Goals as goal

pub returns-clause-nothing : goal.returns-clause-nothing
returns-clause-nothing c = sends_nothing

pub returns-clause-inside : goal.returns-clause-inside
returns-clause-inside c = sends_inside

pub returns-clause-trigger : goal.returns-clause-trigger
returns-clause-trigger c = triggers_inside

pub returns-clause-owed : goal.returns-clause-owed
returns-clause-owed c = sends_while_owed

pub returns-clause-long : goal.returns-clause-long
returns-clause-long c = sends_too_much
