use Rattle.tmc_law.specs.State.{start}
use Rattle.tmc_law.specs.WorkedStatus.{status_asked, answer_first, packet_first}
use Rattle.tmc_law.proofs.WorkedJoined.{joined}
use Rattle.tmc_law.proofs.WorkedStatus.{status_came, done, asks, answers_then_notifies, notifies_then_answers}
use Rattle.tmc_law.proofs.worked.a_status_comes_before_or_behind.Goals as goal

pub returns-clause-behind : goal.returns-clause-behind
returns-clause-behind c = joined status_asked answer_first start status_came done asks answers_then_notifies

pub returns-clause-before : goal.returns-clause-before
returns-clause-before c = joined status_asked packet_first start status_came done asks notifies_then_answers
