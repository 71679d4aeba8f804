use Rattle.host_hub.proofs.Entries.{submit_answer, unlink_answer, answers_submit, answers_unlink}
use Rattle.host_hub.proofs.laws.answers_may_come.Goals as goal

pub returns-clause-submit : goal.returns-clause-submit
returns-clause-submit c = submit_answer

pub returns-clause-unlink : goal.returns-clause-unlink
returns-clause-unlink c = unlink_answer

pub returns-clause-to_submit : goal.returns-clause-to_submit
returns-clause-to_submit c = answers_submit

pub returns-clause-to_unlink : goal.returns-clause-to_unlink
returns-clause-to_unlink c = answers_unlink
