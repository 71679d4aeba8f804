use Rattle.host_urbs.proofs.Once.{one_answer, unanswered_yet}
use Rattle.host_urbs.proofs.laws.each_message_is_answered_once.Goals as goal

pub returns-clause-once : goal.returns-clause-once
returns-clause-once c = one_answer

pub returns-clause-not_yet : goal.returns-clause-not_yet
returns-clause-not_yet c = unanswered_yet
