use Rattle.host_joint.proofs.Tying.{one_message, one_ran}
use Rattle.host_joint.proofs.numbers.what_ran_is_one.Goals as goal

pub returns-clause-message : goal.returns-clause-message
returns-clause-message c = one_message

pub returns-clause-response : goal.returns-clause-response
returns-clause-response c = one_ran c.one_response.ensures
