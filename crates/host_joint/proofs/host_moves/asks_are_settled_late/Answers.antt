use Rattle.host_joint.proofs.Setting.{request_set, last_set, unlinks_over}
use Rattle.host_joint.proofs.host_moves.asks_are_settled_late.Goals as goal

pub returns-clause-request : goal.returns-clause-request
returns-clause-request c = request_set

pub returns-clause-last : goal.returns-clause-last
returns-clause-last c = last_set

pub returns-clause-reads : goal.returns-clause-reads
returns-clause-reads c = unlinks_over
