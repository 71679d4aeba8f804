use Rattle.host_joint.proofs.Recovering.{request_written, request_answered, drain_written, drain_answered}
use Rattle.host_joint.proofs.bonds.recoveries_go_on.Goals as goal

pub returns-clause-writes : goal.returns-clause-writes
returns-clause-writes c = request_written

pub returns-clause-answer : goal.returns-clause-answer
returns-clause-answer c = request_answered

pub returns-clause-drains : goal.returns-clause-drains
returns-clause-drains c = drain_written

pub returns-clause-drained : goal.returns-clause-drained
returns-clause-drained c = drain_answered
