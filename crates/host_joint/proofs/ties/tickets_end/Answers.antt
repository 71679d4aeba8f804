use Rattle.host_joint.proofs.Ending.{tell_over, pieces_over, accepted}
use Rattle.host_joint.proofs.ties.tickets_end.Goals as goal

pub returns-clause-told : goal.returns-clause-told
returns-clause-told c = tell_over

pub returns-clause-accepted : goal.returns-clause-accepted
returns-clause-accepted c = accepted

pub returns-clause-read : goal.returns-clause-read
returns-clause-read c = pieces_over
