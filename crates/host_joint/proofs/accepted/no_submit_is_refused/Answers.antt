use Rattle.host_joint.proofs.Accepting.{never_over}
use Rattle.host_joint.proofs.accepted.no_submit_is_refused.Goals as goal

pub returns : goal.returns
returns c = never_over
