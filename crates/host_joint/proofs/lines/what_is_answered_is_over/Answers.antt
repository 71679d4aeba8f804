use Rattle.host_joint.proofs.Flows.{all_answered}
use Rattle.host_joint.proofs.lines.what_is_answered_is_over.Goals as goal

pub returns : goal.returns
returns c = all_answered
