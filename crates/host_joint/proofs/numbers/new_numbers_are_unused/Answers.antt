use Rattle.host_joint.proofs.Numbered.{begins_new}
use Rattle.host_joint.proofs.numbers.new_numbers_are_unused.Goals as goal

pub returns : goal.returns
returns c = begins_new
