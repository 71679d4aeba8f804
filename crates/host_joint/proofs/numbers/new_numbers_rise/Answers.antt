use Rattle.host_joint.proofs.Numbered.{rises_written}
use Rattle.host_joint.proofs.numbers.new_numbers_rise.Goals as goal

pub returns : goal.returns
returns c = rises_written
