use Rattle.tmc_law.proofs.DescriptorEnds.{finds}
use Rattle.tmc_law.proofs.layouts.the_ends_are_the_descriptors.Goals as goal

pub returns : goal.returns
returns c = finds
