-- the layouts of PENDING
use Rattle.std.specs.Prelude.{ℕ, List}
use Rattle.tmc_device.specs.declared.postpone.Check.{Check}
use Rattle.tmc_device.specs.declared.postpone.Check.TheVariants.{Abort, Clear}

abbrev pub layout_of : Check → List ℕ
layout_of (Abort layout) = layout
layout_of (Clear layout) = layout
