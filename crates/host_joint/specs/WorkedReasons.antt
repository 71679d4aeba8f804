-- what the host of the halted piece knows of its endpoints
use Rattle.std.specs.Prelude.{Bool, true, false}
use Rattle.tmc_law.specs.Endpoint.{Endpoint, Control, BulkOut, BulkIn, InterruptIn}

-- Bulk-OUT is not halted
abbrev pub out_only : Endpoint → Bool
out_only Control = false
out_only BulkOut = true
out_only BulkIn = false
out_only InterruptIn = false
