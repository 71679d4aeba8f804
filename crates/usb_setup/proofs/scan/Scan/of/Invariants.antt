use Rattle.std.proofs.Common.{length}
use Rattle.usb_setup.specs.Scan.{HasScannedTo}
use Rattle.usb_setup.proofs.scan.Scan.of.Given as goal

abbrev pub invariant-loop-rest : goal.invariant-loop-rest
invariant-loop-rest l = HasScannedTo l.bytes l.rest l.scan

abbrev pub decreases-loop-rest : goal.decreases-loop-rest
decreases-loop-rest l = length l.rest
