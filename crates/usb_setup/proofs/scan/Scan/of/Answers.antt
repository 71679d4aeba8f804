use Rattle.usb_setup.proofs.Scanning.{scan_goes_on}
use Rattle.usb_setup.proofs.scan.Scan.of.Goals as goal

pub loop-rest-preserved : goal.loop-rest-preserved
loop-rest-preserved c =
    let split = c.in-Some.ensures in
    rw c.after-scan.ensures (scan_goes_on c.args.bytes.now c.loop-rest.rest.now c.in-Some.descriptor.now c.in-Some.behind.now c.loop-rest.scan c.loop-rest.invariant split.0 split.1)
