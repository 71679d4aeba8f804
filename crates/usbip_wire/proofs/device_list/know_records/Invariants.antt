use Rattle.std.proofs.Common.{drop}
use Rattle.usbip_wire.specs.DevList.{AreRecords}
use Rattle.usbip_wire.proofs.device_list.know_records.Given as goal

abbrev pub invariant-loop-device : goal.invariant-loop-device
invariant-loop-device l = AreRecords (drop l.device-index l.devices) → AreRecords l.devices
