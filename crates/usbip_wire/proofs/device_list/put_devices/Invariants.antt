use Rattle.std.proofs.Common.{◌≡◌, ◌+◌, ◌*◌, ◌++◌, length, drop}
use Rattle.usbip_wire.specs.DevList.{interfaces_of, devices_bytes}
use Rattle.usbip_wire.proofs.device_list.put_devices.Given as goal

abbrev pub invariant-loop-device : goal.invariant-loop-device
invariant-loop-device l = record {
  items : l.out.items ++ devices_bytes (drop l.device-index l.devices) l.left ≡ l.fn.out.items ++ devices_bytes l.devices l.interfaces;
  each : interfaces_of (drop l.device-index l.devices) ≡ length l.left;
  spare : l.out.spare + (312 * l.device-index + 4 * length l.interfaces) ≡ l.fn.out.spare + 4 * length l.left;
}
