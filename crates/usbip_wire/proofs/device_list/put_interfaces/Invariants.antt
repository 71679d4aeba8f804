use Rattle.std.proofs.Common.{◌≡◌, ◌+◌, ◌*◌, ◌++◌, drop}
use Rattle.usbip_wire.specs.DevList.{interfaces_bytes}
use Rattle.usbip_wire.proofs.device_list.put_interfaces.Given as goal

abbrev pub invariant-loop-interface : goal.invariant-loop-interface
invariant-loop-interface l = record {
  items : l.out.items ++ interfaces_bytes (drop l.interface-index l.interfaces) ≡ l.fn.out.items ++ interfaces_bytes l.interfaces;
  spare : l.out.spare + 4 * l.interface-index ≡ l.fn.out.spare;
}
