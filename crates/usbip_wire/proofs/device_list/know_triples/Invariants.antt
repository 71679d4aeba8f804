use Rattle.std.proofs.Common.{drop}
use Rattle.usbip_wire.specs.DevList.{AreTriples}
use Rattle.usbip_wire.proofs.device_list.know_triples.Given as goal

abbrev pub invariant-loop-interface : goal.invariant-loop-interface
invariant-loop-interface l = AreTriples (drop l.interface-index l.interfaces) → AreTriples l.interfaces
