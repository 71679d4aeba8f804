use Rattle.std.proofs.Common.{◌≡◌, drop}
use Rattle.usbip_wire.specs.Dirs.{find}
use Rattle.usbip_wire.proofs.dirs.Dirs.find.Given as goal

abbrev pub invariant-loop-entry : goal.invariant-loop-entry
invariant-loop-entry l = find l.seqnum (drop l.entry-index l.fn.self) ≡ find l.seqnum l.fn.self
