use Rattle.std.proofs.Common.{◌≡◌, ◌≤◌, length, take}
use Rattle.usbip_wire.specs.Awaited.{entries_of}
use Rattle.host_urbs.specs.Entries.{sent}
use Rattle.host_urbs.proofs.entries.Entries.sent.Given as goal

abbrev pub invariant-loop-entry : goal.invariant-loop-entry
invariant-loop-entry l = record {
  read_by : l.dirs ≡ entries_of (sent (take l.entry-index l.fn.self));
  few : length l.dirs ≤ l.entry-index;
}
