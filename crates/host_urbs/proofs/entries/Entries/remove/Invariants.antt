use Rattle.std.proofs.Common.{◌≡◌, ◌≤◌, ◌++◌, length, drop}
use Rattle.host_urbs.specs.Entries.{others}
use Rattle.host_urbs.proofs.entries.Entries.remove.Given as goal

abbrev pub invariant-loop-entry : goal.invariant-loop-entry
invariant-loop-entry l = record {
  kept : l.kept ++ others l.seqnum (drop l.entry-index l.fn.self) ≡ others l.seqnum l.fn.self;
  few : length l.kept ≤ l.entry-index;
}
