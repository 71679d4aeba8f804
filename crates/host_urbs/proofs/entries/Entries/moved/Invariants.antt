use Rattle.std.proofs.Common.{◌≡◌, ◌≤◌, ◌++◌, length, drop}
use Rattle.host_urbs.specs.Entries.{moved}
use Rattle.host_urbs.proofs.entries.Entries.moved.Given as goal

abbrev pub invariant-loop-entry : goal.invariant-loop-entry
invariant-loop-entry l = record {
  kept : l.moved ++ moved l.n (drop l.entry-index l.fn.self) ≡ moved l.n l.fn.self;
  few : length l.moved ≤ l.entry-index;
}
