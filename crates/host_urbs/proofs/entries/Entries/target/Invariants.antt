use Rattle.std.proofs.Common.{◌≡◌, drop}
use Rattle.host_urbs.specs.Entries.{target_of}
use Rattle.host_urbs.proofs.entries.Entries.target.Given as goal

abbrev pub invariant-loop-entry : goal.invariant-loop-entry
invariant-loop-entry l = target_of l.seqnum (drop l.entry-index l.fn.self) ≡ target_of l.seqnum l.fn.self
