use Rattle.std.proofs.Common.{◌≡◌, ℕ, ◌+◌, ◌++◌, [], List, take}
use Rattle.usbip_wire.specs.declared.down.DownPhase.TheVariants.{Ops}
use Rattle.host_urbs.specs.Attach.{At, Importing, Path, Undecided}
use Rattle.host_urbs.specs.Attaching.{holding}
use Rattle.host_urbs.proofs.replies.take_import.Given as goal

abbrev pub invariant-bytes : goal.invariant-bytes
invariant-bytes g l = record {
  path : (turns : ℕ) (busid : List ℕ) (s : At) → s.stage ≡ Importing → s.unsent ≡ [] → s.rest ≡ [] → s.calls + l.fn.left ≡ turns
      → (t : At) × Path g.L.Link.told g.L.Link.counts g.L.Link.sends g.L.Link.polls busid s l.fn.link t l.link × (t.calls + l.left ≡ turns)
      × (t ≡ record s { rest = l.reader.rest; taken = s.taken ++ l.reader.rest; calls = t.calls });
  reader : l.reader ≡ holding (Ops 0 0) l.reader.rest;
  front : l.front ≡ take 4 l.reader.rest;
  undecided : Undecided Importing l.reader.rest;
}

abbrev pub decreases-bytes : goal.decreases-bytes
decreases-bytes g l = l.left
