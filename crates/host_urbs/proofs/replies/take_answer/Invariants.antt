use Rattle.std.proofs.Common.{◌≡◌, ℕ, ◌+◌, ◌++◌, [], List}
use Rattle.usbip_wire.specs.declared.down.DownPhase.TheVariants.{Urbs}
use Rattle.host_urbs.specs.Attach.{At, Stage, phase_of, entries_at, Path, Undecided}
use Rattle.host_urbs.specs.Attaching.{holding}
use Rattle.host_urbs.proofs.replies.take_answer.Given as goal

abbrev pub invariant-bytes : goal.invariant-bytes
invariant-bytes g l = record {
  path : (turns : ℕ) (busid : List ℕ) (s : At) → phase_of s.stage ≡ Urbs → entries_at s.stage ≡ l.dirs → s.unsent ≡ [] → s.rest ≡ [] → s.calls + l.fn.left ≡ turns
      → (t : At) × Path g.L.Link.told g.L.Link.counts g.L.Link.sends g.L.Link.polls busid s l.fn.link t l.link × (t.calls + l.left ≡ turns)
      × (t ≡ record s { rest = l.reader.rest; taken = s.taken ++ l.reader.rest; calls = t.calls });
  reader : (stage : Stage) → phase_of stage ≡ Urbs → entries_at stage ≡ l.dirs → l.reader ≡ holding Urbs l.reader.rest;
  undecided : (stage : Stage) → phase_of stage ≡ Urbs → entries_at stage ≡ l.dirs → Undecided stage l.reader.rest;
}

abbrev pub decreases-bytes : goal.decreases-bytes
decreases-bytes g l = l.left
