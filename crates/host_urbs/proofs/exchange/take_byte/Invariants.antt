use Rattle.std.proofs.Common.{◌≡◌, ℕ, ◌+◌, ◌≤◌, [], List, length}
use Rattle.host_urbs.specs.Attach.{At, Path, Undecided}
use Rattle.host_urbs.proofs.exchange.take_byte.Given as goal

abbrev pub invariant-polls : goal.invariant-polls
invariant-polls g l = record {
  path : (turns : ℕ) (busid : List ℕ) (s : At) → s.unsent ≡ [] → Undecided s.stage s.rest → s.calls + l.fn.left ≡ turns
      → (t : At) × Path g.L.Link.told g.L.Link.counts g.L.Link.sends g.L.Link.polls busid s l.fn.link t l.link × (t.calls + l.left ≡ turns)
      × (t ≡ record s { calls = t.calls });
  one : length l.buf ≡ 1;
  fewer : l.left ≤ l.fn.left;
}

abbrev pub decreases-polls : goal.decreases-polls
decreases-polls g l = l.left
