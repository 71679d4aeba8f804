use Rattle.std.proofs.Common.{◌≡◌, ℕ, ◌+◌, ◌≤◌, ◌++◌, List, length, take, drop}
use Rattle.host_urbs.specs.Attach.{At, Path}
use Rattle.host_urbs.proofs.exchange.send_all.Given as goal

abbrev pub invariant-sends : goal.invariant-sends
invariant-sends g l = record {
  path : (turns : ℕ) (busid : List ℕ) (s : At) → s.unsent ≡ l.request → s.calls + l.fn.left ≡ turns
      → (t : At) × Path g.L.Link.told g.L.Link.counts g.L.Link.sends g.L.Link.polls busid s l.fn.link t l.link × (t.calls + l.left ≡ turns)
      × (t ≡ record s { unsent = drop l.at l.request; sent = s.sent ++ take l.at l.request; calls = t.calls });
  within : l.at ≤ length l.request;
}

abbrev pub decreases-sends : goal.decreases-sends
decreases-sends g l = l.left
