use Rattle.std.proofs.Common.{ℕ, ◌<◌}
use Rattle.tmc_law.specs.State.{Avoids}
use Rattle.endpoint_pipes.specs.Held.{endpoint_of, list_of}
use Rattle.endpoint_pipes.proofs.pipes.Pipes.locate.Given as goal

-- the number is not pending at an endpoint before this one
abbrev pub invariant-loop-ep : goal.invariant-loop-ep
invariant-loop-ep l = (k : ℕ) → k < l.ep → Avoids l.seqnum (list_of (endpoint_of k) l.self)
