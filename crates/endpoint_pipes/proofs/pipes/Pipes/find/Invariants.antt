use Rattle.std.proofs.Common.{take}
use Rattle.tmc_law.specs.State.{Avoids}
use Rattle.endpoint_pipes.specs.Held.{endpoint_of}
use Rattle.endpoint_pipes.specs.Keys.{keys_at}
use Rattle.endpoint_pipes.specs.Kept.{submits_of}
use Rattle.endpoint_pipes.proofs.pipes.Pipes.find.Given as goal

-- the number is not among those before this place
abbrev pub invariant-loop-place : goal.invariant-loop-place
invariant-loop-place l = Avoids l.seqnum (submits_of l.self-inside.slab.slots (take l.place (keys_at (endpoint_of l.ep) l.self-inside.queues)))
