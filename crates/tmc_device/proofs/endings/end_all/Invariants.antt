use Rattle.std.proofs.Common.{◌≡◌, ◌+◌, ◌++◌, map, length}
use Rattle.tmc_law.specs.Put.{ended}
use Rattle.endpoint_pipes.specs.Held.{endpoint_of, list_of, with_list}
use Rattle.tmc_device.proofs.endings.end_all.Given as goal

-- the queue is a rest of what it was; its submits that ended were put out
abbrev pub invariant-loop-pipes : goal.invariant-loop-pipes
invariant-loop-pipes l = record {
  pipes : l.pipes ≡ with_list (endpoint_of l.ep) (list_of (endpoint_of l.ep) l.pipes) l.initial.pipes;
  puts : l.outputs.puts ++ map (ended l.status) (list_of (endpoint_of l.ep) l.pipes) ≡ l.initial.outputs.puts ++ map (ended l.status) (list_of (endpoint_of l.ep) l.initial.pipes);
  room : l.outputs.room + length (list_of (endpoint_of l.ep) l.initial.pipes) ≡ l.initial.outputs.room + length (list_of (endpoint_of l.ep) l.pipes);
}

abbrev pub decreases-loop-pipes : goal.decreases-loop-pipes
decreases-loop-pipes l = length (list_of (endpoint_of l.ep) l.pipes)
