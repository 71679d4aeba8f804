use Rattle.std.proofs.Common.{◌≡◌, ◌≤◌, ◌-◌, take, drop, length}
use Rattle.tmc_base.specs.Sink.{put_after}
use Rattle.tmc_base.specs.Writing.{Offered}
use Rattle.tmc_base.proofs.writing.write_all.Given as goal

abbrev pub invariant-pieces : goal.invariant-pieces
invariant-pieces g l = record {
  within : l.written ≤ length l.bytes;
  put : g.K.Sink.put l.sink ≡ put_after (take l.written l.bytes) (g.K.Sink.put l.fn.sink);
  offered : Offered g.K.Sink.writes l.fn.sink l.bytes (drop l.written l.bytes) l.sink;
  counts : g.K.Sink.faults l.sink ≡ g.K.Sink.faults l.fn.sink;
}

abbrev pub decreases-pieces : goal.decreases-pieces
decreases-pieces g l = length l.bytes - l.written
