use Rattle.std.proofs.Common.{◌≡◌, ◌≤◌, ◌-◌, List, length, true}
use Rattle.tmc_live.specs.Served.{IsServed}
use Rattle.tmc_live.specs.Live.{Connection, Reaches}
use Rattle.tmc_live.proofs.live.serve.Given as goal

abbrev pub invariant-connections : goal.invariant-connections
invariant-connections g l = record {
  reached : (done : List (Connection g.row.N-L.Denot)) × (length done ≡ l.served)
      × Reaches (record { standing = g.N.Net.standing; back = g.N.Net.back; opens = g.N.Net.opens; accepts = g.N.Net.accepts; takes = g.N.Net.takes; put = g.K.Sink.put; faults = g.K.Sink.faults; writes = g.K.Sink.writes; serves = IsServed g.N.L.Link.told g.N.L.Link.counts g.N.L.Link.sends g.N.L.Link.polls })
      l.address l.fn.net l.fn.sink done l.net l.sink;
  within : l.served ≤ l.count;
  listens : (g.N.Net.standing l.net).listens ≡ true;
}

abbrev pub decreases-connections : goal.decreases-connections
decreases-connections g l = l.count - l.served
