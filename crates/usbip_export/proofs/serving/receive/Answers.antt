use Rattle.std.proofs.Common.{refl, inl, inr}
use Rattle.usbip_export.specs.Ending.{Got, Quiet, Closed, PollFailed, PollWants}
use Rattle.usbip_export.proofs.Crossed.{crosses_fed, crosses_quiet, crosses_lost}
use Rattle.usbip_export.proofs.Ended.{same_counts, got_idle, fed_unrefused}
use Rattle.usbip_export.proofs.serving.receive.Goals as goal

pub returns-in-Ok-clause-called : goal.returns-in-Ok-clause-called
returns-in-Ok-clause-called g c = record {
  crosses =
      crosses_fed g.L.Link.told _ c.args.node.now c.feed.new.self _ _ _ c.in-Got.ensures.told (c.in-Ok.ensures.only (λ e. cc)) c.in-Ok.ensures.shut;
  came = (
    Got _ c.in-Got.n _ c.in-Got.ensures.within.0 c.in-Got.ensures.goes (same_counts _ _ c.in-Got.ensures.counts),
    fed_unrefused c.feed.new.self.refused c.in-Ok.ensures.refused,
  );
}

pub returns-in-Refused-clause-called : goal.returns-in-Refused-clause-called
returns-in-Refused-clause-called g c = record {
  crosses =
      crosses_fed g.L.Link.told _ c.args.node.now c.feed.new.self _ _ _ c.in-Got.ensures.told (c.in-Refused.ensures.only (λ e. cc))
      c.in-Refused.ensures.shut;
  came = (
    Got _ c.in-Got.n _ c.in-Got.ensures.within.0 c.in-Got.ensures.goes (same_counts _ _ c.in-Got.ensures.counts),
    (c.in-Refused.ensures.refused c.in-Refused.field).0 refl,
  );
}

pub returns-in-Memory-feed-clause-called : goal.returns-in-Memory-feed-clause-called
returns-in-Memory-feed-clause-called g c = record {
  crosses =
      crosses_lost g.L.Link.told _ c.args.node.now c.feed.new.self _ _ _ c.in-Got.ensures.told (c.in-Memory-feed.ensures.memory refl).0
      (λ other. other refl);
  came = (
    inl (Got _ c.in-Got.n _ c.in-Got.ensures.within.0 c.in-Got.ensures.goes (same_counts _ _ c.in-Got.ensures.counts)),
    (c.in-Memory-feed.ensures.memory refl).1,
  );
}

pub returns-in-Idle-clause-called : goal.returns-in-Idle-clause-called
returns-in-Idle-clause-called g c = record {
  crosses = crosses_quiet g.L.Link.told _ c.args.node.now _ _ c.in-Idle.ensures.told;
  came = (Quiet _ _ c.in-Idle.ensures.goes (got_idle _ _ c.in-Idle.ensures.counts), c.requires.unrefused);
}

pub returns-in-Closed-clause-called : goal.returns-in-Closed-clause-called
returns-in-Closed-clause-called g c = record {
  crosses = crosses_quiet g.L.Link.told _ c.args.node.now _ _ c.in-Closed.ensures.told;
  came = (Closed _ _ c.in-Closed.ensures.goes c.in-Closed.ensures.counts, refl, c.requires.none);
}

pub returns-in-Failed-clause-called : goal.returns-in-Failed-clause-called
returns-in-Failed-clause-called g c = record {
  crosses = crosses_quiet g.L.Link.told _ c.args.node.now _ _ c.in-Failed.ensures.told;
  came = (PollFailed _ _ c.in-Failed.ensures.goes c.in-Failed.ensures.counts, c.requires.unrefused);
}

pub returns-in-Memory-clause-called : goal.returns-in-Memory-clause-called
returns-in-Memory-clause-called g c = record {
  crosses = crosses_quiet g.L.Link.told _ c.args.node.now _ _ c.in-Memory.ensures.told;
  came = (inr (PollWants _ _ c.in-Memory.ensures.goes c.in-Memory.ensures.counts), c.requires.unrefused);
}
