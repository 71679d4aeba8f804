use Rattle.std.proofs.Common.{◌∙◌, ap, subst, inr, List, take}
use Rattle.tmc_base.specs.Told.{WentOut}
use Rattle.usbip_export.specs.Seen.{Seen}
use Rattle.usbip_export.specs.Ending.{Sent, Unsent, SendFailed, SendWants}
use Rattle.usbip_export.proofs.Crossed.{crosses_sent, crosses_unsent}
use Rattle.usbip_export.proofs.Ended.{same_counts, sent_idle}
use Rattle.usbip_export.proofs.serving.send.Goals as goal

pub returns-in-Took : goal.returns-in-Took
returns-in-Took g c = record {
  crosses =
      crosses_sent g.L.Link.told _ c.args.node.now _ _ _ c.in-Took.n
      (subst (λ (out : List _). WentOut (take c.in-Took.n out) (g.L.Link.told c.args.link.now) (g.L.Link.told c.send.new.self)) c.pending_out.ensures
      c.in-Took.ensures.told)
      c.sent_out.ensures;
  came = (
    Sent _ c.in-Took.n c.in-Took.ensures.within.0 c.in-Took.ensures.goes (same_counts _ _ c.in-Took.ensures.counts),
    ap (λ (s : Seen). s.refused) c.sent_out.ensures ∙ c.requires.unrefused,
  );
}

pub returns-in-Idle : goal.returns-in-Idle
returns-in-Idle g c = record {
  crosses = crosses_unsent g.L.Link.told _ c.args.node.now _ _ c.in-Idle.ensures.told;
  came = (Unsent _ c.in-Idle.ensures.goes (sent_idle _ _ c.in-Idle.ensures.counts), c.requires.unrefused);
}

pub returns-in-Failed : goal.returns-in-Failed
returns-in-Failed g c = record {
  crosses = crosses_unsent g.L.Link.told _ c.args.node.now _ _ c.in-Failed.ensures.told;
  came = (SendFailed _ c.in-Failed.ensures.goes c.in-Failed.ensures.counts, c.requires.unrefused);
}

pub returns-in-Memory : goal.returns-in-Memory
returns-in-Memory g c = record {
  crosses = crosses_unsent g.L.Link.told _ c.args.node.now _ _ c.in-Memory.ensures.told;
  came = (inr (SendWants _ c.in-Memory.ensures.goes c.in-Memory.ensures.counts), c.requires.unrefused);
}
