use Rattle.std.proofs.Common.{refl, sym, ap, ◌∙◌, Some, arith}
use Rattle.usbip_export.specs.declared.serving.ServeEnd.TheVariants as end
use Rattle.usbip_export.specs.Steps.{AreServing}
use Rattle.usbip_export.specs.Ending.{none, more}
use Rattle.usbip_export.proofs.Worked.{nothing_by}
use Rattle.usbip_export.proofs.Crossed.{crosses_alone, crosses_more, crosses_settled, crosses_for}
use Rattle.usbip_export.proofs.Ended.{unlike_some, ends_at_once, ends_settled, ends_spent, ends_called}
use Rattle.usbip_export.proofs.serving.serve.Goals as goal

pub returns-in-Some-clause-crosses : goal.returns-in-Some-clause-crosses
returns-in-Some-clause-crosses g c =
    crosses_alone g.L.Link.told _ c.args.node.now c.args.node.now c.args.link.now (nothing_by AreServing tt c.args.node.now)

pub returns-in-Some-clause-ends : goal.returns-in-Some-clause-ends
returns-in-Some-clause-ends g c =
    ends_at_once g.L.Link.counts g.L.Link.sends g.L.Link.polls c.args.turns c.in-Some.field c.args.node.now c.args.link.now (sym c.in-Some.ensures)

pub turns-init : goal.turns-init
turns-init g c = record {
  crosses = crosses_alone g.L.Link.told _ c.args.node.now c.args.node.now c.args.link.now (nothing_by AreServing tt c.args.node.now);
  calls = none;
  unrefused = sym c.in_default.ensures;
  piece = refl;
  within = omega arith;
}

pub returns-in-Some-settle-clause-crosses : goal.returns-in-Some-settle-clause-crosses
returns-in-Some-settle-clause-crosses g c =
    crosses_settled g.L.Link.told _ c.args.node.now c.turns.node c.settle.new.node c.args.link.now c.turns.link c.turns.invariant.unrefused
    c.turns.invariant.crosses c.settle.ensures.works

pub returns-in-Some-settle-clause-ends : goal.returns-in-Some-settle-clause-ends
returns-in-Some-settle-clause-ends g c =
    ends_settled g.L.Link.counts g.L.Link.sends g.L.Link.polls c.args.turns c.turns.made c.in-Some-settle.end c.args.link.now c.settle.new.node c.turns.link
    c.turns.invariant.within c.turns.invariant.calls (λ e. c.in-Some-settle.ensures.unspent (ap Some e)) c.in-Some-settle.ensures.settled

pub returns-then-made-turns-clause-crosses : goal.returns-then-made-turns-clause-crosses
returns-then-made-turns-clause-crosses g c =
    crosses_settled g.L.Link.told _ c.args.node.now c.turns.node c.settle.new.node c.args.link.now c.turns.link c.turns.invariant.unrefused
    c.turns.invariant.crosses c.settle.ensures.works

pub returns-then-made-turns-clause-ends : goal.returns-then-made-turns-clause-ends
returns-then-made-turns-clause-ends g c =
    ends_spent g.L.Link.counts g.L.Link.sends g.L.Link.polls c.args.turns c.turns.made c.args.link.now c.settle.new.node c.turns.link
    c.if-made-turns.true c.turns.invariant.calls c.in_default-settle.ensures.settled

pub call-requires-clause-unrefused : goal.call-requires-clause-unrefused
call-requires-clause-unrefused g c = c.in_default-settle.ensures.settled.unrefused

pub returns-in-Some-call-clause-crosses : goal.returns-in-Some-call-clause-crosses
returns-in-Some-call-clause-crosses g c =
    crosses_more g.L.Link.told _ c.args.node.now c.settle.new.node c.call.new.node c.args.link.now c.turns.link c.call.new.link
    c.in_default-settle.ensures.settled.unrefused
    (crosses_settled g.L.Link.told _ c.args.node.now c.turns.node c.settle.new.node c.args.link.now c.turns.link c.turns.invariant.unrefused
    c.turns.invariant.crosses c.settle.ensures.works)
    (crosses_for g.L.Link.told _ _ c.settle.new.node c.call.new.node c.turns.link c.call.new.link (unlike_some c.in-Some-call.end end.Memory)
    c.in-Some-call.ensures.called.crosses)

pub returns-in-Some-call-clause-ends : goal.returns-in-Some-call-clause-ends
returns-in-Some-call-clause-ends g c =
    ends_called g.L.Link.counts g.L.Link.sends g.L.Link.polls c.args.turns c.turns.made c.in-Some-call.end c.args.link.now c.settle.new.node c.turns.link
    c.call.new.node c.call.new.link (omega (arith, c.turns.invariant.within, c.if-made-turns.false)) c.turns.invariant.calls
    c.in_default-settle.ensures.settled c.in-Some-call.ensures.called.came

pub turns-preserved : goal.turns-preserved
turns-preserved g c = record {
  crosses =
      crosses_more g.L.Link.told _ c.args.node.now c.settle.new.node c.call.new.node c.args.link.now c.turns.link c.call.new.link
      c.in_default-settle.ensures.settled.unrefused
      (crosses_settled g.L.Link.told _ c.args.node.now c.turns.node c.settle.new.node c.args.link.now c.turns.link c.turns.invariant.unrefused
      c.turns.invariant.crosses c.settle.ensures.works)
      (crosses_for g.L.Link.told _ _ c.settle.new.node c.call.new.node c.turns.link c.call.new.link (λ _ e. cc) c.in_default-call.ensures.called.crosses);
  calls = more c.turns.made c.turns.link c.call.new.link c.turns.invariant.calls c.in_default-call.ensures.called.came.0;
  unrefused = c.in_default-call.ensures.called.came.1;
  piece = c.in_default-call.ensures.piece ∙ c.turns.invariant.piece;
  within = omega (arith, c.turns.invariant.within, c.if-made-turns.false);
}
