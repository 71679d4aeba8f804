use Rattle.std.proofs.Common.{◌+◌, ◌++◌, ◌∷◌, [], take, subst, sym, ap, ◌∙◌, add-one, arith}
use Rattle.std.proofs.Math.Seq.{take-suc}
use Rattle.std.proofs.lemmas.List.{take_all}
use Rattle.tmc_tool.specs.Going.{Went}
use Rattle.tmc_tool.proofs.Going.{AllWent, all_none, all_on}
use Rattle.tmc_tool.proofs.replay.apply_all.Goals as goal

pub events-init : goal.events-init
events-init c = subst (λ xs. AllWent [] xs c.args.world.now.hub c.args.world.now.hub) (sym c.in_ok-answers.ensures.items) (all_none c.args.world.now.hub)

pub events-preserved : goal.events-preserved
events-preserved c =
    all_on (take c.events.event-index c.args.events.now) (take (c.events.event-index + 1) c.args.events.now) c.events.answers.items _ c.args.world.now.hub c.events.world.hub _
    c.event-item.result _ _ c.events.invariant c.apply.ensures.leads c.in_ok-said.ensures.said
    (ap (λ k. take k c.args.events.now) (add-one c.events.event-index) ∙ take-suc c.args.events.now c.events.event-index c.event-item.result (omega arith) ∙ ap (λ x. take c.events.event-index c.args.events.now ++ x ∷ []) (sym c.event-item.is)) c.in_ok-push.ensures.items

pub returns : goal.returns
returns c = λ first depth old behind.
    subst (λ xs. Went first depth old xs c.events.answers.items c.events.world.hub) (take_all c.events.event-index c.args.events.now (omega arith)) (c.events.invariant first depth old behind)
