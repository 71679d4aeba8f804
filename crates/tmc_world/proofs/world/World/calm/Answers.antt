use Rattle.std.proofs.Common.{◌∙◌, sym}
use Rattle.tmc_world.proofs.RestLoops.{calmed, calming_begins, calming_late, calming_on, calming_stops}
use Rattle.tmc_world.proofs.RestTries.{late_in, made_if, none_if}
use Rattle.tmc_world.proofs.world.World.calm.Goals as goal

pub steps-init : goal.steps-init
steps-init c = λ first depth old b. calming_begins first depth old _ b

pub returns-then-is_late-clause-stops : goal.returns-then-is_late-clause-stops
returns-then-is_late-clause-stops c = λ first depth old b.
    calming_late first depth old c.steps.self.hub (c.steps.invariant first depth old b) (sym c.is_late.ensures ∙ c.if-is_late.true)

pub steps-preserved : goal.steps-preserved
steps-preserved c = λ first depth old b.
    let k = c.steps.invariant first depth old b in
    let unlate = sym c.is_late.ensures ∙ c.if-is_late.false in
    calming_on first depth old c.steps.self.hub c.step.new.self.hub k unlate
    (made_if first depth _ k.made.new _ c.step.new.self.hub c.in-Ok-true.field-0-test
    (c.in-Ok-true.ensures.tries first depth k.made.new k.made.behind (late_in first depth k.made.new c.steps.self.hub _ k.made.behind unlate)))

pub steps-smaller : goal.steps-smaller
steps-smaller c = c.in-Ok-true.ensures.less (sym c.is_late.ensures ∙ c.if-is_late.false) c.in-Ok-true.field-0-test

pub returns-in-Ok-false-clause-calms : goal.returns-in-Ok-false-clause-calms
returns-in-Ok-false-clause-calms c = λ first depth old b.
    let k = c.steps.invariant first depth old b in
    let unlate = sym c.is_late.ensures ∙ c.if-is_late.false in
    calmed first depth old c.steps.self.hub c.step.new.self.hub k unlate
    (none_if first depth _ k.made.new _ c.step.new.self.hub c.in-Ok-false.field-0-test
    (c.in-Ok-false.ensures.tries first depth k.made.new k.made.behind (late_in first depth k.made.new c.steps.self.hub _ k.made.behind unlate)))

pub returns-in-Err-clause-stops : goal.returns-in-Err-clause-stops
returns-in-Err-clause-stops c = λ first depth old b.
    let k = c.steps.invariant first depth old b in
    let unlate = sym c.is_late.ensures ∙ c.if-is_late.false in
    calming_stops first depth old c.steps.self.hub c.step.new.self.hub k unlate
    (c.in-Err.ensures.tries first depth k.made.new k.made.behind (late_in first depth k.made.new c.steps.self.hub _ k.made.behind unlate))
