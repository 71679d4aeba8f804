use Rattle.std.proofs.Common.{refl}
use Rattle.tmc_world.proofs.RestLoops.{rounds_down, rounds_less, rounds_up, rounds_up_less, rounds_up_stops, spent}
use Rattle.tmc_world.proofs.RestTries.{made_if, none_if}
use Rattle.tmc_world.proofs.world.World.round.Goals as goal

pub returns-in-Err-clause-rounds : goal.returns-in-Err-clause-rounds
returns-in-Err-clause-rounds c = λ first depth old b. c.in-Err.ensures.stops first depth old b

pub returns-in-Ok-true-clause-rounds : goal.returns-in-Ok-true-clause-rounds
returns-in-Ok-true-clause-rounds c = λ first depth old b.
    let k = c.in-Ok.ensures.calms first depth old b in
    rounds_up first depth old c.calm.new.self.hub c.send_all.new.self.hub k
    (made_if first depth _ k.made.new _ c.send_all.new.self.hub c.in-Ok-true.field-0-test (c.in-Ok-true.ensures.tries first depth k.made.new k.made.behind))

pub returns-in-Ok-true-clause-less : goal.returns-in-Ok-true-clause-less
returns-in-Ok-true-clause-less c = λ more.
    let h = c.stands.ensures in
    rounds_up_less c.args.self.now.hub c.calm.new.self.hub c.send_all.new.self.hub h (c.in-Ok.ensures.calms h.first h.depth h.world h.behind)
    (c.in-Ok-true.ensures.less c.in-Ok-true.field-0-test)

pub drain-requires : goal.drain-requires
drain-requires c =
    let h = c.stands.ensures in
    let k = c.in-Ok.ensures.calms h.first h.depth h.world h.behind in
    spent h.first h.depth h.world c.calm.new.self.hub c.send_all.new.self.hub k
    (none_if h.first h.depth _ k.made.new _ c.send_all.new.self.hub c.in-Ok-false.field-0-test (c.in-Ok-false.ensures.tries h.first h.depth k.made.new k.made.behind))

pub returns-in-Ok-false-clause-rounds : goal.returns-in-Ok-false-clause-rounds
returns-in-Ok-false-clause-rounds c = λ first depth old b.
    let k = c.in-Ok.ensures.calms first depth old b in
    rounds_down first depth old c.calm.new.self.hub c.send_all.new.self.hub c.drain.new.self.hub k c.drain.result
    (none_if first depth _ k.made.new _ c.send_all.new.self.hub c.in-Ok-false.field-0-test (c.in-Ok-false.ensures.tries first depth k.made.new k.made.behind))
    (c.drain.ensures.drains first depth k.made.new)

pub returns-in-Ok-false-clause-less : goal.returns-in-Ok-false-clause-less
returns-in-Ok-false-clause-less c =
    let h = c.stands.ensures in
    let k = c.in-Ok.ensures.calms h.first h.depth h.world h.behind in
    let n = none_if h.first h.depth _ k.made.new _ c.send_all.new.self.hub c.in-Ok-false.field-0-test (c.in-Ok-false.ensures.tries h.first h.depth k.made.new k.made.behind) in
    rounds_less c.args.self.now.hub c.calm.new.self.hub c.send_all.new.self.hub c.drain.new.self.hub h k c.drain.result n (λ d. c.drain.ensures.less)
    (rounds_down h.first h.depth h.world c.calm.new.self.hub c.send_all.new.self.hub c.drain.new.self.hub k c.drain.result n (c.drain.ensures.drains h.first h.depth k.made.new))

pub returns-in-Err-send_all-clause-rounds : goal.returns-in-Err-send_all-clause-rounds
returns-in-Err-send_all-clause-rounds c = λ first depth old b.
    let k = c.in-Ok.ensures.calms first depth old b in
    rounds_up_stops first depth old c.calm.new.self.hub c.send_all.new.self.hub k (c.in-Err-send_all.ensures.tries first depth k.made.new k.made.behind)
