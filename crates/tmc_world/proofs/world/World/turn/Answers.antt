use Rattle.tmc_world.proofs.Turning.{turning_leads}
use Rattle.tmc_world.proofs.RestStands.{turned_stands}
use Rattle.tmc_world.proofs.world.World.turn.Goals as goal

pub returns : goal.returns
returns c = rw (← c.self.view_is) (λ first depth old b runs.
    turning_leads first depth c.args.send c.args.poll old c.self.inside.hub c.tend.new.self c.tend-2.new.self c.turn-turn.new.self c.tend-3.new.self c.tend-4.new.self
    c.tend.result c.tend-2.result c.tend-3.result c.tend-4.result c.turn-turn.result
    c.tend.ensures.tends c.tend.ensures.core c.tend.ensures.behind
    c.tend-2.ensures.tends c.tend-2.ensures.core c.tend-2.ensures.behind
    c.turn-turn.ensures.turns
    c.tend-3.ensures.tends c.tend-3.ensures.behind
    c.tend-4.ensures.tends c.tend-4.ensures.behind c.tend-2.ensures.holds c.turn-turn.ensures.holds b runs)

pub invariant_of-self : goal.invariant_of-self
invariant_of-self c =
    let h = c.self.invariant in
    turned_stands c.args.send c.args.poll c.self.inside.hub c.tend.new.self c.tend-2.new.self c.turn-turn.new.self c.tend-3.new.self c.tend-4.new.self
    c.tend.result c.tend-2.result c.tend-3.result c.tend-4.result h
    c.tend.ensures.tends c.tend.ensures.core c.tend-2.ensures.tends c.tend-2.ensures.core
    (λ e over. (c.turn-turn.ensures.ended e over).1)
    c.tend-3.ensures.tends c.tend-3.ensures.core c.tend-4.ensures.tends c.tend-4.ensures.core
    (λ runs.
    let t =
    turning_leads h.first h.depth c.args.send c.args.poll h.world c.self.inside.hub c.tend.new.self c.tend-2.new.self c.turn-turn.new.self c.tend-3.new.self c.tend-4.new.self
    c.tend.result c.tend-2.result c.tend-3.result c.tend-4.result c.turn-turn.result
    c.tend.ensures.tends c.tend.ensures.core c.tend.ensures.behind
    c.tend-2.ensures.tends c.tend-2.ensures.core c.tend-2.ensures.behind
    c.turn-turn.ensures.turns
    c.tend-3.ensures.tends c.tend-3.ensures.behind
    c.tend-4.ensures.tends c.tend-4.ensures.behind c.tend-2.ensures.holds c.turn-turn.ensures.holds h.behind runs in
    record { first = h.first; numbered = h.numbered; depth = h.depth; world = t.new; behind = t.behind })
