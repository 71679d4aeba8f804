use Rattle.tmc_world.proofs.RestLoops.{drains_more, drains_none, made_none, made_on, rounds_rest, stopped_on}
use Rattle.tmc_world.proofs.world.World.rest.Goals as goal

pub rounds-init : goal.rounds-init
rounds-init c = λ first depth old b. made_none first depth old _ b

pub returns-in-Ok-false-clause-rests : goal.returns-in-Ok-false-clause-rests
returns-in-Ok-false-clause-rests c = λ first depth old b.
    let m = c.rounds.invariant first depth old b in
    rounds_rest first depth old c.rounds.self.hub c.round.new.self.hub m
    (drains_none first depth m.new _ c.round.new.self.hub c.in-Ok-false.field-0-test (c.in-Ok-false.ensures.rounds first depth m.new m.behind))

pub returns-in-Err-clause-stops : goal.returns-in-Err-clause-stops
returns-in-Err-clause-stops c = λ first depth old b.
    let m = c.rounds.invariant first depth old b in
    stopped_on first depth old c.rounds.self.hub c.round.new.self.hub m (c.in-Err.ensures.rounds first depth m.new m.behind)

pub rounds-preserved : goal.rounds-preserved
rounds-preserved c = λ first depth old b.
    let m = c.rounds.invariant first depth old b in
    made_on first depth old c.rounds.self.hub c.round.new.self.hub m
    (drains_more first depth m.new _ c.round.new.self.hub c.in-Ok-true.field-0-test (c.in-Ok-true.ensures.rounds first depth m.new m.behind))

pub rounds-smaller : goal.rounds-smaller
rounds-smaller c = c.in-Ok-true.ensures.less c.in-Ok-true.field-0-test
