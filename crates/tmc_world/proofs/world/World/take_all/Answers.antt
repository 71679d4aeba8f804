use Rattle.tmc_world.proofs.RestTries.{down_closed, down_made, down_taken, down_wants}
use Rattle.tmc_world.proofs.world.World.take_all.Goals as goal

pub returns-in-Answer-clause-tries : goal.returns-in-Answer-clause-tries
returns-in-Answer-clause-tries c = λ first depth old b. down_made first depth old _ c.down.new.self.hub (c.in-Answer.ensures first depth old b)

pub returns-in-Answer-clause-taken : goal.returns-in-Answer-clause-taken
returns-in-Answer-clause-taken c = λ moved.
    let h = c.stands.ensures in
    down_taken c.numbers_fit.ensures c.args.self.now.hub c.down.new.self.hub h c.requires (down_made h.first h.depth h.world _ c.down.new.self.hub (c.in-Answer.ensures h.first h.depth h.world h.behind))

pub returns-in-NotEnabled-clause-tries : goal.returns-in-NotEnabled-clause-tries
returns-in-NotEnabled-clause-tries c = λ first depth old b. down_closed first depth old c.down.new.self.hub (c.in-NotEnabled.ensures first depth old b)

pub returns-in-Memory-clause-tries : goal.returns-in-Memory-clause-tries
returns-in-Memory-clause-tries c = λ first depth old b. down_wants first depth old c.down.new.self.hub (c.in-Memory.ensures first depth old b)
