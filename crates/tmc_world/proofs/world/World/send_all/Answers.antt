use Rattle.tmc_world.proofs.RestTries.{up_closed, up_lighter, up_made, up_wants}
use Rattle.tmc_world.proofs.world.World.send_all.Goals as goal

pub returns-in-Answer-clause-tries : goal.returns-in-Answer-clause-tries
returns-in-Answer-clause-tries c = λ first depth old b. up_made first depth old _ c.up.new.self.hub (c.in-Answer.ensures first depth old b)

pub returns-in-Answer-clause-less : goal.returns-in-Answer-clause-less
returns-in-Answer-clause-less c = λ moved.
    let h = c.stands.ensures in
    up_lighter c.numbers_fit.ensures c.args.self.now.hub c.up.new.self.hub h (up_made h.first h.depth h.world _ c.up.new.self.hub (c.in-Answer.ensures h.first h.depth h.world h.behind))

pub returns-in-NotEnabled-clause-tries : goal.returns-in-NotEnabled-clause-tries
returns-in-NotEnabled-clause-tries c = λ first depth old b. up_closed first depth old c.up.new.self.hub (c.in-NotEnabled.ensures first depth old b)

pub returns-in-Memory-clause-tries : goal.returns-in-Memory-clause-tries
returns-in-Memory-clause-tries c = λ first depth old b. up_wants first depth old c.up.new.self.hub (c.in-Memory.ensures first depth old b)
