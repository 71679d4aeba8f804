use Rattle.std.proofs.lemmas.List.{take_rest}
use Rattle.tmc_world.proofs.RestTries.{first_tried, first_wants, late_in, next_lighter, next_tried, step_lighter}
use Rattle.tmc_world.proofs.world.World.+step.Goals as goal

pub returns-in-Answer-clause-tries : goal.returns-in-Answer-clause-tries
returns-in-Answer-clause-tries t c = λ first depth old b unlate.
    first_tried first depth c.args.events.now _ old _ c.dev.new.self.hub c.in-len1-up.len_at_least unlate (c.in-Answer.ensures first depth old b)

pub returns-in-Answer-clause-less : goal.returns-in-Answer-clause-less
returns-in-Answer-clause-less t c = λ unlate moved.
    let h = c.stands.ensures in
    step_lighter c.calm_moves_end.ensures c.args.events.now c.args.self.now.hub c.dev.new.self.hub h c.requires
    (first_tried h.first h.depth c.args.events.now _ h.world _ c.dev.new.self.hub c.in-len1-up.len_at_least
    (late_in h.first h.depth h.world c.args.self.now.hub _ h.behind unlate) (c.in-Answer.ensures h.first h.depth h.world h.behind))

pub returns-in-NotEnabled-clause-tries : goal.returns-in-NotEnabled-clause-tries
returns-in-NotEnabled-clause-tries t c = λ first depth old b unlate.
    next_tried first depth c.args.events.now _ _ old c.step.result c.dev.new.self.hub c.step.new.self.hub c.in-len1-up.len_at_least (take_rest c.args.events.now 1) unlate
    (c.in-NotEnabled.ensures first depth old b) (c.step.ensures.tries first depth old)

pub returns-in-NotEnabled-clause-less : goal.returns-in-NotEnabled-clause-less
returns-in-NotEnabled-clause-less t c = λ unlate.
    let h = c.stands.ensures in
    next_lighter c.args.events.now _ c.step.result c.args.self.now.hub c.dev.new.self.hub c.step.new.self.hub h unlate
    (c.in-NotEnabled.ensures h.first h.depth h.world h.behind) c.step.ensures.less

pub returns-in-Memory-clause-tries : goal.returns-in-Memory-clause-tries
returns-in-Memory-clause-tries t c = λ first depth old b unlate.
    first_wants first depth c.args.events.now _ old c.dev.new.self.hub c.in-len1-up.len_at_least (c.in-Memory.ensures first depth old b)
