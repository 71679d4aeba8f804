use Rattle.std.proofs.Common.{sym, subst}
use Rattle.event_text.specs.declared.event.Event.TheVariants as event
use Rattle.tmc_world.specs.declared.applied.Applied.{Applied}
use Rattle.tmc_world.specs.WorldEvents.{LeadsTo}
use Rattle.tmc_world.proofs.Leading.{acts_lead}
use Rattle.tmc_world.proofs.RestStands.{stands_on}
use Rattle.tmc_world.proofs.world.World.dev.Goals as goal

pub returns : goal.returns
returns c = rw (← c.self.view_is) (λ first depth old b.
    subst (λ (x : Applied). LeadsTo first depth (event.Dev c.args.does) old x c.tend.new.self) (sym c.stepped.ensures)
    (acts_lead first depth c.args.does old c.self.inside.hub c.tend.new.self c.tend.result c.tend.ensures.tends c.tend.ensures.core c.tend.ensures.behind b))

pub invariant_of-self : goal.invariant_of-self
invariant_of-self c =
    let h = c.self.invariant in
    stands_on c.self.inside.hub c.tend.new.self h _ _
    (acts_lead h.first h.depth c.args.does h.world c.self.inside.hub c.tend.new.self c.tend.result c.tend.ensures.tends c.tend.ensures.core c.tend.ensures.behind h.behind)
