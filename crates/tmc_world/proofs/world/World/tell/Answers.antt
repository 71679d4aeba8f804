use Rattle.std.proofs.Common.{sym, subst}
use Rattle.event_text.specs.declared.event.Event.TheVariants as event
use Rattle.tmc_world.specs.declared.applied.Applied.{Applied}
use Rattle.tmc_world.specs.World.{begun, setting_of, tells}
use Rattle.tmc_world.specs.WorldEvents.{LeadsTo}
use Rattle.tmc_world.specs.WorldSteps.{asking_of_tell}
use Rattle.tmc_world.proofs.Leading.{asks_lead}
use Rattle.tmc_world.proofs.RestStands.{stands_on}
use Rattle.tmc_world.proofs.world.World.tell.Goals as goal

pub returns : goal.returns
returns c = rw (← c.self.view_is) (λ first depth old b.
    subst (λ (x : Applied). LeadsTo first depth (event.Tell c.args.session c.args.message.now) old x c.tell.new.self) (sym c.asked.ensures)
    (asks_lead first depth (asking_of_tell c.args.session c.args.message.now) (event.Tell c.args.session c.args.message.now) old
    c.self.inside.hub c.tell.new.self c.tell.result (λ said next a. a) (λ next w. w) b c.tell.ensures.link
    (c.tell.ensures.asks (tells begun.link) (setting_of first depth) old.past old.link.sent old.link.taken b.behind)))

pub invariant_of-self : goal.invariant_of-self
invariant_of-self c =
    let h = c.self.invariant in
    stands_on c.self.inside.hub c.tell.new.self h _ _ (asks_lead h.first h.depth (asking_of_tell c.args.session c.args.message.now) (event.Tell c.args.session c.args.message.now) h.world c.self.inside.hub c.tell.new.self c.tell.result (λ said next a. a) (λ next w. w) h.behind c.tell.ensures.link
    (c.tell.ensures.asks (tells begun.link) (setting_of h.first h.depth) h.world.past h.world.link.sent h.world.link.taken h.behind.behind))
