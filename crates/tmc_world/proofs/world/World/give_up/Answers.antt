use Rattle.tmc_world.proofs.Leading.{giving_leads}
use Rattle.tmc_world.proofs.RestStands.{stands_on}
use Rattle.tmc_world.proofs.world.World.give_up.Goals as goal

pub returns : goal.returns
returns c = rw (← c.self.view_is) (λ first depth old b. giving_leads first depth old c.self.inside.hub c.give_up.new.self c.give_up.ensures.given c.give_up.ensures.again b c.give_up.ensures.link)

pub invariant_of-self : goal.invariant_of-self
invariant_of-self c =
    let h = c.self.invariant in
    stands_on c.self.inside.hub c.give_up.new.self h _ _ (giving_leads h.first h.depth h.world c.self.inside.hub c.give_up.new.self c.give_up.ensures.given c.give_up.ensures.again h.behind c.give_up.ensures.link)
