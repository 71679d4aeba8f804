use Rattle.std.proofs.Common.{◌≡◌, ◌∙◌, None, sym, ap, subst}
use Rattle.host_hub.specs.Behind.{Behind, HubParts, births_of}
use Rattle.host_hub.proofs.Entering.{given_on, same_births}
use Rattle.host_hub.proofs.hub.Hub.give_up.Goals as goal

pub give_up-requires : goal.give_up-requires
give_up-requires g c = let r = c.self.invariant in record { setting = r.setting; past = r.past; sent = r.sent; rests = r.behind.rests }

pub returns-clause-given : goal.returns-clause-given
returns-clause-given g c = λ running start s past sent received b.
    let runs : c.self.inside.core.end ≡ None = ap (λ (h : HubParts _). h.core.end) c.self.view_is ∙ running in
    let was : Behind g.L.Link.told g.L.Link.counts start s past sent received (record { link = c.self.inside.link; core = c.self.inside.core }) =
    subst (λ (h : HubParts _). Behind g.L.Link.told g.L.Link.counts start s past sent received h) (sym c.self.view_is) b in
    c.accounts_are_entered.ensures.given start _ _ s past sent received c.self.inside.core c.give_up.new.self was runs
    (c.give_up.ensures.given runs s past sent was.rests) c.give_up.ensures.leaves

pub returns-clause-ended : goal.returns-clause-ended
returns-clause-ended g c = λ running. c.give_up.ensures.ended (ap (λ (h : HubParts _). h.core.end) c.self.view_is ∙ running)

pub returns-clause-births : goal.returns-clause-births
returns-clause-births g c =
    same_births c.self.inside.core c.give_up.new.self c.give_up.ensures.leaves.keeps ∙ ap (λ (h : HubParts _). births_of h.core) c.self.view_is

pub invariant_of-self : goal.invariant_of-self
invariant_of-self g c =
    let r = c.self.invariant in
    let x = given_on r.start _ _ r.setting r.past r.sent r.received c.self.inside.core c.give_up.new.self r.behind
    (λ runs. c.accounts_are_entered.ensures.given r.start _ _ r.setting r.past r.sent r.received c.self.inside.core c.give_up.new.self r.behind runs
    (c.give_up.ensures.given runs r.setting r.past r.sent r.behind.rests) c.give_up.ensures.leaves) c.give_up.ensures.again in
    record { start = r.start; setting = r.setting; past = x.0; sent = r.sent; received = r.received; behind = x.1 }

pub returns-clause-holds : goal.returns-clause-holds
returns-clause-holds g c = λ start s past sent received b. c.hubs_hold.ensures start _ _ s past sent received _ b
