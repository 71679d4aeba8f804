use Rattle.std.proofs.Common.{sym, subst}
use Rattle.tmc_base.specs.Link.{Counts}
use Rattle.host_hub.specs.Behind.{Account, Behind, HubParts}
use Rattle.host_hub.proofs.hub.Hub.tend.Goals as goal

pub returns-clause-behind : goal.returns-clause-behind
returns-clause-behind g c = λ start s past sent received b.
    let was : Behind g.L.Link.told g.L.Link.counts start s past sent received (record { link = c.self.inside.link; core = c.self.inside.core }) =
    subst (λ (h : HubParts _). Behind g.L.Link.told g.L.Link.counts start s past sent received h) (sym c.self.view_is) b in
    subst (λ (n : Counts). Account start (g.L.Link.told c.tend.new.self) n s past sent received c.self.inside.core) (sym c.tend.ensures.counts)
    (c.accounts_are_tended.ensures start _ _ _ s past sent received _ was c.tend.ensures.told)

pub invariant_of-self : goal.invariant_of-self
invariant_of-self g c =
    let r = c.self.invariant in
    record {
      start = r.start;
      setting = r.setting;
      past = r.past;
      sent = r.sent;
      received = r.received;
      behind = subst (λ (n : Counts). Account r.start (g.L.Link.told c.tend.new.self) n r.setting r.past r.sent r.received c.self.inside.core) (sym c.tend.ensures.counts)
          (c.accounts_are_tended.ensures r.start _ _ _ r.setting r.past r.sent r.received _ r.behind c.tend.ensures.told);
    }

pub returns-clause-holds : goal.returns-clause-holds
returns-clause-holds g c = λ start s past sent received b. c.hubs_hold.ensures start _ _ s past sent received _ b
