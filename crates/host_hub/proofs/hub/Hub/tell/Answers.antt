use Rattle.std.proofs.Common.{refl, sym, subst}
use Rattle.std.specs.Prelude.{OnErr, OnOk}
use Rattle.host_hub.specs.declared.kind.Kind.TheVariants as kind
use Rattle.host_hub.specs.Asks.{IsUnchanged}
use Rattle.host_hub.specs.Behind.{Behind, HubParts, births_of}
use Rattle.host_hub.specs.HubCalls.{HasView}
use Rattle.host_hub.specs.Shown.{IsBorn}
use Rattle.host_hub.proofs.Entering.{asked_on, is_born}
use Rattle.host_hub.proofs.hub.Hub.tell.Goals as goal

pub ask-requires-clause-rests : goal.ask-requires-clause-rests
ask-requires-clause-rests g c =
    let r = c.self.invariant in record { setting = r.setting; past = r.past; sent = r.sent; rests = r.behind.rests }

pub invariant_of-self : goal.invariant_of-self
invariant_of-self g c =
    let r = c.self.invariant in
    let x = asked_on r.start _ _ r.setting r.past r.sent r.received _ c.ask.result c.ask.new.self
    (c.accounts_are_entered.ensures.asked r.start _ _ r.setting r.past r.sent r.received (record { session = c.args.session; kind = kind.Tell; limit = 0; message = c.args.message.now }) c.ask.result c.self.inside.core c.ask.new.self r.behind refl
    (c.ask.ensures.asks r.setting r.past r.sent r.behind.rests) c.ask.ensures.reader c.ask.ensures.short) in
    record { start = r.start; setting = r.setting; past = x.0; sent = r.sent; received = r.received; behind = x.1 }

pub returns-clause-asks : goal.returns-clause-asks
returns-clause-asks g c = λ start s past sent received b.
    let was : Behind g.L.Link.told g.L.Link.counts start s past sent received (record { link = c.self.inside.link; core = c.self.inside.core }) =
    subst (λ (h : HubParts _). Behind g.L.Link.told g.L.Link.counts start s past sent received h) (sym c.self.view_is) b in
    c.accounts_are_entered.ensures.asked start _ _ s past sent received (record { session = c.args.session; kind = kind.Tell; limit = 0; message = c.args.message.now }) c.ask.result c.self.inside.core c.ask.new.self was refl
    (c.ask.ensures.asks s past sent was.rests) c.ask.ensures.reader c.ask.ensures.short

pub returns-clause-view : goal.returns-clause-view
returns-clause-view g c =
    let r = c.self.invariant in
    subst (λ (h : HubParts _). HasView (record { session = c.args.session; kind = kind.Tell; limit = 0; message = c.args.message.now }) c.ask.result h.core.book c.ask.new.self.book) c.self.view_is
    (c.accounts_are_entered.ensures.view r.setting r.past r.sent (record { session = c.args.session; kind = kind.Tell; limit = 0; message = c.args.message.now }) c.ask.result c.self.inside.core c.ask.new.self r.behind.rests
    (c.ask.ensures.asks r.setting r.past r.sent r.behind.rests))

pub returns-clause-born : goal.returns-clause-born
returns-clause-born g c =
    subst (λ (h : HubParts _). OnOk c.ask.result (IsBorn (births_of h.core) (births_of c.ask.new.self))) c.self.view_is
    (is_born c.self.inside.core c.ask.new.self c.ask.result c.ask.ensures.born c.ask.ensures.turned)

pub returns-clause-unchanged : goal.returns-clause-unchanged
returns-clause-unchanged g c = subst (λ (h : HubParts _). OnErr c.ask.result (IsUnchanged h.core c.ask.new.self)) c.self.view_is c.ask.ensures.unchanged

pub returns-clause-holds : goal.returns-clause-holds
returns-clause-holds g c = λ start s past sent received b. c.hubs_hold.ensures start _ _ s past sent received _ b
