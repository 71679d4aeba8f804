use Rattle.std.proofs.Common.{◌++◌, take}
use Rattle.host_hub.specs.HubCalls.{sent_count}
use Rattle.host_hub.proofs.hub.Hub.turn.Goals as goal

pub returns-in-Some-clause-holds : goal.returns-in-Some-clause-holds
returns-in-Some-clause-holds g c = λ start s past sent received b. c.hubs_hold.ensures start _ _ s past sent received _ b

pub invariant_of-self : goal.invariant_of-self
invariant_of-self g c =
    let r = c.self.invariant in
    let t = c.turn.ensures.turns r.start r.setting r.past r.sent r.received r.behind in
    record {
      start = r.start;
      setting = r.setting;
      past = t.more ++ r.past;
      sent = r.sent ++ take (sent_count c.turn.ensures.sent) c.self.inside.core.urbs.outbox;
      received = r.received ++ c.turn.ensures.bytes;
      behind = t.account;
    }

pub returns-clause-holds : goal.returns-clause-holds
returns-clause-holds g c = λ start s past sent received b. c.hubs_hold.ensures start _ _ s past sent received _ b
