use Rattle.std.proofs.Common.{ap}
use Rattle.host_hub.specs.declared.hub_core.HubCore.{HubCore}
use Rattle.host_hub.proofs.Takings.{fed_answer, fed_more, fed_refused, hears_now, nothing_else, refused_book, uses_some}
use Rattle.host_hub.proofs.hub_core.HubCore.feed_one.Goals as goal

pub hear-requires : goal.hear-requires
hear-requires c =
    let k = c.requires in
    record {
      setting = k.setting;
      past = k.past;
      sent = k.sent;
      out = hears_now c.numbers_are_in_a_row.ensures c.args.self.now c.args.bytes.now c.feed-step.result c.feed-step.new.self c.dirs.result.now c.dirs.ensures c.feed-step.ensures
          k.setting k.past k.sent k.received k.rest k.count k.feeds c.in-RetSubmit.head c.in-RetSubmit.is;
    }

pub returns-in-RetSubmit-clause-some : goal.returns-in-RetSubmit-clause-some
returns-in-RetSubmit-clause-some c =
    let k = c.requires in
    uses_some c.numbers_are_in_a_row.ensures c.args.self.now c.args.bytes.now c.feed-step.result c.feed-step.new.self c.dirs.result.now c.dirs.ensures c.feed-step.ensures
    k.setting k.past k.sent k.received k.rest k.count k.feeds c.in-RetSubmit.head c.in-RetSubmit.is

pub returns-in-RetSubmit-clause-answer : goal.returns-in-RetSubmit-clause-answer
returns-in-RetSubmit-clause-answer c = λ s past sent received rest count f.
    fed_answer c.numbers_are_in_a_row.ensures c.args.self.now c.args.bytes.now c.feed-step.result c.feed-step.new.self c.dirs.result.now c.dirs.ensures c.feed-step.ensures
    s past sent received rest count f c.in-RetSubmit.head c.in-RetSubmit.is c.hear.new.self
    (c.hear.ensures.goes s past sent (hears_now c.numbers_are_in_a_row.ensures c.args.self.now c.args.bytes.now c.feed-step.result c.feed-step.new.self c.dirs.result.now c.dirs.ensures
    c.feed-step.ensures s past sent received rest count f c.in-RetSubmit.head c.in-RetSubmit.is))
    c.hear.ensures.leaves.reader

pub stop-requires-clause-known : goal.stop-requires-clause-known
stop-requires-clause-known c =
    let k = c.requires in
    refused_book c.numbers_are_in_a_row.ensures c.args.self.now c.args.bytes.now c.feed-step.result c.feed-step.new.self c.dirs.result.now c.dirs.ensures c.feed-step.ensures
    k.setting k.past k.sent k.received k.rest k.count k.feeds c.in-Bad.field c.in-Bad.is

pub returns-in-Bad-clause-all : goal.returns-in-Bad-clause-all
returns-in-Bad-clause-all c = λ none s past sent received rest count f.
    fed_refused c.numbers_are_in_a_row.ensures c.args.self.now c.args.bytes.now c.feed-step.result c.feed-step.new.self c.dirs.result.now c.dirs.ensures c.feed-step.ensures
    s past sent received rest count f c.in-Bad.field c.in-Bad.is c.stop.new.self c.stop.ensures.goes c.stop.ensures.ended (ap (λ (h : HubCore). h.urbs) c.stop.ensures.rest)

pub returns-in-More-clause-all : goal.returns-in-More-clause-all
returns-in-More-clause-all c = λ none s past sent received rest count f.
    fed_more c.numbers_are_in_a_row.ensures c.args.self.now c.args.bytes.now c.feed-step.result c.feed-step.new.self c.dirs.result.now c.dirs.ensures c.feed-step.ensures
    s past sent received rest count f c.in-More.is

pub unreachable-requires : goal.unreachable-requires
unreachable-requires c =
    let k = c.requires in
    nothing_else c.numbers_are_in_a_row.ensures c.args.self.now c.args.bytes.now c.feed-step.result c.feed-step.new.self c.dirs.result.now c.dirs.ensures c.feed-step.ensures
    k.setting k.past k.sent k.received k.rest k.count k.feeds c.in_default.not-More c.in_default.not-RetSubmit c.in_default.not-Bad
