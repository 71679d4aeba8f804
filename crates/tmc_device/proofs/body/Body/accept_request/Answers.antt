use Rattle.std.proofs.Common.{◌∙◌, sym}
use Rattle.tmc_device.specs.Body.{whole_of}
use Rattle.tmc_device.proofs.Effects.{requests, requests_nothing, none_unread, some_unread}
use Rattle.tmc_device.proofs.body.Body.accept_request.Goals as goal

pub returns-then-is_empty-clause-effect : goal.returns-then-is_empty-clause-effect
returns-then-is_empty-clause-effect c seqnum =
    requests_nothing seqnum c.args.tag c.args.size (whole_of c.args.self.now) c.args.self.now c.request_nothing.new.self c.clear.new.self c.owe.new.self c.clear.ensures c.owe.ensures
    (sym c.unread.ensures.unread ∙ none_unread c.unread.result.now c.is_empty.result c.is_empty.ensures c.if-is_empty.true) c.request_nothing.ensures.bare

pub returns-else-is_empty-clause-effect : goal.returns-else-is_empty-clause-effect
returns-else-is_empty-clause-effect c seqnum =
    requests seqnum c.args.tag c.args.size (whole_of c.args.self.now) c.args.self.now c.clear.new.self c.owe.new.self c.clear.ensures c.owe.ensures
    (λ same. some_unread c.unread.result.now c.is_empty.result c.is_empty.ensures c.if-is_empty.false (c.unread.ensures.unread ∙ same))
