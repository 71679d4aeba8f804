use Rattle.host_hub.specs.Book.{live}
use Rattle.host_hub.proofs.Lists.{first_has}
use Rattle.host_hub.proofs.hub_core.HubCore.settle.Goals as goal

pub settle_ticket-requires-clause-known : goal.settle_ticket-requires-clause-known
settle_ticket-requires-clause-known c =
    let k = c.requires.known in
    record { setting = k.setting; past = k.past; sent = k.sent; knows = k.knows; lives = first_has c.args.self.now.active (live k.past) k.turn }

pub returns-clause-goes : goal.returns-clause-goes
returns-clause-goes c = λ s past sent turn k. c.settle_ticket.ensures.goes s past sent (first_has c.args.self.now.active (live past) turn) k
