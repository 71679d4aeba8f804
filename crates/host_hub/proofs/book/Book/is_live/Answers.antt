use Rattle.std.proofs.Common.{◌∙◌, ap, arith, sym}
use Rattle.host_hub.specs.BookRoom.{is_open}
use Rattle.host_hub.specs.BookSeen.{BookSeen, Seen}
use Rattle.host_hub.proofs.Booking.{not_open, seen_is, within}
use Rattle.host_hub.proofs.book.Book.is_live.Goals as goal

pub index-requires : goal.index-requires
index-requires c = omega (arith, c.self.inside.tickets.ok.0, within c.self.inside.tickets.items c.args.self.now c.args.ticket (ap (λ (b : BookSeen). b.tickets) c.self.view_is) c.requires)

pub returns-in-Live : goal.returns-in-Live
returns-in-Live c = λ seen found.
    sym (ap (λ (s : Seen). is_open s.outcome)
    (seen_is c.self.inside.tickets.items c.args.self.now c.args.ticket c.index.result.now _ seen (ap (λ (b : BookSeen). b.tickets) c.self.view_is) c.requires c.index.ensures found)
    ∙ ap is_open c.in-Live.is)

pub returns-in_default : goal.returns-in_default
returns-in_default c = λ seen found.
    sym (ap (λ (s : Seen). is_open s.outcome)
    (seen_is c.self.inside.tickets.items c.args.self.now c.args.ticket c.index.result.now _ seen (ap (λ (b : BookSeen). b.tickets) c.self.view_is) c.requires c.index.ensures found)
    ∙ not_open c.index.result.now.outcome c.in_default.not-Live)
