use Rattle.std.proofs.Common.{ap, length, List}
use Rattle.host_hub.specs.declared.ticket.Ticket.{Ticket}
use Rattle.host_hub.specs.BookSeen.{BookSeen}
use Rattle.host_hub.proofs.Seen.{tickets_count}
use Rattle.host_hub.proofs.book.Book.tickets.Goals as goal

pub returns-clause-count : goal.returns-clause-count
returns-clause-count c =
    tickets_count c.self.inside.tickets.items c.args.self.now (length c.as_slice.result.now) (ap (λ (b : BookSeen). b.tickets) c.self.view_is)
    (ap (λ (l : List Ticket). length l) c.as_slice.ensures.value)
