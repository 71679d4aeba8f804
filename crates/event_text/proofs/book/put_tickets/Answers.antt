use Rattle.std.proofs.Common.{◌+◌, arith}
use Rattle.event_text.specs.Report.{ticket_line}
use Rattle.event_text.proofs.Numbered.{numbered_more, ticket_here}
use Rattle.event_text.proofs.book.put_tickets.Goals as goal

pub tickets-preserved : goal.tickets-preserved
tickets-preserved c =
    let is = c.in-Some.ensures in
    numbered_more ticket_line c.args.book.now.tickets is.seen is.seen c.tickets.index (c.tickets.index + 1) c.args.text.now.items c.tickets.text.items _ c.tickets.invariant
    (omega arith) (ticket_here c.args.book.now.tickets c.tickets.index is.seen is.found) (omega arith)
    (c.in_ok-put_ticket.ensures (c.tickets.index + 1) is.seen is.shows)
