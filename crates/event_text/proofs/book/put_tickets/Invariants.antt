use Rattle.std.proofs.Common.{◌≡◌, ◌++◌, take}
use Rattle.event_text.specs.Report.{numbered, ticket_line}
use Rattle.event_text.proofs.book.put_tickets.Given as goal

abbrev pub invariant-tickets : goal.invariant-tickets
invariant-tickets l = l.text.items ≡ l.fn.text.items ++ numbered ticket_line 1 (take l.index l.book.tickets)
