use Rattle.std.proofs.Common.{ap}
use Rattle.host_hub.proofs.Lists.{differ}
use Rattle.host_hub.specs.BookSeen.{BookSeen, seen_of}
use Rattle.host_hub.proofs.Seen.{ticket_there, ticket_none}
use Rattle.host_hub.proofs.book.Book.view.Goals as goal

pub returns-in-Some : goal.returns-in-Some
returns-in-Some c = record {
  seen = seen_of c.in-Some.found.now;
  found = ticket_there c.self.inside.tickets.items c.args.self.now c.deref.result.now c.args.ticket c.in-Some.found.now _
      (ap (λ (b : BookSeen). b.tickets) c.self.view_is) c.deref.ensures.value (differ c.args.ticket 0 c.if-ticket-eq0.false) c.in-Some.ensures.lookup.0 c.in-Some.ensures.lookup.1;
  shows = c.view.ensures;
}

pub returns-in-None : goal.returns-in-None
returns-in-None c =
    ticket_none c.self.inside.tickets.items c.args.self.now c.deref.result.now c.args.ticket (ap (λ (b : BookSeen). b.tickets) c.self.view_is) c.deref.ensures.value
    (differ c.args.ticket 0 c.if-ticket-eq0.false) c.in-None.ensures.lookup.0
