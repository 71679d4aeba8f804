-- the book as contracts see it: the tickets in their order, the entries, and the requests for service
use Rattle.std.specs.Prelude.{◌≡◌, ◌≤◌, ℕ, ◌-◌, ◌==◌, Option, Some, None, List, [], ◌∷◌, length, slice_get, if◌then◌else◌}
use Rattle.host_hub.specs.declared.book.BookEntry.{BookEntry}
use Rattle.host_hub.specs.declared.kind.Kind.{Kind}
use Rattle.host_hub.specs.declared.outcome.Outcome.{Outcome}
use Rattle.host_hub.specs.declared.service.Service.{Service}
use Rattle.host_hub.specs.declared.ticket.Ticket.{Ticket}
use Rattle.host_hub.specs.declared.view.View.{View}

-- a ticket as its views show it
pub record Seen : Type 0 where
  pub session : ℕ
  pub kind : Kind
  pub limit : ℕ
  pub last : ℕ
  pub message : List ℕ
  pub bytes : List ℕ
  pub outcome : Outcome

pub record BookSeen : Type 0 where
  pub tickets : List Seen
  pub entries : List BookEntry
  pub service : Service

abbrev pub seen_of : Ticket → Seen
seen_of ticket = record {
  session = ticket.session;
  kind = ticket.kind;
  limit = ticket.limit;
  last = ticket.last;
  message = ticket.message;
  bytes = ticket.bytes.items;
  outcome = ticket.outcome;
}

abbrev pub all_seen : List Ticket → List Seen
all_seen [] = []
all_seen (ticket ∷ tickets) = seen_of ticket ∷ all_seen tickets

-- the ticket of this number, where they are numbered from 1
abbrev pub ticket_of : ℕ → List Seen → Option Seen
ticket_of ticket tickets = if ticket == 0 then None else slice_get tickets (ticket - 1)

-- there is a ticket of this number
pub record IsTicket (book : BookSeen) (ticket : ℕ) : Type 0 where
  pub first : 1 ≤ ticket
  pub last : ticket ≤ length book.tickets

-- the view of a ticket
pub record Shows (ticket : ℕ) (seen : Seen) (view : View) : Type 0 where
  pub number : view.ticket ≡ ticket
  pub session : view.session ≡ seen.session
  pub kind : view.kind ≡ seen.kind
  pub limit : view.limit ≡ seen.limit
  pub last : view.last ≡ seen.last
  pub message : view.message.now ≡ seen.message
  pub bytes : view.bytes.now ≡ seen.bytes
  pub outcome : view.outcome ≡ seen.outcome

-- there is such a ticket, and this is its view
pub record IsView (ticket : ℕ) (tickets : List Seen) (view : View) : Type 0 where
  pub seen : Seen
  pub found : ticket_of ticket tickets ≡ Some seen
  pub shows : Shows ticket seen view
