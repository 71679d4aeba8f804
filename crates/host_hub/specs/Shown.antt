-- what a hub shows of its record
use Rattle.std.specs.Prelude.{◌≡◌, ℕ, ◌+◌, ◌-◌, min, ◌^◌, List, [], ◌∷◌, ◌++◌, Option, Some, length, slice_get}
use Rattle.host_hub.specs.declared.book.BookEntry.{BookEntry}
use Rattle.host_hub.specs.declared.outcome.End.{End}
use Rattle.host_hub.specs.BookSeen.{BookSeen, Seen, ticket_of}
use Rattle.host_hub.specs.Order.{Setting}
use Rattle.host_hub.specs.Record.{Past, Marked, book, next}
use Rattle.host_hub.specs.Hand.{start, ended}
use Rattle.host_hub.specs.Book.{asking_of, outcome_of, tickets}
use Rattle.host_hub.specs.Pieces.{got}
use Rattle.host_hub.specs.Status.{service}
use Rattle.host_hub.specs.Plan.{message_end}

-- this is what is seen of ticket t
pub record ShowsTicket (past : Past) (t : ℕ) (seen : Seen) : Type 0 where
  pub asking : asking_of t past ≡ Some (record { session = seen.session; kind = seen.kind; limit = seen.limit; message = seen.message })
  pub last : seen.last ≡ message_end t past
  pub bytes : seen.bytes ≡ got t past
  pub outcome : seen.outcome ≡ outcome_of t past

-- the entries without their marks
abbrev pub entries_in : List Marked → List BookEntry
entries_in [] = []
entries_in (x ∷ xs) = x.entry ∷ entries_in xs

-- the book of a hub: each ticket, and no other, the entries, and the requests for service
pub record ShowsBook (s : Setting) (past : Past) (seen : BookSeen) : Type 0 where
  pub count : length seen.tickets ≡ tickets past
  pub each : (t : ℕ) (one : Seen) → ticket_of t seen.tickets ≡ Some one → ShowsTicket past t one
  pub entries : seen.entries ≡ entries_in (book s past)
  pub service : seen.service ≡ service past

-- what a hub keeps beside its book: its setting, the marks, the start of each ticket, its end and its next number
pub record HubSeen : Type 0 where
  pub setting : Setting
  pub marked : List Marked
  pub starts : List ℕ
  pub ended : Option End
  pub next : ℕ

pub record ShowsHub (past : Past) (hub : HubSeen) : Type 0 where
  pub marked : hub.marked ≡ book hub.setting past
  pub count : length hub.starts ≡ tickets past
  pub starts : (t : ℕ) (n : ℕ) → slice_get hub.starts t ≡ Some n → n ≡ start (t + 1) past
  pub ended : hub.ended ≡ ended past
  pub next : hub.next ≡ next hub.setting.first past

-- ---- births

-- A hub counts its turns while it runs, up to the greatest number, and each ticket was born at some count: one is born
-- now, and the others were before. So it is in a call that asks,
pub record Births : Type 0 where
  pub turned : ℕ
  pub born : List ℕ

abbrev pub IsBorn : Births → Births → Type 0
IsBorn old new = new ≡ record { turned = old.turned; born = old.born ++ old.turned ∷ [] }

-- and in a turn of a hub that runs. In every other call they stay.
abbrev pub HasTurned : Births → Births → Type 0
HasTurned old new = new ≡ record { turned = min (old.turned + 1) (2 ^ 64 - 1); born = old.born }
