-- what a book has room for, so that what comes takes no memory
use Rattle.std.specs.Prelude.{◌≡◌, ◌≤◌, ℕ, ◌+◌, ◌==◌, suc, Bool, true, false, ◌||◌, List, [], ◌∷◌, length, vec_capacity, if◌then◌else◌}
use Rattle.std.specs.Global.{Vec}
use Rattle.host_hub.specs.declared.book.BookEntry.{BookEntry}
use Rattle.host_hub.specs.declared.book.BookEntry.TheVariants as entry
use Rattle.host_hub.specs.declared.outcome.Outcome.{Outcome}
use Rattle.host_hub.specs.declared.outcome.Outcome.TheVariants.{Live}
use Rattle.host_hub.specs.declared.ticket.Ticket.{Ticket}
use Rattle.host_hub.specs.BookSeen.{Seen, all_seen}

-- an outcome that a ticket has as long as it is not settled
abbrev pub is_open : Outcome → Bool
is_open Live = true
is_open outcome = false

-- how many of these tickets are not settled
abbrev pub open_count : List Seen → ℕ
open_count [] = 0
open_count (seen ∷ tickets) = if is_open seen.outcome then suc (open_count tickets) else open_count tickets

-- each ticket that is not settled has room for as many bytes as its limit says
abbrev pub HaveRoom : List Ticket → Type 0
HaveRoom [] = Unit {0}
HaveRoom (ticket ∷ tickets) = (is_open ticket.outcome ≡ true → ticket.limit ≤ vec_capacity ticket.bytes) × HaveRoom tickets

-- it was entered that the hub is given up
abbrev pub has_given_up : List BookEntry → Bool
has_given_up [] = false
has_given_up (entry.GaveUp ∷ entries) = true
has_given_up (e ∷ entries) = has_given_up entries

-- it was entered that this ticket is cancelled
abbrev pub has_cancel : ℕ → List BookEntry → Bool
has_cancel ticket [] = false
has_cancel ticket (entry.Cancel other ∷ entries) = (other == ticket) || has_cancel ticket entries
has_cancel ticket (e ∷ entries) = has_cancel ticket entries

-- ---- which tickets are not settled

-- whether each of these is not
abbrev pub opens : List Seen → List Bool
opens [] = []
opens (seen ∷ tickets) = is_open seen.outcome ∷ opens tickets

-- the numbers of those that are not, where they are numbered from this one on
abbrev pub open_from : (number : ℕ) → List Bool → List ℕ
open_from number [] = []
open_from number (true ∷ rest) = number ∷ open_from (number + 1) rest
open_from number (false ∷ rest) = open_from (number + 1) rest

-- the first of these, or the number behind them all
abbrev pub first_open_from : (number : ℕ) → List Bool → ℕ
first_open_from number [] = number
first_open_from number (true ∷ rest) = number
first_open_from number (false ∷ rest) = first_open_from (number + 1) rest

-- of the tickets of a book, which are numbered from 1
abbrev pub open_tickets : List Seen → List ℕ
open_tickets tickets = open_from 1 (opens tickets)

abbrev pub first_open : List Seen → ℕ
first_open tickets = first_open_from 1 (opens tickets)

-- ---- the entries that are still to come, beside those of calls that take memory

-- of a ticket that is not settled: it is settled, and may be cancelled once before that
abbrev pub comes_of : (cancelled : Bool) → ℕ
comes_of true = 1
comes_of false = 2

abbrev pub comes_from : (number : ℕ) → List Bool → List BookEntry → ℕ
comes_from number [] entries = 0
comes_from number (true ∷ rest) entries = comes_of (has_cancel number entries) + comes_from (number + 1) rest entries
comes_from number (false ∷ rest) entries = comes_from (number + 1) rest entries

abbrev pub to_come : List Seen → List BookEntry → ℕ
to_come tickets entries = comes_from 1 (opens tickets) entries

-- of a hub: it may be given up once
abbrev pub ending : (given_up : Bool) → ℕ
ending true = 0
ending false = 1

pub record IsRoomy (kept : List Ticket) (made : Vec BookEntry) (live : ℕ) : Type 0 where
  pub count : live ≡ open_count (all_seen kept)
  pub bytes : HaveRoom kept
  pub entries : length made.items + (to_come (all_seen kept) made.items + ending (has_given_up made.items)) ≤ vec_capacity made
