-- what a hub's fields say of its record
use Rattle.std.specs.Prelude.{◌≡◌, ◌≤◌, ℕ, ◌+◌, ◌-◌, true, Option, Some, None, List, [], ◌∷◌, length, slice_get}
use Rattle.host_urbs.specs.Held.{Follows}
use Rattle.host_hub.specs.declared.hub_core.HubCore.{HubCore}
use Rattle.host_hub.specs.declared.limits.TheConstants.{TICKETS_MAX}
use Rattle.host_hub.specs.declared.notes.Mark.{Mark}
use Rattle.host_hub.specs.declared.outcome.End.{End}
use Rattle.host_hub.specs.Order.{Setting}
use Rattle.host_hub.specs.Record.{Past, Marked, book, taken, next}
use Rattle.host_hub.specs.Crossings.{crossings}
use Rattle.host_hub.specs.Hand.{start, ended}
use Rattle.host_hub.specs.Book.{KeepsBook, tickets, live, active, has}
use Rattle.host_hub.specs.BookRoom.{first_open, open_tickets, to_come}
use Rattle.host_hub.specs.Plan.{last_tag}
use Rattle.host_hub.specs.Proper.{AllProper}
use Rattle.host_hub.specs.Refusals.{limits}
use Rattle.host_hub.specs.Shown.{ShowsBook}

-- the marks alone
abbrev pub mark_in : Marked → Mark
mark_in x = record { written = x.written; taken = x.taken }

abbrev pub marks_in : List Marked → List Mark
marks_in [] = []
marks_in (x ∷ xs) = mark_in x ∷ marks_in xs

-- the mark of an entry that is made now
abbrev pub mark_of : HubCore → Mark
mark_of core = record { written = core.urbs.next - core.first; taken = core.taken }

-- a hub that runs keeps room for the mark of giving it up
abbrev pub spare : Option End → ℕ
spare None = 1
spare (Some e) = 0

-- The fields of a hub behind this record, when these bytes were sent: what it was made with, its messages, its book with the
-- marks, starts and births, and its counts. The active ticket is the first that is not settled.
pub record Knows (s : Setting) (past : Past) (sent : List ℕ) (core : HubCore) : Type 0 where
  pub shallow : s.depth ≡ 1
  pub first_number : core.first ≡ s.first
  pub interface : core.ends ≡ s.ends
  pub device : core.urbs.devid ≡ s.devid
  pub follows : Follows s.first (crossings s past) sent core.urbs
  pub shows : ShowsBook s past core.book
  pub marks : core.notes.marks ≡ marks_in (book s past)
  pub all_started : length core.notes.starts ≡ tickets past
  pub starts : (t n : ℕ) → slice_get core.notes.starts t ≡ Some n → n ≡ start (t + 1) past
  pub all_born : length core.notes.births ≡ tickets past
  pub limit_sum : core.limits ≡ limits past
  pub tag : core.tags ≡ last_tag past
  pub answers : core.taken ≡ length (taken past)
  pub over : core.end ≡ ended past
  pub proper : AllProper past
  pub few : tickets past ≤ TICKETS_MAX
  pub lives : live past ≡ open_tickets core.book.tickets
  pub turn : core.active ≡ first_open core.book.tickets
  pub room : to_come core.book.tickets core.book.entries + spare core.end ≤ core.notes.room

-- there is a record of these fields, and this ticket is not settled
pub record HasLive (core : HubCore) (ticket : ℕ) : Type 0 where
  pub setting : Setting
  pub past : Past
  pub sent : List ℕ
  pub knows : Knows setting past sent core
  pub lives : has ticket (live past) ≡ true

-- and the active ticket is not
pub record HasActive (core : HubCore) : Type 0 where
  pub setting : Setting
  pub past : Past
  pub sent : List ℕ
  pub knows : Knows setting past sent core
  pub turn : active past ≡ Some core.active

-- what a refusal goes by
pub record Tells (s : Setting) (past : Past) (core : HubCore) : Type 0 where
  pub over : ended past ≡ core.end
  pub count : tickets past ≡ length core.book.tickets
  pub limit_sum : limits past ≡ core.limits
  pub number : next s.first past ≡ core.urbs.next

-- there is a record of these fields
pub record HasRecord (core : HubCore) : Type 0 where
  pub setting : Setting
  pub past : Past
  pub sent : List ℕ
  pub knows : Knows setting past sent core

-- and its book was kept
pub record HasBook (core : HubCore) : Type 0 where
  pub setting : Setting
  pub past : Past
  pub sent : List ℕ
  pub knows : Knows setting past sent core
  pub keeps : KeepsBook past
