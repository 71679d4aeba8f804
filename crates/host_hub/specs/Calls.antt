-- which happenings a call of a hub adds to its record
use Rattle.std.specs.Prelude.{◌≡◌, ◌≢◌, ℕ, ◌+◌, ◌==◌, ◌&&◌, not, Bool, false, Option, Some, None, List, [], ◌∷◌, ◌++◌, if◌then◌else◌}
use Rattle.std.specs.Bool.{MatchBool}
use Rattle.host_hub.specs.declared.outcome.End.TheVariants as end
use Rattle.host_hub.specs.Order.{Setting}
use Rattle.host_hub.specs.Record.{Happening, Past, Wrote, Took, Fell, Stopped, Recovers, Asked, Cancelled, Cleared, GaveUp, Settled, Asking}
use Rattle.host_hub.specs.Book.{tickets, live, is_live, is_cancelled, asking_of}
use Rattle.host_hub.specs.Law.{Kept}

abbrev pub All : (Happening → Type 0) → Past → Type 0
All Is [] = Unit {0}
All Is (x ∷ past) = Is x × All Is past

-- ---- a call that makes an entry

-- what a hub does by itself in it: it writes, begins a recovery, settles, and ends where no number is left
abbrev pub IsOwn : Happening → Type 0
IsOwn (Wrote number owner order) = Unit {0}
IsOwn Recovers = Unit {0}
IsOwn (Settled t outcome) = Unit {0}
IsOwn (Stopped e) = e ≡ end.Exhausted
IsOwn x = ⊥

-- the entry, and then what the hub does by itself
pub record AddsEntry (x : Happening) (more : Past) : Type 0 where
  pub own : Past
  pub by_itself : All IsOwn own
  pub is : more ≡ own ++ x ∷ []

-- an ask and its kin
abbrev pub AddsAsk : Past → Asking → Past → Type 0
AddsAsk past asking more = AddsEntry (Asked (tickets past + 1) asking) more

-- a cancel enters itself where the ticket is live and was not cancelled before, and else nothing
abbrev pub AddsCancel : Past → (t : ℕ) → Past → Type 0
AddsCancel past t more = MatchBool (is_live t past && not (is_cancelled t past)) (AddsEntry (Cancelled t) more) (more ≡ [])

-- the live tickets of a session, in their order
abbrev pub is_of_session : ℕ → Option Asking → Bool
is_of_session session None = false
is_of_session session (Some asking) = asking.session == session

abbrev pub of_session : (session : ℕ) → Past → List ℕ → List ℕ
of_session session past [] = []
of_session session past (t ∷ ts) =
    if is_of_session session (asking_of t past) then t ∷ of_session session past ts else of_session session past ts

-- a cancel of each, one behind another
abbrev pub AddsCancels : Past → List ℕ → Past → Type 0
AddsCancels past [] more = more ≡ []
AddsCancels past (t ∷ ts) more = (first rest : Past) × (more ≡ rest ++ first) × AddsCancel past t first × AddsCancels (first ++ past) ts rest

abbrev pub AddsCancelSession : Past → (session : ℕ) → Past → Type 0
AddsCancelSession past session more = AddsCancels past (of_session session past (live past)) more

abbrev pub AddsClear : (session : ℕ) → Past → Type 0
AddsClear session more = AddsEntry (Cleared session) more

-- a hub that is given up ends, and settles what is live
abbrev pub IsOfGivingUp : Happening → Type 0
IsOfGivingUp (Stopped e) = e ≡ end.GivenUp
IsOfGivingUp (Settled t outcome) = Unit {0}
IsOfGivingUp x = ⊥

pub record AddsGivingUp (more : Past) : Type 0 where
  pub own : Past
  pub by_itself : All IsOfGivingUp own
  pub is : more ≡ own ++ GaveUp ∷ []

-- ---- a turn

-- it adds answers, and what the hub does by itself, but no other entry
abbrev pub IsOfTurn : Happening → Type 0
IsOfTurn (Took answer) = Unit {0}
IsOfTurn (Fell answer e) = Unit {0}
IsOfTurn (Wrote number owner order) = Unit {0}
IsOfTurn Recovers = Unit {0}
IsOfTurn (Settled t outcome) = Unit {0}
IsOfTurn (Stopped e) = e ≢ end.GivenUp
IsOfTurn x = ⊥

-- ---- the record goes on

-- by what a call adds, to a record that is kept
pub record GoesOn (s : Setting) (Adds : Past → Type 0) (past : Past) : Type 0 where
  pub more : Past
  pub adds : Adds more
  pub kept : Kept s (more ++ past)
