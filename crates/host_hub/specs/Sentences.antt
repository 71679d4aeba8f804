-- what each reader can check of a hub against its lists and marks alone
use Rattle.std.specs.Prelude.{◌≡◌, ◌⊎◌, ◌<◌, ◌≤◌, ◌==◌, ℕ, Bool, true, false, ◌&&◌, ◌||◌, not, Option, Some, None, is_some, List, [], ◌∷◌, if◌then◌else◌}
use Rattle.tmc_wire.specs.declared.class_request.ClassRequest.TheVariants as class
use Rattle.host_hub.specs.declared.kind.Kind.{Kind}
use Rattle.host_hub.specs.declared.kind.Kind.TheVariants as kind
use Rattle.host_hub.specs.declared.outcome.Outcome.{Outcome}
use Rattle.host_hub.specs.declared.outcome.Outcome.TheVariants as outcome
use Rattle.host_hub.specs.declared.outcome.End.TheVariants as end
use Rattle.host_hub.specs.Order.{Class, Order, Setting}
use Rattle.host_hub.specs.Record.{Happening, Past, Recovers, Settled, Stopped, Wrote}
use Rattle.host_hub.specs.Hand.{ended, in_hand, start}
use Rattle.host_hub.specs.Outstanding.{Sent, outstanding, own_bulk}
use Rattle.host_hub.specs.Book.{is_live}
use Rattle.host_hub.specs.Pieces.{pieces}
use Rattle.host_hub.specs.Causes.{reached}
use Rattle.host_hub.specs.Unlinks.{is_deep, is_over}
use Rattle.host_hub.specs.Ends.{end_due}

-- it is one of these
abbrev pub IsAmong : {A : Type 0} → A → List A → Type 0
IsAmong x [] = ⊥
IsAmong x (y ∷ ys) = (x ≡ y) ⊎ IsAmong x ys

-- Which outcomes a settled ticket may have, by its kind. A cancel, a clear, a halt, a fault and each end of the hub come to
-- any.
abbrev pub MaySettleAs : Kind → Outcome → Type 0
MaySettleAs kind outcome.Live = ⊥
MaySettleAs kind.Ask outcome.Complete = Unit {0}
MaySettleAs kind.Ask outcome.Limit = Unit {0}
MaySettleAs kind outcome.Complete = ⊥
MaySettleAs kind outcome.Limit = ⊥
MaySettleAs kind.Tell outcome.Done = Unit {0}
MaySettleAs kind.Trigger outcome.Done = Unit {0}
MaySettleAs (kind.Remote act) outcome.Done = Unit {0}
MaySettleAs kind outcome.Done = ⊥
MaySettleAs kind.Status (outcome.Status byte) = Unit {0}
MaySettleAs kind (outcome.Status byte) = ⊥
MaySettleAs kind other = Unit {0}

-- what a hub does of itself: it writes, begins a recovery, settles a ticket, and ends where it has to, or for want of numbers
abbrev pub IsItsOwn : Past → Happening → Type 0
IsItsOwn past (Wrote number owner order) = Unit {0}
IsItsOwn past Recovers = Unit {0}
IsItsOwn past (Settled t o) = Unit {0}
IsItsOwn past (Stopped e) = (end_due past ≡ Some e) ⊎ (e ≡ end.Exhausted)
IsItsOwn past x = ⊥

-- ---- which submits are a ticket's, by their numbers

-- what was written with this number, and for whom
abbrev pub wrote_by : ℕ → Happening → Option Sent → Option Sent
wrote_by n (Wrote number owner order) before = if number == n then Some (record { number = number; owner = owner; order = order }) else before
wrote_by n _ before = before

abbrev pub wrote_at : ℕ → Past → Option Sent
wrote_at n [] = None
wrote_at n (x ∷ past) = wrote_by n x (wrote_at n past)

-- an INITIATE request
abbrev pub is_initiate : Order → Bool
is_initiate (Class (class.AbortOut tag)) = true
is_initiate (Class (class.AbortIn tag)) = true
is_initiate (Class class.Clear) = true
is_initiate order = false

-- the number stands from the ticket's start on, before the next greater start and before the next INITIATE
pub record IsNumberedFor (past : Past) (t n : ℕ) : Type 0 where
  pub from : start t past ≤ n
  pub starts : (u : ℕ) → start t past < start u past → n < start u past
  pub initiates : (m : ℕ) (x : Sent) → wrote_at m past ≡ Some x → is_initiate x.order ≡ true → start t past ≤ m → n < m

-- ---- at a depth above 1, a submit that was made ahead and is of no more use

-- It is one of the bulk submits of the ticket in hand, which is settled, or whose piece has ended while nothing stopped it.
-- The hub runs, and has not to end.
pub record IsLeft (s : Setting) (past : Past) (t : ℕ) (x : Sent) : Type 0 where
  pub deep : is_deep s ≡ true
  pub running : ended past ≡ None
  pub going : end_due past ≡ None
  pub hand : in_hand past ≡ Some t
  pub unstopped : (is_live t past && is_some (reached t past)) ≡ false
  pub over : (not (is_live t past) || is_over (pieces t past)) ≡ true
  pub among : IsAmong x (own_bulk t (outstanding past))
