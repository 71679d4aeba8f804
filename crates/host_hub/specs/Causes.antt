-- cancels, clears, and why a ticket settles
use Rattle.std.specs.Prelude.{◌≡◌, ℕ, ◌==◌, ◌<◌, true, Option, Some, None, List, [], ◌∷◌, is_some, if◌then◌else◌}
use Rattle.host_hub.specs.declared.outcome.Outcome.{Outcome}
use Rattle.host_hub.specs.declared.outcome.Outcome.TheVariants as outcome
use Rattle.host_hub.specs.declared.outcome.End.{End}
use Rattle.host_hub.specs.declared.outcome.End.TheVariants as end
use Rattle.host_hub.specs.Order.{Setting}
use Rattle.host_hub.specs.Record.{Happening, Past, Cancelled, Cleared}
use Rattle.host_hub.specs.Outstanding.{Sent}
use Rattle.host_hub.specs.Hand.{ended_by}
use Rattle.host_hub.specs.Book.{or_else, active, is_active, asking_of, outcome_of, or_live, live, has}
use Rattle.host_hub.specs.Status.{awaits}
use Rattle.host_hub.specs.Made.{made_at}

-- The outcome by which a ticket is stopped: its cancel, or a clear while it is the active one. The first of these decides.
abbrev pub stopped_by : ℕ → Past → Happening → Option Outcome → Option Outcome
stopped_by t past (Cancelled u) before = if u == t then or_else before (Some outcome.Cancelled) else before
stopped_by t past (Cleared session) before = if is_active t (active past) then or_else before (Some (outcome.Cleared session)) else before
stopped_by t past _ before = before

abbrev pub reached : ℕ → Past → Option Outcome
reached t [] = None
reached t (x ∷ past) = stopped_by t past x (reached t past)

-- a ticket that was reached is stopped once it waits for nothing
abbrev pub once_free : Option Outcome → List Sent → Option Outcome
once_free stop [] = stop
once_free stop (x ∷ xs) = None

abbrev pub stops : ℕ → Past → Option Outcome
stops t past = once_free (reached t past) (awaits t past)

-- the outcome of the same name
abbrev pub named : End → Outcome
named end.Unplugged = outcome.Unplugged
named (end.DeviceFault x) = outcome.DeviceFault x
named (end.DeviceSays x) = outcome.DeviceSays x
named (end.PeerFault f) = outcome.PeerFault f
named end.LinkFault = outcome.LinkFault
named end.Exhausted = outcome.Exhausted
named end.GivenUp = outcome.GivenUp

abbrev pub ends_as : Option End → Option Outcome
ends_as None = None
ends_as (Some e) = Some (named e)

-- What this settles a ticket as, in this order: an answer that makes its outcome, the hub's end, and that a stopped ticket
-- waits for nothing more.
abbrev pub causes : Setting → ℕ → Past → Happening → Option Outcome
causes s t past x = or_else (made_at s t past x) (or_else (ends_as (ended_by x None)) (stops t (x ∷ past)))

-- the first cause decides
abbrev pub cause : Setting → ℕ → Past → Option Outcome
cause s t [] = None
cause s t (x ∷ past) = or_else (cause s t past) (causes s t past x)

-- a ticket settles by its cause, and where several are to settle they do so in their order
pub record SettleLaw (s : Setting) (past : Past) (t : ℕ) (o : Outcome) : Type 0 where
  pub caused : cause s t past ≡ Some o
  pub order : (u : ℕ) → u < t → has u (live past) ≡ true → cause s u past ≡ None

-- no live ticket has a cause
abbrev pub AreSettled : Setting → Past → Type 0
AreSettled s past = (t : ℕ) → has t (live past) ≡ true → cause s t past ≡ None

-- each ticket's outcome is its cause, and it is live where there is none
abbrev pub AreCaused : Setting → Past → Type 0
AreCaused s past = (t : ℕ) → is_some (asking_of t past) ≡ true → outcome_of t past ≡ or_live (cause s t past)
