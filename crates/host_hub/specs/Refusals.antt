-- why a hub asks or clears nothing: the first cause that holds
use Rattle.std.specs.Prelude.{ℕ, ◌+◌, ◌==◌, nat_lt, nat_le, Bool, true, false, ◌||◌, ◌&&◌, not, Option, Some, None, [], ◌∷◌, length, if◌then◌else◌}
use Rattle.host_hub.specs.declared.kind.Kind.{Kind}
use Rattle.host_hub.specs.declared.kind.Kind.TheVariants as kind
use Rattle.host_hub.specs.declared.limits.TheConstants.{SESSIONS, MESSAGE_MAX, LIMIT_MAX, TICKETS_MAX, LIMITS_MAX, LAST_ASK}
use Rattle.host_hub.specs.declared.outcome.End.{End}
use Rattle.host_hub.specs.declared.refusals.AskFault.{AskFault}
use Rattle.host_hub.specs.declared.refusals.AskFault.TheVariants as fault
use Rattle.host_hub.specs.declared.refusals.ClearFault.{ClearFault}
use Rattle.host_hub.specs.declared.refusals.ClearFault.TheVariants as clear_fault
use Rattle.host_hub.specs.Order.{Setting}
use Rattle.host_hub.specs.Record.{Happening, Past, Asking, Asked, next}
use Rattle.host_hub.specs.Hand.{ended}
use Rattle.host_hub.specs.Book.{tickets}

-- ---- what a call asks for

-- TRIGGER, status reads and remote requests are USB488's
abbrev pub needs_488 : Kind → Bool
needs_488 kind.Ask = false
needs_488 kind.Tell = false
needs_488 kind = true

abbrev pub has_message : Kind → Bool
has_message kind = not (needs_488 kind)

abbrev pub has_limit : Kind → Bool
has_limit kind.Ask = true
has_limit kind = false

-- the sum of the limits of all asks
abbrev pub limit_by : Happening → ℕ → ℕ
limit_by (Asked t asking) sum = sum + asking.limit
limit_by _ sum = sum

abbrev pub limits : Past → ℕ
limits [] = 0
limits (x ∷ past) = limit_by x (limits past)

abbrev pub is_full : Past → Asking → Bool
is_full past asking = (tickets past == TICKETS_MAX) || nat_lt LIMITS_MAX (limits past + asking.limit)

-- ---- the first cause; want of memory comes behind all others

abbrev pub ask_fault_while : Setting → Option End → Past → Asking → Option AskFault
ask_fault_while s (Some e) past asking = Some (fault.Down e)
ask_fault_while s None past asking =
    if nat_le SESSIONS asking.session then Some fault.NoSession
    else if needs_488 asking.kind && (s.ends.protocol == 0) then Some fault.No488
    else if has_message asking.kind && (length asking.message == 0) then Some fault.EmptyMessage
    else if has_message asking.kind && nat_lt MESSAGE_MAX (length asking.message) then Some fault.LongMessage
    else if has_limit asking.kind && ((asking.limit == 0) || nat_lt LIMIT_MAX asking.limit) then Some fault.BadLimit
    else if is_full past asking then Some fault.Full
    else if nat_lt LAST_ASK (next s.first past) then Some fault.Exhausted
    else None

abbrev pub ask_fault : Setting → Past → Asking → Option AskFault
ask_fault s past asking = ask_fault_while s (ended past) past asking

abbrev pub clear_fault_while : Option End → (session : ℕ) → Option ClearFault
clear_fault_while (Some e) session = Some (clear_fault.Down e)
clear_fault_while None session = if nat_le SESSIONS session then Some clear_fault.NoSession else None

abbrev pub clear_fault_of : Past → (session : ℕ) → Option ClearFault
clear_fault_of past session = clear_fault_while (ended past) session
