-- the submits of a recovery with their answers (USBTMC 1.0, sections 4.2.1.2 to 4.2.1.7)
use Rattle.std.specs.Prelude.{ℕ, pos, nat_lt, Bool, true, false, Option, Some, None, List, [], ◌∷◌, ◌++◌, slice_index, if◌then◌else◌}
use Rattle.std.specs.Ordering.{int_eq}
use Rattle.tmc_base.specs.declared.limits.TheConstants.{BULK_IN_SUBMIT}
use Rattle.usbip_wire.specs.declared.ret_submit.RetSubmitHead.{RetSubmitHead}
use Rattle.usbip_wire.specs.Down as down
use Rattle.host_recover.specs.Letter.{Letter, Asked, Cleared, Drained, Ending, Full, Short, Faulty, says_of}
use Rattle.host_recover.specs.Letter as recovery
use Rattle.host_hub.specs.Order.{Order, Read, Class, ClearHalt, Unlink}
use Rattle.host_hub.specs.Record.{Happening, Past, Wrote, Took, Recovers, Owner, Of, Recovery}
use Rattle.host_hub.specs.Outstanding.{Sent, find, outstanding}

-- the order that is a submit of a recovery
abbrev pub order_of : recovery.Submit → Order
order_of (recovery.Ask request) = Class request
order_of (recovery.Clear endpoint) = ClearHalt endpoint
order_of recovery.Read = Read

abbrev pub ending_of : RetSubmitHead → Ending
ending_of head = if int_eq head.status (pos 0) then (if nat_lt head.actual BULK_IN_SUBMIT then Short else Full) else Faulty

-- a submit and its answer are a letter
abbrev pub letter_of : Order → RetSubmitHead → (bytes : List ℕ) → List Letter
letter_of (Class request) head bytes = Asked request (says_of request (slice_index bytes 0) (slice_index bytes 1)) ∷ []
letter_of (ClearHalt endpoint) head bytes = Cleared endpoint ∷ []
letter_of Read head bytes = Drained (ending_of head) ∷ []
letter_of order head bytes = []

abbrev pub is_recovery : Owner → Bool
is_recovery (Of t) = false
is_recovery Recovery = true

abbrev pub letter_in : Option Sent → RetSubmitHead → (bytes : List ℕ) → List Letter
letter_in None head bytes = []
letter_in (Some x) head bytes = if is_recovery x.owner then letter_of x.order head bytes else []

-- a submit of a ticket
abbrev pub is_ticket_submit : Owner → Order → Bool
is_ticket_submit (Of t) (Unlink target) = false
is_ticket_submit (Of t) order = true
is_ticket_submit Recovery order = false

abbrev pub letters_by : Past → Happening → List Letter → List Letter
letters_by past (Wrote number owner order) so_far = if is_ticket_submit owner order then [] else so_far
letters_by past Recovers so_far = []
letters_by past (Took (down.RetSubmit head bytes)) so_far = so_far ++ letter_in (find head.seqnum (outstanding past)) head bytes
letters_by past _ so_far = so_far

-- the letters so far of the recovery that began last, in their order
abbrev pub letters : Past → List Letter
letters [] = []
letters (x ∷ past) = letters_by past x (letters past)
