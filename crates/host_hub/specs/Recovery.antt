-- which recovery is called for, and how far the one has come that runs (USBTMC 1.0, sections 4.2.1.2 to 4.2.1.7)
use Rattle.std.specs.Prelude.{◌≡◌, ℕ, ℤ, pos, Bool, true, false, ◌&&◌, ◌||◌, not, Option, Some, None, List, [], ◌∷◌, if◌then◌else◌}
use Rattle.std.specs.Ordering.{int_eq}
use Rattle.usbip_wire.specs.declared.ret_submit.RetSubmitHead.{RetSubmitHead}
use Rattle.usbip_wire.specs.Down as down
use Rattle.tmc_wire.specs.declared.class_request.ClassRequest.TheVariants as class
use Rattle.host_recover.specs.declared.need.Need.{Need}
use Rattle.host_recover.specs.declared.need.Need.TheVariants as need
use Rattle.host_recover.specs.Letter.{Letter, Endpoint, BulkIn, Notify, BulkOut, Submit}
use Rattle.host_recover.specs.Words.{Has, words_of}
use Rattle.host_recover.specs.Next.{IsNext}
use Rattle.host_hub.specs.Order.{Order, Class, ClearHalt, is_listen, is_read}
use Rattle.host_hub.specs.Record.{Happening, Past, Wrote, Took, Recovers, Cleared}
use Rattle.host_hub.specs.Hand.{in_hand}
use Rattle.host_hub.specs.Outstanding.{Sent, find, outstanding}
use Rattle.host_hub.specs.Book.{active}
use Rattle.host_hub.specs.Status.{listens}
use Rattle.host_hub.specs.Made.{stalled}
use Rattle.host_hub.specs.Letters.{order_of, is_ticket_submit, letters}
use Rattle.host_hub.specs.Needs.{need_of}

-- A full clear was called for, and none has begun since: by a clear, or by a fault of an Interrupt-IN submit that concerns
-- no ticket.
abbrev pub is_heard : Option ℕ → Past → Bool
is_heard None past = false
is_heard (Some t) past = listens t past

abbrev pub is_idle_fault : Option Sent → Past → (status : ℤ) → Bool
is_idle_fault None past status = false
is_idle_fault (Some x) past status = is_listen x.order && (not (int_eq status (pos 0)) && not (is_heard (active past) past))

abbrev pub serves : Order → Bool → Bool
serves (Class class.Clear) before = false
serves order before = before

abbrev pub called_by : Past → Happening → Bool → Bool
called_by past (Cleared session) before = true
called_by past (Took (down.RetSubmit head bytes)) before = is_idle_fault (find head.seqnum (outstanding past)) past head.status || before
called_by past (Wrote number owner order) before = serves order before
called_by past _ before = before

abbrev pub is_called : Past → Bool
is_called [] = false
is_called (x ∷ past) = called_by past x (is_called past)

-- a recovery has begun behind the ticket in hand
abbrev pub served_by : Happening → Bool → Bool
served_by (Wrote number owner order) before = if is_ticket_submit owner order then false else before
served_by Recovers before = true
served_by _ before = before

abbrev pub is_served : Past → Bool
is_served [] = true
is_served (x ∷ past) = served_by x (is_served past)

-- the recovery that is called for and has not begun
abbrev pub wanted : Past → Option Need
wanted past = if is_called past then Some need.Full else if is_served past then None else need_of (in_hand past) past

-- the one that began last, where no ticket has begun since
abbrev pub running_by : Past → Happening → Option Need → Option Need
running_by past Recovers before = wanted past
running_by past (Wrote number owner order) before = if is_ticket_submit owner order then None else before
running_by past _ before = before

abbrev pub running : Past → Option Need
running [] = None
running (x ∷ past) = running_by past x (running past)

-- its word is whole
abbrev pub IsWholeFor : Option Need → List Letter → Type 0
IsWholeFor None letters = letters ≡ []
IsWholeFor (Some called) letters = Has (words_of called) letters

abbrev pub IsWhole : Past → Type 0
IsWhole past = IsWholeFor (running past) (letters past)

-- the recoveries that were called for are over
abbrev pub AreRecovered : Past → Type 0
AreRecovered past = IsWhole past × (wanted past ≡ None)

-- ---- its next submit

-- an endpoint was answered with a stall since its halt was cleared last
abbrev pub is_same : Endpoint → Endpoint → Bool
is_same BulkIn BulkIn = true
is_same Notify Notify = true
is_same BulkOut BulkOut = true
is_same one other = false

abbrev pub clears : Endpoint → Order → Bool
clears endpoint (ClearHalt e) = is_same endpoint e
clears endpoint order = false

abbrev pub halt_after : Endpoint → (Order → Bool) → Option Sent → RetSubmitHead → Bool → Bool
halt_after endpoint is_at None head before = before
halt_after endpoint is_at (Some x) head before =
    if is_at x.order && int_eq head.status stalled then true
    else if clears endpoint x.order then false
    else before

abbrev pub halted_by : Endpoint → (Order → Bool) → Past → Happening → Bool → Bool
halted_by endpoint is_at past (Took (down.RetSubmit head bytes)) before = halt_after endpoint is_at (find head.seqnum (outstanding past)) head before
halted_by endpoint is_at past _ before = before

abbrev pub in_halted : Past → Bool
in_halted [] = false
in_halted (x ∷ past) = halted_by BulkIn is_read past x (in_halted past)

abbrev pub notify_halted : Past → Bool
notify_halted [] = false
notify_halted (x ∷ past) = halted_by Notify is_listen past x (notify_halted past)

-- this submit may be the next one of the recovery that runs
abbrev pub MayComeFor : Option Need → Past → Submit → Type 0
MayComeFor None past submit = ⊥
MayComeFor (Some called) past submit = IsNext called (letters past) (in_halted past) (notify_halted past) submit

pub record MayCome (past : Past) (order : Order) : Type 0 where
  pub submit : Submit
  pub is : order ≡ order_of submit
  pub next : MayComeFor (running past) past submit
