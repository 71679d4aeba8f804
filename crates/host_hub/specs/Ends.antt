-- why a hub ends
use Rattle.std.specs.Prelude.{ℕ, ℤ, pos, neg_ℤ, ◌==◌, nat_lt, Bool, true, false, ◌&&◌, ◌||◌, Option, Some, None, List, [], ◌∷◌, slice_index, if◌then◌else◌}
use Rattle.std.specs.Ordering.{int_eq}
use Rattle.tmc_base.specs.declared.field.Field.{Field}
use Rattle.usb_setup.specs.declared.ends.Ends.{Ends}
use Rattle.usbip_wire.specs.declared.urb.Dir.{Dir}
use Rattle.usbip_wire.specs.declared.urb.Dir.TheVariants.{Out, In}
use Rattle.usbip_wire.specs.declared.ret_submit.RetSubmitHead.{RetSubmitHead}
use Rattle.usbip_wire.specs.Down as down
use Rattle.tmc_wire.specs.declared.class_request.ClassRequest.{ClassRequest}
use Rattle.host_recover.specs.Goes.{is_stuck}
use Rattle.host_recover.specs.Letter.{says_of}
use Rattle.host_hub.specs.declared.outcome.End.{End}
use Rattle.host_hub.specs.declared.outcome.End.TheVariants as end
use Rattle.host_hub.specs.Order.{Order, Read, Class, Setting, endpoint_of, way_of, is_bulk}
use Rattle.host_hub.specs.Record.{Happening, Past, Took, GaveUp, Owner, Of, Recovery}
use Rattle.host_hub.specs.Hand.{is_of}
use Rattle.host_hub.specs.Outstanding.{Sent, find, outstanding}
use Rattle.host_hub.specs.Book.{or_else}
use Rattle.host_hub.specs.Faults.{number_field, refused, answer_fault}

-- ---- an answer ends the hub

-- ENODEV and ESHUTDOWN: the device is gone
abbrev pub is_gone : ℤ → Bool
is_gone status = int_eq status (neg_ℤ (pos 19)) || int_eq status (neg_ℤ (pos 108))

-- an endpoint is a number and a direction (USB 2.0, section 5.3.1)
abbrev pub same_way : Dir → Dir → Bool
same_way Out Out = true
same_way In In = true
same_way one other = false

abbrev pub same_endpoint : Ends → Order → Order → Bool
same_endpoint ends one other = same_way (way_of one) (way_of other) && (endpoint_of ends one == endpoint_of ends other)

-- a bulk submit of the same ticket on the same endpoint with a lower number is not answered
abbrev pub is_before : Ends → (t number : ℕ) → Order → List Sent → Bool
is_before ends t number order [] = false
is_before ends t number order (x ∷ xs) =
    (is_of t x.owner && (is_bulk x.order && (nat_lt x.number number && same_endpoint ends x.order order)))
    || is_before ends t number order xs

-- an endpoint answers its submits in their order
abbrev pub comes_early : Ends → Sent → Owner → List Sent → Bool
comes_early ends x (Of t) xs = is_bulk x.order && is_before ends t x.number x.order xs
comes_early ends x Recovery xs = false

abbrev pub as_end : Option Field → Option End
as_end None = None
as_end (Some field) = Some (end.PeerFault field)

-- a request of a recovery was answered with status 0: its answer is too short, or the clear does not go on from it
abbrev pub stuck_end : ClassRequest → (bytes : List ℕ) → Option End
stuck_end request bytes =
    if is_stuck request (says_of request (slice_index bytes 0) (slice_index bytes 1)) then Some (end.DeviceSays (slice_index bytes 0)) else None

abbrev pub class_ends : ClassRequest → List ℕ → Option Field → Option End
class_ends request bytes (Some field) = Some (end.PeerFault field)
class_ends request bytes None = stuck_end request bytes

-- a submit of a recovery was answered
abbrev pub recovery_ends : Order → RetSubmitHead → (bytes : List ℕ) → Option End
recovery_ends Read head bytes = None
recovery_ends (Class request) head bytes =
    if int_eq head.status (pos 0) then class_ends request bytes (answer_fault request bytes) else Some (end.DeviceFault head.status)
recovery_ends order head bytes = if int_eq head.status (pos 0) then None else Some (end.DeviceFault head.status)

abbrev pub owned_ends : Setting → Owner → Order → Past → RetSubmitHead → (bytes : List ℕ) → Option End
owned_ends s (Of t) order past head bytes = if int_eq head.status (pos 0) then as_end (refused s t order past head bytes) else None
owned_ends s Recovery order past head bytes = recovery_ends order head bytes

abbrev pub submit_ends : Setting → Option Sent → Past → RetSubmitHead → (bytes : List ℕ) → Option End
submit_ends s None past head bytes = None
submit_ends s (Some x) past head bytes =
    if comes_early s.ends x x.owner (outstanding past) then Some (end.PeerFault number_field)
    else if is_gone head.status then Some end.Unplugged
    else owned_ends s x.owner x.order past head bytes

-- the end that an answer makes
abbrev pub ends_by : Setting → Past → down.Message → Option End
ends_by s past (down.RetSubmit head bytes) = submit_ends s (find head.seqnum (outstanding past)) past head bytes
ends_by s past (down.RetUnlink head) = if is_gone head.status then Some end.Unplugged else None

-- ---- the hub has to end, once every ticket that has a cause is settled

abbrev pub fault_end : Option Sent → (status : ℤ) → Option End
fault_end None status = None
fault_end (Some x) status = if is_bulk x.order then (if int_eq status (pos 0) then None else Some (end.DeviceFault status)) else None

-- It was given up; or a bulk submit was answered with another status than 0, from which it does not recover.
abbrev pub end_by : Past → Happening → Option End → Option End
end_by past GaveUp before = or_else before (Some end.GivenUp)
end_by past (Took (down.RetSubmit head bytes)) before = or_else before (fault_end (find head.seqnum (outstanding past)) head.status)
end_by past _ before = before

abbrev pub end_due : Past → Option End
end_due [] = None
end_due (x ∷ past) = end_by past x (end_due past)
