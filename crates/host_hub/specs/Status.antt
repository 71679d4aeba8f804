-- status reads: the packets of Interrupt-IN, to which read they belong, and requests for service (USB488 1.0, sections 3.4
-- and 4.3.1)
use Rattle.std.specs.Prelude.{ℕ, pos, ◌==◌, ◌+◌, ◌-◌, ◌^◌, nat_lt, min, Bool, true, false, ◌&&◌, ◌||◌, not, Option, Some, None, is_some, List, [], ◌∷◌, slice_index, if◌then◌else◌}
use Rattle.std.specs.Ordering.{int_eq}
use Rattle.usbip_wire.specs.declared.ret_submit.RetSubmitHead.{RetSubmitHead}
use Rattle.usbip_wire.specs.Down as down
use Rattle.tmc_wire.specs.declared.class_request.ClassRequest.TheVariants as class
use Rattle.tmc_wire.specs.ClassStatus.{STATUS_SUCCESS}
use Rattle.host_hub.specs.declared.kind.Kind.{Kind}
use Rattle.host_hub.specs.declared.kind.Kind.TheVariants as kind
use Rattle.host_hub.specs.declared.service.Service.{Service}
use Rattle.host_hub.specs.Order.{Order, Class, Setting, is_listen}
use Rattle.host_hub.specs.Record.{Happening, Past, Wrote, Took, Settled, Asking, Owner, Of, Recovery}
use Rattle.host_hub.specs.Hand.{is_of, is_begun}
use Rattle.host_hub.specs.Outstanding.{Sent, find, outstanding, involved}
use Rattle.host_hub.specs.Book.{or_else, active, is_active, asking_of, is_live}

abbrev pub is_status_kind : Kind → Bool
is_status_kind kind.Status = true
is_status_kind kind = false

abbrev pub is_status : Option Asking → Bool
is_status None = false
is_status (Some asking) = is_status_kind asking.kind

-- a status read that has begun listens
abbrev pub listens : ℕ → Past → Bool
listens t past = is_status (asking_of t past) && is_begun t past

-- what a ticket waits for: its submits, what it listens to, and the unlinks of these
abbrev pub awaits : ℕ → Past → List Sent
awaits t past = involved t (listens t past) (outstanding past)

-- An answer on Interrupt-IN concerns the active ticket, where that is a status read that has begun, and any other answer
-- the ticket that made the submit.
abbrev pub concerns : ℕ → Past → Sent → Bool
concerns t past x = if is_listen x.order then is_active t (active past) && listens t past else is_of t x.owner

-- ---- the request

abbrev pub is_read_status : Order → Bool
is_read_status (Class (class.ReadStatus tag)) = true
is_read_status order = false

-- the number of a ticket's READ_STATUS_BYTE, and 0 while there is none
abbrev pub polled_at : (number : ℕ) → Order → ℕ → ℕ
polled_at number order before = if is_read_status order then number else before

abbrev pub poll_by : ℕ → Happening → ℕ → ℕ
poll_by t (Wrote number owner order) before = if is_of t owner then polled_at number order before else before
poll_by t _ before = before

abbrev pub poll : ℕ → Past → ℕ
poll t [] = 0
poll t (x ∷ past) = poll_by t x (poll t past)

-- its tag
abbrev pub tag_in : Order → Option ℕ → Option ℕ
tag_in (Class (class.ReadStatus tag)) before = Some tag
tag_in order before = before

abbrev pub status_tag_by : ℕ → Happening → Option ℕ → Option ℕ
status_tag_by t (Wrote number owner order) before = if is_of t owner then tag_in order before else before
status_tag_by t _ before = before

abbrev pub status_tag : ℕ → Past → Option ℕ
status_tag t [] = None
status_tag t (x ∷ past) = status_tag_by t x (status_tag t past)

-- the answer is one to a status request of this ticket, with success
abbrev pub grants : ℕ → Option Sent → RetSubmitHead → List ℕ → Bool
grants t None head bytes = false
grants t (Some x) head bytes =
    is_of t x.owner && (is_read_status x.order && (int_eq head.status (pos 0) && (slice_index bytes 0 == STATUS_SUCCESS)))

abbrev pub said_by : ℕ → Past → Happening → Bool → Bool
said_by t past (Took (down.RetSubmit head bytes)) before = grants t (find head.seqnum (outstanding past)) head bytes || before
said_by t past _ before = before

abbrev pub is_said : ℕ → Past → Bool
is_said t [] = false
is_said t (x ∷ past) = said_by t past x (is_said t past)

-- ---- the packet

-- the tag of a status packet: bNotify1 is 0x80 with the tag, 2 to 127
abbrev pub packet_tag : List ℕ → Option ℕ
packet_tag bytes = if nat_lt 0x81 (slice_index bytes 0) then Some (slice_index bytes 0 - 0x80) else None

-- what an answer brings
abbrev pub brings : Option Sent → RetSubmitHead → List ℕ → Option ℕ
brings None head bytes = None
brings (Some x) head bytes = if is_listen x.order && int_eq head.status (pos 0) then packet_tag bytes else None

abbrev pub same_tag : Option ℕ → Option ℕ → Bool
same_tag (Some a) (Some b) = a == b
same_tag a b = false

-- The status byte for a ticket is that of the first packet with its tag that came while it was active. Where the interface
-- has no Interrupt-IN endpoint it is in the answer.
abbrev pub packet_at : Setting → ℕ → Past → RetSubmitHead → List ℕ → Option ℕ
packet_at s t past head bytes =
    if is_some s.ends.notify
    then (if is_active t (active past) && (listens t past && same_tag (brings (find head.seqnum (outstanding past)) head bytes) (status_tag t past))
    then Some (slice_index bytes 1) else None)
    else if grants t (find head.seqnum (outstanding past)) head bytes then Some (slice_index bytes 2) else None

abbrev pub packet_by : Setting → ℕ → Past → Happening → Option ℕ → Option ℕ
packet_by s t past (Took (down.RetSubmit head bytes)) before = or_else before (packet_at s t past head bytes)
packet_by s t past _ before = before

abbrev pub packet : Setting → ℕ → Past → Option ℕ
packet s t [] = None
packet s t (x ∷ past) = packet_by s t past x (packet s t past)

-- ---- the stale tag: that of a read which ended without its packet and was answered with success, until that packet comes
-- or another read leaves its own

abbrev pub is_left : Setting → ℕ → Past → Bool
is_left s t past = is_some s.ends.notify && (is_status (asking_of t past) && (is_said t past && not (is_some (packet s t past))))

abbrev pub without_tag : Option ℕ → Option ℕ → Option ℕ
without_tag brought stale = if same_tag brought stale then None else stale

abbrev pub owner_in : Owner → Option ℕ
owner_in (Of t) = Some t
owner_in Recovery = None

abbrev pub owner_of : Option Sent → Option ℕ
owner_of None = None
owner_of (Some x) = owner_in x.owner

-- an answer to the status request of a ticket that has ended
abbrev pub left_late : Setting → Option ℕ → Past → RetSubmitHead → List ℕ → Option ℕ → Option ℕ
left_late s None past head bytes stale = stale
left_late s (Some t) past head bytes stale =
    if not (is_live t past) && (grants t (find head.seqnum (outstanding past)) head bytes && (is_some s.ends.notify && not (is_some (packet s t past))))
    then status_tag t past else stale

abbrev pub stale_by : Setting → Past → Happening → Option ℕ → Option ℕ
stale_by s past (Settled t outcome) stale = if is_left s t past then status_tag t past else stale
stale_by s past (Took (down.RetSubmit head bytes)) stale =
    left_late s (owner_of (find head.seqnum (outstanding past))) past head bytes
    (without_tag (brings (find head.seqnum (outstanding past)) head bytes) stale)
stale_by s past _ stale = stale

abbrev pub stale : Setting → Past → Option ℕ
stale s [] = None
stale s (x ∷ past) = stale_by s past x (stale s past)

-- status tags run 2 to 127 and again, and skip the stale one (USB488 1.0, section 4.3.1)
abbrev pub last_status_tag_by : Happening → ℕ → ℕ
last_status_tag_by (Wrote number owner (Class (class.ReadStatus tag))) before = tag
last_status_tag_by _ before = before

abbrev pub last_status_tag : Past → ℕ
last_status_tag [] = 1
last_status_tag (x ∷ past) = last_status_tag_by x (last_status_tag past)

abbrev pub tag_behind : ℕ → ℕ
tag_behind tag = if nat_lt tag 127 then tag + 1 else 2

abbrev pub skipping : Option ℕ → ℕ → ℕ
skipping stale tag = if same_tag (Some tag) stale then tag_behind tag else tag

abbrev pub next_status_tag : Setting → Past → ℕ
next_status_tag s past = skipping (stale s past) (tag_behind (last_status_tag past))

-- ---- requests for service: how many of these packets came, up to the greatest number, and the last one's byte

-- bNotify1 is 0x81
abbrev pub is_service : Option Sent → RetSubmitHead → List ℕ → Bool
is_service None head bytes = false
is_service (Some x) head bytes = is_listen x.order && (int_eq head.status (pos 0) && (slice_index bytes 0 == 0x81))

abbrev pub service_by : Past → Happening → Service → Service
service_by past (Took (down.RetSubmit head bytes)) before =
    if is_service (find head.seqnum (outstanding past)) head bytes
    then record { count = min (before.count + 1) (2 ^ 64 - 1); last = Some (slice_index bytes 1) } else before
service_by past _ before = before

abbrev pub service : Past → Service
service [] = record { count = 0; last = None }
service (x ∷ past) = service_by past x (service past)
