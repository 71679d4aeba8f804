-- what a ticket's submits are, one after another, and when they are made (USBTMC 1.0, sections 3.2 and 3.3)
use Rattle.std.specs.Prelude.{◌≡◌, ℕ, ◌+◌, ◌-◌, ◌*◌, ◌/◌, ◌%◌, ◌<◌, nat_le, min, Bool, true, false, ◌&&◌, not, is_some, Option, Some, None, List, [], ◌∷◌, length, take, drop, if◌then◌else◌}
use Rattle.std.specs.Bool.{MatchBool}
use Rattle.tmc_base.specs.declared.limits.TheConstants.{BULK_IN_SUBMIT}
use Rattle.instr_plain.specs.declared.remote.RemoteAct.{RemoteAct}
use Rattle.instr_plain.specs.declared.remote.RemoteAct.TheVariants as act
use Rattle.tmc_wire.specs.declared.class_request.ClassRequest.{ClassRequest}
use Rattle.tmc_wire.specs.declared.class_request.ClassRequest.TheVariants.{ReadStatus, Ren, GoLocal, Lockout}
use Rattle.tmc_wire.specs.Standard.{header_size}
use Rattle.host_transfers.specs.declared.limits.TheConstants.{PART_MAX, REQUEST_MAX}
use Rattle.host_hub.specs.declared.kind.Kind.{Kind}
use Rattle.host_hub.specs.declared.kind.Kind.TheVariants as kind
use Rattle.host_hub.specs.Order.{Order, Part, Request, Trigger, Read, Listen, Class, Unlink, Setting}
use Rattle.host_hub.specs.Record.{Happening, Past, Wrote, Asking}
use Rattle.host_hub.specs.Hand.{is_of}
use Rattle.host_hub.specs.Outstanding.{Sent, outstanding, is_listening}
use Rattle.host_hub.specs.Pieces.{Piece, pieces, data_in}
use Rattle.host_hub.specs.Status.{is_status_kind, status_tag, next_status_tag}
use Rattle.host_hub.specs.Unlinks.{is_deep}

-- ---- how far a ticket has come

-- Bulk-OUT tags run 1 to 255 and again (USBTMC 1.0, table 1)
abbrev pub tag_of : Order → ℕ → ℕ
tag_of (Part tag text eom) before = tag
tag_of (Request tag size) before = tag
tag_of (Trigger tag) before = tag
tag_of order before = before

abbrev pub tag_by : Happening → ℕ → ℕ
tag_by (Wrote number owner order) before = tag_of order before
tag_by _ before = before

abbrev pub last_tag : Past → ℕ
last_tag [] = 0
last_tag (x ∷ past) = tag_by x (last_tag past)

abbrev pub next_tag : Past → ℕ
next_tag past = last_tag past % 255 + 1

-- how many transfers of its message were written
abbrev pub is_part : Order → ℕ
is_part (Part tag text eom) = 1
is_part order = 0

abbrev pub part_by : ℕ → Happening → ℕ → ℕ
part_by t (Wrote number owner order) n = if is_of t owner then n + is_part order else n
part_by t _ n = n

abbrev pub parts : ℕ → Past → ℕ
parts t [] = 0
parts t (x ∷ past) = part_by t x (parts t past)

-- the number of the submit with EOM, and 0 while there is none
abbrev pub ended_at : (number : ℕ) → Order → ℕ → ℕ
ended_at number (Part tag text true) before = number
ended_at number order before = before

abbrev pub message_end_by : ℕ → Happening → ℕ → ℕ
message_end_by t (Wrote number owner order) before = if is_of t owner then ended_at number order before else before
message_end_by t _ before = before

abbrev pub message_end : ℕ → Past → ℕ
message_end t [] = 0
message_end t (x ∷ past) = message_end_by t x (message_end t past)

-- its last submit but those of Interrupt-IN
abbrev pub planned_by : Order → Option Order → Option Order
planned_by Listen before = before
planned_by (Unlink target) before = before
planned_by order before = Some order

abbrev pub last_by : ℕ → Happening → Option Order → Option Order
last_by t (Wrote number owner order) before = if is_of t owner then planned_by order before else before
last_by t _ before = before

abbrev pub last : ℕ → Past → Option Order
last t [] = None
last t (x ∷ past) = last_by t x (last t past)

-- ---- what comes next

-- the transfer of a message behind so many
abbrev pub part_of : (tag count : ℕ) (message : List ℕ) → Order
part_of tag count message =
    Part tag (take PART_MAX (drop (PART_MAX * count) message)) (nat_le (length message) (PART_MAX * (count + 1)))

-- a request asks for what the limit leaves
abbrev pub request_of : (tag limit : ℕ) → List Piece → Order
request_of tag limit pieces = Request tag (min (limit - length (data_in pieces)) REQUEST_MAX)

abbrev pub remote_request : RemoteAct → ClassRequest
remote_request act.On = Ren true
remote_request act.Off = Ren false
remote_request act.GoLocal = GoLocal
remote_request act.Lockout = Lockout

abbrev pub first_order : Kind → (message : List ℕ) → (tag : ℕ) → Option Order
first_order kind.Ask message tag = Some (part_of tag 0 message)
first_order kind.Tell message tag = Some (part_of tag 0 message)
first_order kind.Trigger message tag = Some (Trigger tag)
first_order (kind.Remote act) message tag = Some (Class (remote_request act))
first_order kind.Status message tag = None

-- behind the message of an ask, its response is requested
abbrev pub behind_message : Kind → (tag limit : ℕ) → List Piece → Option Order
behind_message kind.Ask tag limit now = Some (request_of tag limit now)
behind_message kind tag limit now = None

-- behind a piece that ended, the next one is requested
abbrev pub behind_read : (tag limit : ℕ) → List Piece → Option Order
behind_read tag limit [] = None
behind_read tag limit (piece ∷ earlier) = if is_some piece.over then Some (request_of tag limit (piece ∷ earlier)) else Some Read

-- the order of a ticket's submits: what comes behind its last one
abbrev pub follows : Asking → Option Order → (tag count : ℕ) → List Piece → Option Order
follows asking None tag count now = first_order asking.kind asking.message tag
follows asking (Some (Part k text false)) tag count now = Some (part_of tag count asking.message)
follows asking (Some (Part k text true)) tag count now = behind_message asking.kind tag asking.limit now
follows asking (Some (Request k size)) tag count now = Some Read
follows asking (Some Read) tag count now = behind_read tag asking.limit now
follows asking _ tag count now = None

-- a status read has an Interrupt-IN submit wherever none is outstanding, and its request
abbrev pub status_order : Setting → ℕ → Past → Option Order
status_order s t past =
    if is_some s.ends.notify && not (is_listening (outstanding past)) then Some Listen
    else if is_some (status_tag t past) then None
    else Some (Class (ReadStatus (next_status_tag s past)))

-- what the plan of a ticket has next
abbrev pub planned : Setting → ℕ → Option Asking → Past → Option Order
planned s t None past = None
planned s t (Some asking) past =
    if is_status_kind asking.kind then status_order s t past
    else follows asking (last t past) (next_tag past) (parts t past) (pieces t past)

-- ---- when it is made

abbrev pub is_empty : List Piece → Bool
is_empty [] = true
is_empty (piece ∷ pieces) = false

-- how many reads the transfer of so many bytes has at most: the header and the data, up to a multiple of 4, and a short one
abbrev pub need : (size : ℕ) → ℕ
need size = (header_size + size + 3) / 4 * 4 / BULK_IN_SUBMIT + 1

-- as many reads of a piece are made at once as the depth says, and one more for each that was answered full
abbrev pub HasRoom : (depth : ℕ) → List Piece → Type 0
HasRoom depth [] = ⊥
HasRoom depth (piece ∷ pieces) = piece.reads < min (need piece.size) (depth + piece.full)

-- When a ticket that has begun makes its next submit, with these pieces and waiting for these messages: at depth 1 once its
-- last one was answered; at a greater depth the first request comes right behind the message, and reads ahead.
abbrev pub When : Setting → List Piece → (waits : List Sent) → Order → Type 0
When s now waits Listen = Unit {0}
When s now waits (Class (ReadStatus tag)) = Unit {0}
When s now waits Read = MatchBool (is_deep s) (HasRoom s.depth now) (waits ≡ [])
When s now waits (Request tag size) = MatchBool (is_deep s && is_empty now) (Unit {0}) (waits ≡ [])
When s now waits order = waits ≡ []
