-- what the answers made of a ticket
use Rattle.std.specs.Prelude.{ℕ, ℤ, pos, neg_ℤ, ◌==◌, Bool, true, not, Option, Some, None, is_some, List, [], ◌∷◌, length, slice_index, if◌then◌else◌}
use Rattle.std.specs.Ordering.{int_eq}
use Rattle.usbip_wire.specs.declared.ret_submit.RetSubmitHead.{RetSubmitHead}
use Rattle.usbip_wire.specs.Down as down
use Rattle.tmc_wire.specs.ClassStatus.{STATUS_SUCCESS}
use Rattle.host_transfers.specs.Piece.{eom_of}
use Rattle.host_hub.specs.declared.kind.Kind.{Kind}
use Rattle.host_hub.specs.declared.kind.Kind.TheVariants as kind
use Rattle.host_hub.specs.declared.outcome.Outcome.{Outcome}
use Rattle.host_hub.specs.declared.outcome.Outcome.TheVariants as outcome
use Rattle.host_hub.specs.Order.{Order, Part, Trigger, Read, Listen, Class, Setting, endpoint_of}
use Rattle.host_hub.specs.Record.{Happening, Past, Took, Asking}
use Rattle.host_hub.specs.Outstanding.{Sent, find, outstanding}
use Rattle.host_hub.specs.Book.{asking_of, or_else}
use Rattle.host_hub.specs.Pieces.{Piece, data_in, pieces}
use Rattle.host_hub.specs.Status.{concerns, is_said, packet}

-- EPIPE: the endpoint stalled or is halted (USB 2.0, section 8.4.5)
abbrev pub stalled : ℤ
stalled = neg_ℤ (pos 32)

-- the end of a piece makes an outcome, or none
abbrev pub piece_made : (limit : ℕ) → List Piece → Option Outcome
piece_made limit [] = None
piece_made limit (piece ∷ earlier) =
    if not (is_some piece.over) then None
    else if eom_of piece.bytes then Some outcome.Complete
    else if length (data_in (piece ∷ earlier)) == limit then Some outcome.Limit
    else None

-- a class request was answered with this status
abbrev pub said : (status : ℕ) → Option Outcome
said status = if status == STATUS_SUCCESS then Some outcome.Done else Some (outcome.DeviceSays status)

-- a status read has its answer and its packet
abbrev pub status_made : (is_said : Bool) → Option ℕ → Option Outcome
status_made true (Some byte) = Some (outcome.Status byte)
status_made is_said packet = None

-- what a ticket has behind an answer
pub record Standing : Type 0 where
  pub pieces : List Piece
  pub is_said : Bool
  pub packet : Option ℕ

-- a submit that concerns the ticket was answered with status 0
abbrev pub served : Kind → (limit : ℕ) → Order → (bytes : List ℕ) → Standing → Option Outcome
served kind.Ask limit Read bytes now = piece_made limit now.pieces
served kind.Tell limit (Part tag text true) bytes now = Some outcome.Done
served kind.Trigger limit (Trigger tag) bytes now = Some outcome.Done
served (kind.Remote act) limit (Class request) bytes now = said (slice_index bytes 0)
served kind.Status limit Listen bytes now = status_made now.is_said now.packet
served kind.Status limit (Class request) bytes now =
    if slice_index bytes 0 == STATUS_SUCCESS then status_made now.is_said now.packet else Some (outcome.DeviceSays (slice_index bytes 0))
served kind limit order bytes now = None

-- a submit that concerns the ticket was answered
abbrev pub judged : Setting → Asking → Order → RetSubmitHead → (bytes : List ℕ) → Standing → Option Outcome
judged s asking order head bytes now =
    if int_eq head.status (pos 0) then served asking.kind asking.limit order bytes now
    else if int_eq head.status stalled then Some (outcome.Halted (endpoint_of s.ends order))
    else Some (outcome.DeviceFault head.status)

abbrev pub made_by : Setting → ℕ → Past → Option Asking → Option Sent → RetSubmitHead → (bytes : List ℕ) → Standing → Option Outcome
made_by s t past (Some asking) (Some x) head bytes now = if concerns t past x then judged s asking x.order head bytes now else None
made_by s t past asking x head bytes now = None

abbrev pub standing : Setting → ℕ → Past → Standing
standing s t past = record { pieces = pieces t past; is_said = is_said t past; packet = packet s t past }

-- what this makes of a ticket
abbrev pub made_at : Setting → ℕ → Past → Happening → Option Outcome
made_at s t past (Took (down.RetSubmit head bytes)) =
    made_by s t past (asking_of t past) (find head.seqnum (outstanding past)) head bytes (standing s t (Took (down.RetSubmit head bytes) ∷ past))
made_at s t past _ = None

-- the first of these in the order of what was taken
abbrev pub made : Setting → ℕ → Past → Option Outcome
made s t [] = None
made s t (x ∷ past) = or_else (made s t past) (made_at s t past x)
