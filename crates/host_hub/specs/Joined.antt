-- a hub's record and a lawful device at the two ends of a link, while nothing disturbs them: what the hub has in hand, and whose
-- bytes its tickets have
use Rattle.std.specs.Prelude.{◌≡◌, ℕ, pos, ◌*◌, ◌^◌, ◌==◌, ◌<◌, ◌≤◌, true, false, Option, Some, None, is_some, List, [], ◌∷◌, ◌++◌, length, take, if◌then◌else◌}
use Rattle.tmc_base.specs.declared.run_step.RunStep.{RunStep}
use Rattle.usbip_wire.specs.declared.submit.SubmitHead.{SubmitHead}
use Rattle.usbip_wire.specs.Awaited.{entries_of}
use Rattle.usbip_wire.specs.Down as down
use Rattle.usbip_wire.specs.Down.{SpellsAnswer}
use Rattle.usbip_wire.specs.Up as up
use Rattle.instr_plain.specs.declared.log.LogEntry.{LogEntry}
use Rattle.tmc_law.specs.Endpoint.{BulkIn, BulkOut}
use Rattle.tmc_law.specs.Endpoint as endpoint
use Rattle.tmc_law.specs.State.{State}
use Rattle.host_joint.specs.Hand.{Hand, Free, Says, Said, Reads, Pauses}
use Rattle.host_joint.specs.Joint.{Joint}
use Rattle.host_joint.specs.Stage.{Ran}
use Rattle.host_urbs.specs.Record as urbs
use Rattle.host_transfers.specs.declared.limits.TheConstants.{PART_MAX}
use Rattle.host_transfers.specs.Piece.{eom_of}
use Rattle.host_hub.specs.declared.kind.Kind.{Kind}
use Rattle.host_hub.specs.declared.kind.Kind.TheVariants as kind
use Rattle.host_hub.specs.declared.limits.TheConstants.{MESSAGE_MAX}
use Rattle.host_hub.specs.Order.{Setting, message_of, number_of}
use Rattle.host_hub.specs.Record.{Happening, Past, Wrote, Took, Fell, Recovers, Asked, Cancelled, Cleared, Asking, next}
use Rattle.host_hub.specs.Crossings.{crossings}
use Rattle.host_hub.specs.Hand.{in_hand, ended}
use Rattle.host_hub.specs.Outstanding.{Sent, outstanding}
use Rattle.host_hub.specs.Book.{asking_of, is_live}
use Rattle.host_hub.specs.Calls.{All}
use Rattle.host_hub.specs.Owned.{IsFront}
pub use Rattle.host_hub.specs.PlainOrders.{IsPlainFor, IsPlainOrder}
use Rattle.host_hub.specs.Pieces.{Piece, data_in, got, pieces}
use Rattle.host_hub.specs.Plan.{message_end, parts}

-- ---- what is left out until cancels, clears, status reads and recoveries come

abbrev pub IsPlainKind : Kind → (limit : ℕ) → Type 0
IsPlainKind kind.Ask limit = 1 ≤ limit
IsPlainKind kind.Tell limit = Unit {0}
IsPlainKind kind limit = ⊥

-- an ask or a tell
pub record IsPlainAsking (asking : Asking) : Type 0 where
  pub kind_is : IsPlainKind asking.kind asking.limit
  pub some : 1 ≤ length asking.message
  pub few : length asking.message ≤ MESSAGE_MAX

-- Asks and tells alone are asked, and their transfers and reads alone are written. No ticket is cancelled or cleared, and no
-- recovery begins.
abbrev pub IsPlain : Happening → Type 0
IsPlain (Asked t asking) = IsPlainAsking asking
IsPlain (Wrote number owner order) = IsPlainFor owner order
IsPlain (Cancelled t) = ⊥
IsPlain (Cleared session) = ⊥
IsPlain Recovers = ⊥
IsPlain x = Unit {0}

-- the hub is of the instrument's bulk endpoints, and has one submit out at a time
pub record IsSimple (s : Setting) : Type 0 where
  pub shallow : s.depth ≡ 1
  pub first : 1 ≤ s.first
  pub device : s.devid < 2 ^ 32
  pub writes_to : number_of s.ends.bulk_out ≡ endpoint.number_of BulkOut
  pub reads_from : number_of s.ends.bulk_in ≡ endpoint.number_of BulkIn

-- ---- what is in hand

-- the record up to the hub's end
abbrev pub ran : Past → Past
ran [] = []
ran (x ∷ past) = if is_some (ended (x ∷ past)) then ran past else x ∷ past

-- of a message that was written whole: its response, by the pieces that came
abbrev pub hand_with_pieces : (last : ℕ) (message : List ℕ) → List Piece → Hand
hand_with_pieces last message [] = Said last message
hand_with_pieces last message (piece ∷ earlier) =
    if is_some piece.over
    then (if eom_of piece.bytes then Free else Pauses last message (data_in (piece ∷ earlier)))
    else Reads last message piece.tag piece.size (data_in earlier) piece.bytes

-- of a ticket that has begun, and is live: the parts of its message, or its response
abbrev pub hand_with : Option Asking → (last count : ℕ) → List Piece → Hand
hand_with None last count pieces = Free
hand_with (Some asking) last count pieces =
    if last == 0 then Says asking.message (take (PART_MAX * count) asking.message) else hand_with_pieces last asking.message pieces

abbrev pub hand_in : Option ℕ → Past → Hand
hand_in None past = Free
hand_in (Some t) past = if is_live t past then hand_with (asking_of t past) (message_end t past) (parts t past) (pieces t past) else Free

-- what a running hub has in hand
abbrev pub hand_of : Past → Hand
hand_of past = hand_in (in_hand past) past

-- its one submit that is not answered
abbrev pub head_in : up.Message → Option SubmitHead
head_in (up.Submit head transferred) = Some head
head_in (up.Unlink head) = None

abbrev pub waits_in : Setting → List Sent → Option SubmitHead
waits_in s [] = None
waits_in s (x ∷ xs) = head_in (message_of s x.number x.order)

abbrev pub waits_of : Setting → Past → Option SubmitHead
waits_of s past = waits_in s (outstanding past)

-- ---- whose bytes a ticket has

-- every answer had status 0
abbrev pub IsServed : Happening → Type 0
IsServed (Took (down.RetSubmit head bytes)) = head.status ≡ pos 0
IsServed (Took (down.RetUnlink head)) = ⊥
IsServed (Fell answer e) = ⊥
IsServed x = Unit {0}

-- Of the last piece that has come, the log has executed the message once, under its number, and the bytes are a front of its response;
-- with EOM they are all of it, and without there is more.
pub record OwnsPiece (past : Past) (t : ℕ) (asking : Asking) (piece : Piece) (log : List LogEntry) : Type 0 where
  pub response : List ℕ
  pub ran : Ran (message_end t past) asking.message response log
  pub front : IsFront (got t past) response
  pub some : 1 ≤ length (got t past)
  pub whole : eom_of piece.bytes ≡ true → got t past ≡ response
  pub more : eom_of piece.bytes ≡ false → length (got t past) < length response

-- so of each ticket whose last piece has come
abbrev pub OwnsWhole : Past → List LogEntry → Type 0
OwnsWhole past log =
    (t : ℕ) (asking : Asking) (piece : Piece) (earlier : List Piece) → asking_of t past ≡ Some asking → pieces t past ≡ piece ∷ earlier → is_some piece.over ≡ true
    → OwnsPiece past t asking piece log

-- A hub with this record is joined to a lawful device in this state, over a link that tells these steps: all that was written to the
-- link, sent or not, and the bytes of all answers that were read, are those of the hub, behind what crossed before it was made.
pub record IsJoined (s : Setting) (past : Past) (bytes read : List ℕ) (steps : List RunStep) (state : State) : Type 0 where
  pub plain : All IsPlain past
  pub served : All IsServed past
  pub joint : Joint s.devid (hand_of (ran past)) (waits_of s past) (next s.first past) bytes read steps state
  pub owns : OwnsWhole past state.log

-- ---- how it goes on

-- the answers of what was added came, in a row, behind these bytes, each to a message that was outstanding then
abbrev pub ReadsOn : Setting → (more past : Past) → (front bytes : List ℕ) → Type 0
ReadsOn s [] past front bytes = bytes ≡ front
ReadsOn s (Took answer ∷ more) past front bytes =
    (mid this : List ℕ) × ReadsOn s more past front mid × (bytes ≡ mid ++ this) × SpellsAnswer (entries_of (urbs.outstanding (crossings s (more ++ past)))) answer this
ReadsOn s (Fell answer e ∷ more) past front bytes =
    (mid this : List ℕ) × ReadsOn s more past front mid × (bytes ≡ mid ++ this) × SpellsAnswer (entries_of (urbs.outstanding (crossings s (more ++ past)))) answer this
ReadsOn s (x ∷ more) past front bytes = ReadsOn s more past front bytes
