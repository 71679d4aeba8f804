-- what holds of the states that can be reached
use Rattle.std.specs.Prelude.{◌≡◌, ◌≢◌, ℕ, ◌+◌, ◌≤◌, Bool, true, false, if◌then◌else◌, List, [], ◌∷◌, length, Option, Some, None}
use Rattle.usb_setup.specs.declared.setup.Setup.{Setup}
use Rattle.tmc_wire.specs.declared.class_request.ClassRequest.TheVariants.{ReadStatus}
use Rattle.tmc_wire.specs.ControlTable.{IsRow}
use Rattle.tmc_wire.specs.declared.header.OutHeader.{OutHeader}
use Rattle.tmc_wire.specs.declared.header.OutHeader.TheVariants.{Message}
use Rattle.tmc_law.specs.Endpoint.{Endpoint, ends}
use Rattle.tmc_law.specs.State.{State, Pending, Transfer, Waiting, Side, Idle, Packet, Avoids, queue_of, is_halted}
use Rattle.tmc_law.specs.Acts.{FitsAt}
use Rattle.tmc_law.specs.BulkOut.{wants}
use Rattle.tmc_law.specs.Control.{Asks}
use Rattle.tmc_law.specs.Status.{IsStatusTag, is_status}
use Rattle.tmc_law.specs.Logging.{is_service}

-- nothing is pending at a halted endpoint
abbrev pub HaltsAreEmpty : State → Type 0
HaltsAreEmpty s = (endpoint : Endpoint) → is_halted endpoint s ≡ true → queue_of endpoint s ≡ []

-- a submit that waits as it came: no bytes of it were moved, and no status byte was polled for it
abbrev pub IsFresh : Pending → Type 0
IsFresh submit = (submit.moved ≡ []) × (submit.polled ≡ false)

abbrev pub AreFresh : List Pending → Type 0
AreFresh [] = Unit {0}
AreFresh (submit ∷ submits) = IsFresh submit × AreFresh submits

-- of a queue, the first alone may have begun
abbrev pub FirstBegins : List Pending → Type 0
FirstBegins [] = Unit {0}
FirstBegins (first ∷ others) = AreFresh others

-- a control submit that asks for the status byte, with a tag of 2 to 127
pub record AsksStatus (submit : Pending) : Type 0 where
  pub setup : Setup
  pub tag : ℕ
  pub asks : Asks submit setup
  pub row : IsRow ends (ReadStatus tag) setup
  pub tagged : IsStatusTag tag

-- each submit of a queue fits its endpoint, and has as many bytes as it asks for
abbrev pub AllFit : Endpoint → List Pending → Type 0
AllFit endpoint [] = Unit {0}
AllFit endpoint (submit ∷ submits) = FitsAt endpoint submit × AllFit endpoint submits

-- their numbers are distinct
abbrev pub AreDistinct : List Pending → Type 0
AreDistinct [] = Unit {0}
AreDistinct (submit ∷ submits) = Avoids submit.head.seqnum submits × AreDistinct submits

-- how many packets of a kind are queued
abbrev pub queued_of : (Packet → Bool) → List Packet → ℕ
queued_of is_kind [] = 0
queued_of is_kind (packet ∷ packets) = (if is_kind packet then 1 else 0) + queued_of is_kind packets

-- at most one status packet and one service packet
pub record AreFew (packets : List Packet) : Type 0 where
  pub status : queued_of is_status packets ≤ 1
  pub service : queued_of is_service packets ≤ 1

-- the header of a message, or of a part of one
abbrev pub IsMessage : OutHeader → Type 0
IsMessage (Message tag size eom) = Unit {0}
IsMessage _ = ⊥

-- the first submit, once packets of it were taken, has no more bytes than the transfer in progress wants
abbrev pub GoesOn : List Pending → Option Transfer → Type 0
GoesOn [] transfer = Unit {0}
GoesOn (first ∷ others) transfer =
    first.moved ≢ [] → (under_way : Transfer) × (transfer ≡ Some under_way) × (length first.left ≤ wants under_way)

-- What is under way on the bulk endpoints.
pub record IsOrderly (queue : List Pending) (transfer : Option Transfer) (part : List ℕ) (waiting : Option Waiting) (side : Side) : Type 0 where
  -- a message that waits excludes an unfinished one
  pub waits : (message : Waiting) → waiting ≡ Some message → (part ≡ []) × (transfer ≡ None)
  -- a Bulk-IN transfer in progress excludes both, and a Bulk-OUT transfer in progress
  pub busy : side ≢ Idle → (part ≡ []) × (transfer ≡ None) × (waiting ≡ None)
  -- a Bulk-OUT transfer in progress is of a message, and still wants bytes
  pub wanting : (under_way : Transfer) → transfer ≡ Some under_way → IsMessage under_way.header × (wants under_way ≢ 0)
  pub goes_on : GoesOn queue transfer

abbrev pub IsInOrder : State → Type 0
IsInOrder s = IsOrderly s.bulk_out s.transfer s.part s.waiting s.side
