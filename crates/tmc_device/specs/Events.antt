-- what a device does by itself: when each event is enabled, and which step it is
use Rattle.std.specs.Prelude.{◌≡◌, ◌≢◌, ℕ, ◌+◌, ◌/◌, ◌<◌, ◌≤◌, min, true, false, List, [], ◌∷◌, length, None}
use Rattle.usb_setup.specs.declared.setup.Setup.{Setup}
use Rattle.tmc_wire.specs.declared.class_request.ClassRequest.{ClassRequest}
use Rattle.tmc_wire.specs.declared.class_request.ClassRequest.TheVariants.{ReadStatus}
use Rattle.tmc_wire.specs.ControlTable.{IsRow}
use Rattle.tmc_law.specs.declared.dev_event.DevEvent.{DevEvent}
use Rattle.tmc_law.specs.declared.dev_event.DevEvent.TheVariants as event
use Rattle.tmc_law.specs.Endpoint.{number_of, packet_size, ends}
use Rattle.tmc_law.specs.State.{State, Pending, Side, Owed, Sending, Running, AbortsIn, Plugged, room, is_halted}
use Rattle.tmc_law.specs.Put.{Put}
use Rattle.tmc_law.specs.Control.{Asks}
use Rattle.tmc_law.specs.Logging.{unread, is_queued}
use Rattle.tmc_law.specs.Status.{IsStatusTag, is_status}
use Rattle.tmc_law.specs.Class.{StaysPending}
use Rattle.tmc_law.specs.BulkOut.{packets_of}
use Rattle.tmc_law.specs.BulkIn.{NoAbortIn}
use Rattle.tmc_law.specs.Step as step
use Rattle.tmc_law.specs.Step.{Move, Steps}
use Rattle.endpoint_pipes.specs.Held.{endpoint_of}
use Rattle.endpoint_pipes.specs.Outcome.{left_of}
use Rattle.tmc_device.specs.declared.drove.Drove.{Drove}
use Rattle.tmc_device.specs.declared.drove.Drove.TheVariants.{Applied, NotEnabled, Memory}
use Rattle.tmc_device.specs.Seen.{Seen, Makes}

-- ---- the moves that an event allows; a number allows each count up to it

abbrev pub Allows : DevEvent → Move → Type 0
Allows (event.Take most) (step.Take count) = count ≤ most
Allows event.Exec step.Exec = Unit {0}
Allows (event.Begin most) (step.Begin count) = count ≤ most
Allows (event.Fill most) (step.Fill count) = count ≤ most
Allows event.Answer step.Answer = Unit {0}
Allows event.Pending step.Pend = Unit {0}
Allows event.Poll step.Poll = Unit {0}
Allows event.Notify step.Notify = Unit {0}
Allows (event.Halt ep) (step.Halt endpoint) = number_of endpoint ≡ ep
Allows event.Unplug step.Unplug = Unit {0}
Allows _ _ = ⊥

-- how many packets or bytes a move has
abbrev pub count_of : Move → ℕ
count_of (step.Take count) = count
count_of (step.Begin count) = count
count_of (step.Fill count) = count
count_of _ = 0

-- the device made one lawful step that the event allows, the one with the greatest count
pub record Applies (event : DevEvent) (old new : Seen) : Type 0 where
  pub move : Move
  pub allowed : Allows event move
  pub made : Makes move old new
  pub greatest : (other : Move) (puts : List Put) (t : State) → Allows event other → Steps old.state other puts t → count_of other ≤ count_of move

-- no move that the event allows is lawful
abbrev pub NoneLawful : DevEvent → State → Type 0
NoneLawful event s = (move : Move) (puts : List Put) (t : State) → Allows event move → Steps s move puts t → ⊥

-- ---- when an event is enabled

abbrev pub IsOwed : Side → Type 0
IsOwed (Owed tag size) = Unit {0}
IsOwed _ = ⊥

abbrev pub IsSending : Side → Type 0
IsSending (Sending piece) = Unit {0}
IsSending _ = ⊥

-- a piece is being sent, or an abort wants its packet
abbrev pub HasPackets : Running → Side → Type 0
HasPackets (AbortsIn true given) side = Unit {0}
HasPackets _ side = IsSending side

-- the first control submit is a check of the running abort or clear
pub record IsChecked (s : State) : Type 0 where
  pub submit : Pending
  pub behind : List Pending
  pub setup : Setup
  pub request : ClassRequest
  pub layout : List ℕ
  pub first : s.control ≡ submit ∷ behind
  pub asks : Asks submit setup
  pub row : IsRow ends request setup
  pub stays : StaysPending s.running request layout

-- the first control submit is READ_STATUS_BYTE with a tag of 2 to 127, for which the status byte was not polled, and no
-- status packet is queued
pub record IsPollable (s : State) : Type 0 where
  pub submit : Pending
  pub behind : List Pending
  pub setup : Setup
  pub tag : ℕ
  pub first : s.control ≡ submit ∷ behind
  pub asks : Asks submit setup
  pub row : IsRow ends (ReadStatus tag) setup
  pub tagged : IsStatusTag tag
  pub unpolled : submit.polled ≡ false
  pub none_queued : is_queued is_status s.packets ≡ false

-- what must be there for an event, at a device that is plugged
abbrev pub Needs : DevEvent → State → Type 0
Needs (event.Take most) s = (0 < most) × (s.bulk_out ≢ []) × (s.waiting ≡ None)
Needs event.Exec s = s.waiting ≢ None
Needs (event.Begin most) s = (0 < most) × IsOwed s.side × NoAbortIn s.running × (unread s ≢ [])
Needs (event.Fill most) s = (0 < most) × (s.bulk_in ≢ []) × HasPackets s.running s.side
Needs event.Answer s = s.control ≢ []
Needs event.Pending s = IsChecked s
Needs event.Poll s = IsPollable s
Needs event.Notify s = (s.packets ≢ []) × (s.interrupt_in ≢ [])
Needs (event.Halt ep) s = (1 ≤ ep) × (ep ≤ 3) × (is_halted (endpoint_of ep) s ≡ false)
Needs event.Unplug s = Unit {0}

pub record IsEnabled (event : DevEvent) (s : State) : Type 0 where
  pub plugged : s.presence ≡ Plugged
  pub needs : Needs event s

-- ---- the step that an event is, where it is enabled

-- the packets of the first Bulk-OUT submit that were not taken
abbrev pub packets_there : State → ℕ
packets_there s = packets_of (length (left_of s.bulk_out))

-- the largest piece that may begin
abbrev pub largest_piece : State → ℕ
largest_piece s = by s.side where
  by : Side → ℕ
  by (Owed tag size) = min size (length (unread s))
  by _ = 0

-- the packets of a piece that are left, its short one with them; an abort wants one
abbrev pub packets_left : Running → Side → ℕ
packets_left (AbortsIn true given) side = 1
packets_left _ (Sending piece) = length piece.left / packet_size + 1
packets_left _ side = 0

-- the packets that complete the first submit
abbrev pub packets_into : List Pending → ℕ
packets_into [] = 0
packets_into (first ∷ others) = packets_of (room first)

abbrev pub packets_due : State → ℕ
packets_due s = min (packets_left s.running s.side) (packets_into s.bulk_in)

-- the move of an event: its number, or all that there is
abbrev pub move_of : DevEvent → State → Move
move_of (event.Take most) s = step.Take (min most (packets_there s))
move_of event.Exec s = step.Exec
move_of (event.Begin most) s = step.Begin (min most (largest_piece s))
move_of (event.Fill most) s = step.Fill (min most (packets_due s))
move_of event.Answer s = step.Answer
move_of event.Pending s = step.Pend
move_of event.Poll s = step.Poll
move_of event.Notify s = step.Notify
move_of (event.Halt ep) s = step.Halt (endpoint_of ep)
move_of event.Unplug s = step.Unplug

-- what a call did: the step of the event, or nothing, where it is not enabled or memory is wanting
abbrev pub Does : DevEvent → (old : Seen) → Drove → (new : Seen) → Type 0
Does event old Applied new = IsEnabled event old.state × Makes (move_of event old.state) old new
Does event old NotEnabled new = (IsEnabled event old.state → ⊥) × (new ≡ old)
Does event old Memory new = IsEnabled event old.state × (new ≡ old)
