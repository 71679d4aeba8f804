-- why an endpoint halts in a step, and why a halt ends (USB 2.0, sections 5.8.5 and 9.4.5)
use Rattle.std.specs.Prelude.{◌≡◌, ◌≢◌, ℕ, ◌+◌, ◌-◌, ◌*◌, ◌<◌, ◌≤◌, min, List, ◌∷◌, length, Some}
use Rattle.usb_setup.specs.declared.setup.Setup.{Setup}
use Rattle.tmc_wire.specs.declared.class_request.ClassRequest.{ClassRequest}
use Rattle.tmc_wire.specs.declared.class_request.ClassRequest.TheVariants.{AbortOut, Clear}
use Rattle.tmc_wire.specs.ControlTable.{IsRow}
use Rattle.tmc_law.specs.Endpoint.{Endpoint, Control, BulkOut, BulkIn, InterruptIn, ends, packet_size}
use Rattle.tmc_law.specs.State.{State, Pending, Piece, Sending, Packet, Nothing, room}
use Rattle.tmc_law.specs.BulkOut.{Spoils}
use Rattle.tmc_law.specs.Control.{Asks}
use Rattle.tmc_law.specs.Aborts.{out_tag}
use Rattle.tmc_law.specs.Standard.{Standard, ClearHalt, SetConfiguration, SetInterface, IsStandard}
use Rattle.tmc_law.specs.Step.{Move, Take, Fill, Answer, Notify, Halt}

-- the first control submit is this class request, or this standard request
pub record IsClassFirst (s : State) (request : ClassRequest) : Type 0 where
  pub submit : Pending
  pub behind : List Pending
  pub setup : Setup
  pub first : s.control ≡ submit ∷ behind
  pub asks : Asks submit setup
  pub row : IsRow ends request setup

pub record IsStandardFirst (s : State) (request : Standard) : Type 0 where
  pub submit : Pending
  pub behind : List Pending
  pub setup : Setup
  pub first : s.control ≡ submit ∷ behind
  pub asks : Asks submit setup
  pub row : IsStandard request setup

-- A move halts this endpoint.
pub data HaltedBy (s : State) (endpoint : Endpoint) (move : Move) : Type 0 where
  -- any endpoint but the control endpoint: by itself
  ByItself : move ≡ Halt endpoint → endpoint ≢ Control → HaltedBy s endpoint move
  -- Bulk-OUT: the header or the length of its first submit is refused
  BySpoiling : (count : ℕ) (submit : Pending) (behind : List Pending) → move ≡ Take count → endpoint ≡ BulkOut
      → s.bulk_out ≡ submit ∷ behind → Spoils s submit → HaltedBy s endpoint move
  -- Bulk-OUT: an abort of its transfer in progress begins
  ByAbort : (tag : ℕ) → move ≡ Answer → endpoint ≡ BulkOut → IsClassFirst s (AbortOut tag) → s.running ≡ Nothing
      → out_tag s ≡ Some tag → HaltedBy s endpoint move
  -- Bulk-OUT: a clear begins
  ByClear : move ≡ Answer → endpoint ≡ BulkOut → IsClassFirst s Clear → HaltedBy s endpoint move
  -- Bulk-IN: a packet of a piece does not fit behind the full ones in the first submit
  ByOverflow : (count full : ℕ) (submit : Pending) (behind : List Pending) (piece : Piece) → move ≡ Fill count → endpoint ≡ BulkIn
      → s.bulk_in ≡ submit ∷ behind → s.side ≡ Sending piece → full * packet_size ≤ length piece.left
      → room submit < full * packet_size + min packet_size (length piece.left - full * packet_size) → HaltedBy s endpoint move
  -- Interrupt-IN: its first submit has no room for a packet
  ByPacket : (submit : Pending) (behind : List Pending) (packet : Packet) (packets : List Packet) → move ≡ Notify
      → endpoint ≡ InterruptIn → s.interrupt_in ≡ submit ∷ behind → s.packets ≡ packet ∷ packets → submit.head.length < 2
      → HaltedBy s endpoint move

-- A move ends the halt of this endpoint: the answer to a request for it, for its configuration or for its interface.
pub data UsableBy (s : State) (endpoint : Endpoint) (move : Move) : Type 0 where
  ByClearFeature : move ≡ Answer → IsStandardFirst s (ClearHalt endpoint) → UsableBy s endpoint move
  BySetConfiguration : move ≡ Answer → IsStandardFirst s SetConfiguration → UsableBy s endpoint move
  BySetInterface : move ≡ Answer → IsStandardFirst s SetInterface → UsableBy s endpoint move
