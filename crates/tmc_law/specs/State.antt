-- the states of a lawful device
use Rattle.std.specs.Prelude.{◌≢◌, ℕ, ◌-◌, ◌+◌, min, Bool, false, List, [], ◌∷◌, ◌++◌, length, Option, None}
use Rattle.tmc_base.specs.declared.field.Field.{Field}
use Rattle.usbip_wire.specs.declared.submit.SubmitHead.{SubmitHead}
use Rattle.tmc_wire.specs.declared.header.OutHeader.{OutHeader}
use Rattle.tmc_wire.specs.Standard.{header_size}
use Rattle.tmc_wire.specs.Transfer.{alignment_of}
use Rattle.instr_plain.specs.declared.log.LogEntry.{LogEntry}
use Rattle.instr_plain.specs.Standing.{Standing, at_power_on}
use Rattle.tmc_law.specs.Endpoint.{Endpoint, Control, BulkOut, BulkIn, InterruptIn}

-- a submit that was not answered yet
pub record Pending : Type 0 where
  pub head : SubmitHead
  -- of an OUT submit, the bytes of its data that were not taken
  pub left : List ℕ
  -- the bytes of the packets that were taken from it, or given to it
  pub moved : List ℕ
  -- of READ_STATUS_BYTE, whether the status byte was polled for it
  pub polled : Bool

abbrev pub arrived : SubmitHead → (transferred : List ℕ) → Pending
arrived head transferred = record { head = head; left = transferred; moved = []; polled = false }

-- the bytes of an IN submit that are free
abbrev pub room : Pending → ℕ
room submit = submit.head.length - length submit.moved

-- a Bulk-OUT transfer in progress (USBTMC 1.0, section 3.2), and its bytes that were taken
pub record Transfer : Type 0 where
  pub header : OutHeader
  pub taken : List ℕ

-- a message that waits for execution, and the number of the submit that ended it
pub record Waiting : Type 0 where
  pub seq : ℕ
  pub message : List ℕ

-- A piece of a response on its way (USBTMC 1.0, section 3.3): the tag of its request, how many bytes of the response it
-- has, and the bytes of its transfer that were not given. The transfer is a header, the data and its alignment.
pub record Piece : Type 0 where
  pub tag : ℕ
  pub size : ℕ
  pub left : List ℕ

-- the bytes of a piece's transfer
abbrev pub transfer_size : ℕ → ℕ
transfer_size size = header_size + (size + length (alignment_of size))

-- the bytes of the response that were given, without header and alignment
abbrev pub data_given : Piece → ℕ
data_given piece = min piece.size ((transfer_size piece.size - length piece.left) - header_size)

-- the Bulk-IN transfer in progress: none, one that was requested with this tag for at most so many bytes, or a piece
pub data Side : Type 0 where
  Idle : Side
  Owed : (tag size : ℕ) → Side
  Sending : (piece : Piece) → Side

-- the split transaction that runs (USBTMC 1.0, sections 4.2.1.2 to 4.2.1.7): none, an abort of Bulk-OUT, one of
-- Bulk-IN, which may still want its packet and has given so many bytes of data, or a clear
pub data Running : Type 0 where
  Nothing : Running
  AbortsOut : Running
  AbortsIn : (wanting : Bool) (given : ℕ) → Running
  Clears : Running

-- a packet that is queued for Interrupt-IN (USB488 1.0, section 3.4): the status byte for a request with this tag, or a
-- request for service
pub data Packet : Type 0 where
  StatusPacket : (tag byte : ℕ) → Packet
  ServicePacket : (byte : ℕ) → Packet

-- which endpoints are halted (USB 2.0, section 9.4.5); the control endpoint never is
pub record Halted : Type 0 where
  pub bulk_out : Bool
  pub bulk_in : Bool
  pub interrupt_in : Bool

-- whether the device still takes something in: it was unplugged, or it refused a field of what it was sent
pub data Presence : Type 0 where
  Plugged : Presence
  Unplugged : Presence
  Closed : (f : Field) → Presence

pub record State : Type 0 where
  -- the pending submits of each endpoint, in the order of arrival
  pub control : List Pending
  pub bulk_out : List Pending
  pub bulk_in : List Pending
  pub interrupt_in : List Pending
  pub halted : Halted
  -- the Bulk-OUT transfer in progress, and the message that its parts make, up to the one that ends it
  pub transfer : Option Transfer
  pub part : List ℕ
  -- the message that waits for execution
  pub waiting : Option Waiting
  pub side : Side
  pub running : Running
  pub packets : List Packet
  pub presence : Presence
  -- what happened at the instrument, and where that led it
  pub log : List LogEntry
  pub standing : Standing

-- the imported instrument at power-on
abbrev pub start : State
start = record {
  control = [];
  bulk_out = [];
  bulk_in = [];
  interrupt_in = [];
  halted = record { bulk_out = false; bulk_in = false; interrupt_in = false };
  transfer = None;
  part = [];
  waiting = None;
  side = Idle;
  running = Nothing;
  packets = [];
  presence = Plugged;
  log = [];
  standing = at_power_on;
}

abbrev pub queue_of : Endpoint → State → List Pending
queue_of Control s = s.control
queue_of BulkOut s = s.bulk_out
queue_of BulkIn s = s.bulk_in
queue_of InterruptIn s = s.interrupt_in

abbrev pub with_queue : Endpoint → List Pending → State → State
with_queue Control queue s = record s { control = queue }
with_queue BulkOut queue s = record s { bulk_out = queue }
with_queue BulkIn queue s = record s { bulk_in = queue }
with_queue InterruptIn queue s = record s { interrupt_in = queue }

-- all pending submits
abbrev pub pending : State → List Pending
pending s = s.control ++ (s.bulk_out ++ (s.bulk_in ++ s.interrupt_in))

-- none of these submits has this number
abbrev pub Avoids : ℕ → List Pending → Type 0
Avoids seqnum [] = Unit {0}
Avoids seqnum (submit ∷ submits) = (submit.head.seqnum ≢ seqnum) × Avoids seqnum submits

abbrev pub is_halted : Endpoint → State → Bool
is_halted Control s = false
is_halted BulkOut s = s.halted.bulk_out
is_halted BulkIn s = s.halted.bulk_in
is_halted InterruptIn s = s.halted.interrupt_in

abbrev pub with_halt : Endpoint → Bool → State → State
with_halt Control halted s = s
with_halt BulkOut halted s = record s { halted = record s.halted { bulk_out = halted } }
with_halt BulkIn halted s = record s { halted = record s.halted { bulk_in = halted } }
with_halt InterruptIn halted s = record s { halted = record s.halted { interrupt_in = halted } }
