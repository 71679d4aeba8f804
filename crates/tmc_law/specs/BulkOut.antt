-- Bulk-OUT: packets, headers, and what a transfer does (USBTMC 1.0, sections 3.2 and 3.2.1; USB488 1.0, section 3.2.1)
use Rattle.std.specs.Prelude.{◌≡◌, ◌≢◌, ◌⊎◌, ℕ, ◌+◌, ◌-◌, ◌*◌, ◌/◌, ◌%◌, ◌<◌, ◌≤◌, max, Bool, true, false, List, [], ◌∷◌, ◌++◌, length, take, drop, Some, None}
use Rattle.tmc_wire.specs.declared.header.OutHeader.{OutHeader}
use Rattle.tmc_wire.specs.declared.header.OutHeader.TheVariants.{Message, Request, Trigger}
use Rattle.tmc_wire.specs.declared.header_fault.HeaderFault.{HeaderFault}
use Rattle.tmc_wire.specs.Standard.{header_size}
use Rattle.tmc_wire.specs.Header.{IsOutHeader}
use Rattle.tmc_wire.specs.HeaderFault.{IsOutFault}
use Rattle.tmc_wire.specs.Transfer.{OutText, data_size}
use Rattle.instr_plain.specs.declared.log.LogEntry.TheVariants as entry
use Rattle.tmc_law.specs.Endpoint.{BulkOut, packet_size}
use Rattle.tmc_law.specs.State.{State, Pending, Transfer, Idle, Owed, transfer_size}
use Rattle.tmc_law.specs.Put.{Put, ended, success}
use Rattle.tmc_law.specs.Logging.{Logs, unread}
use Rattle.tmc_law.specs.Halts.{halts, halt_answers}

-- a message has at most so many bytes
abbrev pub message_most : ℕ
message_most = 4096

-- the packets in which so many bytes go, the last one shorter; a submit of length 0 is one packet of no bytes
abbrev pub packets_of : ℕ → ℕ
packets_of size = max 1 ((size + (packet_size - 1)) / packet_size)

-- the bytes that a transfer still wants: its header and its data, up to a multiple of 4
abbrev pub wants : Transfer → ℕ
wants transfer = transfer_size (data_size transfer.header) - length transfer.taken

-- Why Bulk-OUT halts at the header of a transfer: the bytes are no header, a Bulk-IN transfer is in progress, a request or
-- a trigger comes while a message is unfinished, or the message would be too long. That Bulk-OUT halts then is this
-- instrument's choice (USBTMC 1.0, section 3.2.2.3, leaves the device free).
pub data HeaderRefused (s : State) (bytes : List ℕ) : Type 0 where
  NoHeader : (fault : HeaderFault) → IsOutFault bytes fault → HeaderRefused s bytes
  BulkInBusy : s.side ≢ Idle → HeaderRefused s bytes
  RequestInside : (tag size : ℕ) → IsOutHeader (Request tag size) (take header_size bytes) → s.part ≢ [] → HeaderRefused s bytes
  TriggerInside : (tag : ℕ) → IsOutHeader (Trigger tag) (take header_size bytes) → s.part ≢ [] → HeaderRefused s bytes
  TooLong : (tag size : ℕ) (eom : Bool) → IsOutHeader (Message tag size eom) (take header_size bytes)
      → message_most < length s.part + size → HeaderRefused s bytes

-- the transfer that the next packet of a submit belongs to: the one in progress, or the one that its header begins
pub data Belongs (s : State) (submit : Pending) (transfer : Transfer) : Type 0 where
  InProgress : s.transfer ≡ Some transfer → Belongs s submit transfer
  Begun : (header : OutHeader) → s.transfer ≡ None → ¬ HeaderRefused s submit.left
      → IsOutHeader header (take header_size submit.left) → transfer ≡ record { header = header; taken = [] }
      → Belongs s submit transfer

-- before the first packet of a submit is taken: it is longer than what the transfer wants, or it ends inside the transfer
-- and its last packet is short
abbrev pub Misfits : Pending → Transfer → Type 0
Misfits submit transfer =
    (wants transfer < submit.head.length)
    ⊎ ((submit.head.length < wants transfer) × (submit.head.length % packet_size ≢ 0))

-- what halts Bulk-OUT in place of a packet
pub data Spoils (s : State) (submit : Pending) : Type 0 where
  ByHeader : s.transfer ≡ None → HeaderRefused s submit.left → Spoils s submit
  ByLength : (transfer : Transfer) → Belongs s submit transfer → submit.moved ≡ [] → Misfits submit transfer → Spoils s submit

-- so many packets of a submit are taken, and it has more
pub data Moves (count : ℕ) (submit : Pending) (transfer : Transfer) (later : Pending) (grown : Transfer) : Type 0 where
  DoesMove : later ≡ record submit { left = drop (count * packet_size) submit.left; moved = submit.moved ++ take (count * packet_size) submit.left }
      → grown ≡ record transfer { taken = transfer.taken ++ take (count * packet_size) submit.left }
      → Moves count submit transfer later grown

-- the first part of a message drops a response that is unread (IEEE 488.2, section 6.3.2.3)
pub data Interrupts (s t : State) : Type 0 where
  Dropped : s.part ≡ [] → unread s ≢ [] → Logs entry.Interrupt s t → Interrupts s t
  NothingUnread : unread s ≡ [] → t ≡ s → Interrupts s t
  LaterPart : s.part ≢ [] → t ≡ s → Interrupts s t

-- A whole transfer takes effect, under the number of its submit.
pub data TakesEffect (seq : ℕ) (transfer : Transfer) (s t : State) : Type 0 where
  -- a part of a message that goes on
  Part : (tag size : ℕ) (message : List ℕ) (mid : State) → transfer.header ≡ Message tag size false
      → OutText transfer.header message transfer.taken → Interrupts s mid
      → t ≡ record mid { part = mid.part ++ message } → TakesEffect seq transfer s t
  -- the last part: the message waits for execution
  Last : (tag size : ℕ) (message : List ℕ) (mid : State) → transfer.header ≡ Message tag size true
      → OutText transfer.header message transfer.taken → Interrupts s mid
      → t ≡ record mid { part = []; waiting = Some (record { seq = seq; message = mid.part ++ message }) }
      → TakesEffect seq transfer s t
  -- a request of a response that is there
  Requests : (tag size : ℕ) → transfer.header ≡ Request tag size → unread s ≢ []
      → t ≡ record s { side = Owed tag size } → TakesEffect seq transfer s t
  -- a request where no response is unread (IEEE 488.2, section 6.3.2.2)
  RequestsNothing : (tag size : ℕ) → transfer.header ≡ Request tag size → unread s ≡ []
      → Logs entry.Bare (record s { side = Owed tag size }) t → TakesEffect seq transfer s t
  Triggers : (tag : ℕ) → transfer.header ≡ Trigger tag → Logs (entry.Trigger seq) s t → TakesEffect seq transfer s t

-- So many packets of the first Bulk-OUT submit are taken, while no message waits.
pub data Takes (s : State) (count : ℕ) (puts : List Put) (t : State) : Type 0 where
  -- a submit of length 0 is answered, and nothing else changes
  Empty : (submit : Pending) (behind : List Pending) → s.bulk_out ≡ submit ∷ behind → submit.head.length ≡ 0 → count ≡ 1
      → puts ≡ ended success submit ∷ [] → t ≡ record s { bulk_out = behind } → Takes s count puts t
  -- the header or the length is refused
  Spoiled : (submit : Pending) (behind : List Pending) → s.bulk_out ≡ submit ∷ behind → submit.head.length ≢ 0
      → 1 ≤ count → count ≤ packets_of (length submit.left) → Spoils s submit
      → puts ≡ halt_answers BulkOut s → t ≡ halts BulkOut s → Takes s count puts t
  -- the submit has more packets
  Inside : (submit later : Pending) (behind : List Pending) (transfer grown : Transfer) → s.bulk_out ≡ submit ∷ behind
      → submit.head.length ≢ 0 → 1 ≤ count → ¬ Spoils s submit → Belongs s submit transfer
      → Moves count submit transfer later grown → later.left ≢ []
      → puts ≡ [] → t ≡ record s { bulk_out = later ∷ behind; transfer = Some grown } → Takes s count puts t
  -- the submit ends before its transfer
  SubmitEnds : (submit later : Pending) (behind : List Pending) (transfer grown : Transfer) → s.bulk_out ≡ submit ∷ behind
      → submit.head.length ≢ 0 → count ≡ packets_of (length submit.left) → ¬ Spoils s submit → Belongs s submit transfer
      → Moves count submit transfer later grown → wants grown ≢ 0
      → puts ≡ ended success later ∷ [] → t ≡ record s { bulk_out = behind; transfer = Some grown } → Takes s count puts t
  -- the transfer ends, and takes effect
  TransferEnds : (submit later : Pending) (behind : List Pending) (transfer grown : Transfer) → s.bulk_out ≡ submit ∷ behind
      → submit.head.length ≢ 0 → count ≡ packets_of (length submit.left) → ¬ Spoils s submit → Belongs s submit transfer
      → Moves count submit transfer later grown → wants grown ≡ 0
      → TakesEffect submit.head.seqnum grown (record s { bulk_out = behind; transfer = None }) t
      → puts ≡ ended success later ∷ [] → Takes s count puts t

-- the message that waits is executed, and its response becomes the unread output
pub data Executes (s : State) (t : State) : Type 0 where
  DoesExecute : (seq : ℕ) (message : List ℕ) → s.waiting ≡ Some (record { seq = seq; message = message })
      → Logs (entry.Exec seq message) (record s { waiting = None }) t → Executes s t
