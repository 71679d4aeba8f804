-- READ_STATUS_BYTE, and the packets on Interrupt-IN (USB488 1.0, sections 3.4 and 4.3.1)
use Rattle.std.specs.Prelude.{◌≡◌, ℕ, ◌+◌, ◌<◌, ◌≤◌, Bool, true, false, List, [], ◌∷◌, ◌++◌}
use Rattle.tmc_wire.specs.ClassStatus.{STATUS_SUCCESS, STATUS_FAILED, STATUS_INTERRUPT_IN_BUSY}
use Rattle.instr_plain.specs.declared.log.LogEntry.TheVariants as entry
use Rattle.instr_plain.specs.Standing.{polled_byte}
use Rattle.tmc_law.specs.Endpoint.{InterruptIn}
use Rattle.tmc_law.specs.State.{State, Pending, Packet, StatusPacket, ServicePacket}
use Rattle.tmc_law.specs.Put.{Put, ended, success}
use Rattle.tmc_law.specs.Logging.{Logs, is_queued}
use Rattle.tmc_law.specs.Halts.{halts, halt_answers}
use Rattle.tmc_law.specs.Aborts.{Served}

abbrev pub is_status : Packet → Bool
is_status (StatusPacket tag byte) = true
is_status (ServicePacket byte) = false

-- the tag of a request is 2 to 127
abbrev pub IsStatusTag : ℕ → Type 0
IsStatusTag tag = (2 ≤ tag) × (tag ≤ 127)

-- the answer: its status, the tag, and 0, since the status byte goes in a packet
abbrev pub status_layout : (status tag : ℕ) → List ℕ
status_layout status tag = status ∷ tag ∷ 0 ∷ []

-- the status byte is read, and then its bit 6 is taken back; a packet with it is queued
pub data Polls (seq tag : ℕ) (s t : State) : Type 0 where
  DoesPoll : (mid : State) → Logs (entry.Poll seq) s mid
      → t ≡ record mid { packets = mid.packets ++ StatusPacket tag (polled_byte s.standing) ∷ [] } → Polls seq tag s t

-- READ_STATUS_BYTE is answered. When it answers FAILED and when INTERRUPT_IN_BUSY is this instrument's choice.
pub data ReadsStatus (tag : ℕ) (submit : Pending) (s : State) (served : Served) : Type 0 where
  BadTag : ¬ IsStatusTag tag → served ≡ record { layout = status_layout STATUS_FAILED tag; behind = []; state = s }
      → ReadsStatus tag submit s served
  PolledBefore : IsStatusTag tag → submit.polled ≡ true
      → served ≡ record { layout = status_layout STATUS_SUCCESS tag; behind = []; state = s } → ReadsStatus tag submit s served
  Busy : IsStatusTag tag → submit.polled ≡ false → is_queued is_status s.packets ≡ true
      → served ≡ record { layout = status_layout STATUS_INTERRUPT_IN_BUSY tag; behind = []; state = s } → ReadsStatus tag submit s served
  PolledNow : (t : State) → IsStatusTag tag → submit.polled ≡ false → is_queued is_status s.packets ≡ false
      → Polls submit.head.seqnum tag s t
      → served ≡ record { layout = status_layout STATUS_SUCCESS tag; behind = []; state = t } → ReadsStatus tag submit s served

-- bNotify1 and bNotify2
abbrev pub packet_bytes : Packet → List ℕ
packet_bytes (StatusPacket tag byte) = (0x80 + tag) ∷ byte ∷ []
packet_bytes (ServicePacket byte) = 0x81 ∷ byte ∷ []

-- the submit with a packet
abbrev pub notified : Packet → Pending → Pending
notified packet submit = record submit { moved = packet_bytes packet }

-- the first packet goes into the first Interrupt-IN submit; one that has no room for it halts the endpoint, and the packet
-- stays queued
pub data Notifies (s : State) (puts : List Put) (t : State) : Type 0 where
  Gives : (submit : Pending) (behind : List Pending) (packet : Packet) (packets : List Packet)
      → s.interrupt_in ≡ submit ∷ behind → s.packets ≡ packet ∷ packets → 2 ≤ submit.head.length
      → puts ≡ ended success (notified packet submit) ∷ [] → t ≡ record s { interrupt_in = behind; packets = packets }
      → Notifies s puts t
  NoRoom : (submit : Pending) (behind : List Pending) (packet : Packet) (packets : List Packet)
      → s.interrupt_in ≡ submit ∷ behind → s.packets ≡ packet ∷ packets → submit.head.length < 2
      → puts ≡ halt_answers InterruptIn s → t ≡ halts InterruptIn s → Notifies s puts t
