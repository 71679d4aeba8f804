-- how a device keeps the parts of the law's state that neither its exchange nor its pipes keep
use Rattle.std.specs.Prelude.{ℕ, ◌≤◌, Bool, true, false, List, [], ◌∷◌, ◌++◌, Option, Some, None}
use Rattle.tmc_wire.specs.declared.header.OutHeader.{OutHeader}
use Rattle.tmc_law.specs.State as law
use Rattle.tmc_law.specs.Put.{Put, Submitted, Unlinked}
use Rattle.endpoint_pipes.specs.Outcome.{left_of}
use Rattle.tmc_device.specs.declared.running.Running.{Running}
use Rattle.tmc_device.specs.declared.running.Running.TheVariants as running
use Rattle.tmc_device.specs.declared.packets.Packet.{Packet}
use Rattle.tmc_device.specs.declared.packets.Packet.TheVariants as packet
use Rattle.tmc_device.specs.declared.side.Phase.{Phase}
use Rattle.tmc_device.specs.declared.side.Phase.TheVariants as phase
use Rattle.tmc_device.specs.declared.outputs.Sent.{Sent}
use Rattle.tmc_device.specs.declared.outputs.Sent.TheVariants as sent

-- ---- the Bulk-OUT transfer in progress: its header, as it is read and as it came, and what came behind it, which the
-- exchange keeps

pub record Opening : Type 0 where
  pub header : OutHeader
  pub bytes : List ℕ

abbrev pub opening_of : Option OutHeader → (bytes : List ℕ) → Option Opening
opening_of None bytes = None
opening_of (Some header) bytes = Some (record { header = header; bytes = bytes })

abbrev pub header_in : Option Opening → Option OutHeader
header_in None = None
header_in (Some opening) = Some opening.header

abbrev pub transfer_of : Option Opening → (coming : List ℕ) → Option law.Transfer
transfer_of None coming = None
transfer_of (Some opening) coming = Some (record { header = opening.header; taken = opening.bytes ++ coming })

abbrev pub taken_in : Option law.Transfer → List ℕ
taken_in None = []
taken_in (Some transfer) = transfer.taken

-- the bytes of a whole transfer: those that were taken, or where none is in progress, those of the first submit, which then
-- holds all of them
abbrev pub bytes_of : Option law.Transfer → List law.Pending → List ℕ
bytes_of None queue = left_of queue
bytes_of (Some transfer) queue = transfer.taken

-- ---- the Bulk-IN transfer in progress

abbrev pub side_of : Phase → (left : List ℕ) → law.Side
side_of phase.Idle left = law.Idle
side_of (phase.Owed tag size) left = law.Owed tag size
side_of (phase.Sending tag size) left = law.Sending (record { tag = tag; size = size; left = left })

abbrev pub phase_in : law.Side → Phase
phase_in law.Idle = phase.Idle
phase_in (law.Owed tag size) = phase.Owed tag size
phase_in (law.Sending piece) = phase.Sending piece.tag piece.size

-- the bytes of the piece that were not given
abbrev pub left_in : law.Side → List ℕ
left_in law.Idle = []
left_in (law.Owed tag size) = []
left_in (law.Sending piece) = piece.left

-- ---- the split transaction that runs

abbrev pub running_of : Running → law.Running
running_of running.Nothing = law.Nothing
running_of running.AbortsOut = law.AbortsOut
running_of (running.AbortsIn wanting given) = law.AbortsIn wanting given
running_of running.Clears = law.Clears

-- ---- the packets that are queued for Interrupt-IN: at most two

abbrev pub packet_of : Packet → law.Packet
packet_of (packet.Status tag byte) = law.StatusPacket tag byte
packet_of (packet.Service byte) = law.ServicePacket byte

-- the tag of a status packet is at most 127
abbrev pub IsTagged : Packet → Type 0
IsTagged (packet.Status tag byte) = tag ≤ 127
IsTagged (packet.Service byte) = Unit {0}

abbrev pub packets_of : (first second : Option Packet) → List law.Packet
packets_of None second = []
packets_of (Some first) None = packet_of first ∷ []
packets_of (Some first) (Some second) = packet_of first ∷ packet_of second ∷ []

-- ---- what was put out and not yet dropped

abbrev pub put_of : Sent → Put
put_of (sent.Submitted asked answer bytes) = Submitted asked answer bytes.items
put_of (sent.Unlinked asked answer) = Unlinked asked answer

-- the list, and how many more there is room for
pub record Outbox : Type 0 where
  pub puts : List Put
  pub room : ℕ

-- ----

abbrev pub presence_of : (unplugged : Bool) → law.Presence
presence_of true = law.Unplugged
presence_of false = law.Plugged
