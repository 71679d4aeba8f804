-- what holds of every state that a device comes to: the tags and the sizes that its answers are laid out with
use Rattle.std.proofs.Common.{◌≡◌, ℕ, ◌<◌, ◌^◌, Bool, true, false, if◌then◌else◌, not, ◌&&◌, List, [], ◌∷◌, ◌++◌, Option, Some, None, sym, subst, lit<, arith}
use Rattle.tmc_wire.specs.declared.header.OutHeader.{OutHeader}
use Rattle.tmc_wire.specs.declared.header.OutHeader.TheVariants.{Message, Request, Trigger}
use Rattle.tmc_wire.specs.Header.{IsTag, IsSize, IsOutHeader}
use Rattle.instr_plain.specs.declared.log.LogEntry.{LogEntry}
use Rattle.instr_plain.specs.Standing.{Standing, polled_byte}
use Rattle.tmc_law.specs.State.{State, start, Transfer, Side, Idle, Owed, Sending, Running, Nothing, AbortsOut, AbortsIn, Clears, Packet, StatusPacket, ServicePacket}
use Rattle.tmc_law.specs.Logging.{Logs, with_service, is_queued, is_service}
use Rattle.tmc_law.specs.Aborts.{cut, given_of}
use Rattle.tmc_law.specs.Status.{IsStatusTag}
use Rattle.tmc_law.specs.Layouts.{IsUnderWay}
use Rattle.tmc_law.proofs.PieceTexts.{cut_short}

-- a request has a tag and a size
abbrev pub HeaderFits : OutHeader → Type 0
HeaderFits (Message tag size eom) = Unit {0}
HeaderFits (Request tag size) = IsTag tag × IsSize size
HeaderFits (Trigger tag) = Unit {0}

abbrev pub TransferFits : Option Transfer → Type 0
TransferFits None = Unit {0}
TransferFits (Some transfer) = HeaderFits transfer.header

abbrev pub SideFits : Side → Type 0
SideFits Idle = Unit {0}
SideFits (Owed tag size) = IsTag tag × IsSize size
SideFits (Sending piece) = IsTag piece.tag × IsSize piece.size × IsUnderWay piece

-- an abort's count has four bytes
abbrev pub RunningFits : Running → Type 0
RunningFits Nothing = Unit {0}
RunningFits AbortsOut = Unit {0}
RunningFits (AbortsIn wanting given) = given < 2 ^ 32
RunningFits Clears = Unit {0}

abbrev pub PacketFits : Packet → Type 0
PacketFits (StatusPacket tag byte) = IsStatusTag tag
PacketFits (ServicePacket byte) = Unit {0}

abbrev pub PacketsFit : List Packet → Type 0
PacketsFit [] = Unit {0}
PacketsFit (packet ∷ packets) = PacketFits packet × PacketsFit packets

pub record IsLaid (s : State) : Type 0 where
  pub transfer : TransferFits s.transfer
  pub side : SideFits s.side
  pub running : RunningFits s.running
  pub packets : PacketsFit s.packets

pub at_start : IsLaid start
at_start = record { transfer = tt; side = tt; running = tt; packets = tt }

-- a state that is another
pub like : (t u : State) → t ≡ u → IsLaid u → IsLaid t
like t u same laid = subst (λ (x : State). IsLaid x) (sym same) laid

-- ---- headers

pub header_fits : (header : OutHeader) (bytes : List ℕ) → IsOutHeader header bytes → HeaderFits header
header_fits (Message tag size eom) bytes is = tt
header_fits (Request tag size) bytes is = (is.tagged, is.counted)
header_fits (Trigger tag) bytes is = tt

-- ---- packets

pub pushed : (packets : List Packet) (packet : Packet) → PacketsFit packets → PacketFits packet → PacketsFit (packets ++ packet ∷ [])
pushed [] packet fit here = (here, tt)
pushed (first ∷ packets) packet fit here = (fit.0, pushed packets packet fit.1 here)

pub packet_there : (before : List Packet) (packet : Packet) (behind : List Packet) → PacketsFit (before ++ packet ∷ behind) → PacketFits packet
packet_there [] packet behind fit = fit.0
packet_there (first ∷ before) packet behind fit = packet_there before packet behind fit.1

chosen : (rises : Bool) (byte : ℕ) (packets : List Packet) → PacketsFit packets
    → PacketsFit (if rises then packets ++ ServicePacket byte ∷ [] else packets)
chosen true byte packets fit = pushed packets (ServicePacket byte) fit tt
chosen false byte packets fit = fit

served_fit : (before after : Standing) (packets : List Packet) → PacketsFit packets → PacketsFit (with_service before after packets)
served_fit before after packets fit =
    chosen ((not before.rqs && after.rqs) && not (is_queued is_service packets)) (polled_byte after) packets fit

-- an entry is logged
pub logged : (entry : LogEntry) (s t : State) → IsLaid s → Logs entry s t → IsLaid t
logged entry s t laid logs = like t _ logs.is (record {
  transfer = laid.transfer;
  side = laid.side;
  running = laid.running;
  packets = served_fit s.standing logs.standing s.packets laid.packets;
})

-- ---- aborts

pub cut_fits : (side : Side) → SideFits side → SideFits (cut side)
cut_fits Idle fits = tt
cut_fits (Owed tag size) fits = fits
cut_fits (Sending piece) fits = (fits.0, fits.1, cut_short piece fits.2)

pub given_fits : (side : Side) → SideFits side → given_of side < 2 ^ 32
given_fits Idle fits = lit< tt
given_fits (Owed tag size) fits = lit< tt
given_fits (Sending piece) fits = let small = fits.1.1 in omega arith
