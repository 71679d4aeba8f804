-- the packets that are queued
use Rattle.std.proofs.Common.{◌≡◌, List, [], ◌∷◌, ◌++◌, refl, subst}
use Rattle.tmc_wire.specs.Notify.{IsPacket}
use Rattle.tmc_law.specs.State.{State, start, Packet, StatusPacket, ServicePacket}
use Rattle.tmc_law.specs.Status.{packet_bytes}
use Rattle.tmc_law.specs.Run.{Entry, Runs}
use Rattle.tmc_law.specs.Layouts.{notify_of}
use Rattle.tmc_law.proofs.Laid.{PacketFits, PacketsFit, packet_there}
use Rattle.tmc_law.proofs.LaidSteps.{reached}

laid : (packet : Packet) → PacketFits packet → IsPacket (notify_of packet) (packet_bytes packet)
laid (StatusPacket tag byte) fits = record { more = []; least = fits.0; greatest = fits.1; layout = refl }
laid (ServicePacket byte) fits = record { more = []; layout = refl }

pub packets : (run : List Entry) (s : State) (before behind : List Packet) (packet : Packet) → Runs start run s
    → s.packets ≡ before ++ packet ∷ behind → IsPacket (notify_of packet) (packet_bytes packet)
packets run s before behind packet runs queued =
    laid packet (packet_there before packet behind (subst (λ (x : List Packet). PacketsFit x) queued (reached run s runs).packets))
