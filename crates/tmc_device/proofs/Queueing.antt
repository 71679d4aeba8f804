-- the packets that are queued
use Rattle.std.proofs.Common.{◌≡◌, ◌+◌, ◌<◌, Bool, true, false, List, [], ◌∷◌, ◌++◌, length, refl, arith}
use Rattle.std.specs.Prelude.{not, ◌&&◌}
use Rattle.std.proofs.lemmas.List.{length-append}
use Rattle.std.proofs.Math.Bool.{cond}
use Rattle.instr_plain.specs.Standing.{Standing, polled_byte}
use Rattle.tmc_law.specs.State.{Packet, StatusPacket, ServicePacket}
use Rattle.tmc_law.specs.Logging.{is_service, is_queued, with_service}
use Rattle.tmc_law.specs.Status.{is_status}
use Rattle.tmc_law.specs.Reached.{AreFew, queued_of}

of_two_kinds : (packets : List Packet) → queued_of is_status packets + queued_of is_service packets ≡ length packets
of_two_kinds [] = refl
of_two_kinds (StatusPacket tag byte ∷ packets) = omega (arith, of_two_kinds packets)
of_two_kinds (ServicePacket byte ∷ packets) = omega (arith, of_two_kinds packets)

no_service : (packets : List Packet) → is_queued is_service packets ≡ false → queued_of is_service packets ≡ 0
no_service [] h = refl
no_service (StatusPacket tag byte ∷ packets) h = omega (arith, no_service packets h)
no_service (ServicePacket byte ∷ packets) h = absurd (cc)

no_status : (packets : List Packet) → is_queued is_status packets ≡ false → queued_of is_status packets ≡ 0
no_status [] h = refl
no_status (StatusPacket tag byte ∷ packets) h = absurd (cc)
no_status (ServicePacket byte ∷ packets) h = omega (arith, no_status packets h)

-- where no request for service is queued, there is a place for one
pub place_for_service : (packets : List Packet) → AreFew packets → is_queued is_service packets ≡ false → length packets < 2
place_for_service packets few none = let kinds = of_two_kinds packets in let no = no_service packets none in let least = few.status in omega (arith, kinds, no, least)

-- and likewise for a status packet
pub place_for_status : (packets : List Packet) → AreFew packets → is_queued is_status packets ≡ false → length packets < 2
place_for_status packets few none = let kinds = of_two_kinds packets in let no = no_status packets none in let least = few.service in omega (arith, kinds, no, least)

-- also behind what is logged, which may queue a request for service
pub place_behind_service : (before after : Standing) (packets : List Packet) → AreFew packets → is_queued is_status packets ≡ false
    → length (with_service before after packets) < 2
place_behind_service before after packets few none = by (not before.rqs && after.rqs) (is_queued is_service packets) refl
  where
    by : (rises queued : Bool) → is_queued is_service packets ≡ queued
        → length (cond (rises && not queued) (packets ++ ServicePacket (polled_byte after) ∷ []) packets) < 2
    by true false free =
        let kinds = of_two_kinds packets in
        let no = no_status packets none in
        let least = no_service packets free in
        omega (arith, kinds, no, least, length-append packets (ServicePacket (polled_byte after) ∷ []))
    by true true some = place_for_status packets few none
    by false queued some = place_for_status packets few none
