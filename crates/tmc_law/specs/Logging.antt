-- the log, and requests for service (IEEE 488.2, section 11.3; USB488 1.0, section 3.4.1)
use Rattle.std.specs.Prelude.{◌≡◌, ℕ, Bool, true, false, if◌then◌else◌, not, ◌&&◌, List, [], ◌∷◌, ◌++◌}
use Rattle.instr_plain.specs.declared.log.LogEntry.{LogEntry}
use Rattle.instr_plain.specs.Standing.{Standing, polled_byte}
use Rattle.instr_plain.specs.Log.{After}
use Rattle.tmc_law.specs.State.{State, Packet, StatusPacket, ServicePacket}

abbrev pub is_service : Packet → Bool
is_service (StatusPacket tag byte) = false
is_service (ServicePacket byte) = true

-- whether a packet of this kind is queued
abbrev pub is_queued : (Packet → Bool) → List Packet → Bool
is_queued is_kind [] = false
is_queued is_kind (packet ∷ packets) = if is_kind packet then true else is_queued is_kind packets

-- where RQS becomes set, a service packet with the status byte of that moment is queued, unless one is queued already
abbrev pub with_service : (before after : Standing) → List Packet → List Packet
with_service before after packets =
    if (not before.rqs && after.rqs) && not (is_queued is_service packets) then packets ++ ServicePacket (polled_byte after) ∷ []
    else packets

-- an entry is logged
pub record Logs (entry : LogEntry) (s t : State) : Type 0 where
  pub standing : Standing
  pub after : After s.standing entry standing
  pub is : t ≡ record s { log = s.log ++ entry ∷ []; standing = standing; packets = with_service s.standing standing s.packets }

-- the bytes of the response that were not read
abbrev pub unread : State → List ℕ
unread s = s.standing.unread
