use Rattle.tmc_law.proofs.WorkedStatus.{halts_without_room}
use Rattle.tmc_law.proofs.worked.a_packet_without_room_stays.Goals as goal

pub returns : goal.returns
returns c = halts_without_room
