use Rattle.std.proofs.Common.{[], ◌∷◌, ◌++◌, refl}
use Rattle.tmc_law.specs.Endpoint.{BulkIn}
use Rattle.tmc_law.specs.Put.{stalled}
use Rattle.tmc_law.specs.WorkedParts.{sending_parts}
use Rattle.tmc_law.specs.WorkedSession.{in_submit}
use Rattle.host_joint.specs.WorkedPieces.{first_data, requesting_first, giving_first, requesting_second, requested_second, next_job, asked_with}
use Rattle.host_joint.specs.WorkedRecoveries.{halting_second, halted_inside}
use Rattle.host_joint.proofs.Stopping.{halts_second}
use Rattle.host_joint.proofs.Examples.{not_answered}
use Rattle.host_joint.proofs.worked_recoveries.worked_halts_are_asked.Goals as goal

pub returns-clause-halted : goal.returns-clause-halted
returns-clause-halted c =
    c.asking_stays.ensures.run (sending_parts ++ (requesting_first ++ (giving_first ++ requesting_second))) halting_second (asked_with 4 (next_job ∷ []) 1 first_data) requested_second halted_inside [] []
    c.worked_pieces_are_read.ensures.reached halts_second ((record { endpoint = BulkIn; number = refl; way = refl }), tt) refl ((λ e. cc), ((λ e. cc), ((λ e. cc), tt)))
    (c.messages_are_written.ensures.one_read (asked_with 4 (next_job ∷ []) 1 first_data) [] [] requested_second (in_submit 6 4096) (record { number = refl; way = refl; size = refl }) refl c.worked_pieces_are_asked.ensures.again)

pub returns-clause-taken : goal.returns-clause-taken
returns-clause-taken c =
    let asks = not_answered (asked_with 4 (next_job ∷ []) 1 first_data) [] (in_submit 6 4096) (record { seqnum = 6; status = stalled; actual = 0 }) [] [] halted_inside refl
    (c.answers_are_taken.ensures.ins (asked_with 4 (next_job ∷ []) 1 first_data) [] (in_submit 6 4096) (record { seqnum = 6; status = stalled; actual = 0 }) [] [] halted_inside refl (returns-clause-halted c)) in
    (asks, c.what_is_read_is_owned.ensures.in_hand (asked_with 4 (next_job ∷ []) 1 first_data) [] [] halted_inside asks)

pub returns-clause-left : goal.returns-clause-left
returns-clause-left c =
    c.asks_hand_over.ensures.to_in (asked_with 4 (next_job ∷ []) 1 first_data) [] next_job [] [] halted_inside refl refl refl
    (record { queue = refl; sent = refl; events = refl }) (record { queue = refl; sent = refl; events = refl }) (returns-clause-taken c).0
