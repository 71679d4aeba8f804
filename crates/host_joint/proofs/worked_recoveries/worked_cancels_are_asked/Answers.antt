use Rattle.std.proofs.Common.{true, [], ◌∷◌, ◌++◌, refl, arith, lit≤}
use Rattle.usbip_wire.specs.Up as up
use Rattle.tmc_law.specs.Endpoint.{BulkIn}
use Rattle.tmc_law.specs.Put.{success, unlinked}
use Rattle.tmc_law.specs.WorkedParts.{sending_parts}
use Rattle.tmc_law.specs.WorkedSession.{in_submit, unlink, answered}
use Rattle.host_joint.specs.Asking.{Asking, Cancelled}
use Rattle.host_joint.specs.WorkedLines.{one_asked}
use Rattle.host_joint.specs.WorkedPieces.{first_data, second_piece, requesting_first, giving_first, requesting_second, giving_second, requested_second, behind_second, next_job, asked_with}
use Rattle.host_joint.specs.WorkedRecoveries.{cancelling_second, cancelled_inside}
use Rattle.host_joint.proofs.Serving.{gives_second}
use Rattle.host_joint.proofs.Stopping.{cancels_second}
use Rattle.host_joint.proofs.InLine.{read_line, unlink_line, read_unlinking, read_is_apart}
use Rattle.host_joint.proofs.worked_recoveries.worked_cancels_are_asked.Goals as goal

pub returns-clause-cancelled : goal.returns-clause-cancelled
returns-clause-cancelled c =
    let read = c.messages_are_written.ensures.one_read (asked_with 4 (next_job ∷ []) 1 first_data) [] [] requested_second (in_submit 6 4096) (record { number = refl; way = refl; size = refl }) refl c.worked_pieces_are_asked.ensures.again in
    let asks = c.messages_are_written.ensures.unlinks (asked_with 4 (next_job ∷ []) 1 first_data) (up.Submit (in_submit 6 4096) [] ∷ []) [] requested_second (unlink 7 6 ∷ []) read in
    let before : Cancelled one_asked (unlink 7 6 ∷ []) (record (asked_with 4 (next_job ∷ []) 1 first_data) { gone = true }) (up.Submit (in_submit 6 4096) [] ∷ up.Unlink (unlink 7 6) ∷ []) [] requested_second =
    record { lines = record { submits = unlink_line; unlinked = refl }; order = read_unlinking; asking = asks } in
    c.cancelled_asks_stay.ensures.run (sending_parts ++ (requesting_first ++ (giving_first ++ requesting_second))) cancelling_second one_asked (unlink 7 6 ∷ []) (record (asked_with 4 (next_job ∷ []) 1 first_data) { gone = true })
    requested_second cancelled_inside [] [] c.worked_pieces_are_read.ensures.reached cancels_second ((record { endpoint = BulkIn; number = refl; way = refl }), tt) ((λ e. tt), tt) ((λ e. cc), ((λ e. cc), ((λ e. cc), tt))) before

pub returns-clause-left : goal.returns-clause-left
returns-clause-left c =
    let over = c.answers_are_taken.ensures.unlinks (record (asked_with 4 (next_job ∷ []) 1 first_data) { gone = true }) [] (unlink 7 6) (record { seqnum = 7; status = unlinked }) [] cancelled_inside (returns-clause-cancelled c).asking in
    c.asks_hand_over.ensures.to_in (record (asked_with 4 (next_job ∷ []) 1 first_data) { gone = true }) [] next_job [] [] cancelled_inside refl refl refl
    (record { queue = refl; sent = refl; events = refl }) (record { queue = refl; sent = refl; events = refl }) over

pub returns-clause-turns : goal.returns-clause-turns
returns-clause-turns c =
    let read = c.messages_are_written.ensures.one_read (asked_with 4 (next_job ∷ []) 1 first_data) [] [] requested_second (in_submit 6 4096) (record { number = refl; way = refl; size = refl }) refl c.worked_pieces_are_asked.ensures.again in
    c.answers_come_in_turn.ensures.run (sending_parts ++ (requesting_first ++ (giving_first ++ requesting_second))) giving_second (asked_with 4 (next_job ∷ []) 1 first_data) requested_second behind_second [] []
    c.worked_pieces_are_read.ensures.reached gives_second ((record { endpoint = BulkIn; number = refl; way = refl }), tt) refl ((λ e. cc), ((λ e. cc), ((λ e. cc), tt))) read tt

pub returns-clause-taken : goal.returns-clause-taken
returns-clause-taken c =
    let read = c.messages_are_written.ensures.one_read (asked_with 4 (next_job ∷ []) 1 first_data) [] [] requested_second (in_submit 6 4096) (record { number = refl; way = refl; size = refl }) refl c.worked_pieces_are_asked.ensures.again in
    let gave : Asking (asked_with 4 (next_job ∷ []) 1 first_data) [] (answered (in_submit 6 4096) success 24 second_piece ∷ []) behind_second =
    c.asking_stays.ensures.run (sending_parts ++ (requesting_first ++ (giving_first ++ requesting_second))) giving_second (asked_with 4 (next_job ∷ []) 1 first_data) requested_second behind_second [] []
    c.worked_pieces_are_read.ensures.reached gives_second ((record { endpoint = BulkIn; number = refl; way = refl }), tt) refl ((λ e. cc), ((λ e. cc), ((λ e. cc), tt))) read in
    c.answers_come_in_turn.ensures.taken (asked_with 4 (next_job ∷ []) 1 first_data) [] (in_submit 6 4096) (record { seqnum = 6; status = success; actual = 24 }) second_piece [] behind_second refl refl gave (returns-clause-turns c) refl refl

pub returns-clause-accepted : goal.returns-clause-accepted
returns-clause-accepted c f over =
    c.no_submit_is_refused.ensures one_asked [] (in_submit 6 4096) [] [] [] requested_second f (record { endpoint = BulkIn; number = refl; way = refl }) read_is_apart (lit≤ tt) (record { submits = read_line; unlinked = refl }) over

pub returns-clause-early : goal.returns-clause-early
returns-clause-early c asks =
    let e = c.answers_come_in_turn.ensures.taken (asked_with 4 (next_job ∷ []) 0 first_data) [] (in_submit 6 4096) (record { seqnum = 6; status = success; actual = 24 }) second_piece [] behind_second refl refl asks (returns-clause-turns c) refl refl in
    omega (arith, e)
