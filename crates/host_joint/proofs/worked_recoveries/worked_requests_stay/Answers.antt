use Rattle.std.proofs.Common.{List, [], ◌∷◌, ◌++◌, refl, lit<, lit≤}
use Rattle.usbip_wire.specs.Up as up
use Rattle.tmc_law.specs.Endpoint.{Control, BulkIn}
use Rattle.tmc_law.specs.State.{start}
use Rattle.tmc_law.specs.Put.{success}
use Rattle.tmc_law.specs.Run.{Entry, Runs}
use Rattle.tmc_law.specs.Step.{Comes, Answer, Fill}
use Rattle.tmc_law.specs.WorkedParts.{sending_parts}
use Rattle.tmc_law.specs.WorkedSession.{in_submit, step, answered}
use Rattle.host_joint.specs.Positions.{IsSent}
use Rattle.host_joint.specs.Requests.{Comes as OnItsWay}
use Rattle.host_joint.specs.Drains.{ReadComes}
use Rattle.host_joint.specs.WorkedPieces.{requesting_first, giving_first, requesting_second, requested_second, asked_with, spaces_job, last_job}
use Rattle.host_joint.specs.WorkedTies.{told_to}
use Rattle.host_joint.specs.WorkedRecoveries.{usable_again, cancelling_second, cancelled_inside, aborting_second, abort_submit}
use Rattle.host_joint.proofs.Restoring.{abort_is}
use Rattle.host_joint.proofs.Stopping.{with_control, wants_packet, gave_packet, cancels_second, aborts_second, abort_comes, abort_answers, drain_came, drain_comes, drain_fills}
use Rattle.host_joint.proofs.worked_recoveries.worked_requests_stay.Goals as goal

pub returns-clause-abort : goal.returns-clause-abort
returns-clause-abort c =
    let join = c.runs_join.ensures.together in
    let before : List Entry = (sending_parts ++ (requesting_first ++ (giving_first ++ requesting_second))) ++ cancelling_second in
    let reached : Runs start before cancelled_inside = join (sending_parts ++ (requesting_first ++ (giving_first ++ requesting_second))) cancelling_second start requested_second cancelled_inside c.worked_pieces_are_read.ensures.reached cancels_second in
    let pending = c.requests_stay.ensures.abort_in 4 before (abort_submit 8) [] [] [] cancelled_inside (with_control (abort_submit 8) cancelled_inside) (Comes (up.Submit (abort_submit 8) [])) reached (abort_is 8)
    (record { outs = refl; ins = refl; unlinks = refl }) (record { endpoint = Control; number = refl; way = refl }, tt) tt abort_comes
    (OnItsWay refl refl refl (record { bulk_out = refl; bulk_in = refl; running = refl; side = IsSent _ refl refl; out = (refl, refl); waits = tt; shut = tt })) in
    c.requests_stay.ensures.abort_in 4 (before ++ step (Comes (up.Submit (abort_submit 8) [])) [] ∷ []) (abort_submit 8) [] [] (answered (abort_submit 8) success 2 (0x01 ∷ 0x04 ∷ []) ∷ []) (with_control (abort_submit 8) cancelled_inside) wants_packet Answer
    (join before (step (Comes (up.Submit (abort_submit 8) [])) [] ∷ []) start cancelled_inside (with_control (abort_submit 8) cancelled_inside) reached (with_control (abort_submit 8) cancelled_inside, abort_comes, refl)) (abort_is 8)
    (record { outs = refl; ins = refl; unlinks = refl }) tt tt abort_answers pending

pub returns-clause-drain : goal.returns-clause-drain
returns-clause-drain c =
    let join = c.runs_join.ensures.together in
    let before : List Entry = ((sending_parts ++ (requesting_first ++ (giving_first ++ requesting_second))) ++ cancelling_second) ++ aborting_second in
    let reached : Runs start before wants_packet =
    join ((sending_parts ++ (requesting_first ++ (giving_first ++ requesting_second))) ++ cancelling_second) aborting_second start cancelled_inside wants_packet
    (join (sending_parts ++ (requesting_first ++ (giving_first ++ requesting_second))) cancelling_second start requested_second cancelled_inside c.worked_pieces_are_read.ensures.reached cancels_second) aborts_second in
    let pending = c.drains_stay.ensures before (in_submit 9 4096) [] [] [] wants_packet drain_came (Comes (up.Submit (in_submit 9 4096) [])) reached (record { number = refl; way = refl; size = refl })
    (record { controls = refl; outs = refl; unlinks = refl }) (record { endpoint = BulkIn; number = refl; way = refl }, tt) refl tt drain_comes
    (ReadComes refl refl (record { bulk_out = refl; bulk_in = refl; running = (0, refl); side = tt; out = (refl, refl); waits = tt; shut = tt })) in
    c.drains_stay.ensures (before ++ step (Comes (up.Submit (in_submit 9 4096) [])) [] ∷ []) (in_submit 9 4096) [] [] (answered (in_submit 9 4096) success 0 [] ∷ []) drain_came gave_packet (Fill 1)
    (join before (step (Comes (up.Submit (in_submit 9 4096) [])) [] ∷ []) start wants_packet drain_came reached (drain_came, drain_comes, refl)) (record { number = refl; way = refl; size = refl })
    (record { controls = refl; outs = refl; unlinks = refl }) tt refl tt drain_fills pending

pub returns-clause-rest : goal.returns-clause-rest
returns-clause-rest c =
    c.devices_rest.ensures.rest 3 11 [] usable_again (lit≤ tt) (lit< tt, tt) refl (record { bulk_out = refl; bulk_in = refl; running = refl; side = refl; out = (refl, refl); waits = tt; shut = tt })

pub returns-clause-tag : goal.returns-clause-tag
returns-clause-tag c =
    c.asks_are_settled_late.ensures.request (asked_with 3 (spaces_job ∷ last_job ∷ []) 2 []) 9 4000 [] [] told_to (λ other most e. cc) refl c.worked_pieces_are_asked.ensures.said

pub returns-clause-resting : goal.returns-clause-resting
returns-clause-resting c at = let e = at.running.1 in absurd (cc)
