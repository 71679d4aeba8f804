use Rattle.std.proofs.Common.{◌≢◌, List, [], ◌∷◌, ◌++◌, refl, lit<, lit≤}
use Rattle.usbip_wire.specs.Up as up
use Rattle.tmc_law.specs.Endpoint.{Control, BulkIn}
use Rattle.tmc_law.specs.State.{start}
use Rattle.tmc_law.specs.Put.{success, stalled}
use Rattle.tmc_law.specs.Halts.{DoesHalt}
use Rattle.tmc_law.specs.Run.{Entry, Runs}
use Rattle.tmc_law.specs.Step.{Steps, Comes, Answer, Halt}
use Rattle.tmc_law.specs.WorkedParts.{sending_parts}
use Rattle.tmc_law.specs.WorkedSession.{in_submit, step, answered}
use Rattle.host_joint.specs.Drains.{ReadComes}
use Rattle.host_joint.specs.Requests.{Comes as OnItsWay}
use Rattle.host_joint.specs.WorkedPieces.{requesting_first, giving_first, requesting_second, requested_second}
use Rattle.host_joint.specs.WorkedRecoveries.{clear_submit, halting_second, halted_inside, cancelling_second, cancelled_inside, aborting_second, cleared_at_last, clearing_all, wanting_halted}
use Rattle.host_joint.proofs.Restoring.{clear_is}
use Rattle.host_joint.proofs.Stopping.{with_control, clear_comes, clear_answers, halts_second, wants_packet, cancels_second, aborts_second, drain_came, drain_comes}
use Rattle.host_joint.proofs.worked_recoveries.worked_clears_stay.Goals as goal

pub returns-clause-clear : goal.returns-clause-clear
returns-clause-clear c =
    let join = c.runs_join.ensures.together in
    let before : List Entry = (sending_parts ++ (requesting_first ++ (giving_first ++ requesting_second))) ++ halting_second in
    let reached : Runs start before halted_inside = join (sending_parts ++ (requesting_first ++ (giving_first ++ requesting_second))) halting_second start requested_second halted_inside c.worked_pieces_are_read.ensures.reached halts_second in
    let pending = c.requests_stay.ensures.clear before (clear_submit 7) [] [] [] halted_inside (with_control (clear_submit 7) halted_inside) (Comes (up.Submit (clear_submit 7) [])) reached (clear_is 7)
    (record { outs = refl; ins = refl; unlinks = refl }) (record { endpoint = Control; number = refl; way = refl }, tt) tt clear_comes
    (OnItsWay refl refl refl (record { bulk_out = refl; bulk_in = refl; running = tt; side = tt; out = tt; waits = tt; shut = tt })) in
    c.requests_stay.ensures.clear (before ++ step (Comes (up.Submit (clear_submit 7) [])) [] ∷ []) (clear_submit 7) [] [] (answered (clear_submit 7) success 1 (0x01 ∷ []) ∷ []) (with_control (clear_submit 7) halted_inside) clearing_all Answer
    (join before (step (Comes (up.Submit (clear_submit 7) [])) [] ∷ []) start halted_inside (with_control (clear_submit 7) halted_inside) reached (with_control (clear_submit 7) halted_inside, clear_comes, refl)) (clear_is 7)
    (record { outs = refl; ins = refl; unlinks = refl }) tt tt clear_answers pending

pub returns-clause-rest : goal.returns-clause-rest
returns-clause-rest c =
    c.devices_rest.ensures.rest_cleared 3 11 [] cleared_at_last (lit≤ tt) (lit< tt, tt) refl (record { bulk_out = refl; bulk_in = refl; running = refl; side = refl; out = (refl, refl); waits = refl; shut = tt })

no_control : BulkIn ≢ Control
no_control e = cc

drain_halts : Steps drain_came (Halt BulkIn) (answered (in_submit 9 4096) stalled 0 [] ∷ []) wanting_halted
drain_halts = record { plugged = refl; leads = DoesHalt no_control refl refl refl }

pub returns-clause-halted : goal.returns-clause-halted
returns-clause-halted c =
    let join = c.runs_join.ensures.together in
    let before : List Entry = ((sending_parts ++ (requesting_first ++ (giving_first ++ requesting_second))) ++ cancelling_second) ++ aborting_second in
    let reached : Runs start before wants_packet =
    join ((sending_parts ++ (requesting_first ++ (giving_first ++ requesting_second))) ++ cancelling_second) aborting_second start cancelled_inside wants_packet
    (join (sending_parts ++ (requesting_first ++ (giving_first ++ requesting_second))) cancelling_second start requested_second cancelled_inside c.worked_pieces_are_read.ensures.reached cancels_second) aborts_second in
    let pending = c.drains_stay.ensures before (in_submit 9 4096) [] [] [] wants_packet drain_came (Comes (up.Submit (in_submit 9 4096) [])) reached (record { number = refl; way = refl; size = refl })
    (record { controls = refl; outs = refl; unlinks = refl }) (record { endpoint = BulkIn; number = refl; way = refl }, tt) refl tt drain_comes
    (ReadComes refl refl (record { bulk_out = refl; bulk_in = refl; running = (0, refl); side = tt; out = (refl, refl); waits = tt; shut = tt })) in (
      c.drains_stay.ensures (before ++ step (Comes (up.Submit (in_submit 9 4096) [])) [] ∷ []) (in_submit 9 4096) [] [] (answered (in_submit 9 4096) stalled 0 [] ∷ []) drain_came wanting_halted (Halt BulkIn)
          (join before (step (Comes (up.Submit (in_submit 9 4096) [])) [] ∷ []) start wants_packet drain_came reached (drain_came, drain_comes, refl)) (record { number = refl; way = refl; size = refl })
          (record { controls = refl; outs = refl; unlinks = refl }) tt refl tt drain_halts pending,
      record { bulk_out = refl; bulk_in = refl; running = (0, refl); side = tt; out = (refl, refl); waits = tt; shut = tt },
    )

pub returns-clause-early : goal.returns-clause-early
returns-clause-early c rest = let e = rest.running in absurd (cc)
