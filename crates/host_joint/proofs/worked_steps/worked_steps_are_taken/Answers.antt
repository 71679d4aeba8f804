use Rattle.std.proofs.Common.{◌≡◌, inl, inr, true, false, Some, None, [], ◌∷◌, take, drop, replicate, codes, refl, arith}
use Rattle.usbip_wire.specs.Up as up
use Rattle.tmc_law.specs.Endpoint.{BulkOut, InterruptIn}
use Rattle.tmc_law.specs.State.{start, arrived}
use Rattle.tmc_law.specs.Put.{success, stalled}
use Rattle.tmc_law.specs.Step.{Steps, Comes}
use Rattle.tmc_law.specs.WorkedQuery.{query_submit, query_text, response_submit, response_text}
use Rattle.tmc_law.specs.WorkedParts.{spaced, last_text, sending_parts}
use Rattle.tmc_law.specs.WorkedSession.{out_submit, notify_submit, answered}
use Rattle.host_joint.specs.Bond.{Saying, Bound, TakesPart}
use Rattle.host_joint.specs.WorkedAsks.{query_ask, query_asked, query_job, request_job}
use Rattle.host_joint.specs.WorkedCancels.{race_unlinks, racing_behind}
use Rattle.host_joint.specs.WorkedRecoveries.{cleared_at_last}
use Rattle.host_joint.specs.WorkedTies.{telling, told_to}
use Rattle.host_joint.proofs.Coming.{comes}
use Rattle.host_joint.proofs.RaceExamples.{racing_fits, racing_order}
use Rattle.host_joint.proofs.Tied.{last_is, first_calm, says_on}
use Rattle.host_joint.proofs.worked_steps.worked_steps_are_taken.Goals as goal

pub returns-clause-last : goal.returns-clause-last
returns-clause-last c =
    let on = c.runs_join.ensures.apart (take 3 sending_parts) (drop 3 sending_parts) start told_to c.a_message_comes_in_parts.ensures in
    let went = c.ties_stay.ensures.tie (take 3 sending_parts) telling (Some (out_submit 1 112)) 2 [] [] start on.0 on.1 first_calm c.worked_hosts_are_tied.ensures.part in
    let given = c.answers_are_the_expected.ensures telling (out_submit 1 112) 2 (answered (out_submit 1 112) success 112 []) [] [] on.0 went in
    let tie = says_on spaced (replicate 100 32) (out_submit 1 112) given.answer.actual given.transferred 2 [] [] on.0 given.goes in
    (on.0, on.2, c.messages_are_cancelled.ensures.last_part telling (out_submit 2 20) last_text 2 spaced (replicate 100 32) (codes "*IDN?") 2 [] [] on.0 (refl, refl) refl last_is refl tie)

taken_whole : TakesPart 2 false true (out_submit 2 20) (record { seqnum = 2; status = success; actual = 20 }) [] 3 [] [] told_to → Bound (Saying 2 false true true) None [] 3 [] [] told_to
taken_whole (inl h) = h.2
taken_whole (inr h) = let e : success ≡ stalled = h.0 in absurd (cc)

pub returns-clause-whole : goal.returns-clause-whole
returns-clause-whole c =
    let first = returns-clause-last c in
    let went = c.bonds_stay.ensures.bound (Saying 2 false true false) (drop 3 sending_parts) (Some (out_submit 2 20)) [] 3 [] [] first.0 told_to first.1 ((λ e. cc), ((λ e. cc), ((λ e. cc), tt))) first.2 in
    let over = taken_whole (c.messages_are_cancelled.ensures.answer 2 false true (out_submit 2 20) [] 3 (out_submit 2 20) (record { seqnum = 2; status = success; actual = 20 }) [] [] [] told_to refl went).2 in
    (over, c.messages_are_cancelled.ensures.to_rest 2 false 3 [] [] told_to over)

one_comes : Steps start (Comes (up.Submit query_submit query_text)) [] (record start { bulk_out = arrived query_submit query_text ∷ [] })
one_comes = comes start query_submit query_text BulkOut (record { plugged = refl; wide = refl; eight = refl; setup = refl; carried = refl; bytes = refl; free = refl; few = refl }) (record { number = refl; way = refl; usable = refl })

pub returns-clause-came : goal.returns-clause-came
returns-clause-came c =
    c.cancelled_asks_stay.ensures.step [] query_asked race_unlinks (record query_ask { gone = true }) start (record start { bulk_out = arrived query_submit query_text ∷ [] }) (Comes (up.Submit query_submit query_text)) racing_behind [] []
    refl one_comes racing_fits racing_order (λ e. cc) c.worked_cancelled_asks_go_on.ensures.begins

notice_comes : Steps cleared_at_last (Comes (up.Submit (notify_submit 11 2) [])) [] (record cleared_at_last { interrupt_in = arrived (notify_submit 11 2) [] ∷ [] })
notice_comes =
    comes cleared_at_last (notify_submit 11 2) [] InterruptIn (record { plugged = refl; wide = refl; eight = refl; setup = refl; carried = refl; bytes = refl; free = refl; few = refl }) (record { number = refl; way = refl; usable = refl })

pub returns-clause-cleared : goal.returns-clause-cleared
returns-clause-cleared c =
    c.devices_rest.ensures.stays_cleared [] cleared_at_last (record cleared_at_last { interrupt_in = arrived (notify_submit 11 2) [] ∷ [] }) (Comes (up.Submit (notify_submit 11 2) [])) [] notice_comes
    (record { outs = refl; ins = refl; unlinks = refl }) refl (record { bulk_out = refl; bulk_in = refl; running = refl; side = refl; out = (refl, refl); waits = refl; shut = tt })

pub returns-clause-early : goal.returns-clause-early
returns-clause-early c s asking =
    let all : 1 ≡ 2 = c.answers_come_in_turn.ensures.cancelled_taken (record query_ask { answered = 1; gone = true }) (query_job ∷ []) request_job [] response_submit (record { seqnum = 3; status = success; actual = 32 }) response_text [] s
    refl refl refl (tt, tt) asking ((λ own ok. tt), tt) in omega (arith, all)
