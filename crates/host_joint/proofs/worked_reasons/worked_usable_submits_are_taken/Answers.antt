use Rattle.std.proofs.Common.{◌≡◌, inr, true, false, Some, [], take, drop, replicate, codes, refl, lit≤}
use Rattle.tmc_law.specs.Endpoint.{Endpoint, Control, BulkOut, BulkIn, InterruptIn}
use Rattle.tmc_law.specs.State.{start, is_halted}
use Rattle.tmc_law.specs.Put.{success, stalled}
use Rattle.tmc_law.specs.WorkedParts.{spaced, spaces_text, sending_parts}
use Rattle.tmc_law.specs.WorkedSession.{out_submit, in_submit}
use Rattle.host_joint.specs.Unlinking.{IsBulk}
use Rattle.host_joint.specs.Bond.{Saying}
use Rattle.host_joint.specs.Hand as hand
use Rattle.host_joint.specs.Reasons.{both}
use Rattle.host_joint.specs.WorkedPieces.{first_data, giving_second, requested_second, behind_second}
use Rattle.host_joint.specs.WorkedRecoveries.{reading_rest}
use Rattle.host_joint.proofs.Serving.{gives_second}
use Rattle.host_joint.proofs.Tied.{spaces_are}
use Rattle.host_joint.proofs.worked_reasons.worked_usable_submits_are_taken.Goals as goal

at_start : (e : Endpoint) → IsBulk e → is_halted e start ≡ false
at_start Control bulk = absurd bulk
at_start BulkOut bulk = refl
at_start BulkIn bulk = refl
at_start InterruptIn bulk = absurd bulk

at_second : (e : Endpoint) → IsBulk e → is_halted e requested_second ≡ false
at_second Control bulk = absurd bulk
at_second BulkOut bulk = refl
at_second BulkIn bulk = refl
at_second InterruptIn bulk = absurd bulk

pub returns-clause-part : goal.returns-clause-part
returns-clause-part c =
    let split = c.runs_join.ensures.apart (take 3 sending_parts) (drop 3 sending_parts) start _ c.a_message_comes_in_parts.ensures in
    let wrote = c.messages_are_cancelled.ensures.part hand.Free (out_submit 1 112) spaces_text 1 spaced [] (replicate 100 32) (codes "*IDN?") 1 [] [] start (refl, lit≤ tt) refl spaces_are refl (c.ties_begin.ensures.power_on 1) in
    let went = c.endpoints_stay_usable.ensures.stays both (Saying 1 true false false) (take 3 sending_parts) (Some (out_submit 1 112)) [] 2 [] [] start split.0 split.1
    ((λ e. cc), (λ e is same. cc), ((λ e. cc), (λ e is same. cc), ((λ e. cc), (λ e is same. cc), tt))) (λ e is may. may) (record { bound = wrote; usable = λ e bulk is. at_start e bulk }) in
    (split.0, split.1, (c.usable_submits_are_taken.ensures.part both 1 true false (out_submit 1 112) [] 2 (out_submit 1 112) (record { seqnum = 1; status = success; actual = 112 }) [] [] [] split.0 refl refl went).2)

pub returns-clause-read : goal.returns-clause-read
returns-clause-read c =
    c.endpoints_stay_usable.ensures.stays both reading_rest giving_second (Some (in_submit 6 4096)) [] 7 [] [] requested_second behind_second gives_second
    ((λ e. cc), (λ e is same. cc), ((λ e. cc), (λ e is same. cc), ((λ e. cc), (λ e is same. cc), tt))) (λ e is may. may) (record { bound = c.worked_halts_are_recovered.ensures.reading; usable = λ e bulk is. at_second e bulk })

pub returns-clause-mistaken : goal.returns-clause-mistaken
returns-clause-mistaken c unlinks next ups downs s b =
    let e : stalled ≡ success = (c.usable_submits_are_taken.ensures.part both 1 true false (out_submit 1 112) unlinks next (out_submit 1 112) (record { seqnum = 1; status = stalled; actual = 0 }) [] ups downs s refl refl b).0 in absurd (cc)

pub returns-clause-mistaken_read : goal.returns-clause-mistaken_read
returns-clause-mistaken_read c unlinks next ups downs s b =
    let e : stalled ≡ success = c.usable_submits_are_taken.ensures.read 2 spaced 4 4000 first_data [] (in_submit 6 4096) unlinks next (in_submit 6 4096) (record { seqnum = 6; status = stalled; actual = 0 }) [] ups downs s (inr refl) b in absurd (cc)
