use Rattle.std.proofs.Common.{◌≡◌, Bool, List, true, false, [], ◌∷◌, refl, subst, lit<, lit≤}
use Rattle.instr_plain.specs.declared.log.LogEntry.{LogEntry}
use Rattle.tmc_law.specs.Endpoint.{BulkOut, BulkIn}
use Rattle.tmc_law.specs.State.{is_halted}
use Rattle.tmc_law.specs.Put.{success, stalled}
use Rattle.tmc_law.specs.Step.{Answer, Begin, Halt}
use Rattle.tmc_law.specs.WorkedQuery.{identity}
use Rattle.tmc_law.specs.WorkedParts.{spaced}
use Rattle.tmc_law.specs.WorkedSession.{out_submit, in_submit, answered}
use Rattle.host_joint.specs.Stage.{NoExec}
use Rattle.host_joint.specs.WorkedPieces.{requested_second, behind_second, first_data, second_piece, next_job, asked_with}
use Rattle.host_joint.specs.WorkedRecoveries.{clear_submit, halted_inside}
use Rattle.host_joint.specs.WorkedTies.{told_to, last_request}
use Rattle.host_joint.proofs.Stopping.{with_control, clears_second, clear_answers}
use Rattle.host_joint.proofs.InLine.{request_asked, request_rises, request_line, executed}
use Rattle.host_joint.proofs.worked_lines.worked_numbers_rise.Goals as goal

pub returns-clause-unused : goal.returns-clause-unused
returns-clause-unused c = c.new_numbers_are_unused.ensures 3 3 [] told_to (lit≤ tt) (lit< tt, tt)

pub returns-clause-rise : goal.returns-clause-rise
returns-clause-rise c = c.new_numbers_rise.ensures (out_submit 3 12) last_request [] told_to (lit< tt, tt) (tt, tt)

pub returns-clause-kept : goal.returns-clause-kept
returns-clause-kept c =
    c.what_ran_is_kept.ensures 2 spaced identity [] (with_control (clear_submit 7) halted_inside) clears_second Answer (answered (clear_submit 7) success 1 (0x01 ∷ []) ∷ []) clear_answers (tt, tt)
    c.worked_pieces_are_read.ensures.whole.1

pub returns-clause-accepted : goal.returns-clause-accepted
returns-clause-accepted c f over =
    c.no_submit_is_refused.ensures request_asked [] (out_submit 3 12) last_request [] [] told_to f (record { endpoint = BulkOut; number = refl; way = refl }) request_rises (lit≤ tt)
    (record { submits = λ e. request_line e; unlinked = refl }) over

pub returns-clause-usable : goal.returns-clause-usable
returns-clause-usable c count puts t step = by (is_halted BulkIn t) refl
  where
    by : (b : Bool) → is_halted BulkIn t ≡ b → is_halted BulkIn t ≡ false
    by false is = is
    by true is =
        let e : Begin count ≡ Halt BulkIn = c.asks_halt_nothing.ensures (asked_with 4 (next_job ∷ []) 1 first_data) requested_second t (Begin count) [] [] puts BulkIn tt step c.worked_pieces_are_asked.ensures.again refl is in
        absurd (cc)

pub returns-clause-never : goal.returns-clause-never
returns-clause-never c message response ran =
    executed 3 message ran.before ran.behind (subst (λ (l : List LogEntry). NoExec 3 l) ran.whole (c.new_numbers_are_unused.ensures 3 3 [] behind_second (lit≤ tt) (lit< tt, tt)).0)

pub returns-clause-unasked : goal.returns-clause-unasked
returns-clause-unasked c s asks =
    let status = (c.nothing_comes_unasked.ensures.reads (asked_with 4 [] 0 first_data) [] (in_submit 6 4096) (record { seqnum = 6; status = success; actual = 24 }) second_piece [] s refl refl (λ e. cc) asks).1 in
    let e : success ≡ stalled = status in cc
