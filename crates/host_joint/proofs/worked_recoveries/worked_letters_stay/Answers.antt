use Rattle.std.proofs.Common.{List, [], ◌∷◌, ◌++◌, refl, lit<, lit≤}
use Rattle.tmc_wire.specs.declared.class_request.ClassRequest.TheVariants.{AbortOut, CheckClear}
use Rattle.tmc_wire.specs.ControlTable.{row}
use Rattle.tmc_law.specs.Endpoint.{Control, BulkIn, ends}
use Rattle.tmc_law.specs.State.{start, arrived}
use Rattle.tmc_law.specs.Put.{success}
use Rattle.tmc_law.specs.Control.{Asks}
use Rattle.tmc_law.specs.Aborts.{NotBegun, NoTransfer as NoneBegun}
use Rattle.tmc_law.specs.Run.{Entry, Runs}
use Rattle.tmc_law.specs.WorkedParts.{sending_parts}
use Rattle.tmc_law.specs.WorkedSession.{answered}
use Rattle.host_joint.specs.Positions.{rests, out_begun, out_first, clears, cleared, NoTransfer}
use Rattle.host_joint.specs.Requests.{IsClass, out_aborts, out_fails, out_rests, never, clear_checked, clear_pending, usable_again, usable_cleared}
use Rattle.host_joint.specs.WorkedPieces.{requesting_first, giving_first, requesting_second, requested_second}
use Rattle.host_joint.specs.WorkedRecoveries as worked
use Rattle.host_joint.specs.WorkedRecoveries.{abort_out_submit, aborting_nothing, check_clear_submit, usable_in, halting_second, halted_inside, freeing, clearing_halted, clearing_all, checking_clear, freeing_out, freeing_in, cleared_at_last}
use Rattle.host_joint.proofs.Coming.{comes}
use Rattle.host_joint.proofs.Restoring.{in_is, check_clear_is}
use Rattle.host_joint.proofs.Stopping.{with_control, class_answers, halts_second, frees, cleared_second, freed_out, clears_halted, checks_clear, frees_out, frees_in}
use Rattle.host_joint.proofs.Lettered.{class_run, clear_halt_run}
use Rattle.host_joint.proofs.worked_recoveries.worked_letters_stay.Goals as goal

abort_out_asks : Asks (arrived (abort_out_submit 1) []) (row ends (AbortOut 1))
abort_out_asks = record { fits = record { request_type = lit< tt; request = lit< tt; value = lit< tt; index = lit< tt; length = lit< tt }; layout = refl }

abort_out_is : IsClass (abort_out_submit 1) (AbortOut 1)
abort_out_is = record {
  number = refl;
  way = refl;
  setup = row ends (AbortOut 1);
  asks = abort_out_asks;
  row = record { fits = lit< tt; is = refl };
  room = lit≤ tt;
}

aborts_nothing : Runs start aborting_nothing start
aborts_nothing = (
  with_control (abort_out_submit 1) start,
  comes start (abort_out_submit 1) [] Control (record { plugged = refl; wide = refl; eight = refl; setup = refl; carried = refl; bytes = refl; free = refl; few = refl }) (record { number = refl; way = refl; usable = refl }),
  (
    start,
    class_answers (with_control (abort_out_submit 1) start) (abort_out_submit 1) (AbortOut 1) (record { layout = 0x80 ∷ 0x00 ∷ []; behind = []; state = start }) refl refl abort_out_asks (lit< tt)
        (NotBegun (0x80 ∷ 0x00 ∷ []) (NoneBegun refl refl refl) refl),
    refl,
  ),
)

pub returns-clause-abort_out : goal.returns-clause-abort_out
returns-clause-abort_out c = (
  aborts_nothing,
  class_run (AbortOut 1) (out_begun 1) (out_aborts 1) out_fails (c.requests_stay.ensures.abort_out 1) c.runs_join.ensures.together (abort_out_submit 1) abort_out_is (record { endpoint = Control; number = refl; way = refl }) []
      (answered (abort_out_submit 1) success 2 (0x80 ∷ 0x00 ∷ []) ∷ []) start start refl (record { bulk_out = refl; bulk_in = refl; running = refl; side = refl; out = NoTransfer refl; waits = tt; shut = tt }) refl aborts_nothing,
)

pub returns-clause-abort_first : goal.returns-clause-abort_first
returns-clause-abort_first c =
    class_run (AbortOut 1) (out_first 1) (out_aborts 1) out_rests (c.requests_stay.ensures.abort_first 1) c.runs_join.ensures.together (abort_out_submit 1) abort_out_is (record { endpoint = Control; number = refl; way = refl }) []
    (answered (abort_out_submit 1) success 2 (0x80 ∷ 0x00 ∷ []) ∷ []) start start refl (record { bulk_out = refl; bulk_in = refl; running = refl; side = refl; out = (NoTransfer refl, refl); waits = tt; shut = tt }) refl aborts_nothing

abbrev before_halt : List Entry
before_halt = (sending_parts ++ (requesting_first ++ (giving_first ++ requesting_second))) ++ halting_second

abbrev before_clear : List Entry
before_clear = before_halt ++ clearing_halted

pub returns-clause-check_clear : goal.returns-clause-check_clear
returns-clause-check_clear c =
    let join = c.runs_join.ensures.together in
    let halted = join (sending_parts ++ (requesting_first ++ (giving_first ++ requesting_second))) halting_second start requested_second halted_inside c.worked_pieces_are_read.ensures.reached halts_second in (
      cleared_second,
      checks_clear,
      class_run CheckClear clears clear_checked clear_pending c.requests_stay.ensures.check_clear join (check_clear_submit 8) (check_clear_is 8) (record { endpoint = Control; number = refl; way = refl }) before_clear
          (answered (check_clear_submit 8) success 2 (0x01 ∷ 0x00 ∷ []) ∷ []) clearing_all cleared_second (join before_halt clearing_halted start halted_inside clearing_all halted clears_halted)
          (record { bulk_out = refl; bulk_in = refl; running = refl; side = refl; out = (refl, refl); waits = refl; shut = refl }) refl checks_clear,
    )

pub returns-clause-clear_halt : goal.returns-clause-clear_halt
returns-clause-clear_halt c =
    let join = c.runs_join.ensures.together in
    let halted = join (sending_parts ++ (requesting_first ++ (giving_first ++ requesting_second))) halting_second start requested_second halted_inside c.worked_pieces_are_read.ensures.reached halts_second in
    clear_halt_run BulkIn rests usable_again never (c.requests_stay.ensures.clear_halt BulkIn) join (usable_in 8) (in_is 8) (record { endpoint = Control; number = refl; way = refl }) before_halt
    (answered (usable_in 8) success 0 [] ∷ []) halted_inside worked.usable_again halted (record { bulk_out = refl; bulk_in = refl; running = refl; side = refl; out = (refl, refl); waits = tt; shut = tt }) refl frees

pub returns-clause-clear_halt_behind : goal.returns-clause-clear_halt_behind
returns-clause-clear_halt_behind c =
    let join = c.runs_join.ensures.together in
    let halted = join (sending_parts ++ (requesting_first ++ (giving_first ++ requesting_second))) halting_second start requested_second halted_inside c.worked_pieces_are_read.ensures.reached halts_second in
    let clearing = join before_halt clearing_halted start halted_inside clearing_all halted clears_halted in
    let checked = join before_clear checking_clear start clearing_all cleared_second clearing checks_clear in
    let out = join (before_clear ++ checking_clear) freeing_out start cleared_second freed_out checked frees_out in
    clear_halt_run BulkIn cleared usable_cleared never (c.requests_stay.ensures.clear_halt_behind BulkIn) join (usable_in 10) (in_is 10) (record { endpoint = Control; number = refl; way = refl }) ((before_clear ++ checking_clear) ++ freeing_out)
    (answered (usable_in 10) success 0 [] ∷ []) freed_out cleared_at_last out (record { bulk_out = refl; bulk_in = refl; running = refl; side = refl; out = (refl, refl); waits = refl; shut = tt }) refl frees_in

pub returns-clause-early : goal.returns-clause-early
returns-clause-early c at = let e = at.running in absurd (cc)
