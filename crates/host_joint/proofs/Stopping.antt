-- in the middle of the second piece Bulk-IN halts, or the host cancels, step by step
use Rattle.std.proofs.Common.{◌≡◌, ◌≢◌, ℕ, ◌^◌, true, false, List, [], ◌∷◌, refl, lit<}
use Rattle.usbip_wire.specs.Up as up
use Rattle.tmc_law.specs.Put.{Unlinked, success}
use Rattle.usb_setup.specs.declared.setup.Setup.{Setup}
use Rattle.usbip_wire.specs.declared.submit.SubmitHead.{SubmitHead}
use Rattle.usbip_wire.specs.Urb.{AreWide}
use Rattle.tmc_wire.specs.declared.class_request.ClassRequest.{ClassRequest}
use Rattle.tmc_wire.specs.declared.class_request.ClassRequest.TheVariants.{AbortIn, CheckIn, Clear, CheckClear}
use Rattle.tmc_wire.specs.ControlTable.{TagFits, row}
use Rattle.tmc_law.specs.Endpoint.{Control, BulkOut, BulkIn, ends}
use Rattle.instr_plain.specs.Standing.{at_power_on}
use Rattle.tmc_law.specs.State.{State, Plugged, Idle, Sending, Nothing, AbortsIn, Clears, start, arrived}
use Rattle.tmc_law.specs.Halts.{DoesHalt}
use Rattle.tmc_law.specs.Queues.{Hits, Misses}
use Rattle.tmc_law.specs.BulkIn.{Ends}
use Rattle.tmc_law.specs.Control.{Asks, control_answer}
use Rattle.tmc_law.specs.Aborts.{Served, NoTransfer, NotBegun, DoesAbort, checked_in, DoesClear, checked_clear}
use Rattle.tmc_law.specs.Standard.{Standard, ClearHalt, IsStandard, standard_layout, standard_effect}
use Rattle.tmc_law.specs.Class.{Serves, ByClass, ByStandard}
use Rattle.tmc_law.specs.Step.{Steps, Comes, Answer, Fill}
use Rattle.tmc_law.specs.Run.{Entry, Runs}
use Rattle.tmc_law.specs.WorkedSession.{in_submit, unlink, step, answered}
use Rattle.host_joint.specs.WorkedPieces.{requested_second}
use Rattle.host_joint.specs.WorkedRecoveries.{usable_again, cleared_at_last, cancelled_inside, abort_submit, check_submit, usable_in, usable_out, clear_submit, check_clear_submit, halting_second, halted_inside, aborting_none, freeing, clearing_halted, checking_clear, freeing_out, freeing_in, cleared_log, cancelling_second, aborting_second, draining, checking_second}
use Rattle.host_joint.specs.WorkedTies.{queried}
use Rattle.host_joint.proofs.Coming.{all_below, below, comes}
use Rattle.host_joint.proofs.Serving.{second_read_came, second_sends, second_comes, begins_second}

-- ---- control submits

abbrev pub with_control : SubmitHead → State → State
with_control head s = record s { control = arrived head [] ∷ [] }

-- a class request, as the row of its table says it
pub class_answers : (s : State) (head : SubmitHead) (request : ClassRequest) (served : Served) → s.presence ≡ Plugged → s.control ≡ arrived head [] ∷ []
    → Asks (arrived head []) (row ends request) → TagFits request → Serves request (arrived head []) (record s { control = [] }) served
    → Steps s Answer (control_answer (arrived head []) (row ends request) served.layout ∷ served.behind) served.state
class_answers s head request served plugged first asks fits serves = record {
  plugged = plugged;
  leads = ByClass (arrived head []) [] (row ends request) request served first asks (record { fits = fits; is = refl }) serves refl refl;
}

-- a standard request
standard_answers : (s : State) (head : SubmitHead) (setup : Setup) (request : Standard) → s.presence ≡ Plugged → s.control ≡ arrived head [] ∷ []
    → Asks (arrived head []) setup → IsStandard request setup
    → Steps s Answer (control_answer (arrived head []) setup (standard_layout request s) ∷ []) (standard_effect request (record s { control = [] }))
standard_answers s head setup request plugged first asks is = record {
  plugged = plugged;
  leads = ByStandard (arrived head []) [] setup request first asks is refl refl;
}

pub abort_asks : (seqnum : ℕ) → Asks (arrived (abort_submit seqnum) []) (row ends (AbortIn 4))
abort_asks seqnum = record { fits = record { request_type = lit< tt; request = lit< tt; value = lit< tt; index = lit< tt; length = lit< tt }; layout = refl }

pub check_asks : (seqnum : ℕ) → Asks (arrived (check_submit seqnum) []) (row ends CheckIn)
check_asks seqnum = record { fits = record { request_type = lit< tt; request = lit< tt; value = lit< tt; index = lit< tt; length = lit< tt }; layout = refl }

pub clear_asks : (seqnum : ℕ) → Asks (arrived (clear_submit seqnum) []) (row ends Clear)
clear_asks seqnum = record { fits = record { request_type = lit< tt; request = lit< tt; value = lit< tt; index = lit< tt; length = lit< tt }; layout = refl }

pub check_clear_asks : (seqnum : ℕ) → Asks (arrived (check_clear_submit seqnum) []) (row ends CheckClear)
check_clear_asks seqnum = record { fits = record { request_type = lit< tt; request = lit< tt; value = lit< tt; index = lit< tt; length = lit< tt }; layout = refl }

-- CLEAR_FEATURE
abbrev pub in_setup : Setup
in_setup = record { request_type = 0x02; request = 1; value = 0; index = 0x82; length = 0 }

abbrev pub out_setup : Setup
out_setup = record { request_type = 0x02; request = 1; value = 0; index = 0x01; length = 0 }

pub in_asks : (seqnum : ℕ) → Asks (arrived (usable_in seqnum) []) in_setup
in_asks seqnum = record { fits = record { request_type = lit< tt; request = lit< tt; value = lit< tt; index = lit< tt; length = lit< tt }; layout = refl }

pub out_asks : (seqnum : ℕ) → Asks (arrived (usable_out seqnum) []) out_setup
out_asks seqnum = record { fits = record { request_type = lit< tt; request = lit< tt; value = lit< tt; index = lit< tt; length = lit< tt }; layout = refl }

-- ---- Bulk-IN halts

no_control : BulkIn ≢ Control
no_control e = cc

pub halts_second : Runs requested_second halting_second halted_inside
halts_second = (second_read_came, second_comes, (second_sends, begins_second, (halted_inside, record { plugged = refl; leads = DoesHalt no_control refl refl refl }, refl)))

pub aborts_none : Runs halted_inside aborting_none halted_inside
aborts_none = (
  with_control (abort_submit 7) halted_inside,
  comes halted_inside (abort_submit 7) [] Control (record { plugged = refl; wide = refl; eight = refl; setup = refl; carried = refl; bytes = refl; free = refl; few = refl }) (record { number = refl; way = refl; usable = refl }),
  (
    halted_inside,
    class_answers (with_control (abort_submit 7) halted_inside) (abort_submit 7) (AbortIn 4) (record { layout = 0x80 ∷ 0x00 ∷ []; behind = []; state = halted_inside }) refl refl (abort_asks 7) (lit< tt)
        (NotBegun (0x80 ∷ 0x00 ∷ []) (NoTransfer refl refl refl) refl),
    refl,
  ),
)

pub free_comes : Steps halted_inside (Comes (up.Submit (usable_in 8) [])) [] (with_control (usable_in 8) halted_inside)
free_comes =
    comes halted_inside (usable_in 8) [] Control (record { plugged = refl; wide = refl; eight = refl; setup = refl; carried = refl; bytes = refl; free = refl; few = refl }) (record { number = refl; way = refl; usable = refl })

pub free_answers : Steps (with_control (usable_in 8) halted_inside) Answer (answered (usable_in 8) success 0 [] ∷ []) usable_again
free_answers = standard_answers (with_control (usable_in 8) halted_inside) (usable_in 8) in_setup (ClearHalt BulkIn) refl refl (in_asks 8) (record { request_type = refl; request = refl; value = refl; index = refl })

pub frees : Runs halted_inside freeing usable_again
frees = (with_control (usable_in 8) halted_inside, free_comes, (usable_again, free_answers, refl))

-- or all is cleared

abbrev pub clears_second : State
clears_second = record start {
  halted = record { bulk_out = true; bulk_in = true; interrupt_in = false };
  running = Clears;
  log = cleared_log;
}

abbrev pub cleared_second : State
cleared_second = record clears_second { running = Nothing }

abbrev pub freed_out : State
freed_out = record start { halted = record { bulk_out = false; bulk_in = true; interrupt_in = false }; log = cleared_log }

pub clear_answers : Steps (with_control (clear_submit 7) halted_inside) Answer (answered (clear_submit 7) success 1 (0x01 ∷ []) ∷ []) clears_second
clear_answers =
    class_answers (with_control (clear_submit 7) halted_inside) (clear_submit 7) Clear (record { layout = 0x01 ∷ []; behind = []; state = clears_second }) refl refl (clear_asks 7) tt
    (DoesClear clears_second (record { standing = at_power_on; after = refl; is = refl }) refl)

pub clear_comes : Steps halted_inside (Comes (up.Submit (clear_submit 7) [])) [] (with_control (clear_submit 7) halted_inside)
clear_comes =
    comes halted_inside (clear_submit 7) [] Control (record { plugged = refl; wide = refl; eight = refl; setup = refl; carried = refl; bytes = refl; free = refl; few = refl }) (record { number = refl; way = refl; usable = refl })

pub clears_halted : Runs halted_inside clearing_halted clears_second
clears_halted = (with_control (clear_submit 7) halted_inside, clear_comes, (clears_second, clear_answers, refl))

pub checks_clear : Runs clears_second checking_clear cleared_second
checks_clear = (
  with_control (check_clear_submit 8) clears_second,
  comes clears_second (check_clear_submit 8) [] Control (record { plugged = refl; wide = refl; eight = refl; setup = refl; carried = refl; bytes = refl; free = refl; few = refl }) (record { number = refl; way = refl; usable = refl }),
  (cleared_second, class_answers (with_control (check_clear_submit 8) clears_second) (check_clear_submit 8) CheckClear (checked_clear clears_second) refl refl (check_clear_asks 8) tt refl, refl),
)

pub frees_out : Runs cleared_second freeing_out freed_out
frees_out = (
  with_control (usable_out 9) cleared_second,
  comes cleared_second (usable_out 9) [] Control (record { plugged = refl; wide = refl; eight = refl; setup = refl; carried = refl; bytes = refl; free = refl; few = refl }) (record { number = refl; way = refl; usable = refl }),
  (
    freed_out,
    standard_answers (with_control (usable_out 9) cleared_second) (usable_out 9) out_setup (ClearHalt BulkOut) refl refl (out_asks 9) (record { request_type = refl; request = refl; value = refl; index = refl }),
    refl,
  ),
)

pub frees_in : Runs freed_out freeing_in cleared_at_last
frees_in = (
  with_control (usable_in 10) freed_out,
  comes freed_out (usable_in 10) [] Control (record { plugged = refl; wide = refl; eight = refl; setup = refl; carried = refl; bytes = refl; free = refl; few = refl }) (record { number = refl; way = refl; usable = refl }),
  (
    cleared_at_last,
    standard_answers (with_control (usable_in 10) freed_out) (usable_in 10) in_setup (ClearHalt BulkIn) refl refl (in_asks 10) (record { request_type = refl; request = refl; value = refl; index = refl }),
    refl,
  ),
)

-- ---- the host cancels

abbrev pub wants_packet : State
wants_packet = record cancelled_inside { side = Sending (record { tag = 4; size = 9; left = [] }); running = AbortsIn true 0 }

abbrev pub gave_packet : State
gave_packet = record cancelled_inside { side = Idle; running = AbortsIn false 0 }

pub all_wide : (ns : List ℕ) → all_below (2 ^ 32) ns ≡ true → AreWide ns
all_wide ns e = below (2 ^ 32) ns (lit< tt) e

pub cancels_second : Runs requested_second cancelling_second cancelled_inside
cancels_second = (
  second_read_came,
  second_comes,
  (
    second_sends,
    begins_second,
    (
      cancelled_inside,
      record { plugged = refl; leads = (all_wide (7 ∷ 0x00010002 ∷ 6 ∷ []) refl, Hits BulkIn [] (arrived (in_submit 6 4096) []) [] refl refl refl refl refl) },
      refl,
    ),
  ),
)

pub abort_comes : Steps cancelled_inside (Comes (up.Submit (abort_submit 8) [])) [] (with_control (abort_submit 8) cancelled_inside)
abort_comes =
    comes cancelled_inside (abort_submit 8) [] Control (record { plugged = refl; wide = refl; eight = refl; setup = refl; carried = refl; bytes = refl; free = refl; few = refl }) (record { number = refl; way = refl; usable = refl })

pub abort_answers : Steps (with_control (abort_submit 8) cancelled_inside) Answer (answered (abort_submit 8) success 2 (0x01 ∷ 0x04 ∷ []) ∷ []) wants_packet
abort_answers =
    class_answers (with_control (abort_submit 8) cancelled_inside) (abort_submit 8) (AbortIn 4) (record { layout = 0x01 ∷ 0x04 ∷ []; behind = []; state = wants_packet }) refl refl (abort_asks 8) (lit< tt)
    (DoesAbort refl refl refl)

pub aborts_second : Runs cancelled_inside aborting_second wants_packet
aborts_second = (with_control (abort_submit 8) cancelled_inside, abort_comes, (wants_packet, abort_answers, refl))

abbrev pub drain_came : State
drain_came = record wants_packet { bulk_in = arrived (in_submit 9 4096) [] ∷ [] }

pub drain_comes : Steps wants_packet (Comes (up.Submit (in_submit 9 4096) [])) [] drain_came
drain_comes =
    comes wants_packet (in_submit 9 4096) [] BulkIn (record { plugged = refl; wide = refl; eight = refl; setup = refl; carried = refl; bytes = refl; free = refl; few = refl }) (record { number = refl; way = refl; usable = refl })

pub drain_fills : Steps drain_came (Fill 1) (answered (in_submit 9 4096) success 0 [] ∷ []) gave_packet
drain_fills = record { plugged = refl; leads = Ends (arrived (in_submit 9 4096) []) [] 0 refl refl refl refl refl }

pub drains : Runs wants_packet draining gave_packet
drains = (drain_came, drain_comes, (gave_packet, drain_fills, refl))

pub checks_second : Runs gave_packet checking_second usable_again
checks_second = (
  with_control (check_submit 10) gave_packet,
  comes gave_packet (check_submit 10) [] Control (record { plugged = refl; wide = refl; eight = refl; setup = refl; carried = refl; bytes = refl; free = refl; few = refl }) (record { number = refl; way = refl; usable = refl }),
  (usable_again, class_answers (with_control (check_submit 10) gave_packet) (check_submit 10) CheckIn (checked_in gave_packet) refl refl (check_asks 10) tt refl, refl),
)

-- an unlink that misses

abbrev pub missing : List Entry
missing = step (Comes (up.Unlink (unlink 4 3))) (Unlinked (unlink 4 3) (record { seqnum = 4; status = success }) ∷ []) ∷ []

pub misses : Runs queried missing queried
misses = (queried, record { plugged = refl; leads = (all_wide (4 ∷ 0x00010002 ∷ 3 ∷ []) refl, Misses tt refl refl) }, refl)
