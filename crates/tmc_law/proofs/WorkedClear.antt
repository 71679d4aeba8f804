-- behind the first packet of a response, all is cleared, step by step
use Rattle.std.proofs.Common.{true, false, [], ◌∷◌, refl, lit<, arith}
use Rattle.usb_setup.specs.declared.setup.Setup.{Setup}
use Rattle.usbip_wire.specs.Up as up
use Rattle.tmc_wire.specs.declared.class_request.ClassRequest.TheVariants.{Clear, CheckClear}
use Rattle.tmc_wire.specs.ControlTable.{row}
use Rattle.instr_plain.specs.Standing.{at_power_on}
use Rattle.tmc_law.specs.Endpoint.{Endpoint, Control, BulkOut, BulkIn, InterruptIn, ends}
use Rattle.tmc_law.specs.State.{State, start, arrived, Clears}
use Rattle.tmc_law.specs.Put.{success, stalled}
use Rattle.tmc_law.specs.Queues.{IsTaken, TurnedAway}
use Rattle.tmc_law.specs.Control.{Asks}
use Rattle.tmc_law.specs.Standard.{ClearHalt}
use Rattle.tmc_law.specs.Aborts.{DoesClear, checked_clear}
use Rattle.tmc_law.specs.Step.{Steps, Comes, Answer}
use Rattle.tmc_law.specs.Run.{Runs}
use Rattle.tmc_law.specs.WorkedSession.{out_submit, answered}
use Rattle.tmc_law.specs.WorkedQuery.{request_text, response_submit}
use Rattle.tmc_law.specs.WorkedRead.{first_packet}
use Rattle.tmc_law.specs.WorkedClear.{clear_submit, check_submit, usable_submit, clearing, clear_log}
use Rattle.tmc_law.proofs.WorkedComing.{asking_comes, telling_comes, turned_away}
use Rattle.tmc_law.proofs.WorkedAnswering.{answers_class, answers_standard}
use Rattle.tmc_law.proofs.WorkedRead.{half}

abbrev clear_came : State
clear_came = record half { control = arrived clear_submit [] ∷ [] }

-- Bulk-OUT is halted
abbrev cleared : State
cleared = record start { halted = record { bulk_out = true; bulk_in = false; interrupt_in = false }; running = Clears; log = clear_log }

abbrev check_came : State
check_came = record cleared { control = arrived check_submit [] ∷ [] }

abbrev checked : State
checked = record start { halted = record { bulk_out = true; bulk_in = false; interrupt_in = false }; log = clear_log }

abbrev usable_came : State
usable_came = record checked { control = arrived usable_submit [] ∷ [] }

abbrev pub done : State
done = record start { log = clear_log }

clear_asks : Asks (arrived clear_submit []) (row ends Clear)
clear_asks = record { fits = record { request_type = lit< tt; request = lit< tt; value = lit< tt; index = lit< tt; length = lit< tt }; layout = refl }

check_asks : Asks (arrived check_submit []) (row ends CheckClear)
check_asks = record { fits = record { request_type = lit< tt; request = lit< tt; value = lit< tt; index = lit< tt; length = lit< tt }; layout = refl }

-- CLEAR_FEATURE
abbrev usable_setup : Setup
usable_setup = record { request_type = 0x02; request = 1; value = 0; index = 1; length = 0 }

usable_asks : Asks (arrived usable_submit []) usable_setup
usable_asks = record { fits = record { request_type = lit< tt; request = lit< tt; value = lit< tt; index = lit< tt; length = lit< tt }; layout = refl }

clears : Steps clear_came Answer (answered clear_submit success 1 (0x01 ∷ []) ∷ answered response_submit success 64 first_packet ∷ []) cleared
clears = answers_class clear_came (arrived clear_submit []) [] Clear
    (record { layout = 0x01 ∷ []; behind = answered response_submit success 64 first_packet ∷ []; state = cleared })
    refl refl clear_asks tt (DoesClear cleared (record { standing = at_power_on; after = refl; is = refl }) refl)

-- no endpoint takes a submit on Bulk-OUT
none_takes : (endpoint : Endpoint) → IsTaken cleared (out_submit 5 12) endpoint → ⊥
none_takes Control taken = omega (arith, taken.number)
none_takes BulkOut taken = let e = taken.usable in cc
none_takes BulkIn taken = omega (arith, taken.number)
none_takes InterruptIn taken = omega (arith, taken.number)

turns_away : Steps cleared (Comes (up.Submit (out_submit 5 12) request_text)) (answered (out_submit 5 12) stalled 0 [] ∷ []) cleared
turns_away = turned_away cleared (out_submit 5 12) request_text _ (record { plugged = refl; free = refl; few = refl }) refl
    (TurnedAway none_takes refl refl)

checks : Steps check_came Answer (answered check_submit success 2 (0x01 ∷ 0x00 ∷ []) ∷ []) checked
checks = answers_class check_came (arrived check_submit []) [] CheckClear (checked_clear cleared) refl refl check_asks tt refl

becomes_usable : Steps usable_came Answer (answered usable_submit success 0 [] ∷ []) done
becomes_usable = answers_standard usable_came (arrived usable_submit []) [] usable_setup (ClearHalt BulkOut) refl refl usable_asks (record { request_type = refl; request = refl; value = refl; index = refl })

pub clears_all : Runs half clearing done
clears_all = (
  clear_came,
  asking_comes half 4 1 0xA1 _ (record { plugged = refl; free = refl; few = refl }) refl refl,
  (
    cleared,
    clears,
    (
      cleared,
      turns_away,
      (
        check_came,
        asking_comes cleared 6 2 0xA1 _ (record { plugged = refl; free = refl; few = refl }) refl refl,
        (
          checked,
          checks,
          (
            usable_came,
            telling_comes checked 7 0x02 _ (record { plugged = refl; free = refl; few = refl }) refl refl,
            (done, becomes_usable, refl),
          ),
        ),
      ),
    ),
  ),
)
