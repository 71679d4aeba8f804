-- behind the first packet of a response, Bulk-IN halts, step by step
use Rattle.std.proofs.Common.{◌≢◌, true, false, [], ◌∷◌, refl, lit<, arith}
use Rattle.usb_setup.specs.declared.setup.Setup.{Setup}
use Rattle.usbip_wire.specs.Up as up
use Rattle.tmc_law.specs.Endpoint.{Endpoint, Control, BulkOut, BulkIn, InterruptIn}
use Rattle.tmc_law.specs.State.{State, start, arrived}
use Rattle.tmc_law.specs.Put.{success, stalled}
use Rattle.tmc_law.specs.Halts.{DoesHalt}
use Rattle.tmc_law.specs.Queues.{IsTaken, TurnedAway}
use Rattle.tmc_law.specs.Control.{Asks}
use Rattle.tmc_law.specs.Standard.{GetEndpointStatus, ClearHalt}
use Rattle.tmc_law.specs.Step.{Steps, Comes, Answer, Halt}
use Rattle.tmc_law.specs.Run.{Runs}
use Rattle.tmc_law.specs.WorkedSession.{in_submit, answered}
use Rattle.tmc_law.specs.WorkedQuery.{response_submit}
use Rattle.tmc_law.specs.WorkedRead.{first_packet, read_log}
use Rattle.tmc_law.specs.WorkedHalt.{status_submit, usable_submit, halting}
use Rattle.tmc_law.proofs.WorkedComing.{asking_comes, telling_comes, turned_away}
use Rattle.tmc_law.proofs.WorkedAnswering.{answers_standard}
use Rattle.tmc_law.proofs.WorkedRead.{half}

abbrev halted : State
halted = record start { halted = record { bulk_out = false; bulk_in = true; interrupt_in = false }; log = read_log }

abbrev status_came : State
status_came = record halted { control = arrived status_submit [] ∷ [] }

abbrev usable_came : State
usable_came = record halted { control = arrived usable_submit [] ∷ [] }

abbrev pub done : State
done = record start { log = read_log }

no_control : BulkIn ≢ Control
no_control e = cc

halts : Steps half (Halt BulkIn) (answered response_submit stalled 64 first_packet ∷ []) halted
halts = record { plugged = refl; leads = DoesHalt no_control refl refl refl }

-- no endpoint takes a submit on Bulk-IN
none_takes : (endpoint : Endpoint) → IsTaken halted (in_submit 4 4096) endpoint → ⊥
none_takes Control taken = omega (arith, taken.number)
none_takes BulkOut taken = omega (arith, taken.number)
none_takes BulkIn taken = let e = taken.usable in cc
none_takes InterruptIn taken = omega (arith, taken.number)

turns_away : Steps halted (Comes (up.Submit (in_submit 4 4096) [])) (answered (in_submit 4 4096) stalled 0 [] ∷ []) halted
turns_away = turned_away halted (in_submit 4 4096) [] _ (record { plugged = refl; free = refl; few = refl }) refl
    (TurnedAway none_takes refl refl)

-- GET_STATUS, and CLEAR_FEATURE
abbrev status_setup : Setup
status_setup = record { request_type = 0x82; request = 0; value = 0; index = 0x82; length = 2 }

abbrev usable_setup : Setup
usable_setup = record { request_type = 0x02; request = 1; value = 0; index = 0x82; length = 0 }

status_asks : Asks (arrived status_submit []) status_setup
status_asks = record { fits = record { request_type = lit< tt; request = lit< tt; value = lit< tt; index = lit< tt; length = lit< tt }; layout = refl }

usable_asks : Asks (arrived usable_submit []) usable_setup
usable_asks = record { fits = record { request_type = lit< tt; request = lit< tt; value = lit< tt; index = lit< tt; length = lit< tt }; layout = refl }

tells_status : Steps status_came Answer (answered status_submit success 2 (0x01 ∷ 0x00 ∷ []) ∷ []) halted
tells_status = answers_standard status_came (arrived status_submit []) [] status_setup (GetEndpointStatus BulkIn) refl refl status_asks (record { request_type = refl; request = refl; value = refl; index = refl })

becomes_usable : Steps usable_came Answer (answered usable_submit success 0 [] ∷ []) done
becomes_usable = answers_standard usable_came (arrived usable_submit []) [] usable_setup (ClearHalt BulkIn) refl refl usable_asks (record { request_type = refl; request = refl; value = refl; index = refl })

pub halts_in : Runs half halting done
halts_in = (
  halted,
  halts,
  (
    halted,
    turns_away,
    (
      status_came,
      asking_comes halted 5 2 0x82 _ (record { plugged = refl; free = refl; few = refl }) refl refl,
      (
        halted,
        tells_status,
        (
          usable_came,
          telling_comes halted 6 0x02 _ (record { plugged = refl; free = refl; few = refl }) refl refl,
          (done, becomes_usable, refl),
        ),
      ),
    ),
  ),
)
