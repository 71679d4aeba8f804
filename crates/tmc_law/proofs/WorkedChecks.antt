-- checks of a clear, step by step
use Rattle.std.proofs.Common.{ℕ, true, false, [], ◌∷◌, refl, lit<}
use Rattle.tmc_wire.specs.declared.class_request.ClassRequest.TheVariants.{Clear, CheckClear}
use Rattle.tmc_wire.specs.ControlTable.{row}
use Rattle.instr_plain.specs.Standing.{at_power_on}
use Rattle.tmc_law.specs.Endpoint.{ends}
use Rattle.tmc_law.specs.State.{State, start, arrived, Clears}
use Rattle.tmc_law.specs.Control.{Asks}
use Rattle.tmc_law.specs.Aborts.{DoesClear, checked_clear}
use Rattle.tmc_law.specs.Class.{DoesPostpone}
use Rattle.tmc_law.specs.Run.{Runs}
use Rattle.tmc_law.specs.WorkedChecks.{clear_submit, check_submit, checking, check_log}
use Rattle.tmc_law.proofs.WorkedComing.{asking_comes}
use Rattle.tmc_law.proofs.WorkedAnswering.{answers_class}

abbrev check_came : ℕ → State → State
check_came seqnum s = record s { control = arrived (check_submit seqnum) [] ∷ [] }

abbrev clear_came : State
clear_came = record start { control = arrived clear_submit [] ∷ [] }

abbrev done : State
done = record start { halted = record { bulk_out = true; bulk_in = false; interrupt_in = false }; log = check_log }

abbrev cleared : State
cleared = record done { running = Clears }

check_asks : (seqnum : ℕ) → Asks (arrived (check_submit seqnum) []) (row ends CheckClear)
check_asks seqnum = record { fits = record { request_type = lit< tt; request = lit< tt; value = lit< tt; index = lit< tt; length = lit< tt }; layout = refl }

clear_asks : Asks (arrived clear_submit []) (row ends Clear)
clear_asks = record { fits = record { request_type = lit< tt; request = lit< tt; value = lit< tt; index = lit< tt; length = lit< tt }; layout = refl }

pub checks : Runs start checking done
checks = (
  check_came 1 start,
  asking_comes start 1 2 0xA1 _ (record { plugged = refl; free = refl; few = refl }) refl refl,
  (
    start,
    answers_class (check_came 1 start) (arrived (check_submit 1) []) [] CheckClear (checked_clear start) refl refl (check_asks 1) tt refl,
    (
      clear_came,
      asking_comes start 2 1 0xA1 _ (record { plugged = refl; free = refl; few = refl }) refl refl,
      (
        cleared,
        answers_class clear_came (arrived clear_submit []) [] Clear (record { layout = 0x01 ∷ []; behind = []; state = cleared })
            refl refl clear_asks tt (DoesClear cleared (record { standing = at_power_on; after = refl; is = refl }) refl),
        (
          check_came 3 cleared,
          asking_comes cleared 3 2 0xA1 _ (record { plugged = refl; free = refl; few = refl }) refl refl,
          (
            cleared,
            record {
              plugged = refl;
              leads = DoesPostpone (arrived (check_submit 3) []) [] (row ends CheckClear) CheckClear (0x02 ∷ 0x00 ∷ [])
                  refl (check_asks 3) (record { fits = tt; is = refl }) refl refl refl;
            },
            (
              check_came 4 cleared,
              asking_comes cleared 4 2 0xA1 _ (record { plugged = refl; free = refl; few = refl }) refl refl,
              (done, answers_class (check_came 4 cleared) (arrived (check_submit 4) []) [] CheckClear (checked_clear cleared) refl refl (check_asks 4) tt refl, refl),
            ),
          ),
        ),
      ),
    ),
  ),
)
