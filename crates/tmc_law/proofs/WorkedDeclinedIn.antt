-- aborts of Bulk-IN that do not begin, step by step
use Rattle.std.proofs.Common.{◌≢◌, ℕ, Bool, true, false, [], ◌∷◌, refl, lit<}
use Rattle.std.proofs.lemmas.Bool.{eqb-false}
use Rattle.tmc_wire.specs.declared.class_request.ClassRequest.TheVariants.{AbortIn, CheckIn}
use Rattle.tmc_wire.specs.ControlTable.{row}
use Rattle.tmc_law.specs.Endpoint.{ends}
use Rattle.tmc_law.specs.State.{State, arrived, Nothing, AbortsIn}
use Rattle.tmc_law.specs.Put.{success}
use Rattle.tmc_law.specs.Control.{Asks}
use Rattle.tmc_law.specs.Aborts.{NotBegun, DoesAbort, Busy, NoTransfer, Another, checked_in}
use Rattle.tmc_law.specs.Step.{Steps, Answer}
use Rattle.tmc_law.specs.Run.{Runs}
use Rattle.tmc_law.specs.WorkedSession.{answered}
use Rattle.tmc_law.specs.WorkedAbortIn.{check_submit}
use Rattle.tmc_law.specs.WorkedDeclinedIn.{abort_submit, declining_in}
use Rattle.tmc_law.proofs.WorkedComing.{asking_comes}
use Rattle.tmc_law.proofs.WorkedAnswering.{answers_class}
use Rattle.tmc_law.proofs.WorkedRead.{half}
use Rattle.tmc_law.proofs.WorkedAbortIn.{aborted, ended, done, check_asks, ends_transfer}

abbrev abort_came : ℕ → ℕ → State → State
abort_came seqnum tag s = record s { control = arrived (abort_submit seqnum tag) [] ∷ [] }

abbrev late_came : State
late_came = record ended { control = arrived (check_submit 8) [] ∷ [] }

abort_asks : (seqnum : ℕ) → Asks (arrived (abort_submit seqnum 2) []) (row ends (AbortIn 2))
abort_asks seqnum = record { fits = record { request_type = lit< tt; request = lit< tt; value = lit< tt; index = lit< tt; length = lit< tt }; layout = refl }

other_asks : Asks (arrived (abort_submit 4 7) []) (row ends (AbortIn 7))
other_asks = record { fits = record { request_type = lit< tt; request = lit< tt; value = lit< tt; index = lit< tt; length = lit< tt }; layout = refl }

something : (wanting : Bool) (given : ℕ) → AbortsIn wanting given ≢ Nothing
something wanting given e = cc

is_another : Steps (abort_came 4 7 half) Answer (answered (abort_submit 4 7) success 2 (0x81 ∷ 0x02 ∷ []) ∷ []) half
is_another = answers_class (abort_came 4 7 half) (arrived (abort_submit 4 7) []) [] (AbortIn 7) (record { layout = 0x81 ∷ 0x02 ∷ []; behind = []; state = half })
    refl refl other_asks (lit< tt) (NotBegun _ (Another 2 refl refl (eqb-false _ _ refl) refl) refl)

aborts : Steps (abort_came 5 2 half) Answer (answered (abort_submit 5 2) success 2 (0x01 ∷ 0x02 ∷ []) ∷ []) aborted
aborts = answers_class (abort_came 5 2 half) (arrived (abort_submit 5 2) []) [] (AbortIn 2) (record { layout = 0x01 ∷ 0x02 ∷ []; behind = []; state = aborted })
    refl refl (abort_asks 5) (lit< tt) (DoesAbort refl refl refl)

is_busy : Steps (abort_came 6 2 aborted) Answer (answered (abort_submit 6 2) success 2 (0x83 ∷ 0x02 ∷ []) ∷ []) aborted
is_busy = answers_class (abort_came 6 2 aborted) (arrived (abort_submit 6 2) []) [] (AbortIn 2) (record { layout = 0x83 ∷ 0x02 ∷ []; behind = []; state = aborted })
    refl refl (abort_asks 6) (lit< tt) (NotBegun _ (Busy (something true 52) refl) refl)

stays_busy : Steps (abort_came 7 2 ended) Answer (answered (abort_submit 7 2) success 2 (0x83 ∷ 0x00 ∷ []) ∷ []) ended
stays_busy = answers_class (abort_came 7 2 ended) (arrived (abort_submit 7 2) []) [] (AbortIn 2) (record { layout = 0x83 ∷ 0x00 ∷ []; behind = []; state = ended })
    refl refl (abort_asks 7) (lit< tt) (NotBegun _ (Busy (something false 52) refl) refl)

checks : Steps late_came Answer (answered (check_submit 8) success 8 (0x01 ∷ 0x00 ∷ 0x00 ∷ 0x00 ∷ 0x34 ∷ 0x00 ∷ 0x00 ∷ 0x00 ∷ []) ∷ []) done
checks = answers_class late_came (arrived (check_submit 8) []) [] CheckIn (checked_in ended) refl refl (check_asks 8) tt refl

fails : Steps (abort_came 9 2 done) Answer (answered (abort_submit 9 2) success 2 (0x80 ∷ 0x00 ∷ []) ∷ []) done
fails = answers_class (abort_came 9 2 done) (arrived (abort_submit 9 2) []) [] (AbortIn 2) (record { layout = 0x80 ∷ 0x00 ∷ []; behind = []; state = done })
    refl refl (abort_asks 9) (lit< tt) (NotBegun _ (NoTransfer refl refl refl) refl)

pub declines_in : Runs half declining_in done
declines_in = (
  abort_came 4 7 half,
  asking_comes half 4 2 0xA2 _ (record { plugged = refl; free = refl; few = refl }) refl refl,
  (
    half,
    is_another,
    (
      abort_came 5 2 half,
      asking_comes half 5 2 0xA2 _ (record { plugged = refl; free = refl; few = refl }) refl refl,
      (
        aborted,
        aborts,
        (
          abort_came 6 2 aborted,
          asking_comes aborted 6 2 0xA2 _ (record { plugged = refl; free = refl; few = refl }) refl refl,
          (
            aborted,
            is_busy,
            (
              ended,
              ends_transfer,
              (
                abort_came 7 2 ended,
                asking_comes ended 7 2 0xA2 _ (record { plugged = refl; free = refl; few = refl }) refl refl,
                (
                  ended,
                  stays_busy,
                  (
                    late_came,
                    asking_comes ended 8 8 0xA2 _ (record { plugged = refl; free = refl; few = refl }) refl refl,
                    (
                      done,
                      checks,
                      (
                        abort_came 9 2 done,
                        asking_comes done 9 2 0xA2 _ (record { plugged = refl; free = refl; few = refl }) refl refl,
                        (done, fails, refl),
                      ),
                    ),
                  ),
                ),
              ),
            ),
          ),
        ),
      ),
    ),
  ),
)
