-- aborts that do not begin, step by step
use Rattle.std.proofs.Common.{◌≢◌, ℕ, true, false, [], ◌∷◌, Some, inr, refl, lit<, lit≤}
use Rattle.std.proofs.lemmas.Bool.{eqb-false}
use Rattle.tmc_wire.specs.declared.header.OutHeader.TheVariants.{Message}
use Rattle.tmc_wire.specs.declared.class_request.ClassRequest.TheVariants.{AbortOut}
use Rattle.tmc_wire.specs.ControlTable.{row}
use Rattle.tmc_law.specs.Endpoint.{ends}
use Rattle.tmc_law.specs.State.{State, Pending, start, arrived, Nothing, AbortsOut}
use Rattle.tmc_law.specs.Put.{success}
use Rattle.tmc_law.specs.BulkOut.{SubmitEnds, DoesMove}
use Rattle.tmc_law.specs.Control.{Asks}
use Rattle.tmc_law.specs.Aborts.{NotBegun, DoesAbort, Busy, NoTransfer, Another}
use Rattle.tmc_law.specs.Step.{Steps, Take, Answer}
use Rattle.tmc_law.specs.Run.{Runs}
use Rattle.tmc_law.specs.WorkedSession.{out_submit, answered}
use Rattle.tmc_law.specs.WorkedAbortOut.{first_text}
use Rattle.tmc_law.specs.WorkedDeclined.{abort_submit, declining}
use Rattle.tmc_law.proofs.WorkedComing.{out_comes, asking_comes}
use Rattle.tmc_law.proofs.WorkedUnspoiled.{IsGood, begun, begins, unspoiled, fits_full}
use Rattle.tmc_law.proofs.WorkedAnswering.{answers_class}

abbrev first : Pending
first = arrived (out_submit 2 64) first_text

abbrev first_came : State
first_came = record start { bulk_out = first ∷ [] }

abbrev split : State
split = record start { transfer = Some (record { header = Message 1 100 true; taken = first_text }) }

abbrev pub aborted : State
aborted = record start { halted = record { bulk_out = true; bulk_in = false; interrupt_in = false }; running = AbortsOut }

abbrev abort_came : ℕ → ℕ → State → State
abort_came seqnum tag s = record s { control = arrived (abort_submit seqnum tag) [] ∷ [] }

abort_asks : (seqnum : ℕ) → Asks (arrived (abort_submit seqnum 1) []) (row ends (AbortOut 1))
abort_asks seqnum = record { fits = record { request_type = lit< tt; request = lit< tt; value = lit< tt; index = lit< tt; length = lit< tt }; layout = refl }

other_asks : Asks (arrived (abort_submit 3 7) []) (row ends (AbortOut 7))
other_asks = record { fits = record { request_type = lit< tt; request = lit< tt; value = lit< tt; index = lit< tt; length = lit< tt }; layout = refl }

fails : Steps (abort_came 1 1 start) Answer (answered (abort_submit 1 1) success 2 (0x80 ∷ 0x00 ∷ []) ∷ []) start
fails = answers_class (abort_came 1 1 start) (arrived (abort_submit 1 1) []) [] (AbortOut 1) (record { layout = 0x80 ∷ 0x00 ∷ []; behind = []; state = start })
    refl refl (abort_asks 1) (lit< tt) (NotBegun _ (NoTransfer refl refl refl) refl)

first_good : IsGood first_came first_text (Message 1 100 true)
first_good = record {
  idle = refl;
  fine = record { long = lit≤ tt; known = refl; tagged = eqb-false _ _ refl; inverse = refl; counted = inr (eqb-false _ _ refl) };
  headed = record { reserved = 0; attributes = 1; ninth = 0; tenth = 0; eleventh = 0; tagged = (lit< tt, lit< tt); counted = (lit< tt, lit< tt); accepted = refl; layout = refl };
  suits = lit≤ tt;
}

takes_first : Steps first_came (Take 1) (answered (out_submit 2 64) success 64 [] ∷ []) split
takes_first = record {
  plugged = refl;
  leads = (
    refl,
    SubmitEnds first (record first { left = []; moved = first_text }) [] (begun (Message 1 100 true)) (record { header = Message 1 100 true; taken = first_text }) refl (eqb-false _ _ refl) refl
        (unspoiled first_came first (Message 1 100 true) refl first_good (fits_full first (begun (Message 1 100 true)) (lit≤ tt) refl))
        (begins first_came first (Message 1 100 true) refl first_good) (DoesMove refl refl) (eqb-false _ _ refl) refl refl,
  );
}

is_another : Steps (abort_came 3 7 split) Answer (answered (abort_submit 3 7) success 2 (0x81 ∷ 0x01 ∷ []) ∷ []) split
is_another = answers_class (abort_came 3 7 split) (arrived (abort_submit 3 7) []) [] (AbortOut 7) (record { layout = 0x81 ∷ 0x01 ∷ []; behind = []; state = split })
    refl refl other_asks (lit< tt) (NotBegun _ (Another 1 refl refl (eqb-false _ _ refl) refl) refl)

aborts : Steps (abort_came 4 1 split) Answer (answered (abort_submit 4 1) success 2 (0x01 ∷ 0x01 ∷ []) ∷ []) aborted
aborts = answers_class (abort_came 4 1 split) (arrived (abort_submit 4 1) []) [] (AbortOut 1) (record { layout = 0x01 ∷ 0x01 ∷ []; behind = []; state = aborted })
    refl refl (abort_asks 4) (lit< tt) (DoesAbort refl refl refl)

something : AbortsOut ≢ Nothing
something e = cc

is_busy : Steps (abort_came 5 1 aborted) Answer (answered (abort_submit 5 1) success 2 (0x83 ∷ 0x00 ∷ []) ∷ []) aborted
is_busy = answers_class (abort_came 5 1 aborted) (arrived (abort_submit 5 1) []) [] (AbortOut 1) (record { layout = 0x83 ∷ 0x00 ∷ []; behind = []; state = aborted })
    refl refl (abort_asks 5) (lit< tt) (NotBegun _ (Busy something refl) refl)

pub declines : Runs start declining aborted
declines = (
  abort_came 1 1 start,
  asking_comes start 1 2 0xA2 _ (record { plugged = refl; free = refl; few = refl }) refl refl,
  (
    start,
    fails,
    (
      first_came,
      out_comes start 2 64 first_text (record { plugged = refl; free = refl; few = refl }) refl refl,
      (
        split,
        takes_first,
        (
          abort_came 3 7 split,
          asking_comes split 3 2 0xA2 _ (record { plugged = refl; free = refl; few = refl }) refl refl,
          (
            split,
            is_another,
            (
              abort_came 4 1 split,
              asking_comes split 4 2 0xA2 _ (record { plugged = refl; free = refl; few = refl }) refl refl,
              (
                aborted,
                aborts,
                (
                  abort_came 5 1 aborted,
                  asking_comes aborted 5 2 0xA2 _ (record { plugged = refl; free = refl; few = refl }) refl refl,
                  (aborted, is_busy, refl),
                ),
              ),
            ),
          ),
        ),
      ),
    ),
  ),
)
