-- a message in two submits, aborted between them, step by step
use Rattle.std.proofs.Common.{ℕ, true, false, [], ◌∷◌, Some, inr, refl, lit<, lit≤}
use Rattle.std.proofs.lemmas.Bool.{eqb-false}
use Rattle.usb_setup.specs.declared.setup.Setup.{Setup}
use Rattle.tmc_wire.specs.declared.header.OutHeader.TheVariants.{Message}
use Rattle.tmc_wire.specs.declared.class_request.ClassRequest.TheVariants.{AbortOut, CheckOut}
use Rattle.tmc_wire.specs.ControlTable.{row}
use Rattle.tmc_law.specs.Endpoint.{BulkOut, ends}
use Rattle.tmc_law.specs.State.{State, Pending, start, arrived, AbortsOut}
use Rattle.tmc_law.specs.Put.{success, stalled}
use Rattle.tmc_law.specs.BulkOut.{SubmitEnds, DoesMove}
use Rattle.tmc_law.specs.Control.{Asks}
use Rattle.tmc_law.specs.Standard.{ClearHalt}
use Rattle.tmc_law.specs.Aborts.{DoesAbort, checked_out}
use Rattle.tmc_law.specs.Class.{DoesPostpone}
use Rattle.tmc_law.specs.Step.{Steps, Take, Answer, Pend}
use Rattle.tmc_law.specs.Run.{Runs}
use Rattle.tmc_law.specs.WorkedSession.{out_submit, answered}
use Rattle.tmc_law.specs.WorkedAbortOut.{first_text, second_text, abort_submit, check_submit, usable_submit, aborting_out}
use Rattle.tmc_law.proofs.WorkedComing.{out_comes, asking_comes, telling_comes}
use Rattle.tmc_law.proofs.WorkedUnspoiled.{IsGood, begun, begins, unspoiled, fits_full}
use Rattle.tmc_law.proofs.WorkedAnswering.{answers_class, answers_standard}

abbrev first : Pending
first = arrived (out_submit 1 64) first_text

abbrev pub first_came : State
first_came = record start { bulk_out = first ∷ [] }

-- the transfer goes on
abbrev pub split : State
split = record start { transfer = Some (record { header = Message 1 100 true; taken = first_text }) }

abbrev second_came : State
second_came = record split { bulk_out = arrived (out_submit 2 48) second_text ∷ [] }

abbrev abort_came : State
abort_came = record second_came { control = arrived abort_submit [] ∷ [] }

-- Bulk-OUT is halted
abbrev aborted : State
aborted = record start { halted = record { bulk_out = true; bulk_in = false; interrupt_in = false }; running = AbortsOut }

abbrev check_came : ℕ → State
check_came seqnum = record aborted { control = arrived (check_submit seqnum) [] ∷ [] }

abbrev checked : State
checked = record start { halted = record { bulk_out = true; bulk_in = false; interrupt_in = false } }

abbrev usable_came : State
usable_came = record checked { control = arrived usable_submit [] ∷ [] }

first_good : IsGood first_came first_text (Message 1 100 true)
first_good = record {
  idle = refl;
  fine = record { long = lit≤ tt; known = refl; tagged = eqb-false _ _ refl; inverse = refl; counted = inr (eqb-false _ _ refl) };
  headed = record { reserved = 0; attributes = 1; ninth = 0; tenth = 0; eleventh = 0; tagged = (lit< tt, lit< tt); counted = (lit< tt, lit< tt); accepted = refl; layout = refl };
  suits = lit≤ tt;
}

pub takes_first : Steps first_came (Take 1) (answered (out_submit 1 64) success 64 [] ∷ []) split
takes_first = record {
  plugged = refl;
  leads = (
    refl,
    SubmitEnds first (record first { left = []; moved = first_text }) [] (begun (Message 1 100 true)) (record { header = Message 1 100 true; taken = first_text }) refl (eqb-false _ _ refl) refl
        (unspoiled first_came first (Message 1 100 true) refl first_good (fits_full first (begun (Message 1 100 true)) (lit≤ tt) refl))
        (begins first_came first (Message 1 100 true) refl first_good) (DoesMove refl refl) (eqb-false _ _ refl) refl refl,
  );
}

abort_asks : Asks (arrived abort_submit []) (row ends (AbortOut 1))
abort_asks = record { fits = record { request_type = lit< tt; request = lit< tt; value = lit< tt; index = lit< tt; length = lit< tt }; layout = refl }

check_asks : (seqnum : ℕ) → Asks (arrived (check_submit seqnum) []) (row ends CheckOut)
check_asks seqnum = record { fits = record { request_type = lit< tt; request = lit< tt; value = lit< tt; index = lit< tt; length = lit< tt }; layout = refl }

-- CLEAR_FEATURE
abbrev usable_setup : Setup
usable_setup = record { request_type = 0x02; request = 1; value = 0; index = 1; length = 0 }

usable_asks : Asks (arrived usable_submit []) usable_setup
usable_asks = record { fits = record { request_type = lit< tt; request = lit< tt; value = lit< tt; index = lit< tt; length = lit< tt }; layout = refl }

aborts : Steps abort_came Answer (answered abort_submit success 2 (0x01 ∷ 0x01 ∷ []) ∷ answered (out_submit 2 48) stalled 0 [] ∷ []) aborted
aborts = answers_class abort_came (arrived abort_submit []) [] (AbortOut 1)
    (record { layout = 0x01 ∷ 0x01 ∷ []; behind = answered (out_submit 2 48) stalled 0 [] ∷ []; state = aborted })
    refl refl abort_asks (lit< tt) (DoesAbort refl refl refl)

postpones : Steps (check_came 4) Pend (answered (check_submit 4) success 8 (0x02 ∷ 0x00 ∷ 0x00 ∷ 0x00 ∷ 0x00 ∷ 0x00 ∷ 0x00 ∷ 0x00 ∷ []) ∷ []) aborted
postpones = record {
  plugged = refl;
  leads = DoesPostpone (arrived (check_submit 4) []) [] (row ends CheckOut) CheckOut (0x02 ∷ 0x00 ∷ 0x00 ∷ 0x00 ∷ 0x00 ∷ 0x00 ∷ 0x00 ∷ 0x00 ∷ [])
      refl (check_asks 4) (record { fits = tt; is = refl }) refl refl refl;
}

checks : Steps (check_came 5) Answer (answered (check_submit 5) success 8 (0x01 ∷ 0x00 ∷ 0x00 ∷ 0x00 ∷ 0x00 ∷ 0x00 ∷ 0x00 ∷ 0x00 ∷ []) ∷ []) checked
checks = answers_class (check_came 5) (arrived (check_submit 5) []) [] CheckOut (checked_out aborted) refl refl (check_asks 5) tt refl

becomes_usable : Steps usable_came Answer (answered usable_submit success 0 [] ∷ []) start
becomes_usable = answers_standard usable_came (arrived usable_submit []) [] usable_setup (ClearHalt BulkOut) refl refl usable_asks (record { request_type = refl; request = refl; value = refl; index = refl })

pub aborts_out : Runs start aborting_out start
aborts_out = (
  first_came,
  out_comes start 1 64 first_text (record { plugged = refl; free = refl; few = refl }) refl refl,
  (
    split,
    takes_first,
    (
      second_came,
      out_comes split 2 48 second_text (record { plugged = refl; free = refl; few = refl }) refl refl,
      (
        abort_came,
        asking_comes second_came 3 2 0xA2 _ (record { plugged = refl; free = refl; few = refl }) refl refl,
        (
          aborted,
          aborts,
          (
            check_came 4,
            asking_comes aborted 4 8 0xA2 _ (record { plugged = refl; free = refl; few = refl }) refl refl,
            (
              aborted,
              postpones,
              (
                check_came 5,
                asking_comes aborted 5 8 0xA2 _ (record { plugged = refl; free = refl; few = refl }) refl refl,
                (
                  checked,
                  checks,
                  (
                    usable_came,
                    telling_comes checked 6 0x02 _ (record { plugged = refl; free = refl; few = refl }) refl refl,
                    (start, becomes_usable, refl),
                  ),
                ),
              ),
            ),
          ),
        ),
      ),
    ),
  ),
)
