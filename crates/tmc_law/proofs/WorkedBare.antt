-- a request where there is no response, and its abort, step by step
use Rattle.std.proofs.Common.{true, false, [], ◌∷◌, refl, lit<}
use Rattle.std.proofs.lemmas.Bool.{eqb-false}
use Rattle.tmc_wire.specs.declared.header.OutHeader.TheVariants.{Request}
use Rattle.tmc_wire.specs.declared.class_request.ClassRequest.TheVariants.{AbortIn, CheckIn}
use Rattle.tmc_wire.specs.ControlTable.{row}
use Rattle.instr_plain.specs.Standing.{power_on, at_power_on}
use Rattle.tmc_law.specs.Endpoint.{ends}
use Rattle.tmc_law.specs.State.{State, start, arrived, Owed, AbortsIn}
use Rattle.tmc_law.specs.Put.{success}
use Rattle.tmc_law.specs.BulkOut.{DoesMove, RequestsNothing}
use Rattle.tmc_law.specs.BulkIn.{Ends}
use Rattle.tmc_law.specs.Control.{Asks}
use Rattle.tmc_law.specs.Aborts.{DoesAbort, checked_in}
use Rattle.tmc_law.specs.Step.{Steps, Take, Answer, Fill}
use Rattle.tmc_law.specs.Run.{Runs}
use Rattle.tmc_law.specs.WorkedSession.{out_submit, in_submit, answered}
use Rattle.tmc_law.specs.WorkedQuery.{request_text}
use Rattle.tmc_law.specs.WorkedBare.{abort_submit, check_submit, requesting_nothing, bare_log}
use Rattle.tmc_law.proofs.WorkedComing.{out_comes, in_comes, asking_comes}
use Rattle.tmc_law.proofs.WorkedTaking.{takes_whole}
use Rattle.tmc_law.proofs.WorkedAnswering.{answers_class}
use Rattle.tmc_law.proofs.WorkedQuery.{request_good}

abbrev pub came : State
came = record start { bulk_out = arrived (out_submit 1 12) request_text ∷ [] }

-- QYE is set
abbrev done : State
done = record start { log = bare_log; standing = record at_power_on { state = record power_on { esr = 132 } } }

abbrev pub owed : State
owed = record done { side = Owed 2 4000 }

abbrev in_came : State
in_came = record owed { bulk_in = arrived (in_submit 2 4096) [] ∷ [] }

abbrev abort_came : State
abort_came = record in_came { control = arrived abort_submit [] ∷ [] }

abbrev aborted : State
aborted = record in_came { running = AbortsIn true 0 }

abbrev ended : State
ended = record done { running = AbortsIn false 0 }

abbrev check_came : State
check_came = record ended { control = arrived check_submit [] ∷ [] }

pub takes_request : Steps came (Take 1) (answered (out_submit 1 12) success 12 [] ∷ []) owed
takes_request =
    takes_whole came owed (arrived (out_submit 1 12) request_text) [] (Request 2 4000)
    (record { plugged = refl; none_waits = refl; none_runs = refl; first = refl; good = request_good came refl refl; some = eqb-false _ _ refl; one = refl; moves = DoesMove refl refl; fits = refl; full = refl })
    (RequestsNothing 2 4000 refl refl (record { standing = done.standing; after = refl; is = refl }))

abort_asks : Asks (arrived abort_submit []) (row ends (AbortIn 2))
abort_asks = record { fits = record { request_type = lit< tt; request = lit< tt; value = lit< tt; index = lit< tt; length = lit< tt }; layout = refl }

check_asks : Asks (arrived check_submit []) (row ends CheckIn)
check_asks = record { fits = record { request_type = lit< tt; request = lit< tt; value = lit< tt; index = lit< tt; length = lit< tt }; layout = refl }

aborts : Steps abort_came Answer (answered abort_submit success 2 (0x01 ∷ 0x02 ∷ []) ∷ []) aborted
aborts = answers_class abort_came (arrived abort_submit []) [] (AbortIn 2) (record { layout = 0x01 ∷ 0x02 ∷ []; behind = []; state = aborted })
    refl refl abort_asks (lit< tt) (DoesAbort refl refl refl)

ends_transfer : Steps aborted (Fill 1) (answered (in_submit 2 4096) success 0 [] ∷ []) ended
ends_transfer = record { plugged = refl; leads = Ends (arrived (in_submit 2 4096) []) [] 0 refl refl refl refl refl }

checks : Steps check_came Answer (answered check_submit success 8 (0x01 ∷ 0x00 ∷ 0x00 ∷ 0x00 ∷ 0x00 ∷ 0x00 ∷ 0x00 ∷ 0x00 ∷ []) ∷ []) done
checks = answers_class check_came (arrived check_submit []) [] CheckIn (checked_in ended) refl refl check_asks tt refl

pub requests_nothing : Runs start requesting_nothing done
requests_nothing = (
  came,
  out_comes start 1 12 request_text (record { plugged = refl; free = refl; few = refl }) refl refl,
  (
    owed,
    takes_request,
    (
      in_came,
      in_comes owed 2 4096 (record { plugged = refl; free = refl; few = refl }) refl refl,
      (
        abort_came,
        asking_comes in_came 3 2 0xA2 _ (record { plugged = refl; free = refl; few = refl }) refl refl,
        (
          aborted,
          aborts,
          (
            ended,
            ends_transfer,
            (
              check_came,
              asking_comes ended 4 8 0xA2 _ (record { plugged = refl; free = refl; few = refl }) refl refl,
              (done, checks, refl),
            ),
          ),
        ),
      ),
    ),
  ),
)
