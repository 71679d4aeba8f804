-- behind the first packet of a response, its transfer is aborted, step by step
use Rattle.std.proofs.Common.{ℕ, true, false, [], ◌∷◌, refl, lit<}
use Rattle.tmc_wire.specs.declared.class_request.ClassRequest.TheVariants.{AbortIn, CheckIn}
use Rattle.tmc_wire.specs.ControlTable.{row}
use Rattle.tmc_law.specs.Endpoint.{ends}
use Rattle.tmc_law.specs.State.{State, start, arrived, Sending, AbortsIn}
use Rattle.tmc_law.specs.Put.{success}
use Rattle.tmc_law.specs.BulkIn.{Ends}
use Rattle.tmc_law.specs.Control.{Asks}
use Rattle.tmc_law.specs.Aborts.{DoesAbort, checked_in}
use Rattle.tmc_law.specs.Class.{DoesPostpone}
use Rattle.tmc_law.specs.Step.{Steps, Answer, Pend, Fill}
use Rattle.tmc_law.specs.Run.{Runs}
use Rattle.tmc_law.specs.WorkedSession.{answered}
use Rattle.tmc_law.specs.WorkedQuery.{response_submit}
use Rattle.tmc_law.specs.WorkedRead.{first_packet, read_log}
use Rattle.tmc_law.specs.WorkedAbortIn.{abort_submit, check_submit, aborting_in, checking_in}
use Rattle.tmc_law.proofs.WorkedComing.{asking_comes}
use Rattle.tmc_law.proofs.WorkedAnswering.{answers_class}
use Rattle.tmc_law.proofs.WorkedRead.{half, part_filled}

abbrev abort_came : State
abort_came = record half { control = arrived abort_submit [] ∷ [] }

-- the packet of length 0 is to come
abbrev pub aborted : State
aborted = record half { side = Sending (record { tag = 2; size = 65; left = [] }); running = AbortsIn true 52 }

abbrev early_came : State
early_came = record aborted { control = arrived (check_submit 5) [] ∷ [] }

-- it came
abbrev pub ended : State
ended = record start { running = AbortsIn false 52; log = read_log }

abbrev late_came : (seqnum : ℕ) → State
late_came seqnum = record ended { control = arrived (check_submit seqnum) [] ∷ [] }

abbrev pub done : State
done = record start { log = read_log }

abort_asks : Asks (arrived abort_submit []) (row ends (AbortIn 2))
abort_asks = record { fits = record { request_type = lit< tt; request = lit< tt; value = lit< tt; index = lit< tt; length = lit< tt }; layout = refl }

pub check_asks : (seqnum : ℕ) → Asks (arrived (check_submit seqnum) []) (row ends CheckIn)
check_asks seqnum = record { fits = record { request_type = lit< tt; request = lit< tt; value = lit< tt; index = lit< tt; length = lit< tt }; layout = refl }

aborts : Steps abort_came Answer (answered abort_submit success 2 (0x01 ∷ 0x02 ∷ []) ∷ []) aborted
aborts = answers_class abort_came (arrived abort_submit []) [] (AbortIn 2) (record { layout = 0x01 ∷ 0x02 ∷ []; behind = []; state = aborted })
    refl refl abort_asks (lit< tt) (DoesAbort refl refl refl)

checks_early : Steps early_came Answer (answered (check_submit 5) success 8 (0x02 ∷ 0x01 ∷ 0x00 ∷ 0x00 ∷ 0x34 ∷ 0x00 ∷ 0x00 ∷ 0x00 ∷ []) ∷ []) aborted
checks_early = answers_class early_came (arrived (check_submit 5) []) [] CheckIn (checked_in aborted) refl refl (check_asks 5) tt refl

pub ends_transfer : Steps aborted (Fill 1) (answered response_submit success 64 first_packet ∷ []) ended
ends_transfer = record { plugged = refl; leads = Ends part_filled [] 52 refl refl refl refl refl }

checks_late : (seqnum : ℕ) → Steps (late_came seqnum) Answer (answered (check_submit seqnum) success 8 (0x01 ∷ 0x00 ∷ 0x00 ∷ 0x00 ∷ 0x34 ∷ 0x00 ∷ 0x00 ∷ 0x00 ∷ []) ∷ []) done
checks_late seqnum = answers_class (late_came seqnum) (arrived (check_submit seqnum) []) [] CheckIn (checked_in ended) refl refl (check_asks seqnum) tt refl

pub aborts_in : Runs half aborting_in done
aborts_in = (
  abort_came,
  asking_comes half 4 2 0xA2 _ (record { plugged = refl; free = refl; few = refl }) refl refl,
  (
    aborted,
    aborts,
    (
      early_came,
      asking_comes aborted 5 8 0xA2 _ (record { plugged = refl; free = refl; few = refl }) refl refl,
      (
        aborted,
        checks_early,
        (
          ended,
          ends_transfer,
          (
            late_came 6,
            asking_comes ended 6 8 0xA2 _ (record { plugged = refl; free = refl; few = refl }) refl refl,
            (done, checks_late 6, refl),
          ),
        ),
      ),
    ),
  ),
)

-- the same, with PENDING behind the packet too
pends_early : Steps early_came Pend (answered (check_submit 5) success 8 (0x02 ∷ 0x01 ∷ 0x00 ∷ 0x00 ∷ 0x34 ∷ 0x00 ∷ 0x00 ∷ 0x00 ∷ []) ∷ []) aborted
pends_early = record {
  plugged = refl;
  leads = DoesPostpone (arrived (check_submit 5) []) [] (row ends CheckIn) CheckIn (0x02 ∷ 0x01 ∷ 0x00 ∷ 0x00 ∷ 0x34 ∷ 0x00 ∷ 0x00 ∷ 0x00 ∷ [])
      refl (check_asks 5) (record { fits = tt; is = refl }) refl refl refl;
}

pends_late : Steps (late_came 6) Pend (answered (check_submit 6) success 8 (0x02 ∷ 0x00 ∷ 0x00 ∷ 0x00 ∷ 0x34 ∷ 0x00 ∷ 0x00 ∷ 0x00 ∷ []) ∷ []) ended
pends_late = record {
  plugged = refl;
  leads = DoesPostpone (arrived (check_submit 6) []) [] (row ends CheckIn) CheckIn (0x02 ∷ 0x00 ∷ 0x00 ∷ 0x00 ∷ 0x34 ∷ 0x00 ∷ 0x00 ∷ 0x00 ∷ [])
      refl (check_asks 6) (record { fits = tt; is = refl }) refl refl refl;
}

pub checks_in : Runs half checking_in done
checks_in = (
  abort_came,
  asking_comes half 4 2 0xA2 _ (record { plugged = refl; free = refl; few = refl }) refl refl,
  (
    aborted,
    aborts,
    (
      early_came,
      asking_comes aborted 5 8 0xA2 _ (record { plugged = refl; free = refl; few = refl }) refl refl,
      (
        aborted,
        pends_early,
        (
          ended,
          ends_transfer,
          (
            late_came 6,
            asking_comes ended 6 8 0xA2 _ (record { plugged = refl; free = refl; few = refl }) refl refl,
            (
              ended,
              pends_late,
              (
                late_came 7,
                asking_comes ended 7 8 0xA2 _ (record { plugged = refl; free = refl; few = refl }) refl refl,
                (done, checks_late 7, refl),
              ),
            ),
          ),
        ),
      ),
    ),
  ),
)
