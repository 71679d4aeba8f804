-- the status byte is read, step by step
use Rattle.std.proofs.Common.{true, false, [], ◌∷◌, refl, arith, lit<, lit≤}
use Rattle.tmc_wire.specs.declared.class_request.ClassRequest.TheVariants.{ReadStatus}
use Rattle.tmc_wire.specs.ControlTable.{row}
use Rattle.instr_plain.specs.Standing.{at_power_on}
use Rattle.tmc_law.specs.Endpoint.{Control, ends}
use Rattle.tmc_law.specs.State.{State, Pending, start, arrived, StatusPacket}
use Rattle.tmc_law.specs.Put.{success}
use Rattle.tmc_law.specs.Control.{Asks}
use Rattle.tmc_law.specs.Queues.{Polled}
use Rattle.tmc_law.specs.Status.{IsStatusTag, BadTag, Busy, DoesPoll, PolledNow, PolledBefore, Gives, NoRoom}
use Rattle.tmc_law.specs.Class.{DoesPollFirst}
use Rattle.tmc_law.specs.Step.{Steps, Answer, Poll}
use Rattle.tmc_law.specs.Run.{Runs}
use Rattle.tmc_law.specs.WorkedSession.{notify_submit, answered}
use Rattle.tmc_law.specs.WorkedStatus.{status_submit, status_asked, answer_first, packet_first, unlink_behind_poll, no_room, wrong_submit, early_submit, statuses, status_log}
use Rattle.tmc_law.proofs.WorkedComing.{notify_comes, asking_comes, unlink_comes}
use Rattle.tmc_law.proofs.WorkedAnswering.{answers_class}

abbrev notify_came : State
notify_came = record start { interrupt_in = arrived (notify_submit 1 8) [] ∷ [] }

abbrev pub status_came : State
status_came = record notify_came { control = arrived status_submit [] ∷ [] }

abbrev pub done : State
done = record start { log = status_log }

status_asks : Asks (arrived status_submit []) (row ends (ReadStatus 5))
status_asks = record { fits = record { request_type = lit< tt; request = lit< tt; value = lit< tt; index = lit< tt; length = lit< tt }; layout = refl }

pub asks : Runs start status_asked status_came
asks = (
  notify_came,
  notify_comes start 1 8 (record { plugged = refl; free = refl; few = refl }) refl refl,
  (status_came, asking_comes notify_came 2 3 0xA1 _ (record { plugged = refl; free = refl; few = refl }) refl refl, refl),
)

-- the answer, and then the packet
abbrev answered_first : State
answered_first = record notify_came { packets = StatusPacket 5 0 ∷ []; log = status_log }

answers_now : Steps status_came Answer (answered status_submit success 3 (0x01 ∷ 0x05 ∷ 0x00 ∷ []) ∷ []) answered_first
answers_now = answers_class status_came (arrived status_submit []) [] (ReadStatus 5) (record { layout = 0x01 ∷ 0x05 ∷ 0x00 ∷ []; behind = []; state = answered_first })
    refl refl status_asks (lit< tt)
    (PolledNow answered_first (lit≤ tt, lit≤ tt) refl refl
    (DoesPoll (record notify_came { log = status_log }) (record { standing = at_power_on; after = refl; is = refl }) refl) refl)

pub answers_then_notifies : Runs status_came answer_first done
answers_then_notifies = (
  answered_first,
  answers_now,
  (done, record { plugged = refl; leads = Gives (arrived (notify_submit 1 8) []) [] (StatusPacket 5 0) [] refl refl (lit≤ tt) refl refl }, refl),
)

-- the packet, and then the answer
abbrev polled : Pending
polled = record (arrived status_submit []) { polled = true }

abbrev polled_first : State
polled_first = record answered_first { control = polled ∷ [] }

abbrev notified_first : State
notified_first = record start { control = polled ∷ []; log = status_log }

polls : Steps status_came Poll [] polled_first
polls = record {
  plugged = refl;
  leads = (
    DoesPollFirst (arrived status_submit []) [] (row ends (ReadStatus 5)) 5 refl status_asks (record { fits = lit< tt; is = refl }) (lit≤ tt, lit≤ tt) refl refl
        (DoesPoll (record notify_came { control = polled ∷ []; log = status_log }) (record { standing = at_power_on; after = refl; is = refl }) refl),
    refl,
  );
}

polled_asks : Asks polled (row ends (ReadStatus 5))
polled_asks = record { fits = status_asks.fits; layout = refl }

answers_later : Steps notified_first Answer (answered status_submit success 3 (0x01 ∷ 0x05 ∷ 0x00 ∷ []) ∷ []) done
answers_later = answers_class notified_first polled [] (ReadStatus 5) (record { layout = 0x01 ∷ 0x05 ∷ 0x00 ∷ []; behind = []; state = done })
    refl refl polled_asks (lit< tt) (PolledBefore (lit≤ tt, lit≤ tt) refl refl)

pub notifies_then_answers : Runs status_came packet_first done
notifies_then_answers = (
  polled_first,
  polls,
  (
    notified_first,
    record { plugged = refl; leads = Gives (arrived (notify_submit 1 8) []) [] (StatusPacket 5 0) [] refl refl (lit≤ tt) refl refl },
    (done, answers_later, refl),
  ),
)

-- the request is unlinked behind its poll
pub polls_then_unlinks : Runs status_came unlink_behind_poll done
polls_then_unlinks = (
  polled_first,
  polls,
  (
    answered_first,
    unlink_comes polled_first answered_first 3 2 _ refl (lit< tt) (lit< tt)
        (Polled Control [] polled [] (row ends (ReadStatus 5)) 5 refl refl refl polled_asks (record { fits = lit< tt; is = refl }) refl refl),
    (done, record { plugged = refl; leads = Gives (arrived (notify_submit 1 8) []) [] (StatusPacket 5 0) [] refl refl (lit≤ tt) refl refl }, refl),
  ),
)

-- the packet does not fit
abbrev small_came : State
small_came = record start { interrupt_in = arrived (notify_submit 1 1) [] ∷ [] }

abbrev small_asked : State
small_asked = record small_came { control = arrived status_submit [] ∷ [] }

abbrev small_answered : State
small_answered = record small_came { packets = StatusPacket 5 0 ∷ []; log = status_log }

abbrev pub halted : State
halted = record start {
  halted = record { bulk_out = false; bulk_in = false; interrupt_in = true };
  packets = StatusPacket 5 0 ∷ [];
  log = status_log;
}

small_answers : Steps small_asked Answer (answered status_submit success 3 (0x01 ∷ 0x05 ∷ 0x00 ∷ []) ∷ []) small_answered
small_answers = answers_class small_asked (arrived status_submit []) [] (ReadStatus 5) (record { layout = 0x01 ∷ 0x05 ∷ 0x00 ∷ []; behind = []; state = small_answered })
    refl refl status_asks (lit< tt)
    (PolledNow small_answered (lit≤ tt, lit≤ tt) refl refl
    (DoesPoll (record small_came { log = status_log }) (record { standing = at_power_on; after = refl; is = refl }) refl) refl)

pub halts_without_room : Runs start no_room halted
halts_without_room = (
  small_came,
  notify_comes start 1 1 (record { plugged = refl; free = refl; few = refl }) refl refl,
  (
    small_asked,
    asking_comes small_came 2 3 0xA1 _ (record { plugged = refl; free = refl; few = refl }) refl refl,
    (
      small_answered,
      small_answers,
      (halted, record { plugged = refl; leads = NoRoom (arrived (notify_submit 1 1) []) [] (StatusPacket 5 0) [] refl refl (lit< tt) refl refl }, refl),
    ),
  ),
)

-- a wrong tag, and a request that comes too early
abbrev wrong_came : State
wrong_came = record start { control = arrived wrong_submit [] ∷ [] }

abbrev alone_came : State
alone_came = record start { control = arrived status_submit [] ∷ [] }

abbrev pub alone_polled : State
alone_polled = record start { packets = StatusPacket 5 0 ∷ []; log = status_log }

abbrev early_came : State
early_came = record alone_polled { control = arrived early_submit [] ∷ [] }

wrong_asks : Asks (arrived wrong_submit []) (row ends (ReadStatus 1))
wrong_asks = record { fits = record { request_type = lit< tt; request = lit< tt; value = lit< tt; index = lit< tt; length = lit< tt }; layout = refl }

early_asks : Asks (arrived early_submit []) (row ends (ReadStatus 6))
early_asks = record { fits = record { request_type = lit< tt; request = lit< tt; value = lit< tt; index = lit< tt; length = lit< tt }; layout = refl }

no_tag : IsStatusTag 1 → ⊥
no_tag is = omega (arith, is.0)

fails : Steps wrong_came Answer (answered wrong_submit success 3 (0x80 ∷ 0x01 ∷ 0x00 ∷ []) ∷ []) start
fails = answers_class wrong_came (arrived wrong_submit []) [] (ReadStatus 1) (record { layout = 0x80 ∷ 0x01 ∷ 0x00 ∷ []; behind = []; state = start })
    refl refl wrong_asks (lit< tt) (BadTag no_tag refl)

answers_alone : Steps alone_came Answer (answered status_submit success 3 (0x01 ∷ 0x05 ∷ 0x00 ∷ []) ∷ []) alone_polled
answers_alone = answers_class alone_came (arrived status_submit []) [] (ReadStatus 5) (record { layout = 0x01 ∷ 0x05 ∷ 0x00 ∷ []; behind = []; state = alone_polled })
    refl refl status_asks (lit< tt)
    (PolledNow alone_polled (lit≤ tt, lit≤ tt) refl refl
    (DoesPoll (record start { log = status_log }) (record { standing = at_power_on; after = refl; is = refl }) refl) refl)

is_busy : Steps early_came Answer (answered early_submit success 3 (0x20 ∷ 0x06 ∷ 0x00 ∷ []) ∷ []) alone_polled
is_busy = answers_class early_came (arrived early_submit []) [] (ReadStatus 6) (record { layout = 0x20 ∷ 0x06 ∷ 0x00 ∷ []; behind = []; state = alone_polled })
    refl refl early_asks (lit< tt) (Busy (lit≤ tt, lit≤ tt) refl refl refl)

pub reads_statuses : Runs start statuses alone_polled
reads_statuses = (
  wrong_came,
  asking_comes start 1 3 0xA1 _ (record { plugged = refl; free = refl; few = refl }) refl refl,
  (
    start,
    fails,
    (
      alone_came,
      asking_comes start 2 3 0xA1 _ (record { plugged = refl; free = refl; few = refl }) refl refl,
      (
        alone_polled,
        answers_alone,
        (
          early_came,
          asking_comes alone_polled 3 3 0xA1 _ (record { plugged = refl; free = refl; few = refl }) refl refl,
          (alone_polled, is_busy, refl),
        ),
      ),
    ),
  ),
)
