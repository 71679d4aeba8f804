-- a response requests service, step by step
use Rattle.std.proofs.Common.{Bool, true, false, [], ◌∷◌, codes, Some, inr, refl, lit<, lit≤}
use Rattle.std.proofs.lemmas.Bool.{eqb-false}
use Rattle.tmc_wire.specs.declared.header.OutHeader.TheVariants.{Message}
use Rattle.tmc_wire.specs.declared.class_request.ClassRequest.TheVariants.{ReadStatus}
use Rattle.tmc_wire.specs.ControlTable.{row}
use Rattle.instr_plain.specs.declared.log.LogEntry.TheVariants as entry
use Rattle.instr_plain.specs.Standing.{Standing, power_on}
use Rattle.tmc_law.specs.Endpoint.{ends}
use Rattle.tmc_law.specs.State.{State, start, arrived, StatusPacket, ServicePacket}
use Rattle.tmc_law.specs.Put.{success}
use Rattle.tmc_law.specs.BulkOut.{DoesMove, Last, NothingUnread, DoesExecute}
use Rattle.tmc_law.specs.Control.{Asks}
use Rattle.tmc_law.specs.Status.{DoesPoll, PolledNow, Gives}
use Rattle.tmc_law.specs.Step.{Steps, Take, Exec, Answer}
use Rattle.tmc_law.specs.Run.{Runs}
use Rattle.tmc_law.specs.WorkedSession.{out_submit, notify_submit, answered}
use Rattle.tmc_law.specs.WorkedQuery.{identity}
use Rattle.tmc_law.specs.WorkedService.{enabling_text, status_submit, requesting, service_log}
use Rattle.tmc_law.proofs.WorkedComing.{out_comes, notify_comes, asking_comes}
use Rattle.tmc_law.proofs.WorkedUnspoiled.{IsGood}
use Rattle.tmc_law.proofs.WorkedTaking.{takes_whole}
use Rattle.tmc_law.proofs.WorkedMessages.{enables}
use Rattle.tmc_law.proofs.WorkedAnswering.{answers_class}

abbrev came : State
came = record start { bulk_out = arrived (out_submit 1 28) enabling_text ∷ [] }

abbrev waits : State
waits = record start { waiting = Some (record { seq = 1; message = codes "*SRE 16;*IDN?" }) }

-- MAV is set and enabled, with RQS or without
abbrev available : Bool → Standing
available rqs = record { state = record power_on { sre = 16 }; unread = identity; rqs = rqs }

abbrev executed : State
executed = record start { packets = ServicePacket 80 ∷ []; log = entry.Exec 1 (codes "*SRE 16;*IDN?") ∷ []; standing = available true }

abbrev notify_came : State
notify_came = record executed { interrupt_in = arrived (notify_submit 2 8) [] ∷ [] }

abbrev notified : State
notified = record executed { packets = [] }

abbrev status_came : State
status_came = record notified { control = arrived status_submit [] ∷ [] }

abbrev polled : State
polled = record start { packets = StatusPacket 2 80 ∷ []; log = service_log; standing = available false }

abbrev second_came : State
second_came = record polled { interrupt_in = arrived (notify_submit 4 8) [] ∷ [] }

abbrev done : State
done = record polled { packets = [] }

enabling_good : IsGood came enabling_text (Message 1 13 true)
enabling_good = record {
  idle = refl;
  fine = record { long = lit≤ tt; known = refl; tagged = eqb-false _ _ refl; inverse = refl; counted = inr (eqb-false _ _ refl) };
  headed = record { reserved = 0; attributes = 1; ninth = 0; tenth = 0; eleventh = 0; tagged = (lit< tt, lit< tt); counted = (lit< tt, lit< tt); accepted = refl; layout = refl };
  suits = lit≤ tt;
}

takes_enabling : Steps came (Take 1) (answered (out_submit 1 28) success 28 [] ∷ []) waits
takes_enabling =
    takes_whole came waits (arrived (out_submit 1 28) enabling_text) [] (Message 1 13 true)
    (record { plugged = refl; none_waits = refl; none_runs = refl; first = refl; good = enabling_good; some = eqb-false _ _ refl; one = refl; moves = DoesMove refl refl; fits = refl; full = refl })
    (Last 1 13 (codes "*SRE 16;*IDN?") start refl
    (record { head = 0x01 ∷ 0x01 ∷ 0xfe ∷ 0x00 ∷ 0x0d ∷ 0x00 ∷ 0x00 ∷ 0x00 ∷ 0x01 ∷ 0x00 ∷ 0x00 ∷ 0x00 ∷ []; alignment = 0x00 ∷ 0x00 ∷ 0x00 ∷ []; headed = enabling_good.headed; counted = refl; least = lit< tt; aligned = refl; layout = refl })
    (NothingUnread refl refl) refl)

executes_enabling : Steps waits Exec [] executed
executes_enabling = record {
  plugged = refl;
  leads = (DoesExecute 1 (codes "*SRE 16;*IDN?") refl (record { standing = available true; after = (enables, refl); is = refl }), refl);
}

status_asks : Asks (arrived status_submit []) (row ends (ReadStatus 2))
status_asks = record { fits = record { request_type = lit< tt; request = lit< tt; value = lit< tt; index = lit< tt; length = lit< tt }; layout = refl }

answers_status : Steps status_came Answer (answered status_submit success 3 (0x01 ∷ 0x02 ∷ 0x00 ∷ []) ∷ []) polled
answers_status = answers_class status_came (arrived status_submit []) [] (ReadStatus 2) (record { layout = 0x01 ∷ 0x02 ∷ 0x00 ∷ []; behind = []; state = polled })
    refl refl status_asks (lit< tt)
    (PolledNow polled (lit≤ tt, lit≤ tt) refl refl
    (DoesPoll (record polled { packets = [] }) (record { standing = available false; after = refl; is = refl }) refl) refl)

pub requests_service : Runs start requesting done
requests_service = (
  came,
  out_comes start 1 28 enabling_text (record { plugged = refl; free = refl; few = refl }) refl refl,
  (
    waits,
    takes_enabling,
    (
      executed,
      executes_enabling,
      (
        notify_came,
        notify_comes executed 2 8 (record { plugged = refl; free = refl; few = refl }) refl refl,
        (
          notified,
          record { plugged = refl; leads = Gives (arrived (notify_submit 2 8) []) [] (ServicePacket 80) [] refl refl (lit≤ tt) refl refl },
          (
            status_came,
            asking_comes notified 3 3 0xA1 _ (record { plugged = refl; free = refl; few = refl }) refl refl,
            (
              polled,
              answers_status,
              (
                second_came,
                notify_comes polled 4 8 (record { plugged = refl; free = refl; few = refl }) refl refl,
                (done, record { plugged = refl; leads = Gives (arrived (notify_submit 4 8) []) [] (StatusPacket 2 80) [] refl refl (lit≤ tt) refl refl }, refl),
              ),
            ),
          ),
        ),
      ),
    ),
  ),
)
