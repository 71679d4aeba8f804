-- a message interrupts a response, step by step
use Rattle.std.proofs.Common.{true, [], ◌∷◌, codes, Some, inr, refl, lit<, lit≤}
use Rattle.std.proofs.lemmas.Bool.{eqb-false}
use Rattle.tmc_wire.specs.declared.header.OutHeader.TheVariants.{Message}
use Rattle.instr_plain.specs.declared.log.LogEntry.TheVariants as entry
use Rattle.instr_plain.specs.Standing.{power_on, at_power_on}
use Rattle.tmc_law.specs.State.{State, start, arrived}
use Rattle.tmc_law.specs.Put.{success}
use Rattle.tmc_law.specs.BulkOut.{DoesMove, Last, Dropped, NothingUnread, DoesExecute}
use Rattle.tmc_law.specs.Step.{Steps, Take, Exec}
use Rattle.tmc_law.specs.Run.{Runs}
use Rattle.tmc_law.specs.WorkedSession.{out_submit, answered}
use Rattle.tmc_law.specs.WorkedQuery.{query_text, identity}
use Rattle.tmc_law.specs.WorkedInterrupt.{second_text, interrupting, interrupt_log}
use Rattle.tmc_law.proofs.WorkedComing.{out_comes}
use Rattle.tmc_law.proofs.WorkedUnspoiled.{IsGood}
use Rattle.tmc_law.proofs.WorkedTaking.{takes_whole}
use Rattle.tmc_law.proofs.WorkedMessages.{identifies}
use Rattle.tmc_law.proofs.WorkedQuery.{query_good, some_identity}

abbrev first_came : State
first_came = record start { bulk_out = arrived (out_submit 1 20) query_text ∷ [] }

abbrev first_waits : State
first_waits = record start { waiting = Some (record { seq = 1; message = codes "*IDN?" }) }

abbrev executed : State
executed = record start { log = entry.Exec 1 (codes "*IDN?") ∷ []; standing = record at_power_on { unread = identity } }

abbrev second_came : State
second_came = record executed { bulk_out = arrived (out_submit 2 20) second_text ∷ [] }

-- the response is dropped, and QYE is set
abbrev dropped : State
dropped = record start {
  log = entry.Exec 1 (codes "*IDN?") ∷ entry.Interrupt ∷ [];
  standing = record at_power_on { state = record power_on { esr = 132 } };
}

abbrev second_waits : State
second_waits = record dropped { waiting = Some (record { seq = 2; message = codes "*IDN?" }) }

abbrev done : State
done = record start { log = interrupt_log; standing = record at_power_on { state = record power_on { esr = 132 }; unread = identity } }

takes_first : Steps first_came (Take 1) (answered (out_submit 1 20) success 20 [] ∷ []) first_waits
takes_first =
    takes_whole first_came first_waits (arrived (out_submit 1 20) query_text) [] (Message 1 5 true)
    (record { plugged = refl; none_waits = refl; none_runs = refl; first = refl; good = query_good first_came refl refl; some = eqb-false _ _ refl; one = refl; moves = DoesMove refl refl; fits = refl; full = refl })
    (Last 1 5 (codes "*IDN?") start refl
    (record { head = 0x01 ∷ 0x01 ∷ 0xfe ∷ 0x00 ∷ 0x05 ∷ 0x00 ∷ 0x00 ∷ 0x00 ∷ 0x01 ∷ 0x00 ∷ 0x00 ∷ 0x00 ∷ []; alignment = 0x00 ∷ 0x00 ∷ 0x00 ∷ []; headed = (query_good first_came refl refl).headed; counted = refl; least = lit< tt; aligned = refl; layout = refl })
    (NothingUnread refl refl) refl)

second_good : IsGood second_came second_text (Message 2 5 true)
second_good = record {
  idle = refl;
  fine = record { long = lit≤ tt; known = refl; tagged = eqb-false _ _ refl; inverse = refl; counted = inr (eqb-false _ _ refl) };
  headed = record { reserved = 0; attributes = 1; ninth = 0; tenth = 0; eleventh = 0; tagged = (lit< tt, lit< tt); counted = (lit< tt, lit< tt); accepted = refl; layout = refl };
  suits = lit≤ tt;
}

takes_second : Steps second_came (Take 1) (answered (out_submit 2 20) success 20 [] ∷ []) second_waits
takes_second =
    takes_whole second_came second_waits (arrived (out_submit 2 20) second_text) [] (Message 2 5 true)
    (record { plugged = refl; none_waits = refl; none_runs = refl; first = refl; good = second_good; some = eqb-false _ _ refl; one = refl; moves = DoesMove refl refl; fits = refl; full = refl })
    (Last 2 5 (codes "*IDN?") dropped refl
    (record { head = 0x01 ∷ 0x02 ∷ 0xfd ∷ 0x00 ∷ 0x05 ∷ 0x00 ∷ 0x00 ∷ 0x00 ∷ 0x01 ∷ 0x00 ∷ 0x00 ∷ 0x00 ∷ []; alignment = 0x00 ∷ 0x00 ∷ 0x00 ∷ []; headed = second_good.headed; counted = refl; least = lit< tt; aligned = refl; layout = refl })
    (Dropped refl some_identity (record { standing = dropped.standing; after = refl; is = refl })) refl)

executes_first : Steps first_waits Exec [] executed
executes_first = record {
  plugged = refl;
  leads = (DoesExecute 1 (codes "*IDN?") refl (record { standing = executed.standing; after = (identifies _, refl); is = refl }), refl);
}

executes_second : Steps second_waits Exec [] done
executes_second = record {
  plugged = refl;
  leads = (DoesExecute 2 (codes "*IDN?") refl (record { standing = done.standing; after = (identifies _, refl); is = refl }), refl);
}

pub interrupts : Runs start interrupting done
interrupts = (
  first_came,
  out_comes start 1 20 query_text (record { plugged = refl; free = refl; few = refl }) refl refl,
  (
    first_waits,
    takes_first,
    (
      executed,
      executes_first,
      (
        second_came,
        out_comes executed 2 20 second_text (record { plugged = refl; free = refl; few = refl }) refl refl,
        (second_waits, takes_second, (done, executes_second, refl)),
      ),
    ),
  ),
)
