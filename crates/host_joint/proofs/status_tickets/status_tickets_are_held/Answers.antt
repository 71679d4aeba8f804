use Rattle.host_joint.specs.StatusTickets.{NoRead, HasRead, StopsRead, StopsLate, StatusHolds}
use Rattle.host_joint.proofs.Until.{until_run}
use Rattle.host_joint.proofs.StatusTicketed.{status_next}
use Rattle.host_joint.proofs.status_tickets.status_tickets_are_held.Goals as goal

pub returns-clause-stays : goal.returns-clause-stays
returns-clause-stays c NoRead notify older run next ups downs s t goes plugged r = c.packets_are_told.ensures.stays notify older run next ups downs s t goes plugged r
returns-clause-stays c (HasRead read waits got) notify older run next ups downs s t goes plugged r = c.status_reads_are_tied.ensures.stays read waits notify got older run next ups downs s t goes plugged r
returns-clause-stays c (StopsRead read unlink waits got) notify older run next ups downs s t goes plugged r = c.status_reads_are_cancelled.ensures.stays read unlink waits notify got older run next ups downs s t goes plugged r
returns-clause-stays c (StopsLate unlink) notify older run next ups downs s t goes plugged r = c.status_reads_are_cancelled.ensures.late unlink notify older run next ups downs s t goes plugged r

pub returns-clause-until : goal.returns-clause-until
returns-clause-until c ticket notify older run next ups downs s t goes tie =
    until_run (record { apart = c.runs_join.ensures.apart; ins = c.runs_join.ensures.inputs; outs = c.runs_join.ensures.outputs }) (λ run. Unit {0}) (λ ups downs s. StatusHolds ticket notify older next ups downs s)
    (λ run ups downs s t goes kind plugged r. returns-clause-stays c ticket notify older run next ups downs s t goes plugged r) (λ a b h. tt) run ups downs s t goes tt tie

pub returns-clause-next : goal.returns-clause-next
returns-clause-next c = status_next
