-- what a transfer does stands beside the queue of Bulk-OUT
use Rattle.std.proofs.Common.{ℕ, List, ap}
use Rattle.instr_plain.specs.declared.log.LogEntry.{LogEntry}
use Rattle.tmc_law.specs.State.{State, Pending, Transfer}
use Rattle.tmc_law.specs.Logging.{Logs}
use Rattle.tmc_law.specs.BulkOut.{Interrupts, Dropped, NothingUnread, LaterPart, TakesEffect, Part, Last, Requests, RequestsNothing, Triggers}

abbrev with_queue : List Pending → State → State
with_queue queue s = record s { bulk_out = queue }

logs_beside : (e : LogEntry) (s t : State) (queue : List Pending) → Logs e s t → Logs e (with_queue queue s) (with_queue queue t)
logs_beside e s t queue logs = record { standing = logs.standing; after = logs.after; is = ap (with_queue queue) logs.is }

interrupts_beside : (s t : State) (queue : List Pending) → Interrupts s t → Interrupts (with_queue queue s) (with_queue queue t)
interrupts_beside s t queue (Dropped none some logs) = Dropped none some (logs_beside _ s t queue logs)
interrupts_beside s t queue (NothingUnread nothing is) = NothingUnread nothing (ap (with_queue queue) is)
interrupts_beside s t queue (LaterPart some is) = LaterPart some (ap (with_queue queue) is)

pub effect_beside : (seqnum : ℕ) (transfer : Transfer) (s t : State) (queue : List Pending) → TakesEffect seqnum transfer s t
    → TakesEffect seqnum transfer (record s { bulk_out = queue }) (record t { bulk_out = queue })
effect_beside seqnum transfer s t queue (Part tag size message mid header text interrupts is) =
    Part tag size message (with_queue queue mid) header text (interrupts_beside s mid queue interrupts) (ap (with_queue queue) is)
effect_beside seqnum transfer s t queue (Last tag size message mid header text interrupts is) =
    Last tag size message (with_queue queue mid) header text (interrupts_beside s mid queue interrupts) (ap (with_queue queue) is)
effect_beside seqnum transfer s t queue (Requests tag size header some is) = Requests tag size header some (ap (with_queue queue) is)
effect_beside seqnum transfer s t queue (RequestsNothing tag size header nothing logs) = RequestsNothing tag size header nothing (logs_beside _ _ t queue logs)
effect_beside seqnum transfer s t queue (Triggers tag header logs) = Triggers tag header (logs_beside _ s t queue logs)
