-- the one transfer of a trigger ticket, and the entry that it makes (USB488 1.0, section 3.2.1)
use Rattle.std.specs.Prelude.{◌≡◌, ◌≢◌, ◌⊎◌, ℕ, true, Some, None, List, [], ◌∷◌, ◌++◌}
use Rattle.usbip_wire.specs.declared.ret_submit.RetSubmitHead.{RetSubmitHead}
use Rattle.usbip_wire.specs.Up as up
use Rattle.tmc_wire.specs.declared.header.OutHeader.TheVariants as header
use Rattle.instr_plain.specs.declared.log.LogEntry.{LogEntry}
use Rattle.instr_plain.specs.declared.log.LogEntry.TheVariants.{Trigger}
use Rattle.tmc_law.specs.Endpoint.{BulkOut}
use Rattle.tmc_law.specs.State.{State, arrived}
use Rattle.tmc_law.specs.Put.{Put, success, stalled}
use Rattle.host_joint.specs.Lines.{Sent, sent_to, Event, Gives, events_of}
use Rattle.host_joint.specs.Jobs.{Job, IsJob}
use Rattle.host_joint.specs.Positions.{IsAt, rests}
use Rattle.host_joint.specs.Tie.{asked_of}
use Rattle.host_joint.specs.Bond.{Bond, Bound, Stands, Resting}

-- a transfer that is a trigger
pub record IsTrigger (job : Job) : Type 0 where
  pub transfer : IsJob job
  pub tag : ℕ
  pub header : job.header ≡ header.Trigger tag

-- no trigger of this number is among these entries
abbrev pub NoTrigger : ℕ → List LogEntry → Type 0
NoTrigger n [] = Unit {0}
NoTrigger n (Trigger seq ∷ entries) = (seq ≢ n) × NoTrigger n entries
NoTrigger n (_ ∷ entries) = NoTrigger n entries

-- exactly one is
pub record OneTrigger (n : ℕ) (log : List LogEntry) : Type 0 where
  pub before : List LogEntry
  pub behind : List LogEntry
  pub whole : log ≡ before ++ Trigger n ∷ behind
  pub none_before : NoTrigger n before
  pub none_behind : NoTrigger n behind

-- the state without its transfers
abbrev pub untaken_state : State → State
untaken_state s = record s { bulk_out = [] }

-- Where the transfer is: on its way or pending, and nothing was triggered; or answered as taken, and the instrument was triggered under its number;
-- or answered by a halt of Bulk-OUT, and it was not. The device is at rest else, though a message of an earlier ticket may wait.
pub data TriggerAt (job : Job) (coming : List Sent) (events : List Event) (s : State) : Type 0 where
  TriggerComes : coming ≡ record { head = job.head; transferred = job.bytes } ∷ [] → events ≡ [] → IsAt rests s → NoTrigger job.head.seqnum s.log → TriggerAt job coming events s
  TriggerPends : coming ≡ [] → events ≡ [] → s.bulk_out ≡ arrived job.head job.bytes ∷ [] → IsAt rests (untaken_state s) → NoTrigger job.head.seqnum s.log → TriggerAt job coming events s
  TriggerTaken : coming ≡ [] → events ≡ Gives job.head (record { seqnum = job.head.seqnum; status = success; actual = job.head.length }) [] ∷ [] → IsAt rests s
      → OneTrigger job.head.seqnum s.log → TriggerAt job coming events s
  TriggerShut : coming ≡ [] → events ≡ Gives job.head (record { seqnum = job.head.seqnum; status = stalled; actual = 0 }) [] ∷ [] → s.halted.bulk_out ≡ true → IsAt rests s
      → NoTrigger job.head.seqnum s.log → TriggerAt job coming events s

-- a host whose trigger is not answered, and a lawful device
pub record Triggering (job : Job) (next : ℕ) (ups : List up.Message) (downs : List Put) (s : State) : Type 0 where
  pub trigger : IsTrigger job
  pub bond : Bond (λ ups downs s. TriggerAt job (sent_to BulkOut ups) (events_of BulkOut downs) s) (asked_of (Some job.head)) [] next ups downs s

-- The answer to it: the trigger was taken, and the instrument was triggered exactly once under its number; or Bulk-OUT is halted, and it was
-- not. The host stands at rest.
abbrev pub Triggered : Job → RetSubmitHead → (next : ℕ) → List up.Message → List Put → State → Type 0
Triggered job answer next ups downs s =
    (((answer.status ≡ success) × (answer.actual ≡ job.head.length) × OneTrigger job.head.seqnum s.log)
    ⊎ ((answer.status ≡ stalled) × (s.halted.bulk_out ≡ true) × NoTrigger job.head.seqnum s.log))
    × Bound (Stands Resting) None [] next ups downs s
