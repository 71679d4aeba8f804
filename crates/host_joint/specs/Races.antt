-- a remote or a trigger ticket whose one submit is unlinked: the submit's answer and the unlink race (Linux kernel documentation, "USB/IP protocol")
use Rattle.std.specs.Prelude.{◌≡◌, ℕ, Bool, true, false, Some, None, List, [], ◌∷◌, ◌++◌, Option}
use Rattle.usbip_wire.specs.declared.submit.SubmitHead.{SubmitHead}
use Rattle.usbip_wire.specs.declared.unlink.UnlinkHead.{UnlinkHead}
use Rattle.tmc_base.specs.declared.run_step.RunStep.{RunStep}
use Rattle.usbip_wire.specs.Up as up
use Rattle.usbip_wire.specs.Down as down
use Rattle.instr_plain.specs.declared.log.LogEntry.{LogEntry}
use Rattle.instr_plain.specs.declared.remote.RemoteAct.{RemoteAct}
use Rattle.tmc_law.specs.Endpoint.{Control, BulkOut}
use Rattle.tmc_law.specs.State.{State}
use Rattle.tmc_law.specs.Put.{Put, unlink_answer, success, unlinked}
use Rattle.tmc_law.specs.Halts.{unplug_answers}
use Rattle.tmc_law.specs.Laws.{message_of}
use Rattle.tmc_law.specs.Step.{Unplug, Steps}
use Rattle.host_joint.specs.Lines.{sent_to, events_of}
use Rattle.host_joint.specs.Jobs.{Job}
use Rattle.host_joint.specs.Positions.{IsAt, rests}
use Rattle.host_joint.specs.Requests.{IsClass}
use Rattle.host_joint.specs.Tie.{asked_of}
use Rattle.host_joint.specs.Bond.{Bond, Stands, Resting}
use Rattle.host_joint.specs.Joint.{JointBy}
use Rattle.host_joint.specs.Remotes.{request_of, NoneSince, OneSince, ActAt, Operating}
use Rattle.host_joint.specs.Triggers.{IsTrigger, NoTrigger, OneTrigger, TriggerAt, Triggering}
use Rattle.host_joint.specs.Unplugged.{Until, BoundUntil, JoinedUntil, TellsUnplugged}

-- ---- any ticket of one submit

-- Where the unlink is of a submit that is not answered to the host: `Held` is what holds of the two without it, and `Gone` what holds of the
-- device where the submit is over and had no effect.
pub data Races (Held : List up.Message → List Put → State → Type 0) (Gone : State → Type 0) (unlink : UnlinkHead) (ups : List up.Message) (downs : List Put) (s : State) : Type 0 where
  -- it is on its way, the last of the messages
  UnlinkComes : (front : List up.Message) → ups ≡ front ++ up.Unlink unlink ∷ [] → Held front downs s → Races Held Gone unlink ups downs s
  -- it hit, which its answer says, with status -104
  UnlinkHit : ups ≡ [] → downs ≡ unlink_answer unlink unlinked ∷ [] → Gone s → Races Held Gone unlink ups downs s
  -- the submit was answered before, and it missed, which its answer says, with status 0
  UnlinkMissed : (answer : Put) → ups ≡ [] → downs ≡ answer ∷ unlink_answer unlink success ∷ [] → Held [] (answer ∷ []) s → Races Held Gone unlink ups downs s

-- Where it is once the answer to the submit was taken, which left the device so.
pub data Late (Over : State → Type 0) (unlink : UnlinkHead) (ups : List up.Message) (downs : List Put) (s : State) : Type 0 where
  LateComes : ups ≡ up.Unlink unlink ∷ [] → downs ≡ [] → Over s → Late Over unlink ups downs s
  LateMissed : ups ≡ [] → downs ≡ unlink_answer unlink success ∷ [] → Over s → Late Over unlink ups downs s

-- ---- a remote ticket

-- its request was unlinked before it had an effect, or was answered
pub record ActGone (since : List LogEntry) (s : State) : Type 0 where
  pub control : s.control ≡ []
  pub rest : IsAt rests s
  pub nothing : NoneSince since s.log

pub record ActOver (act : RemoteAct) (since : List LogEntry) (s : State) : Type 0 where
  pub control : s.control ≡ []
  pub rest : IsAt rests s
  pub logged : OneSince act since s.log

-- a host whose request is not answered, nor its unlink; the log was this when the request was written
pub record CancelledAct (act : RemoteAct) (since : List LogEntry) (head : SubmitHead) (unlink : UnlinkHead) (next : ℕ) (ups : List up.Message) (downs : List Put) (s : State) : Type 0 where
  pub asks : IsClass head (request_of act)
  pub names : unlink.target ≡ head.seqnum
  pub bond : Bond (λ ups downs s. Races (λ ups downs s. ActAt act since head (sent_to Control ups) (events_of Control downs) s) (λ s. ActGone since s) unlink ups downs s)
      (asked_of (Some head)) (unlink ∷ []) next ups downs s

-- one whose request was answered, and its unlink is not
abbrev pub LateAct : RemoteAct → (since : List LogEntry) → UnlinkHead → (next : ℕ) → List up.Message → List Put → State → Type 0
LateAct act since unlink next ups downs s = Bond (λ ups downs s. Late (λ s. ActOver act since s) unlink ups downs s) (asked_of None) (unlink ∷ []) next ups downs s

-- ---- a trigger ticket

-- the trigger of this number was counted, or was not
abbrev pub IsCounted : Bool → (n : ℕ) → List LogEntry → Type 0
IsCounted true n log = OneTrigger n log
IsCounted false n log = NoTrigger n log

pub record TriggerOver (counted : Bool) (n : ℕ) (s : State) : Type 0 where
  pub rest : IsAt rests s
  pub logged : IsCounted counted n s.log

pub record CancelledTrigger (job : Job) (unlink : UnlinkHead) (next : ℕ) (ups : List up.Message) (downs : List Put) (s : State) : Type 0 where
  pub trigger : IsTrigger job
  pub names : unlink.target ≡ job.head.seqnum
  pub bond : Bond (λ ups downs s. Races (λ ups downs s. TriggerAt job (sent_to BulkOut ups) (events_of BulkOut downs) s) (λ s. TriggerOver false job.head.seqnum s) unlink ups downs s)
      (asked_of (Some job.head)) (unlink ∷ []) next ups downs s

abbrev pub LateTrigger : (counted : Bool) (n : ℕ) → UnlinkHead → (next : ℕ) → List up.Message → List Put → State → Type 0
LateTrigger counted n unlink next ups downs s = Bond (λ ups downs s. Late (λ s. TriggerOver counted n s) unlink ups downs s) (asked_of None) (unlink ∷ []) next ups downs s

-- ---- all of them

-- a ticket of one submit, as its host waits
pub data Ticket : Type 0 where
  -- the request of a remote ticket is not answered; nor is its unlink; that alone is not
  Acts : (act : RemoteAct) (since : List LogEntry) (head : SubmitHead) → Ticket
  ActRaces : (act : RemoteAct) (since : List LogEntry) (head : SubmitHead) (unlink : UnlinkHead) → Ticket
  ActIsLate : (act : RemoteAct) (since : List LogEntry) (unlink : UnlinkHead) → Ticket
  -- the same of the transfer of a trigger
  Triggers : (job : Job) → Ticket
  TriggerRaces : (job : Job) (unlink : UnlinkHead) → Ticket
  TriggerIsLate : (counted : Bool) (n : ℕ) (unlink : UnlinkHead) → Ticket

abbrev pub TicketHolds : Ticket → (next : ℕ) → List up.Message → List Put → State → Type 0
TicketHolds (Acts act since head) next ups downs s = Operating act since head next ups downs s
TicketHolds (ActRaces act since head unlink) next ups downs s = CancelledAct act since head unlink next ups downs s
TicketHolds (ActIsLate act since unlink) next ups downs s = LateAct act since unlink next ups downs s
TicketHolds (Triggers job) next ups downs s = Triggering job next ups downs s
TicketHolds (TriggerRaces job unlink) next ups downs s = CancelledTrigger job unlink next ups downs s
TicketHolds (TriggerIsLate counted n unlink) next ups downs s = LateTrigger counted n unlink next ups downs s

-- the submit and the unlink that are not answered then
abbrev pub waits_of : Ticket → Option SubmitHead
waits_of (Acts act since head) = Some head
waits_of (ActRaces act since head unlink) = Some head
waits_of (ActIsLate act since unlink) = None
waits_of (Triggers job) = Some job.head
waits_of (TriggerRaces job unlink) = Some job.head
waits_of (TriggerIsLate counted n unlink) = None

abbrev pub unlinks_of : Ticket → List UnlinkHead
unlinks_of (Acts act since head) = []
unlinks_of (ActRaces act since head unlink) = unlink ∷ []
unlinks_of (ActIsLate act since unlink) = unlink ∷ []
unlinks_of (Triggers job) = []
unlinks_of (TriggerRaces job unlink) = unlink ∷ []
unlinks_of (TriggerIsLate counted n unlink) = unlink ∷ []

-- ---- until the device is unplugged

-- The first answer on its way to a host that such a tie holds, or held until then: it can be used for that answer, in the state where it holds; or the
-- answer tells of the unplugging.
pub data NextHeld (Ties : List up.Message → List Put → State → Type 0) (waits : Option SubmitHead) (put : Put) (ups : List up.Message) (downs : List Put) (t : State) : Type 0 where
  -- the device is plugged
  HeldPlugged : Ties ups (put ∷ downs) t → NextHeld Ties waits put ups downs t
  -- the answer was on its way when the device was unplugged
  HeldBefore : (before : State) (front : List Put) → Ties ups (put ∷ front) before → Steps before Unplug (unplug_answers before) t → downs ≡ front ++ unplug_answers before
      → NextHeld Ties waits put ups downs t
  -- it tells of the unplugging
  HeldBehind : (before : State) → Ties ups [] before → Steps before Unplug (unplug_answers before) t → TellsUnplugged waits put downs → NextHeld Ties waits put ups downs t

-- ---- over a link that tells its bytes and the steps of its peer

-- a ticket that is held until the device is unplugged, at the two ends of a link
abbrev pub TicketJoined : Ticket → (next devid : ℕ) → (written read : List ℕ) → List RunStep → State → Type 0
TicketJoined ticket next devid written read steps s = JointBy (λ ups downs t. Until (λ ups downs t. TicketHolds ticket next ups downs t) ups downs t) devid written read steps s

-- what its host reads next, from these bytes, is the first answer that is on its way
pub record IsNextOfTicket (ticket : Ticket) (next devid : ℕ) (message : down.Message) (written read this : List ℕ) (steps : List RunStep) (s : State) : Type 0 where
  pub put : Put
  pub ups : List up.Message
  pub downs : List Put
  pub is : message_of put ≡ message
  pub given : NextHeld (λ ups downs t. TicketHolds ticket next ups downs t) (waits_of ticket) put ups downs s
  -- behind it the host is joined with another ticket, or stands at rest
  pub later : (after : Ticket) → Until (λ ups downs t. TicketHolds after next ups downs t) ups downs s → TicketJoined after next devid written (read ++ this) steps s
  pub rests : BoundUntil (Stands Resting) None [] next ups downs s → JoinedUntil devid (Stands Resting) None [] next written (read ++ this) steps s
