-- a host that keeps a submit to Interrupt-IN out while it does something else: an ask, a recovery, a remote or a trigger ticket (USB488 1.0,
-- section 3.4)
use Rattle.std.specs.Prelude.{◌≡◌, ◌≢◌, ℕ, ◌==◌, if◌then◌else◌, Option, Some, None, List, [], ◌∷◌, ◌++◌}
use Rattle.tmc_base.specs.declared.run_step.RunStep.{RunStep}
use Rattle.usb_setup.specs.declared.setup.Setup.{Setup}
use Rattle.usb_setup.specs.Setup.{setup_layout}
use Rattle.usbip_wire.specs.declared.submit.SubmitHead.{SubmitHead}
use Rattle.usbip_wire.specs.declared.unlink.UnlinkHead.{UnlinkHead}
use Rattle.usbip_wire.specs.declared.ret_submit.RetSubmitHead.{RetSubmitHead}
use Rattle.usbip_wire.specs.declared.dirs.Outstanding.{Outstanding}
use Rattle.usbip_wire.specs.Up as up
use Rattle.usbip_wire.specs.Down as down
use Rattle.tmc_wire.specs.declared.class_request.ClassRequest.TheVariants.{ReadStatus}
use Rattle.tmc_wire.specs.ControlTable.{IsRow}
use Rattle.tmc_law.specs.Endpoint.{Endpoint, Control, BulkOut, BulkIn, InterruptIn, number_of, ends}
use Rattle.tmc_law.specs.State.{State, Packet, ServicePacket, Presence, Plugged, Unplugged, Closed}
use Rattle.tmc_law.specs.Put.{Put, Submitted, Unlinked, success, stalled}
use Rattle.tmc_law.specs.Status.{packet_bytes}
use Rattle.tmc_law.specs.Laws.{message_of}
use Rattle.host_joint.specs.Unlinking.{AllUnlinks}
use Rattle.host_joint.specs.Hand.{Hand}
use Rattle.host_joint.specs.Tie.{asked_of, Tie}
use Rattle.host_joint.specs.Bond.{Bond, Bound, Situation}
use Rattle.host_joint.specs.Joint.{JointBy, entries_for, entries_of}
use Rattle.host_joint.specs.Races.{Ticket, TicketHolds, waits_of, unlinks_of}
use Rattle.host_joint.specs.StatusReads.{Brings, none_or_one, IsEarlier, IsOther, IsNotify}

-- ---- what is left without that submit

-- the messages on their way to the device without the submits to Interrupt-IN, and the answers on their way back without those to them
abbrev pub messages_beside : List up.Message → List up.Message
messages_beside [] = []
messages_beside (up.Submit head transferred ∷ ups) = if head.ep == number_of InterruptIn then messages_beside ups else up.Submit head transferred ∷ messages_beside ups
messages_beside (up.Unlink head ∷ ups) = up.Unlink head ∷ messages_beside ups

abbrev pub answers_beside : List Put → List Put
answers_beside [] = []
answers_beside (Submitted asked answer transferred ∷ downs) = if asked.ep == number_of InterruptIn then answers_beside downs else Submitted asked answer transferred ∷ answers_beside downs
answers_beside (Unlinked asked answer ∷ downs) = Unlinked asked answer ∷ answers_beside downs

-- without bytes that were refused
abbrev pub unclosed : Presence → Presence
unclosed (Closed f) = Plugged
unclosed Plugged = Plugged
unclosed Unplugged = Unplugged

-- the device with nothing pending at Interrupt-IN and these packets queued, which refused no bytes
abbrev pub device_beside : List Packet → State → State
device_beside packets s = record s { interrupt_in = []; packets = packets; presence = unclosed s.presence }

-- ---- what the host does meanwhile

pub data Doing : Type 0 where
  -- it has an ask or a tell in hand that nothing disturbs, or nothing; this submit is not answered
  HasAsk : (hand : Hand) (waits : Option SubmitHead) → Doing
  -- it is in a situation behind a cancel; this submit and these unlinks are not answered
  HasRecovery : (situation : Situation) (waits : Option SubmitHead) (unlinks : List UnlinkHead) → Doing
  -- it has a remote or a trigger ticket
  HasTicket : (ticket : Ticket) → Doing

-- what ties it to the device then
abbrev pub Does : Doing → (next : ℕ) → List up.Message → List Put → State → Type 0
Does (HasAsk hand waits) next ups downs s = Tie hand waits next ups downs s
Does (HasRecovery situation waits unlinks) next ups downs s = Bound situation waits unlinks next ups downs s
Does (HasTicket ticket) next ups downs s = TicketHolds ticket next ups downs s

-- the submit and the unlinks of it that are not answered
abbrev pub waits_for : Doing → Option SubmitHead
waits_for (HasAsk hand waits) = waits
waits_for (HasRecovery situation waits unlinks) = waits
waits_for (HasTicket ticket) = waits_of ticket

abbrev pub unlinks_for : Doing → List UnlinkHead
unlinks_for (HasAsk hand waits) = []
unlinks_for (HasRecovery situation waits unlinks) = unlinks
unlinks_for (HasTicket ticket) = unlinks_of ticket

-- what ties the two also where endpoints halt by themselves
abbrev pub MayHalt : Doing → Type 0
MayHalt (HasAsk hand waits) = ⊥
MayHalt (HasRecovery situation waits unlinks) = Unit {0}
MayHalt (HasTicket ticket) = Unit {0}

-- a message that a host writes for what it does: none to Interrupt-IN
abbrev pub IsElsewhere : up.Message → Type 0
IsElsewhere (up.Submit head transferred) = head.ep ≢ number_of InterruptIn
IsElsewhere (up.Unlink head) = Unit {0}

-- ---- the tie

-- the submits that are not answered: one of what it does, and one to Interrupt-IN
abbrev pub asked_beside : (waits notify : Option SubmitHead) → Endpoint → List SubmitHead
asked_beside waits notify Control = asked_of waits Control
asked_beside waits notify BulkOut = asked_of waits BulkOut
asked_beside waits notify BulkIn = asked_of waits BulkIn
asked_beside waits notify InterruptIn = none_or_one notify

-- it is no READ_STATUS_BYTE (USB488 1.0, section 4.3.1)
abbrev pub AsksNoStatus : SubmitHead → Type 0
AsksNoStatus head = head.ep ≡ number_of Control → (setup : Setup) (tag : ℕ) → head.setup ≡ setup_layout setup → IsRow ends (ReadStatus tag) setup → ⊥

-- what holds of a submit, where there is one
abbrev pub IfAny : (SubmitHead → Type 0) → Option SubmitHead → Type 0
IfAny P None = Unit {0}
IfAny P (Some head) = P head

-- an unlink names no submit to Interrupt-IN
abbrev pub NamesOther : Option SubmitHead → UnlinkHead → Type 0
NamesOther notify unlink = IfAny (λ head. head.seqnum ≢ unlink.target) notify

-- nothing of what the host does names the submit to Interrupt-IN, and it reads no status byte
pub record KeepsApart (doing : Doing) (notify : Option SubmitHead) : Type 0 where
  pub other : IfAny (λ head. IsOther notify head) (waits_for doing)
  pub unnamed : AllUnlinks (λ unlink. NamesOther notify unlink) (unlinks_for doing)
  pub no_status : IfAny (λ head. AsksNoStatus head) (waits_for doing)

-- Without the submit to Interrupt-IN the two are tied as that says, whichever packets are queued; and these packets with a status byte were not
-- read by the host.
pub record DoesBeside (doing : Doing) (older : List Packet) (next : ℕ) (ups : List up.Message) (downs : List Put) (s : State) : Type 0 where
  pub packets : List Packet
  pub tie : Does doing next (messages_beside ups) (answers_beside downs) (device_beside packets s)
  pub brings : Brings older downs s

-- A host that does this beside its submit to Interrupt-IN, if it keeps one out, and a lawful device.
pub record Beside (doing : Doing) (notify : Option SubmitHead) (older : List Packet) (next : ℕ) (ups : List up.Message) (downs : List Put) (s : State) : Type 0 where
  pub notices : IfAny (λ head. IsNotify head) notify
  pub earlier : IsEarlier notify next
  pub apart : KeepsApart doing notify
  pub bond : Bond (λ ups downs s. DoesBeside doing older next ups downs s) (asked_beside (waits_for doing) notify) (unlinks_for doing) next ups downs s

-- ---- what the host is given

-- The next answer is one of these, and this is left behind it.
pub data GivesBeside (doing : Doing) (notify : Option SubmitHead) (older : List Packet) (put : Put) (next : ℕ) (ups : List up.Message) (downs : List Put) (s : State) : Type 0 where
  -- on Interrupt-IN a packet asks for service
  ServiceBeside : (asked : SubmitHead) (answer : RetSubmitHead) (byte : ℕ) → notify ≡ Some asked → put ≡ Submitted asked answer (packet_bytes (ServicePacket byte)) → answer.status ≡ success
      → Beside doing None older next ups downs s → GivesBeside doing notify older put next ups downs s
  -- there comes a packet of an earlier status read
  OlderBeside : (asked : SubmitHead) (answer : RetSubmitHead) (packet : Packet) (others : List Packet) → notify ≡ Some asked → put ≡ Submitted asked answer (packet_bytes packet) → answer.status ≡ success
      → older ≡ packet ∷ others → Beside doing None others next ups downs s → GivesBeside doing notify older put next ups downs s
  -- Interrupt-IN is halted
  HaltBeside : (asked : SubmitHead) (answer : RetSubmitHead) (transferred : List ℕ) → notify ≡ Some asked → put ≡ Submitted asked answer transferred → answer.status ≡ stalled
      → Beside doing None older next ups downs s → GivesBeside doing notify older put next ups downs s
  -- It is the first one of what the host does, as without the submit to Interrupt-IN; and whatever it does behind that, it does beside that
  -- submit.
  DoesAsIt : (packets : List Packet) → Does doing next (messages_beside ups) (put ∷ answers_beside downs) (device_beside packets s)
      → ((after : Doing) → Does after next (messages_beside ups) (answers_beside downs) (device_beside packets s) → KeepsApart after notify → Beside after notify older next ups downs s)
      → GivesBeside doing notify older put next ups downs s

-- ---- over a link

-- the submits and unlinks that are not answered, as a reader of answers knows them
abbrev pub entries_beside : Doing → (notify : Option SubmitHead) → List Outstanding
entries_beside doing notify = entries_of (waits_for doing) (unlinks_for doing) ++ entries_for notify

-- of a submit, one to Interrupt-IN and unlinks, no two have one number
pub record AreAllApart (waits notify : Option SubmitHead) (unlinks : List UnlinkHead) : Type 0 where
  pub waits_apart : IfAny (λ head. AllUnlinks (λ unlink. head.seqnum ≢ unlink.seqnum) unlinks) waits
  pub notify_apart : IfAny (λ head. AllUnlinks (λ unlink. head.seqnum ≢ unlink.seqnum) unlinks) notify

abbrev pub JoinedBeside : Doing → (notify : Option SubmitHead) → (older : List Packet) → (next devid : ℕ) → (written read : List ℕ) → List RunStep → State → Type 0
JoinedBeside doing notify older next devid written read steps s = JointBy (λ ups downs t. Beside doing notify older next ups downs t) devid written read steps s

-- the next message, from these bytes, is the first answer on its way
pub record IsNextBeside (doing : Doing) (notify : Option SubmitHead) (older : List Packet) (next devid : ℕ) (message : down.Message) (written read this : List ℕ) (steps : List RunStep) (s : State) : Type 0 where
  pub put : Put
  pub ups : List up.Message
  pub downs : List Put
  pub is : message_of put ≡ message
  pub given : GivesBeside doing notify older put next ups downs s
  pub later : (after : Doing) (left : Option SubmitHead) (others : List Packet) → Beside after left others next ups downs s → JoinedBeside after left others next devid written (read ++ this) steps s
