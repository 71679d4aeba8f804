-- a status read: READ_STATUS_BYTE, and the packet on Interrupt-IN in which the status byte comes (USB488 1.0, sections 3.4 and 4.3.1)
use Rattle.std.specs.Prelude.{◌≡◌, ◌≢◌, ◌⊎◌, ℕ, ◌==◌, ◌<◌, ◌≤◌, Bool, true, false, if◌then◌else◌, ℤ, pos, negsuc, Option, Some, None, List, [], ◌∷◌, ◌++◌}
use Rattle.usbip_wire.specs.declared.submit.SubmitHead.{SubmitHead}
use Rattle.usbip_wire.specs.declared.unlink.UnlinkHead.{UnlinkHead}
use Rattle.usbip_wire.specs.declared.ret_submit.RetSubmitHead.{RetSubmitHead}
use Rattle.usbip_wire.specs.declared.ret_unlink.RetUnlinkHead.{RetUnlinkHead}
use Rattle.usbip_wire.specs.declared.urb.Dir.TheVariants.{In}
use Rattle.tmc_base.specs.declared.run_step.RunStep.{RunStep}
use Rattle.usbip_wire.specs.declared.dirs.Outstanding.{Outstanding}
use Rattle.usbip_wire.specs.Up as up
use Rattle.usbip_wire.specs.Down as down
use Rattle.tmc_wire.specs.declared.class_request.ClassRequest.TheVariants.{ReadStatus}
use Rattle.tmc_wire.specs.ClassStatus.{STATUS_SUCCESS, STATUS_INTERRUPT_IN_BUSY}
use Rattle.instr_plain.specs.declared.log.LogEntry.{LogEntry}
use Rattle.instr_plain.specs.declared.log.LogEntry.TheVariants.{Poll}
use Rattle.instr_plain.specs.Standing.{Standing, polled_byte}
use Rattle.instr_plain.specs.Log as log
use Rattle.tmc_law.specs.Endpoint.{Endpoint, Control, BulkOut, BulkIn, InterruptIn, number_of}
use Rattle.tmc_law.specs.State.{State, Pending, Packet, StatusPacket, ServicePacket, arrived}
use Rattle.tmc_law.specs.Put.{Put, Submitted, Unlinked, unlink_answer, success, stalled, unlinked}
use Rattle.tmc_law.specs.Status.{IsStatusTag, status_layout, packet_bytes}
use Rattle.tmc_law.specs.AnswerFits.{AllAnswers}
use Rattle.tmc_law.specs.Laws.{message_of}
use Rattle.host_joint.specs.Lines.{Sent, sent_to, Event, Gives, Drops, events_of}
use Rattle.host_joint.specs.Positions.{IsAt, rests}
use Rattle.host_joint.specs.Requests.{IsClass}
use Rattle.host_joint.specs.Bond.{Bond}
use Rattle.host_joint.specs.Joint.{JointBy, entries_for}

-- ---- the packets on their way to a host

-- an answer with this status brings a packet
abbrev pub is_good : ℤ → Bool
is_good (pos n) = n == 0
is_good (negsuc n) = false

-- the bytes of the packets in these answers
abbrev pub packets_in : List Event → List (List ℕ)
packets_in [] = []
packets_in (Gives head answer transferred ∷ events) = if is_good answer.status then transferred ∷ packets_in events else packets_in events
packets_in (Drops n ∷ events) = packets_in events

abbrev pub bytes_of : List Packet → List (List ℕ)
bytes_of [] = []
bytes_of (packet ∷ packets) = packet_bytes packet ∷ bytes_of packets

-- of packets, those with a status byte; the others ask for service
abbrev pub statuses : List Packet → List Packet
statuses [] = []
statuses (StatusPacket tag byte ∷ packets) = StatusPacket tag byte ∷ statuses packets
statuses (ServicePacket byte ∷ packets) = statuses packets

-- an answer to a submit says that it succeeded, or that its endpoint is halted
abbrev pub IsUsual : Put → Type 0
IsUsual (Submitted asked answer transferred) = (answer.status ≡ success) ⊎ (answer.status ≡ stalled)
IsUsual (Unlinked asked answer) = Unit {0}

-- Of the packets that no host has read, some are in answers on their way to it and the others are queued behind them. These are the
-- ones with a status byte, in their order.
pub record Brings (status_packets : List Packet) (downs : List Put) (s : State) : Type 0 where
  pub sent : List Packet
  pub carried : packets_in (events_of InterruptIn downs) ≡ bytes_of sent
  pub queued : statuses (sent ++ s.packets) ≡ status_packets
  pub usual : AllAnswers IsUsual downs

-- ---- the log

-- no status byte was read in these entries
abbrev pub NoPoll : List LogEntry → Type 0
NoPoll [] = Unit {0}
NoPoll (Poll seq ∷ entries) = ⊥
NoPoll (_ ∷ entries) = NoPoll entries

-- since the log was this, the status byte was not read
pub record NonePolled (since now : List LogEntry) : Type 0 where
  pub more : List LogEntry
  pub whole : now ≡ since ++ more
  pub none : NoPoll more

-- since the log was this, the status byte was read exactly once, for the submit of this number; and it was the one of the instrument
-- as it stood there
pub record OnePolled (n byte : ℕ) (since now : List LogEntry) : Type 0 where
  pub before : List LogEntry
  pub behind : List LogEntry
  pub whole : now ≡ since ++ (before ++ Poll n ∷ behind)
  pub none_before : NoPoll before
  pub none_behind : NoPoll behind
  pub standing : Standing
  pub stands : log.Stands (since ++ before) standing
  pub was_read : byte ≡ polled_byte standing

-- ---- where a status read is

-- a status read whose request was written
pub record StatusRead : Type 0 where
  -- the submit of READ_STATUS_BYTE, and its tag
  pub head : SubmitHead
  pub tag : ℕ
  -- what the log was when it was written, and the packets of earlier status reads that no host had read then
  pub since : List LogEntry
  pub left : List Packet

-- Where its request is; `waits` says whether the host has not taken the answer, and `polled` whether the status byte was read for it.
pub data StatusAt (read : StatusRead) (waits polled : Bool) (coming : List Sent) (events : List Event) (control : List Pending) : Type 0 where
  -- it is on its way, or pending
  StatusComes : waits ≡ true → polled ≡ false → coming ≡ record { head = read.head; transferred = [] } ∷ [] → events ≡ [] → control ≡ [] → StatusAt read waits polled coming events control
  StatusPends : waits ≡ true → polled ≡ false → coming ≡ [] → events ≡ [] → control ≡ arrived read.head [] ∷ [] → StatusAt read waits polled coming events control
  -- it is pending, and the status byte was read
  StatusPolled : waits ≡ true → polled ≡ true → coming ≡ [] → events ≡ [] → control ≡ record (arrived read.head []) { polled = true } ∷ [] → StatusAt read waits polled coming events control
  -- it is answered with SUCCESS, and the status byte was read
  StatusSaid : waits ≡ true → polled ≡ true → coming ≡ []
      → events ≡ Gives read.head (record { seqnum = read.head.seqnum; status = success; actual = 3 }) (status_layout STATUS_SUCCESS read.tag) ∷ [] → control ≡ []
      → StatusAt read waits polled coming events control
  -- it is answered with INTERRUPT_IN_BUSY, and the status byte was not read: a packet of an earlier status read was queued
  StatusBusy : waits ≡ true → polled ≡ false → coming ≡ []
      → events ≡ Gives read.head (record { seqnum = read.head.seqnum; status = success; actual = 3 }) (status_layout STATUS_INTERRUPT_IN_BUSY read.tag) ∷ [] → control ≡ []
      → read.left ≢ [] → StatusAt read waits polled coming events control
  -- the host has its answer, which is SUCCESS
  StatusOver : waits ≡ false → polled ≡ true → coming ≡ [] → events ≡ [] → control ≡ [] → StatusAt read waits polled coming events control

-- Where its status byte is; `older` are the packets of earlier status reads that are still not read, and `got` is the byte that the host has.
pub data ByteAt (read : StatusRead) (older : List Packet) (got : Option ℕ) (polled : Bool) (status_packets : List Packet) (now : List LogEntry) : Type 0 where
  -- it was not read, and no packet has the tag of this request but as an older one
  ByteUnread : polled ≡ false → got ≡ None → status_packets ≡ older → NonePolled read.since now → ByteAt read older got polled status_packets now
  -- it was read for this request, and exactly one packet brings it, with the tag of this request and behind the older ones
  ByteComes : (byte : ℕ) → polled ≡ true → got ≡ None → status_packets ≡ older ++ StatusPacket read.tag byte ∷ [] → OnePolled read.head.seqnum byte read.since now
      → ByteAt read older got polled status_packets now
  -- the host has it, and no packet with a status byte is left
  ByteCame : (byte : ℕ) → polled ≡ true → got ≡ Some byte → older ≡ [] → status_packets ≡ [] → OnePolled read.head.seqnum byte read.since now
      → ByteAt read older got polled status_packets now

-- the device is at rest, though a message of an earlier ticket may wait, and the two sides of the read fit
pub record StatusHeld (read : StatusRead) (waits : Bool) (got : Option ℕ) (older : List Packet) (ups : List up.Message) (downs : List Put) (s : State) : Type 0 where
  pub rest : IsAt rests s
  pub polled : Bool
  pub request : StatusAt read waits polled (sent_to Control ups) (events_of Control downs) s.control
  pub status_packets : List Packet
  pub brings : Brings status_packets downs s
  pub byte : ByteAt read older got polled status_packets s.log
  pub fewer : read.left ≡ [] → older ≡ []

-- no status read is under way, and these packets of earlier ones were not read by the host
pub record QuietHeld (older : List Packet) (ups : List up.Message) (downs : List Put) (s : State) : Type 0 where
  pub rest : IsAt rests s
  pub brings : Brings older downs s

-- ---- the tie

-- the submits that are not answered: at most one request, and at most one to Interrupt-IN
abbrev pub none_or_one : Option SubmitHead → List SubmitHead
none_or_one None = []
none_or_one (Some head) = head ∷ []

abbrev pub asked_by : (request notify : Option SubmitHead) → Endpoint → List SubmitHead
asked_by request notify Control = none_or_one request
asked_by request notify BulkOut = []
asked_by request notify BulkIn = []
asked_by request notify InterruptIn = none_or_one notify

-- the request, while its answer was not taken
abbrev pub while : Bool → SubmitHead → Option SubmitHead
while true head = Some head
while false head = None

-- a submit to Interrupt-IN with room for a packet
pub record IsNotify (head : SubmitHead) : Type 0 where
  pub number : head.ep ≡ number_of InterruptIn
  pub way : head.dir ≡ In
  pub room : 2 ≤ head.length

-- its number is below this one; and it is not that of this submit
abbrev pub IsEarlier : Option SubmitHead → (next : ℕ) → Type 0
IsEarlier None next = Unit {0}
IsEarlier (Some head) next = head.seqnum < next

abbrev pub IsOther : Option SubmitHead → SubmitHead → Type 0
IsOther None head = Unit {0}
IsOther (Some notify) head = notify.seqnum ≢ head.seqnum

-- A host that is in no status read, with at most one submit to Interrupt-IN that is not answered, and a lawful device at rest.
pub record Quiet (notify : Option SubmitHead) (older : List Packet) (next : ℕ) (ups : List up.Message) (downs : List Put) (s : State) : Type 0 where
  pub earlier : IsEarlier notify next
  pub bond : Bond (λ ups downs s. QuietHeld older ups downs s) (asked_by None notify) [] next ups downs s

-- A host in a status read, and a lawful device.
pub record ReadsStatus (read : StatusRead) (waits : Bool) (notify : Option SubmitHead) (got : Option ℕ) (older : List Packet) (next : ℕ) (ups : List up.Message) (downs : List Put) (s : State) : Type 0 where
  pub asks : IsClass read.head (ReadStatus read.tag)
  pub tagged : IsStatusTag read.tag
  pub before : read.head.seqnum < next
  pub earlier : IsEarlier notify next
  pub other : IsOther notify read.head
  pub bond : Bond (λ ups downs s. StatusHeld read waits got older ups downs s) (asked_by (while waits read.head) notify) [] next ups downs s

-- ---- what a host is given

-- the next answer is one of these, and this is left behind it
pub data GivesStatus (read : StatusRead) (waits : Bool) (notify : Option SubmitHead) (got : Option ℕ) (older : List Packet) (asked : SubmitHead) (answer : RetSubmitHead) (transferred : List ℕ) (next : ℕ) (ups : List up.Message) (downs : List Put) (s : State) : Type 0 where
  -- the request is answered with SUCCESS: the status byte was read
  SaysSuccess : waits ≡ true → asked ≡ read.head → answer ≡ record { seqnum = read.head.seqnum; status = success; actual = 3 } → transferred ≡ status_layout STATUS_SUCCESS read.tag
      → ReadsStatus read false notify got older next ups downs s → GivesStatus read waits notify got older asked answer transferred next ups downs s
  -- it is answered with INTERRUPT_IN_BUSY: the status byte was not read, and packets of earlier status reads were there when it was written
  SaysBusy : waits ≡ true → asked ≡ read.head → answer ≡ record { seqnum = read.head.seqnum; status = success; actual = 3 } → transferred ≡ status_layout STATUS_INTERRUPT_IN_BUSY read.tag
      → read.left ≢ [] → NonePolled read.since s.log → Quiet notify older next ups downs s → GivesStatus read waits notify got older asked answer transferred next ups downs s
  -- a packet asks for service
  BringsService : (byte : ℕ) → notify ≡ Some asked → answer.status ≡ success → transferred ≡ packet_bytes (ServicePacket byte)
      → ReadsStatus read waits None got older next ups downs s → GivesStatus read waits notify got older asked answer transferred next ups downs s
  -- a packet of an earlier status read comes
  BringsOlder : (packet : Packet) (others : List Packet) → notify ≡ Some asked → answer.status ≡ success → older ≡ packet ∷ others → transferred ≡ packet_bytes packet
      → ReadsStatus read waits None got others next ups downs s → GivesStatus read waits notify got older asked answer transferred next ups downs s
  -- the packet of this request comes: its byte is the one that was read for it
  BringsByte : (byte : ℕ) → notify ≡ Some asked → answer.status ≡ success → older ≡ [] → got ≡ None → transferred ≡ packet_bytes (StatusPacket read.tag byte)
      → OnePolled read.head.seqnum byte read.since s.log → ReadsStatus read waits None (Some byte) [] next ups downs s
      → GivesStatus read waits notify got older asked answer transferred next ups downs s
  -- Interrupt-IN is halted, and the packets wait
  BringsHalt : notify ≡ Some asked → answer.status ≡ stalled → ReadsStatus read waits None got older next ups downs s
      → GivesStatus read waits notify got older asked answer transferred next ups downs s

-- the next answer to a host that is in no status read
pub data GivesQuiet (notify : Option SubmitHead) (older : List Packet) (asked : SubmitHead) (answer : RetSubmitHead) (transferred : List ℕ) (next : ℕ) (ups : List up.Message) (downs : List Put) (s : State) : Type 0 where
  QuietService : (byte : ℕ) → notify ≡ Some asked → answer.status ≡ success → transferred ≡ packet_bytes (ServicePacket byte) → Quiet None older next ups downs s
      → GivesQuiet notify older asked answer transferred next ups downs s
  QuietOlder : (packet : Packet) (others : List Packet) → notify ≡ Some asked → answer.status ≡ success → older ≡ packet ∷ others → transferred ≡ packet_bytes packet → Quiet None others next ups downs s
      → GivesQuiet notify older asked answer transferred next ups downs s
  QuietHalt : notify ≡ Some asked → answer.status ≡ stalled → Quiet None older next ups downs s → GivesQuiet notify older asked answer transferred next ups downs s

-- no packet of these has this tag
abbrev pub NoneTagged : (tag : ℕ) → List Packet → Type 0
NoneTagged tag [] = Unit {0}
NoneTagged tag (StatusPacket other byte ∷ packets) = (other ≢ tag) × NoneTagged tag packets
NoneTagged tag (ServicePacket byte ∷ packets) = NoneTagged tag packets

-- ---- over a link

-- the submits that are not answered, as a reader of answers knows them
abbrev pub entries_by : (request notify : Option SubmitHead) → List Outstanding
entries_by request notify = entries_for request ++ entries_for notify

-- The next message, from these bytes, is the first answer on its way, and the two are tied with it. Whatever the host has of the read then, it is
-- joined to the device as it is tied behind that answer.
pub record IsNextOfRead (read : StatusRead) (waits : Bool) (notify : Option SubmitHead) (got : Option ℕ) (older : List Packet) (next devid : ℕ) (message : down.Message) (written given this : List ℕ) (steps : List RunStep) (s : State) : Type 0 where
  pub put : Put
  pub ups : List up.Message
  pub downs : List Put
  pub is : message_of put ≡ message
  pub tie : ReadsStatus read waits notify got older next ups (put ∷ downs) s
  pub later : (still : Bool) (other : Option SubmitHead) (has : Option ℕ) (left : List Packet) → ReadsStatus read still other has left next ups downs s
      → JointBy (λ ups downs t. ReadsStatus read still other has left next ups downs t) devid written (given ++ this) steps s
  pub quiet : (other : Option SubmitHead) (left : List Packet) → Quiet other left next ups downs s
      → JointBy (λ ups downs t. Quiet other left next ups downs t) devid written (given ++ this) steps s

-- ---- a status read whose request is unlinked

-- Where the unlink of a request is; the answer to it stands among the others: `Held` is what holds without it, and `Gone` what does where it hit.
pub data UnlinkAt (Held Gone : List up.Message → List Put → State → Type 0) (unlink : UnlinkHead) (ups : List up.Message) (downs : List Put) (s : State) : Type 0 where
  -- it is on its way, the last of the messages
  UnlinkOnItsWay : (front : List up.Message) → ups ≡ front ++ up.Unlink unlink ∷ [] → Held front downs s → UnlinkAt Held Gone unlink ups downs s
  -- it hit, which its answer says, with status -104
  UnlinkDidHit : (before behind : List Put) → downs ≡ before ++ unlink_answer unlink unlinked ∷ behind → Gone ups (before ++ behind) s → UnlinkAt Held Gone unlink ups downs s
  -- the request was answered before, and it missed, which its answer says, with status 0
  UnlinkDidMiss : (before behind : List Put) → downs ≡ before ++ unlink_answer unlink success ∷ behind → Held ups (before ++ behind) s → UnlinkAt Held Gone unlink ups downs s

-- nothing of a request is on its way, pending or answered on the way back
pub record FreeHeld (older : List Packet) (ups : List up.Message) (downs : List Put) (s : State) : Type 0 where
  pub sent : sent_to Control ups ≡ []
  pub queue : s.control ≡ []
  pub events : events_of Control downs ≡ []
  pub quiet : QuietHeld older ups downs s

-- the request was unlinked before the status byte was read for it
pub record GoneRead (read : StatusRead) (waits : Bool) (got : Option ℕ) (older : List Packet) (ups : List up.Message) (downs : List Put) (s : State) : Type 0 where
  pub waited : waits ≡ true
  pub nothing : got ≡ None
  pub unread : NonePolled read.since s.log
  pub free : FreeHeld older ups downs s

-- a host in a status read whose request it unlinked, while that was not answered to it
pub record CancelledRead (read : StatusRead) (unlink : UnlinkHead) (waits : Bool) (notify : Option SubmitHead) (got : Option ℕ) (older : List Packet) (next : ℕ) (ups : List up.Message) (downs : List Put) (s : State) : Type 0 where
  pub asks : IsClass read.head (ReadStatus read.tag)
  pub tagged : IsStatusTag read.tag
  pub before : read.head.seqnum < next
  pub earlier : IsEarlier notify next
  pub other : IsOther notify read.head
  pub names : unlink.target ≡ read.head.seqnum
  pub bond : Bond (λ ups downs s. UnlinkAt (λ ups downs s. StatusHeld read waits got older ups downs s) (λ ups downs s. GoneRead read waits got older ups downs s) unlink ups downs s)
      (asked_by (while waits read.head) notify) (unlink ∷ []) next ups downs s

-- one whose request was answered with INTERRUPT_IN_BUSY all the same, while the unlink is not
pub record LateRead (unlink : UnlinkHead) (notify : Option SubmitHead) (older : List Packet) (next : ℕ) (ups : List up.Message) (downs : List Put) (s : State) : Type 0 where
  pub earlier : IsEarlier notify next
  pub target : ℕ
  pub names : unlink.target ≡ target
  pub other : (head : SubmitHead) → notify ≡ Some head → head.seqnum ≢ target
  pub bond : Bond (λ ups downs s. UnlinkAt (λ ups downs s. FreeHeld older ups downs s) (λ ups downs s. ⊥) unlink ups downs s) (asked_by None notify) (unlink ∷ []) next ups downs s

-- the answer to a submit that comes next, and what is left behind it
pub data GivesCancelled (read : StatusRead) (unlink : UnlinkHead) (waits : Bool) (notify : Option SubmitHead) (got : Option ℕ) (older : List Packet) (asked : SubmitHead) (answer : RetSubmitHead) (transferred : List ℕ) (next : ℕ) (ups : List up.Message) (downs : List Put) (s : State) : Type 0 where
  -- the request is answered with SUCCESS, as without the unlink, which missed
  CancelSuccess : waits ≡ true → asked ≡ read.head → answer ≡ record { seqnum = read.head.seqnum; status = success; actual = 3 } → transferred ≡ status_layout STATUS_SUCCESS read.tag
      → CancelledRead read unlink false notify got older next ups downs s → GivesCancelled read unlink waits notify got older asked answer transferred next ups downs s
  -- so it is with INTERRUPT_IN_BUSY
  CancelBusy : waits ≡ true → asked ≡ read.head → answer ≡ record { seqnum = read.head.seqnum; status = success; actual = 3 } → transferred ≡ status_layout STATUS_INTERRUPT_IN_BUSY read.tag
      → read.left ≢ [] → NonePolled read.since s.log → LateRead unlink notify older next ups downs s → GivesCancelled read unlink waits notify got older asked answer transferred next ups downs s
  -- a packet comes, or Interrupt-IN is halted
  CancelService : (byte : ℕ) → notify ≡ Some asked → answer.status ≡ success → transferred ≡ packet_bytes (ServicePacket byte)
      → CancelledRead read unlink waits None got older next ups downs s → GivesCancelled read unlink waits notify got older asked answer transferred next ups downs s
  CancelOlder : (packet : Packet) (others : List Packet) → notify ≡ Some asked → answer.status ≡ success → older ≡ packet ∷ others → transferred ≡ packet_bytes packet
      → CancelledRead read unlink waits None got others next ups downs s → GivesCancelled read unlink waits notify got older asked answer transferred next ups downs s
  CancelByte : (byte : ℕ) → notify ≡ Some asked → answer.status ≡ success → older ≡ [] → got ≡ None → transferred ≡ packet_bytes (StatusPacket read.tag byte)
      → OnePolled read.head.seqnum byte read.since s.log → CancelledRead read unlink waits None (Some byte) [] next ups downs s
      → GivesCancelled read unlink waits notify got older asked answer transferred next ups downs s
  CancelHalt : notify ≡ Some asked → answer.status ≡ stalled → CancelledRead read unlink waits None got older next ups downs s
      → GivesCancelled read unlink waits notify got older asked answer transferred next ups downs s

-- the answer to a submit to Interrupt-IN that comes next behind INTERRUPT_IN_BUSY, while the unlink is not answered
pub data GivesLate (unlink : UnlinkHead) (notify : Option SubmitHead) (older : List Packet) (asked : SubmitHead) (answer : RetSubmitHead) (transferred : List ℕ) (next : ℕ) (ups : List up.Message) (downs : List Put) (s : State) : Type 0 where
  LateService : (byte : ℕ) → notify ≡ Some asked → answer.status ≡ success → transferred ≡ packet_bytes (ServicePacket byte) → LateRead unlink None older next ups downs s
      → GivesLate unlink notify older asked answer transferred next ups downs s
  LateOlder : (packet : Packet) (others : List Packet) → notify ≡ Some asked → answer.status ≡ success → older ≡ packet ∷ others → transferred ≡ packet_bytes packet → LateRead unlink None others next ups downs s
      → GivesLate unlink notify older asked answer transferred next ups downs s
  LateHalt : notify ≡ Some asked → answer.status ≡ stalled → LateRead unlink None older next ups downs s → GivesLate unlink notify older asked answer transferred next ups downs s

-- the answer to the unlink that comes next
pub data UnlinkOver (read : StatusRead) (unlink : UnlinkHead) (waits : Bool) (notify : Option SubmitHead) (got : Option ℕ) (older : List Packet) (answer : RetUnlinkHead) (next : ℕ) (ups : List up.Message) (downs : List Put) (s : State) : Type 0 where
  -- it hit: the status byte was not read, nor will be
  OverHit : waits ≡ true → answer ≡ record { seqnum = unlink.seqnum; status = unlinked } → got ≡ None → NonePolled read.since s.log → Quiet notify older next ups downs s
      → UnlinkOver read unlink waits notify got older answer next ups downs s
  -- it missed: the request was answered before
  OverMissed : waits ≡ false → answer ≡ record { seqnum = unlink.seqnum; status = success } → ReadsStatus read false notify got older next ups downs s
      → UnlinkOver read unlink waits notify got older answer next ups downs s
