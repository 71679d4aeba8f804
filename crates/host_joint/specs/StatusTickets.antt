-- a host and a status read in any of its situations
use Rattle.std.specs.Prelude.{ℕ, Bool, Option, None, List, [], ◌∷◌, ◌++◌}
use Rattle.std.specs.Prelude.{◌≡◌}
use Rattle.tmc_base.specs.declared.run_step.RunStep.{RunStep}
use Rattle.usbip_wire.specs.declared.submit.SubmitHead.{SubmitHead}
use Rattle.usbip_wire.specs.declared.unlink.UnlinkHead.{UnlinkHead}
use Rattle.usbip_wire.specs.declared.dirs.Outstanding.{Outstanding}
use Rattle.usbip_wire.specs.Up as up
use Rattle.usbip_wire.specs.Down as down
use Rattle.tmc_law.specs.State.{State, Packet}
use Rattle.tmc_law.specs.Put.{Put}
use Rattle.tmc_law.specs.Laws.{message_of}
use Rattle.host_joint.specs.Joint.{JointBy, entries_for, entries_of}
use Rattle.host_joint.specs.Unplugged.{Until, NextBoth}
use Rattle.host_joint.specs.StatusReads.{StatusRead, Quiet, ReadsStatus, CancelledRead, LateRead, while}

pub data StatusTicket : Type 0 where
  -- no status read is under way
  NoRead : StatusTicket
  -- one is
  HasRead : (read : StatusRead) (waits : Bool) (got : Option ℕ) → StatusTicket
  -- its request was unlinked
  StopsRead : (read : StatusRead) (unlink : UnlinkHead) (waits : Bool) (got : Option ℕ) → StatusTicket
  -- it was unlinked, and was answered with INTERRUPT_IN_BUSY all the same
  StopsLate : (unlink : UnlinkHead) → StatusTicket

-- what ties the two then
abbrev pub StatusHolds : StatusTicket → (notify : Option SubmitHead) → (older : List Packet) → (next : ℕ) → List up.Message → List Put → State → Type 0
StatusHolds NoRead notify older next ups downs s = Quiet notify older next ups downs s
StatusHolds (HasRead read waits got) notify older next ups downs s = ReadsStatus read waits notify got older next ups downs s
StatusHolds (StopsRead read unlink waits got) notify older next ups downs s = CancelledRead read unlink waits notify got older next ups downs s
StatusHolds (StopsLate unlink) notify older next ups downs s = LateRead unlink notify older next ups downs s

-- the request and the unlink that are not answered then
abbrev pub request_for : StatusTicket → Option SubmitHead
request_for NoRead = None
request_for (HasRead read waits got) = while waits read.head
request_for (StopsRead read unlink waits got) = while waits read.head
request_for (StopsLate unlink) = None

abbrev pub unlinks_of_read : StatusTicket → List UnlinkHead
unlinks_of_read NoRead = []
unlinks_of_read (HasRead read waits got) = []
unlinks_of_read (StopsRead read unlink waits got) = unlink ∷ []
unlinks_of_read (StopsLate unlink) = unlink ∷ []

-- ---- over a link, until the device is unplugged

abbrev pub entries_with : StatusTicket → (notify : Option SubmitHead) → List Outstanding
entries_with ticket notify = entries_of (request_for ticket) (unlinks_of_read ticket) ++ entries_for notify

abbrev pub StatusJoined : StatusTicket → (notify : Option SubmitHead) → (older : List Packet) → (next devid : ℕ) → (written read : List ℕ) → List RunStep → State → Type 0
StatusJoined ticket notify older next devid written read steps s = JointBy (λ ups downs t. Until (λ ups downs t. StatusHolds ticket notify older next ups downs t) ups downs t) devid written read steps s

-- the next message, from these bytes, is the first answer on its way
pub record IsNextOfStatus (ticket : StatusTicket) (notify : Option SubmitHead) (older : List Packet) (next devid : ℕ) (message : down.Message) (written read this : List ℕ) (steps : List RunStep) (s : State) : Type 0 where
  pub put : Put
  pub ups : List up.Message
  pub downs : List Put
  pub is : message_of put ≡ message
  pub given : NextBoth (λ ups downs t. StatusHolds ticket notify older next ups downs t) (request_for ticket) notify put ups downs s
  pub later : (after : StatusTicket) (left : Option SubmitHead) (others : List Packet) → Until (λ ups downs t. StatusHolds after left others next ups downs t) ups downs s
      → StatusJoined after left others next devid written (read ++ this) steps s
