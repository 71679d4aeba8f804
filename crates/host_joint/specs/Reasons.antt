-- why a bulk endpoint is halted, and how a host comes to know that it is not (USB 2.0, sections 5.8.5 and 9.4.5; USBTMC 1.0, sections 4.2.1.2
-- and 4.2.1.6)
use Rattle.std.specs.Prelude.{◌≡◌, ◌≢◌, ◌⊎◌, ℕ, Bool, true, false, Option, List, [], ◌∷◌, ◌++◌}
use Rattle.usbip_wire.specs.declared.submit.SubmitHead.{SubmitHead}
use Rattle.usbip_wire.specs.declared.unlink.UnlinkHead.{UnlinkHead}
use Rattle.tmc_base.specs.declared.run_step.RunStep.{RunStep}
use Rattle.usbip_wire.specs.Up as up
use Rattle.usbip_wire.specs.Down as down
use Rattle.tmc_wire.specs.declared.class_request.ClassRequest.TheVariants.{AbortOut, Clear}
use Rattle.instr_plain.specs.declared.log.LogEntry.{LogEntry}
use Rattle.instr_plain.specs.declared.remote.RemoteAct.{RemoteAct}
use Rattle.tmc_law.specs.Endpoint.{Endpoint, Control, BulkOut, BulkIn, InterruptIn}
use Rattle.tmc_law.specs.State.{State, start, is_halted}
use Rattle.tmc_law.specs.Put.{Put}
use Rattle.tmc_law.specs.HaltCauses.{IsClassFirst}
use Rattle.tmc_law.specs.Step.{Move, Answer, Halt, Unplug, Steps}
use Rattle.tmc_law.specs.Run.{Entry, Runs}
use Rattle.tmc_law.specs.Laws.{message_of}
use Rattle.host_joint.specs.Lines.{events_of}
use Rattle.host_joint.specs.Unlinking.{IsBulk}
use Rattle.host_joint.specs.Jobs.{Job}
use Rattle.host_joint.specs.Hand.{Hand}
use Rattle.host_joint.specs.Tie.{Tie}
use Rattle.host_joint.specs.Bond.{Situation, Requests, Letter, AbortsOut, AbortsFirst, BeginsClear, Frees, FreesBehind, Bound}
use Rattle.host_joint.specs.Joint.{JointBy}
use Rattle.host_joint.specs.Remotes.{Operating}
use Rattle.host_joint.specs.Triggers.{Triggering}

-- ---- why it is halted

-- Why a step halts a bulk endpoint under a host that sends what it should.
pub data HaltsFor (s : State) (endpoint : Endpoint) (move : Move) : Type 0 where
  -- it halts by itself
  ItHalts : move ≡ Halt endpoint → HaltsFor s endpoint move
  -- Bulk-OUT: a request of the host is answered that aborts its transfer, or clears all
  ItAborts : (tag : ℕ) → move ≡ Answer → endpoint ≡ BulkOut → IsClassFirst s (AbortOut tag) → HaltsFor s endpoint move
  ItClears : move ≡ Answer → endpoint ≡ BulkOut → IsClassFirst s Clear → HaltsFor s endpoint move

-- the steps lead from one state to another, and the endpoint is halted all along
abbrev pub StaysHalted : Endpoint → State → List Entry → State → Type 0
StaysHalted endpoint s [] t = (is_halted endpoint s ≡ true) × (t ≡ s)
StaysHalted endpoint s (entry ∷ run) t =
    (is_halted endpoint s ≡ true) × (mid : State) × Steps s entry.move entry.puts mid × StaysHalted endpoint mid run t

-- In this run from power-on a step halted the endpoint for such a reason, and no step behind it ended the halt.
pub record HaltedSince (endpoint : Endpoint) (run : List Entry) (s : State) : Type 0 where
  pub before : List Entry
  pub entry : Entry
  pub behind : List Entry
  pub mid : State
  pub after : State
  pub whole : run ≡ before ++ entry ∷ behind
  pub reached : Runs start before mid
  pub step : Steps mid entry.move entry.puts after
  pub reason : HaltsFor mid endpoint entry.move
  pub stays : StaysHalted endpoint after behind s

-- each bulk endpoint that is halted behind this run has such a step
abbrev pub HaveReasons : List Entry → State → Type 0
HaveReasons run s = (endpoint : Endpoint) → IsBulk endpoint → is_halted endpoint s ≡ true → HaltedSince endpoint run s

-- a host that is tied to the device, or bound to it, also by the transfer or the request of a ticket
pub data Hosts (ups : List up.Message) (downs : List Put) (s : State) : Type 0 where
  IsTied : (hand : Hand) (waits : Option SubmitHead) (next : ℕ) → Tie hand waits next ups downs s → Hosts ups downs s
  IsBound : (situation : Situation) (waits : Option SubmitHead) (unlinks : List UnlinkHead) (next : ℕ) → Bound situation waits unlinks next ups downs s
      → Hosts ups downs s
  Operates : (act : RemoteAct) (since : List LogEntry) (head : SubmitHead) (next : ℕ) → Operating act since head next ups downs s → Hosts ups downs s
  Triggers : (job : Job) (next : ℕ) → Triggering job next ups downs s → Hosts ups downs s

-- ---- where it is not

-- the bulk endpoints
abbrev pub both : Endpoint → Bool
both Control = false
both BulkOut = true
both BulkIn = true
both InterruptIn = false

-- the device is not unplugged in this run, and none of these endpoints halts by itself
abbrev pub Spares : (Endpoint → Bool) → List Entry → Type 0
Spares which [] = Unit {0}
Spares which (entry ∷ run) = (entry.move ≢ Unplug) × ((endpoint : Endpoint) → which endpoint ≡ true → entry.move ≢ Halt endpoint) × Spares which run

-- a request of a recovery halts Bulk-OUT
abbrev pub HaltsOut : Letter → Type 0
HaltsOut (AbortsOut tag) = Unit {0}
HaltsOut (AbortsFirst tag) = Unit {0}
HaltsOut BeginsClear = Unit {0}
HaltsOut _ = ⊥

-- what the host waits for may halt this endpoint
abbrev pub MayHalt : Situation → Endpoint → Type 0
MayHalt (Requests head letter) endpoint = (endpoint ≡ BulkOut) × HaltsOut letter
MayHalt _ endpoint = ⊥

-- a request of a recovery ends the halt of this endpoint
abbrev pub IsFreeing : Letter → Endpoint → Type 0
IsFreeing (Frees freed) endpoint = freed ≡ endpoint
IsFreeing (FreesBehind freed) endpoint = freed ≡ endpoint
IsFreeing _ endpoint = ⊥

-- The endpoint is not halted; while the request that ends its halt is not answered, it is not from where its answer is on its way.
abbrev pub IsUsable : Endpoint → Situation → List Put → State → Type 0
IsUsable endpoint (Requests head letter) downs s = (IsFreeing letter endpoint × (events_of Control downs ≡ [])) ⊎ (is_halted endpoint s ≡ false)
IsUsable endpoint _ downs s = is_halted endpoint s ≡ false

-- A host that knows of these bulk endpoints that they are not halted, and a device in a situation behind a cancel.
pub record BoundUsable (which : Endpoint → Bool) (situation : Situation) (waits : Option SubmitHead) (unlinks : List UnlinkHead) (next : ℕ) (ups : List up.Message) (downs : List Put) (s : State) : Type 0 where
  pub bound : Bound situation waits unlinks next ups downs s
  pub usable : (endpoint : Endpoint) → IsBulk endpoint → which endpoint ≡ true → IsUsable endpoint situation downs s

-- the same at the two ends of a link
abbrev pub JoinedUsable : (which : Endpoint → Bool) (devid : ℕ) → Situation → Option SubmitHead → List UnlinkHead → (next : ℕ) → (written read : List ℕ) → List RunStep → State → Type 0
JoinedUsable which devid situation waits unlinks next written read steps s = JointBy (λ ups downs t. BoundUsable which situation waits unlinks next ups downs t) devid written read steps s

-- what such a host reads next is the first answer that is on its way
pub record IsNextUsable (which : Endpoint → Bool) (devid : ℕ) (situation : Situation) (waits : Option SubmitHead) (unlinks : List UnlinkHead) (message : down.Message) (next : ℕ) (written read this : List ℕ) (steps : List RunStep) (s : State) : Type 0 where
  pub put : Put
  pub ups : List up.Message
  pub downs : List Put
  pub is : message_of put ≡ message
  pub usable : BoundUsable which situation waits unlinks next ups (put ∷ downs) s
  pub later : (after : Situation) (left : Option SubmitHead) (others : List UnlinkHead) → BoundUsable which after left others next ups downs s
      → JoinedUsable which devid after left others next written (read ++ this) steps s
