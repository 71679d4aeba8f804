-- a host whose device may be unplugged: what ties the two holds until then
use Rattle.std.specs.Prelude.{◌≡◌, ◌≢◌, ◌⊎◌, ℕ, Option, Some, None, List, [], ◌∷◌, ◌++◌}
use Rattle.tmc_base.specs.declared.run_step.RunStep.{RunStep}
use Rattle.usbip_wire.specs.declared.submit.SubmitHead.{SubmitHead}
use Rattle.usbip_wire.specs.declared.unlink.UnlinkHead.{UnlinkHead}
use Rattle.usbip_wire.specs.declared.ret_submit.RetSubmitHead.{RetSubmitHead}
use Rattle.usbip_wire.specs.Up as up
use Rattle.usbip_wire.specs.Down as down
use Rattle.tmc_law.specs.Endpoint.{Endpoint}
use Rattle.tmc_law.specs.State.{State}
use Rattle.tmc_law.specs.Put.{Put, Submitted, unplugged}
use Rattle.tmc_law.specs.Halts.{unplug_answers}
use Rattle.tmc_law.specs.Step.{Halt, Unplug, Steps}
use Rattle.tmc_law.specs.Run.{Entry}
use Rattle.tmc_law.specs.Laws.{message_of}
use Rattle.host_joint.specs.Hand.{Hand}
use Rattle.host_joint.specs.Tie.{Tie, IsGiven}
use Rattle.host_joint.specs.Bond.{Situation, Bound}
use Rattle.host_joint.specs.Joint.{TellsBy, JointBy}

-- It held until the device was unplugged. Behind the answers that were on their way come those to all that was pending; nothing else
-- changed at the instrument, and nothing more happens. What is on its way to the device never arrives.
pub record WasHeld (Ties : List up.Message → List Put → State → Type 0) (ups : List up.Message) (downs : List Put) (t : State) : Type 0 where
  pub before : State
  pub front : List Put
  pub tie : Ties ups front before
  pub unplugs : Steps before Unplug (unplug_answers before) t
  pub behind : downs ≡ front ++ unplug_answers before

-- it holds, or held until the device was unplugged
abbrev pub Until : (List up.Message → List Put → State → Type 0) → List up.Message → List Put → State → Type 0
Until Ties ups downs t = Ties ups downs t ⊎ WasHeld Ties ups downs t

abbrev pub TiedUntil : Hand → Option SubmitHead → (next : ℕ) → List up.Message → List Put → State → Type 0
TiedUntil hand waits next ups downs t = Until (λ ups downs s. Tie hand waits next ups downs s) ups downs t

abbrev pub BoundUntil : Situation → Option SubmitHead → List UnlinkHead → (next : ℕ) → List up.Message → List Put → State → Type 0
BoundUntil situation waits unlinks next ups downs t = Until (λ ups downs s. Bound situation waits unlinks next ups downs s) ups downs t

-- no endpoint halts by itself in this run
abbrev pub HaltsNothing : List Entry → Type 0
HaltsNothing [] = Unit {0}
HaltsNothing (entry ∷ run) = ((endpoint : Endpoint) → entry.move ≢ Halt endpoint) × HaltsNothing run

-- An answer tells of the unplugging: it is the one to the submit that is not answered, with status -108, and none comes behind it.
pub record TellsUnplugged (waits : Option SubmitHead) (put : Put) (downs : List Put) : Type 0 where
  pub head : SubmitHead
  pub answer : RetSubmitHead
  pub transferred : List ℕ
  pub is : put ≡ Submitted head answer transferred
  pub awaited : waits ≡ Some head
  pub number : answer.seqnum ≡ head.seqnum
  pub status : answer.status ≡ unplugged
  pub last : downs ≡ []

-- An answer is the one to this submit, with status -108.
pub record TellsOf (asked : Option SubmitHead) (put : Put) : Type 0 where
  pub head : SubmitHead
  pub answer : RetSubmitHead
  pub transferred : List ℕ
  pub is : put ≡ Submitted head answer transferred
  pub awaited : asked ≡ Some head
  pub number : answer.seqnum ≡ head.seqnum
  pub status : answer.status ≡ unplugged

-- Where one submit to Interrupt-IN may be pending besides, it is told last; a submit that was answered before is not told again.
pub data TellsBoth (waits notify : Option SubmitHead) (put : Put) (downs : List Put) : Type 0 where
  TellsOne : TellsOf waits put → downs ≡ [] → TellsBoth waits notify put downs
  TellsTwo : (last : Put) → TellsOf waits put → TellsOf notify last → downs ≡ last ∷ [] → TellsBoth waits notify put downs
  TellsNotify : TellsOf notify put → downs ≡ [] → TellsBoth waits notify put downs

-- The first answer on its way to such a host that is tied, or was: what ties it can be used for that answer, in the state where it holds; or the answer
-- tells of the unplugging.
pub data NextBoth (Ties : List up.Message → List Put → State → Type 0) (waits notify : Option SubmitHead) (put : Put) (ups : List up.Message) (downs : List Put) (t : State) : Type 0 where
  -- the device is plugged
  BothPlugged : Ties ups (put ∷ downs) t → NextBoth Ties waits notify put ups downs t
  -- the answer was on its way when the device was unplugged
  BothBefore : (before : State) (front : List Put) → Ties ups (put ∷ front) before → Steps before Unplug (unplug_answers before) t → downs ≡ front ++ unplug_answers before
      → NextBoth Ties waits notify put ups downs t
  -- it tells of the unplugging
  BothBehind : (before : State) → Ties ups [] before → Steps before Unplug (unplug_answers before) t → TellsBoth waits notify put downs → NextBoth Ties waits notify put ups downs t

-- The first answer on its way to a host that is bound, or was: what bound it can be used for that answer, in the state where it
-- holds; or the answer tells of the unplugging.
pub data NextUntil (situation : Situation) (waits : Option SubmitHead) (unlinks : List UnlinkHead) (next : ℕ) (put : Put) (ups : List up.Message) (downs : List Put) (t : State) : Type 0 where
  -- the device is plugged
  ComesPlugged : Bound situation waits unlinks next ups (put ∷ downs) t → NextUntil situation waits unlinks next put ups downs t
  -- the answer was on its way when the device was unplugged: behind it the host is bound until then
  ComesBefore : (before : State) (front : List Put) → Bound situation waits unlinks next ups (put ∷ front) before
      → Steps before Unplug (unplug_answers before) t → downs ≡ front ++ unplug_answers before → NextUntil situation waits unlinks next put ups downs t
  -- it tells of the unplugging
  ComesBehind : (before : State) → Bound situation waits unlinks next ups [] before → Steps before Unplug (unplug_answers before) t
      → TellsUnplugged waits put downs → NextUntil situation waits unlinks next put ups downs t

-- The same of the answer to the one submit of a host that is tied, or was.
pub data GivenUntil (hand : Hand) (head : SubmitHead) (next : ℕ) (put : Put) (ups : List up.Message) (downs : List Put) (t : State) : Type 0 where
  -- the device is plugged
  GivenPlugged : IsGiven hand head put next ups downs t → GivenUntil hand head next put ups downs t
  -- the answer was on its way when the device was unplugged: behind it the host is tied until then
  GivenBefore : (before : State) (front : List Put) → IsGiven hand head put next ups front before
      → Steps before Unplug (unplug_answers before) t → downs ≡ front ++ unplug_answers before → GivenUntil hand head next put ups downs t
  -- it tells of the unplugging
  GivenBehind : (before : State) → Tie hand (Some head) next ups [] before → Steps before Unplug (unplug_answers before) t
      → TellsUnplugged (Some head) put downs → GivenUntil hand head next put ups downs t

-- ---- over a link that tells its bytes and the steps of its peer

abbrev pub JointUntil : (devid : ℕ) → Hand → Option SubmitHead → (next : ℕ) → (written read : List ℕ) → List RunStep → State → Type 0
JointUntil devid hand waits next written read steps s = JointBy (λ ups downs t. TiedUntil hand waits next ups downs t) devid written read steps s

abbrev pub JoinedUntil : (devid : ℕ) → Situation → Option SubmitHead → List UnlinkHead → (next : ℕ) → (written read : List ℕ) → List RunStep → State → Type 0
JoinedUntil devid situation waits unlinks next written read steps s =
    JointBy (λ ups downs t. BoundUntil situation waits unlinks next ups downs t) devid written read steps s

-- told steps of a device that halts no endpoint by itself
abbrev pub TellsUnhalted : (devid : ℕ) → State → List RunStep → State → Type 0
TellsUnhalted devid s run t = TellsBy HaltsNothing devid s run t

-- what such a host reads next, from these bytes, is the first answer that is on its way
pub record IsNextUntil (devid : ℕ) (situation : Situation) (waits : Option SubmitHead) (unlinks : List UnlinkHead) (message : down.Message) (next : ℕ) (written read this : List ℕ) (steps : List RunStep) (s : State) : Type 0 where
  pub put : Put
  pub ups : List up.Message
  pub downs : List Put
  pub is : message_of put ≡ message
  pub given : NextUntil situation waits unlinks next put ups downs s
  pub later : (after : Situation) (left : Option SubmitHead) (others : List UnlinkHead) → BoundUntil after left others next ups downs s
      → JoinedUntil devid after left others next written (read ++ this) steps s

pub record IsGivenUntil (devid : ℕ) (hand : Hand) (head : SubmitHead) (message : down.Message) (next : ℕ) (written read this : List ℕ) (steps : List RunStep) (s : State) : Type 0 where
  pub put : Put
  pub ups : List up.Message
  pub downs : List Put
  pub is : message_of put ≡ message
  pub given : GivenUntil hand head next put ups downs s
  pub later : (after : Hand) → TiedUntil after None next ups downs s → JointUntil devid after None next written (read ++ this) steps s
