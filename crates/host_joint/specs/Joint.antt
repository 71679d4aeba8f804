-- a tied host and device at the two ends of a link that tells its bytes and the steps of its peer
use Rattle.std.specs.Prelude.{◌≡◌, ◌≢◌, ℕ, Option, Some, None, List, [], ◌∷◌, ◌++◌}
use Rattle.tmc_base.specs.declared.field.Field.{Field}
use Rattle.tmc_base.specs.declared.run_step.RunStep.{RunStep}
use Rattle.tmc_base.specs.Told.{in_bytes, out_bytes}
use Rattle.usbip_wire.specs.declared.submit.SubmitHead.{SubmitHead}
use Rattle.usbip_wire.specs.declared.unlink.UnlinkHead.{UnlinkHead}
use Rattle.usbip_wire.specs.declared.dirs.Outstanding.{Outstanding}
use Rattle.usbip_wire.specs.declared.dirs.Outstanding.TheVariants.{Submit}
use Rattle.usbip_wire.specs.declared.dirs.Outstanding.TheVariants as dirs
use Rattle.usbip_wire.specs.Up as up
use Rattle.usbip_wire.specs.Down as down
use Rattle.tmc_law.specs.State.{State, Closed}
use Rattle.tmc_law.specs.Put.{Put}
use Rattle.tmc_law.specs.Laws.{message_of}
use Rattle.tmc_law.specs.Run.{Entry, SpellAll, SpellsPut}
use Rattle.tmc_law.specs.Told.{Means}
use Rattle.host_joint.specs.Unlinking.{AllUnlinks}
use Rattle.host_joint.specs.Hand.{Hand}
use Rattle.host_joint.specs.Asking.{StaysPlugged}
use Rattle.host_joint.specs.Tie.{IsUndisturbed, Tie, IsGiven}
use Rattle.host_joint.specs.Bond.{Situation, Bound}

-- a told step of a lawful device, by a run of this kind
pub record MeansBy (Kind : List Entry → Type 0) (devid : ℕ) (s : State) (step : RunStep) (t : State) : Type 0 where
  pub means : Means devid s step t
  pub calm : Kind means.run

-- told steps of one, from one state to another
abbrev pub TellsBy : (Kind : List Entry → Type 0) (devid : ℕ) → State → List RunStep → State → Type 0
TellsBy Kind devid s [] t = t ≡ s
TellsBy Kind devid s (step ∷ run) t = (mid : State) × MeansBy Kind devid s step mid × TellsBy Kind devid mid run t

-- told steps of a device that nothing disturbs, and of one that is not unplugged
abbrev pub TellsCalmly : (devid : ℕ) → State → List RunStep → State → Type 0
TellsCalmly devid s run t = TellsBy IsUndisturbed devid s run t

abbrev pub TellsPlugged : (devid : ℕ) → State → List RunStep → State → Type 0
TellsPlugged devid s run t = TellsBy StaysPlugged devid s run t

-- All bytes that a host wrote, sent or not, and all bytes of the answers that it has read, against the steps that its link tells of a
-- device with this devid, which is in this state; and what ties the two, with the messages that are on their way.
pub record JointBy (Ties : List up.Message → List Put → State → Type 0) (devid : ℕ) (written read : List ℕ) (steps : List RunStep) (s : State) : Type 0 where
  -- the device took in the first bytes, and those that it has not taken in are these messages
  pub coming : List ℕ
  pub ups : List up.Message
  pub sent : written ≡ in_bytes steps ++ coming
  pub spelled : SpellAll (up.Spells devid) ups coming
  -- the host has read the first bytes of what the device put out, and those that it has not read are these answers
  pub behind : List ℕ
  pub downs : List Put
  pub given : out_bytes steps ≡ read ++ behind
  pub put : SpellAll SpellsPut downs behind
  -- the device refused nothing
  pub accepted : (f : Field) → s.presence ≡ Closed f → ⊥
  pub tie : Ties ups downs s

-- a host that nothing disturbs, with what it has in hand, and one that is in a situation behind a cancel
abbrev pub Joint : (devid : ℕ) → Hand → Option SubmitHead → (next : ℕ) → (written read : List ℕ) → List RunStep → State → Type 0
Joint devid hand waits next written read steps s = JointBy (λ ups downs t. Tie hand waits next ups downs t) devid written read steps s

abbrev pub Joined : (devid : ℕ) → Situation → Option SubmitHead → List UnlinkHead → (next : ℕ) → (written read : List ℕ) → List RunStep → State → Type 0
Joined devid situation waits unlinks next written read steps s = JointBy (λ ups downs t. Bound situation waits unlinks next ups downs t) devid written read steps s

-- the submit that is not answered, as a reader of answers knows it
abbrev pub entries_for : Option SubmitHead → List Outstanding
entries_for None = []
entries_for (Some head) = Submit head.seqnum head.dir head.length ∷ []

-- A message that the host reads next, from these bytes, is the answer to the one submit that is not answered: all that was written
-- was taken in before, and whatever the host has in hand then is tied as it is behind that answer.
pub record IsNextAnswer (devid : ℕ) (hand : Hand) (head : SubmitHead) (message : down.Message) (next : ℕ) (written read this : List ℕ) (steps : List RunStep) (s : State) : Type 0 where
  pub put : Put
  pub ups : List up.Message
  pub downs : List Put
  pub is : message_of put ≡ message
  pub given : IsGiven hand head put next ups downs s
  pub taken_in : in_bytes steps ≡ written
  pub later : (after : Hand) → Tie after None next ups downs s → Joint devid after None next written (read ++ this) steps s

-- the submit and the unlinks that are not answered, as a reader of answers knows them
abbrev pub unlink_entries : List UnlinkHead → List Outstanding
unlink_entries [] = []
unlink_entries (unlink ∷ unlinks) = dirs.Unlink unlink.seqnum ∷ unlink_entries unlinks

abbrev pub entries_of : Option SubmitHead → List UnlinkHead → List Outstanding
entries_of waits unlinks = entries_for waits ++ unlink_entries unlinks

-- the submit has a number of its own
abbrev pub IsApart : Option SubmitHead → List UnlinkHead → Type 0
IsApart None unlinks = Unit {0}
IsApart (Some head) unlinks = AllUnlinks (λ unlink. head.seqnum ≢ unlink.seqnum) unlinks

-- a message that a host reads next behind a cancel is the first answer that is on its way
pub record IsNextOf (devid : ℕ) (situation : Situation) (waits : Option SubmitHead) (unlinks : List UnlinkHead) (message : down.Message) (next : ℕ) (written read this : List ℕ) (steps : List RunStep) (s : State) : Type 0 where
  pub put : Put
  pub ups : List up.Message
  pub downs : List Put
  pub is : message_of put ≡ message
  pub bound : Bound situation waits unlinks next ups (put ∷ downs) s
  pub later : (after : Situation) (left : Option SubmitHead) (others : List UnlinkHead) → Bound after left others next ups downs s
      → Joined devid after left others next written (read ++ this) steps s
