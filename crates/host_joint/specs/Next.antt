-- what a host whose one submit is not answered reads next from a link that tells its bytes: the answer to it
use Rattle.std.specs.Prelude.{◌≡◌, ℕ, None, List, [], ◌∷◌, ◌++◌}
use Rattle.tmc_base.specs.declared.run_step.RunStep.{RunStep}
use Rattle.usbip_wire.specs.Up as up
use Rattle.usbip_wire.specs.Down as down
use Rattle.tmc_law.specs.State.{State}
use Rattle.tmc_law.specs.Put.{Put}
use Rattle.tmc_law.specs.Laws.{message_of}
use Rattle.host_joint.specs.Bond.{Bound, Stands, Resting}
use Rattle.host_joint.specs.Joint.{Joined}

-- The next message, from these bytes, is the first answer that is on its way, and the two are tied with it. Where the host stands at rest behind
-- it, it is joined to the device as one that does.
pub record IsNextIn (Ties : List up.Message → List Put → State → Type 0) (devid : ℕ) (message : down.Message) (next : ℕ) (written read this : List ℕ) (steps : List RunStep) (s : State) : Type 0 where
  pub put : Put
  pub ups : List up.Message
  pub downs : List Put
  pub is : message_of put ≡ message
  pub tie : Ties ups (put ∷ downs) s
  pub later : Bound (Stands Resting) None [] next ups downs s → Joined devid (Stands Resting) None [] next written (read ++ this) steps s
