-- what the answer to an unlink says: whether the unlink hit (Linux kernel documentation, "USB/IP protocol")
use Rattle.std.specs.Prelude.{◌≡◌, ◌⊎◌, ℕ, ℤ, Option, Some, None, List, [], ◌∷◌, ◌++◌}
use Rattle.tmc_base.specs.declared.run_step.RunStep.{RunStep}
use Rattle.usbip_wire.specs.declared.submit.SubmitHead.{SubmitHead}
use Rattle.usbip_wire.specs.declared.unlink.UnlinkHead.{UnlinkHead}
use Rattle.usbip_wire.specs.Up as up
use Rattle.usbip_wire.specs.Down as down
use Rattle.tmc_law.specs.Endpoint.{Endpoint}
use Rattle.tmc_law.specs.State.{State}
use Rattle.tmc_law.specs.Put.{Put, Submitted, Unlinked, success, unlinked}
use Rattle.tmc_law.specs.Laws.{message_of}
use Rattle.host_joint.specs.Lines.{without, NoneNumbered}
use Rattle.host_joint.specs.Bond.{Situation, IsUnlinkOf}
use Rattle.host_joint.specs.Joint.{JointBy}
use Rattle.host_joint.specs.Unplugged.{BoundUntil, NextUntil}

-- -104 where the submit is not answered, and never will be; 0 where it was answered before
abbrev pub hit_status : Option SubmitHead → ℤ
hit_status None = success
hit_status (Some head) = unlinked

-- Each answer to an unlink says whether the one submit was answered, to the host or in an answer that comes before it.
abbrev pub TellsHit : Option SubmitHead → List Put → Type 0
TellsHit waits [] = Unit {0}
TellsHit waits (Submitted asked answer transferred ∷ downs) = TellsHit None downs
TellsHit waits (Unlinked asked answer ∷ downs) = (answer.status ≡ hit_status waits) × TellsHit waits downs

-- there is no unlink, or one, of the submit that is not answered
abbrev pub IsOneUnlink : Option SubmitHead → List UnlinkHead → Type 0
IsOneUnlink waits [] = Unit {0}
IsOneUnlink waits (unlink ∷ []) = IsUnlinkOf waits unlink
IsOneUnlink waits (unlink ∷ next ∷ unlinks) = ⊥

-- a host that is bound until the device is unplugged, and whose unlinks' answers say whether they hit
abbrev pub BoundTelling : Situation → Option SubmitHead → List UnlinkHead → (next : ℕ) → List up.Message → List Put → State → Type 0
BoundTelling situation waits unlinks next ups downs s = BoundUntil situation waits unlinks next ups downs s × TellsHit waits downs

-- the same at the two ends of a link
abbrev pub JoinedTelling : (devid : ℕ) → Situation → Option SubmitHead → List UnlinkHead → (next : ℕ) → (written read : List ℕ) → List RunStep → State → Type 0
JoinedTelling devid situation waits unlinks next written read steps s =
    JointBy (λ ups downs t. BoundTelling situation waits unlinks next ups downs t) devid written read steps s

-- what such a host reads next is the first answer that is on its way; where it is to an unlink, its status is as said
pub record IsNextTelling (devid : ℕ) (situation : Situation) (waits : Option SubmitHead) (unlinks : List UnlinkHead) (message : down.Message) (next : ℕ) (written read this : List ℕ) (steps : List RunStep) (s : State) : Type 0 where
  pub put : Put
  pub ups : List up.Message
  pub downs : List Put
  pub is : message_of put ≡ message
  pub given : NextUntil situation waits unlinks next put ups downs s
  pub tells : TellsHit waits (put ∷ downs)
  pub later : (after : Situation) (left : Option SubmitHead) (others : List UnlinkHead) → BoundTelling after left others next ups downs s
      → JoinedTelling devid after left others next written (read ++ this) steps s

-- ---- where any number of submits and unlinks is not answered

-- none of a host's submits that are not answered has this number
abbrev pub NoneAsked : (Endpoint → List SubmitHead) → ℕ → Type 0
NoneAsked asked n = (endpoint : Endpoint) → NoneNumbered n (asked endpoint)

-- its submits without the one of this number
abbrev pub all_without : ℕ → (Endpoint → List SubmitHead) → Endpoint → List SubmitHead
all_without n asked endpoint = without n (asked endpoint)

-- The answer to an unlink has status 0 where its submit was answered, and -104 where it was not.
abbrev pub TellsOf : (asked : Endpoint → List SubmitHead) (target : ℕ) → ℤ → Type 0
TellsOf asked target status = (NoneAsked asked target × (status ≡ success)) ⊎ ((NoneAsked asked target → ⊥) × (status ≡ unlinked))

-- So it is of each answer to an unlink; before it an answer to a submit, and one to an unlink, take theirs from the submits that are not answered.
abbrev pub TellsHits : (Endpoint → List SubmitHead) → List Put → Type 0
TellsHits asked [] = Unit {0}
TellsHits asked (Submitted head answer transferred ∷ downs) = TellsHits (all_without head.seqnum asked) downs
TellsHits asked (Unlinked head answer ∷ downs) = TellsOf asked head.target answer.status × TellsHits (all_without head.target asked) downs
