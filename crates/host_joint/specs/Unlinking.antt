-- the unlinks of a cancel
use Rattle.std.specs.Prelude.{◌≡◌, ◌≢◌, ◌⊎◌, ℕ, ◌+◌, ◌<◌, List, [], ◌∷◌, length}
use Rattle.usbip_wire.specs.declared.submit.SubmitHead.{SubmitHead}
use Rattle.usbip_wire.specs.declared.unlink.UnlinkHead.{UnlinkHead}
use Rattle.tmc_law.specs.Endpoint.{Endpoint, Control, BulkOut, BulkIn, InterruptIn}
use Rattle.host_joint.specs.Lines.{NoneNumbered}

abbrev pub AllHeads : (SubmitHead → Type 0) → List SubmitHead → Type 0
AllHeads P [] = Unit {0}
AllHeads P (head ∷ others) = P head × AllHeads P others

-- the numbers of submits rise
abbrev pub Rising : List SubmitHead → Type 0
Rising [] = Unit {0}
Rising (head ∷ others) = AllHeads (λ other. head.seqnum < other.seqnum) others × Rising others

abbrev pub AllUnlinks : (UnlinkHead → Type 0) → List UnlinkHead → Type 0
AllUnlinks P [] = Unit {0}
AllUnlinks P (head ∷ others) = P head × AllUnlinks P others

-- the unlinks name their submits in falling order
abbrev pub Falling : List UnlinkHead → Type 0
Falling [] = Unit {0}
Falling (head ∷ others) = AllUnlinks (λ other. other.target < head.target) others × Falling others

-- one of these unlinks names this submit
abbrev pub IsNamed : List UnlinkHead → ℕ → Type 0
IsNamed [] n = ⊥
IsNamed (head ∷ others) n = (head.target ≡ n) ⊎ IsNamed others n

-- the bulk endpoints
abbrev pub IsBulk : Endpoint → Type 0
IsBulk Control = ⊥
IsBulk BulkOut = Unit {0}
IsBulk BulkIn = Unit {0}
IsBulk InterruptIn = ⊥

-- What a cancel wrote: each bulk submit that was not answered has an unlink, and the unlinks name them in falling order. So
-- each one that hits takes the last submit of its queue.
pub record Unlinking (asked : Endpoint → List SubmitHead) (unlinks : List UnlinkHead) : Type 0 where
  pub rising : (e : Endpoint) → Rising (asked e)
  pub falling : Falling unlinks
  pub named : (e : Endpoint) → IsBulk e → AllHeads (λ head. IsNamed unlinks head.seqnum) (asked e)

-- the numbers of a host's submits rise at each endpoint, and no number is at two endpoints
pub record AreApart (asked : Endpoint → List SubmitHead) : Type 0 where
  pub rising : (e : Endpoint) → Rising (asked e)
  pub apart : (d e : Endpoint) → d ≢ e → AllHeads (λ head. NoneNumbered head.seqnum (asked e)) (asked d)

-- how many submits were not answered
abbrev pub total_of : (Endpoint → List SubmitHead) → ℕ
total_of asked = length (asked Control) + (length (asked BulkOut) + (length (asked BulkIn) + length (asked InterruptIn)))
