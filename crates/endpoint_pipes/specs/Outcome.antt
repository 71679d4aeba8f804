-- what the calls of the pipes tell
use Rattle.std.specs.Prelude.{◌≡◌, ℕ, ◌+◌, ◌<◌, ◌≤◌, false, List, [], ◌∷◌, ◌++◌, length, Option, Some, None}
use Rattle.usbip_wire.specs.declared.urb.Dir.TheVariants.{In}
use Rattle.tmc_law.specs.Endpoint.{Endpoint}
use Rattle.tmc_law.specs.State as law
use Rattle.tmc_law.specs.Queues.{pending_most}
use Rattle.tmc_law.specs.Put.{returned}
use Rattle.endpoint_pipes.specs.declared.outcome.PipeFault.{PipeFault}
use Rattle.endpoint_pipes.specs.declared.outcome.PipeFault.TheVariants.{Full, Twice, Memory}
use Rattle.endpoint_pipes.specs.declared.outcome.Unlinked.{Unlinked}
use Rattle.endpoint_pipes.specs.declared.outcome.Unlinked.TheVariants.{Hit, Miss}
use Rattle.endpoint_pipes.specs.declared.outcome.Over.{Over}
use Rattle.endpoint_pipes.specs.declared.outcome.Pending.{Pending}
use Rattle.endpoint_pipes.specs.Held.{Held, list_of, with_list, all_of, IsPending}

-- there is a place for a submit, and none with this number is pending
abbrev pub IsFree : Held → ℕ → Type 0
IsFree held seqnum = (length (all_of held) < pending_most) × law.Avoids seqnum (all_of held)

-- why a submit with this number is refused: no place is left; a place is, but its number is pending; or neither, and memory
-- is wanting
abbrev pub Refuses : Held → ℕ → PipeFault → Type 0
Refuses held seqnum Full = length (all_of held) ≡ pending_most
Refuses held seqnum Twice = (length (all_of held) < pending_most) × IsPending seqnum (all_of held)
Refuses held seqnum Memory = IsFree held seqnum

-- the submit with this number left its queue, and nothing else moved
pub record Leaves (target : ℕ) (old new : Held) : Type 0 where
  pub endpoint : Endpoint
  pub before : List law.Pending
  pub submit : law.Pending
  pub behind : List law.Pending
  pub stood : list_of endpoint old ≡ before ++ submit ∷ behind
  pub number : submit.head.seqnum ≡ target
  pub unpolled : submit.polled ≡ false
  pub left : new ≡ with_list endpoint (before ++ behind) old
  pub gone : law.Avoids target (all_of new)

-- what an unlink of this number did
abbrev pub Unlinks : (target : ℕ) (old new : Held) → Unlinked → Type 0
Unlinks target old new Hit = Leaves target old new
Unlinks target old new Miss = law.Avoids target (all_of old) × (new ≡ old)

-- the first of these submits, and how many bytes of it were moved
abbrev pub first_of : List law.Pending → Option Pending
first_of [] = None
first_of (first ∷ others) = Some (record { head = first.head; moved = length first.moved })

-- the bytes of the first of these submits that were not taken
abbrev pub left_of : List law.Pending → List ℕ
left_of [] = []
left_of (first ∷ others) = first.left

-- there is a first submit, an IN submit that has room for so many bytes more
abbrev pub HasRoom : ℕ → Option Pending → Type 0
HasRoom more None = ⊥
HasRoom more (Some first) = (first.head.dir ≡ In) × (first.moved + more ≤ first.head.length)

-- what goes into the answer to a submit
pub record Ends (submit : law.Pending) (over : Over) : Type 0 where
  pub seqnum : over.seqnum ≡ submit.head.seqnum
  pub actual : over.actual ≡ length submit.moved
  pub bytes : over.bytes.items ≡ returned submit.head.dir submit.moved
