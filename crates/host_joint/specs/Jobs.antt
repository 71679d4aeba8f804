-- the Bulk-OUT transfers that a host writes, each in one submit, and where they are (USBTMC 1.0, section 3.2)
use Rattle.std.specs.Prelude.{◌≡◌, ◌≢◌, ℕ, Bool, true, false, List, [], ◌∷◌, ◌++◌, length, take, Option, Some, None}
use Rattle.usbip_wire.specs.declared.submit.SubmitHead.{SubmitHead}
use Rattle.usbip_wire.specs.declared.urb.Dir.TheVariants.{Out}
use Rattle.tmc_law.specs.Endpoint.{BulkOut, number_of}
use Rattle.tmc_wire.specs.declared.header.OutHeader.{OutHeader}
use Rattle.tmc_wire.specs.declared.header_fault.HeaderFault.{HeaderFault}
use Rattle.tmc_wire.specs.Standard.{header_size}
use Rattle.tmc_wire.specs.Header.{IsOutHeader}
use Rattle.tmc_wire.specs.HeaderFault.{IsOutFault}
use Rattle.tmc_wire.specs.Transfer.{OutText, data_size}
use Rattle.tmc_law.specs.State.{Pending, Transfer, arrived, transfer_size}
use Rattle.host_joint.specs.Lines.{Sent}

-- a transfer that a host writes: its submit, its header, its data, and all its bytes
pub record Job : Type 0 where
  pub head : SubmitHead
  pub header : OutHeader
  pub message : List ℕ
  pub bytes : List ℕ

-- Its bytes are a transfer with this header and this data, and its submit is one to Bulk-OUT of just that length.
pub record IsJob (job : Job) : Type 0 where
  pub number : job.head.ep ≡ number_of BulkOut
  pub way : job.head.dir ≡ Out
  pub text : OutText job.header job.message job.bytes
  pub headed : IsOutHeader job.header (take header_size job.bytes)
  pub faultless : (fault : HeaderFault) → IsOutFault job.bytes fault → ⊥
  pub whole : transfer_size (data_size job.header) ≡ length job.bytes
  pub sized : job.head.length ≡ length job.bytes

abbrev pub AllJobs : List Job → Type 0
AllJobs [] = Unit {0}
AllJobs (job ∷ jobs) = IsJob job × AllJobs jobs

-- the submits of these transfers on their way to the device
abbrev pub sent : List Job → List Sent
sent [] = []
sent (job ∷ jobs) = record { head = job.head; transferred = job.bytes } ∷ sent jobs

-- where they are pending, with all their bytes
abbrev pub fresh : List Job → List Pending
fresh [] = []
fresh (job ∷ jobs) = arrived job.head job.bytes ∷ fresh jobs

-- a pending one of which these bytes were taken, and these are left
abbrev pub partly : Job → (moved left : List ℕ) → Pending
partly job moved left = record { head = job.head; left = left; moved = moved; polled = false }

-- its transfer in progress, of which these bytes were taken
abbrev pub transfer_of : Job → (taken : List ℕ) → Transfer
transfer_of job taken = record { header = job.header; taken = taken }

-- Where the transfers are that the device did not take whole: first come those that are pending, of which the first may be
-- taken in part, then those on their way. `shut` says whether Bulk-OUT is halted, `gone` whether the host has unlinked submits.
pub data OutLine (shut gone : Bool) (todo : List Job) (coming : List Sent) (queue : List Pending) (transfer : Option Transfer) : Type 0 where
  -- no packet of the first was taken
  Unbegun : (here later : List Job) → shut ≡ false → todo ≡ here ++ later → coming ≡ sent later → queue ≡ fresh here → transfer ≡ None
      → OutLine shut gone todo coming queue transfer
  -- the first has packets that were taken, and packets that were not
  Partly : (job : Job) (here later : List Job) (moved left : List ℕ) → shut ≡ false → todo ≡ job ∷ (here ++ later) → coming ≡ sent later
      → job.bytes ≡ moved ++ left → moved ≢ [] → left ≢ []
      → queue ≡ partly job moved left ∷ fresh here → transfer ≡ Some (transfer_of job moved) → OutLine shut gone todo coming queue transfer
  -- it was the last one, and was unlinked behind its first packets: its transfer stays in progress
  Cut : (job : Job) (moved left : List ℕ) → gone ≡ true → shut ≡ false → todo ≡ job ∷ [] → coming ≡ [] → job.bytes ≡ moved ++ left → moved ≢ [] → left ≢ []
      → queue ≡ [] → transfer ≡ Some (transfer_of job moved) → OutLine shut gone todo coming queue transfer
  -- Bulk-OUT is halted, and takes none
  Shut : shut ≡ true → todo ≡ [] → queue ≡ [] → transfer ≡ None → OutLine shut gone todo coming queue transfer

-- the header of the last one
abbrev pub last_header : List Job → Option OutHeader
last_header [] = None
last_header (job ∷ []) = Some job.header
last_header (job ∷ next ∷ jobs) = last_header (next ∷ jobs)

-- the data of transfers
abbrev pub data_in : List Job → List ℕ
data_in [] = []
data_in (job ∷ jobs) = job.message ++ data_in jobs
