-- what a step does to the queues and what it answers, one submit at a time
use Rattle.std.specs.Prelude.{◌≡◌, ℕ, ℤ, ◌+◌, ◌≤◌, false, List, [], ◌∷◌, ◌++◌, length, slice_index}
use Rattle.usbip_wire.specs.declared.urb.Dir.{Dir}
use Rattle.usbip_wire.specs.declared.urb.Dir.TheVariants.{Out, In}
use Rattle.usbip_wire.specs.declared.submit.SubmitHead.{SubmitHead}
use Rattle.usbip_wire.specs.declared.unlink.UnlinkHead.{UnlinkHead}
use Rattle.usbip_wire.specs.Up as up
use Rattle.tmc_law.specs.Endpoint.{Endpoint, Control, BulkOut, BulkIn, InterruptIn, number_of, way_of}
use Rattle.tmc_law.specs.State.{State, Pending, queue_of, with_queue, pending, Avoids}
use Rattle.tmc_law.specs.Put.{Put, answer_of, success, stalled, unlinked, unplugged, unlink_answer}
use Rattle.tmc_law.specs.Queues.{IsSubmit, Arrives}
use Rattle.tmc_law.specs.Step.{Move, Comes}

-- two states have the same queues
pub record SameQueues (s t : State) : Type 0 where
  pub control : t.control ≡ s.control
  pub bulk_out : t.bulk_out ≡ s.bulk_out
  pub bulk_in : t.bulk_in ≡ s.bulk_in
  pub interrupt_in : t.interrupt_in ≡ s.interrupt_in

-- the status byte is polled for a control submit alone
abbrev pub Unpolled : Endpoint → Pending → Type 0
Unpolled Control submit = Unit {0}
Unpolled BulkOut submit = submit.polled ≡ false
Unpolled BulkIn submit = submit.polled ≡ false
Unpolled InterruptIn submit = submit.polled ≡ false

-- the bytes that were moved and those that are left fit the submit
abbrev pub Sized : Dir → Pending → Type 0
Sized Out submit = length submit.moved + length submit.left ≡ submit.head.length
Sized In submit = (length submit.moved ≤ submit.head.length) × (submit.left ≡ [])

-- a pending submit stands in the queue of its endpoint, arrived as one may, and has as many bytes as it asks for
pub record FitsAt (e : Endpoint) (submit : Pending) : Type 0 where
  pub number : submit.head.ep ≡ number_of e
  pub way : submit.head.dir ≡ way_of e (slice_index submit.head.setup 0)
  pub sized : Sized submit.head.dir submit
  pub transferred : List ℕ
  pub came : IsSubmit submit.head transferred

-- a status that the answer to a submit has
pub data IsStatus : ℤ → Type 0 where
  Succeeds : IsStatus success
  Stalls : IsStatus stalled
  IsGone : IsStatus unplugged

-- a submit of which packets were moved, or for which the status byte was polled
pub record IsLater (e : Endpoint) (submit later : Pending) : Type 0 where
  pub head : later.head ≡ submit.head
  pub polled : Unpolled e submit → Unpolled e later
  pub fits : FitsAt e submit → FitsAt e later

-- From the state s to the queues of the state t: these unlinks are answered, and all this is put out.
pub data Acts (t : State) : (s : State) → (unlinks : List UnlinkHead) → (puts : List Put) → Type 0 where
  -- nothing more happens to the queues
  Done : (s : State) → SameQueues s t → Acts t s [] []
  -- the first submit of a queue is answered, with at most as many bytes as it asks for
  Replies : (s : State) (unlinks : List UnlinkHead) (puts : List Put) (e : Endpoint) (submit : Pending) (behind : List Pending) (status : ℤ) (moved : List ℕ)
      → queue_of e s ≡ submit ∷ behind → IsStatus status → (FitsAt e submit → length moved ≤ submit.head.length)
      → Acts t (with_queue e behind s) unlinks puts → Acts t s unlinks (answer_of submit.head status moved ∷ puts)
  -- the first submit of a queue changes
  Changes : (s : State) (unlinks : List UnlinkHead) (puts : List Put) (e : Endpoint) (submit later : Pending) (behind : List Pending)
      → queue_of e s ≡ submit ∷ behind → IsLater e submit later → Acts t (with_queue e (later ∷ behind) s) unlinks puts → Acts t s unlinks puts
  -- an unlink hits a submit, which leaves its queue; nothing of its number is pending then
  Hit : (s : State) (unlinks : List UnlinkHead) (puts : List Put) (head : UnlinkHead) (e : Endpoint) (before : List Pending) (submit : Pending) (behind : List Pending)
      → queue_of e s ≡ before ++ submit ∷ behind → submit.head.seqnum ≡ head.target
      → Avoids head.target (pending (with_queue e (before ++ behind) s))
      → Acts t (with_queue e (before ++ behind) s) unlinks puts → Acts t s (head ∷ unlinks) (unlink_answer head unlinked ∷ puts)
  -- an unlink misses: nothing of the number that it names is pending
  Miss : (s : State) (unlinks : List UnlinkHead) (puts : List Put) (head : UnlinkHead) → Avoids head.target (pending s)
      → Acts t s unlinks puts → Acts t s (head ∷ unlinks) (unlink_answer head success ∷ puts)

-- the unlinks that a move takes in
abbrev pub unlinks_of : Move → List UnlinkHead
unlinks_of (Comes (up.Submit head transferred)) = []
unlinks_of (Comes (up.Unlink head)) = head ∷ []
unlinks_of _ = []

-- the arrival of a submit
abbrev pub IsArrival : Move → Type 0
IsArrival (Comes (up.Submit head transferred)) = Unit {0}
IsArrival _ = ⊥

-- A step as the queues see it: a submit arrives, or acts.
pub data Does (s : State) (move : Move) (puts : List Put) (t : State) : Type 0 where
  Arriving : (head : SubmitHead) (transferred : List ℕ) → move ≡ Comes (up.Submit head transferred) → IsSubmit head transferred
      → Avoids head.seqnum (pending s) → Arrives s head transferred puts t → Does s move puts t
  Acting : (IsArrival move → ⊥) → Acts t s (unlinks_of move) puts → Does s move puts t
