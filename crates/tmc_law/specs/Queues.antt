-- the queues of the endpoints, and unlinks (USB 2.0, section 5.3.2; Linux kernel documentation, "USB/IP protocol")
use Rattle.std.specs.Prelude.{◌≡◌, ℕ, true, false, List, [], ◌∷◌, ◌++◌, length, slice_index}
use Rattle.usbip_wire.specs.declared.submit.SubmitHead.{SubmitHead}
use Rattle.usbip_wire.specs.declared.unlink.UnlinkHead.{UnlinkHead}
use Rattle.usbip_wire.specs.Urb.{AreWide}
use Rattle.usbip_wire.specs.Given.{IsBytes}
use Rattle.usbip_wire.specs.Submit.{Carries}
use Rattle.usb_setup.specs.declared.setup.Setup.{Setup}
use Rattle.tmc_wire.specs.declared.class_request.ClassRequest.TheVariants.{ReadStatus}
use Rattle.tmc_wire.specs.ControlTable.{IsRow}
use Rattle.tmc_wire.specs.ClassStatus.{STATUS_SUCCESS}
use Rattle.tmc_law.specs.Endpoint.{Endpoint, number_of, way_of, ends}
use Rattle.tmc_law.specs.State.{State, Pending, arrived, queue_of, with_queue, pending, Avoids, is_halted}
use Rattle.tmc_law.specs.Put.{Put, answer_of, unlink_answer, success, stalled, unlinked}
use Rattle.tmc_law.specs.Control.{Asks, control_answer}
use Rattle.tmc_law.specs.Status.{status_layout}

-- a device has at most so many pending submits
abbrev pub pending_most : ℕ
pending_most = 256

-- What arrives as a submit, whatever its devid and its endpoint: numbers of 32 bits, a setup packet of eight bytes, and
-- with it the bytes of its data where it is OUT, and none where it is IN.
pub record IsSubmit (head : SubmitHead) (transferred : List ℕ) : Type 0 where
  pub wide : AreWide (head.seqnum ∷ head.devid ∷ head.ep ∷ head.length ∷ [])
  pub eight : length head.setup ≡ 8
  pub setup : IsBytes head.setup
  pub carried : Carries head.dir head.length transferred
  pub bytes : IsBytes transferred

-- what arrives as an unlink: numbers of 32 bits
abbrev pub IsUnlink : UnlinkHead → Type 0
IsUnlink head = AreWide (head.seqnum ∷ head.devid ∷ head.target ∷ [])

-- the submit's endpoint is there, takes data this way, and is not halted
pub record IsTaken (s : State) (head : SubmitHead) (endpoint : Endpoint) : Type 0 where
  pub number : head.ep ≡ number_of endpoint
  pub way : head.dir ≡ way_of endpoint (slice_index head.setup 0)
  pub usable : is_halted endpoint s ≡ false

-- A submit arrives: it is the last of its endpoint's queue. One on another endpoint, on a halted endpoint or in the wrong
-- direction is answered at once.
pub data Arrives (s : State) (head : SubmitHead) (transferred : List ℕ) (puts : List Put) (t : State) : Type 0 where
  Queued : (endpoint : Endpoint) → IsTaken s head endpoint → puts ≡ []
      → t ≡ with_queue endpoint (queue_of endpoint s ++ arrived head transferred ∷ []) s → Arrives s head transferred puts t
  TurnedAway : ((endpoint : Endpoint) → IsTaken s head endpoint → ⊥) → puts ≡ answer_of head stalled [] ∷ [] → t ≡ s
      → Arrives s head transferred puts t

-- the submit stands in this queue, between these
abbrev pub Holds : State → Endpoint → (before : List Pending) → Pending → (behind : List Pending) → Type 0
Holds s endpoint before submit behind = queue_of endpoint s ≡ before ++ submit ∷ behind

-- An unlink arrives. It hits a pending submit, which leaves its queue with the packets that it had and is never answered.
-- A status request that was polled is answered first, and so the unlink misses. Any other unlink misses.
pub data Unlinks (s : State) (head : UnlinkHead) (puts : List Put) (t : State) : Type 0 where
  Hits : (endpoint : Endpoint) (before : List Pending) (submit : Pending) (behind : List Pending)
      → Holds s endpoint before submit behind → submit.head.seqnum ≡ head.target → submit.polled ≡ false
      → puts ≡ unlink_answer head unlinked ∷ [] → t ≡ with_queue endpoint (before ++ behind) s → Unlinks s head puts t
  Polled : (endpoint : Endpoint) (before : List Pending) (submit : Pending) (behind : List Pending)
      → (setup : Setup) (tag : ℕ)
      → Holds s endpoint before submit behind → submit.head.seqnum ≡ head.target → submit.polled ≡ true
      → Asks submit setup → IsRow ends (ReadStatus tag) setup
      → puts ≡ control_answer submit setup (status_layout STATUS_SUCCESS tag) ∷ unlink_answer head success ∷ []
      → t ≡ with_queue endpoint (before ++ behind) s → Unlinks s head puts t
  Misses : Avoids head.target (pending s) → puts ≡ unlink_answer head success ∷ [] → t ≡ s → Unlinks s head puts t
