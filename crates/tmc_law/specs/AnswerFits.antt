-- what the answers of a step are answers to, and how they fit it
use Rattle.std.specs.Prelude.{◌≡◌, ◌⊎◌, ℕ, ℤ, ◌≤◌, true, List, [], ◌∷◌, length}
use Rattle.usbip_wire.specs.declared.submit.SubmitHead.{SubmitHead}
use Rattle.usbip_wire.specs.declared.unlink.UnlinkHead.{UnlinkHead}
use Rattle.usbip_wire.specs.declared.ret_submit.RetSubmitHead.{RetSubmitHead}
use Rattle.usbip_wire.specs.declared.ret_unlink.RetUnlinkHead.{RetUnlinkHead}
use Rattle.usbip_wire.specs.Urb.{AreWide, Fits32}
use Rattle.usbip_wire.specs.RetSubmit.{Returns, ret_submit_bytes, unused}
use Rattle.usbip_wire.specs.RetUnlink.{ret_unlink_bytes, unused as unused_unlink}
use Rattle.usbip_wire.specs.Up as up
use Rattle.tmc_law.specs.Endpoint.{Endpoint, Control, InterruptIn, number_of}
use Rattle.tmc_law.specs.State.{State, Pending, Avoids, pending, is_halted}
use Rattle.tmc_law.specs.Put.{Put, Submitted, Unlinked, answer_of, unlink_answer, success, stalled, unlinked, unplugged}
use Rattle.tmc_law.specs.Queues.{Holds}
use Rattle.tmc_law.specs.Step.{Move, Comes, Take, Fill, Answer, Pend, Notify, Halt, Unplug}
use Rattle.tmc_law.specs.Laws.{NoneAnswers}

-- what holds of each answer
abbrev pub AllAnswers : (Put → Type 0) → List Put → Type 0
AllAnswers P [] = Unit {0}
AllAnswers P (put ∷ puts) = P put × AllAnswers P puts

-- The status of an answer to a submit, by the move: 0 or -32, and -108 by unplugging alone. The moves that are not named
-- answer none.
abbrev pub StatusBy : Move → ℤ → Type 0
StatusBy (Comes (up.Submit head transferred)) status = status ≡ stalled
StatusBy (Comes (up.Unlink head)) status = status ≡ success
StatusBy (Take count) status = (status ≡ success) ⊎ (status ≡ stalled)
StatusBy (Fill count) status = (status ≡ success) ⊎ (status ≡ stalled)
StatusBy Answer status = (status ≡ success) ⊎ (status ≡ stalled)
StatusBy Pend status = status ≡ success
StatusBy Notify status = (status ≡ success) ⊎ (status ≡ stalled)
StatusBy (Halt endpoint) status = status ≡ stalled
StatusBy Unplug status = status ≡ unplugged
StatusBy _ status = ⊥

-- What a step puts out is an answer to what came.
pub data IsAnswer (s : State) (move : Move) (t : State) (put : Put) : Type 0 where
  -- To a submit that was pending. A stall says that its endpoint is halted now, or is the control endpoint. A packet on
  -- Interrupt-IN has 2 bytes.
  ToPending : (endpoint : Endpoint) (before : List Pending) (submit : Pending) (behind : List Pending) (status : ℤ) (moved : List ℕ)
      → Holds s endpoint before submit behind → put ≡ answer_of submit.head status moved → length moved ≤ submit.head.length
      → StatusBy move status → (status ≡ stalled → (endpoint ≡ Control) ⊎ (is_halted endpoint t ≡ true))
      → (endpoint ≡ InterruptIn → status ≡ success → length moved ≡ 2) → IsAnswer s move t put
  -- to the submit that arrives and is turned away
  ToArriving : (head : SubmitHead) (transferred : List ℕ) → move ≡ Comes (up.Submit head transferred) → put ≡ answer_of head stalled []
      → IsAnswer s move t put
  -- to the unlink that arrives: 0 or -104
  ToUnlink : (head : UnlinkHead) (status : ℤ) → move ≡ Comes (up.Unlink head) → put ≡ unlink_answer head status
      → (status ≡ success) ⊎ (status ≡ unlinked) → IsAnswer s move t put

-- An answer fits the submit that it answers: it has its number, at most the bytes that were asked for, and data exactly
-- where it was IN. Its numbers and its status fit their fields.
pub record FitsSubmit (asked : SubmitHead) (answer : RetSubmitHead) (transferred : List ℕ) : Type 0 where
  pub number : answer.seqnum ≡ asked.seqnum
  pub within : answer.actual ≤ asked.length
  pub returned : Returns asked.dir answer.actual transferred
  pub wide : AreWide (answer.seqnum ∷ answer.actual ∷ [])
  pub status : Fits32 answer.status

-- the same of the answer to an unlink, which has no data
pub record FitsUnlink (asked : UnlinkHead) (answer : RetUnlinkHead) : Type 0 where
  pub number : answer.seqnum ≡ asked.seqnum
  pub wide : AreWide (answer.seqnum ∷ [])
  pub status : Fits32 answer.status

abbrev pub FitsAsked : Put → Type 0
FitsAsked (Submitted asked answer transferred) = FitsSubmit asked answer transferred
FitsAsked (Unlinked asked answer) = FitsUnlink asked answer

-- an answer as this product writes it
abbrev pub written : Put → List ℕ
written (Submitted asked answer transferred) = ret_submit_bytes answer unused transferred
written (Unlinked asked answer) = ret_unlink_bytes answer unused_unlink

-- where an answer is to a submit on endpoint 3 and says success, it has a packet of 2 bytes
abbrev pub HasPacket : Put → Type 0
HasPacket (Submitted asked answer transferred) =
    asked.ep ≡ number_of InterruptIn → answer.status ≡ success → (answer.actual ≡ 2) × (length transferred ≡ 2)
HasPacket (Unlinked asked answer) = Unit {0}

-- each submit is answered once in a step, and its number is not pending behind it
abbrev pub AreOnce : List Put → State → Type 0
AreOnce [] t = Unit {0}
AreOnce (Submitted asked answer transferred ∷ puts) t = NoneAnswers answer.seqnum puts × Avoids answer.seqnum (pending t) × AreOnce puts t
AreOnce (Unlinked asked answer ∷ puts) t = AreOnce puts t
