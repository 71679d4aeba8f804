-- submits arrive
use Rattle.std.proofs.Common.{◌≡◌, inl, inr, ℕ, ◌<◌, Bool, true, false, List, [], ◌∷◌, ◌++◌, length, Result, Ok, Err, OnOk, refl, arith}
use Rattle.usbip_wire.specs.declared.submit.SubmitHead.{SubmitHead}
use Rattle.usbip_wire.specs.Up as up
use Rattle.tmc_law.specs.Endpoint.{Endpoint, Control}
use Rattle.tmc_law.specs.State.{Pending, Plugged, arrived, pending, Avoids, queue_of, with_queue}
use Rattle.tmc_law.specs.Put.{answer_of, stalled}
use Rattle.tmc_law.specs.Queues.{IsSubmit, IsTaken, Queued, TurnedAway, pending_most}
use Rattle.tmc_law.specs.Step.{Comes}
use Rattle.endpoint_pipes.specs.Held.{all_of, IsPending}
use Rattle.endpoint_pipes.specs.Part.{queue_from}
use Rattle.tmc_device.specs.declared.body.Body.{Body}
use Rattle.tmc_device.specs.Seen.{Makes}
use Rattle.tmc_device.specs.Body.{state_of, seen_of}
use Rattle.tmc_device.proofs.Making.{quiet, loud}

same_length : (polled : Bool) (list rest : List Pending) → length (queue_from Control polled list ++ rest) ≡ length (list ++ rest)
same_length true [] rest = refl
same_length true (first ∷ others) rest = refl
same_length false list rest = refl

-- as many are pending as the pipes have
pub pending_length : (body : Body) → length (pending (state_of body)) ≡ length (all_of body.pipes)
pending_length body = same_length body.polled body.pipes.control (body.pipes.bulk_out ++ (body.pipes.bulk_in ++ body.pipes.interrupt_in))

same_avoids : (n : ℕ) (polled : Bool) (list rest : List Pending) → Avoids n (list ++ rest) → Avoids n (queue_from Control polled list ++ rest)
same_avoids n true [] rest h = h
same_avoids n true (first ∷ others) rest h = h
same_avoids n false list rest h = h

avoids_back : (n : ℕ) (polled : Bool) (list rest : List Pending) → Avoids n (queue_from Control polled list ++ rest) → Avoids n (list ++ rest)
avoids_back n true [] rest h = h
avoids_back n true (first ∷ others) rest h = h
avoids_back n false list rest h = h

pub pending_avoids : (n : ℕ) (body : Body) → Avoids n (all_of body.pipes) → Avoids n (pending (state_of body))
pending_avoids n body h = same_avoids n body.polled body.pipes.control (body.pipes.bulk_out ++ (body.pipes.bulk_in ++ body.pipes.interrupt_in)) h

among : (n : ℕ) (list : List Pending) → IsPending n list → Avoids n list → ⊥
among n [] there h = there
among n (submit ∷ list) (inl here) h = h.0 here
among n (submit ∷ list) (inr there) h = among n list there h.1

pub not_avoided : (n : ℕ) (body : Body) → IsPending n (all_of body.pipes) → Avoids n (pending (state_of body)) → ⊥
not_avoided n body there h =
    among n (all_of body.pipes) there (avoids_back n body.polled body.pipes.control (body.pipes.bulk_out ++ (body.pipes.bulk_in ++ body.pipes.interrupt_in)) h)

pub on_ok_by : {A E : Type 0} (P Q : Type 0) (r : Result A E) → (P → Q) → OnOk r P → OnOk r Q
on_ok_by P Q (Ok a) f p = f p
on_ok_by P Q (Err e) f p = tt

module _ (body new : Body) (head : SubmitHead) (bytes : List ℕ) (plugged : (state_of body).presence ≡ Plugged) (came : IsSubmit head bytes)
    (free : Avoids head.seqnum (all_of body.pipes)) (few : length (all_of body.pipes) < pending_most) where
  few_pending : length (pending (state_of body)) < pending_most
  few_pending = let same = pending_length body in omega (arith, same, few)

  -- it comes behind the others
  pub queued : (endpoint : Endpoint) → IsTaken (state_of body) head endpoint → new.outputs.puts ≡ body.outputs.puts
      → state_of new ≡ with_queue endpoint (queue_of endpoint (state_of body) ++ arrived head bytes ∷ []) (state_of body) → Makes (Comes (up.Submit head bytes)) (seen_of body) (seen_of new)
  queued endpoint taken puts state =
      quiet (Comes (up.Submit head bytes)) (seen_of body) (seen_of new) plugged (came, pending_avoids head.seqnum body free, few_pending, Queued endpoint taken refl state) puts

  -- it is answered at once
  pub turned_away : ((endpoint : Endpoint) → IsTaken (state_of body) head endpoint → ⊥) → new.outputs.puts ≡ body.outputs.puts ++ answer_of head stalled [] ∷ []
      → state_of new ≡ state_of body → Makes (Comes (up.Submit head bytes)) (seen_of body) (seen_of new)
  turned_away none puts state =
      loud (Comes (up.Submit head bytes)) (seen_of body) (seen_of new) (answer_of head stalled [] ∷ []) plugged
      (came, pending_avoids head.seqnum body free, few_pending, TurnedAway none refl state) puts
