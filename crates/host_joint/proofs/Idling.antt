-- a device at rest of which nothing is pending: what it may do by itself
use Rattle.std.proofs.Common.{◌≡◌, ◌≢◌, ◌∙◌, ◌⊎◌, inl, inr, ℕ, true, List, [], refl, ap}
use Rattle.usbip_wire.specs.Up as up
use Rattle.tmc_law.specs.Endpoint.{Endpoint, Control, BulkOut, BulkIn, InterruptIn}
use Rattle.tmc_law.specs.State.{State, Pending, queue_of}
use Rattle.tmc_law.specs.Put.{Put, stalled}
use Rattle.tmc_law.specs.Halts.{all_ended, HaltsItself, DoesHalt}
use Rattle.tmc_law.specs.BulkOut as out
use Rattle.tmc_law.specs.Step.{Move, Comes, Refuses, Take, Exec, Begin, Fill, Answer, Pend, Poll, Notify, Halt, Unplug, Leads}
use Rattle.tmc_law.specs.Run.{taken}
use Rattle.host_joint.specs.Positions.{IsAt, rests}
use Rattle.host_joint.specs.Requests.{NoBulk}
use Rattle.host_joint.proofs.Resting.{rests_closed, no_take, no_fill}
use Rattle.host_joint.proofs.Requesting.{quiet_goes, no_answer, no_pend, no_first_poll}
use Rattle.host_joint.proofs.Triggering.{no_begin, no_notify}

pub record Idled (s t : State) (move : Move) (puts : List Put) : Type 0 where
  pub nothing : puts ≡ []
  pub rest : IsAt rests t
  pub control : t.control ≡ []
  pub shut : s.halted.bulk_out ≡ true → t.halted.bulk_out ≡ true
  pub no_answer : move ≢ Answer
  pub no_take : (count : ℕ) → move ≢ Take count

no_bulk : NoBulk []
no_bulk = record { outs = refl; ins = refl; unlinks = refl }

halted : (s t : State) (e : Endpoint) (puts : List Put) → ((d : Endpoint) → queue_of d s ≡ []) → IsAt rests t → HaltsItself s e puts t → Idled s t (Halt e) puts
halted s t Control puts empty rest (DoesHalt other usable put to) = absurd (other refl)
halted s t BulkOut puts empty rest (DoesHalt other usable put to) = record {
  nothing = put ∙ ap (λ (q : List Pending). all_ended stalled q) (empty BulkOut);
  rest = rest;
  control = ap (λ (x : State). x.control) to ∙ empty Control;
  shut = λ on. ap (λ (x : State). x.halted.bulk_out) to;
  no_answer = λ e. cc;
  no_take = λ count e. cc;
}
halted s t BulkIn puts empty rest (DoesHalt other usable put to) = record {
  nothing = put ∙ ap (λ (q : List Pending). all_ended stalled q) (empty BulkIn);
  rest = rest;
  control = ap (λ (x : State). x.control) to ∙ empty Control;
  shut = λ on. ap (λ (x : State). x.halted.bulk_out) to ∙ on;
  no_answer = λ e. cc;
  no_take = λ count e. cc;
}
halted s t InterruptIn puts empty rest (DoesHalt other usable put to) = record {
  nothing = put ∙ ap (λ (q : List Pending). all_ended stalled q) (empty InterruptIn);
  rest = rest;
  control = ap (λ (x : State). x.control) to ∙ empty Control;
  shut = λ on. ap (λ (x : State). x.halted.bulk_out) to ∙ on;
  no_answer = λ e. cc;
  no_take = λ count e. cc;
}

executed : (s t : State) (puts : List Put) → s.control ≡ [] → IsAt rests t → puts ≡ [] → out.Executes s t → Idled s t Exec puts
executed s t puts free rest none (out.DoesExecute seq message waits logs) = record {
  nothing = none;
  rest = rest;
  control = ap (λ (x : State). x.control) logs.is ∙ free;
  shut = λ on. ap (λ (x : State). x.halted.bulk_out) logs.is ∙ on;
  no_answer = λ e. cc;
  no_take = λ count e. cc;
}

pub idles : (s t : State) (move : Move) (puts : List Put) → ((d : Endpoint) → queue_of d s ≡ []) → IsAt rests s → taken move ≡ [] → move ≢ Unplug → Leads s move puts t → Idled s t move puts
idles s t (Comes message) puts empty rest none plugged h = absurd (cc)
idles s t (Refuses devid bytes f) puts empty rest none plugged h = record {
  nothing = h.1;
  rest = quiet_goes rests s t (Refuses devid bytes f) puts [] rests_closed no_bulk (empty Control) h rest;
  control = ap (λ (x : State). x.control) h.2 ∙ empty Control;
  shut = λ on. ap (λ (x : State). x.halted.bulk_out) h.2 ∙ on;
  no_answer = λ e. cc;
  no_take = λ count e. cc;
}
idles s t (Take count) puts empty rest none plugged h = absurd (no_take s t count puts rest.bulk_out h.1)
idles s t Exec puts empty rest none plugged h = executed s t puts (empty Control) (quiet_goes rests s t Exec puts [] rests_closed no_bulk (empty Control) h rest) h.1 h.0
idles s t (Begin count) puts empty rest none plugged h = absurd (no_begin s t count rest.side h.0)
idles s t (Fill count) puts empty rest none plugged h = absurd (no_fill s t count puts rest.bulk_in h)
idles s t Answer puts empty rest none plugged h = absurd (no_answer s t puts (empty Control) h)
idles s t Pend puts empty rest none plugged h = absurd (no_pend s t puts (empty Control) h)
idles s t Poll puts empty rest none plugged h = absurd (no_first_poll s t (empty Control) h.0)
idles s t Notify puts empty rest none plugged h = absurd (no_notify s t puts (empty InterruptIn) h)
idles s t (Halt e) puts empty rest none plugged h = halted s t e puts empty (quiet_goes rests s t (Halt e) puts [] rests_closed no_bulk (empty Control) h rest) h
idles s t Unplug puts empty rest none plugged h = absurd (plugged refl)

-- a move takes in a message, or none
pub one_taken : (move : Move) → (taken move ≡ []) ⊎ ((message : up.Message) × (move ≡ Comes message))
one_taken (Comes message) = inr (message, refl)
one_taken (Refuses devid bytes f) = inl refl
one_taken (Take count) = inl refl
one_taken Exec = inl refl
one_taken (Begin count) = inl refl
one_taken (Fill count) = inl refl
one_taken Answer = inl refl
one_taken Pend = inl refl
one_taken Poll = inl refl
one_taken Notify = inl refl
one_taken (Halt e) = inl refl
one_taken Unplug = inl refl
