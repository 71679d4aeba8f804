-- a ticket begins at a device at rest
use Rattle.std.proofs.Common.{◌≡◌, ◌∙◌, ℕ, ◌≤◌, Bool, true, false, eqb, List, [], ◌∷◌, ◌++◌, length, Option, Some, None, refl, ap, sym, subst}
use Rattle.std.proofs.lemmas.Bool.{eq-eqb}
use Rattle.usbip_wire.specs.Up as up
use Rattle.tmc_law.specs.Endpoint.{Endpoint, Control, BulkOut, BulkIn, number_of}
use Rattle.tmc_law.specs.State.{State, Waiting, Idle}
use Rattle.tmc_law.specs.BulkOut.{message_most}
use Rattle.host_joint.specs.Lines.{Sent, sent_to, Event}
use Rattle.host_joint.specs.Jobs.{Job, IsJob, AllJobs, OutLine, Unbegun, Shut}
use Rattle.host_joint.specs.Reads as reads
use Rattle.host_joint.specs.Reads.{Still}
use Rattle.host_joint.specs.Stage.{NoExec, IsAnother, Carries, Stage, Gathers, Follows, Barred}
use Rattle.host_joint.specs.Asking.{Asking, AtRest, IsQuiet, SentReads, AllTaken}
use Rattle.tmc_law.specs.Put.{Put}
use Rattle.host_joint.proofs.Parts.{ask_of}
use Rattle.host_joint.proofs.Sending.{sent-append, unlinks_same}

sent_one : (job : Job) (ups : List up.Message) → IsJob job → sent_to BulkOut ups ≡ [] → sent_to BulkOut (ups ++ up.Submit job.head job.bytes ∷ []) ≡ record { head = job.head; transferred = job.bytes } ∷ []
sent_one job ups is none =
    sent-append BulkOut ups (up.Submit job.head job.bytes ∷ []) ∙ ap (λ (l : List Sent). l ++ sent_to BulkOut (up.Submit job.head job.bytes ∷ [])) none ∙ rw (eq-eqb job.head.ep 1 is.number) refl

sent_none : (e : Endpoint) (job : Job) (ups : List up.Message) → IsJob job → eqb 1 (number_of e) ≡ false → sent_to e ups ≡ [] → sent_to e (ups ++ up.Submit job.head job.bytes ∷ []) ≡ []
sent_none e job ups is other none =
    sent-append e ups (up.Submit job.head job.bytes ∷ []) ∙ ap (λ (l : List Sent). l ++ sent_to e (up.Submit job.head job.bytes ∷ [])) none ∙ rw (ap (λ (n : ℕ). eqb n (number_of e)) is.number ∙ other) refl

stage : (last : ℕ) (message : List ℕ) (tag size : ℕ) (job : Job) (s : State) (o : Option Waiting) → s.waiting ≡ o → IsAnother last o → s.part ≡ [] → s.side ≡ Idle → NoExec last s.log
    → Carries last tag size message (job ∷ []) → Stage last message tag size [] (job ∷ []) [] Still s
stage last message tag size job s None waits another part idle none carries = Gathers [] message refl waits part idle none refl refl carries tt refl
stage last message tag size job s (Some w) waits another part idle none carries = Follows w.seq w.message waits another part idle none refl refl carries refl

-- the reads of an endpoint that is halted or not
ins : (shut : Bool) (coming : List Sent) (s : State) → s.bulk_in ≡ [] → s.halted.bulk_in ≡ shut → reads.InLine shut false Still [] [] coming s.bulk_in
ins false coming s none is = reads.Unread [] refl refl refl refl none tt
ins true coming s none is = reads.Closed [] [] refl refl (reads.NoneOf refl refl refl) tt none

-- the transfer is on its way, or Bulk-OUT is halted and it will never be taken
record Begins (last : ℕ) (message : List ℕ) (tag size : ℕ) (job : Job) (coming : List Sent) (s : State) : Type 0 where
  pub todo : List Job
  pub hit : List Job
  pub whole : job ∷ [] ≡ todo ++ hit
  pub missed : s.halted.bulk_out ≡ false → hit ≡ []
  pub jobs : AllJobs todo
  pub out : OutLine s.halted.bulk_out false todo coming s.bulk_out s.transfer
  pub stage : Stage last message tag size [] todo [] Still s

begins : (last : ℕ) (message : List ℕ) (tag size : ℕ) (job : Job) (coming : List Sent) (s : State) (shut : Bool) → s.halted.bulk_out ≡ shut → AtRest last s → IsJob job
    → coming ≡ record { head = job.head; transferred = job.bytes } ∷ [] → Carries last tag size message (job ∷ []) → Begins last message tag size job coming s
begins last message tag size job coming s false usable rest is come carries = record {
  todo = job ∷ [];
  hit = [];
  whole = refl;
  missed = λ usable_out. refl;
  jobs = (is, tt);
  out = Unbegun [] (job ∷ []) usable refl come rest.bulk_out rest.transfer;
  stage = stage last message tag size job s s.waiting refl rest.waiting rest.part rest.side rest.log carries;
}
begins last message tag size job coming s true shuts rest is come carries = record {
  todo = [];
  hit = job ∷ [];
  whole = refl;
  missed = λ usable_out. let e : true ≡ false = sym shuts ∙ usable_out in absurd (cc);
  jobs = tt;
  out = Shut shuts refl rest.bulk_out rest.transfer;
  stage = Barred shuts rest.waiting rest.part rest.side rest.log refl refl refl tt;
}

pub starts : (last : ℕ) (message : List ℕ) (tag size : ℕ) (job : Job) (ups : List up.Message) (downs : List Put) (s : State) → AtRest last s → IsQuiet ups downs → IsJob job
    → length message ≤ message_most → Carries last tag size message (job ∷ [])
    → Asking (ask_of last message tag size (job ∷ []) 0 [] [] false) (ups ++ up.Submit job.head job.bytes ∷ []) downs s
starts last message tag size job ups downs s rest quiet is short carries =
    let b = begins last message tag size job (sent_to BulkOut (ups ++ up.Submit job.head job.bytes ∷ [])) s s.halted.bulk_out refl rest is (sent_one job ups is quiet.bulk_out) carries in
    record {
      past = [];
      todo = b.todo;
      hit = b.hit;
      whole = b.whole;
      missed = λ kept. b.missed;
      flow = Still;
      short = short;
      jobs = b.jobs;
      out = b.out;
      stage = b.stage;
      ins = subst (λ (l : List Event). reads.InLine s.halted.bulk_in false Still [] (reads.gives l) (sent_to BulkIn (ups ++ up.Submit job.head job.bytes ∷ [])) s.bulk_in) (sym quiet.ins)
          (ins s.halted.bulk_in (sent_to BulkIn (ups ++ up.Submit job.head job.bytes ∷ [])) s rest.bulk_in refl);
      reads = subst (λ (l : List Sent). SentReads l) (sym (sent_none BulkIn job ups is refl quiet.bulk_in)) tt;
      came = 0;
      taken = subst (λ (l : List Event). AllTaken s.halted.bulk_out 0 l) (sym quiet.outs) refl;
      counted = refl;
      calm = record { control = rest.control; none_comes = sent_none Control job ups is refl quiet.control; running = rest.running; unlinks = λ e. unlinks_same job ups ∙ quiet.unlinks };
    }
