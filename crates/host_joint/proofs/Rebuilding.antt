-- what an ask reads of a state, and an ask from its parts
use Rattle.std.proofs.Common.{◌≡◌, ◌∙◌, ℕ, ◌+◌, ◌≤◌, Bool, false, eqb, ℤ, List, [], ◌∷◌, ◌++◌, length, map, Option, refl, ap, sym, subst, append-nil}
use Rattle.usbip_wire.specs.declared.submit.SubmitHead.{SubmitHead}
use Rattle.usbip_wire.specs.Up as up
use Rattle.tmc_law.specs.Endpoint.{Endpoint, BulkOut, BulkIn, number_of}
use Rattle.tmc_law.specs.State.{State, Pending, Transfer}
use Rattle.tmc_law.specs.Put.{Put, Submitted, answer_of}
use Rattle.tmc_law.specs.Halts.{all_ended}
use Rattle.tmc_law.specs.BulkOut as out
use Rattle.tmc_law.specs.BulkOut.{TakesEffect, Interrupts, message_most}
use Rattle.tmc_law.specs.Logging.{Logs}
use Rattle.tmc_law.specs.Run.{taken}
use Rattle.tmc_law.specs.Reached.{AllFit}
use Rattle.host_joint.proofs.Parts.{ask_of}
use Rattle.host_joint.specs.Lines.{sent_to, Event, Gives, Drops, events_of}
use Rattle.host_joint.specs.Jobs.{Job, AllJobs, OutLine}
use Rattle.host_joint.specs.Reads.{Flow, InLine, gives}
use Rattle.host_joint.specs.Stage.{Stage}
use Rattle.host_joint.specs.Asking.{SentReads, AllTaken, Calm, Asking}
use Rattle.host_joint.proofs.Flows.{events-append}
use Rattle.host_joint.proofs.Staging.{SameStage, stage_same}

-- ---- answers of other endpoints

pub events_same : (e : Endpoint) (downs puts : List Put) → events_of e puts ≡ [] → events_of e (downs ++ puts) ≡ events_of e downs
events_same e downs puts none = events-append e downs puts ∙ ap (λ (l : List Event). events_of e downs ++ l) none ∙ append-nil (events_of e downs)

-- the answer to a submit of another endpoint
pub other_event : (e : Endpoint) (head : SubmitHead) (answer : _) (transferred : List ℕ) (puts : List Put) (n : ℕ) → head.ep ≡ n → eqb n (number_of e) ≡ false
    → events_of e (Submitted head answer transferred ∷ puts) ≡ events_of e puts
other_event e head answer transferred puts n is other = rw (ap (λ (k : ℕ). eqb k (number_of e)) is ∙ other) refl

pub other_ended : (e d : Endpoint) (st : ℤ) (queue : List Pending) → AllFit d queue → eqb (number_of d) (number_of e) ≡ false → events_of e (all_ended st queue) ≡ []
other_ended e d st [] fit other = refl
other_ended e d st (first ∷ others) fit other =
    other_event e first.head _ _ (map (λ submit. answer_of submit.head st []) others) (number_of d) fit.0.number other ∙ rest others fit.1
  where
    rest : (l : List Pending) → AllFit d l → events_of e (map (λ submit. answer_of submit.head st []) l) ≡ []
    rest [] h = refl
    rest (x ∷ l) h = other_event e x.head _ _ (map (λ submit. answer_of submit.head st []) l) (number_of d) h.0.number other ∙ rest l h.1

-- ---- what a transfer's effect leaves alone

pub record Effect (s t : State) : Type 0 where
  pub bulk_out : t.bulk_out ≡ s.bulk_out
  pub bulk_in : t.bulk_in ≡ s.bulk_in
  pub transfer : t.transfer ≡ s.transfer
  pub control : t.control ≡ s.control
  pub running : t.running ≡ s.running
  pub out_halted : t.halted.bulk_out ≡ s.halted.bulk_out
  pub in_halted : t.halted.bulk_in ≡ s.halted.bulk_in

pub effect_is : (w s t : State) → t ≡ s → Effect w s → Effect w t
effect_is w s t is same = subst (λ (x : State). Effect w x) (sym is) same

pub effect_logs : (e : _) (w s t : State) → Effect w s → Logs e s t → Effect w t
effect_logs e w s t h logs = effect_is w _ t logs.is (record {
  bulk_out = h.bulk_out;
  bulk_in = h.bulk_in;
  transfer = h.transfer;
  control = h.control;
  running = h.running;
  out_halted = h.out_halted;
  in_halted = h.in_halted;
})

pub effect_own : (s : State) → Effect s s
effect_own s = record { bulk_out = refl; bulk_in = refl; transfer = refl; control = refl; running = refl; out_halted = refl; in_halted = refl }

pub effect_interrupts : (s t : State) → Interrupts s t → Effect s t
effect_interrupts s t (out.Dropped part some logs) = effect_logs _ s s t (effect_own s) logs
effect_interrupts s t (out.NothingUnread none is) = effect_is s s t is (effect_own s)
effect_interrupts s t (out.LaterPart part is) = effect_is s s t is (effect_own s)

pub effect_sides : (seq : ℕ) (transfer : Transfer) (s t : State) → TakesEffect seq transfer s t → Effect s t
effect_sides seq transfer s t (out.Part tag size message mid header text first is) =
    let h : Effect s mid = effect_interrupts s mid first in
    effect_is s _ t is (record { bulk_out = h.bulk_out; bulk_in = h.bulk_in; transfer = h.transfer; control = h.control; running = h.running; out_halted = h.out_halted; in_halted = h.in_halted })
effect_sides seq transfer s t (out.Last tag size message mid header text first is) =
    let h : Effect s mid = effect_interrupts s mid first in
    effect_is s _ t is (record { bulk_out = h.bulk_out; bulk_in = h.bulk_in; transfer = h.transfer; control = h.control; running = h.running; out_halted = h.out_halted; in_halted = h.in_halted })
effect_sides seq transfer s t (out.Requests tag size header some is) =
    effect_is s _ t is (record { bulk_out = refl; bulk_in = refl; transfer = refl; control = refl; running = refl; out_halted = refl; in_halted = refl })
effect_sides seq transfer s t (out.RequestsNothing tag size header none logs) =
    effect_logs _ s _ t (record { bulk_out = refl; bulk_in = refl; transfer = refl; control = refl; running = refl; out_halted = refl; in_halted = refl }) logs
effect_sides seq transfer s t (out.Triggers tag header logs) = effect_logs _ s s t (effect_own s) logs

pub stage_is : (w s t : State) → t ≡ s → SameStage w s → SameStage w t
stage_is w s t is same = subst (λ (x : State). SameStage w x) (sym is) same

-- ---- an ask from its parts

pub gives-append : (a b : List Event) → gives (a ++ b) ≡ gives a ++ gives b
gives-append [] b = refl
gives-append (Gives head answer transferred ∷ a) b = ap (λ (l : List Event). Gives head answer transferred ∷ l) (gives-append a b)
gives-append (Drops n ∷ a) b = gives-append a b

pub gives_of : (downs puts : List Put) → gives (events_of BulkIn (downs ++ puts)) ≡ gives (events_of BulkIn downs) ++ gives (events_of BulkIn puts)
gives_of downs puts = ap gives (events-append BulkIn downs puts) ∙ gives-append (events_of BulkIn downs) (events_of BulkIn puts)

-- how the transfers that the host wrote are divided, and how many of their answers are on their way
pub record Parts (written past todo hit : List Job) (answered : ℕ) (shut gone : Bool) (events : List Event) : Type 0 where
  pub whole : written ≡ past ++ (todo ++ hit)
  pub missed : gone ≡ false → shut ≡ false → hit ≡ []
  pub came : ℕ
  pub taken : AllTaken shut came events
  pub counted : length past ≡ answered + came

-- `w` is the state behind a move, but for what no side reads
pub rebuild : (last : ℕ) (message : List ℕ) (tag size : ℕ) (written : List Job) (answered : ℕ) (sofar read : List ℕ) (gone : Bool) (ups : List up.Message) (downs puts : List Put) (w t : State) → Effect w t → Calm gone ups w
    → (past todo hit : List Job) (flow : Flow) → length message ≤ message_most → AllJobs todo
    → OutLine w.halted.bulk_out gone todo (sent_to BulkOut ups) w.bulk_out w.transfer → Stage last message tag size past todo sofar flow t
    → InLine w.halted.bulk_in gone flow read (gives (events_of BulkIn downs) ++ gives (events_of BulkIn puts)) (sent_to BulkIn ups) w.bulk_in → SentReads (sent_to BulkIn ups)
    → Parts written past todo hit answered w.halted.bulk_out gone (events_of BulkOut downs ++ events_of BulkOut puts) → Asking (ask_of last message tag size written answered sofar read gone) ups (downs ++ puts) t
rebuild last message tag size written answered sofar read gone ups downs puts w t same calm past todo hit flow short jobs line stage ins rest parts = record {
  past = past;
  todo = todo;
  hit = hit;
  whole = parts.whole;
  missed = λ kept usable. parts.missed kept (sym same.out_halted ∙ usable);
  flow = flow;
  short = short;
  jobs = jobs;
  out = subst (λ (b : Bool). OutLine b gone todo (sent_to BulkOut ups) t.bulk_out t.transfer) (sym same.out_halted)
      (subst (λ (q : List Pending). OutLine w.halted.bulk_out gone todo (sent_to BulkOut ups) q t.transfer) (sym same.bulk_out)
      (subst (λ (x : Option Transfer). OutLine w.halted.bulk_out gone todo (sent_to BulkOut ups) w.bulk_out x) (sym same.transfer) line));
  stage = stage;
  ins = subst (λ (b : Bool). InLine b gone flow read (gives (events_of BulkIn (downs ++ puts))) (sent_to BulkIn ups) t.bulk_in) (sym same.in_halted)
      (subst (λ (q : List Pending). InLine w.halted.bulk_in gone flow read (gives (events_of BulkIn (downs ++ puts))) (sent_to BulkIn ups) q) (sym same.bulk_in)
      (subst (λ (l : List Event). InLine w.halted.bulk_in gone flow read l (sent_to BulkIn ups) w.bulk_in) (sym (gives_of downs puts)) ins));
  reads = rest;
  came = parts.came;
  taken = subst (λ (b : Bool). AllTaken b parts.came (events_of BulkOut (downs ++ puts))) (sym same.out_halted)
      (subst (λ (l : List Event). AllTaken w.halted.bulk_out parts.came l) (sym (events-append BulkOut downs puts)) parts.taken);
  counted = parts.counted;
  calm = record { control = same.control ∙ calm.control; none_comes = calm.none_comes; running = same.running ∙ calm.running; unlinks = calm.unlinks };
}

pub is_effect : (w t : State) → t ≡ w → Effect w t
is_effect w t is = effect_is w w t is (effect_own w)

pub calm_of : (gone : Bool) (ups : List up.Message) (s w : State) → w.control ≡ s.control → w.running ≡ s.running → Calm gone ups s → Calm gone ups w
calm_of gone ups s w control running calm = record { control = control ∙ calm.control; none_comes = calm.none_comes; running = running ∙ calm.running; unlinks = calm.unlinks }

-- the events of a side to which no answer goes
pub no_ins : (downs puts : List Put) → events_of BulkIn puts ≡ [] → gives (events_of BulkIn downs) ++ gives (events_of BulkIn puts) ≡ gives (events_of BulkIn downs)
no_ins downs puts none = ap (λ (l : List Event). gives (events_of BulkIn downs) ++ gives l) none ∙ append-nil (gives (events_of BulkIn downs))

pub no_outs : (downs puts : List Put) → events_of BulkOut puts ≡ [] → events_of BulkOut downs ++ events_of BulkOut puts ≡ events_of BulkOut downs
no_outs downs puts none = ap (λ (l : List Event). events_of BulkOut downs ++ l) none ∙ append-nil (events_of BulkOut downs)

-- no answer is added
pub same_parts : (written past todo hit : List Job) (answered : ℕ) (shut gone : Bool) (a b : List Event) → b ≡ [] → written ≡ past ++ (todo ++ hit) → (came : ℕ) → AllTaken shut came a
    → length past ≡ answered + came → (gone ≡ false → shut ≡ false → hit ≡ []) → Parts written past todo hit answered shut gone (a ++ b)
same_parts written past todo hit answered shut gone a b none whole came taken counted missed =
    record { whole = whole; missed = missed; came = came; taken = subst (λ (l : List Event). AllTaken shut came l) (sym (ap (λ (l : List Event). a ++ l) none ∙ append-nil a)) taken; counted = counted }

-- ---- a move that leaves the ask alone

pub alone : (last : ℕ) (message : List ℕ) (tag size : ℕ) (written : List Job) (answered : ℕ) (sofar read : List ℕ) (gone : Bool) (ups : List up.Message) (downs puts : List Put) (s t : State) → Effect s t → SameStage s t → events_of BulkOut puts ≡ [] → events_of BulkIn puts ≡ []
    → Asking (ask_of last message tag size written answered sofar read gone) ups downs s → Asking (ask_of last message tag size written answered sofar read gone) ups (downs ++ puts) t
alone last message tag size written answered sofar read gone ups downs puts s t same stage outs ins a =
    rebuild last message tag size written answered sofar read gone ups downs puts s t same a.calm a.past a.todo a.hit a.flow a.short a.jobs a.out (stage_same last message tag size a.past a.todo sofar a.flow s t stage a.stage)
    (subst (λ (l : List Event). InLine s.halted.bulk_in gone a.flow read l (sent_to BulkIn ups) s.bulk_in) (sym (no_ins downs puts ins)) a.ins) a.reads
    (same_parts _ _ _ _ _ _ _ (events_of BulkOut downs) (events_of BulkOut puts) outs a.whole a.came a.taken a.counted a.missed)
