-- what the host does with an ask: it takes an answer
use Rattle.std.proofs.Common.{◌≡◌, ◌≢◌, ◌∙◌, ◌⊎◌, inl, inr, ℕ, ◌+◌, ◌≤◌, Bool, true, false, eqb, List, [], ◌∷◌, ◌++◌, length, None, refl, ap, sym, subst, append_assoc, append-nil, length-append, arith}
use Rattle.std.proofs.lemmas.Bool.{eq-eqb, eqb-true}
use Rattle.usbip_wire.specs.declared.submit.SubmitHead.{SubmitHead}
use Rattle.usbip_wire.specs.declared.ret_submit.RetSubmitHead.{RetSubmitHead}
use Rattle.usbip_wire.specs.declared.unlink.UnlinkHead.{UnlinkHead}
use Rattle.usbip_wire.specs.declared.ret_unlink.RetUnlinkHead.{RetUnlinkHead}
use Rattle.usbip_wire.specs.Up as up
use Rattle.tmc_law.specs.Endpoint.{Endpoint, BulkOut, BulkIn, number_of}
use Rattle.tmc_law.specs.State.{State}
use Rattle.tmc_law.specs.Put.{Put, Submitted, Unlinked, success, stalled}
use Rattle.host_joint.specs.Lines.{sent_to, Event, Gives, events_of}
use Rattle.host_joint.specs.Jobs.{Job, OutLine}
use Rattle.tmc_law.specs.State.{Idle}
use Rattle.tmc_law.specs.Logging.{unread}
use Rattle.tmc_law.specs.BulkIn.{piece_bytes}
use Rattle.tmc_wire.specs.Header.{in_header_bytes}
use Rattle.tmc_wire.specs.Transfer.{alignment_of}
use Rattle.host_joint.specs.Reads.{Still, Giving, Over, Torn, Flow, InLine, gives}
use Rattle.host_joint.specs.Stage.{Ran, NoneComes, Stage, Follows, Gathers, Waits, Rests, Owes, Sends, Sent, Tears, Barred, Dropped}
use Rattle.host_joint.specs.Asking.{Asking, AllTaken}
use Rattle.host_joint.specs.Hosted.{PieceEnd, InAnswered, TookFull, TookEnd, TookHalt}
use Rattle.host_joint.proofs.Owning.{NextRead, FullCame, ShortCame, HaltCame, next_read, take_own}
use Rattle.host_joint.proofs.Parts.{ask_of}

-- ---- the host takes the answer to a transfer

pub own_event : (e : Endpoint) (head : SubmitHead) (a : RetSubmitHead) (transferred : List ℕ) (downs : List Put) → head.ep ≡ number_of e
    → events_of e (Submitted head a transferred ∷ downs) ≡ Gives head a transferred ∷ events_of e downs
own_event e head a transferred downs is = rw (eq-eqb head.ep (number_of e) is) refl

pub other_event : (e : Endpoint) (head : SubmitHead) (a : RetSubmitHead) (transferred : List ℕ) (downs : List Put) (n : ℕ) → head.ep ≡ n → eqb n (number_of e) ≡ false
    → events_of e (Submitted head a transferred ∷ downs) ≡ events_of e downs
other_event e head a transferred downs n is other = rw (ap (λ (k : ℕ). eqb k (number_of e)) is ∙ other) refl

-- it says that the transfer was taken whole, or that Bulk-OUT halted
pub out_answered : (last : ℕ) (message : List ℕ) (tag size : ℕ) (written : List Job) (answered : ℕ) (sofar read : List ℕ) (gone : Bool) (ups : List up.Message) (head : SubmitHead) (a : RetSubmitHead) (transferred : List ℕ) (downs : List Put) (s : State)
    → head.ep ≡ 1 → Asking (ask_of last message tag size written answered sofar read gone) ups (Submitted head a transferred ∷ downs) s
    → ((a.status ≡ success) × (a.actual ≡ head.length) × Asking (ask_of last message tag size written (answered + 1) sofar read gone) ups downs s) ⊎ ((a.status ≡ stalled) × (s.halted.bulk_out ≡ true) × Asking (ask_of last message tag size written answered sofar read gone) ups downs s)
out_answered last message tag size written answered sofar read gone ups head a transferred downs s own h =
    by (subst (λ (l : List Event). AllTaken s.halted.bulk_out h.came l) (own_event BulkOut head a transferred downs own) h.taken)
  where
    by : AllTaken s.halted.bulk_out h.came (Gives head a transferred ∷ events_of BulkOut downs)
        → ((a.status ≡ success) × (a.actual ≡ head.length) × Asking (ask_of last message tag size written (answered + 1) sofar read gone) ups downs s) ⊎ ((a.status ≡ stalled) × (s.halted.bulk_out ≡ true) × Asking (ask_of last message tag size written answered sofar read gone) ups downs s)
    by (inr k) = inr (
      k.0,
      k.1,
      record {
        past = h.past;
        todo = h.todo;
        hit = h.hit;
        whole = h.whole;
        missed = h.missed;
        flow = h.flow;
        short = h.short;
        jobs = h.jobs;
        out = h.out;
        stage = h.stage;
        ins = subst (λ (l : List Event). InLine s.halted.bulk_in gone h.flow read (gives l) (sent_to BulkIn ups) s.bulk_in) (other_event BulkIn head a transferred downs 1 own refl) h.ins;
        reads = h.reads;
        came = 0;
        taken = k.3;
        counted = h.counted ∙ omega (arith, k.2);
        calm = h.calm;
      },
    )
    by (inl k) = inl (
      k.0,
      k.1,
      record {
        past = h.past;
        todo = h.todo;
        hit = h.hit;
        whole = h.whole;
        missed = h.missed;
        flow = h.flow;
        short = h.short;
        jobs = h.jobs;
        out = h.out;
        stage = h.stage;
        ins = subst (λ (l : List Event). InLine s.halted.bulk_in gone h.flow read (gives l) (sent_to BulkIn ups) s.bulk_in) (other_event BulkIn head a transferred downs 1 own refl) h.ins;
        reads = h.reads;
        came = k.2;
        taken = k.4;
        counted = h.counted ∙ omega (arith, k.3);
        calm = h.calm;
      },
    )

-- ---- the host takes the answer to a read

-- the stage behind a transfer that is over
record WasSent (last : ℕ) (message : List ℕ) (tag size : ℕ) (todo : List Job) (sofar bytes : List ℕ) (s : State) : Type 0 where
  pub response : List ℕ
  pub carried : List ℕ
  pub waits : s.waiting ≡ None
  pub part : s.part ≡ []
  pub idle : s.side ≡ Idle
  pub ran : Ran last message response s.log
  pub all : response ≡ sofar ++ (carried ++ unread s)
  pub fits : (1 ≤ length carried) × (length carried ≤ size)
  pub text : piece_bytes tag (length carried) (carried ++ unread s) ≡ bytes
  pub todo_none : todo ≡ []

one_over : (a b : List ℕ) → Over a ≡ Over b → a ≡ b
one_over a b e = cc

still_over : {B : Type 0} (flow : Flow) (bytes : List ℕ) → flow ≡ Still → flow ≡ Over bytes → B
still_over flow bytes a b = let e : Still ≡ Over bytes = sym a ∙ b in absurd (cc)

was_sent : (last : ℕ) (message : List ℕ) (tag size : ℕ) (past todo : List Job) (sofar : List ℕ) (flow : Flow) (bytes : List ℕ) (s : State) → flow ≡ Over bytes
    → Stage last message tag size past todo sofar flow s → WasSent last message tag size todo sofar bytes s
was_sent last message tag size past todo sofar flow bytes s over (Follows seq earlier waits other part idle none empty still carries at) = still_over flow bytes still over
was_sent last message tag size past todo sofar flow bytes s over (Gathers done rest whole waits part idle none empty still carries at own) = still_over flow bytes still over
was_sent last message tag size past todo sofar flow bytes s over (Waits waits part idle none empty still asks at) = still_over flow bytes still over
was_sent last message tag size past todo sofar flow bytes s over (Rests response waits part idle ran all still asks at further) = still_over flow bytes still over
was_sent last message tag size past todo sofar flow bytes s over (Owes response waits part owed ran all still none at further) = still_over flow bytes still over
was_sent last message tag size past todo sofar flow bytes s over (Barred shuts another part idle none empty still rest at) = still_over flow bytes still over
was_sent last message tag size past todo sofar flow bytes s over (Dropped response closed waits part idle ran all still none at) = still_over flow bytes still over
was_sent last message tag size past todo sofar flow bytes s over (Sends response carried given piece waits part sends ran all giving fits text none own at) = let e : Giving given ≡ Over bytes = sym giving ∙ over in absurd (cc)
was_sent last message tag size past todo sofar flow bytes s over (Tears response carried given dropped waits part idle ran all torn fits text none at) = let e : Torn given ≡ Over bytes = sym torn ∙ over in absurd (cc)
was_sent last message tag size past todo sofar flow bytes s over (Sent response carried given waits part idle ran all whole fits text none at) = record {
  response = response;
  carried = carried;
  waits = waits;
  part = part;
  idle = idle;
  ran = ran;
  all = all;
  fits = fits;
  text = text ∙ one_over given bytes (sym whole ∙ over);
  todo_none = none;
}

-- nothing is behind data of the same length
none_behind : (a b : List ℕ) → length a ≡ length (a ++ b) → b ≡ []
none_behind a b e = nil b (omega (arith, e, length-append a b))
  where
    nil : (l : List ℕ) → length l ≡ 0 → l ≡ []
    nil [] h = refl
    nil (x ∷ l) h = absurd (omega (arith, h))

same_length : (a b : List ℕ) → b ≡ [] → eqb (length a) (length (a ++ b)) ≡ false → ⊥
same_length a b none differ =
    let same : length a ≡ length (a ++ b) = sym (ap (λ (l : List ℕ). length l) (ap (λ (l : List ℕ). a ++ l) none ∙ append-nil a)) in
    let e : true ≡ false = sym (eq-eqb (length a) (length (a ++ b)) same) ∙ differ in cc

pub not_nothing : (sofar carried : List ℕ) → 1 ≤ length carried → sofar ++ carried ≢ []
not_nothing [] [] some e = omega (arith, some)
not_nothing [] (x ∷ carried) some e = cc
not_nothing (x ∷ sofar) carried some e = cc

none_came : (written past todo hit : List Job) (answered came : ℕ) → written ≡ past ++ (todo ++ hit) → length past ≡ answered + came → answered ≡ length written → came ≡ 0
none_came written past todo hit answered came whole counted all = omega (arith, counted, all, ap (λ (l : List Job). length l) whole, length-append past (todo ++ hit))

pub in_answered : (last : ℕ) (message : List ℕ) (tag size : ℕ) (written : List Job) (answered : ℕ) (sofar read : List ℕ) (gone : Bool) (ups : List up.Message) (head : SubmitHead) (a : RetSubmitHead) (transferred : List ℕ) (downs : List Put) (s : State)
    → head.ep ≡ 2 → Asking (ask_of last message tag size written answered sofar read gone) ups (Submitted head a transferred ∷ downs) s
    → InAnswered (ask_of last message tag size written answered sofar read gone) ups (Gives head a transferred) downs s
in_answered last message tag size written answered sofar read gone ups head a transferred downs s own h =
    by (next_read s.halted.bulk_in gone h.flow read (Gives head a transferred) (gives (events_of BulkIn downs)) (sent_to BulkIn ups) s.bulk_in
    (subst (λ (l : List Event). InLine s.halted.bulk_in gone h.flow read (gives l) (sent_to BulkIn ups) s.bulk_in) (own_event BulkIn head a transferred downs own) h.ins))
  where
    taken : AllTaken s.halted.bulk_out h.came (events_of BulkOut downs)
    taken = subst (λ (l : List Event). AllTaken s.halted.bulk_out h.came l) (other_event BulkOut head a transferred downs 2 own refl) h.taken

    ended : (bytes text : List ℕ) → text ≡ read ++ bytes → h.flow ≡ Over text → InLine s.halted.bulk_in gone Still [] (gives (events_of BulkIn downs)) (sent_to BulkIn ups) s.bulk_in
        → PieceEnd (ask_of last message tag size written answered sofar read gone) bytes ups downs s
    ended bytes text own_text over line =
        let w = was_sent last message tag size h.past h.todo sofar h.flow text s over h.stage in
        let all = w.all ∙ sym (append_assoc sofar w.carried (unread s)) in
        record {
          response = w.response;
          carried = w.carried;
          eom = eqb (length w.carried) (length (w.carried ++ unread s));
          ran = w.ran;
          some = w.fits.0;
          fits = w.fits.1;
          text = sym own_text ∙ sym w.text ∙ ap (λ (l : List ℕ). in_header_bytes (record { tag = tag; size = length w.carried; eom = eqb (length w.carried) (length (w.carried ++ unread s)) }) ++ (l ++ alignment_of (length w.carried))) (take_own w.carried (unread s));
          all = all;
          ended = λ last_one. all ∙ ap (λ (l : List ℕ). (sofar ++ w.carried) ++ l) (none_behind w.carried (unread s) (eqb-true _ _ last_one)) ∙ append-nil (sofar ++ w.carried);
          longer = λ goes_on empty. same_length w.carried (unread s) empty goes_on;
          next = λ later more answered_all. record {
            past = [];
            todo = [];
            hit = [];
            whole = refl;
            missed = λ kept usable. refl;
            flow = Still;
            short = h.short;
            jobs = tt;
            out = subst (λ (l : List Job). OutLine s.halted.bulk_out gone l (sent_to BulkOut ups) s.bulk_out s.transfer) w.todo_none h.out;
            stage = Rests w.response w.waits w.part w.idle w.ran all refl (NoneComes refl) (inr (refl, not_nothing sofar w.carried w.fits.0)) (λ some. absurd (some refl));
            ins = line;
            reads = h.reads;
            came = 0;
            taken = subst (λ (n : ℕ). AllTaken s.halted.bulk_out n (events_of BulkOut downs)) (none_came written h.past h.todo h.hit answered h.came h.whole h.counted answered_all) taken;
            counted = refl;
            calm = h.calm;
          };
        }

    by : NextRead s.halted.bulk_in gone h.flow read (Gives head a transferred) (gives (events_of BulkIn downs)) (sent_to BulkIn ups) s.bulk_in
        → InAnswered (ask_of last message tag size written answered sofar read gone) ups (Gives head a transferred) downs s
    by (HaltCame shuts halted line) = TookHalt shuts halted (record {
      past = h.past;
      todo = h.todo;
      hit = h.hit;
      whole = h.whole;
      missed = h.missed;
      flow = h.flow;
      short = h.short;
      jobs = h.jobs;
      out = h.out;
      stage = h.stage;
      ins = line;
      reads = h.reads;
      came = h.came;
      taken = taken;
      counted = h.counted;
      calm = h.calm;
    })
    by (ShortCame x bytes is small over whole line) = TookEnd x is small (ended x.bytes bytes whole over line)
    by (FullCame x is full line) = TookFull x is full (record {
      past = h.past;
      todo = h.todo;
      hit = h.hit;
      whole = h.whole;
      missed = h.missed;
      flow = h.flow;
      short = h.short;
      jobs = h.jobs;
      out = h.out;
      stage = h.stage;
      ins = line;
      reads = h.reads;
      came = h.came;
      taken = taken;
      counted = h.counted;
      calm = h.calm;
    })

-- ---- Interrupt-IN, and the answers to unlinks

pub other_answered : (last : ℕ) (message : List ℕ) (tag size : ℕ) (written : List Job) (answered : ℕ) (sofar read : List ℕ) (gone : Bool) (ups : List up.Message) (head : SubmitHead) (a : RetSubmitHead) (transferred : List ℕ) (downs : List Put) (s : State)
    → head.ep ≡ 3 → Asking (ask_of last message tag size written answered sofar read gone) ups (Submitted head a transferred ∷ downs) s → Asking (ask_of last message tag size written answered sofar read gone) ups downs s
other_answered last message tag size written answered sofar read gone ups head a transferred downs s own h = record {
  past = h.past;
  todo = h.todo;
  hit = h.hit;
  whole = h.whole;
  missed = h.missed;
  flow = h.flow;
  short = h.short;
  jobs = h.jobs;
  out = h.out;
  stage = h.stage;
  ins = subst (λ (l : List Event). InLine s.halted.bulk_in gone h.flow read (gives l) (sent_to BulkIn ups) s.bulk_in) (other_event BulkIn head a transferred downs 3 own refl) h.ins;
  reads = h.reads;
  came = h.came;
  taken = subst (λ (l : List Event). AllTaken s.halted.bulk_out h.came l) (other_event BulkOut head a transferred downs 3 own refl) h.taken;
  counted = h.counted;
  calm = h.calm;
}

pub unlink_answered : (last : ℕ) (message : List ℕ) (tag size : ℕ) (written : List Job) (answered : ℕ) (sofar read : List ℕ) (gone : Bool) (ups : List up.Message) (head : UnlinkHead) (a : RetUnlinkHead) (downs : List Put) (s : State)
    → Asking (ask_of last message tag size written answered sofar read gone) ups (Unlinked head a ∷ downs) s → Asking (ask_of last message tag size written answered sofar read gone) ups downs s
unlink_answered last message tag size written answered sofar read gone ups head a downs s h = record {
  past = h.past;
  todo = h.todo;
  hit = h.hit;
  whole = h.whole;
  missed = h.missed;
  flow = h.flow;
  short = h.short;
  jobs = h.jobs;
  out = h.out;
  stage = h.stage;
  ins = h.ins;
  reads = h.reads;
  came = h.came;
  taken = h.taken;
  counted = h.counted;
  calm = h.calm;
}
