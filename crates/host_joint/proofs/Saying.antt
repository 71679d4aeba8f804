-- a message whose last transfer so far is cancelled, or may be
use Rattle.std.proofs.Common.{◌≡◌, ◌∙◌, ◌⊎◌, inl, inr, ℕ, ◌+◌, Bool, true, false, eqb, List, [], ◌∷◌, ◌++◌, length, Option, Some, None, refl, ap, sym, subst, append-nil, length-append, arith}
use Rattle.usbip_wire.specs.declared.submit.SubmitHead.{SubmitHead}
use Rattle.usbip_wire.specs.declared.unlink.UnlinkHead.{UnlinkHead}
use Rattle.usbip_wire.specs.declared.ret_submit.RetSubmitHead.{RetSubmitHead}
use Rattle.usbip_wire.specs.declared.ret_unlink.RetUnlinkHead.{RetUnlinkHead}
use Rattle.usbip_wire.specs.Up as up
use Rattle.tmc_wire.specs.declared.header.OutHeader.{OutHeader}
use Rattle.tmc_wire.specs.declared.header.OutHeader.TheVariants.{Message, Request}
use Rattle.tmc_law.specs.Endpoint.{BulkOut, BulkIn}
use Rattle.tmc_law.specs.State.{State}
use Rattle.tmc_law.specs.Aborts.{tag_of}
use Rattle.tmc_law.specs.Put.{Put, Submitted, Unlinked, stalled, success}
use Rattle.tmc_law.specs.Numbers.{AllBelow, Rises, numbers}
use Rattle.tmc_law.specs.Run.{taken}
use Rattle.host_joint.specs.Lines.{unlinks_in, unlinked_by}
use Rattle.host_joint.specs.Jobs.{Job, last_header}
use Rattle.host_joint.specs.Stage.{IsInner, IsFinal}
use Rattle.host_joint.specs.Asking.{Asking}
use Rattle.host_joint.specs.Positions.{IsAt, rests, out_begun, out_first}
use Rattle.host_joint.specs.Hand.{Hand, Free, Says, Said, Reads, Pauses, IsTransfer, Speaks, WritesPart, WritesLast}
use Rattle.host_joint.specs.Tie.{asked_of, ask_with, IsSaying, HasSaid, Tie}
use Rattle.host_joint.specs.Bond.{Bond, WasReading, taken_of, WasSaying, Saying, MayBeCancelled, cancelled_with, begins, Bound, IsUnlinkOf, TakesPart}
use Rattle.host_joint.proofs.Listing.{last_more}
use Rattle.host_joint.proofs.Numbered.{below_next}
use Rattle.host_joint.proofs.Booking.{unlink_written}
use Rattle.host_joint.proofs.Hosting as hosting
use Rattle.host_joint.proofs.Hosting.{out_answered}
use Rattle.host_joint.proofs.Sending.{unlinks_written}
use Rattle.host_joint.proofs.Handing.{hands_out, hands_part, hands_first, hands_message}
use Rattle.host_joint.proofs.Running.{AskLaws}
use Rattle.host_joint.proofs.Transfers.{WireLaws}
use Rattle.host_joint.proofs.Tying.{none_unlinked, in_order}
use Rattle.host_joint.proofs.Writing.{one_transfer, goes_on_part, ends_part, writes_kept}
use Rattle.host_joint.proofs.Bonding.{Keeps, cancelled_goes}
use Rattle.host_joint.proofs.Cancelling.{good_fits, none_came, fitting_more, order_more, numbers_same, unlinking_one, unlinked_bond, empty, same_head, bound_after, none_waits, counted_of}

-- the same transfers, elsewhere
again : (tag : ℕ) (first ended taken_it : Bool) (ups others : List up.Message) (downs more : List Put) (s t : State) → (h : WasSaying tag first ended taken_it ups downs s)
    → Asking (cancelled_with h.last h.message h.mark h.size (h.front ++ h.job ∷ []) h.answered [] []) others more t → WasSaying tag first ended taken_it others more t
again tag first ended taken_it ups others downs more s t h asking = record {
  last = h.last;
  message = h.message;
  mark = h.mark;
  size = h.size;
  front = h.front;
  job = h.job;
  answered = h.answered;
  asking = asking;
  counted = h.counted;
  inner = h.inner;
  header = h.header;
  alone = h.alone;
  goes_on = h.goes_on;
  final = h.final;
}

-- ---- each step keeps them

pub saying_keeps : (laws : AskLaws) (tag : ℕ) (first ended taken_it : Bool) (waits : Option SubmitHead) (unlinks : List UnlinkHead) → MayBeCancelled waits unlinks
    → Keeps (WasSaying tag first ended taken_it) (asked_of waits) unlinks
saying_keeps laws tag first ended taken_it waits unlinks unlinking run s t move ups downs puts reached step plugged fit order lines h =
    again tag first ended taken_it (taken move ++ ups) ups downs (downs ++ puts) s t h
    (cancelled_goes laws run (asked_of waits) unlinks _ s t move ups downs puts reached step fit order plugged unlinking lines h.asking)

-- ---- a transfer of a message is written

-- an ask of which nothing was unlinked may be one that is cancelled
pub may_go : (last : ℕ) (message : List ℕ) (tag size : ℕ) (written : List Job) (answered : ℕ) (sofar read : List ℕ) (ups : List up.Message) (downs : List Put) (s : State)
    → Asking (ask_with last message tag size written answered sofar read) ups downs s → Asking (cancelled_with last message tag size written answered sofar read) ups downs s
may_go last message tag size written answered sofar read ups downs s h =
    subst (λ (l : List up.Message). Asking (cancelled_with last message tag size written answered sofar read) l downs s) (append-nil ups) (unlinks_written last message tag size written answered sofar read false ups downs s [] h)

from_part : (tag : ℕ) (first : Bool) (message said : List ℕ) (head : SubmitHead) (ups : List up.Message) (downs : List Put) (s : State) → (h : IsSaying message said (Some head) ups downs s) → head.ep ≡ 1
    → tag_of h.job.header ≡ tag → (first ≡ true → h.front ≡ []) → WasSaying tag first false false ups downs s
from_part tag first message said head ups downs s h own header alone = record {
  last = h.last;
  message = message;
  mark = h.tag;
  size = h.size;
  front = h.front;
  job = h.job;
  answered = h.answered;
  asking = may_go h.last message h.tag h.size (h.front ++ h.job ∷ []) h.answered [] [] ups downs s h.asking;
  counted = omega (arith, h.counted, one_transfer head own, length-append h.front (h.job ∷ []));
  inner = h.inner;
  header = header;
  alone = alone;
  goes_on = λ e. h.goes_on;
  final = λ e. absurd (cc);
}

from_last : (tag : ℕ) (first : Bool) (last : ℕ) (message : List ℕ) (head : SubmitHead) (ups : List up.Message) (downs : List Put) (s : State) → (h : HasSaid last message (Some head) ups downs s) → head.ep ≡ 1
    → tag_of h.job.header ≡ tag → (first ≡ true → h.front ≡ []) → WasSaying tag first true false ups downs s
from_last tag first last message head ups downs s h own header alone = record {
  last = last;
  message = message;
  mark = h.tag;
  size = h.size;
  front = h.front;
  job = h.job;
  answered = h.answered;
  asking = may_go last message h.tag h.size (h.front ++ h.job ∷ []) h.answered [] [] ups downs s h.asking;
  counted = omega (arith, h.counted, one_transfer head own, length-append h.front (h.job ∷ []));
  inner = h.inner;
  header = header;
  alone = alone;
  goes_on = λ e. absurd (cc);
  final = λ e. h.ended;
}

part_of : (laws : WireLaws) (before : Hand) (head : SubmitHead) (bytes : List ℕ) (tag : ℕ) (message said text more : List ℕ) (ups : List up.Message) (downs : List Put) (s : State)
    → Tie before None head.seqnum ups downs s → Speaks before message said → message ≡ said ++ (text ++ more)
    → IsTransfer head (Message tag (length text) false) text bytes → WasSaying tag (begins before) false false (ups ++ up.Submit head bytes ∷ []) downs s
unfolding goes_on_part
part_of laws Free head bytes tag message said text more ups downs s tie speaks whole is =
    from_part tag true message (said ++ text) head (ups ++ up.Submit head bytes ∷ []) downs s (goes_on_part laws Free head bytes tag message said text more ups downs s tie tie.held speaks whole is) is.number refl (λ e. refl)
part_of laws (Says other first) head bytes tag message said text more ups downs s tie speaks whole is =
    from_part tag false other (first ++ text) head (ups ++ up.Submit head bytes ∷ []) downs s
    (goes_on_part laws (Says other first) head bytes tag other first text more ups downs s tie tie.held (refl, refl) (sym speaks.0 ∙ whole ∙ ap (λ (l : List ℕ). l ++ (text ++ more)) speaks.1) is)
    is.number refl (λ e. absurd (cc))
part_of laws (Said last other) head bytes tag message said text more ups downs s tie speaks whole is = absurd speaks
part_of laws (Reads last other t n sofar read) head bytes tag message said text more ups downs s tie speaks whole is = absurd speaks
part_of laws (Pauses last other sofar) head bytes tag message said text more ups downs s tie speaks whole is = absurd speaks

last_of : (laws : WireLaws) (before : Hand) (head : SubmitHead) (bytes : List ℕ) (tag : ℕ) (message said text : List ℕ) (ups : List up.Message) (downs : List Put) (s : State)
    → Tie before None head.seqnum ups downs s → Speaks before message said → message ≡ said ++ text
    → IsTransfer head (Message tag (length text) true) text bytes → WasSaying tag (begins before) true false (ups ++ up.Submit head bytes ∷ []) downs s
unfolding ends_part
last_of laws Free head bytes tag message said text ups downs s tie speaks whole is =
    from_last tag true head.seqnum message head (ups ++ up.Submit head bytes ∷ []) downs s (ends_part laws Free head bytes tag message said text ups downs s tie tie.held speaks whole is) is.number refl (λ e. refl)
last_of laws (Says other first) head bytes tag message said text ups downs s tie speaks whole is =
    from_last tag false head.seqnum other head (ups ++ up.Submit head bytes ∷ []) downs s
    (ends_part laws (Says other first) head bytes tag other first text ups downs s tie tie.held (refl, refl) (sym speaks.0 ∙ whole ∙ ap (λ (l : List ℕ). l ++ text) speaks.1) is)
    is.number refl (λ e. absurd (cc))
last_of laws (Said last other) head bytes tag message said text ups downs s tie speaks whole is = absurd speaks
last_of laws (Reads last other t n sofar read) head bytes tag message said text ups downs s tie speaks whole is = absurd speaks
last_of laws (Pauses last other sofar) head bytes tag message said text ups downs s tie speaks whole is = absurd speaks

tied_bond : (More : List up.Message → List Put → State → Type 0) (hand : Hand) (waits : Option SubmitHead) (next : ℕ) (ups : List up.Message) (downs : List Put) (s : State)
    → Tie hand waits next ups downs s → More ups downs s → Bond More (asked_of waits) [] next ups downs s
tied_bond More hand waits next ups downs s tie held = record {
  run = tie.run;
  reached = tie.reached;
  lines = tie.lines;
  fitting = tie.fitting;
  order = in_order ups (none_unlinked (unlinked_by downs) (unlinks_in ups) tie.lines.unlinked).1;
  fits = good_fits downs tie.good;
  rises = tie.rises;
  below = tie.below;
  held = held;
}

pub writes_part : (laws : WireLaws) (before : Hand) (head : SubmitHead) (bytes : List ℕ) (tag : ℕ) (message said text more : List ℕ) (next : ℕ) (ups : List up.Message) (downs : List Put) (s : State)
    → Speaks before message said → message ≡ said ++ (text ++ more) → IsTransfer head (Message tag (length text) false) text bytes → head.seqnum ≡ next → Tie before None next ups downs s
    → Bound (Saying tag (begins before) false false) (Some head) [] (next + 1) (ups ++ up.Submit head bytes ∷ []) downs s
writes_part laws before head bytes tag message said text more next ups downs s speaks whole is number tie = record {
  bond = tied_bond _ (Says message (said ++ text)) (Some head) (next + 1) (ups ++ up.Submit head bytes ∷ []) downs s
      (writes_kept laws before (Says message (said ++ text)) head bytes next ups downs s (WritesPart tag message said text more speaks whole is refl) number tie)
      (part_of laws before head bytes tag message said text more ups downs s (subst (λ (n : ℕ). Tie before None n ups downs s) (sym number) tie) speaks whole is);
  awaited = inr refl;
}

pub writes_last : (laws : WireLaws) (before : Hand) (head : SubmitHead) (bytes : List ℕ) (tag : ℕ) (message said text : List ℕ) (next : ℕ) (ups : List up.Message) (downs : List Put) (s : State)
    → Speaks before message said → message ≡ said ++ text → IsTransfer head (Message tag (length text) true) text bytes → head.seqnum ≡ next → Tie before None next ups downs s
    → Bound (Saying tag (begins before) true false) (Some head) [] (next + 1) (ups ++ up.Submit head bytes ∷ []) downs s
writes_last laws before head bytes tag message said text next ups downs s speaks whole is number tie = record {
  bond = tied_bond _ (Said head.seqnum message) (Some head) (next + 1) (ups ++ up.Submit head bytes ∷ []) downs s
      (writes_kept laws before (Said head.seqnum message) head bytes next ups downs s (WritesLast tag message said text speaks whole is refl) number tie)
      (last_of laws before head bytes tag message said text ups downs s (subst (λ (n : ℕ). Tie before None n ups downs s) (sym number) tie) speaks whole is);
  awaited = inr refl;
}

-- an ask that is read, of which nothing was unlinked, with what an endpoint's halt leaves of it
pub may_read : (last : ℕ) (message : List ℕ) (tag size : ℕ) (sofar read : List ℕ) (head : SubmitHead) (next : ℕ) (ups : List up.Message) (downs : List Put) (s : State)
    → Tie (Reads last message tag size sofar read) (Some head) next ups downs s
    → Bond (WasReading last message tag size sofar read (taken_of head)) (asked_of (Some head)) [] next ups downs s
may_read last message tag size sofar read head next ups downs s tie =
    let h = tie.held in
    tied_bond (WasReading last message tag size sofar read (taken_of head)) (Reads last message tag size sofar read) (Some head) next ups downs s tie (record {
      front = h.front;
      request = h.request;
      answered = h.answered;
      asking = may_go last message tag size (h.front ++ h.request ∷ []) h.answered sofar read ups downs s h.asking;
      counted = counted_of (eqb head.ep 1) (length (h.front ++ h.request ∷ [])) (length h.front) h.answered (length-append h.front (h.request ∷ []) ∙ omega arith) h.counted;
      behind = h.behind;
      header = h.header;
      tagged = h.tagged;
      sized = h.sized;
      long = h.long;
    })

-- ---- its unlink is written

pub unlinks_part : (tag : ℕ) (first ended : Bool) (head : SubmitHead) (unlink : UnlinkHead) (next : ℕ) (ups : List up.Message) (downs : List Put) (s : State) → unlink.target ≡ head.seqnum
    → Bound (Saying tag first ended false) (Some head) [] next ups downs s
    → Bound (Saying tag first ended false) (Some head) (unlink ∷ []) (next + 1) (ups ++ up.Unlink unlink ∷ []) downs s
unlinks_part tag first ended head unlink next ups downs s target bound =
    let b = bound.bond in
    let h = b.held in
    record {
      bond = record {
        run = b.run;
        reached = b.reached;
        lines = unlink_written (asked_of (Some head)) [] ups downs s unlink b.lines;
        fitting = fitting_more ups unlink b.fitting;
        order = order_more ups unlink (none_unlinked (unlinked_by downs) (unlinks_in ups) b.lines.unlinked).1;
        fits = b.fits;
        rises = subst (λ (l : List ℕ). Rises l) (sym (numbers_same ups unlink s)) b.rises;
        below = subst (λ (l : List ℕ). AllBelow (next + 1) l) (sym (numbers_same ups unlink s)) (below_next next (numbers s ups) b.below);
        held = again tag first ended false ups (ups ++ up.Unlink unlink ∷ []) downs downs s s h
            (unlinks_written h.last h.message h.mark h.size (h.front ++ h.job ∷ []) h.answered [] [] true ups downs s (unlink ∷ []) h.asking);
      };
      awaited = inl (unlinking_one head unlink target);
    }

-- ---- the answers

answered_own : (tag : ℕ) (first ended : Bool) (head : SubmitHead) (a : RetSubmitHead) (transferred : List ℕ) (unlinks : List UnlinkHead) (next : ℕ) (ups : List up.Message) (downs : List Put) (s : State) → head.ep ≡ 1
    → MayBeCancelled None unlinks → (bond : Bond (WasSaying tag first ended false) (asked_of (Some head)) unlinks next ups (Submitted head a transferred ∷ downs) s) → TakesPart tag first ended head a unlinks next ups downs s
answered_own tag first ended head a transferred unlinks next ups downs s own awaited bond =
    by (out_answered h.last h.message h.mark h.size (h.front ++ h.job ∷ []) h.answered [] [] true ups head a transferred downs s own h.asking)
  where
    h : WasSaying tag first ended false ups (Submitted head a transferred ∷ downs) s
    h = bond.held

    by : ((a.status ≡ success) × (a.actual ≡ head.length) × Asking (cancelled_with h.last h.message h.mark h.size (h.front ++ h.job ∷ []) (h.answered + 1) [] []) ups downs s)
        ⊎ ((a.status ≡ stalled) × (s.halted.bulk_out ≡ true) × Asking (cancelled_with h.last h.message h.mark h.size (h.front ++ h.job ∷ []) h.answered [] []) ups downs s)
        → TakesPart tag first ended head a unlinks next ups downs s
    by (inl k) = inl (
      k.0,
      k.1,
      bound_after (Saying tag first ended true) head a transferred unlinks next ups downs s awaited bond (record {
        last = h.last;
        message = h.message;
        mark = h.mark;
        size = h.size;
        front = h.front;
        job = h.job;
        answered = h.answered + 1;
        asking = k.2;
        counted = omega (arith, length-append h.front (h.job ∷ []), h.counted);
        inner = h.inner;
        header = h.header;
        alone = h.alone;
        goes_on = h.goes_on;
        final = h.final;
      }),
    )
    by (inr k) = inr (
      k.0,
      k.1,
      bound_after (Saying tag first ended false) head a transferred unlinks next ups downs s awaited bond
          (again tag first ended false ups ups (Submitted head a transferred ∷ downs) downs s s h k.2),
    )

pub answered_part : (tag : ℕ) (first ended : Bool) (head : SubmitHead) (unlinks : List UnlinkHead) (next : ℕ) (asked : SubmitHead) (a : RetSubmitHead) (transferred : List ℕ) (ups : List up.Message) (downs : List Put) (s : State)
    → head.ep ≡ 1 → Bound (Saying tag first ended false) (Some head) unlinks next ups (Submitted asked a transferred ∷ downs) s
    → (asked ≡ head) × (a.seqnum ≡ head.seqnum) × TakesPart tag first ended head a unlinks next ups downs s
answered_part tag first ended head unlinks next asked a transferred ups downs s out bound =
    let same = same_head _ head asked a transferred unlinks next ups downs s bound.bond in
    let own = subst (λ (x : SubmitHead). Bond (WasSaying tag first ended false) (asked_of (Some head)) unlinks next ups (Submitted x a transferred ∷ downs) s) same bound.bond in
    (same, own.fits.0.1.number, answered_own tag first ended head a transferred unlinks next ups downs s out (none_waits head unlinks bound.awaited) own)

pub unlinked_part : (tag : ℕ) (first ended taken_it : Bool) (waits_for : Option SubmitHead) (unlink : UnlinkHead) (next : ℕ) (asked : UnlinkHead) (a : RetUnlinkHead) (ups : List up.Message) (downs : List Put) (s : State)
    → IsUnlinkOf waits_for unlink → Bound (Saying tag first ended taken_it) waits_for (unlink ∷ []) next ups (Unlinked asked a ∷ downs) s
    → (a.seqnum ≡ unlink.seqnum) × Bound (Saying tag first ended taken_it) None [] next ups downs s
unlinked_part tag first ended taken_it waits_for unlink next asked a ups downs s target bound =
    let h = bound.bond.held in
    let go = unlinked_bond _ (WasSaying tag first ended taken_it) waits_for unlink asked a next ups downs s target bound.bond
    (again tag first ended taken_it ups ups (Unlinked asked a ∷ downs) downs s s h
    (hosting.unlink_answered h.last h.message h.mark h.size (h.front ++ h.job ∷ []) h.answered [] [] true ups asked a downs s h.asking)) in
    (go.0, record { bond = go.1; awaited = inr refl })

-- ---- what is left to a recovery

not_inner : (o : Option OutHeader) (t n : ℕ) → IsInner o → o ≡ Some (Request t n) → ⊥
not_inner o t n inner e = subst (λ (x : Option OutHeader). IsInner x) e inner

not_final : (o : Option OutHeader) (t n : ℕ) → IsFinal o → o ≡ Some (Request t n) → ⊥
not_final o t n final e = subst (λ (x : Option OutHeader). IsFinal x) e final

unasked : (ended : Bool) (header : OutHeader) → (ended ≡ false → IsInner (Some header)) → (ended ≡ true → IsFinal (Some header)) → (t n : ℕ) → Some header ≡ Some (Request t n) → ⊥
unasked true header inner final t n e = not_final (Some header) t n (final refl) e
unasked false header inner final t n e = not_inner (Some header) t n (inner refl) e

pub part_to_out : (tag : ℕ) (first ended taken_it : Bool) (next : ℕ) (ups : List up.Message) (downs : List Put) (s : State)
    → (bond : Bond (WasSaying tag first ended taken_it) (asked_of None) [] next ups downs s) → IsAt (out_begun tag) s
part_to_out tag first ended true next ups downs s bond =
    let h = bond.held in
    let out = empty _ next ups downs s BulkOut bond in
    let ins = empty _ next ups downs s BulkIn bond in
    let a = subst (λ (n : ℕ). Asking (cancelled_with h.last h.message h.mark h.size (h.front ++ h.job ∷ []) n [] []) ups downs s) h.counted h.asking in
    hands_part h.last h.message h.mark h.size (h.front ++ h.job ∷ []) tag [] [] true ups downs s (λ t n e. unasked ended h.job.header h.goes_on h.final t n (sym (last_more h.front h.job) ∙ e)) a out.queue ins.queue
part_to_out tag first ended false next ups downs s bond =
    let h = bond.held in
    let out = empty _ next ups downs s BulkOut bond in
    let ins = empty _ next ups downs s BulkIn bond in
    let a = subst (λ (n : ℕ). Asking (cancelled_with h.last h.message h.mark h.size (h.front ++ h.job ∷ []) n [] []) ups downs s) h.counted h.asking in
    subst (λ (n : ℕ). IsAt (out_begun n) s) h.header
    (hands_out h.last h.message h.mark h.size h.front h.job [] [] true ups downs s (λ t n e. not_inner (last_header h.front) t n h.inner e) a (none_came _ ups downs s a out.events) out.queue ins.queue out.sent)

pub part_to_first : (tag : ℕ) (ended : Bool) (next : ℕ) (ups : List up.Message) (downs : List Put) (s : State)
    → (bond : Bond (WasSaying tag true ended false) (asked_of None) [] next ups downs s) → IsAt (out_first tag) s
part_to_first tag ended next ups downs s bond =
    let h = bond.held in
    let out = empty _ next ups downs s BulkOut bond in
    let ins = empty _ next ups downs s BulkIn bond in
    let a = subst (λ (n : ℕ). Asking (cancelled_with h.last h.message h.mark h.size (h.front ++ h.job ∷ []) n [] []) ups downs s) h.counted h.asking in
    let b : Asking (cancelled_with h.last h.message h.mark h.size (h.job ∷ []) 0 [] []) ups downs s =
    subst (λ (l : List Job). Asking (cancelled_with h.last h.message h.mark h.size (l ++ h.job ∷ []) (length l) [] []) ups downs s) (h.alone refl) a in
    subst (λ (n : ℕ). IsAt (out_first n) s) h.header
    (hands_first h.last h.message h.mark h.size h.job [] [] true ups downs s b (none_came _ ups downs s b out.events) out.queue ins.queue out.sent)

pub part_to_rest : (tag : ℕ) (first : Bool) (next : ℕ) (ups : List up.Message) (downs : List Put) (s : State)
    → (bond : Bond (WasSaying tag first true true) (asked_of None) [] next ups downs s) → IsAt rests s
part_to_rest tag first next ups downs s bond =
    let h = bond.held in
    let out = empty _ next ups downs s BulkOut bond in
    let ins = empty _ next ups downs s BulkIn bond in
    let a = subst (λ (n : ℕ). Asking (cancelled_with h.last h.message h.mark h.size (h.front ++ h.job ∷ []) n [] []) ups downs s) h.counted h.asking in
    hands_message h.last h.message h.mark h.size (h.front ++ h.job ∷ []) [] [] true ups downs s a (subst (λ (o : Option OutHeader). IsFinal o) (sym (last_more h.front h.job)) (h.final refl)) out.queue ins.queue
