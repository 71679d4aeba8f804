-- a cancel of an ask that is read: its unlink, the answers behind it, and what is left to a recovery
use Rattle.std.proofs.Common.{◌≡◌, ◌∙◌, ◌⊎◌, inl, inr, ℕ, ◌+◌, ◌<◌, ◌≤◌, Bool, true, false, cond, eqb, List, [], ◌∷◌, ◌++◌, length, Option, Some, None, refl, ap, sym, subst, length-append, arith}
use Rattle.std.proofs.lemmas.Bool.{eq-eqb}
use Rattle.usbip_wire.specs.declared.submit.SubmitHead.{SubmitHead}
use Rattle.usbip_wire.specs.declared.unlink.UnlinkHead.{UnlinkHead}
use Rattle.usbip_wire.specs.declared.ret_submit.RetSubmitHead.{RetSubmitHead}
use Rattle.usbip_wire.specs.declared.ret_unlink.RetUnlinkHead.{RetUnlinkHead}
use Rattle.usbip_wire.specs.Up as up
use Rattle.tmc_wire.specs.declared.header.OutHeader.{OutHeader}
use Rattle.tmc_law.specs.Endpoint.{Endpoint, BulkOut, BulkIn, number_of}
use Rattle.tmc_law.specs.State.{State}
use Rattle.tmc_law.specs.Aborts.{tag_of}
use Rattle.tmc_law.specs.Logging.{unread}
use Rattle.tmc_law.specs.Put.{Put, Submitted, Unlinked, success}
use Rattle.tmc_law.specs.AnswerFits.{AllAnswers}
use Rattle.tmc_law.specs.Numbers.{AllBelow, Rises, numbers, coming_out, effects, waits, numbers_of}
use Rattle.tmc_law.specs.State.{queue_of}
use Rattle.host_joint.specs.Lines.{Lines, LeftBy, heads, sent_heads, EmptyLine, Event, Gives, events_of, without, sent_to, unlinks_in, AllFitting, InOrder, Fitting}
use Rattle.host_joint.specs.Unlinking.{AllHeads, IsNamed, Unlinking}
use Rattle.host_joint.specs.Jobs.{Job}
use Rattle.host_joint.specs.Reads.{read_size, gives}
use Rattle.host_joint.specs.Stage.{IsUnasked}
use Rattle.host_joint.specs.Asking.{Ask, Asking, AllTaken}
use Rattle.host_joint.specs.Hosted.{OutAnswered, InAnswered, TookFull, TookEnd, TookHalt}
use Rattle.host_joint.specs.Positions.{IsAt, rests, in_begun, out_first, anything}
use Rattle.host_joint.specs.Hand.{Reads}
use Rattle.host_joint.specs.Tie.{asked_of, IsGood, Tie}
use Rattle.host_joint.specs.Bond.{IsFit, Bond, WasReading, WasRead, Situation, Reading, Read, Holds, Waits, Bound, taken_of, IsUnlinkOf, MayBeCancelled, cancelled_with, StillGoes, StillTaken, StillFull, StillEnds, StillHalted}
use Rattle.host_joint.proofs.Flows.{all_answered}
use Rattle.host_joint.proofs.Booking.{unlink_written, submit_answered, unlink_answered}
use Rattle.host_joint.proofs.Numbered.{below_next}
use Rattle.host_joint.proofs.Hosting as hosting
use Rattle.host_joint.proofs.Hosting.{out_answered, in_answered, not_nothing}
use Rattle.host_joint.proofs.Sending.{unlinks_written}
use Rattle.host_joint.proofs.Handing.{hands_in, hands_first, hands_request, hands_none}
use Rattle.host_joint.proofs.Transfers.{WireLaws}
use Rattle.host_joint.proofs.Tying.{none_unlinked}
use Rattle.host_joint.proofs.Writing.{own_asked, other_asked}
use Rattle.host_joint.proofs.Joining.{rising_asked}
use Rattle.host_joint.proofs.Given.{the_one, owned_of, begins_piece, piece_text, some_long}

-- ---- the unlink is written

pub fitting_more : (ups : List up.Message) (unlink : UnlinkHead) → AllFitting ups → AllFitting (ups ++ up.Unlink unlink ∷ [])
fitting_more [] unlink h = tt
fitting_more (up.Submit x transferred ∷ ups) unlink h = (h.0, fitting_more ups unlink h.1)
fitting_more (up.Unlink x ∷ ups) unlink h = fitting_more ups unlink h

pub order_more : (ups : List up.Message) (unlink : UnlinkHead) → unlinks_in ups ≡ [] → InOrder (ups ++ up.Unlink unlink ∷ [])
order_more [] unlink none = ((λ e. tt), tt)
order_more (up.Submit x transferred ∷ ups) unlink none = order_more ups unlink none
order_more (up.Unlink x ∷ ups) unlink none = absurd (cc)

coming_same : (ups : List up.Message) (unlink : UnlinkHead) → coming_out (ups ++ up.Unlink unlink ∷ []) ≡ coming_out ups
coming_same [] unlink = refl
coming_same (up.Unlink x ∷ ups) unlink = coming_same ups unlink
coming_same (up.Submit x transferred ∷ ups) unlink = by (eqb x.ep 1) (coming_same ups unlink)
  where
    by : (b : Bool) → coming_out (ups ++ up.Unlink unlink ∷ []) ≡ coming_out ups
        → cond b (x.seqnum ∷ coming_out (ups ++ up.Unlink unlink ∷ [])) (coming_out (ups ++ up.Unlink unlink ∷ [])) ≡ cond b (x.seqnum ∷ coming_out ups) (coming_out ups)
    by true h = ap (λ (l : List ℕ). x.seqnum ∷ l) h
    by false h = h

pub numbers_same : (ups : List up.Message) (unlink : UnlinkHead) (s : State) → numbers s (ups ++ up.Unlink unlink ∷ []) ≡ numbers s ups
numbers_same ups unlink s = ap (λ (l : List ℕ). effects s.log ++ (waits s.waiting ++ (numbers_of s.bulk_out ++ l))) (coming_same ups unlink)

pub good_fits : (downs : List Put) → AllAnswers IsGood downs → AllAnswers IsFit downs
good_fits [] h = tt
good_fits (Submitted asked a transferred ∷ downs) h = (h.0, good_fits downs h.1)
good_fits (Unlinked asked a ∷ downs) h = absurd h.0

pub counted_of : (b : Bool) (whole front answered : ℕ) → whole ≡ front + 1 → whole ≡ answered + cond b 1 0 → answered ≡ cond (cond b false true) whole front
counted_of true whole front answered one counted = omega (arith, one, counted)
counted_of false whole front answered one counted = omega (arith, one, counted)

named_asked : (head : SubmitHead) (unlink : UnlinkHead) (e : Endpoint) → unlink.target ≡ head.seqnum → AllHeads (λ (x : SubmitHead). IsNamed (unlink ∷ []) x.seqnum) (asked_of (Some head) e)
named_asked head unlink e target = by (eqb head.ep (number_of e))
  where
    by : (b : Bool) → AllHeads (λ (x : SubmitHead). IsNamed (unlink ∷ []) x.seqnum) (cond b (head ∷ []) [])
    by true = (inl target, tt)
    by false = tt

pub unlinking_one : (head : SubmitHead) (unlink : UnlinkHead) → unlink.target ≡ head.seqnum → Unlinking (asked_of (Some head)) (unlink ∷ [])
unlinking_one head unlink target = record { rising = rising_asked (Some head); falling = (tt, tt); named = λ e bulk. named_asked head unlink e target }

pub cancels : (last : ℕ) (message : List ℕ) (tag size : ℕ) (sofar read : List ℕ) (head : SubmitHead) (unlink : UnlinkHead) (next : ℕ) (ups : List up.Message) (downs : List Put) (s : State)
    → Tie (Reads last message tag size sofar read) (Some head) next ups downs s
    → Bond (WasReading last message tag size sofar read (taken_of head)) (asked_of (Some head)) (unlink ∷ []) (next + 1) (ups ++ up.Unlink unlink ∷ []) downs s
cancels last message tag size sofar read head unlink next ups downs s tie =
    let h = tie.held in
    record {
      run = tie.run;
      reached = tie.reached;
      lines = unlink_written (asked_of (Some head)) [] ups downs s unlink tie.lines;
      fitting = fitting_more ups unlink tie.fitting;
      order = order_more ups unlink (none_unlinked _ (unlinks_in ups) tie.lines.unlinked).1;
      fits = good_fits downs tie.good;
      rises = subst (λ (l : List ℕ). Rises l) (sym (numbers_same ups unlink s)) tie.rises;
      below = subst (λ (l : List ℕ). AllBelow (next + 1) l) (sym (numbers_same ups unlink s)) (below_next next (numbers s ups) tie.below);
      held = record {
        front = h.front;
        request = h.request;
        answered = h.answered;
        asking = unlinks_written last message tag size (h.front ++ h.request ∷ []) h.answered sofar read false ups downs s (unlink ∷ []) h.asking;
        counted = counted_of (eqb head.ep 1) (length (h.front ++ h.request ∷ [])) (length h.front) h.answered (length-append h.front (h.request ∷ []) ∙ omega arith) h.counted;
        behind = h.behind;
        header = h.header;
        tagged = h.tagged;
        sized = h.sized;
        long = h.long;
      };
    }

-- ---- what is left to a recovery

pub bond_as : (Holds More : List up.Message → List Put → State → Type 0) (asked : Endpoint → List SubmitHead) (unlinks : List UnlinkHead) (next : ℕ) (ups : List up.Message) (downs : List Put) (s : State)
    → Bond Holds asked unlinks next ups downs s → More ups downs s → Bond More asked unlinks next ups downs s
bond_as Holds More asked unlinks next ups downs s bond held = record {
  run = bond.run;
  reached = bond.reached;
  lines = bond.lines;
  fitting = bond.fitting;
  order = bond.order;
  fits = bond.fits;
  rises = bond.rises;
  below = bond.below;
  held = held;
}

pub empty : (Holds : List up.Message → List Put → State → Type 0) (next : ℕ) (ups : List up.Message) (downs : List Put) (s : State) (e : Endpoint) → Bond Holds (asked_of None) [] next ups downs s → EmptyLine e ups downs s
empty Holds next ups downs s e bond = all_answered (asked_of None) e ups downs s bond.lines refl

counted_at : (ask : Ask) (n : ℕ) (ups : List up.Message) (downs : List Put) (s : State) → ask.answered ≡ n → Asking ask ups downs s → Asking (record ask { answered = n }) ups downs s
counted_at ask n ups downs s is a = subst (λ (k : ℕ). Asking (record ask { answered = k }) ups downs s) is a

pub to_in : (last : ℕ) (message : List ℕ) (tag size : ℕ) (sofar read : List ℕ) (next : ℕ) (ups : List up.Message) (downs : List Put) (s : State)
    → (bond : Bond (WasReading last message tag size sofar read true) (asked_of None) [] next ups downs s) → IsAt (in_begun tag) s
to_in last message tag size sofar read next ups downs s bond =
    let h = bond.held in
    let out = empty _ next ups downs s BulkOut bond in
    let ins = empty _ next ups downs s BulkIn bond in
    hands_in last message tag size h.front h.request sofar read true ups downs s h.header
    (counted_at (cancelled_with last message tag size (h.front ++ h.request ∷ []) h.answered sofar read) (length (h.front ++ h.request ∷ [])) ups downs s h.counted h.asking)
    out.queue ins.queue (ap gives ins.events)

pub none_came : (ask : Ask) (ups : List up.Message) (downs : List Put) (s : State) (a : Asking ask ups downs s) → events_of BulkOut downs ≡ [] → a.came ≡ 0
none_came ask ups downs s a none = subst (λ (l : List Event). AllTaken s.halted.bulk_out a.came l) none a.taken

pub to_out : (last : ℕ) (message : List ℕ) (tag size : ℕ) (sofar read : List ℕ) (next : ℕ) (ups : List up.Message) (downs : List Put) (s : State)
    → (bond : Bond (WasReading last message tag size sofar read false) (asked_of None) [] next ups downs s) → IsAt (out_first tag) s
to_out last message tag size sofar read next ups downs s bond =
    by bond.held.behind (counted_at (cancelled_with last message tag size (h.front ++ h.request ∷ []) h.answered sofar read) (length h.front) ups downs s h.counted h.asking)
  where
    h : WasReading last message tag size sofar read false ups downs s
    h = bond.held

    out : EmptyLine BulkOut ups downs s
    out = empty _ next ups downs s BulkOut bond

    ins : EmptyLine BulkIn ups downs s
    ins = empty _ next ups downs s BulkIn bond

    tag_is : IsAt (out_first (tag_of h.request.header)) s → IsAt (out_first tag) s
    tag_is at = subst (λ (x : OutHeader). IsAt (out_first (tag_of x)) s) h.header at

    by : IsUnasked h.front sofar → Asking (cancelled_with last message tag size (h.front ++ h.request ∷ []) (length h.front) sofar read) ups downs s → IsAt (out_first tag) s
    by (inl final) a = tag_is (hands_request last message tag size h.front h.request sofar read true ups downs s final a (none_came _ ups downs s a out.events) out.queue ins.queue out.sent)
    by (inr (none, some)) a =
        let b : Asking (cancelled_with last message tag size (h.request ∷ []) 0 sofar read) ups downs s =
        subst (λ (l : List Job). Asking (cancelled_with last message tag size (l ++ h.request ∷ []) (length l) sofar read) ups downs s) none a in
        tag_is (hands_first last message tag size h.request sofar read true ups downs s b (none_came _ ups downs s b out.events) out.queue ins.queue out.sent)

pub to_rest : (last : ℕ) (message sofar : List ℕ) (next : ℕ) (ups : List up.Message) (downs : List Put) (s : State)
    → (bond : Bond (WasRead last message sofar) (asked_of None) [] next ups downs s) → IsAt rests s
to_rest last message sofar next ups downs s bond =
    let h = bond.held in
    hands_none last message h.tag h.size sofar [] true ups downs s h.asking h.some (empty _ next ups downs s BulkOut bond).queue (empty _ next ups downs s BulkIn bond).queue

pub to_clear : (Holds : List up.Message → List Put → State → Type 0) (next : ℕ) (ups : List up.Message) (downs : List Put) (s : State) → Bond Holds (asked_of None) [] next ups downs s → IsAt anything s
to_clear Holds next ups downs s bond = record { bulk_out = (empty Holds next ups downs s BulkOut bond).queue; bulk_in = (empty Holds next ups downs s BulkIn bond).queue; running = tt; side = tt; out = tt; waits = tt; shut = tt }

-- ---- the answer to the submit

none_left : (head : SubmitHead) (rest : List SubmitHead) → head ∷ [] ≡ head ∷ rest → [] ≡ rest
none_left head rest e = cc

pub lines_after : (head : SubmitHead) (a : RetSubmitHead) (transferred : List ℕ) (unlinks : List UnlinkHead) (ups : List up.Message) (downs : List Put) (s : State) → Fitting head
    → Lines (asked_of (Some head)) unlinks ups (Submitted head a transferred ∷ downs) s → Lines (asked_of None) unlinks ups downs s
lines_after head a transferred unlinks ups downs s fits lines =
    let taken = submit_answered (asked_of (Some head)) unlinks ups head a transferred downs s fits.endpoint fits.number lines in
    taken.2 (asked_of None) (none_left head taken.0 (sym (own_asked fits.endpoint head fits.number) ∙ taken.1)) (λ d differ. sym (other_asked fits.endpoint d head fits.number differ))

pub after : (Holds More : List up.Message → List Put → State → Type 0) (head : SubmitHead) (a : RetSubmitHead) (transferred : List ℕ) (unlinks : List UnlinkHead) (next : ℕ) (ups : List up.Message) (downs : List Put) (s : State)
    → Bond Holds (asked_of (Some head)) unlinks next ups (Submitted head a transferred ∷ downs) s → More ups downs s → Bond More (asked_of None) unlinks next ups downs s
after Holds More head a transferred unlinks next ups downs s bond held = record {
  run = bond.run;
  reached = bond.reached;
  lines = lines_after head a transferred unlinks ups downs s bond.fits.0.0 bond.lines;
  fitting = bond.fitting;
  order = bond.order;
  fits = bond.fits.1;
  rises = bond.rises;
  below = bond.below;
  held = held;
}

-- it is the one that is not answered
pub same_head : (Holds : List up.Message → List Put → State → Type 0) (head asked : SubmitHead) (a : RetSubmitHead) (transferred : List ℕ) (unlinks : List UnlinkHead) (next : ℕ) (ups : List up.Message) (downs : List Put) (s : State)
    → Bond Holds (asked_of (Some head)) unlinks next ups (Submitted asked a transferred ∷ downs) s → asked ≡ head
same_head Holds head asked a transferred unlinks next ups downs s bond =
    let fits = bond.fits.0.0 in
    the_one (eqb head.ep (number_of fits.endpoint)) head asked _ (submit_answered (asked_of (Some head)) unlinks ups asked a transferred downs s fits.endpoint fits.number bond.lines).1

out_not_taken : (head : SubmitHead) → head.ep ≡ 1 → taken_of head ≡ false
out_not_taken head own = rw (eq-eqb head.ep 1 own) refl

in_is_taken : (head : SubmitHead) → head.ep ≡ 2 → taken_of head ≡ true
in_is_taken head own = let e : eqb head.ep 1 ≡ false = ap (λ (n : ℕ). eqb n 1) own in rw e refl

pub bound_after : (situation : Situation) → {Before : List up.Message → List Put → State → Type 0} (head : SubmitHead) (a : RetSubmitHead) (transferred : List ℕ) (unlinks : List UnlinkHead) (next : ℕ) (ups : List up.Message) (downs : List Put) (s : State)
    → Waits situation None unlinks → Bond Before (asked_of (Some head)) unlinks next ups (Submitted head a transferred ∷ downs) s → Holds situation ups downs s → Bound situation None unlinks next ups downs s
bound_after situation {Before} head a transferred unlinks next ups downs s awaited bond held = record { bond = after Before (Holds situation) head a transferred unlinks next ups downs s bond held; awaited = awaited }

still_own : (laws : WireLaws) (last : ℕ) (message : List ℕ) (tag size : ℕ) (sofar read : List ℕ) (head : SubmitHead) (a : RetSubmitHead) (transferred : List ℕ) (unlinks : List UnlinkHead) (next : ℕ) (ups : List up.Message) (downs : List Put) (s : State)
    → (head.ep ≡ 1) ⊎ (head.ep ≡ 2) → MayBeCancelled None unlinks → (bond : Bond (WasReading last message tag size sofar read (taken_of head)) (asked_of (Some head)) unlinks next ups (Submitted head a transferred ∷ downs) s)
    → StillGoes last message tag size sofar read head a transferred unlinks next ups downs s
still_own laws last message tag size sofar read head a transferred unlinks next ups downs s (inl own) awaited bond =
    by (out_answered last message tag size (h.front ++ h.request ∷ []) h.answered sofar read true ups head a transferred downs s own h.asking)
  where
    h : WasReading last message tag size sofar read (taken_of head) ups (Submitted head a transferred ∷ downs) s
    h = bond.held

    by : OutAnswered (cancelled_with last message tag size (h.front ++ h.request ∷ []) h.answered sofar read) ups head a downs s → StillGoes last message tag size sofar read head a transferred unlinks next ups downs s
    by (inl k) = StillTaken own k.0 k.1 (bound_after (Reading last message tag size sofar read true) head a transferred unlinks next ups downs s awaited bond (record {
      front = h.front;
      request = h.request;
      answered = h.answered + 1;
      asking = k.2;
      counted = omega (
        arith,
        length-append h.front (h.request ∷ []),
        subst (λ (b : Bool). h.answered ≡ cond b (length (h.front ++ h.request ∷ [])) (length h.front)) (out_not_taken head own) h.counted,
      );
      behind = h.behind;
      header = h.header;
      tagged = h.tagged;
      sized = h.sized;
      long = h.long;
    }))
    by (inr k) = StillHalted BulkOut own k.1 k.0 (bound_after (Reading last message tag size sofar read (taken_of head)) head a transferred unlinks next ups downs s awaited bond (record {
      front = h.front;
      request = h.request;
      answered = h.answered;
      asking = k.2;
      counted = h.counted;
      behind = h.behind;
      header = h.header;
      tagged = h.tagged;
      sized = h.sized;
      long = h.long;
    }))
still_own laws last message tag size sofar read head a transferred unlinks next ups downs s (inr own) awaited bond =
    by (in_answered last message tag size (h.front ++ h.request ∷ []) h.answered sofar read true ups head a transferred downs s own h.asking)
  where
    h : WasReading last message tag size sofar read (taken_of head) ups (Submitted head a transferred ∷ downs) s
    h = bond.held

    all : h.answered ≡ length (h.front ++ h.request ∷ [])
    all = subst (λ (b : Bool). h.answered ≡ cond b (length (h.front ++ h.request ∷ [])) (length h.front)) (in_is_taken head own) h.counted

    by : InAnswered (cancelled_with last message tag size (h.front ++ h.request ∷ []) h.answered sofar read) ups (Gives head a transferred) downs s → StillGoes last message tag size sofar read head a transferred unlinks next ups downs s
    by (TookHalt shuts halted later) = StillHalted BulkIn own shuts halted.0 (bound_after (Reading last message tag size sofar read (taken_of head)) head a transferred unlinks next ups downs s awaited bond (record {
      front = h.front;
      request = h.request;
      answered = h.answered;
      asking = later;
      counted = h.counted;
      behind = h.behind;
      header = h.header;
      tagged = h.tagged;
      sized = h.sized;
      long = h.long;
    }))
    by (TookFull x is full goes) =
        let same : transferred ≡ x.bytes = cc in
        let told : a ≡ record { seqnum = x.head.seqnum; status = success; actual = length x.bytes } = cc in
        let size_is : length transferred ≡ read_size = ap (λ (l : List ℕ). length l) same ∙ full in
        let later = subst (λ (l : List ℕ). Asking (cancelled_with last message tag size (h.front ++ h.request ∷ []) h.answered sofar (read ++ l)) ups downs s) (sym same) goes in
        let long : 12 ≤ length (read ++ transferred) = omega (arith, size_is, length-append read transferred) in
        let piece = begins_piece laws last message tag size (h.front ++ h.request ∷ []) h.answered sofar (read ++ transferred) true s h.tagged h.sized.1 long
        (owned_of last message tag size (h.front ++ h.request ∷ []) h.answered sofar (read ++ transferred) true ups downs s later) in
        StillFull own (ap (λ (r : RetSubmitHead). r.status) told) (ap (λ (r : RetSubmitHead). r.actual) told ∙ ap (λ (l : List ℕ). length l) (sym same)) size_is piece
        (bound_after (Reading last message tag size sofar (read ++ transferred) true) head a transferred unlinks next ups downs s awaited bond (record {
          front = h.front;
          request = h.request;
          answered = h.answered;
          asking = later;
          counted = all;
          behind = h.behind;
          header = h.header;
          tagged = h.tagged;
          sized = h.sized;
          long = inr long;
        }))
    by (TookEnd x is small ends) =
        let same : transferred ≡ x.bytes = cc in
        let told : a ≡ record { seqnum = x.head.seqnum; status = success; actual = length x.bytes } = cc in
        StillEnds ends.eom ends.carried ends.response own (ap (λ (r : RetSubmitHead). r.status) told) (ap (λ (r : RetSubmitHead). r.actual) told ∙ ap (λ (l : List ℕ). length l) (sym same))
        (subst (λ (l : List ℕ). length l < read_size) (sym same) small)
        (piece_text laws tag size ends.eom ends.carried (read ++ transferred) h.tagged ends.some ends.fits h.sized.1 (ap (λ (l : List ℕ). read ++ l) same ∙ ends.text))
        ends.ran (unread s, ends.all) ends.ended
        (λ goes_on. omega (arith, ap (λ (l : List ℕ). length l) ends.all, length-append (sofar ++ ends.carried) (unread s), some_long (unread s) (ends.longer goes_on)))
        (bound_after (Read last message (sofar ++ ends.carried)) head a transferred unlinks next ups downs s awaited bond
        (record { tag = tag; size = size; asking = ends.next tag size all; some = not_nothing sofar ends.carried ends.some }))

pub none_waits : (head : SubmitHead) (unlinks : List UnlinkHead) → MayBeCancelled (Some head) unlinks → MayBeCancelled None unlinks
none_waits head unlinks (inl h) = inl (record { rising = rising_asked None; falling = h.falling; named = λ e is. tt })
none_waits head unlinks (inr h) = inr h

pub still : (laws : WireLaws) (last : ℕ) (message : List ℕ) (tag size : ℕ) (sofar read : List ℕ) (head : SubmitHead) (unlinks : List UnlinkHead) (next : ℕ) (asked : SubmitHead) (a : RetSubmitHead) (transferred : List ℕ) (ups : List up.Message) (downs : List Put) (s : State)
    → (head.ep ≡ 1) ⊎ (head.ep ≡ 2) → Bound (Reading last message tag size sofar read (taken_of head)) (Some head) unlinks next ups (Submitted asked a transferred ∷ downs) s
    → (asked ≡ head) × (a.seqnum ≡ head.seqnum) × StillGoes last message tag size sofar read head a transferred unlinks next ups downs s
still laws last message tag size sofar read head unlinks next asked a transferred ups downs s bulk bound =
    let same = same_head _ head asked a transferred unlinks next ups downs s bound.bond in
    let own = subst (λ (x : SubmitHead). Bond (WasReading last message tag size sofar read (taken_of head)) (asked_of (Some head)) unlinks next ups (Submitted x a transferred ∷ downs) s) same bound.bond in (
      same,
      own.fits.0.1.number,
      still_own laws last message tag size sofar read head a transferred unlinks next ups downs s bulk
          (none_waits head unlinks bound.awaited) own,
    )

-- ---- the answer to the unlink

without_asked : (waits_for : Option SubmitHead) (unlink : UnlinkHead) (e : Endpoint) → IsUnlinkOf waits_for unlink → without unlink.target (asked_of waits_for e) ≡ []
without_asked None unlink e target = refl
without_asked (Some head) unlink e target = by (eqb head.ep (number_of e))
  where
    by : (b : Bool) → without unlink.target (cond b (head ∷ []) []) ≡ []
    by true = rw (eq-eqb head.seqnum unlink.target (sym target)) refl
    by false = refl

record Over (unlink asked : UnlinkHead) (rest : List UnlinkHead) : Type 0 where
  pub same : asked ≡ unlink
  pub none : rest ≡ []

over_of : (unlink asked : UnlinkHead) (rest : List UnlinkHead) → unlink ∷ [] ≡ asked ∷ rest → Over unlink asked rest
over_of unlink asked rest e = record { same = cc; none = cc }

pub unlinked_lines : (waits_for : Option SubmitHead) (unlink asked : UnlinkHead) (a : RetUnlinkHead) (ups : List up.Message) (downs : List Put) (s : State) → IsUnlinkOf waits_for unlink
    → Lines (asked_of waits_for) (unlink ∷ []) ups (Unlinked asked a ∷ downs) s → (asked ≡ unlink) × Lines (asked_of None) [] ups downs s
unlinked_lines waits_for unlink asked a ups downs s target lines =
    let taken = unlink_answered (asked_of waits_for) (unlink ∷ []) ups asked a downs s lines in
    let over = over_of unlink asked taken.0 taken.1 in
    let left : Lines (λ e. without asked.target (asked_of waits_for e)) [] ups downs s = subst (λ (l : List UnlinkHead). Lines (λ e. without asked.target (asked_of waits_for e)) l ups downs s) over.none taken.2 in (
      over.same,
      record {
        submits = λ e. subst (λ (l : List SubmitHead). LeftBy l (events_of e downs) (heads (queue_of e s) ++ sent_heads (sent_to e ups)))
            (ap (λ (u : UnlinkHead). without u.target (asked_of waits_for e)) over.same ∙ without_asked waits_for unlink e target) (left.submits e);
        unlinked = left.unlinked;
      },
    )

pub unlinked_bond : (Holds More : List up.Message → List Put → State → Type 0) (waits_for : Option SubmitHead) (unlink asked : UnlinkHead) (a : RetUnlinkHead) (next : ℕ) (ups : List up.Message) (downs : List Put) (s : State) → IsUnlinkOf waits_for unlink
    → Bond Holds (asked_of waits_for) (unlink ∷ []) next ups (Unlinked asked a ∷ downs) s → More ups downs s → (a.seqnum ≡ unlink.seqnum) × Bond More (asked_of None) [] next ups downs s
unlinked_bond Holds More waits_for unlink asked a next ups downs s target bond held =
    let lines = unlinked_lines waits_for unlink asked a ups downs s target bond.lines in (
      bond.fits.0.number ∙ ap (λ (u : UnlinkHead). u.seqnum) lines.0,
      record {
        run = bond.run;
        reached = bond.reached;
        lines = lines.1;
        fitting = bond.fitting;
        order = bond.order;
        fits = bond.fits.1;
        rises = bond.rises;
        below = bond.below;
        held = held;
      },
    )

pub unlinked_reading : (last : ℕ) (message : List ℕ) (tag size : ℕ) (sofar read : List ℕ) (taken_it : Bool) (waits_for : Option SubmitHead) (unlink : UnlinkHead) (next : ℕ) (asked : UnlinkHead) (a : RetUnlinkHead) (ups : List up.Message) (downs : List Put) (s : State)
    → IsUnlinkOf waits_for unlink → Bond (WasReading last message tag size sofar read taken_it) (asked_of waits_for) (unlink ∷ []) next ups (Unlinked asked a ∷ downs) s
    → (a.seqnum ≡ unlink.seqnum) × Bond (WasReading last message tag size sofar read taken_it) (asked_of None) [] next ups downs s
unlinked_reading last message tag size sofar read taken_it waits_for unlink next asked a ups downs s target bond =
    let h = bond.held in
    unlinked_bond _ (WasReading last message tag size sofar read taken_it) waits_for unlink asked a next ups downs s target bond (record {
      front = h.front;
      request = h.request;
      answered = h.answered;
      asking = hosting.unlink_answered last message tag size (h.front ++ h.request ∷ []) h.answered sofar read true ups asked a downs s h.asking;
      counted = h.counted;
      behind = h.behind;
      header = h.header;
      tagged = h.tagged;
      sized = h.sized;
      long = h.long;
    })

pub unlinked_read : (last : ℕ) (message sofar : List ℕ) (waits_for : Option SubmitHead) (unlink : UnlinkHead) (next : ℕ) (asked : UnlinkHead) (a : RetUnlinkHead) (ups : List up.Message) (downs : List Put) (s : State)
    → IsUnlinkOf waits_for unlink → Bond (WasRead last message sofar) (asked_of waits_for) (unlink ∷ []) next ups (Unlinked asked a ∷ downs) s
    → (a.seqnum ≡ unlink.seqnum) × Bond (WasRead last message sofar) (asked_of None) [] next ups downs s
unlinked_read last message sofar waits_for unlink next asked a ups downs s target bond =
    let h = bond.held in
    unlinked_bond _ (WasRead last message sofar) waits_for unlink asked a next ups downs s target bond
    (record { tag = h.tag; size = h.size; asking = hosting.unlink_answered last message h.tag h.size [] 0 sofar [] true ups asked a downs s h.asking; some = h.some })
