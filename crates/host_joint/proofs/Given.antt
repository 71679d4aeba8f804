-- the answer that a host is given, and what a tie says then
use Rattle.std.proofs.Common.{◌≡◌, ◌≢◌, ◌∙◌, ◌⊎◌, inl, inr, ℕ, ◌+◌, ◌^◌, ◌<◌, ◌≤◌, Bool, true, false, cond, eqb, List, [], ◌∷◌, ◌++◌, length, slice_index, Some, None, refl, ap, sym, subst, length-append, arith}
use Rattle.usbip_wire.specs.declared.submit.SubmitHead.{SubmitHead}
use Rattle.usbip_wire.specs.declared.urb.Dir.{Dir}
use Rattle.usbip_wire.specs.declared.urb.Dir.TheVariants.{Out}
use Rattle.usbip_wire.specs.declared.ret_submit.RetSubmitHead.{RetSubmitHead}
use Rattle.usbip_wire.specs.RetSubmit.{Returns}
use Rattle.usbip_wire.specs.Up as up
use Rattle.tmc_wire.specs.Header.{IsTag, in_header_bytes}
use Rattle.tmc_wire.specs.Transfer.{InText, alignment_of}
use Rattle.tmc_law.specs.Endpoint.{Endpoint, Control, BulkOut, BulkIn, InterruptIn, number_of, way_of}
use Rattle.tmc_law.specs.State.{State}
use Rattle.tmc_law.specs.Logging.{unread}
use Rattle.tmc_law.specs.Put.{Put, Submitted, Unlinked, success}
use Rattle.tmc_law.specs.AnswerFits.{FitsSubmit}
use Rattle.host_joint.specs.Lines.{Lines, Fitting, Gives, sent_to, events_of}
use Rattle.host_joint.specs.Jobs.{Job}
use Rattle.host_joint.specs.Reads.{read_size, gives}
use Rattle.host_joint.specs.Stage.{Ran}
use Rattle.host_joint.specs.Asking.{Ask, Asking}
use Rattle.host_joint.specs.Hosted.{OutAnswered, InAnswered, TookFull, TookEnd, TookHalt}
use Rattle.host_joint.specs.Owned.{Owned, NothingRead, PiecesRead, PieceRead}
use Rattle.host_joint.specs.Hand.{Hand, Free, Says, Said, Reads, Pauses}
use Rattle.host_joint.specs.Pieces.{header_of, IsPiece, BeginsPiece}
use Rattle.host_joint.specs.Tie.{asked_of, transfers_of, IsReading, Holds, Tie, ask_with, TakesTransfer, TakesFull, TakesLast, TakesPiece, IsGiven}
use Rattle.host_joint.proofs.Parts.{ask_of}
use Rattle.host_joint.proofs.Flows.{all_answered}
use Rattle.host_joint.proofs.Booking.{submit_answered}
use Rattle.host_joint.proofs.Owning.{has_read, stage_owns, take_own}
use Rattle.host_joint.proofs.Hosting.{out_answered, in_answered, not_nothing}
use Rattle.host_joint.proofs.Handing.{hands_none}
use Rattle.host_joint.proofs.Transfers.{WireLaws, is_text}
use Rattle.host_joint.proofs.Writing.{own_asked, other_asked, one_transfer, no_transfer}

clash : {B : Type 0} (b : Bool) → b ≡ false → b ≡ true → B
clash b off on = let e : false ≡ true = sym off ∙ on in absurd (cc)

-- ---- what a tie says besides

-- nothing is left of the list of an endpoint of which the one submit was answered
none_left : (head : SubmitHead) (rest : List SubmitHead) → head ∷ [] ≡ head ∷ rest → [] ≡ rest
none_left head rest e = cc

pub lines_behind : (hand : Hand) (head : SubmitHead) (a : RetSubmitHead) (transferred : List ℕ) (next : ℕ) (ups : List up.Message) (downs : List Put) (s : State)
    → Tie hand (Some head) next ups (Submitted head a transferred ∷ downs) s → Lines (asked_of None) [] ups downs s
lines_behind hand head a transferred next ups downs s tie =
    let fits = tie.good.0.0 in
    let taken = submit_answered (asked_of (Some head)) [] ups head a transferred downs s fits.endpoint fits.number tie.lines in
    taken.2 (asked_of None) (none_left head taken.0 (sym (own_asked fits.endpoint head fits.number) ∙ taken.1)) (λ d differ. sym (other_asked fits.endpoint d head fits.number differ))

behind : (hand later : Hand) (head : SubmitHead) (a : RetSubmitHead) (transferred : List ℕ) (next : ℕ) (ups : List up.Message) (downs : List Put) (s : State)
    → Tie hand (Some head) next ups (Submitted head a transferred ∷ downs) s → Holds later None ups downs s → Tie later None next ups downs s
behind hand later head a transferred next ups downs s tie held = record {
  run = tie.run;
  reached = tie.reached;
  lines = lines_behind hand head a transferred next ups downs s tie;
  fitting = tie.fitting;
  good = tie.good.1;
  out_usable = tie.out_usable;
  in_usable = tie.in_usable;
  rises = tie.rises;
  below = tie.below;
  held = held;
}

-- ---- a transfer was taken

out_way : (e : Endpoint) (head : SubmitHead) → head.ep ≡ 1 → (fits : Fitting head) → fits.endpoint ≡ e → head.dir ≡ Out
out_way Control head own fits is = absurd (omega (arith, own, fits.number ∙ ap number_of is))
out_way BulkOut head own fits is = fits.way ∙ ap (λ (e : Endpoint). way_of e (slice_index head.setup 0)) is
out_way BulkIn head own fits is = absurd (omega (arith, own, fits.number ∙ ap number_of is))
out_way InterruptIn head own fits is = absurd (omega (arith, own, fits.number ∙ ap number_of is))

no_data : (head : SubmitHead) (a : RetSubmitHead) (transferred : List ℕ) → head.ep ≡ 1 → Fitting head → FitsSubmit head a transferred → transferred ≡ []
no_data head a transferred own fits good = subst (λ (d : Dir). Returns d a.actual transferred) (out_way fits.endpoint head own fits refl) good.returned

-- the transfer was taken, where Bulk-OUT is not halted
record WasTaken (ask later : Ask) (ups : List up.Message) (head : SubmitHead) (a : RetSubmitHead) (downs : List Put) (s : State) : Type 0 where
  pub status : a.status ≡ success
  pub actual : a.actual ≡ head.length
  pub asking : Asking later ups downs s

was_taken : (last : ℕ) (message : List ℕ) (tag size : ℕ) (written : List Job) (answered : ℕ) (sofar read : List ℕ) (ups : List up.Message) (head : SubmitHead) (a : RetSubmitHead) (transferred : List ℕ) (downs : List Put) (s : State)
    → head.ep ≡ 1 → s.halted.bulk_out ≡ false → Asking (ask_with last message tag size written answered sofar read) ups (Submitted head a transferred ∷ downs) s
    → WasTaken (ask_with last message tag size written answered sofar read) (ask_with last message tag size written (answered + 1) sofar read) ups head a downs s
was_taken last message tag size written answered sofar read ups head a transferred downs s own usable asking =
    by (out_answered last message tag size written answered sofar read false ups head a transferred downs s own asking)
  where
    by : OutAnswered (ask_with last message tag size written answered sofar read) ups head a downs s
        → WasTaken (ask_with last message tag size written answered sofar read) (ask_with last message tag size written (answered + 1) sofar read) ups head a downs s
    by (inl k) = record { status = k.0; actual = k.1; asking = k.2 }
    by (inr k) = clash s.halted.bulk_out usable k.1

counts_it : (written : List Job) (answered : ℕ) (head : SubmitHead) → head.ep ≡ 1 → length written ≡ answered + transfers_of (Some head) → length written ≡ (answered + 1) + transfers_of None
counts_it written answered head own counted = omega (arith, counted, one_transfer head own)

given_out : (hand later : Hand) (ask more : Ask) (head : SubmitHead) (a : RetSubmitHead) (transferred : List ℕ) (next : ℕ) (ups : List up.Message) (downs : List Put) (s : State) → head.ep ≡ 1 → hand ≡ later
    → Tie hand (Some head) next ups (Submitted head a transferred ∷ downs) s → WasTaken ask more ups head a downs s → Holds later None ups downs s
    → IsGiven hand head (Submitted head a transferred) next ups downs s
given_out hand later ask more head a transferred next ups downs s own same tie taken held = record {
  answer = a;
  transferred = transferred;
  is = refl;
  number = tie.good.0.1.number;
  status = taken.status;
  goes = TakesTransfer own taken.actual (no_data head a transferred own tie.good.0.0 tie.good.0.1)
      (behind hand hand head a transferred next ups downs s tie (subst (λ (h : Hand). Holds h None ups downs s) (sym same) held));
}

-- ---- a read was answered

pub owned_of : (last : ℕ) (message : List ℕ) (tag size : ℕ) (written : List Job) (answered : ℕ) (sofar read : List ℕ) (gone : Bool) (ups : List up.Message) (downs : List Put) (s : State)
    → Asking (ask_of last message tag size written answered sofar read gone) ups downs s → Owned (ask_of last message tag size written answered sofar read gone) s
owned_of last message tag size written answered sofar read gone ups downs s a =
    stage_owns last message tag size written answered sofar read gone a.past a.todo a.flow s
    (has_read s.halted.bulk_in gone a.flow read (gives (events_of BulkIn downs)) (sent_to BulkIn ups) s.bulk_in a.ins) a.stage

pub piece_text : (laws : WireLaws) (tag size : ℕ) (eom : Bool) (carried bytes : List ℕ) → IsTag tag → 1 ≤ length carried → length carried ≤ size → size < 2 ^ 32
    → bytes ≡ in_header_bytes (header_of tag (length carried) eom) ++ (carried ++ alignment_of (length carried)) → IsPiece tag size eom carried bytes
piece_text laws tag size eom carried bytes tagged some few small is = record {
  tagged = tagged;
  some = some;
  few = few;
  text = subst (λ (l : List ℕ). InText (header_of tag (length carried) eom) carried l) (sym is) (is_text laws tag eom carried tagged some (omega (arith, few, small)));
}

pub begins_piece : (laws : WireLaws) (last : ℕ) (message : List ℕ) (tag size : ℕ) (written : List Job) (answered : ℕ) (sofar read : List ℕ) (gone : Bool) (s : State) → IsTag tag → size < 2 ^ 32 → 12 ≤ length read
    → Owned (ask_of last message tag size written answered sofar read gone) s → BeginsPiece tag size read
begins_piece laws last message tag size written answered sofar read gone s tagged small long (NothingRead empty none) = absurd (omega (arith, long, ap (λ (l : List ℕ). length l) none))
begins_piece laws last message tag size written answered sofar read gone s tagged small long (PiecesRead response ran all none) = absurd (omega (arith, long, ap (λ (l : List ℕ). length l) none))
begins_piece laws last message tag size written answered sofar read gone s tagged small long (PieceRead response carried rest ran all some fits text first) = record {
  eom = eqb (length carried) (length (carried ++ unread s));
  carried = carried;
  more = rest;
  long = long;
  piece = piece_text laws tag size (eqb (length carried) (length (carried ++ unread s))) carried (read ++ rest) tagged some fits small
      (sym text ∙ ap (λ (l : List ℕ). in_header_bytes (header_of tag (length carried) (eqb (length carried) (length (carried ++ unread s)))) ++ (l ++ alignment_of (length carried))) (take_own carried (unread s)));
}

pub some_long : (l : List ℕ) → l ≢ [] → 1 ≤ length l
some_long [] some = absurd (some refl)
some_long (x ∷ l) some = omega arith

given_in : (laws : WireLaws) (last tag size : ℕ) (message sofar read : List ℕ) (head : SubmitHead) (a : RetSubmitHead) (transferred : List ℕ) (next : ℕ) (ups : List up.Message) (downs : List Put) (s : State)
    → head.ep ≡ 2 → Tie (Reads last message tag size sofar read) (Some head) next ups (Submitted head a transferred ∷ downs) s
    → (h : IsReading last message tag size sofar read (Some head) ups (Submitted head a transferred ∷ downs) s)
    → InAnswered (ask_with last message tag size (h.front ++ h.request ∷ []) h.answered sofar read) ups (Gives head a transferred) downs s
    → IsGiven (Reads last message tag size sofar read) head (Submitted head a transferred) next ups downs s
given_in laws last tag size message sofar read head a transferred next ups downs s own tie h (TookHalt shuts halted later) = clash s.halted.bulk_in tie.in_usable shuts
given_in laws last tag size message sofar read head a transferred next ups downs s own tie h (TookFull x is full goes) =
    let same : transferred ≡ x.bytes = cc in
    let told : a ≡ record { seqnum = x.head.seqnum; status = success; actual = length x.bytes } = cc in
    let all : length transferred ≡ read_size = ap (λ (l : List ℕ). length l) same ∙ full in
    let later = subst (λ (l : List ℕ). Asking (ask_with last message tag size (h.front ++ h.request ∷ []) h.answered sofar (read ++ l)) ups downs s) (sym same) goes in
    let long : 12 ≤ length (read ++ transferred) = omega (arith, all, length-append read transferred) in
    let piece = begins_piece laws last message tag size (h.front ++ h.request ∷ []) h.answered sofar (read ++ transferred) false s h.tagged h.sized.1 long (owned_of last message tag size (h.front ++ h.request ∷ []) h.answered sofar (read ++ transferred) false ups downs s later) in
    record {
      answer = a;
      transferred = transferred;
      is = refl;
      number = tie.good.0.1.number;
      status = ap (λ (r : RetSubmitHead). r.status) told;
      goes = TakesFull last tag size message sofar read refl own (ap (λ (r : RetSubmitHead). r.actual) told ∙ ap (λ (l : List ℕ). length l) (sym same)) all piece
          (behind (Reads last message tag size sofar read) (Reads last message tag size sofar (read ++ transferred)) head a transferred next ups downs s tie (record {
            front = h.front;
            request = h.request;
            answered = h.answered;
            asking = later;
            counted = omega (arith, h.counted, no_transfer head own);
            behind = h.behind;
            header = h.header;
            tagged = h.tagged;
            sized = h.sized;
            long = inr long;
            bulk = tt;
          }));
    }
given_in laws last tag size message sofar read head a transferred next ups downs s own tie h (TookEnd x is small ends) = by ends.eom refl
  where
    same : transferred ≡ x.bytes
    same = cc

    told : a ≡ record { seqnum = x.head.seqnum; status = success; actual = length x.bytes }
    told = cc

    actual : a.actual ≡ length transferred
    actual = ap (λ (r : RetSubmitHead). r.actual) told ∙ ap (λ (l : List ℕ). length l) (sym same)

    short : length transferred < read_size
    short = subst (λ (l : List ℕ). length l < read_size) (sym same) small

    all : h.answered ≡ length (h.front ++ h.request ∷ [])
    all = omega (arith, h.counted, no_transfer head own)

    piece : IsPiece tag size ends.eom ends.carried (read ++ transferred)
    piece = piece_text laws tag size ends.eom ends.carried (read ++ transferred) h.tagged ends.some ends.fits h.sized.1 (ap (λ (l : List ℕ). read ++ l) same ∙ ends.text)

    next_one : Asking (ask_with last message tag size [] 0 (sofar ++ ends.carried) []) ups downs s
    next_one = ends.next tag size all

    by : (b : Bool) → ends.eom ≡ b → IsGiven (Reads last message tag size sofar read) head (Submitted head a transferred) next ups downs s
    by true eom =
        let lines = lines_behind (Reads last message tag size sofar read) head a transferred next ups downs s tie in
        record {
          answer = a;
          transferred = transferred;
          is = refl;
          number = tie.good.0.1.number;
          status = ap (λ (r : RetSubmitHead). r.status) told;
          goes = TakesLast last tag size message sofar read ends.carried refl own actual short (subst (λ (b : Bool). IsPiece tag size b ends.carried (read ++ transferred)) eom piece)
              (subst (λ (l : List ℕ). Ran last message l s.log) (ends.ended eom) ends.ran)
              (behind (Reads last message tag size sofar read) Free head a transferred next ups downs s tie (
                refl,
                hands_none last message tag size (sofar ++ ends.carried) [] false ups downs s next_one (not_nothing sofar ends.carried ends.some)
                    (all_answered (asked_of None) BulkOut ups downs s lines refl).queue (all_answered (asked_of None) BulkIn ups downs s lines refl).queue,
              ));
        }
    by false eom = record {
      answer = a;
      transferred = transferred;
      is = refl;
      number = tie.good.0.1.number;
      status = ap (λ (r : RetSubmitHead). r.status) told;
      goes = TakesPiece last tag size message sofar read ends.carried ends.response refl own actual short (subst (λ (b : Bool). IsPiece tag size b ends.carried (read ++ transferred)) eom piece) ends.ran
          (unread s, ends.all) (omega (arith, ap (λ (l : List ℕ). length l) ends.all, length-append (sofar ++ ends.carried) (unread s), some_long (unread s) (ends.longer eom)))
          (behind (Reads last message tag size sofar read) (Pauses last message (sofar ++ ends.carried)) head a transferred next ups downs s tie
          (record { tag = tag; size = size; asking = next_one; some = not_nothing sofar ends.carried ends.some; more = ends.longer eom; none = refl }));
    }

-- ---- the next answer

given_own : (laws : WireLaws) (hand : Hand) (head : SubmitHead) (a : RetSubmitHead) (transferred : List ℕ) (next : ℕ) (ups : List up.Message) (downs : List Put) (s : State)
    → Tie hand (Some head) next ups (Submitted head a transferred ∷ downs) s → Holds hand (Some head) ups (Submitted head a transferred ∷ downs) s
    → IsGiven hand head (Submitted head a transferred) next ups downs s
given_own laws Free head a transferred next ups downs s tie h = let e : Some head ≡ None = h.0 in absurd (cc)
given_own laws (Says message said) head a transferred next ups downs s tie h =
    let taken = was_taken h.last message h.tag h.size (h.front ++ h.job ∷ []) h.answered [] [] ups head a transferred downs s h.out tie.out_usable h.asking in
    given_out (Says message said) (Says message said) _ _ head a transferred next ups downs s h.out refl tie taken (record {
      last = h.last;
      tag = h.tag;
      size = h.size;
      front = h.front;
      job = h.job;
      answered = h.answered + 1;
      asking = taken.asking;
      counted = counts_it (h.front ++ h.job ∷ []) h.answered head h.out h.counted;
      inner = h.inner;
      goes_on = h.goes_on;
      so_far = h.so_far;
      out = tt;
    })
given_own laws (Said last message) head a transferred next ups downs s tie h =
    let taken = was_taken last message h.tag h.size (h.front ++ h.job ∷ []) h.answered [] [] ups head a transferred downs s h.out tie.out_usable h.asking in
    given_out (Said last message) (Said last message) _ _ head a transferred next ups downs s h.out refl tie taken (record {
      tag = h.tag;
      size = h.size;
      front = h.front;
      job = h.job;
      answered = h.answered + 1;
      asking = taken.asking;
      counted = counts_it (h.front ++ h.job ∷ []) h.answered head h.out h.counted;
      inner = h.inner;
      ended = h.ended;
      out = tt;
    })
given_own laws (Reads last message tag size sofar read) head a transferred next ups downs s tie h = by h.bulk
  where
    by : (head.ep ≡ 1) ⊎ (head.ep ≡ 2) → IsGiven (Reads last message tag size sofar read) head (Submitted head a transferred) next ups downs s
    by (inl out) =
        let taken = was_taken last message tag size (h.front ++ h.request ∷ []) h.answered sofar read ups head a transferred downs s out tie.out_usable h.asking in
        given_out (Reads last message tag size sofar read) (Reads last message tag size sofar read) _ _ head a transferred next ups downs s out refl tie taken (record {
          front = h.front;
          request = h.request;
          answered = h.answered + 1;
          asking = taken.asking;
          counted = counts_it (h.front ++ h.request ∷ []) h.answered head out h.counted;
          behind = h.behind;
          header = h.header;
          tagged = h.tagged;
          sized = h.sized;
          long = h.long;
          bulk = tt;
        })
    by (inr own) = given_in laws last tag size message sofar read head a transferred next ups downs s own tie h (in_answered last message tag size (h.front ++ h.request ∷ []) h.answered sofar read false ups head a transferred downs s own h.asking)
given_own laws (Pauses last message sofar) head a transferred next ups downs s tie h = let e : Some head ≡ None = h.none in absurd (cc)

-- it is to the one submit that is not answered
pub the_one : (b : Bool) (head asked : SubmitHead) (rest : List SubmitHead) → cond b (head ∷ []) [] ≡ asked ∷ rest → asked ≡ head
the_one true head asked rest e = cc
the_one false head asked rest e = absurd (cc)

pub given : (laws : WireLaws) (hand : Hand) (head : SubmitHead) (next : ℕ) (put : Put) (ups : List up.Message) (downs : List Put) (s : State)
    → Tie hand (Some head) next ups (put ∷ downs) s → IsGiven hand head put next ups downs s
given laws hand head next (Submitted asked a transferred) ups downs s tie =
    let fits = tie.good.0.0 in
    let same = the_one (eqb head.ep (number_of fits.endpoint)) head asked _ (submit_answered (asked_of (Some head)) [] ups asked a transferred downs s fits.endpoint fits.number tie.lines).1 in
    let own = subst (λ (x : SubmitHead). Tie hand (Some head) next ups (Submitted x a transferred ∷ downs) s) same tie in
    subst (λ (x : SubmitHead). IsGiven hand head (Submitted x a transferred) next ups downs s) (sym same) (given_own laws hand head a transferred next ups downs s own own.held)
given laws hand head next (Unlinked asked a) ups downs s tie = absurd tie.good.0
