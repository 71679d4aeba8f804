-- a tie stays under what a host writes
use Rattle.std.proofs.Common.{◌≡◌, ◌≢◌, ◌∙◌, ◌⊎◌, inl, inr, ℕ, ◌+◌, true, false, eqb, List, [], ◌∷◌, ◌++◌, length, Option, Some, None, refl, ap, sym, subst, append-nil, length-append, arith}
use Rattle.std.proofs.lemmas.Bool.{eq-eqb}
use Rattle.usbip_wire.specs.declared.submit.SubmitHead.{SubmitHead}
use Rattle.usbip_wire.specs.declared.unlink.UnlinkHead.{UnlinkHead}
use Rattle.usbip_wire.specs.Up as up
use Rattle.tmc_wire.specs.declared.header.OutHeader.{OutHeader}
use Rattle.tmc_wire.specs.declared.header.OutHeader.TheVariants.{Message, Request}
use Rattle.tmc_law.specs.Endpoint.{Endpoint, Control, BulkOut, BulkIn, number_of}
use Rattle.tmc_law.specs.State.{State}
use Rattle.tmc_law.specs.Put.{Put}
use Rattle.host_joint.specs.Lines.{EmptyLine, unlinks_in, unlinked_by, Fitting, AllFitting}
use Rattle.host_joint.specs.Unlinking.{IsNamed}
use Rattle.host_joint.specs.Jobs.{Job, last_header, data_in}
use Rattle.host_joint.specs.Reads.{IsRead}
use Rattle.host_joint.specs.Stage.{NoneComes, Inner, Final, IsInner, IsFinal}
use Rattle.host_joint.specs.Asking.{Asking, AtRest, IsQuiet}
use Rattle.host_joint.specs.Hand.{Hand, Free, Says, Said, Reads, Pauses, IsTransfer, Speaks, Writes, WritesPart, WritesLast, WritesRequest, WritesNext, WritesRead}
use Rattle.host_joint.specs.Tie.{asked_of, transfers_of, IsSaying, HasSaid, IsReading, HasRead, Holds, Tie, ask_with}
use Rattle.host_joint.proofs.Queues.{Apart, which}
use Rattle.host_joint.proofs.Flows.{all_answered}
use Rattle.host_joint.proofs.Booking.{submit_written}
use Rattle.host_joint.proofs.Numbered.{begins_new, rises_written}
use Rattle.host_joint.proofs.Starting.{starts}
use Rattle.host_joint.proofs.Sending.{part_written, request_written, read_written}
use Rattle.host_joint.proofs.Setting.{request_set, last_set}
use Rattle.host_joint.proofs.Listing.{last_more, data-more}
use Rattle.host_joint.proofs.Counting.{not_final}
use Rattle.host_joint.proofs.Tying.{none_unlinked}
use Rattle.host_joint.proofs.Transfers.{WireLaws, is_job}

-- ---- the submit that is not answered

pub own_asked : (e : Endpoint) (head : SubmitHead) → head.ep ≡ number_of e → asked_of (Some head) e ≡ head ∷ []
own_asked e head is = rw (eq-eqb head.ep (number_of e) is) refl

pub other_asked : (e d : Endpoint) (head : SubmitHead) → head.ep ≡ number_of e → d ≢ e → asked_of (Some head) d ≡ []
other_asked e d head is differ = by (which e d)
  where
    by : (e ≡ d) ⊎ Apart e d → asked_of (Some head) d ≡ []
    by (inl same) = absurd (differ (sym same))
    by (inr apart) = rw (ap (λ (n : ℕ). eqb n (number_of d)) is ∙ apart.number) refl

pub one_transfer : (head : SubmitHead) → head.ep ≡ 1 → transfers_of (Some head) ≡ 1
one_transfer head is = rw (eq-eqb head.ep 1 is) refl

pub no_transfer : (head : SubmitHead) → head.ep ≡ 2 → transfers_of (Some head) ≡ 0
no_transfer head is = let e : eqb head.ep 1 ≡ false = ap (λ (n : ℕ). eqb n 1) is in rw e refl

pub fitting_more : (ups : List up.Message) (head : SubmitHead) (bytes : List ℕ) → Fitting head → AllFitting ups → AllFitting (ups ++ up.Submit head bytes ∷ [])
fitting_more [] head bytes fits h = (fits, tt)
fitting_more (up.Submit x transferred ∷ ups) head bytes fits h = (h.0, fitting_more ups head bytes fits h.1)
fitting_more (up.Unlink x ∷ ups) head bytes fits h = fitting_more ups head bytes fits h

-- ---- all that a tie says beside what is in hand

rebuilt : (before after : Hand) (head : SubmitHead) (bytes : List ℕ) (ups : List up.Message) (downs : List Put) (s : State) (e : Endpoint) → Fitting head → head.ep ≡ number_of e
    → Tie before None head.seqnum ups downs s → Holds after (Some head) (ups ++ up.Submit head bytes ∷ []) downs s → Tie after (Some head) (head.seqnum + 1) (ups ++ up.Submit head bytes ∷ []) downs s
rebuilt before after head bytes ups downs s e fits number tie held =
    let rises = rises_written head bytes ups s tie.below tie.rises in
    let none = (none_unlinked (unlinked_by downs) (unlinks_in ups) tie.lines.unlinked).0 in
    record {
      run = tie.run;
      reached = tie.reached;
      lines = submit_written (asked_of None) (asked_of (Some head)) [] ups downs s e head bytes number (own_asked e head number) (λ d differ. other_asked e d head number differ)
          (λ named. subst (λ (l : List UnlinkHead). IsNamed l head.seqnum) none named) tie.lines;
      fitting = fitting_more ups head bytes fits tie.fitting;
      good = tie.good;
      out_usable = tie.out_usable;
      in_usable = tie.in_usable;
      rises = rises.0;
      below = rises.1;
      held = held;
    }

out_fits : (head : SubmitHead) (header : OutHeader) (text bytes : List ℕ) → IsTransfer head header text bytes → Fitting head
out_fits head header text bytes is = record { endpoint = BulkOut; number = is.number; way = is.way }

-- ---- a message begins

empty_line : (ups : List up.Message) (downs : List Put) (s : State) (next : ℕ) (hand : Hand) → Tie hand None next ups downs s → (e : Endpoint) → EmptyLine e ups downs s
empty_line ups downs s next hand tie e = all_answered (asked_of None) e ups downs s tie.lines refl

pub at_rest : (ups : List up.Message) (downs : List Put) (s : State) (next : ℕ) → (tie : Tie Free None next ups downs s) → AtRest next s
at_rest ups downs s next tie =
    let at = tie.held.1 in
    let fresh = begins_new next next ups s (omega arith) tie.below in
    record {
      control = (empty_line ups downs s next Free tie Control).queue;
      bulk_out = at.bulk_out;
      bulk_in = at.bulk_in;
      transfer = at.out.0;
      part = at.out.1;
      waiting = fresh.1;
      side = at.side;
      running = at.running;
      log = fresh.0;
    }

pub quiet : (ups : List up.Message) (downs : List Put) (s : State) (next : ℕ) (hand : Hand) → Tie hand None next ups downs s → IsQuiet ups downs
quiet ups downs s next hand tie = record {
  control = (empty_line ups downs s next hand tie Control).sent;
  bulk_out = (empty_line ups downs s next hand tie BulkOut).sent;
  bulk_in = (empty_line ups downs s next hand tie BulkIn).sent;
  unlinks = (none_unlinked (unlinked_by downs) (unlinks_in ups) tie.lines.unlinked).1;
  outs = (empty_line ups downs s next hand tie BulkOut).events;
  ins = (empty_line ups downs s next hand tie BulkIn).events;
}

-- ---- a part of a message

pub saying : (message said : List ℕ) (ups : List up.Message) (downs : List Put) (s : State) (h : IsSaying message said None ups downs s)
    → Asking (ask_with h.last message h.tag h.size (h.front ++ h.job ∷ []) (length (h.front ++ h.job ∷ [])) [] []) ups downs s
saying message said ups downs s h =
    subst (λ (n : ℕ). Asking (ask_with h.last message h.tag h.size (h.front ++ h.job ∷ []) n [] []) ups downs s) (omega (arith, h.counted)) h.asking

pub counts_one : (written : List Job) (job : Job) (answered : ℕ) (head : SubmitHead) → head.ep ≡ 1 → length written ≡ answered → length (written ++ job ∷ []) ≡ answered + transfers_of (Some head)
counts_one written job answered head is all = omega (arith, length-append written (job ∷ []), one_transfer head is, all)

unfoldable pub goes_on_part : (laws : WireLaws) (before : Hand) (head : SubmitHead) (bytes : List ℕ) (tag : ℕ) (message said text more : List ℕ) (ups : List up.Message) (downs : List Put) (s : State)
    → Tie before None head.seqnum ups downs s → Holds before None ups downs s → Speaks before message said → message ≡ said ++ (text ++ more)
    → IsTransfer head (Message tag (length text) false) text bytes → IsSaying message (said ++ text) (Some head) (ups ++ up.Submit head bytes ∷ []) downs s
goes_on_part laws Free head bytes tag message said text more ups downs s tie h speaks whole is =
    let job : Job = record { head = head; header = Message tag (length text) false; message = text; bytes = bytes } in
    record {
      last = head.seqnum;
      tag = 0;
      size = 0;
      front = [];
      job = job;
      answered = 0;
      asking = starts head.seqnum message 0 0 job ups downs s (at_rest ups downs s head.seqnum tie) (quiet ups downs s head.seqnum Free tie) (is_job laws head (Message tag (length text) false) text bytes is) speaks.1
          (Inner tag (length text) more refl (whole ∙ ap (λ (l : List ℕ). l ++ (text ++ more)) speaks.0) tt);
      counted = counts_one [] job 0 head is.number refl;
      inner = tt;
      goes_on = tt;
      so_far = append-nil text ∙ ap (λ (l : List ℕ). l ++ text) (sym speaks.0);
      out = is.number;
    }
goes_on_part laws (Says other first) head bytes tag message said text more ups downs s tie h speaks whole is =
    let job : Job = record { head = head; header = Message tag (length text) false; message = text; bytes = bytes } in
    let left : other ≡ data_in (h.front ++ h.job ∷ []) ++ (text ++ more) = sym speaks.0 ∙ whole ∙ ap (λ (l : List ℕ). l ++ (text ++ more)) (speaks.1 ∙ sym h.so_far) in
    subst (λ (l : List ℕ). IsSaying l (said ++ text) (Some head) (ups ++ up.Submit head bytes ∷ []) downs s) (sym speaks.0) (record {
      last = h.last;
      tag = h.tag;
      size = h.size;
      front = h.front ++ h.job ∷ [];
      job = job;
      answered = length (h.front ++ h.job ∷ []);
      asking = part_written h.last other h.tag h.size (h.front ++ h.job ∷ []) [] [] false ups downs s job (is_job laws head (Message tag (length text) false) text bytes is)
          (record { rest = text ++ more; inner = subst (λ (o : Option OutHeader). IsInner o) (sym (last_more h.front h.job)) h.goes_on; left = left; carries = Inner tag (length text) more refl refl tt; unread = refl }) (saying other first ups downs s h);
      counted = counts_one (h.front ++ h.job ∷ []) job (length (h.front ++ h.job ∷ [])) head is.number refl;
      inner = subst (λ (o : Option OutHeader). IsInner o) (sym (last_more h.front h.job)) h.goes_on;
      goes_on = tt;
      so_far = data-more (h.front ++ h.job ∷ []) job ∙ ap (λ (l : List ℕ). l ++ text) (h.so_far ∙ sym speaks.1);
      out = is.number;
    })
goes_on_part laws (Said last other) head bytes tag message said text more ups downs s tie h speaks whole is = absurd speaks
goes_on_part laws (Reads last other t n sofar read) head bytes tag message said text more ups downs s tie h speaks whole is = absurd speaks
goes_on_part laws (Pauses last other sofar) head bytes tag message said text more ups downs s tie h speaks whole is = absurd speaks

unfoldable pub ends_part : (laws : WireLaws) (before : Hand) (head : SubmitHead) (bytes : List ℕ) (tag : ℕ) (message said text : List ℕ) (ups : List up.Message) (downs : List Put) (s : State)
    → Tie before None head.seqnum ups downs s → Holds before None ups downs s → Speaks before message said → message ≡ said ++ text
    → IsTransfer head (Message tag (length text) true) text bytes → HasSaid head.seqnum message (Some head) (ups ++ up.Submit head bytes ∷ []) downs s
ends_part laws Free head bytes tag message said text ups downs s tie h speaks whole is =
    let job : Job = record { head = head; header = Message tag (length text) true; message = text; bytes = bytes } in
    record {
      tag = 0;
      size = 0;
      front = [];
      job = job;
      answered = 0;
      asking = starts head.seqnum message 0 0 job ups downs s (at_rest ups downs s head.seqnum tie) (quiet ups downs s head.seqnum Free tie) (is_job laws head (Message tag (length text) true) text bytes is) speaks.1
          (Final tag (length text) refl (whole ∙ ap (λ (l : List ℕ). l ++ text) speaks.0) refl (NoneComes refl));
      counted = counts_one [] job 0 head is.number refl;
      inner = tt;
      ended = tt;
      out = is.number;
    }
ends_part laws (Says other first) head bytes tag message said text ups downs s tie h speaks whole is =
    let job : Job = record { head = head; header = Message tag (length text) true; message = text; bytes = bytes } in
    let left : other ≡ data_in (h.front ++ h.job ∷ []) ++ text = sym speaks.0 ∙ whole ∙ ap (λ (l : List ℕ). l ++ text) (speaks.1 ∙ sym h.so_far) in
    let fresh = begins_new head.seqnum head.seqnum ups s (omega arith) tie.below in
    let settled = last_set (ask_with h.last other h.tag h.size (h.front ++ h.job ∷ []) (length (h.front ++ h.job ∷ [])) [] []) head.seqnum ups downs s (subst (λ (o : Option OutHeader). IsInner o) (sym (last_more h.front h.job)) h.goes_on) refl refl fresh.0 fresh.1 (saying other first ups downs s h) in
    subst (λ (l : List ℕ). HasSaid head.seqnum l (Some head) (ups ++ up.Submit head bytes ∷ []) downs s) (sym speaks.0) (record {
      tag = h.tag;
      size = h.size;
      front = h.front ++ h.job ∷ [];
      job = job;
      answered = length (h.front ++ h.job ∷ []);
      asking = part_written head.seqnum other h.tag h.size (h.front ++ h.job ∷ []) [] [] false ups downs s job (is_job laws head (Message tag (length text) true) text bytes is)
          (record { rest = text; inner = subst (λ (o : Option OutHeader). IsInner o) (sym (last_more h.front h.job)) h.goes_on; left = left; carries = Final tag (length text) refl refl refl (NoneComes refl); unread = refl }) settled;
      counted = counts_one (h.front ++ h.job ∷ []) job (length (h.front ++ h.job ∷ [])) head is.number refl;
      inner = subst (λ (o : Option OutHeader). IsInner o) (sym (last_more h.front h.job)) h.goes_on;
      ended = tt;
      out = is.number;
    })
ends_part laws (Said last other) head bytes tag message said text ups downs s tie h speaks whole is = absurd speaks
ends_part laws (Reads last other t n sofar read) head bytes tag message said text ups downs s tie h speaks whole is = absurd speaks
ends_part laws (Pauses last other sofar) head bytes tag message said text ups downs s tie h speaks whole is = absurd speaks

-- ---- a request, and a read

asks_first : (laws : WireLaws) (head : SubmitHead) (bytes : List ℕ) (last tag size : ℕ) (message : List ℕ) (ups : List up.Message) (downs : List Put) (s : State)
    → HasSaid last message None ups downs s → IsTransfer head (Request tag size) [] bytes → IsReading last message tag size [] [] (Some head) (ups ++ up.Submit head bytes ∷ []) downs s
asks_first laws head bytes last tag size message ups downs s h is =
    let job : Job = record { head = head; header = Request tag size; message = []; bytes = bytes } in
    let all : Asking (ask_with last message h.tag h.size (h.front ++ h.job ∷ []) (length (h.front ++ h.job ∷ [])) [] []) ups downs s =
    subst (λ (n : ℕ). Asking (ask_with last message h.tag h.size (h.front ++ h.job ∷ []) n [] []) ups downs s) (omega (arith, h.counted)) h.asking in
    let ended = subst (λ (o : Option OutHeader). IsFinal o) (sym (last_more h.front h.job)) h.ended in
    let settled = request_set (ask_with last message h.tag h.size (h.front ++ h.job ∷ []) (length (h.front ++ h.job ∷ [])) [] []) tag size ups downs s (λ t n e. not_final t n (last_header (h.front ++ h.job ∷ [])) e ended) refl all in
    record {
      front = h.front ++ h.job ∷ [];
      request = job;
      answered = length (h.front ++ h.job ∷ []);
      asking = request_written last message tag size (h.front ++ h.job ∷ []) [] [] false ups downs s job (is_job laws head (Request tag size) [] bytes is) refl (inl ended) (λ some. absurd (some refl)) settled;
      counted = counts_one (h.front ++ h.job ∷ []) job (length (h.front ++ h.job ∷ [])) head is.number refl;
      behind = inl ended;
      header = refl;
      tagged = (is.proper.0, is.fits.0);
      sized = (is.proper.1, is.fits.1);
      long = inl refl;
      bulk = inl is.number;
    }

asks_next : (laws : WireLaws) (head : SubmitHead) (bytes : List ℕ) (last tag size : ℕ) (message sofar : List ℕ) (ups : List up.Message) (downs : List Put) (s : State)
    → HasRead last message sofar None ups downs s → IsTransfer head (Request tag size) [] bytes → IsReading last message tag size sofar [] (Some head) (ups ++ up.Submit head bytes ∷ []) downs s
asks_next laws head bytes last tag size message sofar ups downs s h is =
    let job : Job = record { head = head; header = Request tag size; message = []; bytes = bytes } in
    let settled = request_set (ask_with last message h.tag h.size [] 0 sofar []) tag size ups downs s (λ t n e. nothing t n e) refl h.asking in
    record {
      front = [];
      request = job;
      answered = 0;
      asking = request_written last message tag size [] sofar [] false ups downs s job (is_job laws head (Request tag size) [] bytes is) refl (inr (refl, h.some)) (λ some. h.more) settled;
      counted = counts_one [] job 0 head is.number refl;
      behind = inr (refl, h.some);
      header = refl;
      tagged = (is.proper.0, is.fits.0);
      sized = (is.proper.1, is.fits.1);
      long = inl refl;
      bulk = inl is.number;
    }
  where
    nothing : (t n : ℕ) → None ≡ Some (Request t n) → ⊥
    nothing t n e = cc

reads_more : (head : SubmitHead) (last tag size : ℕ) (message sofar read : List ℕ) (ups : List up.Message) (downs : List Put) (s : State)
    → IsReading last message tag size sofar read None ups downs s → IsRead head → IsReading last message tag size sofar read (Some head) (ups ++ up.Submit head [] ∷ []) downs s
reads_more head last tag size message sofar read ups downs s h is = record {
  front = h.front;
  request = h.request;
  answered = h.answered;
  asking = read_written last message tag size (h.front ++ h.request ∷ []) h.answered sofar read ups downs s head is h.asking;
  counted = omega (arith, h.counted, no_transfer head is.number);
  behind = h.behind;
  header = h.header;
  tagged = h.tagged;
  sized = h.sized;
  long = h.long;
  bulk = inr is.number;
}

-- ---- all that a host writes

writes_own : (laws : WireLaws) (before after : Hand) (head : SubmitHead) (bytes : List ℕ) (ups : List up.Message) (downs : List Put) (s : State) → Writes before head bytes after
    → Tie before None head.seqnum ups downs s → Tie after (Some head) (head.seqnum + 1) (ups ++ up.Submit head bytes ∷ []) downs s
writes_own laws before after head bytes ups downs s (WritesPart tag message said text more speaks whole is then) tie =
    rebuilt before after head bytes ups downs s BulkOut (out_fits head _ text bytes is) is.number tie
    (subst (λ (h : Hand). Holds h (Some head) (ups ++ up.Submit head bytes ∷ []) downs s) (sym then) (goes_on_part laws before head bytes tag message said text more ups downs s tie tie.held speaks whole is))
writes_own laws before after head bytes ups downs s (WritesLast tag message said text speaks whole is then) tie =
    rebuilt before after head bytes ups downs s BulkOut (out_fits head _ text bytes is) is.number tie
    (subst (λ (h : Hand). Holds h (Some head) (ups ++ up.Submit head bytes ∷ []) downs s) (sym then) (ends_part laws before head bytes tag message said text ups downs s tie tie.held speaks whole is))
writes_own laws before after head bytes ups downs s (WritesRequest last tag size message has is then) tie =
    rebuilt before after head bytes ups downs s BulkOut (out_fits head _ [] bytes is) is.number tie
    (subst (λ (h : Hand). Holds h (Some head) (ups ++ up.Submit head bytes ∷ []) downs s) (sym then)
    (asks_first laws head bytes last tag size message ups downs s (subst (λ (h : Hand). Holds h None ups downs s) has tie.held) is))
writes_own laws before after head bytes ups downs s (WritesNext last tag size message sofar has is then) tie =
    rebuilt before after head bytes ups downs s BulkOut (out_fits head _ [] bytes is) is.number tie
    (subst (λ (h : Hand). Holds h (Some head) (ups ++ up.Submit head bytes ∷ []) downs s) (sym then)
    (asks_next laws head bytes last tag size message sofar ups downs s (subst (λ (h : Hand). Holds h None ups downs s) has tie.held) is))
writes_own laws before after head bytes ups downs s (WritesRead last tag size message sofar read has is none then) tie =
    rebuilt before after head bytes ups downs s BulkIn (record { endpoint = BulkIn; number = is.number; way = is.way }) is.number tie
    (subst (λ (h : Hand). Holds h (Some head) (ups ++ up.Submit head bytes ∷ []) downs s) (sym (then ∙ has))
    (subst (λ (l : List ℕ). IsReading last message tag size sofar read (Some head) (ups ++ up.Submit head l ∷ []) downs s) (sym none)
    (reads_more head last tag size message sofar read ups downs s (subst (λ (h : Hand). Holds h None ups downs s) has tie.held) is)))

pub writes_kept : (laws : WireLaws) (before after : Hand) (head : SubmitHead) (bytes : List ℕ) (next : ℕ) (ups : List up.Message) (downs : List Put) (s : State) → Writes before head bytes after → head.seqnum ≡ next
    → Tie before None next ups downs s → Tie after (Some head) (next + 1) (ups ++ up.Submit head bytes ∷ []) downs s
writes_kept laws before after head bytes next ups downs s writes is tie =
    subst (λ (n : ℕ). Tie after (Some head) (n + 1) (ups ++ up.Submit head bytes ∷ []) downs s) is
    (writes_own laws before after head bytes ups downs s writes (subst (λ (n : ℕ). Tie before None n ups downs s) (sym is) tie))
