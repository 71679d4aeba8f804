-- a recovery goes on, and ends
use Rattle.std.proofs.Common.{◌≡◌, ◌∙◌, ℕ, ◌+◌, false, List, [], ◌∷◌, ◌++◌, length, Option, Some, None, refl, ap, sym, subst}
use Rattle.std.proofs.lemmas.Bool.{eq-eqb}
use Rattle.usbip_wire.specs.declared.submit.SubmitHead.{SubmitHead}
use Rattle.usbip_wire.specs.declared.unlink.UnlinkHead.{UnlinkHead}
use Rattle.usbip_wire.specs.declared.ret_submit.RetSubmitHead.{RetSubmitHead}
use Rattle.usbip_wire.specs.Up as up
use Rattle.tmc_law.specs.Endpoint.{Endpoint, Control, BulkIn, number_of}
use Rattle.tmc_law.specs.State.{State}
use Rattle.tmc_law.specs.Put.{Put, Submitted, Unlinked, success}
use Rattle.tmc_law.specs.AnswerFits.{AllAnswers}
use Rattle.tmc_law.specs.Run.{Entry, Runs, inputs, outputs}
use Rattle.host_joint.specs.Asking.{StaysPlugged}
use Rattle.host_joint.specs.Lines.{Sent, Lines, Event, Gives, events_of, sent_to, unlinks_in, unlinked_by, InOrder, Fitting}
use Rattle.host_joint.specs.Unlinking.{IsNamed}
use Rattle.host_joint.specs.Reads.{IsRead}
use Rattle.host_joint.specs.Positions.{IsAt, IsClosed, rests, cleared}
use Rattle.host_joint.specs.Requests.{RequestAt, Comes, Pends, Answered, Says, SaysOne, SaysOther}
use Rattle.host_joint.specs.Drains.{DrainAt, ReadComes, ReadPends, ReadShort, ReadHalted}
use Rattle.host_joint.specs.Hand as hand
use Rattle.host_joint.specs.Tie.{asked_of, IsGood, Tie}
use Rattle.host_joint.specs.Bond.{IsFit, Bond, Place, Resting, ToAbortIn, WantsPacket, GavePacket, ToAbortOut, ToAbortFirst, Unfinished, AbortedOut, Anywhere, Clearing, BehindClear, position_of, Letter, AbortsIn, ChecksIn, AbortsOut, AbortsFirst, ChecksOut, BeginsClear, ChecksClear, Frees, FreesBehind, IsOf, finds, one_of, other_of, leaves, leaves_else, Situation, Reading, Saying, Read, Stands, Requests, Drains, Holds, Bound, Said, SaidOne, SaidOther, Drained, DrainedShort, DrainedHalted}
use Rattle.host_joint.proofs.Flows.{all_answered}
use Rattle.host_joint.proofs.Booking.{submit_written}
use Rattle.host_joint.proofs.Numbered.{rises_written}
use Rattle.host_joint.proofs.Hosting.{own_event}
use Rattle.host_joint.proofs.Sending.{sent-append}
use Rattle.host_joint.proofs.Resting.{rests_closed, in_begun_closed, in_wants_closed, in_ended_closed, out_begun_closed, out_first_closed, out_unfinished_closed, out_aborted_closed, anything_closed, clears_closed, cleared_closed}
use Rattle.host_joint.proofs.Tying.{TieLaws, none_unlinked}
use Rattle.host_joint.proofs.Writing.{own_asked, other_asked, fitting_more}
use Rattle.host_joint.proofs.Bonding.{Keeps, DrainLaw, bond_run, reading_keeps, read_keeps, stands_keeps, drain_keeps}
use Rattle.host_joint.proofs.Saying.{saying_keeps}
use Rattle.host_joint.proofs.Cancelling.{empty, after, same_head}

-- ---- each place is kept by what a device does by itself

pub place_closed : (place : Place) → IsClosed (position_of place)
place_closed Resting = rests_closed
place_closed (ToAbortIn tag) = in_begun_closed tag
place_closed WantsPacket = in_wants_closed
place_closed GavePacket = in_ended_closed
place_closed (ToAbortOut tag) = out_begun_closed tag
place_closed (ToAbortFirst tag) = out_first_closed tag
place_closed Unfinished = out_unfinished_closed
place_closed AbortedOut = out_aborted_closed
place_closed Anywhere = anything_closed
place_closed Clearing = clears_closed
place_closed BehindClear = cleared_closed

-- each request stays one
pub record LetterLaws : Type 1 where
  pub stays : (head : SubmitHead) (letter : Letter) → IsOf head letter → Keeps (λ ups downs s. RequestAt head (position_of (finds letter)) (one_of letter) (other_of letter) (sent_to Control ups) (events_of Control downs) s) (asked_of (Some head)) []
  pub drains : DrainLaw

pub bound_run : (laws : TieLaws) → LetterLaws → (situation : Situation) (run : List Entry) (waits : Option SubmitHead) (unlinks : List UnlinkHead) (next : ℕ) (ups : List up.Message) (downs : List Put) (s t : State)
    → Runs s run t → StaysPlugged run → Bound situation waits unlinks next (inputs run ++ ups) downs s → Bound situation waits unlinks next ups (downs ++ outputs run) t
bound_run laws letters (Reading last message tag size sofar read taken) run waits unlinks next ups downs s t goes plugged bound = record {
  bond = bond_run laws _ (asked_of waits) unlinks (reading_keeps laws.ask last message tag size sofar read taken (asked_of waits) unlinks bound.awaited) run next ups downs s t goes plugged bound.bond;
  awaited = bound.awaited;
}
bound_run laws letters (Saying tag first ended taken) run waits unlinks next ups downs s t goes plugged bound = record {
  bond = bond_run laws _ (asked_of waits) unlinks (saying_keeps laws.ask tag first ended taken waits unlinks bound.awaited) run next ups downs s t goes plugged bound.bond;
  awaited = bound.awaited;
}
bound_run laws letters (Read last message sofar) run waits unlinks next ups downs s t goes plugged bound = record {
  bond = bond_run laws _ (asked_of waits) unlinks (read_keeps laws.ask last message sofar (asked_of waits) unlinks bound.awaited) run next ups downs s t goes plugged bound.bond;
  awaited = bound.awaited;
}
bound_run laws letters (Stands place) run waits unlinks next ups downs s t goes plugged bound = record {
  bond = bond_run laws (Holds (Stands place)) (asked_of waits) unlinks
      (subst (λ (w : Option SubmitHead). Keeps (Holds (Stands place)) (asked_of w) unlinks) (sym bound.awaited.0)
      (subst (λ (l : List UnlinkHead). Keeps (Holds (Stands place)) (asked_of None) l) (sym bound.awaited.1) (stands_keeps (position_of place) (place_closed place)))) run next ups downs s t goes plugged bound.bond;
  awaited = bound.awaited;
}
bound_run laws letters (Requests head letter) run waits unlinks next ups downs s t goes plugged bound = record {
  bond = bond_run laws (Holds (Requests head letter)) (asked_of waits) unlinks
      (subst (λ (w : Option SubmitHead). Keeps (Holds (Requests head letter)) (asked_of w) unlinks) (sym bound.awaited.0)
      (subst (λ (l : List UnlinkHead). Keeps (Holds (Requests head letter)) (asked_of (Some head)) l) (sym bound.awaited.1) (letters.stays head letter bound.awaited.2))) run next ups downs s t goes plugged bound.bond;
  awaited = bound.awaited;
}
bound_run laws letters (Drains head) run waits unlinks next ups downs s t goes plugged bound = record {
  bond = bond_run laws (Holds (Drains head)) (asked_of waits) unlinks
      (subst (λ (w : Option SubmitHead). Keeps (Holds (Drains head)) (asked_of w) unlinks) (sym bound.awaited.0)
      (subst (λ (l : List UnlinkHead). Keeps (Holds (Drains head)) (asked_of (Some head)) l) (sym bound.awaited.1) (drain_keeps letters.drains head bound.awaited.2))) run next ups downs s t goes plugged bound.bond;
  awaited = bound.awaited;
}

-- ---- a submit is written

pub order_more : (ups : List up.Message) (head : SubmitHead) (bytes : List ℕ) → unlinks_in ups ≡ [] → InOrder (ups ++ up.Submit head bytes ∷ [])
order_more [] head bytes none = tt
order_more (up.Submit x transferred ∷ ups) head bytes none = order_more ups head bytes none
order_more (up.Unlink x ∷ ups) head bytes none = absurd (cc)

pub write_bytes : (Before After : List up.Message → List Put → State → Type 0) (head : SubmitHead) (bytes : List ℕ) (next : ℕ) (ups : List up.Message) (downs : List Put) (s : State) (e : Endpoint) → Fitting head → head.ep ≡ number_of e → head.seqnum ≡ next
    → Bond Before (asked_of None) [] next ups downs s → After (ups ++ up.Submit head bytes ∷ []) downs s → Bond After (asked_of (Some head)) [] (next + 1) (ups ++ up.Submit head bytes ∷ []) downs s
write_bytes Before After head bytes next ups downs s e fits number is bond held =
    subst (λ (n : ℕ). Bond After (asked_of (Some head)) [] (n + 1) (ups ++ up.Submit head bytes ∷ []) downs s) is
    (own (subst (λ (n : ℕ). Bond Before (asked_of None) [] n ups downs s) (sym is) bond))
  where
    own : Bond Before (asked_of None) [] head.seqnum ups downs s → Bond After (asked_of (Some head)) [] (head.seqnum + 1) (ups ++ up.Submit head bytes ∷ []) downs s
    own b =
        let rises = rises_written head bytes ups s b.below b.rises in
        let none = none_unlinked (unlinked_by downs) (unlinks_in ups) b.lines.unlinked in
        record {
          run = b.run;
          reached = b.reached;
          lines = submit_written (asked_of None) (asked_of (Some head)) [] ups downs s e head bytes number (own_asked e head number) (λ d differ. other_asked e d head number differ)
              (λ named. subst (λ (l : List UnlinkHead). IsNamed l head.seqnum) none.0 named) b.lines;
          fitting = fitting_more ups head bytes fits b.fitting;
          order = order_more ups head bytes none.1;
          fits = b.fits;
          rises = rises.0;
          below = rises.1;
          held = held;
        }

pub write : (Before After : List up.Message → List Put → State → Type 0) (head : SubmitHead) (next : ℕ) (ups : List up.Message) (downs : List Put) (s : State) (e : Endpoint) → Fitting head → head.ep ≡ number_of e → head.seqnum ≡ next
    → Bond Before (asked_of None) [] next ups downs s → After (ups ++ up.Submit head [] ∷ []) downs s → Bond After (asked_of (Some head)) [] (next + 1) (ups ++ up.Submit head [] ∷ []) downs s
write Before After head next ups downs s e fits number is bond held = write_bytes Before After head [] next ups downs s e fits number is bond held

pub coming : (e : Endpoint) (head : SubmitHead) (ups : List up.Message) → head.ep ≡ number_of e → sent_to e ups ≡ [] → sent_to e (ups ++ up.Submit head [] ∷ []) ≡ record { head = head; transferred = [] } ∷ []
coming e head ups is none =
    let one : sent_to e (up.Submit head [] ∷ []) ≡ record { head = head; transferred = [] } ∷ [] = rw (eq-eqb head.ep (number_of e) is) refl in
    sent-append e ups (up.Submit head [] ∷ []) ∙ ap (λ (l : List Sent). l ++ sent_to e (up.Submit head [] ∷ [])) none ∙ one

pub of_control : (head : SubmitHead) (letter : Letter) → IsOf head letter → head.ep ≡ 0
of_control head (AbortsIn tag) is = is.number
of_control head ChecksIn is = is.number
of_control head (AbortsOut tag) is = is.number
of_control head (AbortsFirst tag) is = is.number
of_control head ChecksOut is = is.number
of_control head BeginsClear is = is.number
of_control head ChecksClear is = is.number
of_control head (Frees e) is = is.number
of_control head (FreesBehind e) is = is.number

pub request_written : (letter : Letter) (head : SubmitHead) (next : ℕ) (ups : List up.Message) (downs : List Put) (s : State) → IsOf head letter → Fitting head → head.seqnum ≡ next
    → Bound (Stands (finds letter)) None [] next ups downs s → Bound (Requests head letter) (Some head) [] (next + 1) (ups ++ up.Submit head [] ∷ []) downs s
request_written letter head next ups downs s is fits number bound =
    let own = of_control head letter is in
    let line = empty _ next ups downs s Control bound.bond in
    record {
      bond = write (Holds (Stands (finds letter))) (Holds (Requests head letter)) head next ups downs s Control fits own number bound.bond
          (Comes (coming Control head ups own line.sent) line.events line.queue bound.bond.held);
      awaited = (refl, refl, is);
    }

pub drain_written : (head : SubmitHead) (next : ℕ) (ups : List up.Message) (downs : List Put) (s : State) → IsRead head → head.seqnum ≡ next
    → Bound (Stands WantsPacket) None [] next ups downs s → Bound (Drains head) (Some head) [] (next + 1) (ups ++ up.Submit head [] ∷ []) downs s
drain_written head next ups downs s is number bound =
    let line = empty _ next ups downs s BulkIn bound.bond in
    record {
      bond = write (Holds (Stands WantsPacket)) (Holds (Drains head)) head next ups downs s BulkIn (record { endpoint = BulkIn; number = is.number; way = is.way }) is.number number bound.bond
          (ReadComes (coming BulkIn head ups is.number line.sent) line.events bound.bond.held);
      awaited = (refl, refl, is);
    }

-- ---- its answer is taken

pub no_event : {B : Type 0} (x : Event) (l : List Event) → x ∷ l ≡ [] → B
no_event x l e = absurd (cc)

pub one_event : (head other : SubmitHead) (a b : RetSubmitHead) (x y : List ℕ) (l : List Event) → Gives head a x ∷ l ≡ Gives other b y ∷ [] → (a ≡ b) × (x ≡ y)
one_event head other a b x y l e = (cc, cc)

-- where an answer leaves the device is the place that its letter names
abbrev Leaves : Letter → State → Type 0
Leaves letter s = (IsAt (one_of letter).position s → IsAt (position_of (leaves letter)) s) × (IsAt (other_of letter).position s → IsAt (position_of (leaves_else letter)) s)

leaves_it : (letter : Letter) (s : State) → Leaves letter s
leaves_it (AbortsIn tag) s = ((λ at. at), (λ at. at))
leaves_it ChecksIn s = ((λ at. at), (λ at. at))
leaves_it (AbortsOut tag) s = ((λ at. at), (λ at. at))
leaves_it (AbortsFirst tag) s = ((λ at. at), (λ at. at))
leaves_it ChecksOut s = ((λ at. at), (λ at. at))
leaves_it BeginsClear s = ((λ at. at), (λ at. at))
leaves_it ChecksClear s = ((λ at. at), (λ at. at))
leaves_it (Frees e) s = ((λ at. at), (λ at. at))
leaves_it (FreesBehind e) s = ((λ at. at), (λ at. at))

said : (letter : Letter) (head : SubmitHead) (a : RetSubmitHead) (transferred : List ℕ) (next : ℕ) (ups : List up.Message) (downs : List Put) (s : State)
    → Bond (Holds (Requests head letter)) (asked_of (Some head)) [] next ups (Submitted head a transferred ∷ downs) s → (layout : List ℕ) → transferred ≡ layout → Says (one_of letter) (other_of letter) layout s
    → Leaves letter s → Said letter transferred next ups downs s
said letter head a transferred next ups downs s bond layout same (SaysOne laid at) leave =
    SaidOne (subst (λ (l : List ℕ). (one_of letter).layout l) (sym same) laid) (record { bond = after _ (Holds (Stands (leaves letter))) head a transferred [] next ups downs s bond (leave.0 at); awaited = (refl, refl) })
said letter head a transferred next ups downs s bond layout same (SaysOther laid at) leave =
    SaidOther (subst (λ (l : List ℕ). (other_of letter).layout l) (sym same) laid) (record { bond = after _ (Holds (Stands (leaves_else letter))) head a transferred [] next ups downs s bond (leave.1 at); awaited = (refl, refl) })

answered : (letter : Letter) (head : SubmitHead) (a : RetSubmitHead) (transferred : List ℕ) (next : ℕ) (ups : List up.Message) (downs : List Put) (s : State) → head.ep ≡ 0
    → Bond (Holds (Requests head letter)) (asked_of (Some head)) [] next ups (Submitted head a transferred ∷ downs) s
    → RequestAt head (position_of (finds letter)) (one_of letter) (other_of letter) (sent_to Control ups) (events_of Control (Submitted head a transferred ∷ downs)) s
    → (a ≡ record { seqnum = head.seqnum; status = success; actual = length transferred }) × Said letter transferred next ups downs s
answered letter head a transferred next ups downs s own bond (Comes comes none free at) = no_event _ _ (sym (own_event Control head a transferred downs own) ∙ none)
answered letter head a transferred next ups downs s own bond (Pends comes none pends at) = no_event _ _ (sym (own_event Control head a transferred downs own) ∙ none)
answered letter head a transferred next ups downs s own bond (Answered layout comes one free says) =
    let same = one_event head head a _ transferred layout _ (sym (own_event Control head a transferred downs own) ∙ one) in
    (same.0 ∙ ap (λ (l : List ℕ). record { seqnum = head.seqnum; status = success; actual = length l }) (sym same.1), said letter head a transferred next ups downs s bond layout same.1 says (leaves_it letter s))

pub request_answered : (letter : Letter) (head : SubmitHead) (next : ℕ) (asked : SubmitHead) (a : RetSubmitHead) (transferred : List ℕ) (ups : List up.Message) (downs : List Put) (s : State)
    → Bound (Requests head letter) (Some head) [] next ups (Submitted asked a transferred ∷ downs) s
    → (asked ≡ head) × (a ≡ record { seqnum = head.seqnum; status = success; actual = length transferred }) × Said letter transferred next ups downs s
request_answered letter head next asked a transferred ups downs s bound =
    let same = same_head _ head asked a transferred [] next ups downs s bound.bond in
    let own = subst (λ (x : SubmitHead). Bond (Holds (Requests head letter)) (asked_of (Some head)) [] next ups (Submitted x a transferred ∷ downs) s) same bound.bond in
    let go = answered letter head a transferred next ups downs s (of_control head letter bound.awaited.2) own own.held in
    (same, go.0, go.1)

drained : (head : SubmitHead) (a : RetSubmitHead) (transferred : List ℕ) (next : ℕ) (ups : List up.Message) (downs : List Put) (s : State) → head.ep ≡ 2
    → Bond (Holds (Drains head)) (asked_of (Some head)) [] next ups (Submitted head a transferred ∷ downs) s
    → DrainAt head (sent_to BulkIn ups) (events_of BulkIn (Submitted head a transferred ∷ downs)) s
    → (a.seqnum ≡ head.seqnum) × (transferred ≡ []) × Drained a next ups downs s
drained head a transferred next ups downs s own bond (ReadComes comes none at) = no_event _ _ (sym (own_event BulkIn head a transferred downs own) ∙ none)
drained head a transferred next ups downs s own bond (ReadPends comes none pends at) = no_event _ _ (sym (own_event BulkIn head a transferred downs own) ∙ none)
drained head a transferred next ups downs s own bond (ReadShort comes one at) =
    let same = one_event head head a _ transferred [] _ (sym (own_event BulkIn head a transferred downs own) ∙ one) in (
      ap (λ (r : RetSubmitHead). r.seqnum) same.0,
      same.1,
      DrainedShort (ap (λ (r : RetSubmitHead). r.status) same.0) (ap (λ (r : RetSubmitHead). r.actual) same.0)
          (record { bond = after _ (Holds (Stands GavePacket)) head a transferred [] next ups downs s bond at; awaited = (refl, refl) }),
    )
drained head a transferred next ups downs s own bond (ReadHalted comes one at) =
    let same = one_event head head a _ transferred [] _ (sym (own_event BulkIn head a transferred downs own) ∙ one) in (
      ap (λ (r : RetSubmitHead). r.seqnum) same.0,
      same.1,
      DrainedHalted (ap (λ (r : RetSubmitHead). r.status) same.0)
          (record { bond = after _ (Holds (Stands WantsPacket)) head a transferred [] next ups downs s bond at; awaited = (refl, refl) }),
    )

pub drain_answered : (head : SubmitHead) (next : ℕ) (asked : SubmitHead) (a : RetSubmitHead) (transferred : List ℕ) (ups : List up.Message) (downs : List Put) (s : State)
    → Bound (Drains head) (Some head) [] next ups (Submitted asked a transferred ∷ downs) s
    → (asked ≡ head) × (a.seqnum ≡ head.seqnum) × (transferred ≡ []) × Drained a next ups downs s
drain_answered head next asked a transferred ups downs s bound =
    let same = same_head _ head asked a transferred [] next ups downs s bound.bond in
    let own = subst (λ (x : SubmitHead). Bond (Holds (Drains head)) (asked_of (Some head)) [] next ups (Submitted x a transferred ∷ downs) s) same bound.bond in
    let go = drained head a transferred next ups downs s bound.awaited.2.number own own.held in
    (same, go.0, go.1, go.2)

-- ---- it ends

no_answers : (ups : List up.Message) (downs : List Put) (s : State) → AllAnswers IsFit downs → Lines (asked_of None) [] ups downs s → downs ≡ []
no_answers ups [] s fits lines = refl
no_answers ups (Unlinked asked a ∷ downs) s fits lines = let e : [] ≡ asked ∷ (unlinked_by downs ++ unlinks_in ups) = lines.unlinked in absurd (cc)
no_answers ups (Submitted asked a transferred ∷ downs) s fits lines =
    no_event _ _ (sym (own_event fits.0.0.endpoint asked a transferred downs fits.0.0.number) ∙ (all_answered (asked_of None) fits.0.0.endpoint ups (Submitted asked a transferred ∷ downs) s lines refl).events)

pub ends : (Before : List up.Message → List Put → State → Type 0) (next : ℕ) (ups : List up.Message) (downs : List Put) (s : State) → s.halted.bulk_out ≡ false → s.halted.bulk_in ≡ false → IsAt rests s
    → Bond Before (asked_of None) [] next ups downs s → Tie hand.Free None next ups downs s
ends Before next ups downs s outs ins at bond = record {
  run = bond.run;
  reached = bond.reached;
  lines = bond.lines;
  fitting = bond.fitting;
  good = subst (λ (l : List Put). AllAnswers IsGood l) (sym (no_answers ups downs s bond.fits bond.lines)) tt;
  out_usable = outs;
  in_usable = ins;
  rises = bond.rises;
  below = bond.below;
  held = (refl, at);
}

pub cleared_rests : (s : State) → IsAt cleared s → IsAt rests s
cleared_rests s at = record { bulk_out = at.bulk_out; bulk_in = at.bulk_in; running = at.running; side = at.side; out = at.out; waits = tt; shut = tt }
