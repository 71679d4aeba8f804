-- which answers come behind a halt, and with what a piece begins
use Rattle.std.proofs.Common.{◌≡◌, ◌∙◌, inl, inr, ℕ, ◌≤◌, Bool, List, [], ◌∷◌, ◌++◌, length, refl, ap, sym, subst, length-append, append-nil, arith}
use Rattle.usbip_wire.specs.declared.submit.SubmitHead.{SubmitHead}
use Rattle.usbip_wire.specs.declared.ret_submit.RetSubmitHead.{RetSubmitHead}
use Rattle.usbip_wire.specs.Up as up
use Rattle.tmc_wire.specs.declared.header.InHeader.{InHeader}
use Rattle.tmc_wire.specs.Standard.{header_size}
use Rattle.tmc_wire.specs.Header.{in_header_bytes}
use Rattle.tmc_wire.specs.Transfer.{alignment_of}
use Rattle.tmc_law.specs.Endpoint.{BulkOut, BulkIn, number_of}
use Rattle.tmc_law.specs.State.{State, Pending}
use Rattle.tmc_law.specs.Put.{Put, Submitted, success, stalled}
use Rattle.host_joint.specs.Lines.{Sent, sent_to, Event, Gives, Drops, events_of}
use Rattle.host_joint.specs.Reads.{Answered, answer, answers, Flow, InFront, NoneOf, Front, Whole, IsHalted, gives, InLine, Unread, Between, Inside, Behind, Lost, Closed}
use Rattle.host_joint.specs.Asking.{Ask, Asking, AllTaken}
use Rattle.host_joint.specs.Hosted.{OutAnswered, InAnswered, TookFull, TookEnd, TookHalt}
use Rattle.host_joint.proofs.Hosting.{own_event}

not_stalled : {B : Type 0} → success ≡ stalled → B
not_stalled e = absurd (cc)

-- ---- Bulk-OUT

rest_halted : (shut : Bool) (count : ℕ) (events : List Event) → count ≡ 0 → AllTaken shut count events → IsHalted (gives events)
rest_halted shut count [] none h = tt
rest_halted shut count (Gives head a transferred ∷ events) none (inl h) = absurd (omega (arith, none, h.3))
rest_halted shut count (Gives head a transferred ∷ events) none (inr h) = (h.0, rest_halted shut 0 events refl h.3)
rest_halted shut count (Drops n ∷ events) none h = rest_halted shut count events none h

pub out_halted : (ask : Ask) (ups : List up.Message) (head : SubmitHead) (a : RetSubmitHead) (transferred : List ℕ) (downs : List Put) (s : State) → head.ep ≡ number_of BulkOut → a.status ≡ stalled
    → Asking ask ups (Submitted head a transferred ∷ downs) s → OutAnswered ask ups head a downs s → Asking ask ups downs s × IsHalted (gives (events_of BulkOut downs))
out_halted ask ups head a transferred downs s own is h took = (by took, told (subst (λ (l : List Event). AllTaken s.halted.bulk_out h.came l) (own_event BulkOut head a transferred downs own) h.taken))
  where
    by : OutAnswered ask ups head a downs s → Asking ask ups downs s
    by (inl k) = not_stalled (sym k.0 ∙ is)
    by (inr k) = k.2

    told : AllTaken s.halted.bulk_out h.came (Gives head a transferred ∷ events_of BulkOut downs) → IsHalted (gives (events_of BulkOut downs))
    told (inl k) = not_stalled (sym k.0 ∙ is)
    told (inr k) = rest_halted s.halted.bulk_out 0 (events_of BulkOut downs) refl k.3

-- ---- Bulk-IN

-- the first answer has bytes
good_first : {B : Type 0} (head : SubmitHead) (a : RetSubmitHead) (transferred : List ℕ) (events more : List Event) (x : Answered) → a.status ≡ stalled → Gives head a transferred ∷ events ≡ answer x ∷ more → B
good_first head a transferred events more x is e =
    let same : a ≡ record { seqnum = x.head.seqnum; status = success; actual = length x.bytes } = cc in not_stalled (sym (ap (λ (r : RetSubmitHead). r.status) same) ∙ is)

none_first : {B : Type 0} (event : Event) (events : List Event) → event ∷ events ≡ [] → B
none_first event events e = absurd (cc)

full_first : {B : Type 0} (head : SubmitHead) (a : RetSubmitHead) (transferred : List ℕ) (events : List Event) (full : List Answered) → a.status ≡ stalled → Gives head a transferred ∷ events ≡ answers full → B
full_first head a transferred events [] is e = none_first _ _ e
full_first head a transferred events (x ∷ full) is e = good_first head a transferred events (answers full) x is e

short_first : {B : Type 0} (head : SubmitHead) (a : RetSubmitHead) (transferred : List ℕ) (events more : List Event) (full : List Answered) (short : Answered) → a.status ≡ stalled → Gives head a transferred ∷ events ≡ (answers full ++ answer short ∷ []) ++ more → B
short_first head a transferred events more [] short is e = good_first head a transferred events more short is e
short_first head a transferred events more (x ∷ full) short is e = good_first head a transferred events ((answers full ++ answer short ∷ []) ++ more) x is e

full_behind : (head : SubmitHead) (a : RetSubmitHead) (transferred : List ℕ) (events rest : List Event) (full : List Answered) → a.status ≡ stalled → Gives head a transferred ∷ events ≡ answers full ++ rest → IsHalted rest → IsHalted events
full_behind head a transferred events rest [] is e halted = (subst (λ (l : List Event). IsHalted l) (sym e) halted).1
full_behind head a transferred events rest (x ∷ full) is e halted = good_first head a transferred events (answers full ++ rest) x is e

front_first : (head : SubmitHead) (a : RetSubmitHead) (transferred : List ℕ) (events front rest : List Event) (flow : Flow) (read : List ℕ) → a.status ≡ stalled → Gives head a transferred ∷ events ≡ front ++ rest → InFront flow read front → IsHalted rest
    → IsHalted events
front_first head a transferred events front rest flow read is e (NoneOf still none empty) halted = full_behind head a transferred events rest [] is (e ∙ ap (λ (l : List Event). l ++ rest) empty) halted
front_first head a transferred events front rest flow read is e (Front bytes lost full partial all made given) halted = full_behind head a transferred events rest full is (e ∙ ap (λ (l : List Event). l ++ rest) given) halted
front_first head a transferred events front rest flow read is e (Whole bytes full short over all small made ended) halted = short_first head a transferred events rest full short is (e ∙ ap (λ (l : List Event). l ++ rest) ended)

ins_halted : (shut gone : Bool) (flow : Flow) (read : List ℕ) (head : SubmitHead) (a : RetSubmitHead) (transferred : List ℕ) (events : List Event) (coming : List Sent) (queue : List Pending) → a.status ≡ stalled
    → InLine shut gone flow read (Gives head a transferred ∷ events) coming queue → IsHalted events
ins_halted shut gone flow read head a transferred events coming queue is (Unread heads usable still none empty line reads) = none_first _ _ empty
ins_halted shut gone flow read head a transferred events coming queue is (Between bytes full heads usable giving all made given line reads) = full_first head a transferred events full is given
ins_halted shut gone flow read head a transferred events coming queue is (Inside bytes moved packets full first heads usable giving all made given counted small line reads) = full_first head a transferred events full is given
ins_halted shut gone flow read head a transferred events coming queue is (Behind bytes full short heads usable over all small made given line reads) =
    short_first head a transferred events [] full short is (given ∙ sym (append-nil (answers full ++ answer short ∷ [])))
ins_halted shut gone flow read head a transferred events coming queue is (Lost bytes lost full unlinked usable giving all made given none line) = full_first head a transferred events full is given
ins_halted shut gone flow read head a transferred events coming queue is (Closed front rest shuts given first halted line) = front_first head a transferred events front rest flow read is given first halted

pub in_halted : (ask : Ask) (ups : List up.Message) (head : SubmitHead) (a : RetSubmitHead) (transferred : List ℕ) (downs : List Put) (s : State) → head.ep ≡ number_of BulkIn → a.status ≡ stalled
    → Asking ask ups (Submitted head a transferred ∷ downs) s → InAnswered ask ups (Gives head a transferred) downs s → Asking ask ups downs s × IsHalted (gives (events_of BulkIn downs))
in_halted ask ups head a transferred downs s own is h took = (
  by took,
  ins_halted s.halted.bulk_in ask.gone h.flow ask.read head a transferred (gives (events_of BulkIn downs)) (sent_to BulkIn ups) s.bulk_in is
      (subst (λ (l : List Event). InLine s.halted.bulk_in ask.gone h.flow ask.read (gives l) (sent_to BulkIn ups) s.bulk_in) (own_event BulkIn head a transferred downs own) h.ins),
)
  where
    good : {B : Type 0} (x : Answered) → Gives head a transferred ≡ answer x → B
    good x e = good_first head a transferred [] [] x is (ap (λ (y : Event). y ∷ []) e)

    by : InAnswered ask ups (Gives head a transferred) downs s → Asking ask ups downs s
    by (TookFull x e long goes) = good x e
    by (TookEnd x e small end) = good x e
    by (TookHalt shuts halted goes) = goes

-- ---- the header of a piece

head_long : (header : InHeader) → length (in_header_bytes header) ≡ 12
unfolding in_header_bytes
head_long header = refl

pub begins : (ask : Ask) (ups : List up.Message) (head : SubmitHead) (a : RetSubmitHead) (transferred : List ℕ) (downs : List Put) (s : State) → a.status ≡ success → ask.read ≡ []
    → InAnswered ask ups (Gives head a transferred) downs s → header_size ≤ length transferred
begins ask ups head a transferred downs s good none (TookFull x e full goes) = let same : transferred ≡ x.bytes = cc in omega (arith, ap (λ (l : List ℕ). length l) same, full)
begins ask ups head a transferred downs s good none (TookEnd x e small end) =
    let same : transferred ≡ x.bytes = cc in
    let header : InHeader = record { tag = ask.tag; size = length end.carried; eom = end.eom } in
    let text : x.bytes ≡ in_header_bytes header ++ (end.carried ++ alignment_of (length end.carried)) = ap (λ (l : List ℕ). l ++ x.bytes) (sym none) ∙ end.text in
    omega (arith, ap (λ (l : List ℕ). length l) same, ap (λ (l : List ℕ). length l) text, length-append (in_header_bytes header) (end.carried ++ alignment_of (length end.carried)), head_long header)
begins ask ups head a transferred downs s good none (TookHalt shuts halted goes) = not_stalled (sym good ∙ halted.0)
