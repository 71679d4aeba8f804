-- a host's messages halt nothing and are not refused
use Rattle.std.proofs.Common.{◌≡◌, ◌≢◌, ◌∙◌, ◌⊎◌, inl, inr, ℕ, ◌+◌, ◌<◌, ◌≤◌, Bool, true, false, cond, eqb, List, [], ◌∷◌, ◌++◌, length, refl, ap, sym, subst, length-append, arith}
use Rattle.std.proofs.lemmas.Bool.{eq-eqb}
use Rattle.usbip_wire.specs.declared.submit.SubmitHead.{SubmitHead}
use Rattle.usbip_wire.specs.declared.unlink.UnlinkHead.{UnlinkHead}
use Rattle.usbip_wire.specs.Up as up
use Rattle.tmc_law.specs.Endpoint.{Endpoint, Control, BulkOut, BulkIn, InterruptIn, number_of}
use Rattle.tmc_law.specs.State.{State, Pending, queue_of, pending, Avoids, is_halted}
use Rattle.tmc_law.specs.Put.{Put}
use Rattle.tmc_law.specs.Queues.{pending_most}
use Rattle.tmc_law.specs.HaltCauses as causes
use Rattle.tmc_law.specs.HaltCauses.{HaltedBy, IsClassFirst}
use Rattle.tmc_law.specs.Step.{Move, Take, Fill, Halt, Leads, IsOver, TooMany, Twice}
use Rattle.tmc_law.specs.Run.{taken}
use Rattle.host_joint.specs.Lines.{Lines, sent_to, sent_heads, heads, Event, Gives, Drops, events_of, LeftBy, NoneNumbered, without, Fitting}
use Rattle.host_joint.specs.Unlinking.{AllHeads, Rising, IsBulk, AreApart, total_of}
use Rattle.host_joint.specs.Asking.{Ask, Asking}
use Rattle.host_joint.specs.Reads.{gives, InLine, Flow}
use Rattle.host_joint.proofs.Queues.{Apart, which}
use Rattle.host_joint.proofs.Taking.{OneHeader, Took, GoesOn, Ends, take_goes}
use Rattle.host_joint.proofs.Filling as filling
use Rattle.host_joint.proofs.Filling.{Filled, fill_goes}
use Rattle.host_joint.proofs.Staging.{may_begin, stage_sends}
use Rattle.host_joint.proofs.Asking.{fills_side}
use Rattle.host_joint.proofs.Rebuilding.{effect_sides}
use Rattle.host_joint.proofs.Falling.{left_all, left_rising, left_none}

-- ---- halts

clash : {B : Type 0} (b : Bool) → b ≡ false → b ≡ true → B
clash b off on = let e : false ≡ true = sym off ∙ on in absurd (cc)

no_first : {B : Type 0} (submit : Pending) (behind queue : List Pending) → queue ≡ [] → queue ≡ submit ∷ behind → B
no_first submit behind queue none some = let e : [] ≡ submit ∷ behind = sym none ∙ some in absurd (cc)

take_keeps : (one_header : OneHeader) (ask : Ask) (s t : State) (count : ℕ) (ups : List up.Message) (downs puts : List Put) → Leads s (Take count) puts t → Asking ask ups downs s
    → t.halted.bulk_out ≡ s.halted.bulk_out
take_keeps one_header ask s t count ups downs puts h a =
    by (take_goes one_header s.halted.bulk_out ask.gone s t count puts a.todo (sent_to BulkOut ups) a.jobs
    (may_begin ask.last ask.message ask.tag ask.size a.past a.todo ask.sofar a.flow s a.jobs a.short h.0 a.stage) a.out h.1).1
  where
    by : Took ask.gone a.todo (sent_to BulkOut ups) s puts t → t.halted.bulk_out ≡ s.halted.bulk_out
    by (GoesOn queue transfer none to line) = ap (λ (x : State). x.halted.bulk_out) to
    by (Ends job rest queue first line effect put) = (effect_sides _ _ _ t effect).out_halted

fill_keeps : (ask : Ask) (s t : State) (count : ℕ) (ups : List up.Message) (downs puts : List Put) → Leads s (Fill count) puts t → Asking ask ups downs s → t.halted.bulk_in ≡ s.halted.bulk_in
fill_keeps ask s t count ups downs puts goes a =
    let side = fills_side s t count puts a.calm.running goes in
    let flow = stage_sends ask.last ask.message ask.tag ask.size a.past a.todo ask.sofar a.flow s side.0 side.1 a.stage in
    by flow.0 side.0 (fill_goes s.halted.bulk_in ask.gone s t count puts ask.read flow.0 (gives (events_of BulkIn downs)) (sent_to BulkIn ups) side.0 side.1 a.calm.running
    (subst (λ (f : Flow). InLine s.halted.bulk_in ask.gone f ask.read (gives (events_of BulkIn downs)) (sent_to BulkIn ups) s.bulk_in) flow.1 a.ins) goes).1
  where
    by : (bytes : List ℕ) (piece : _) → Filled ask.gone bytes piece ask.read (gives (events_of BulkIn downs)) (sent_to BulkIn ups) s puts t → t.halted.bulk_in ≡ s.halted.bulk_in
    by bytes piece (filling.GoesOn queue n to only line) = ap (λ (x : State). x.halted.bulk_in) to
    by bytes piece (filling.Ends queue to only line) = ap (λ (x : State). x.halted.bulk_in) to

-- what halts a bulk endpoint in an ask
pub by_itself : (one_header : OneHeader) (ask : Ask) (s t : State) (move : Move) (ups : List up.Message) (downs puts : List Put) (e : Endpoint) → IsBulk e → Leads s move puts t
    → Asking ask (taken move ++ ups) downs s → is_halted e s ≡ false → is_halted e t ≡ true → HaltedBy s e move → move ≡ Halt e
by_itself one_header ask s t move ups downs puts e bulk h a off on (causes.ByItself is other) = is
by_itself one_header ask s t move ups downs puts e bulk h a off on (causes.BySpoiling count submit behind is at line spoils) =
    clash (s.halted.bulk_out) (subst (λ (d : Endpoint). is_halted d s ≡ false) at off)
    (sym (take_keeps one_header ask s t count ups downs puts (subst (λ (m : Move). Leads s m puts t) is h) (subst (λ (m : Move). Asking ask (taken m ++ ups) downs s) is a))
    ∙ subst (λ (d : Endpoint). is_halted d t ≡ true) at on)
by_itself one_header ask s t move ups downs puts e bulk h a off on (causes.ByAbort tag is at first runs own) = no_first first.submit first.behind s.control a.calm.control first.first
by_itself one_header ask s t move ups downs puts e bulk h a off on (causes.ByClear is at first) = no_first first.submit first.behind s.control a.calm.control first.first
by_itself one_header ask s t move ups downs puts e bulk h a off on (causes.ByOverflow count full submit behind piece is at line side within over) =
    clash (s.halted.bulk_in) (subst (λ (d : Endpoint). is_halted d s ≡ false) at off)
    (sym (fill_keeps ask s t count ups downs puts (subst (λ (m : Move). Leads s m puts t) is h) (subst (λ (m : Move). Asking ask (taken m ++ ups) downs s) is a))
    ∙ subst (λ (d : Endpoint). is_halted d t ≡ true) at on)
by_itself one_header ask s t move ups downs puts e bulk h a off on (causes.ByPacket submit behind packet packets is at line there long) = absurd (subst (λ (d : Endpoint). IsBulk d) at bulk)

-- ---- refusals

left_long : (asked left : List SubmitHead) (events : List Event) → LeftBy asked events left → length left ≤ length asked
left_long asked left [] h = omega (arith, ap (λ (l : List SubmitHead). length l) h)
left_long asked left (Gives head answer transferred ∷ events) h = omega (arith, left_long h.0 left events h.2, ap (λ (l : List SubmitHead). length l) h.1)
left_long asked left (Drops n ∷ events) h = omega (arith, left_long (without n asked) left events h, shorter asked)
  where
    shorter : (l : List SubmitHead) → length (without n l) ≤ length l
    shorter [] = omega arith
    shorter (x ∷ l) = by (eqb x.seqnum n) (shorter l)
      where
        by : (b : Bool) → length (without n l) ≤ length l → length (cond b (without n l) (x ∷ without n l)) ≤ length (x ∷ l)
        by true k = omega (arith, k)
        by false k = omega (arith, k)

heads_long : (queue : List Pending) → length (heads queue) ≡ length queue
heads_long [] = refl
heads_long (x ∷ queue) = omega (arith, heads_long queue)

none_avoids : (n : ℕ) (queue : List Pending) (more : List SubmitHead) → NoneNumbered n (heads queue ++ more) → Avoids n queue
none_avoids n [] more h = tt
none_avoids n (x ∷ queue) more h = (h.0, none_avoids n queue more h.1)

middle_of : (P : SubmitHead → Type 0) (before : List SubmitHead) (x : SubmitHead) (behind : List SubmitHead) → AllHeads P (before ++ x ∷ behind) → P x
middle_of P [] x behind h = h.0
middle_of P (y ∷ before) x behind h = middle_of P before x behind h.1

below_avoids : (queue : List Pending) (x : SubmitHead) (behind : List SubmitHead) → Rising (heads queue ++ x ∷ behind) → Avoids x.seqnum queue
below_avoids [] x behind h = tt
below_avoids (y ∷ queue) x behind h = ((λ e. omega (arith, e, middle_of (λ z. y.head.seqnum < z.seqnum) (heads queue) x behind h.0)), below_avoids queue x behind h.1)

avoids-append : (n : ℕ) (a b : List Pending) → Avoids n a → Avoids n b → Avoids n (a ++ b)
avoids-append n [] b h k = k
avoids-append n (x ∷ a) b h k = (h.0, avoids-append n a b h.1 k)

own_sent : (head : SubmitHead) (transferred : List ℕ) (ups : List up.Message) (e : Endpoint) → head.ep ≡ number_of e
    → sent_heads (sent_to e (up.Submit head transferred ∷ ups)) ≡ head ∷ sent_heads (sent_to e ups)
own_sent head transferred ups e is = rw (eq-eqb head.ep (number_of e) is) refl

abbrev left_at : Endpoint → SubmitHead → List ℕ → List up.Message → State → List SubmitHead
left_at e head transferred ups s = heads (queue_of e s) ++ sent_heads (sent_to e (up.Submit head transferred ∷ ups))

-- the queue of an endpoint has no submit of the number that comes
avoids_at : (asked : Endpoint → List SubmitHead) (unlinks : List UnlinkHead) (head : SubmitHead) (transferred : List ℕ) (ups : List up.Message) (downs : List Put) (s : State)
    → Fitting head → AreApart asked → Lines asked unlinks (up.Submit head transferred ∷ ups) downs s → (e : Endpoint) → Avoids head.seqnum (queue_of e s)
avoids_at asked unlinks head transferred ups downs s fits apart lines e = by (which fits.endpoint e)
  where
    d : Endpoint
    d = fits.endpoint

    here : left_at d head transferred ups s ≡ heads (queue_of d s) ++ head ∷ sent_heads (sent_to d ups)
    here = ap (λ (l : List SubmitHead). heads (queue_of d s) ++ l) (own_sent head transferred ups d fits.number)

    by : (d ≡ e) ⊎ Apart d e → Avoids head.seqnum (queue_of e s)
    by (inl same) =
        subst (λ (x : Endpoint). Avoids head.seqnum (queue_of x s)) same
        (below_avoids (queue_of d s) head (sent_heads (sent_to d ups))
        (subst (λ (l : List SubmitHead). Rising l) here (left_rising (asked d) (left_at d head transferred ups s) (events_of d downs) (lines.submits d) (apart.rising d))))
    by (inr other) =
        let none : NoneNumbered head.seqnum (asked e) =
        middle_of (λ x. NoneNumbered x.seqnum (asked e)) (heads (queue_of d s)) head (sent_heads (sent_to d ups))
        (subst (λ (l : List SubmitHead). AllHeads (λ x. NoneNumbered x.seqnum (asked e)) l) here
        (left_all (λ x. NoneNumbered x.seqnum (asked e)) (asked d) (left_at d head transferred ups s) (events_of d downs) (lines.submits d) (apart.apart d e differ))) in
        none_avoids head.seqnum (queue_of e s) (sent_heads (sent_to e (up.Submit head transferred ∷ ups)))
        (left_none head.seqnum (asked e) (left_at e head transferred ups s) (events_of e downs) (lines.submits e) none)
      where
        differ : d ≢ e
        differ same = clash (eqb (number_of d) (number_of e)) other.number (eq-eqb (number_of d) (number_of e) (ap number_of same))

-- how many there are at an endpoint
many_at : (asked : Endpoint → List SubmitHead) (unlinks : List UnlinkHead) (ups : List up.Message) (downs : List Put) (s : State) → Lines asked unlinks ups downs s
    → (e : Endpoint) → length (queue_of e s) + length (sent_heads (sent_to e ups)) ≤ length (asked e)
many_at asked unlinks ups downs s lines e =
    omega (
      arith,
      left_long (asked e) (heads (queue_of e s) ++ sent_heads (sent_to e ups)) (events_of e downs) (lines.submits e),
      length-append (heads (queue_of e s)) (sent_heads (sent_to e ups)),
      heads_long (queue_of e s),
    )

few_pending : (asked : Endpoint → List SubmitHead) (unlinks : List UnlinkHead) (head : SubmitHead) (transferred : List ℕ) (ups : List up.Message) (downs : List Put) (s : State)
    → Fitting head → Lines asked unlinks (up.Submit head transferred ∷ ups) downs s → length (pending s) < total_of asked
few_pending asked unlinks head transferred ups downs s fits lines = by fits.endpoint fits.number
  where
    many : (e : Endpoint) → length (queue_of e s) + length (sent_heads (sent_to e (up.Submit head transferred ∷ ups))) ≤ length (asked e)
    many = many_at asked unlinks (up.Submit head transferred ∷ ups) downs s lines

    sum : length (pending s) ≡ length s.control + (length s.bulk_out + (length s.bulk_in + length s.interrupt_in))
    sum = omega (arith, length-append s.control (s.bulk_out ++ (s.bulk_in ++ s.interrupt_in)), length-append s.bulk_out (s.bulk_in ++ s.interrupt_in), length-append s.bulk_in s.interrupt_in)

    one : (e : Endpoint) → head.ep ≡ number_of e → 1 ≤ length (sent_heads (sent_to e (up.Submit head transferred ∷ ups)))
    one e is = omega (arith, ap (λ (l : List SubmitHead). length l) (own_sent head transferred ups e is))

    by : (e : Endpoint) → head.ep ≡ number_of e → length (pending s) < total_of asked
    by Control is = omega (arith, sum, many Control, many BulkOut, many BulkIn, many InterruptIn, one Control is)
    by BulkOut is = omega (arith, sum, many Control, many BulkOut, many BulkIn, many InterruptIn, one BulkOut is)
    by BulkIn is = omega (arith, sum, many Control, many BulkOut, many BulkIn, many InterruptIn, one BulkIn is)
    by InterruptIn is = omega (arith, sum, many Control, many BulkOut, many BulkIn, many InterruptIn, one InterruptIn is)

pub never_over : (asked : Endpoint → List SubmitHead) (unlinks : List UnlinkHead) (head : SubmitHead) (transferred : List ℕ) (ups : List up.Message) (downs : List Put) (s : State) (f : _)
    → Fitting head → AreApart asked → total_of asked ≤ pending_most → Lines asked unlinks (up.Submit head transferred ∷ ups) downs s → IsOver s head f → ⊥
never_over asked unlinks head transferred ups downs s f fits apart few lines (TooMany many is) =
    omega (arith, few_pending asked unlinks head transferred ups downs s fits lines, few, many)
never_over asked unlinks head transferred ups downs s f fits apart few lines (Twice less twice is) =
    let at = avoids_at asked unlinks head transferred ups downs s fits apart lines in
    twice (avoids-append head.seqnum s.control (s.bulk_out ++ (s.bulk_in ++ s.interrupt_in)) (at Control)
    (avoids-append head.seqnum s.bulk_out (s.bulk_in ++ s.interrupt_in) (at BulkOut) (avoids-append head.seqnum s.bulk_in s.interrupt_in (at BulkIn) (at InterruptIn))))
