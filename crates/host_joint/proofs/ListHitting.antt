-- the answers to unlinks say which submits were answered, whatever their number
use Rattle.std.proofs.Common.{◌≡◌, ◌≢◌, ◌∙◌, ◌⊎◌, inl, inr, ℕ, ◌<◌, Bool, true, false, cond, eqb, ℤ, List, [], ◌∷◌, ◌++◌, refl, ap, sym, subst, append_assoc, append-nil, arith}
use Rattle.std.proofs.lemmas.Bool.{eqb-true, eq-eqb}
use Rattle.usbip_wire.specs.declared.submit.SubmitHead.{SubmitHead}
use Rattle.usbip_wire.specs.declared.unlink.UnlinkHead.{UnlinkHead}
use Rattle.usbip_wire.specs.declared.ret_submit.RetSubmitHead.{RetSubmitHead}
use Rattle.usbip_wire.specs.Up as up
use Rattle.tmc_law.specs.Endpoint.{Endpoint, number_of}
use Rattle.tmc_law.specs.State.{State, Pending, queue_of, Avoids, start}
use Rattle.tmc_law.specs.Put.{Put, Submitted, Unlinked, success, unlinked}
use Rattle.tmc_law.specs.Queues.{Unlinks, Hits, Polled, Misses}
use Rattle.tmc_law.specs.AnswerFits.{AllAnswers, IsAnswer, ToPending, ToArriving, ToUnlink}
use Rattle.tmc_law.specs.Step.{Move, Comes, Refuses, Take, Exec, Begin, Fill, Answer, Pend, Poll, Notify, Halt, Unplug, Steps}
use Rattle.tmc_law.specs.Run.{Entry, Runs, taken, inputs, outputs}
use Rattle.host_joint.specs.Lines.{Lines, LeftBy, Event, Gives, events_of, heads, sent_heads, sent_to, unlinked_by, without, NoneNumbered, AllFitting, InOrder}
use Rattle.host_joint.specs.Unlinking.{AllHeads, Rising, AreApart}
use Rattle.host_joint.specs.Given.{Suits}
use Rattle.host_joint.specs.Hits.{NoneAsked, all_without, TellsOf, TellsHits}
use Rattle.host_joint.proofs.Queues.{Apart, which, avoids_queue}
use Rattle.host_joint.proofs.Flows.{fitting_behind, order_behind}

clash : {B : Type 0} → false ≡ true → B
clash h = absurd (cc)

apart_of : (d e : Endpoint) → Apart d e → e ≢ d
apart_of d e apart same = clash (sym apart.number ∙ eq-eqb (number_of d) (number_of e) (ap number_of (sym same)))

-- ---- lists without a number

none_without : (n : ℕ) (l : List SubmitHead) → NoneNumbered n (without n l)
none_without n [] = tt
none_without n (x ∷ l) = by (eqb x.seqnum n) refl (none_without n l)
  where
    by : (b : Bool) → eqb x.seqnum n ≡ b → NoneNumbered n (without n l) → NoneNumbered n (cond b (without n l) (x ∷ without n l))
    by true e k = k
    by false e k = ((λ same. clash (sym e ∙ eq-eqb x.seqnum n same)), k)

none_less : (n m : ℕ) (l : List SubmitHead) → NoneNumbered n l → NoneNumbered n (without m l)
none_less n m [] h = tt
none_less n m (x ∷ l) h = by (eqb x.seqnum m) (none_less n m l h.1)
  where
    by : (b : Bool) → NoneNumbered n (without m l) → NoneNumbered n (cond b (without m l) (x ∷ without m l))
    by true k = k
    by false k = (h.0, k)

all_less : (P : SubmitHead → Type 0) (n : ℕ) (l : List SubmitHead) → AllHeads P l → AllHeads P (without n l)
all_less P n [] h = tt
all_less P n (x ∷ l) h = by (eqb x.seqnum n) (all_less P n l h.1)
  where
    by : (b : Bool) → AllHeads P (without n l) → AllHeads P (cond b (without n l) (x ∷ without n l))
    by true k = k
    by false k = (h.0, k)

rising_less : (n : ℕ) (l : List SubmitHead) → Rising l → Rising (without n l)
rising_less n [] h = tt
rising_less n (x ∷ l) h = by (eqb x.seqnum n) (rising_less n l h.1)
  where
    by : (b : Bool) → Rising (without n l) → Rising (cond b (without n l) (x ∷ without n l))
    by true k = k
    by false k = (all_less (λ other. x.seqnum < other.seqnum) n l h.0, k)

all_more : (P Q : SubmitHead → Type 0) → ((x : SubmitHead) → P x → Q x) → (l : List SubmitHead) → AllHeads P l → AllHeads Q l
all_more P Q f [] h = tt
all_more P Q f (x ∷ l) h = (f x h.0, all_more P Q f l h.1)

-- where none has the number, the list is the same
same_without : (n : ℕ) (l : List SubmitHead) → NoneNumbered n l → without n l ≡ l
same_without n [] h = refl
same_without n (x ∷ l) h = by (eqb x.seqnum n) refl (same_without n l h.1)
  where
    by : (b : Bool) → eqb x.seqnum n ≡ b → without n l ≡ l → cond b (without n l) (x ∷ without n l) ≡ x ∷ l
    by true e k = absurd (h.0 (eqb-true x.seqnum n e))
    by false e k = ap (λ (m : List SubmitHead). x ∷ m) k

none_above : (n : ℕ) (l : List SubmitHead) → AllHeads (λ other. n < other.seqnum) l → NoneNumbered n l
none_above n [] h = tt
none_above n (x ∷ l) h = ((λ same. omega (arith, same, h.0)), none_above n l h.1)

-- the first is taken, and it alone has its number
first_without : (head : SubmitHead) (rest : List SubmitHead) → Rising (head ∷ rest) → without head.seqnum (head ∷ rest) ≡ rest
first_without head rest h = by (eqb head.seqnum head.seqnum) (eq-eqb head.seqnum head.seqnum refl) (same_without head.seqnum rest (none_above head.seqnum rest h.0))
  where
    by : (b : Bool) → b ≡ true → without head.seqnum rest ≡ rest → cond b (without head.seqnum rest) (head ∷ without head.seqnum rest) ≡ rest
    by true e k = k
    by false e k = clash e

-- numbers that are apart stay so
apart_less : (n : ℕ) (asked : Endpoint → List SubmitHead) → AreApart asked → AreApart (all_without n asked)
apart_less n asked apart = record {
  rising = λ e. rising_less n (asked e) (apart.rising e);
  apart = λ d e differ. all_less (λ x. NoneNumbered x.seqnum (without n (asked e))) n (asked d)
      (all_more (λ x. NoneNumbered x.seqnum (asked e)) (λ x. NoneNumbered x.seqnum (without n (asked e))) (λ x none. none_less x.seqnum n (asked e) none) (asked d) (apart.apart d e differ));
}

-- ---- what is left behind these answers

abbrev after : (Endpoint → List SubmitHead) → List Put → Endpoint → List SubmitHead
after asked [] = asked
after asked (Submitted head answer transferred ∷ downs) = after (all_without head.seqnum asked) downs
after asked (Unlinked head answer ∷ downs) = after (all_without head.target asked) downs

-- a submit of one endpoint is answered: each list has lost it
taken_from : (asked : Endpoint → List SubmitHead) (head : SubmitHead) (d : Endpoint) (rest : List SubmitHead) → AreApart asked → asked d ≡ head ∷ rest
    → (e : Endpoint) (l : List SubmitHead) → ((d ≡ e) → l ≡ rest) → ((e ≢ d) → l ≡ asked e) → all_without head.seqnum asked e ≡ l
taken_from asked head d rest apart first e l own other = by (which d e)
  where
    by : (d ≡ e) ⊎ Apart d e → without head.seqnum (asked e) ≡ l
    by (inl same) =
        ap (λ (x : Endpoint). without head.seqnum (asked x)) (sym same) ∙ ap (λ (m : List SubmitHead). without head.seqnum m) first
        ∙ first_without head rest (subst (λ (m : List SubmitHead). Rising m) first (apart.rising d)) ∙ sym (own same)
    by (inr differ) =
        same_without head.seqnum (asked e) (subst (λ (m : List SubmitHead). AllHeads (λ x. NoneNumbered x.seqnum (asked e)) m) first (apart.apart d e (λ same. apart_of d e differ (sym same)))).0
        ∙ sym (other (apart_of d e differ))

-- the same lists are taken from by the same answers
left_same : (events : List Event) (a b left : List SubmitHead) → a ≡ b → LeftBy a events left → LeftBy b events left
left_same events a b left same h = subst (λ (l : List SubmitHead). LeftBy l events left) same h

abbrev AllLeft : (Endpoint → List SubmitHead) → List Put → (Endpoint → List SubmitHead) → Type 0
AllLeft asked downs left = (e : Endpoint) → LeftBy (asked e) (events_of e downs) (left e)

own_first : (asked left : Endpoint → List SubmitHead) (head : SubmitHead) (answer : RetSubmitHead) (transferred : List ℕ) (downs : List Put) (d : Endpoint) → head.ep ≡ number_of d
    → AllLeft asked (Submitted head answer transferred ∷ downs) left → (rest : List SubmitHead) × (asked d ≡ head ∷ rest) × LeftBy rest (events_of d downs) (left d)
own_first asked left head answer transferred downs d own h = by (eqb head.ep (number_of d)) (eq-eqb head.ep (number_of d) own) (h d)
  where
    by : (b : Bool) → b ≡ true → LeftBy (asked d) (cond b (Gives head answer transferred ∷ events_of d downs) (events_of d downs)) (left d)
        → (rest : List SubmitHead) × (asked d ≡ head ∷ rest) × LeftBy rest (events_of d downs) (left d)
    by true e k = k
    by false e k = clash e

other_same : (asked left : Endpoint → List SubmitHead) (head : SubmitHead) (answer : RetSubmitHead) (transferred : List ℕ) (downs : List Put) (e : Endpoint) → eqb head.ep (number_of e) ≡ false
    → AllLeft asked (Submitted head answer transferred ∷ downs) left → LeftBy (asked e) (events_of e downs) (left e)
other_same asked left head answer transferred downs e other h = by (eqb head.ep (number_of e)) other (h e)
  where
    by : (b : Bool) → b ≡ false → LeftBy (asked e) (cond b (Gives head answer transferred ∷ events_of e downs) (events_of e downs)) (left e) → LeftBy (asked e) (events_of e downs) (left e)
    by true is k = clash (sym is)
    by false is k = k

left_after : (asked left : Endpoint → List SubmitHead) (downs : List Put) → AreApart asked → AllAnswers Suits downs → AllLeft asked downs left → (e : Endpoint) → left e ≡ after asked downs e
left_after asked left [] apart suits h e = h e
left_after asked left (Unlinked head answer ∷ downs) apart suits h e = left_after (all_without head.target asked) left downs (apart_less head.target asked apart) suits.1 (λ d. h d) e
left_after asked left (Submitted head answer transferred ∷ downs) apart suits h e =
    left_after (all_without head.seqnum asked) left downs (apart_less head.seqnum asked apart) suits.1 (λ x. by x (which suits.0.fitting.endpoint x)) e
  where
    one : (rest : List SubmitHead) × (asked suits.0.fitting.endpoint ≡ head ∷ rest) × LeftBy rest (events_of suits.0.fitting.endpoint downs) (left suits.0.fitting.endpoint)
    one = own_first asked left head answer transferred downs suits.0.fitting.endpoint suits.0.fitting.number h

    by : (x : Endpoint) → (suits.0.fitting.endpoint ≡ x) ⊎ Apart suits.0.fitting.endpoint x → LeftBy (without head.seqnum (asked x)) (events_of x downs) (left x)
    by x (inl same) =
        subst (λ (y : Endpoint). LeftBy (without head.seqnum (asked y)) (events_of y downs) (left y)) same
        (left_same (events_of suits.0.fitting.endpoint downs) one.0 (without head.seqnum (asked suits.0.fitting.endpoint)) (left suits.0.fitting.endpoint)
        (sym (taken_from asked head suits.0.fitting.endpoint one.0 apart one.1 suits.0.fitting.endpoint one.0 (λ e. refl) (λ differ. absurd (differ refl)))) one.2)
    by x (inr differ) =
        left_same (events_of x downs) (asked x) (without head.seqnum (asked x)) (left x)
        (sym (taken_from asked head suits.0.fitting.endpoint one.0 apart one.1 x (asked x) (λ same. absurd (apart_of suits.0.fitting.endpoint x differ (sym same))) (λ d. refl)))
        (other_same asked left head answer transferred downs x (ap (λ (n : ℕ). eqb n (number_of x)) suits.0.fitting.number ∙ differ.number) h)

-- ---- lists of answers

tells-append : (asked : Endpoint → List SubmitHead) (a b : List Put) → TellsHits asked a → TellsHits (after asked a) b → TellsHits asked (a ++ b)
tells-append asked [] b h k = k
tells-append asked (Submitted head answer transferred ∷ a) b h k = tells-append (all_without head.seqnum asked) a b h k
tells-append asked (Unlinked head answer ∷ a) b h k = (h.0, tells-append (all_without head.target asked) a b h.1 k)

abbrev IsSubmitted : Put → Type 0
IsSubmitted (Submitted asked answer transferred) = Unit {0}
IsSubmitted (Unlinked asked answer) = ⊥

only_submits : (asked : Endpoint → List SubmitHead) (puts : List Put) → AllAnswers IsSubmitted puts → TellsHits asked puts
only_submits asked [] h = tt
only_submits asked (Submitted head answer transferred ∷ puts) h = only_submits (all_without head.seqnum asked) puts h.1
only_submits asked (Unlinked head answer ∷ puts) h = absurd h.0

pub none_unlinked : (asked : Endpoint → List SubmitHead) (downs : List Put) → unlinked_by downs ≡ [] → TellsHits asked downs
none_unlinked asked [] none = tt
none_unlinked asked (Submitted head answer transferred ∷ downs) none = none_unlinked (all_without head.seqnum asked) downs none
none_unlinked asked (Unlinked head answer ∷ downs) none = absurd (cc)

pub front_none : (a b : List UnlinkHead) → [] ≡ a ++ b → a ≡ []
front_none [] b e = refl
front_none (x ∷ a) b e = absurd (cc)

-- ---- lists of the same submits

same_tells : (a b : Endpoint → List SubmitHead) (downs : List Put) → ((e : Endpoint) → a e ≡ b e) → TellsHits a downs → TellsHits b downs
same_tells a b [] same h = tt
same_tells a b (Submitted head answer transferred ∷ downs) same h = same_tells (all_without head.seqnum a) (all_without head.seqnum b) downs (λ e. ap (λ (l : List SubmitHead). without head.seqnum l) (same e)) h
same_tells a b (Unlinked head answer ∷ downs) same h = (by h.0, same_tells (all_without head.target a) (all_without head.target b) downs (λ e. ap (λ (l : List SubmitHead). without head.target l) (same e)) h.1)
  where
    by : TellsOf a head.target answer.status → TellsOf b head.target answer.status
    by (inl none) = inl ((λ e. subst (λ (l : List SubmitHead). NoneNumbered head.target l) (same e) (none.0 e)), none.1)
    by (inr some) = inr ((λ none. some.0 (λ e. subst (λ (l : List SubmitHead). NoneNumbered head.target l) (sym (same e)) (none e))), some.1)

pub answer_tells : (asked left : Endpoint → List SubmitHead) (head : SubmitHead) (downs : List Put) (d : Endpoint) (rest : List SubmitHead) → AreApart asked → asked d ≡ head ∷ rest → left d ≡ rest
    → ((other : Endpoint) → other ≢ d → left other ≡ asked other) → TellsHits (all_without head.seqnum asked) downs → TellsHits left downs
answer_tells asked left head downs d rest apart first own kept h =
    same_tells (all_without head.seqnum asked) left downs
    (λ e. taken_from asked head d rest apart first e (left e) (λ same. ap left (sym same) ∙ own) (λ differ. kept e differ)) h

-- ---- under each step

pub record HitLaws : Type 0 where
  pub answers : (run : List Entry) (s t : State) (move : Move) (puts : List Put) → Runs start run s → Steps s move puts t → AllAnswers (IsAnswer s move t) puts
  pub joins : (a b : List Entry) (s m t : State) → Runs s a m → Runs m b t → Runs s (a ++ b) t
  pub lines : (before run : List Entry) (asked : Endpoint → List SubmitHead) (unlinks : List UnlinkHead) (s t : State) (ups : List up.Message) (downs : List Put)
      → Runs start before s → Runs s run t → AllFitting (inputs run ++ ups) → InOrder (inputs run ++ ups)
      → Lines asked unlinks (inputs run ++ ups) downs s → Lines asked unlinks ups (downs ++ outputs run) t
  pub suits : (before run : List Entry) (ups : List up.Message) (downs : List Put) (s t : State) → Runs start before s → Runs s run t
      → AllFitting (inputs run ++ ups) → AllAnswers Suits downs → AllAnswers Suits (downs ++ outputs run)

-- one that is pending is among those that are not answered
is_pending : (n : ℕ) (queue before : List Pending) (submit : Pending) (behind : List Pending) (more : List SubmitHead) → queue ≡ before ++ submit ∷ behind → submit.head.seqnum ≡ n
    → NoneNumbered n (heads queue ++ more) → ⊥
is_pending n queue [] submit behind more line same none = (subst (λ (q : List Pending). NoneNumbered n (heads q ++ more)) line none).0 same
is_pending n queue (x ∷ before) submit behind more line same none =
    is_pending n (before ++ submit ∷ behind) before submit behind more refl same (subst (λ (q : List Pending). NoneNumbered n (heads q ++ more)) line none).1

not_pending : (n : ℕ) (queue : List Pending) (more : List SubmitHead) → Avoids n queue → NoneNumbered n more → NoneNumbered n (heads queue ++ more)
not_pending n [] more free none = none
not_pending n (x ∷ queue) more free none = (free.0, not_pending n queue more free.1 none)

unlink_tells : (asked : Endpoint → List SubmitHead) (x : UnlinkHead) (ups : List up.Message) (puts : List Put) (s t : State) → ((e : Endpoint) → heads (queue_of e s) ++ sent_heads (sent_to e ups) ≡ asked e)
    → ((e : Endpoint) → NoneNumbered x.target (sent_heads (sent_to e ups))) → Unlinks s x puts t → TellsHits asked puts
unlink_tells asked x ups puts s t left order (Hits e before submit behind line number unpolled is to) =
    subst (λ (l : List Put). TellsHits asked l) (sym is)
    (inr ((λ none. is_pending x.target (queue_of e s) before submit behind (sent_heads (sent_to e ups)) line number (subst (λ (l : List SubmitHead). NoneNumbered x.target l) (sym (left e)) (none e))), refl), tt)
unlink_tells asked x ups puts s t left order (Polled e before submit behind setup tag line number polled asks row is to) =
    subst (λ (l : List Put). TellsHits asked l) (sym is)
    (inl ((λ d. subst (λ (n : ℕ). NoneNumbered n (without submit.head.seqnum (asked d))) number (none_without submit.head.seqnum (asked d))), refl), tt)
unlink_tells asked x ups puts s t left order (Misses free is to) =
    subst (λ (l : List Put). TellsHits asked l) (sym is)
    (inl ((λ e. subst (λ (l : List SubmitHead). NoneNumbered x.target l) (left e) (not_pending x.target (queue_of e s) (sent_heads (sent_to e ups)) (avoids_queue x.target s free e) (order e))), refl), tt)

is_submitted : (s t : State) (move : Move) (put : Put) → ((x : UnlinkHead) → move ≢ Comes (up.Unlink x)) → IsAnswer s move t put → IsSubmitted put
is_submitted s t move put none (ToPending e before submit behind status moved line is within by stall packet) = subst (λ (p : Put). IsSubmitted p) (sym is) tt
is_submitted s t move put none (ToArriving head transferred comes is) = subst (λ (p : Put). IsSubmitted p) (sym is) tt
is_submitted s t move put none (ToUnlink head status comes is what) = absurd (none head comes)

all_submitted : (s t : State) (move : Move) (puts : List Put) → ((x : UnlinkHead) → move ≢ Comes (up.Unlink x)) → AllAnswers (IsAnswer s move t) puts → AllAnswers IsSubmitted puts
all_submitted s t move [] none are = tt
all_submitted s t move (put ∷ puts) none are = (is_submitted s t move put none are.0, all_submitted s t move puts none are.1)

step_tells : (laws : HitLaws) (run : List Entry) (asked : Endpoint → List SubmitHead) (unlinks : List UnlinkHead) (move : Move) (ups : List up.Message) (downs puts : List Put) (s t : State) → Runs start run s → Steps s move puts t
    → AreApart asked → AllAnswers Suits downs → Lines asked unlinks (taken move ++ ups) downs s → InOrder (taken move ++ ups) → TellsHits asked downs → TellsHits asked (downs ++ puts)
step_tells laws run asked unlinks move ups downs puts s t reached step apart suits lines order tells = tells-append asked downs puts tells (by move step lines order)
  where
    others : (m : Move) → Steps s m puts t → ((x : UnlinkHead) → m ≢ Comes (up.Unlink x)) → TellsHits (after asked downs) puts
    others m does none = only_submits (after asked downs) puts (all_submitted s t m puts none (laws.answers run s t m puts reached does))

    by : (m : Move) → Steps s m puts t → Lines asked unlinks (taken m ++ ups) downs s → InOrder (taken m ++ ups) → TellsHits (after asked downs) puts
    by (Comes (up.Unlink x)) does line ord =
        unlink_tells (after asked downs) x ups puts s t
        (λ e. left_after asked (λ d. heads (queue_of d s) ++ sent_heads (sent_to d ups)) downs apart suits (λ d. line.submits d) e) (λ e. ord.0 e) does.leads.1
    by (Comes (up.Submit head transferred)) does line ord = others (Comes (up.Submit head transferred)) does (λ x e. cc)
    by (Refuses devid bytes f) does line ord = others (Refuses devid bytes f) does (λ x e. cc)
    by (Take count) does line ord = others (Take count) does (λ x e. cc)
    by Exec does line ord = others Exec does (λ x e. cc)
    by (Begin count) does line ord = others (Begin count) does (λ x e. cc)
    by (Fill count) does line ord = others (Fill count) does (λ x e. cc)
    by Answer does line ord = others Answer does (λ x e. cc)
    by Pend does line ord = others Pend does (λ x e. cc)
    by Poll does line ord = others Poll does (λ x e. cc)
    by Notify does line ord = others Notify does (λ x e. cc)
    by (Halt endpoint) does line ord = others (Halt endpoint) does (λ x e. cc)
    by Unplug does line ord = others Unplug does (λ x e. cc)

pub run_tells : (laws : HitLaws) (before run : List Entry) (asked : Endpoint → List SubmitHead) (unlinks : List UnlinkHead) (ups : List up.Message) (downs : List Put) (s t : State) → Runs start before s → Runs s run t
    → AllFitting (inputs run ++ ups) → InOrder (inputs run ++ ups) → AreApart asked → AllAnswers Suits downs → Lines asked unlinks (inputs run ++ ups) downs s → TellsHits asked downs → TellsHits asked (downs ++ outputs run)
run_tells laws before [] asked unlinks ups downs s t reached goes fit order apart suits lines tells = subst (λ (l : List Put). TellsHits asked l) (sym (append-nil downs)) tells
run_tells laws before (entry ∷ run) asked unlinks ups downs s t reached goes fit order apart suits lines tells =
    let same : ((taken entry.move ++ inputs run) ++ ups) ≡ (taken entry.move ++ (inputs run ++ ups)) = append_assoc (taken entry.move) (inputs run) ups in
    let fits = subst (λ (l : List up.Message). AllFitting l) same fit in
    let ord = subst (λ (l : List up.Message). InOrder l) same order in
    let here = subst (λ (l : List up.Message). Lines asked unlinks l downs s) same lines in
    let one : ((taken entry.move ++ []) ++ (inputs run ++ ups)) ≡ (taken entry.move ++ (inputs run ++ ups)) = ap (λ (l : List up.Message). l ++ (inputs run ++ ups)) (append-nil (taken entry.move)) in
    let first : Runs s (entry ∷ []) goes.0 = (goes.0, goes.1, refl) in
    let told = step_tells laws before asked unlinks entry.move (inputs run ++ ups) downs entry.puts s goes.0 reached goes.1 apart suits here ord tells in
    let lined : Lines asked unlinks (inputs run ++ ups) (downs ++ (entry.puts ++ [])) goes.0 =
    laws.lines before (entry ∷ []) asked unlinks s goes.0 (inputs run ++ ups) downs reached first (subst (λ (l : List up.Message). AllFitting l) (sym one) fits) (subst (λ (l : List up.Message). InOrder l) (sym one) ord)
    (subst (λ (l : List up.Message). Lines asked unlinks l downs s) (sym one) here) in
    let suited : AllAnswers Suits (downs ++ (entry.puts ++ [])) = laws.suits before (entry ∷ []) (inputs run ++ ups) downs s goes.0 reached first (subst (λ (l : List up.Message). AllFitting l) (sym one) fits) suits in
    subst (λ (l : List Put). TellsHits asked l) (append_assoc downs entry.puts (outputs run))
    (run_tells laws (before ++ entry ∷ []) run asked unlinks ups (downs ++ entry.puts) goes.0 t (laws.joins before (entry ∷ []) start s goes.0 reached first) goes.2
    (fitting_behind (taken entry.move) (inputs run ++ ups) fits) (order_behind (taken entry.move) (inputs run ++ ups) ord) apart
    (subst (λ (l : List Put). AllAnswers Suits (downs ++ l)) (append-nil entry.puts) suited)
    (subst (λ (l : List Put). Lines asked unlinks (inputs run ++ ups) (downs ++ l) goes.0) (append-nil entry.puts) lined) told)

pub hit_of : (asked : Endpoint → List SubmitHead) (target : ℕ) (status : ℤ) → TellsOf asked target status → (NoneAsked asked target → ⊥) → status ≡ unlinked
hit_of asked target status (inl none) some = absurd (some none.0)
hit_of asked target status (inr told) some = told.1

pub missed_of : (asked : Endpoint → List SubmitHead) (target : ℕ) (status : ℤ) → TellsOf asked target status → NoneAsked asked target → status ≡ success
missed_of asked target status (inl none) over = none.1
missed_of asked target status (inr told) over = absurd (told.0 over)
