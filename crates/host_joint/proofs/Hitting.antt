-- the answer to an unlink says whether its submit was answered
use Rattle.std.proofs.Common.{◌≡◌, ◌≢◌, ◌∙◌, ◌⊎◌, inl, inr, ℕ, Bool, true, false, cond, eqb, Option, Some, None, List, [], ◌∷◌, ◌++◌, map, refl, ap, sym, subst, append_assoc, append-nil}
use Rattle.std.proofs.lemmas.Bool.{eqb-true, eq-eqb}
use Rattle.usbip_wire.specs.declared.submit.SubmitHead.{SubmitHead}
use Rattle.usbip_wire.specs.declared.unlink.UnlinkHead.{UnlinkHead}
use Rattle.usbip_wire.specs.Up as up
use Rattle.tmc_law.specs.Endpoint.{Endpoint, Control, BulkOut, BulkIn, InterruptIn, number_of}
use Rattle.tmc_law.specs.State.{State, Pending, queue_of, pending, Avoids, start}
use Rattle.tmc_law.specs.Put.{Put, Submitted, Unlinked, unlink_answer, unplugged, unlinked, success, answer_of}
use Rattle.tmc_law.specs.Halts.{all_ended, unplug_answers}
use Rattle.tmc_law.specs.Queues.{Unlinks, Hits, Polled, Misses}
use Rattle.tmc_law.specs.AnswerFits.{AllAnswers, IsAnswer, ToPending, ToArriving, ToUnlink}
use Rattle.tmc_law.specs.Step.{Move, Comes, Refuses, Take, Exec, Begin, Fill, Answer, Pend, Poll, Notify, Halt, Unplug, Steps}
use Rattle.tmc_law.specs.Run.{Entry, Runs, taken, inputs, outputs}
use Rattle.host_joint.specs.Lines.{Lines, LeftBy, Event, Gives, Drops, events_of, heads, sent_heads, sent_to, unlinked_by, unlinks_in, NoneNumbered, InOrder}
use Rattle.host_joint.specs.Asking.{StaysPlugged}
use Rattle.host_joint.specs.Tie.{asked_of, IsOutOrIn, IsGood}
use Rattle.host_joint.specs.Bond.{Situation, Bound, IsFit, IsUnlinkOf}
use Rattle.host_joint.specs.Unplugged.{Until, BoundUntil}
use Rattle.host_joint.specs.Hits.{hit_status, TellsHit, IsOneUnlink}
use Rattle.host_joint.proofs.Until.{Up, AllUp, UpTo, up_to, unplugs_of, nothing_more, RunLaws}

-- ---- lists of answers

-- behind these answers, the submit that is not answered
abbrev left_of : Option SubmitHead → List Put → Option SubmitHead
left_of waits [] = waits
left_of waits (Submitted asked answer transferred ∷ downs) = left_of None downs
left_of waits (Unlinked asked answer ∷ downs) = left_of waits downs

tells-append : (waits : Option SubmitHead) (a b : List Put) → TellsHit waits a → TellsHit (left_of waits a) b → TellsHit waits (a ++ b)
tells-append waits [] b h k = k
tells-append waits (Submitted asked answer transferred ∷ a) b h k = tells-append None a b h k
tells-append waits (Unlinked asked answer ∷ a) b h k = (h.0, tells-append waits a b h.1 k)

left_none : (downs : List Put) → left_of None downs ≡ None
left_none [] = refl
left_none (Submitted asked answer transferred ∷ downs) = left_none downs
left_none (Unlinked asked answer ∷ downs) = left_none downs

abbrev IsSubmitted : Put → Type 0
IsSubmitted (Submitted asked answer transferred) = Unit {0}
IsSubmitted (Unlinked asked answer) = ⊥

only_submits : (waits : Option SubmitHead) (puts : List Put) → AllAnswers IsSubmitted puts → TellsHit waits puts
only_submits waits [] h = tt
only_submits waits (Submitted asked answer transferred ∷ puts) h = only_submits None puts h.1
only_submits waits (Unlinked asked answer ∷ puts) h = absurd h.0

pub good_tells : (waits : Option SubmitHead) (downs : List Put) → AllAnswers IsGood downs → TellsHit waits downs
good_tells waits [] h = tt
good_tells waits (Submitted asked answer transferred ∷ downs) h = good_tells None downs h.1
good_tells waits (Unlinked asked answer ∷ downs) h = absurd h.0

-- ---- a submit is answered

abbrev HasGives : List Event → Type 0
HasGives [] = ⊥
HasGives (Gives head answer transferred ∷ events) = Unit {0}
HasGives (Drops n ∷ events) = HasGives events

none_left : (events : List Event) (left : List SubmitHead) → LeftBy [] events left → left ≡ []
none_left [] left h = h
none_left (Gives head answer transferred ∷ events) left h = let e = h.1 in absurd (cc)
none_left (Drops n ∷ events) left h = none_left events left h

none_given : (events : List Event) (left : List SubmitHead) → LeftBy [] events left → HasGives events → ⊥
none_given [] left h has = has
none_given (Gives head answer transferred ∷ events) left h has = let e = h.1 in cc
none_given (Drops n ∷ events) left h has = none_given events left h has

one_given : (head : SubmitHead) (events : List Event) (left : List SubmitHead) → LeftBy (head ∷ []) events left → HasGives events → left ≡ []
one_given head [] left h has = absurd has
one_given head (Gives asked answer transferred ∷ events) left h has = none_left events left (subst (λ (l : List SubmitHead). LeftBy l events left) (rest asked h.0 h.1) h.2)
  where
    rest : (x : SubmitHead) (more : List SubmitHead) → head ∷ [] ≡ x ∷ more → more ≡ []
    rest x more e = cc
one_given head (Drops n ∷ events) left h has = by (λ k. one_given head events left k has) (eqb head.seqnum n) h
  where
    by : (LeftBy (head ∷ []) events left → left ≡ []) → (b : Bool) → LeftBy (cond b [] (head ∷ [])) events left → left ≡ []
    by rest true k = none_left events left k
    by rest false k = rest k

-- an answer to a submit among these
data HasSubmit (downs : List Put) : Type 0 where
  SubmitAt : (asked : SubmitHead) (e : Endpoint) → asked.ep ≡ number_of e → ((d : Endpoint) → number_of d ≡ number_of e → HasGives (events_of d downs))
      → ((waits : Option SubmitHead) → left_of waits downs ≡ None) → HasSubmit downs

gives_here : (d e : Endpoint) (asked : SubmitHead) (answer : _) (transferred : List ℕ) (downs : List Put) → asked.ep ≡ number_of e → number_of d ≡ number_of e → HasGives (events_of d (Submitted asked answer transferred ∷ downs))
gives_here d e asked answer transferred downs own same = let is : asked.ep ≡ number_of d = own ∙ sym same in rw (eq-eqb asked.ep (number_of d) is) tt

gives_later : (d : Endpoint) (put : Put) (downs : List Put) → HasGives (events_of d downs) → HasGives (events_of d (put ∷ downs))
gives_later d (Submitted asked answer transferred) downs h = by (eqb asked.ep (number_of d))
  where
    by : (b : Bool) → HasGives (cond b (Gives asked answer transferred ∷ events_of d downs) (events_of d downs))
    by true = tt
    by false = h
gives_later d (Unlinked asked answer) downs h = h

has_submit : (waits : Option SubmitHead) (downs : List Put) → AllAnswers IsFit downs → (left_of waits downs ≡ waits) ⊎ HasSubmit downs
has_submit waits [] fits = inl refl
has_submit waits (Submitted asked answer transferred ∷ downs) fits = inr (SubmitAt asked fits.0.0.endpoint fits.0.0.number (λ d same. gives_here d fits.0.0.endpoint asked answer transferred downs fits.0.0.number same) (λ w. left_none downs))
has_submit waits (Unlinked asked answer ∷ downs) fits = by (has_submit waits downs fits.1)
  where
    by : (left_of waits downs ≡ waits) ⊎ HasSubmit downs → (left_of waits downs ≡ waits) ⊎ HasSubmit (Unlinked asked answer ∷ downs)
    by (inl h) = inl h
    by (inr (SubmitAt x e own gives over)) = inr (SubmitAt x e own (λ d same. gives_later d (Unlinked asked answer) downs (gives d same)) over)

-- ---- one is pending

some_pending : {B : Type 0} (queue before : List Pending) (submit : Pending) (behind : List Pending) (more : List SubmitHead) → queue ≡ before ++ submit ∷ behind → heads queue ++ more ≡ [] → B
some_pending [] [] submit behind more line none = absurd (cc)
some_pending [] (x ∷ before) submit behind more line none = absurd (cc)
some_pending (x ∷ queue) before submit behind more line none = absurd (cc)

-- where a submit is pending, it is the one that is not answered, and no answer to it is on its way
still_waits : (waits : Option SubmitHead) (unlinks : List UnlinkHead) (ups : List up.Message) (downs : List Put) (s : State) (e : Endpoint) (before : List Pending) (submit : Pending) (behind : List Pending)
    → Lines (asked_of waits) unlinks ups downs s → AllAnswers IsFit downs → queue_of e s ≡ before ++ submit ∷ behind → (head : SubmitHead) × (left_of waits downs ≡ Some head)
still_waits None unlinks ups downs s e before submit behind lines fits line = some_pending (queue_of e s) before submit behind (sent_heads (sent_to e ups)) line (none_left (events_of e downs) _ (lines.submits e))
still_waits (Some head) unlinks ups downs s e before submit behind lines fits line = by (has_submit (Some head) downs fits)
  where
    here : (b : Bool) → eqb head.ep (number_of e) ≡ b → HasSubmit downs → LeftBy (cond b (head ∷ []) []) (events_of e downs) (heads (queue_of e s) ++ sent_heads (sent_to e ups)) → (h : SubmitHead) × (left_of (Some head) downs ≡ Some h)
    here false is has left = some_pending (queue_of e s) before submit behind (sent_heads (sent_to e ups)) line (none_left (events_of e downs) _ left)
    here true is (SubmitAt asked d own gives over) left = there (eqb head.ep (number_of d)) refl (lines.submits d)
      where
        there : (b : Bool) → eqb head.ep (number_of d) ≡ b → LeftBy (cond b (head ∷ []) []) (events_of d downs) (heads (queue_of d s) ++ sent_heads (sent_to d ups)) → (h : SubmitHead) × (left_of (Some head) downs ≡ Some h)
        there false differs other = absurd (none_given (events_of d downs) _ other (gives d refl))
        there true same other =
            some_pending (queue_of e s) before submit behind (sent_heads (sent_to e ups)) line
            (one_given head (events_of e downs) _ left (gives e (sym (eqb-true head.ep (number_of e) is) ∙ eqb-true head.ep (number_of d) same)))

    by : (left_of (Some head) downs ≡ Some head) ⊎ HasSubmit downs → (h : SubmitHead) × (left_of (Some head) downs ≡ Some h)
    by (inl none) = (head, none)
    by (inr has) = here (eqb head.ep (number_of e)) refl has (lines.submits e)

-- ---- none is pending

avoids_front : (n : ℕ) (a b : List Pending) → Avoids n (a ++ b) → Avoids n a
avoids_front n [] b h = tt
avoids_front n (x ∷ a) b h = (h.0, avoids_front n a b h.1)

avoids_behind : (n : ℕ) (a b : List Pending) → Avoids n (a ++ b) → Avoids n b
avoids_behind n [] b h = h
avoids_behind n (x ∷ a) b h = avoids_behind n a b h.1

avoids_at : (n : ℕ) (s : State) (e : Endpoint) → Avoids n (pending s) → Avoids n (queue_of e s)
avoids_at n s Control h = avoids_front n s.control _ h
avoids_at n s BulkOut h = avoids_front n s.bulk_out _ (avoids_behind n s.control _ h)
avoids_at n s BulkIn h = avoids_front n s.bulk_in _ (avoids_behind n s.bulk_out _ (avoids_behind n s.control _ h))
avoids_at n s InterruptIn h = avoids_behind n s.bulk_in _ (avoids_behind n s.bulk_out _ (avoids_behind n s.control _ h))

-- where no answer to an unlink is on its way, and none to a submit, none is
none_on_way : (waits : SubmitHead) (downs : List Put) → unlinked_by downs ≡ [] → left_of (Some waits) downs ≡ Some waits → downs ≡ []
none_on_way head [] none left = refl
none_on_way head (Submitted asked answer transferred ∷ downs) none left = let e : None ≡ Some head = sym (left_none downs) ∙ left in absurd (cc)
none_on_way head (Unlinked asked answer ∷ downs) none left = absurd (cc)

-- the one submit is pending, where nothing answers it and it does not come behind its unlink
not_missed : (head : SubmitHead) (n : ℕ) (queue : List Pending) (coming : List SubmitHead) → n ≡ head.seqnum → heads queue ++ coming ≡ head ∷ [] → NoneNumbered n coming → Avoids n queue → ⊥
not_missed head n [] [] same line none free = cc
not_missed head n [] (x ∷ coming) same line none free = let e : x ≡ head = cc in none.0 (ap (λ (h : SubmitHead). h.seqnum) e ∙ sym same)
not_missed head n (x ∷ queue) coming same line none free = free.0 (ap (λ (h : SubmitHead). h.seqnum) (first x.head (heads queue ++ coming) line) ∙ sym same)
  where
    first : (y : SubmitHead) (rest : List SubmitHead) → y ∷ rest ≡ head ∷ [] → y ≡ head
    first y rest e = cc

no_two : (a b : List UnlinkHead) (unlink x : UnlinkHead) → unlink ∷ [] ≡ a ++ (x ∷ b) → (a ≡ []) × (x ≡ unlink)
no_two [] b unlink x e = (refl, cc)
no_two (y ∷ []) b unlink x e = absurd (cc)
no_two (y ∷ z ∷ a) b unlink x e = absurd (cc)

-- a miss says that the submit was answered
missed : (waits : Option SubmitHead) (unlink x : UnlinkHead) (ups : List up.Message) (downs : List Put) (s : State) → IsOutOrIn waits → IsUnlinkOf waits unlink
    → Lines (asked_of waits) (unlink ∷ []) (up.Unlink x ∷ ups) downs s → AllAnswers IsFit downs → InOrder (up.Unlink x ∷ ups) → Avoids x.target (pending s) → left_of waits downs ≡ None
missed None unlink x ups downs s bulk names lines fits order free = left_none downs
missed (Some head) unlink x ups downs s bulk names lines fits order free = by (has_submit (Some head) downs fits)
  where
    one : (unlinked_by downs ≡ []) × (x ≡ unlink)
    one = no_two (unlinked_by downs) (unlinks_in ups) unlink x lines.unlinked

    named : x.target ≡ head.seqnum
    named = ap (λ (u : UnlinkHead). u.target) one.1 ∙ names

    at : (e : Endpoint) → head.ep ≡ number_of e → downs ≡ [] → ⊥
    at e own none =
        let line : LeftBy (asked_of (Some head) e) (events_of e []) (heads (queue_of e s) ++ sent_heads (sent_to e ups)) = subst (λ (l : List Put). LeftBy (asked_of (Some head) e) (events_of e l) (heads (queue_of e s) ++ sent_heads (sent_to e ups))) none (lines.submits e) in
        let asked : asked_of (Some head) e ≡ head ∷ [] = rw (eq-eqb head.ep (number_of e) own) refl in
        not_missed head x.target (queue_of e s) (sent_heads (sent_to e ups)) named (line ∙ asked) (order.0 e) (avoids_at x.target s e free)

    somewhere : (head.ep ≡ 1) ⊎ (head.ep ≡ 2) → downs ≡ [] → ⊥
    somewhere (inl own) none = at BulkOut own none
    somewhere (inr own) none = at BulkIn own none

    by : (left_of (Some head) downs ≡ Some head) ⊎ HasSubmit downs → left_of (Some head) downs ≡ None
    by (inl still) = absurd (somewhere bulk (none_on_way head downs one.0 still))
    by (inr (SubmitAt asked e own gives over)) = over (Some head)

-- ---- under each step

-- what this asks of the laws
pub record HitLaws : Type 0 where
  pub runs : RunLaws
  pub answers : (run : List Entry) (s t : State) (move : Move) (puts : List Put) → Runs start run s → Steps s move puts t → AllAnswers (IsAnswer s move t) puts
  pub polled : (run : List Entry) (s : State) (e : Endpoint) (before : List Pending) (submit : Pending) (behind : List Pending) → Runs start run s
      → queue_of e s ≡ before ++ submit ∷ behind → submit.polled ≡ true → (e ≡ Control) × (before ≡ [])
  pub stays : (situation : Situation) (run : List Entry) (waits : Option SubmitHead) (unlinks : List UnlinkHead) (next : ℕ) (ups : List up.Message) (downs : List Put) (s t : State)
      → Runs s run t → StaysPlugged run → Bound situation waits unlinks next (inputs run ++ ups) downs s → Bound situation waits unlinks next ups (downs ++ outputs run) t

no_control : (waits : Option SubmitHead) → IsOutOrIn waits → asked_of waits Control ≡ []
no_control None bulk = refl
no_control (Some head) (inl own) = let e : eqb head.ep 0 ≡ false = ap (λ (n : ℕ). eqb n 0) own in rw e refl
no_control (Some head) (inr own) = let e : eqb head.ep 0 ≡ false = ap (λ (n : ℕ). eqb n 0) own in rw e refl

one_status : (waits : Option SubmitHead) (x : UnlinkHead) (puts : List Put) (status : _) → puts ≡ unlink_answer x status ∷ [] → status ≡ hit_status waits → TellsHit waits puts
one_status waits x puts status is same = subst (λ (l : List Put). TellsHit waits l) (sym is) (same, tt)

unlink_tells : (laws : HitLaws) (run : List Entry) (waits : Option SubmitHead) (unlinks : List UnlinkHead) (x : UnlinkHead) (ups : List up.Message) (downs puts : List Put) (s t : State) → Runs start run s → Unlinks s x puts t
    → IsOutOrIn waits → IsOneUnlink waits unlinks → Lines (asked_of waits) unlinks (up.Unlink x ∷ ups) downs s → AllAnswers IsFit downs → InOrder (up.Unlink x ∷ ups) → TellsHit (left_of waits downs) puts
unlink_tells laws run waits unlinks x ups downs puts s t reached (Hits e before submit behind line number unpolled is to) bulk one lines fits order =
    let waiting = still_waits waits unlinks (up.Unlink x ∷ ups) downs s e before submit behind lines fits line in
    one_status (left_of waits downs) x puts unlinked is (rw waiting.1 refl)
unlink_tells laws run waits unlinks x ups downs puts s t reached (Polled e before submit behind setup tag line number polled asks row is to) bulk one lines fits order =
    let control : e ≡ Control = (laws.polled run s e before submit behind reached line polled).0 in
    let none : LeftBy [] (events_of Control downs) (heads s.control ++ sent_heads (sent_to Control ups)) =
    subst (λ (l : List SubmitHead). LeftBy l (events_of Control downs) (heads s.control ++ sent_heads (sent_to Control ups))) (no_control waits bulk) (lines.submits Control) in
    some_pending s.control before submit behind (sent_heads (sent_to Control ups)) (subst (λ (d : Endpoint). queue_of d s ≡ before ++ submit ∷ behind) control line) (none_left (events_of Control downs) _ none)
unlink_tells laws run waits [] x ups downs puts s t reached (Misses free is to) bulk one lines fits order = none (unlinked_by downs) lines.unlinked
  where
    none : {B : Type 0} (a : List UnlinkHead) → [] ≡ a ++ (x ∷ unlinks_in ups) → B
    none [] e = absurd (cc)
    none (y ∷ a) e = absurd (cc)
unlink_tells laws run waits (unlink ∷ []) x ups downs puts s t reached (Misses free is to) bulk one lines fits order =
    one_status (left_of waits downs) x puts success is (rw (missed waits unlink x ups downs s bulk one lines fits order free) refl)
unlink_tells laws run waits (unlink ∷ other ∷ more) x ups downs puts s t reached (Misses free is to) bulk one lines fits order = absurd one

is_submitted : (s t : State) (move : Move) (put : Put) → ((x : UnlinkHead) → move ≢ Comes (up.Unlink x)) → IsAnswer s move t put → IsSubmitted put
is_submitted s t move put none (ToPending e before submit behind status moved line is within by stall packet) = subst (λ (p : Put). IsSubmitted p) (sym is) tt
is_submitted s t move put none (ToArriving head transferred comes is) = subst (λ (p : Put). IsSubmitted p) (sym is) tt
is_submitted s t move put none (ToUnlink head status comes is what) = absurd (none head comes)

all_submitted : (s t : State) (move : Move) (puts : List Put) → ((x : UnlinkHead) → move ≢ Comes (up.Unlink x)) → AllAnswers (IsAnswer s move t) puts → AllAnswers IsSubmitted puts
all_submitted s t move [] none are = tt
all_submitted s t move (put ∷ puts) none are = (is_submitted s t move put none are.0, all_submitted s t move puts none are.1)

step_tells : (laws : HitLaws) (run : List Entry) (waits : Option SubmitHead) (unlinks : List UnlinkHead) (move : Move) (ups : List up.Message) (downs puts : List Put) (s t : State) → Runs start run s → Steps s move puts t
    → IsOutOrIn waits → IsOneUnlink waits unlinks → Lines (asked_of waits) unlinks (taken move ++ ups) downs s → AllAnswers IsFit downs → InOrder (taken move ++ ups) → TellsHit waits downs → TellsHit waits (downs ++ puts)
step_tells laws run waits unlinks move ups downs puts s t reached step bulk one lines fits order tells = tells-append waits downs puts tells (by move step lines order)
  where
    others : (m : Move) → Steps s m puts t → ((x : UnlinkHead) → m ≢ Comes (up.Unlink x)) → TellsHit (left_of waits downs) puts
    others m does none = only_submits (left_of waits downs) puts (all_submitted s t m puts none (laws.answers run s t m puts reached does))

    by : (m : Move) → Steps s m puts t → Lines (asked_of waits) unlinks (taken m ++ ups) downs s → InOrder (taken m ++ ups) → TellsHit (left_of waits downs) puts
    by (Comes (up.Unlink x)) does line ord = unlink_tells laws run waits unlinks x ups downs puts s t reached does.leads.1 bulk one line fits ord
    by (Comes (up.Submit head transferred)) does line ord = others (Comes (up.Submit head transferred)) does (λ x e. cc)
    by (Refuses devid bytes f) does line ord = others (Refuses devid bytes f) does (λ x e. cc)
    by (Take count) does line ord = others (Take count) does (λ x e. cc)
    by Exec does line ord = others Exec does (λ x e. cc)
    by (Begin count) does line ord = others (Begin count) does (λ x e. cc)
    by (Fill count) does line ord = others (Fill count) does (λ x e. cc)
    by Answer does line ord = others Answer does (λ x e. cc)
    by Pend does line ord = others Pend does (λ x e. cc)
    by Poll does line ord = others Poll does (λ x e. cc)
    by Notify does line ord = others Notify does (λ x e. cc)
    by (Halt endpoint) does line ord = others (Halt endpoint) does (λ x e. cc)
    by Unplug does line ord = others Unplug does (λ x e. cc)

-- ---- under each run

plugged_tells : (laws : HitLaws) (situation : Situation) (run : List Entry) (waits : Option SubmitHead) (unlinks : List UnlinkHead) (next : ℕ) (ups : List up.Message) (downs : List Put) (s t : State) → IsOutOrIn waits → IsOneUnlink waits unlinks
    → Runs s run t → StaysPlugged run → Bound situation waits unlinks next (inputs run ++ ups) downs s → TellsHit waits downs → TellsHit waits (downs ++ outputs run)
plugged_tells laws situation [] waits unlinks next ups downs s t bulk one goes plugged bound tells = subst (λ (l : List Put). TellsHit waits l) (sym (append-nil downs)) tells
plugged_tells laws situation (entry ∷ run) waits unlinks next ups downs s t bulk one goes plugged bound tells =
    let same : ((taken entry.move ++ inputs run) ++ ups) ≡ (taken entry.move ++ (inputs run ++ ups)) = append_assoc (taken entry.move) (inputs run) ups in
    let here = subst (λ (l : List up.Message). Bound situation waits unlinks next l downs s) same bound in
    let told = step_tells laws here.bond.run waits unlinks entry.move (inputs run ++ ups) downs entry.puts s goes.0 here.bond.reached goes.1 bulk one here.bond.lines here.bond.fits here.bond.order tells in
    let later : Bound situation waits unlinks next (inputs run ++ ups) (downs ++ (entry.puts ++ [])) goes.0 =
    laws.stays situation (entry ∷ []) waits unlinks next (inputs run ++ ups) downs s goes.0 (goes.0, goes.1, refl) (plugged.0, tt)
    (subst (λ (l : List up.Message). Bound situation waits unlinks next (l ++ (inputs run ++ ups)) downs s) (sym (append-nil (taken entry.move))) here) in
    subst (λ (l : List Put). TellsHit waits l) (append_assoc downs entry.puts (outputs run))
    (plugged_tells laws situation run waits unlinks next ups (downs ++ entry.puts) goes.0 t bulk one goes.2 plugged.1
    (subst (λ (l : List Put). Bound situation waits unlinks next (inputs run ++ ups) (downs ++ l) goes.0) (append-nil entry.puts) later) told)

pub run_tells : (laws : HitLaws) (situation : Situation) (run : List Entry) (waits : Option SubmitHead) (unlinks : List UnlinkHead) (next : ℕ) (ups : List up.Message) (downs : List Put) (s t : State) → IsOutOrIn waits → IsOneUnlink waits unlinks
    → Runs s run t → BoundUntil situation waits unlinks next (inputs run ++ ups) downs s → TellsHit waits downs → TellsHit waits (downs ++ outputs run)
run_tells laws situation run waits unlinks next ups downs s t bulk one goes (inr held) tells =
    let none = nothing_more held.before s t run held.unplugs goes in
    subst (λ (r : List Entry). TellsHit waits (downs ++ outputs r)) (sym none.0) (subst (λ (l : List Put). TellsHit waits l) (sym (append-nil downs)) tells)
run_tells laws situation run waits unlinks next ups downs s t bulk one goes (inl bound) tells = by (up_to run)
  where
    by : Up run → TellsHit waits (downs ++ outputs run)
    by (AllUp plugged) = plugged_tells laws situation run waits unlinks next ups downs s t bulk one goes plugged bound tells
    by (UpTo a last b whole is plugged) =
        let split = laws.runs.apart a (last ∷ b) s t (subst (λ (r : List Entry). Runs s r t) whole goes) in
        let unplugs = unplugs_of split.0 split.2.0 last is split.2.1 in
        let none = nothing_more split.0 split.2.0 t b unplugs.1 split.2.2 in
        let ended : run ≡ a ++ last ∷ [] = whole ∙ ap (λ (l : List Entry). a ++ last ∷ l) none.0 in
        let none_in : inputs (last ∷ []) ≡ [] = rw is refl in
        let ins : inputs run ≡ inputs a = ap inputs ended ∙ laws.runs.ins a (last ∷ []) ∙ ap (λ (l : List up.Message). inputs a ++ l) none_in ∙ append-nil (inputs a) in
        let outs : outputs run ≡ outputs a ++ last.puts = ap outputs ended ∙ laws.runs.outs a (last ∷ []) ∙ ap (λ (l : List Put). outputs a ++ l) (append-nil last.puts) in
        let before = subst (λ (l : List up.Message). Bound situation waits unlinks next (l ++ ups) downs s) ins bound in
        let here = laws.stays situation a waits unlinks next ups downs s split.0 split.1 plugged before in
        let told = plugged_tells laws situation a waits unlinks next ups downs s split.0 bulk one split.1 plugged before tells in
        subst (λ (l : List Put). TellsHit waits l) (append_assoc downs (outputs a) last.puts ∙ sym (ap (λ (l : List Put). downs ++ l) outs))
        (tells-append waits (downs ++ outputs a) last.puts told (only_submits (left_of waits (downs ++ outputs a)) last.puts
        (all_submitted split.0 split.2.0 Unplug last.puts (λ x e. cc) (laws.answers here.bond.run split.0 split.2.0 Unplug last.puts here.bond.reached (subst (λ (m : Move). Steps split.0 m last.puts split.2.0) is split.2.1)))))

-- ---- before an unlink is written

no_unlinks : (waits : Option SubmitHead) (downs : List Put) → unlinked_by downs ≡ [] → TellsHit waits downs
no_unlinks waits [] none = tt
no_unlinks waits (Submitted asked answer transferred ∷ downs) none = no_unlinks None downs none
no_unlinks waits (Unlinked asked answer ∷ downs) none = absurd (cc)

ended_submitted : (queue : List Pending) → AllAnswers IsSubmitted (all_ended unplugged queue)
ended_submitted [] = tt
ended_submitted (x ∷ queue) = (tt, others queue)
  where
    others : (l : List Pending) → AllAnswers IsSubmitted (map (λ (submit : Pending). answer_of submit.head unplugged []) l)
    others [] = tt
    others (y ∷ l) = (tt, others l)

submitted-append : (a b : List Put) → AllAnswers IsSubmitted a → AllAnswers IsSubmitted b → AllAnswers IsSubmitted (a ++ b)
submitted-append [] b h k = k
submitted-append (x ∷ a) b h k = (h.0, submitted-append a b h.1 k)

unplug_submitted : (s : State) → AllAnswers IsSubmitted (unplug_answers s)
unplug_submitted s =
    submitted-append (all_ended unplugged s.control) _ (ended_submitted s.control)
    (submitted-append (all_ended unplugged s.bulk_out) _ (ended_submitted s.bulk_out) (submitted-append (all_ended unplugged s.bulk_in) _ (ended_submitted s.bulk_in) (ended_submitted s.interrupt_in)))

none_of : (a b : List UnlinkHead) → [] ≡ a ++ b → a ≡ []
none_of [] b e = refl
none_of (x ∷ a) b e = absurd (cc)

pub until_tells : (Ties : List up.Message → List Put → State → Type 0) (waits : Option SubmitHead) → ((ups : List up.Message) (downs : List Put) (s : State) → Ties ups downs s → Lines (asked_of waits) [] ups downs s)
    → (ups : List up.Message) (downs : List Put) (s : State) → Until Ties ups downs s → TellsHit waits downs
until_tells Ties waits lines ups downs s (inl tie) = no_unlinks waits downs (none_of (unlinked_by downs) (unlinks_in ups) (lines ups downs s tie).unlinked)
until_tells Ties waits lines ups downs s (inr held) =
    subst (λ (l : List Put). TellsHit waits l) (sym held.behind)
    (tells-append waits held.front (unplug_answers held.before)
    (no_unlinks waits held.front (none_of (unlinked_by held.front) (unlinks_in ups) (lines ups held.front held.before held.tie).unlinked))
    (only_submits (left_of waits held.front) (unplug_answers held.before) (unplug_submitted held.before)))
