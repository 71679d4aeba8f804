-- the answer to a ticket's one submit and its unlink race, under each step
use Rattle.std.proofs.Common.{◌≡◌, ◌≢◌, ◌∙◌, ◌⊎◌, inl, inr, ℕ, ◌+◌, Bool, true, false, cond, eqb, Some, None, Option, List, [], ◌∷◌, ◌++◌, refl, ap, sym, subst, append-nil}
use Rattle.std.proofs.lemmas.Bool.{eq-eqb}
use Rattle.usbip_wire.specs.declared.submit.SubmitHead.{SubmitHead}
use Rattle.usbip_wire.specs.declared.unlink.UnlinkHead.{UnlinkHead}
use Rattle.usbip_wire.specs.declared.ret_submit.RetSubmitHead.{RetSubmitHead}
use Rattle.usbip_wire.specs.declared.ret_unlink.RetUnlinkHead.{RetUnlinkHead}
use Rattle.usbip_wire.specs.Up as up
use Rattle.tmc_law.specs.Endpoint.{Endpoint, Control, number_of}
use Rattle.tmc_law.specs.State.{State, Pending, queue_of, with_queue, pending, Avoids, start}
use Rattle.tmc_law.specs.Put.{Put, Submitted, Unlinked, unlink_answer, success, unlinked}
use Rattle.tmc_law.specs.Queues.{Unlinks, Hits, Polled, Misses}
use Rattle.tmc_law.specs.AnswerFits.{AllAnswers}
use Rattle.tmc_law.specs.Step.{Move, Comes, Unplug, Steps}
use Rattle.tmc_law.specs.Run.{Entry, Runs, taken, inputs, outputs}
use Rattle.host_joint.specs.Lines.{Sent, Lines, LeftBy, Event, Gives, events_of, heads, sent_heads, sent_to, without, unlinks_in, unlinked_by, AllFitting}
use Rattle.host_joint.specs.Unlinking.{AllHeads}
use Rattle.host_joint.specs.Asking.{StaysPlugged}
use Rattle.host_joint.specs.Positions.{IsAt, rests}
use Rattle.host_joint.specs.Tie.{asked_of}
use Rattle.host_joint.specs.Bond.{Bond, IsFit, Bound, Stands, Resting}
use Rattle.host_joint.specs.Races.{Races, UnlinkComes, UnlinkHit, UnlinkMissed, Late, LateComes, LateMissed}
use Rattle.host_joint.proofs.Queues.{Apart, which}
use Rattle.host_joint.proofs.Flows.{all_answered, unlinks-append}
use Rattle.host_joint.proofs.Sending.{sent-append}
use Rattle.host_joint.proofs.Hosting.{own_event}
use Rattle.host_joint.proofs.Tying.{TieLaws, in_order}
use Rattle.host_joint.proofs.Writing.{other_asked}
use Rattle.tmc_law.specs.Numbers.{AllBelow, Rises, numbers}
use Rattle.host_joint.proofs.Booking.{unlink_written}
use Rattle.host_joint.proofs.Numbered.{below_next}
use Rattle.host_joint.proofs.Cancelling.{fitting_more, order_more, numbers_same, bond_as, after, lines_after, unlinked_bond}
use Rattle.host_joint.proofs.Bonding.{Keeps, bond_run, fits_step}
use Rattle.host_joint.proofs.Joining.{no_ups}
use Rattle.host_joint.proofs.Idling.{Idled, idles, one_taken}

-- ---- lists

two : (a b : List UnlinkHead) (u : UnlinkHead) → u ∷ [] ≡ a ++ (b ++ u ∷ []) → (a ≡ []) × (b ≡ [])
two [] [] u e = (refl, refl)
two [] (x ∷ []) u e = absurd (cc)
two [] (x ∷ y ∷ b) u e = absurd (cc)
two (x ∷ []) [] u e = absurd (cc)
two (x ∷ []) (y ∷ b) u e = absurd (cc)
two (x ∷ y ∷ a) b u e = absurd (cc)

-- the messages before the last one
pub data Ahead (move : Move) (ups front : List up.Message) (last : up.Message) : Type 0 where
  IsLast : move ≡ Comes last → ups ≡ [] → front ≡ [] → Ahead move ups front last
  IsAhead : (later : List up.Message) → front ≡ taken move ++ later → ups ≡ later ++ last ∷ [] → Ahead move ups front last

pub ahead : (move : Move) (ups front : List up.Message) (last : up.Message) → taken move ++ ups ≡ front ++ last ∷ [] → Ahead move ups front last
ahead move ups front last is = by (one_taken move)
  where
    comes : (message : up.Message) (l : List up.Message) → move ≡ Comes message → message ∷ ups ≡ l ++ last ∷ [] → front ≡ l → Ahead move ups front last
    comes message [] same e own = IsLast (same ∙ ap (λ (m : up.Message). Comes m) (cc)) (cc) own
    comes message (x ∷ l) same e own =
        IsAhead l (own ∙ ap (λ (y : up.Message). y ∷ l) (sym (let h : message ≡ x = cc in h)) ∙ ap (λ (m : Move). taken m ++ l) (sym same)) (cc)

    by : (taken move ≡ []) ⊎ ((message : up.Message) × (move ≡ Comes message)) → Ahead move ups front last
    by (inl none) = IsAhead front (ap (λ (l : List up.Message). l ++ front) (sym none)) (ap (λ (l : List up.Message). l ++ ups) (sym none) ∙ is)
    by (inr came) = comes came.0 front came.1 (ap (λ (m : Move). taken m ++ ups) (sym came.1) ∙ is) refl

pub lines_front : (asked : Endpoint → List SubmitHead) (u : UnlinkHead) (front : List up.Message) (downs : List Put) (s : State) → Lines asked (u ∷ []) (front ++ up.Unlink u ∷ []) downs s → Lines asked [] front downs s
lines_front asked u front downs s lines = record {
  submits = λ e. subst (λ (l : List Sent). LeftBy (asked e) (events_of e downs) (heads (queue_of e s) ++ sent_heads l)) (sent-append e front (up.Unlink u ∷ []) ∙ append-nil (sent_to e front)) (lines.submits e);
  unlinked = let none = two (unlinked_by downs) (unlinks_in front) u (lines.unlinked ∙ ap (λ (l : List UnlinkHead). unlinked_by downs ++ l) (unlinks-append front (up.Unlink u ∷ []))) in
      sym (ap (λ (l : List UnlinkHead). l ++ unlinks_in front) none.0 ∙ none.1);
}

no_unlink : (a b : List UnlinkHead) → [] ≡ a ++ b → (a ≡ []) × (b ≡ [])
no_unlink [] b e = (refl, sym e)
no_unlink (x ∷ a) b e = absurd (cc)

pub fitting_front : (front : List up.Message) (u : UnlinkHead) → AllFitting (front ++ up.Unlink u ∷ []) → AllFitting front
fitting_front [] u h = tt
fitting_front (up.Submit x transferred ∷ front) u h = (h.0, fitting_front front u h.1)
fitting_front (up.Unlink x ∷ front) u h = fitting_front front u h

-- ---- what was put out

-- no answer says anything of an endpoint
pub none_down : (downs : List Put) → AllAnswers IsFit downs → ((e : Endpoint) → events_of e downs ≡ []) → unlinked_by downs ≡ [] → downs ≡ []
none_down [] fits none free = refl
none_down (Submitted x a transferred ∷ downs) fits none free = absurd (some (sym (none fits.0.0.endpoint) ∙ own_event fits.0.0.endpoint x a transferred downs fits.0.0.number))
  where
    some : {y : Event} {l : List Event} → [] ≡ y ∷ l → ⊥
    some e = cc
none_down (Unlinked x a ∷ downs) fits none free = absurd (cc)

events_at : (own : Endpoint) (head : SubmitHead) (ups : List up.Message) (downs : List Put) (s : State) → head.ep ≡ number_of own → Lines (asked_of (Some head)) [] ups downs s → events_of own downs ≡ [] → (e : Endpoint) → events_of e downs ≡ []
events_at own head ups downs s number lines none e = by (which own e)
  where
    by : (own ≡ e) ⊎ Apart own e → events_of e downs ≡ []
    by (inl same) = subst (λ (d : Endpoint). events_of d downs ≡ []) same none
    by (inr apart) = (all_answered (asked_of (Some head)) e ups downs s lines (other_asked own e head number differ)).events
      where
        differ : e ≢ own
        differ same = let off : eqb (number_of own) (number_of e) ≡ false = apart.number in
            let on : eqb (number_of own) (number_of e) ≡ true = eq-eqb (number_of own) (number_of e) (ap number_of (sym same)) in
            let f : false ≡ true = sym off ∙ on in cc

pub no_downs_at : (own : Endpoint) (head : SubmitHead) (ups : List up.Message) (downs : List Put) (s : State) → head.ep ≡ number_of own → Lines (asked_of (Some head)) [] ups downs s → AllAnswers IsFit downs → events_of own downs ≡ [] → downs ≡ []
no_downs_at own head ups downs s number lines fits none = none_down downs fits (events_at own head ups downs s number lines none) (no_unlink (unlinked_by downs) (unlinks_in ups) lines.unlinked).0

-- where one answer says something of the endpoint, it is the only one
one_down : (own : Endpoint) (head : SubmitHead) (event : Event) (ups : List up.Message) (downs : List Put) (s : State) → head.ep ≡ number_of own → Lines (asked_of (Some head)) [] ups downs s → AllAnswers IsFit downs → events_of own downs ≡ event ∷ []
    → (answer : Put) × (downs ≡ answer ∷ [])
one_down own head event ups [] s number lines fits one = absurd (cc)
one_down own head event ups (Unlinked x a ∷ downs) s number lines fits one = let none = (no_unlink (unlinked_by (Unlinked x a ∷ downs)) (unlinks_in ups) lines.unlinked).0 in absurd (cc)
one_down own head event ups (Submitted x a transferred ∷ downs) s number lines fits one =
    (Submitted x a transferred, ap (λ (l : List Put). Submitted x a transferred ∷ l) (none_down downs fits.1 rest (no_unlink (unlinked_by downs) (unlinks_in ups) lines.unlinked).0))
  where
    d : Endpoint
    d = fits.0.0.endpoint

    some : {B : Type 0} {y : Event} {l : List Event} → [] ≡ y ∷ l → B
    some e = absurd (cc)

    tail : (y z : Event) (l : List Event) → y ∷ l ≡ z ∷ [] → l ≡ []
    tail y z l e = cc

    others : (e : Endpoint) → (own ≡ e) ⊎ Apart own e → (own ≡ e) ⊎ (events_of e (Submitted x a transferred ∷ downs) ≡ [])
    others e (inl same) = inl same
    others e (inr apart) = inr ((all_answered (asked_of (Some head)) e ups (Submitted x a transferred ∷ downs) s lines (other_asked own e head number (differ apart))).events)
      where
        differ : Apart own e → e ≢ own
        differ far same = let off : eqb (number_of own) (number_of e) ≡ false = far.number in
            let on : eqb (number_of own) (number_of e) ≡ true = eq-eqb (number_of own) (number_of e) (ap number_of (sym same)) in
            let f : false ≡ true = sym off ∙ on in cc

    -- it is an answer at that endpoint
    here : own ≡ d
    here = by (others d (which own d))
      where
        by : (own ≡ d) ⊎ (events_of d (Submitted x a transferred ∷ downs) ≡ []) → own ≡ d
        by (inl same) = same
        by (inr none) = some (sym none ∙ own_event d x a transferred downs fits.0.0.number)

    rest : (e : Endpoint) → events_of e downs ≡ []
    rest e = by (others e (which own e))
      where
        by : (own ≡ e) ⊎ (events_of e (Submitted x a transferred ∷ downs) ≡ []) → events_of e downs ≡ []
        by (inl same) = tail _ event (events_of e downs) (sym (own_event e x a transferred downs (fits.0.0.number ∙ ap number_of (sym here ∙ same))) ∙ subst (λ (y : Endpoint). events_of y (Submitted x a transferred ∷ downs) ≡ event ∷ []) same one)
        by (inr none) = split (eqb x.ep (number_of e)) none
          where
            split : (b : Bool) → cond b (Gives x a transferred ∷ events_of e downs) (events_of e downs) ≡ [] → events_of e downs ≡ []
            split true h = absurd (cc)
            split false h = h

-- ---- nothing is pending

all_other : (n : ℕ) (l : List SubmitHead) → AllHeads (λ head. head.seqnum ≡ n) l → without n l ≡ []
all_other n [] h = refl
all_other n (x ∷ l) h = rw (eq-eqb x.seqnum n h.0) (all_other n l h.1)

all_without : (P : SubmitHead → Type 0) (n : ℕ) (l : List SubmitHead) → AllHeads P l → AllHeads P (without n l)
all_without P n [] h = tt
all_without P n (x ∷ l) h = by (eqb x.seqnum n) (all_without P n l h.1)
  where
    by : (b : Bool) → AllHeads P (without n l) → AllHeads P (cond b (without n l) (x ∷ without n l))
    by true k = k
    by false k = (h.0, k)

-- the answer to the unlink is the last one
dropped : (e : Endpoint) (u : UnlinkHead) (b : RetUnlinkHead) (downs : List Put) (asked left : List SubmitHead) → AllHeads (λ head. head.seqnum ≡ u.target) asked → LeftBy asked (events_of e (downs ++ Unlinked u b ∷ [])) left → left ≡ []
dropped e u b [] asked left all h = h ∙ all_other u.target asked all
dropped e u b (Submitted x a transferred ∷ downs) asked left all h = by (λ l k m. dropped e u b downs l left k m) (eqb x.ep (number_of e)) h
  where
    by : ((l : List SubmitHead) → AllHeads (λ head. head.seqnum ≡ u.target) l → LeftBy l (events_of e (downs ++ Unlinked u b ∷ [])) left → left ≡ []) → (c : Bool)
        → LeftBy asked (cond c (Gives x a transferred ∷ events_of e (downs ++ Unlinked u b ∷ [])) (events_of e (downs ++ Unlinked u b ∷ []))) left → left ≡ []
    by go true k = go k.0 (subst (λ (l : List SubmitHead). AllHeads (λ head. head.seqnum ≡ u.target) l) k.1 all).1 k.2
    by go false k = go asked all k
dropped e u b (Unlinked x a ∷ downs) asked left all h = dropped e u b downs (without x.target asked) left (all_without (λ head. head.seqnum ≡ u.target) x.target asked all) h

no_heads : (queue : List Pending) (more : List SubmitHead) → heads queue ++ more ≡ [] → queue ≡ []
no_heads [] more h = refl
no_heads (x ∷ queue) more h = absurd (cc)

asked_numbers : (head : SubmitHead) (u : UnlinkHead) (e : Endpoint) → u.target ≡ head.seqnum → AllHeads (λ x. x.seqnum ≡ u.target) (asked_of (Some head) e)
asked_numbers head u e names = by (eqb head.ep (number_of e))
  where
    by : (b : Bool) → AllHeads (λ x. x.seqnum ≡ u.target) (cond b (head ∷ []) [])
    by true = (sym names, tt)
    by false = tt

pub over_empty : (asked : Endpoint → List SubmitHead) (u : UnlinkHead) (b : RetUnlinkHead) (front : List Put) (ups : List up.Message) (downs : List Put) (s : State) → ((e : Endpoint) → AllHeads (λ x. x.seqnum ≡ u.target) (asked e))
    → downs ≡ front ++ Unlinked u b ∷ [] → Lines asked (u ∷ []) ups downs s → (e : Endpoint) → queue_of e s ≡ []
over_empty asked u b front ups downs s numbers is lines e =
    no_heads (queue_of e s) (sent_heads (sent_to e ups)) (dropped e u b front (asked e) _ (numbers e) (subst (λ (l : List Put). LeftBy (asked e) (events_of e l) (heads (queue_of e s) ++ sent_heads (sent_to e ups))) is (lines.submits e)))

-- ---- the race

-- what a ticket's own part of it is
pub record RaceLaws (Held : List up.Message → List Put → State → Type 0) (Gone : State → Type 0) (head : SubmitHead) (own : Endpoint) : Type 0 where
  pub number : head.ep ≡ number_of own
  pub keeps : Keeps Held (asked_of (Some head)) []
  -- the unlink finds the submit pending
  pub hits : (downs : List Put) (s : State) (e : Endpoint) (before : List Pending) (submit : Pending) (behind : List Pending) → Lines (asked_of (Some head)) [] [] downs s → Held [] downs s
      → queue_of e s ≡ before ++ submit ∷ behind → (events_of own downs ≡ []) × Gone (with_queue e (before ++ behind) s)
  -- or does not
  pub misses : (downs : List Put) (s : State) → Held [] downs s → Avoids head.seqnum (pending s) → (event : Event) × (events_of own downs ≡ event ∷ [])
  pub unpolled : (downs : List Put) (s : State) (before : List Pending) (submit : Pending) (behind : List Pending) → Lines (asked_of (Some head)) [] [] downs s → Held [] downs s → s.control ≡ before ++ submit ∷ behind → submit.polled ≡ true → ⊥
  -- then nothing of it is left
  pub gone_rests : (s : State) → Gone s → IsAt rests s
  pub gone_stays : (s t : State) (move : Move) (puts : List Put) → Steps s move puts t → Idled s t move puts → Gone s → Gone t
  pub held_rests : (answer : Put) (s : State) → ((e : Endpoint) → queue_of e s ≡ []) → Held [] (answer ∷ []) s → IsAt rests s
  pub held_stays : (answer : Put) (s t : State) (move : Move) (puts : List Put) → ((e : Endpoint) → queue_of e s ≡ []) → Steps s move puts t → Idled s t move puts → Held [] (answer ∷ []) s → Held [] (answer ∷ []) t

-- the unlink arrives
arrives : {Held : List up.Message → List Put → State → Type 0} {Gone : State → Type 0} {head : SubmitHead} {own : Endpoint} → (laws : TieLaws) → RaceLaws Held Gone head own → (u : UnlinkHead) (run : List Entry) (downs puts : List Put) (s t : State)
    → u.target ≡ head.seqnum → Runs start run s → Lines (asked_of (Some head)) [] [] downs s → AllAnswers IsFit downs → Held [] downs s → Unlinks s u puts t → Races Held Gone u [] (downs ++ puts) t
arrives {Held} {Gone} {head} {own} laws race u run downs puts s t names reached lines fits held (Hits e before submit behind line number fresh put to) =
    let hit = race.hits downs s e before submit behind lines held line in
    UnlinkHit refl (ap (λ (l : List Put). l ++ puts) (no_downs_at own head [] downs s race.number lines fits hit.0) ∙ put) (subst Gone (sym to) hit.1)
arrives {Held} {Gone} {head} {own} laws race u run downs puts s t names reached lines fits held (Polled e before submit behind setup tag line number polled asks row put to) =
    let control : e ≡ Control = (laws.ask.polled run s e before submit behind reached line polled).0 in
    absurd (race.unpolled downs s before submit behind lines held (subst (λ (d : Endpoint). queue_of d s ≡ before ++ submit ∷ behind) control line) polled)
arrives {Held} {Gone} {head} {own} laws race u run downs puts s t names reached lines fits held (Misses free put to) =
    let given = race.misses downs s held (subst (λ (n : ℕ). Avoids n (pending s)) names free) in
    let one = one_down own head given.0 [] downs s race.number lines fits given.1 in
    UnlinkMissed one.0 refl (ap (λ (l : List Put). l ++ puts) one.1 ∙ ap (λ (l : List Put). one.0 ∷ l) put)
    (subst (λ (x : State). Held [] (one.0 ∷ []) x) (sym to) (subst (λ (l : List Put). Held [] l s) one.1 held))

abbrev pub Fitted : (List up.Message → List Put → State → Type 0) → List up.Message → List Put → State → Type 0
Fitted Holds ups downs s = Holds ups downs s × AllAnswers IsFit downs

race_goes : {Held : List up.Message → List Put → State → Type 0} {Gone : State → Type 0} {head : SubmitHead} {own : Endpoint} → (laws : TieLaws) → RaceLaws Held Gone head own → (u : UnlinkHead) → u.target ≡ head.seqnum
    → (run : List Entry) (s t : State) (move : Move) (ups : List up.Message) (downs puts : List Put) → Runs start run s → Steps s move puts t → move ≢ Unplug → AllFitting (taken move ++ ups)
    → Lines (asked_of (Some head)) (u ∷ []) (taken move ++ ups) downs s → AllAnswers IsFit downs → Races Held Gone u (taken move ++ ups) downs s → Races Held Gone u ups (downs ++ puts) t
race_goes {Held} {Gone} {head} {own} laws race u names run s t move ups downs puts reached step plugged fit lines fits (UnlinkComes front is held) = by (ahead move ups front (up.Unlink u) is)
  where
    before : Lines (asked_of (Some head)) [] front downs s
    before = lines_front (asked_of (Some head)) u front downs s (subst (λ (l : List up.Message). Lines (asked_of (Some head)) (u ∷ []) l downs s) is lines)

    by : Ahead move ups front (up.Unlink u) → Races Held Gone u ups (downs ++ puts) t
    by (IsLast comes none alone) =
        subst (λ (l : List up.Message). Races Held Gone u l (downs ++ puts) t) (sym none)
        (arrives laws race u run downs puts s t names reached (subst (λ (l : List up.Message). Lines (asked_of (Some head)) [] l downs s) alone before) fits
        (subst (λ (l : List up.Message). Held l downs s) alone held) (subst (λ (m : Move). Steps s m puts t) comes step).leads.1)
    by (IsAhead later same rest) =
        let here = subst (λ (l : List up.Message). Lines (asked_of (Some head)) [] l downs s) same before in
        UnlinkComes later rest
        (race.keeps run s t move later downs puts reached step plugged
        (subst (λ (l : List up.Message). AllFitting l) same (fitting_front front u (subst (λ (l : List up.Message). AllFitting l) is fit)))
        (in_order (taken move ++ later) (no_unlink (unlinked_by downs) (unlinks_in (taken move ++ later)) here.unlinked).1) here
        (subst (λ (l : List up.Message). Held l downs s) same held))
race_goes {Held} {Gone} {head} {own} laws race u names run s t move ups downs puts reached step plugged fit lines fits (UnlinkHit none is gone) = by (one_taken move)
  where
    by : (taken move ≡ []) ⊎ ((message : up.Message) × (move ≡ Comes message)) → Races Held Gone u ups (downs ++ puts) t
    by (inr came) = let some : came.0 ∷ ups ≡ [] = ap (λ (m : Move). taken m ++ ups) (sym came.1) ∙ none in absurd (cc)
    by (inl takes) =
        let empty = over_empty (asked_of (Some head)) u (record { seqnum = u.seqnum; status = unlinked }) [] (taken move ++ ups) downs s (λ e. asked_numbers head u e names) is lines in
        let idle = idles s t move puts empty (race.gone_rests s gone) takes plugged step.leads in
        UnlinkHit (ap (λ (l : List up.Message). l ++ ups) (sym takes) ∙ none) (ap (λ (l : List Put). downs ++ l) idle.nothing ∙ append-nil downs ∙ is) (race.gone_stays s t move puts step idle gone)
race_goes {Held} {Gone} {head} {own} laws race u names run s t move ups downs puts reached step plugged fit lines fits (UnlinkMissed answer none is held) = by (one_taken move)
  where
    by : (taken move ≡ []) ⊎ ((message : up.Message) × (move ≡ Comes message)) → Races Held Gone u ups (downs ++ puts) t
    by (inr came) = let some : came.0 ∷ ups ≡ [] = ap (λ (m : Move). taken m ++ ups) (sym came.1) ∙ none in absurd (cc)
    by (inl takes) =
        let empty = over_empty (asked_of (Some head)) u (record { seqnum = u.seqnum; status = success }) (answer ∷ []) (taken move ++ ups) downs s (λ e. asked_numbers head u e names) is lines in
        let idle = idles s t move puts empty (race.held_rests answer s empty held) takes plugged step.leads in
        UnlinkMissed answer (ap (λ (l : List up.Message). l ++ ups) (sym takes) ∙ none) (ap (λ (l : List Put). downs ++ l) idle.nothing ∙ append-nil downs ∙ is) (race.held_stays answer s t move puts empty step idle held)

pub race_run : {Held : List up.Message → List Put → State → Type 0} {Gone : State → Type 0} {head : SubmitHead} {own : Endpoint} → (laws : TieLaws) → RaceLaws Held Gone head own → (u : UnlinkHead) → u.target ≡ head.seqnum
    → (run : List Entry) (next : ℕ) (ups : List up.Message) (downs : List Put) (s t : State) → Runs s run t → StaysPlugged run
    → Bond (λ ups downs s. Races Held Gone u ups downs s) (asked_of (Some head)) (u ∷ []) next (inputs run ++ ups) downs s → Bond (λ ups downs s. Races Held Gone u ups downs s) (asked_of (Some head)) (u ∷ []) next ups (downs ++ outputs run) t
race_run {Held} {Gone} {head} {own} laws race u names run next ups downs s t goes plugged bond =
    let R : List up.Message → List Put → State → Type 0 = λ ups downs s. Races Held Gone u ups downs s in
    let go = bond_run laws (Fitted R) (asked_of (Some head)) (u ∷ [])
    (λ before x y move more had puts reached step stays fit order lines h.
    (race_goes laws race u names before x y move more had puts reached step stays fit lines h.1 h.0, fits_step laws before x y move more had puts reached step fit h.1))
    run next ups downs s t goes plugged (bond_as R (Fitted R) (asked_of (Some head)) (u ∷ []) next (inputs run ++ ups) downs s bond (bond.held, bond.fits)) in
    bond_as (Fitted R) R (asked_of (Some head)) (u ∷ []) next ups (downs ++ outputs run) t go go.held.0

-- ---- the submit is answered before its unlink

pub record LateLaws (Over : State → Type 0) : Type 0 where
  pub rests_at : (s : State) → Over s → IsAt rests s
  pub stays : (s t : State) (move : Move) (puts : List Put) → Steps s move puts t → Idled s t move puts → Over s → Over t

pub some_pending : {B : Type 0} (before : List Pending) (submit : Pending) (behind queue : List Pending) → queue ≡ [] → queue ≡ before ++ submit ∷ behind → B
some_pending [] submit behind queue none some = let e : [] ≡ submit ∷ behind = sym none ∙ some in absurd (cc)
some_pending (x ∷ before) submit behind queue none some = let e : [] ≡ x ∷ (before ++ submit ∷ behind) = sym none ∙ some in absurd (cc)

late_arrives : (Over : State → Type 0) (u : UnlinkHead) (downs puts : List Put) (s t : State) → ((e : Endpoint) → queue_of e s ≡ []) → downs ≡ [] → Over s → Unlinks s u puts t → Late Over u [] (downs ++ puts) t
late_arrives Over u downs puts s t empty none over (Hits e before submit behind line number fresh put to) = some_pending before submit behind (queue_of e s) (empty e) line
late_arrives Over u downs puts s t empty none over (Polled e before submit behind setup tag line number polled asks row put to) = some_pending before submit behind (queue_of e s) (empty e) line
late_arrives Over u downs puts s t empty none over (Misses free put to) = LateMissed refl (ap (λ (l : List Put). l ++ puts) none ∙ put) (subst Over (sym to) over)

late_keeps : (Over : State → Type 0) → LateLaws Over → (u : UnlinkHead) → Keeps (λ ups downs s. Late Over u ups downs s) (asked_of None) (u ∷ [])
late_keeps Over laws u run s t move ups downs puts reached step plugged fit order lines (LateComes is none over) = by (ahead move ups [] (up.Unlink u) is)
  where
    empty : (e : Endpoint) → queue_of e s ≡ []
    empty e = (all_answered (asked_of None) e [] downs s (lines_front (asked_of None) u [] downs s (subst (λ (l : List up.Message). Lines (asked_of None) (u ∷ []) l downs s) is lines)) refl).queue

    by : Ahead move ups [] (up.Unlink u) → Late Over u ups (downs ++ puts) t
    by (IsLast comes nothing alone) =
        subst (λ (l : List up.Message). Late Over u l (downs ++ puts) t) (sym nothing) (late_arrives Over u downs puts s t empty none over (subst (λ (m : Move). Steps s m puts t) comes step).leads.1)
    by (IsAhead later same rest) =
        let takes : taken move ≡ [] = front_none (taken move) later (sym same) in
        let more : later ≡ [] = behind_none (taken move) later (sym same) in
        let idle = idles s t move puts empty (laws.rests_at s over) takes plugged step.leads in
        LateComes (rest ∙ ap (λ (l : List up.Message). l ++ up.Unlink u ∷ []) more) (ap (λ (l : List Put). downs ++ l) idle.nothing ∙ append-nil downs ∙ none) (laws.stays s t move puts step idle over)
      where
        front_none : (a b : List up.Message) → a ++ b ≡ [] → a ≡ []
        front_none [] b e = refl
        front_none (x ∷ a) b e = absurd (cc)

        behind_none : (a b : List up.Message) → a ++ b ≡ [] → b ≡ []
        behind_none [] b e = e
        behind_none (x ∷ a) b e = absurd (cc)
late_keeps Over laws u run s t move ups downs puts reached step plugged fit order lines (LateMissed none is over) = by (one_taken move)
  where
    by : (taken move ≡ []) ⊎ ((message : up.Message) × (move ≡ Comes message)) → Late Over u ups (downs ++ puts) t
    by (inr came) = let some : came.0 ∷ ups ≡ [] = ap (λ (m : Move). taken m ++ ups) (sym came.1) ∙ none in absurd (cc)
    by (inl takes) =
        let empty = over_empty (asked_of None) u (record { seqnum = u.seqnum; status = success }) [] (taken move ++ ups) downs s (λ e. tt) is lines in
        let idle = idles s t move puts empty (laws.rests_at s over) takes plugged step.leads in
        LateMissed (ap (λ (l : List up.Message). l ++ ups) (sym takes) ∙ none) (ap (λ (l : List Put). downs ++ l) idle.nothing ∙ append-nil downs ∙ is) (laws.stays s t move puts step idle over)

pub late_run : (laws : TieLaws) (Over : State → Type 0) → LateLaws Over → (u : UnlinkHead) (run : List Entry) (next : ℕ) (ups : List up.Message) (downs : List Put) (s t : State) → Runs s run t → StaysPlugged run
    → Bond (λ ups downs s. Late Over u ups downs s) (asked_of None) (u ∷ []) next (inputs run ++ ups) downs s → Bond (λ ups downs s. Late Over u ups downs s) (asked_of None) (u ∷ []) next ups (downs ++ outputs run) t
late_run laws Over late u run next ups downs s t goes plugged bond = bond_run laws (λ ups downs s. Late Over u ups downs s) (asked_of None) (u ∷ []) (late_keeps Over late u) run next ups downs s t goes plugged bond

-- ---- the unlink is written

pub bond_unlinked : (Holds More : List up.Message → List Put → State → Type 0) (waits : Option SubmitHead) (u : UnlinkHead) (next : ℕ) (ups : List up.Message) (downs : List Put) (s : State) → Bond Holds (asked_of waits) [] next ups downs s
    → More (ups ++ up.Unlink u ∷ []) downs s → Bond More (asked_of waits) (u ∷ []) (next + 1) (ups ++ up.Unlink u ∷ []) downs s
bond_unlinked Holds More waits u next ups downs s bond held = record {
  run = bond.run;
  reached = bond.reached;
  lines = unlink_written (asked_of waits) [] ups downs s u bond.lines;
  fitting = fitting_more ups u bond.fitting;
  order = order_more ups u (no_unlink (unlinked_by downs) (unlinks_in ups) bond.lines.unlinked).1;
  fits = bond.fits;
  rises = subst (λ (l : List ℕ). Rises l) (sym (numbers_same ups u s)) bond.rises;
  below = subst (λ (l : List ℕ). AllBelow (next + 1) l) (sym (numbers_same ups u s)) (below_next next (numbers s ups) bond.below);
  held = held;
}

-- ---- the answers

-- the answer to the submit is one that holds of the two without the unlink
pub race_held : {Held : List up.Message → List Put → State → Type 0} {Gone : State → Type 0} → (head : SubmitHead) (own : Endpoint) (u : UnlinkHead) (a : RetSubmitHead) (transferred : List ℕ) (next : ℕ) (ups : List up.Message) (downs : List Put) (s : State)
    → Bond (λ ups downs s. Races Held Gone u ups downs s) (asked_of (Some head)) (u ∷ []) next ups (Submitted head a transferred ∷ downs) s
    → (front : List up.Message) × (rest : List Put) × Held front (Submitted head a transferred ∷ rest) s
race_held {Held} {Gone} head own u a transferred next ups downs s bond = by bond.held
  where
    by : Races Held Gone u ups (Submitted head a transferred ∷ downs) s → (front : List up.Message) × (rest : List Put) × Held front (Submitted head a transferred ∷ rest) s
    by (UnlinkComes front is held) = (front, downs, held)
    by (UnlinkHit none is gone) = absurd (cc)
    by (UnlinkMissed answer none is held) = ([], [], subst (λ (p : Put). Held [] (p ∷ []) s) (let h : answer ≡ Submitted head a transferred = cc in h) held)

pub race_answered : {Held : List up.Message → List Put → State → Type 0} {Gone Over : State → Type 0} → (head : SubmitHead) (u : UnlinkHead) (a : RetSubmitHead) (transferred : List ℕ) (next : ℕ) (ups : List up.Message) (downs : List Put) (s : State) → Over s
    → Bond (λ ups downs s. Races Held Gone u ups downs s) (asked_of (Some head)) (u ∷ []) next ups (Submitted head a transferred ∷ downs) s
    → Bond (λ ups downs s. Late Over u ups downs s) (asked_of None) (u ∷ []) next ups downs s
race_answered {Held} {Gone} {Over} head u a transferred next ups downs s over bond = after _ (λ ups downs s. Late Over u ups downs s) head a transferred (u ∷ []) next ups downs s bond (by bond.held)
  where
    by : Races Held Gone u ups (Submitted head a transferred ∷ downs) s → Late Over u ups downs s
    by (UnlinkComes front is held) =
        let lines = lines_after head a transferred [] front downs s bond.fits.0.0
        (lines_front (asked_of (Some head)) u front (Submitted head a transferred ∷ downs) s (subst (λ (l : List up.Message). Lines (asked_of (Some head)) (u ∷ []) l (Submitted head a transferred ∷ downs) s) is bond.lines)) in
        let free = no_unlink (unlinked_by downs) (unlinks_in front) lines.unlinked in
        let fit = fitting_front front u (subst (λ (l : List up.Message). AllFitting l) is bond.fitting) in
        LateComes (is ∙ ap (λ (l : List up.Message). l ++ up.Unlink u ∷ []) (no_ups front fit free.1 (λ e. (all_answered (asked_of None) e front downs s lines refl).sent)))
        (none_down downs bond.fits.1 (λ e. (all_answered (asked_of None) e front downs s lines refl).events) free.0) over
    by (UnlinkHit none is gone) = absurd (cc)
    by (UnlinkMissed answer none is held) = LateMissed none (cc) over

-- the answer to the unlink comes first: it hit
pub race_hit : {Held : List up.Message → List Put → State → Type 0} {Gone : State → Type 0} {head : SubmitHead} {own : Endpoint} → RaceLaws Held Gone head own → (u : UnlinkHead) (asked : UnlinkHead) (a : RetUnlinkHead) (next : ℕ) (ups : List up.Message) (downs : List Put) (s : State)
    → u.target ≡ head.seqnum → Bond (λ ups downs s. Races Held Gone u ups downs s) (asked_of (Some head)) (u ∷ []) next ups (Unlinked asked a ∷ downs) s
    → (a ≡ record { seqnum = u.seqnum; status = unlinked }) × Gone s × Bound (Stands Resting) None [] next ups downs s
race_hit {Held} {Gone} {head} {own} race u asked a next ups downs s names bond = by bond.held
  where
    by : Races Held Gone u ups (Unlinked asked a ∷ downs) s → (a ≡ record { seqnum = u.seqnum; status = unlinked }) × Gone s × Bound (Stands Resting) None [] next ups downs s
    by (UnlinkComes front is held) =
        let lines = lines_front (asked_of (Some head)) u front (Unlinked asked a ∷ downs) s (subst (λ (l : List up.Message). Lines (asked_of (Some head)) (u ∷ []) l (Unlinked asked a ∷ downs) s) is bond.lines) in
        let none = lines.unlinked in absurd (cc)
    by (UnlinkHit none is gone) =
        (cc, gone, record { bond = (unlinked_bond _ (λ ups downs s. IsAt rests s) (Some head) u asked a next ups downs s names bond (race.gone_rests s gone)).1; awaited = (refl, refl) })
    by (UnlinkMissed answer none is held) =
        let behind : downs ≡ unlink_answer u success ∷ [] = cc in
        let twice : u ∷ [] ≡ asked ∷ (u ∷ unlinks_in ups) = subst (λ (l : List Put). u ∷ [] ≡ asked ∷ (unlinked_by l ++ unlinks_in ups)) behind bond.lines.unlinked in absurd (cc)

-- the submit was answered before: it missed
pub late_missed : {Over : State → Type 0} → LateLaws Over → (u : UnlinkHead) (asked : UnlinkHead) (a : RetUnlinkHead) (next : ℕ) (ups : List up.Message) (downs : List Put) (s : State)
    → Bond (λ ups downs s. Late Over u ups downs s) (asked_of None) (u ∷ []) next ups (Unlinked asked a ∷ downs) s
    → (a ≡ record { seqnum = u.seqnum; status = success }) × Over s × Bound (Stands Resting) None [] next ups downs s
late_missed {Over} late u asked a next ups downs s bond = by bond.held
  where
    by : Late Over u ups (Unlinked asked a ∷ downs) s → (a ≡ record { seqnum = u.seqnum; status = success }) × Over s × Bound (Stands Resting) None [] next ups downs s
    by (LateComes is none over) = absurd (cc)
    by (LateMissed none is over) =
        (cc, over, record { bond = (unlinked_bond _ (λ ups downs s. IsAt rests s) None u asked a next ups downs s tt bond (late.rests_at s over)).1; awaited = (refl, refl) })
