-- unlinks in falling order hit the last submit of a queue
use Rattle.std.proofs.Common.{◌≡◌, ◌∙◌, ◌⊎◌, inl, inr, ℕ, ◌<◌, ◌≤◌, Bool, true, false, cond, eqb, List, [], ◌∷◌, ◌++◌, refl, ap, sym, subst, append_assoc, arith}
use Rattle.usbip_wire.specs.declared.submit.SubmitHead.{SubmitHead}
use Rattle.usbip_wire.specs.declared.unlink.UnlinkHead.{UnlinkHead}
use Rattle.usbip_wire.specs.Up as up
use Rattle.tmc_law.specs.Endpoint.{Endpoint, number_of}
use Rattle.tmc_law.specs.State.{State, Pending, queue_of}
use Rattle.tmc_law.specs.Put.{Put, Submitted, Unlinked}
use Rattle.std.proofs.lemmas.Bool.{eq-eqb}
use Rattle.host_joint.specs.Lines.{Sent, sent_to, sent_heads, heads, Event, Gives, Drops, events_of, without, LeftBy, NoneNumbered, Lines, unlinks_in, unlinked_by}
use Rattle.host_joint.specs.Unlinking.{AllHeads, Rising, AllUnlinks, Falling, IsNamed, Unlinking}
use Rattle.host_joint.specs.Asking.{HitsLast}
use Rattle.host_joint.proofs.Flows.{heads-append}

-- ---- what is left of a list

all_without : (P : SubmitHead → Type 0) (n : ℕ) (l : List SubmitHead) → AllHeads P l → AllHeads P (without n l)
all_without P n [] h = tt
all_without P n (x ∷ l) h = by (eqb x.seqnum n) (all_without P n l h.1)
  where
    by : (b : Bool) → AllHeads P (without n l) → AllHeads P (cond b (without n l) (x ∷ without n l))
    by true k = k
    by false k = (h.0, k)

rising_without : (n : ℕ) (l : List SubmitHead) → Rising l → Rising (without n l)
rising_without n [] h = tt
rising_without n (x ∷ l) h = by (eqb x.seqnum n) (rising_without n l h.1)
  where
    by : (b : Bool) → Rising (without n l) → Rising (cond b (without n l) (x ∷ without n l))
    by true k = k
    by false k = (all_without (λ other. x.seqnum < other.seqnum) n l h.0, k)

none_without : (n : ℕ) (l : List SubmitHead) → NoneNumbered n (without n l)
none_without n [] = tt
none_without n (x ∷ l) = by (eqb x.seqnum n) refl (none_without n l)
  where
    by : (b : Bool) → eqb x.seqnum n ≡ b → NoneNumbered n (without n l) → NoneNumbered n (cond b (without n l) (x ∷ without n l))
    by true e k = k
    by false e k = ((λ same. clash (sym e ∙ eq-eqb x.seqnum n same)), k)
      where
        clash : false ≡ true → ⊥
        clash h = cc

none_of : (n m : ℕ) (l : List SubmitHead) → NoneNumbered n l → NoneNumbered n (without m l)
none_of n m [] h = tt
none_of n m (x ∷ l) h = by (eqb x.seqnum m) (none_of n m l h.1)
  where
    by : (b : Bool) → NoneNumbered n (without m l) → NoneNumbered n (cond b (without m l) (x ∷ without m l))
    by true k = k
    by false k = (h.0, k)

pub left_all : (P : SubmitHead → Type 0) (asked left : List SubmitHead) (events : List Event) → LeftBy asked events left → AllHeads P asked → AllHeads P left
left_all P asked left [] h all = subst (λ (l : List SubmitHead). AllHeads P l) (sym h) all
left_all P asked left (Gives head answer transferred ∷ events) h all = left_all P h.0 left events h.2 (subst (λ (l : List SubmitHead). AllHeads P l) h.1 all).1
left_all P asked left (Drops n ∷ events) h all = left_all P (without n asked) left events h (all_without P n asked all)

pub left_rising : (asked left : List SubmitHead) (events : List Event) → LeftBy asked events left → Rising asked → Rising left
left_rising asked left [] h rising = subst (λ (l : List SubmitHead). Rising l) (sym h) rising
left_rising asked left (Gives head answer transferred ∷ events) h rising = left_rising h.0 left events h.2 (subst (λ (l : List SubmitHead). Rising l) h.1 rising).1
left_rising asked left (Drops n ∷ events) h rising = left_rising (without n asked) left events h (rising_without n asked rising)

pub left_none : (n : ℕ) (asked left : List SubmitHead) (events : List Event) → LeftBy asked events left → NoneNumbered n asked → NoneNumbered n left
left_none n asked left [] h none = subst (λ (l : List SubmitHead). NoneNumbered n l) (sym h) none
left_none n asked left (Gives head answer transferred ∷ events) h none = left_none n h.0 left events h.2 (subst (λ (l : List SubmitHead). NoneNumbered n l) h.1 none).1
left_none n asked left (Drops m ∷ events) h none = left_none n (without m asked) left events h (none_of n m asked none)

-- a submit whose unlink was answered is not left
unlinked_none : (e : Endpoint) (n : ℕ) (downs : List Put) (asked left : List SubmitHead) → LeftBy asked (events_of e downs) left → IsNamed (unlinked_by downs) n → NoneNumbered n left
unlinked_none e n [] asked left h named = absurd named
unlinked_none e n (Submitted head answer transferred ∷ downs) asked left h named = by (λ l k. unlinked_none e n downs l left k named) (eqb head.ep (number_of e)) h
  where
    by : ((l : List SubmitHead) → LeftBy l (events_of e downs) left → NoneNumbered n left) → (b : Bool)
        → LeftBy asked (cond b (Gives head answer transferred ∷ events_of e downs) (events_of e downs)) left → NoneNumbered n left
    by go true k = go k.0 k.2
    by go false k = go asked k
unlinked_none e n (Unlinked head answer ∷ downs) asked left h (inl is) =
    left_none n (without head.target asked) left (events_of e downs) h (subst (λ (k : ℕ). NoneNumbered k (without head.target asked)) is (none_without head.target asked))
unlinked_none e n (Unlinked head answer ∷ downs) asked left h (inr named) = unlinked_none e n downs (without head.target asked) left h named

-- ---- falling targets

named-apart : (n : ℕ) (a b : List UnlinkHead) → IsNamed (a ++ b) n → IsNamed a n ⊎ IsNamed b n
named-apart n [] b h = inr h
named-apart n (x ∷ a) b (inl is) = inl (inl is)
named-apart n (x ∷ a) b (inr h) = by (named-apart n a b h)
  where
    by : IsNamed a n ⊎ IsNamed b n → IsNamed (x ∷ a) n ⊎ IsNamed b n
    by (inl k) = inl (inr k)
    by (inr k) = inr k

falling-behind : (a b : List UnlinkHead) → Falling (a ++ b) → Falling b
falling-behind [] b h = h
falling-behind (x ∷ a) b h = falling-behind a b h.1

below : (m n : ℕ) (others : List UnlinkHead) → AllUnlinks (λ other. other.target < m) others → IsNamed others n → n < m
below m n [] h named = absurd named
below m n (x ∷ others) h (inl is) = omega (arith, h.0, is)
below m n (x ∷ others) h (inr named) = below m n others h.1 named

at_most : (n : ℕ) (head : UnlinkHead) (others : List UnlinkHead) → Falling (head ∷ others) → IsNamed (head ∷ others) n → n ≤ head.target
at_most n head others h (inl is) = omega (arith, is)
at_most n head others h (inr named) = omega (arith, below head.target n others h.0 named)

none_own : (x : SubmitHead) (l : List SubmitHead) → NoneNumbered x.seqnum (x ∷ l) → ⊥
none_own x l h = h.0 refl

-- each submit of these is named by an unlink that comes yet
still_named : (first others : List UnlinkHead) (l : List SubmitHead) → ((n : ℕ) → IsNamed first n → NoneNumbered n l) → AllHeads (λ head. IsNamed (first ++ others) head.seqnum) l
    → AllHeads (λ head. IsNamed others head.seqnum) l
still_named first others [] none h = tt
still_named first others (x ∷ l) none h = (by (named-apart x.seqnum first others h.0), still_named first others l (λ n named. (none n named).1) h.1)
  where
    by : IsNamed first x.seqnum ⊎ IsNamed others x.seqnum → IsNamed others x.seqnum
    by (inl named) = absurd (none_own x l (none x.seqnum named))
    by (inr named) = named

all_most : (head : UnlinkHead) (others : List UnlinkHead) (l : List SubmitHead) → Falling (head ∷ others) → AllHeads (λ x. IsNamed (head ∷ others) x.seqnum) l → AllHeads (λ x. x.seqnum ≤ head.target) l
all_most head others [] falling h = tt
all_most head others (x ∷ l) falling h = (at_most x.seqnum head others falling h.0, all_most head others l falling h.1)

-- ---- the greatest number is the last

nothing_behind : (n : ℕ) (before : List SubmitHead) (x : SubmitHead) (behind : List SubmitHead) → Rising (before ++ x ∷ behind) → AllHeads (λ y. y.seqnum ≤ n) (before ++ x ∷ behind) → x.seqnum ≡ n → behind ≡ []
nothing_behind n [] x [] rising most is = refl
nothing_behind n [] x (y ∷ behind) rising most is = absurd (omega (arith, rising.0.0, most.1.0, is))
nothing_behind n (z ∷ before) x behind rising most is = nothing_behind n before x behind rising.1 most.1 is

no_heads : (l : List Pending) → heads l ≡ [] → l ≡ []
no_heads [] e = refl
no_heads (x ∷ l) e = absurd (cc)

no_sent_heads : (l : List Sent) → sent_heads l ≡ [] → l ≡ []
no_sent_heads [] e = refl
no_sent_heads (x ∷ l) e = absurd (cc)

none_front : (a b : List SubmitHead) → a ++ b ≡ [] → (a ≡ []) × (b ≡ [])
none_front [] b e = (refl, e)
none_front (x ∷ a) b e = absurd (cc)

pub hits_last : (asked : Endpoint → List SubmitHead) (unlinks : List UnlinkHead) (head : UnlinkHead) (ups : List up.Message) (downs : List Put) (s : State) → Unlinking asked unlinks
    → Lines asked unlinks (up.Unlink head ∷ ups) downs s → HitsLast head ups s
hits_last asked unlinks head ups downs s order lines e before submit behind bulk line target =
    let left : List SubmitHead = heads (queue_of e s) ++ sent_heads (sent_to e ups) in
    let falling : Falling (head ∷ unlinks_in ups) = falling-behind (unlinked_by downs) (head ∷ unlinks_in ups) (subst (λ (l : List UnlinkHead). Falling l) lines.unlinked order.falling) in
    let named : AllHeads (λ x. IsNamed (head ∷ unlinks_in ups) x.seqnum) left =
    still_named (unlinked_by downs) (head ∷ unlinks_in ups) left (λ n is. unlinked_none e n downs (asked e) left (lines.submits e) is)
    (left_all (λ x. IsNamed (unlinked_by downs ++ head ∷ unlinks_in ups) x.seqnum) (asked e) left (events_of e downs) (lines.submits e)
    (subst (λ (l : List UnlinkHead). AllHeads (λ x. IsNamed l x.seqnum) (asked e)) lines.unlinked (order.named e bulk))) in
    let same : left ≡ heads before ++ submit.head ∷ (heads behind ++ sent_heads (sent_to e ups)) =
    ap (λ (q : List Pending). heads q ++ sent_heads (sent_to e ups)) line ∙ ap (λ (l : List SubmitHead). l ++ sent_heads (sent_to e ups)) (heads-append before (submit ∷ behind))
    ∙ append_assoc (heads before) (submit.head ∷ heads behind) (sent_heads (sent_to e ups)) in
    let none = none_front (heads behind) (sent_heads (sent_to e ups)) (nothing_behind head.target (heads before) submit.head (heads behind ++ sent_heads (sent_to e ups))
    (subst (λ (l : List SubmitHead). Rising l) same (left_rising (asked e) left (events_of e downs) (lines.submits e) (order.rising e)))
    (subst (λ (l : List SubmitHead). AllHeads (λ x. x.seqnum ≤ head.target) l) same (all_most head (unlinks_in ups) left falling named)) target) in
    (no_heads behind none.0, no_sent_heads (sent_to e ups) none.1)
