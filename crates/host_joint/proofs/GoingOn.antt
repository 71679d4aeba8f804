-- a cancelled ask goes on behind its answers
use Rattle.std.proofs.Common.{◌≡◌, ◌≢◌, ◌∙◌, ◌⊎◌, inl, inr, ℕ, ◌<◌, Bool, true, false, cond, eqb, List, [], ◌∷◌, ◌++◌, refl, ap, sym, subst, append_assoc, append-nil}
use Rattle.std.proofs.lemmas.Bool.{eq-eqb}
use Rattle.usbip_wire.specs.declared.submit.SubmitHead.{SubmitHead}
use Rattle.usbip_wire.specs.declared.unlink.UnlinkHead.{UnlinkHead}
use Rattle.usbip_wire.specs.Up as up
use Rattle.tmc_law.specs.Endpoint.{Endpoint, number_of}
use Rattle.tmc_law.specs.State.{State}
use Rattle.tmc_law.specs.Put.{Put}
use Rattle.host_joint.specs.Lines.{Lines, Sent, sent_to, sent_heads, unlinks_in, without, NoneNumbered, InOrder}
use Rattle.host_joint.specs.Unlinking.{AllHeads, Rising, IsNamed, IsBulk, Unlinking}
use Rattle.host_joint.specs.Hosted.{unlinks_of}
use Rattle.host_joint.proofs.Queues.{Apart, which}

clash : {B : Type 0} → false ≡ true → B
clash h = absurd (cc)

apart_of : (d e : Endpoint) → Apart d e → e ≢ d
apart_of d e apart same = clash (sym apart.number ∙ eq-eqb (number_of d) (number_of e) (ap number_of (sym same)))

-- ---- a submit is answered

-- with one submit fewer the unlinks are in order as before
pub order_left : (asked left : Endpoint → List SubmitHead) (unlinks : List UnlinkHead) (e : Endpoint) (head : SubmitHead) (rest : List SubmitHead) → asked e ≡ head ∷ rest → left e ≡ rest
    → ((other : Endpoint) → other ≢ e → left other ≡ asked other) → Unlinking asked unlinks → Unlinking left unlinks
order_left asked left unlinks e head rest first shorter kept order = record {
  rising = λ d. rises d (which e d);
  falling = order.falling;
  named = λ d bulk. names d bulk (which e d);
}
  where
    rises : (d : Endpoint) → (e ≡ d) ⊎ Apart e d → Rising (left d)
    rises d (inl same) =
        subst (λ (x : Endpoint). Rising (left x)) same
        (subst (λ (l : List SubmitHead). Rising l) (sym shorter) (subst (λ (l : List SubmitHead). Rising l) first (order.rising e)).1)
    rises d (inr apart) = subst (λ (l : List SubmitHead). Rising l) (sym (kept d (apart_of e d apart))) (order.rising d)

    names : (d : Endpoint) → IsBulk d → (e ≡ d) ⊎ Apart e d → AllHeads (λ x. IsNamed unlinks x.seqnum) (left d)
    names d bulk (inl same) =
        subst (λ (x : Endpoint). AllHeads (λ y. IsNamed unlinks y.seqnum) (left x)) same
        (subst (λ (l : List SubmitHead). AllHeads (λ y. IsNamed unlinks y.seqnum) l) (sym shorter)
        (subst (λ (l : List SubmitHead). AllHeads (λ y. IsNamed unlinks y.seqnum) l) first (order.named e (subst IsBulk (sym same) bulk))).1)
    names d bulk (inr apart) =
        subst (λ (l : List SubmitHead). AllHeads (λ y. IsNamed unlinks y.seqnum) l) (sym (kept d (apart_of e d apart))) (order.named d bulk)

-- ---- an unlink is answered

all_without : (P : SubmitHead → Type 0) (n : ℕ) (l : List SubmitHead) → AllHeads P l → AllHeads P (without n l)
all_without P n [] h = tt
all_without P n (x ∷ l) h = by (eqb x.seqnum n) (all_without P n l h.1)
  where
    by : (b : Bool) → AllHeads P (without n l) → AllHeads P (cond b (without n l) (x ∷ without n l))
    by true k = k
    by false k = (h.0, k)

rising_without : (n : ℕ) (l : List SubmitHead) → Rising l → Rising (without n l)
rising_without n [] h = tt
rising_without n (x ∷ l) h = by (eqb x.seqnum n) (rising_without n l h.1)
  where
    by : (b : Bool) → Rising (without n l) → Rising (cond b (without n l) (x ∷ without n l))
    by true k = k
    by false k = (all_without (λ other. x.seqnum < other.seqnum) n l h.0, k)

-- the submits that are left are named by the unlinks that are left
still_named : (head : UnlinkHead) (rest : List UnlinkHead) (l : List SubmitHead) → AllHeads (λ x. IsNamed (head ∷ rest) x.seqnum) l → AllHeads (λ x. IsNamed rest x.seqnum) (without head.target l)
still_named head rest [] h = tt
still_named head rest (x ∷ l) h = by (eqb x.seqnum head.target) refl h.0 (still_named head rest l h.1)
  where
    by : (b : Bool) → eqb x.seqnum head.target ≡ b → IsNamed (head ∷ rest) x.seqnum → AllHeads (λ y. IsNamed rest y.seqnum) (without head.target l)
        → AllHeads (λ y. IsNamed rest y.seqnum) (cond b (without head.target l) (x ∷ without head.target l))
    by true is named k = k
    by false is (inl same) k = clash (sym is ∙ eq-eqb x.seqnum head.target (sym same))
    by false is (inr named) k = (named, k)

pub order_unlinked : (asked : Endpoint → List SubmitHead) (head : UnlinkHead) (rest : List UnlinkHead) → Unlinking asked (head ∷ rest) → Unlinking (λ e. without head.target (asked e)) rest
order_unlinked asked head rest order = record {
  rising = λ e. rising_without head.target (asked e) (order.rising e);
  falling = order.falling.1;
  named = λ e bulk. still_named head rest (asked e) (order.named e bulk);
}

-- ---- the unlinks are written

pub lines_unlinked : (laws : (asked : Endpoint → List SubmitHead) (unlinks : List UnlinkHead) (ups : List up.Message) (downs : List Put) (s : State) (head : UnlinkHead)
    → Lines asked unlinks ups downs s → Lines asked (unlinks ++ head ∷ []) (ups ++ up.Unlink head ∷ []) downs s)
    → (asked : Endpoint → List SubmitHead) (unlinks heads : List UnlinkHead) (ups : List up.Message) (downs : List Put) (s : State)
    → Lines asked unlinks ups downs s → Lines asked (unlinks ++ heads) (ups ++ unlinks_of heads) downs s
lines_unlinked laws asked unlinks [] ups downs s lines =
    subst (λ (l : List UnlinkHead). Lines asked l (ups ++ []) downs s) (sym (append-nil unlinks)) (subst (λ (l : List up.Message). Lines asked unlinks l downs s) (sym (append-nil ups)) lines)
lines_unlinked laws asked unlinks (head ∷ heads) ups downs s lines =
    subst (λ (l : List UnlinkHead). Lines asked l (ups ++ (up.Unlink head ∷ unlinks_of heads)) downs s) (append_assoc unlinks (head ∷ []) heads)
    (subst (λ (l : List up.Message). Lines asked ((unlinks ++ head ∷ []) ++ heads) l downs s) (append_assoc ups (up.Unlink head ∷ []) (unlinks_of heads))
    (lines_unlinked laws asked (unlinks ++ head ∷ []) heads (ups ++ up.Unlink head ∷ []) downs s (laws asked unlinks ups downs s head lines)))

none_sent : (e : Endpoint) (heads : List UnlinkHead) → sent_to e (unlinks_of heads) ≡ []
none_sent e [] = refl
none_sent e (head ∷ heads) = none_sent e heads

unlinks_in_order : (heads : List UnlinkHead) → InOrder (unlinks_of heads)
unlinks_in_order [] = tt
unlinks_in_order (head ∷ heads) = ((λ e. subst (λ (l : List Sent). NoneNumbered head.target (sent_heads l)) (sym (none_sent e heads)) tt), unlinks_in_order heads)

pub order_written : (ups : List up.Message) (heads : List UnlinkHead) → unlinks_in ups ≡ [] → InOrder (ups ++ unlinks_of heads)
order_written [] heads none = unlinks_in_order heads
order_written (up.Submit head transferred ∷ ups) heads none = order_written ups heads none
order_written (up.Unlink head ∷ ups) heads none = absurd (cc)

-- ---- all were answered

pub none_named : (l : List SubmitHead) → AllHeads (λ x. IsNamed [] x.seqnum) l → l ≡ []
none_named [] h = refl
none_named (x ∷ l) h = absurd h.0
