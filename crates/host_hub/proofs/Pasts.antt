-- what holds of lawful pasts
use Rattle.std.proofs.Common.{◌≡◌, ◌⊎◌, ℕ, ◌+◌, ◌<◌, ◌≤◌, ◌||◌, Bool, true, false, List, [], ◌∷◌, ◌++◌, Option, Some, None, inl, inr, refl, sym, subst, ◌∙◌, ap, arith}
use Rattle.std.specs.Prelude.{◌==◌, if◌then◌else◌, is_some}
use Rattle.std.proofs.lemmas.Bool.{eqb-true, eq-eqb}
use Rattle.usbip_wire.specs.Down as down
use Rattle.host_hub.specs.declared.outcome.Outcome.{Outcome}
use Rattle.host_hub.specs.declared.outcome.End.{End}
use Rattle.host_hub.specs.Order.{Class, ClearHalt, Listen, Order, Part, Read, Request, Setting, Trigger, Unlink}
use Rattle.host_hub.specs.Record.{Asked, Cancelled, Cleared, Fell, GaveUp, Happening, Of, Past, Recovers, Settled, Stopped, Took, Wrote}
use Rattle.host_hub.specs.Book.{active, asking_of, asks, first_of, has, is_active, live, or_else, or_live, outcome_of, remove, settled, settled_by, tickets}
use Rattle.host_hub.specs.Hand.{ended, ended_by, in_hand, is_begun, is_of}
use Rattle.host_hub.specs.Outstanding.{Sent, involved, less, less_unlink, others, outstanding, without_named}
use Rattle.host_hub.specs.Status.{awaits, is_status}
use Rattle.host_hub.specs.Made.{made_at}
use Rattle.host_hub.specs.Causes.{AreCaused, SettleLaw, cause, causes, ends_as, once_free, reached, stops}
use Rattle.host_hub.specs.Law.{Allowed, Kept, Lawful, WriteLaw}
use Rattle.host_hub.proofs.Lists.{and_false, clash, differ, first_added, first_has, first_removed, has_added, has_back, has_front, has_other, has_removed, neither, none_both, none_right, or_cases, or_left, same}

-- a live ticket was asked
pub live_known : (s : Setting) (past : Past) → Lawful s past → (u : ℕ) → has u (live past) ≡ true → u ≤ tickets past
live_known s [] h u lives = clash lives
live_known s (Settled t o ∷ past) h u lives = omega (arith, live_known s past h.0 u (has_removed u t (live past) lives).0)
live_known s (Asked t a ∷ past) h u lives = step (live_known s past h.0 u) (has_added u t (live past) lives)
  where
    step : (has u (live past) ≡ true → u ≤ tickets past) → (has u (live past) ≡ true) ⊎ (t ≡ u) → u ≤ tickets past + 1
    step before (inl e) = omega (arith, before e)
    step before (inr e) = omega (arith, h.1.1, e)
live_known s (x ∷ past) h u lives = omega (arith, live_known s past h.0 u lives)

-- what is written for a ticket is written for the active one, or for one that had begun
pub hand_begun : (t : ℕ) (past : Past) → in_hand past ≡ Some t → is_begun t past ≡ true
hand_begun t [] h = cc
hand_begun t (Wrote n (Of u) k ∷ past) h = or_left _ _ (eq-eqb u t (same u t h))
hand_begun t (x ∷ past) h = hand_begun t past h

pub writes_for : (s : Setting) (past : Past) (t : ℕ) (order : Order) → WriteLaw s past (Of t) order → (active past ≡ Some t) ⊎ (is_begun t past ≡ true)
writes_for s past t (Part tag text eom) law = inl law.0.turn
writes_for s past t (Request tag size) law = inl law.0.turn
writes_for s past t (Trigger tag) law = inl law.0.turn
writes_for s past t Read law = inl law.0.turn
writes_for s past t Listen law = inl law.0.turn
writes_for s past t (Class request) law = inl law.0.turn
writes_for s past t (ClearHalt endpoint) law = inl law.0.turn
writes_for s past t (Unlink target) law = inr (hand_begun t past law.0)

-- a ticket that has begun was asked
pub begun_known : (s : Setting) (past : Past) → Lawful s past → (u : ℕ) → is_begun u past ≡ true → u ≤ tickets past
begun_known s [] h u begun = clash begun
begun_known s (Wrote n (Of t) k ∷ past) h u begun = step (begun_known s past h.0 u) (or_cases (t == u) _ begun)
  where
    asked : t ≡ u → (is_begun u past ≡ true → u ≤ tickets past) → (active past ≡ Some t) ⊎ (is_begun t past ≡ true) → u ≤ tickets past
    asked e before (inl turn) = omega (arith, live_known s past h.0 t (first_has t (live past) turn), e)
    asked e before (inr old) = before (subst (λ (v : ℕ). is_begun v past ≡ true) e old)

    step : (is_begun u past ≡ true → u ≤ tickets past) → ((t == u) ≡ true) ⊎ (is_begun u past ≡ true) → u ≤ tickets past
    step before (inl e) = asked (eqb-true t u e) before (writes_for s past t k h.1.2)
    step before (inr e) = omega (arith, before e)
begun_known s (x ∷ past) h u begun = omega (arith, begun_known s past h.0 u begun)

-- of the live tickets the active one alone has begun
pub begun_active : (s : Setting) (past : Past) → Lawful s past → (u : ℕ) → has u (live past) ≡ true → is_begun u past ≡ true → active past ≡ Some u
begun_active s [] h u lives begun = clash lives
begun_active s (Wrote n (Of t) k ∷ past) h u lives begun = step (begun_active s past h.0 u lives) (or_cases (t == u) _ begun)
  where
    now : t ≡ u → (is_begun u past ≡ true → active past ≡ Some u) → (active past ≡ Some t) ⊎ (is_begun t past ≡ true) → active past ≡ Some u
    now e before (inl turn) = subst (λ (v : ℕ). active past ≡ Some v) e turn
    now e before (inr old) = before (subst (λ (v : ℕ). is_begun v past ≡ true) e old)

    step : (is_begun u past ≡ true → active past ≡ Some u) → ((t == u) ≡ true) ⊎ (is_begun u past ≡ true) → active past ≡ Some u
    step before (inl e) = now (eqb-true t u e) before (writes_for s past t k h.1.2)
    step before (inr e) = before e
begun_active s (Settled t o ∷ past) h u lives begun =
    let r = has_removed u t (live past) lives in first_removed u t (live past) (begun_active s past h.0 u r.0 begun) r.1
begun_active s (Asked t a ∷ past) h u lives begun = step (λ e. begun_active s past h.0 u e begun) (has_added u t (live past) lives)
  where
    step : (has u (live past) ≡ true → active past ≡ Some u) → (has u (live past) ≡ true) ⊎ (t ≡ u) → first_of (live past ++ t ∷ []) ≡ Some u
    step before (inl e) = first_added u t (live past) (before e)
    step before (inr e) = absurd (omega (arith, h.1.1, e, begun_known s past h.0 u begun))
begun_active s (x ∷ past) h u lives begun = begun_active s past h.0 u lives begun

-- ---- a ticket that has not begun waits for nothing

others_free : (t n : ℕ) (xs : List Sent) → involved t false xs ≡ [] → involved t false (others n xs) ≡ []
others_free t n [] h = refl
others_free t n (x ∷ xs) h = step (others_free t n xs) (is_of t x.owner) refl (x.number == n) refl h
  where
    step : (involved t false xs ≡ [] → involved t false (others n xs) ≡ []) → (b : Bool) → is_of t x.owner ≡ b → (c : Bool) → (x.number == n) ≡ c
        → (if b || false then x ∷ involved t false xs else involved t false xs) ≡ []
        → involved t false (if c then others n xs else x ∷ others n xs) ≡ []
    step again true e c f k = cc
    step again false e true f k = again k
    step again false e false f k = rw e (again k)

named_free : (t : ℕ) (order : Order) (xs : List Sent) → involved t false xs ≡ [] → involved t false (without_named order xs) ≡ []
named_free t (Unlink target) xs h = others_free t target xs h
named_free t order xs h = h

unlink_free : (t n : ℕ) (xs : List Sent) → involved t false xs ≡ [] → involved t false (less_unlink n xs) ≡ []
unlink_free t n [] h = refl
unlink_free t n (x ∷ xs) h = step (unlink_free t n xs) (is_of t x.owner) refl (x.number == n) h
  where
    step : (involved t false xs ≡ [] → involved t false (less_unlink n xs) ≡ []) → (b : Bool) → is_of t x.owner ≡ b → (c : Bool)
        → (if b || false then x ∷ involved t false xs else involved t false xs) ≡ []
        → involved t false (if c then without_named x.order xs else x ∷ less_unlink n xs) ≡ []
    step again true e c k = cc
    step again false e true k = named_free t x.order xs k
    step again false e false k = rw e (again k)

less_free : (t : ℕ) (m : down.Message) (xs : List Sent) → involved t false xs ≡ [] → involved t false (less m xs) ≡ []
less_free t (down.RetSubmit head bytes) xs h = others_free t head.seqnum xs h
less_free t (down.RetUnlink head) xs h = unlink_free t head.seqnum xs h

pub unbegun_free : (t : ℕ) (past : Past) → is_begun t past ≡ false → involved t false (outstanding past) ≡ []
unbegun_free t [] h = refl
unbegun_free t (Wrote n o k ∷ past) h =
    let e : (is_of t o ≡ false) × (is_begun t past ≡ false) = neither (is_of t o) (is_begun t past) h in
    let other : is_of t o ≡ false = e.0 in
    rw other (unbegun_free t past e.1)
unbegun_free t (Took m ∷ past) h = less_free t m (outstanding past) (unbegun_free t past h)
unbegun_free t (Fell m e ∷ past) h = less_free t m (outstanding past) (unbegun_free t past h)
unbegun_free t (x ∷ past) h = unbegun_free t past h

pub unbegun_waits : (t : ℕ) (past : Past) → is_begun t past ≡ false → awaits t past ≡ []
unbegun_waits t past h = rw h (rw (and_false (is_status (asking_of t past))) (unbegun_free t past h))

-- ---- and is not reached, where no cause is unsettled

pub free_stop : (o : Option Outcome) (xs : List Sent) → xs ≡ [] → once_free o xs ≡ o
free_stop o xs e = rw e refl

pub no_stop : (xs : List Sent) → once_free None xs ≡ None
no_stop [] = refl
no_stop (x ∷ xs) = refl

pub not_stopped : (s : Setting) (t : ℕ) (past : Past) → cause s t past ≡ None → stops t past ≡ None
not_stopped s t [] h = refl
not_stopped s t (x ∷ past) h =
    none_right (ends_as (ended_by x None)) (stops t (x ∷ past))
    (none_right (made_at s t past x) (or_else (ends_as (ended_by x None)) (stops t (x ∷ past))) (none_right (cause s t past) (causes s t past x) h))

pub unreached : (s : Setting) (t : ℕ) (past : Past) → cause s t past ≡ None → is_begun t past ≡ false → reached t past ≡ None
unreached s t past none fresh = sym (free_stop (reached t past) (awaits t past) (unbegun_waits t past fresh)) ∙ not_stopped s t past none

-- ---- each outcome stands by its cause

pub lasts : {A : Type 0} (a b : Option A) (x : A) → a ≡ Some x → or_else a b ≡ Some x
lasts a b x e = rw e refl

-- what settled a ticket is its cause
pub settled_cause : (s : Setting) (past : Past) → Lawful s past → (t : ℕ) (o : Outcome) → settled t past ≡ Some o → cause s t past ≡ Some o
settled_cause s [] h t o e = cc
settled_cause s (x ∷ past) h t o e = lasts (cause s t past) (causes s t past x) o (step x h.1 e (settled_cause s past h.0 t o))
  where
    settles : (u : ℕ) (p : Outcome) → SettleLaw s past u p → (b : Bool) → (u == t) ≡ b → (if b then Some p else settled t past) ≡ Some o
        → (settled t past ≡ Some o → cause s t past ≡ Some o) → cause s t past ≡ Some o
    settles u p law true e k again = subst (λ (v : ℕ). cause s v past ≡ Some o) (eqb-true u t e) (law.caused ∙ k)
    settles u p law false e k again = again k

    step : (x : Happening) → Allowed s past x → settled_by t x (settled t past) ≡ Some o → (settled t past ≡ Some o → cause s t past ≡ Some o) → cause s t past ≡ Some o
    step (Settled u p) law k again = settles u p law.1 (u == t) refl k again
    step (Wrote n w d) law k again = again k
    step (Took m) law k again = again k
    step (Fell m d) law k again = again k
    step (Stopped d) law k again = again k
    step (Asked u a) law k again = again k
    step (Cancelled u) law k again = again k
    step (Cleared w) law k again = again k
    step GaveUp law k again = again k
    step Recovers law k again = again k

-- a ticket that was asked and is not settled is live
pub unsettled_lives : (t : ℕ) (past : Past) → is_some (asking_of t past) ≡ true → settled t past ≡ None → has t (live past) ≡ true
unsettled_lives t [] known none = clash known
unsettled_lives t (Asked u a ∷ past) known none = step (u == t) refl known (λ e. unsettled_lives t past e none)
  where
    step : (b : Bool) → (u == t) ≡ b → is_some (if b then Some a else asking_of t past) ≡ true → (is_some (asking_of t past) ≡ true → has t (live past) ≡ true)
        → has t (live past ++ u ∷ []) ≡ true
    step true e k again = has_back t u (live past) e
    step false e k again = has_front t u (live past) (again k)
unsettled_lives t (Settled u o ∷ past) known none = step (u == t) refl none (unsettled_lives t past known)
  where
    step : (b : Bool) → (u == t) ≡ b → (if b then Some o else settled t past) ≡ None → (settled t past ≡ None → has t (live past) ≡ true)
        → has t (remove u (live past)) ≡ true
    step true e k again = cc
    step false e k again = has_other t u (live past) (again k) e
unsettled_lives t (x ∷ past) known none = unsettled_lives t past known none

-- each outcome stands exactly by its cause
pub are_caused : (s : Setting) (past : Past) → Kept s past → AreCaused s past
are_caused s past kept t known = step (settled t past) refl
  where
    step : (o : Option Outcome) → settled t past ≡ o → outcome_of t past ≡ or_live (cause s t past)
    step (Some p) is = ap or_live (is ∙ sym (settled_cause s past kept.lawful t p is))
    step None is = ap or_live (is ∙ sym (kept.quiet.settled t (unsettled_lives t past known is)))

-- ---- a ticket that was not asked

pub unasked_asking : (s : Setting) (past : Past) → Lawful s past → (t : ℕ) → tickets past < t → asking_of t past ≡ None
unasked_asking s [] h t far = refl
unasked_asking s (Asked u a ∷ past) h t far =
    rw (differ u t (λ e. omega (arith, e, far, h.1.1))) (unasked_asking s past h.0 t (omega (arith, far)))
unasked_asking s (x ∷ past) h t far = unasked_asking s past h.0 t far

pub unasked_begun : (s : Setting) (past : Past) → Lawful s past → (t : ℕ) → tickets past < t → is_begun t past ≡ false
unasked_begun s past h t far = step (is_begun t past) refl
  where
    step : (b : Bool) → is_begun t past ≡ b → is_begun t past ≡ false
    step true e = absurd (omega (arith, begun_known s past h t e, far))
    step false e = e

inactive : (s : Setting) (past : Past) → Lawful s past → (t : ℕ) → tickets past < t → is_active t (active past) ≡ false
inactive s past h t far = step (active past) refl
  where
    step : (o : Option ℕ) → active past ≡ o → is_active t o ≡ false
    step None e = refl
    step (Some u) e = differ u t (λ k. omega (arith, k, far, live_known s past h u (first_has u (live past) e)))

pub unasked_reached : (s : Setting) (past : Past) → Lawful s past → (t : ℕ) → tickets past < t → reached t past ≡ None
unasked_reached s [] h t far = refl
unasked_reached s (Asked u a ∷ past) h t far = unasked_reached s past h.0 t (omega (arith, far))
unasked_reached s (Cancelled u ∷ past) h t far =
    rw (differ u t (λ e. omega (arith, e, far, live_known s past h.0 u h.1.1.0))) (unasked_reached s past h.0 t far)
unasked_reached s (Cleared x ∷ past) h t far =
    rw (inactive s past h.0 t far) (unasked_reached s past h.0 t far)
unasked_reached s (x ∷ past) h t far = unasked_reached s past h.0 t far

unasked_made : (s : Setting) (past : Past) (x : Happening) (t : ℕ) → asking_of t past ≡ None → made_at s t past x ≡ None
unasked_made s past (Took (down.RetSubmit head bytes)) t e = rw e refl
unasked_made s past (Took (down.RetUnlink head)) t e = refl
unasked_made s past (Wrote n o k) t e = refl
unasked_made s past (Fell m d) t e = refl
unasked_made s past (Stopped d) t e = refl
unasked_made s past (Asked u a) t e = refl
unasked_made s past (Cancelled u) t e = refl
unasked_made s past (Cleared w) t e = refl
unasked_made s past GaveUp t e = refl
unasked_made s past Recovers t e = refl
unasked_made s past (Settled u o) t e = refl

-- where nothing makes, ends or stops it, a ticket without a cause has none behind one more happening
pub still_live : (s : Setting) (past : Past) (x : Happening) (t : ℕ) → cause s t past ≡ None → made_at s t past x ≡ None → ended_by x None ≡ None → stops t (x ∷ past) ≡ None
    → cause s t (x ∷ past) ≡ None
still_live s past x t before unmade running free =
    none_both (cause s t past) (causes s t past x) before
    (none_both (made_at s t past x) (or_else (ends_as (ended_by x None)) (stops t (x ∷ past))) unmade
    (none_both (ends_as (ended_by x None)) (stops t (x ∷ past)) (ap ends_as running) free))

pub still : (s : Setting) (past : Past) (x : Happening) (t : ℕ) → cause s t past ≡ None → made_at s t past x ≡ None → ended_by x None ≡ None → reached t (x ∷ past) ≡ None
    → cause s t (x ∷ past) ≡ None
still s past x t before unmade running free =
    still_live s past x t before unmade running
    (subst (λ (o : Option Outcome). once_free o (awaits t (x ∷ past)) ≡ None) (sym free) (no_stop (awaits t (x ∷ past))))

fewer : (x : Happening) (n t : ℕ) → asks x n < t → n < t
fewer (Asked u a) n t h = omega (arith, h)
fewer (Wrote m w d) n t h = h
fewer (Took m) n t h = h
fewer (Fell m d) n t h = h
fewer (Stopped d) n t h = h
fewer (Cancelled u) n t h = h
fewer (Cleared w) n t h = h
fewer GaveUp n t h = h
fewer Recovers n t h = h
fewer (Settled u o) n t h = h

ran : (x : Happening) (e : Option End) → ended_by x e ≡ None → (e ≡ None) × (ended_by x None ≡ None)
ran (Fell m d) e h = cc
ran (Stopped d) e h = cc
ran (Asked u a) e h = (h, refl)
ran (Wrote m w d) e h = (h, refl)
ran (Took m) e h = (h, refl)
ran (Cancelled u) e h = (h, refl)
ran (Cleared w) e h = (h, refl)
ran GaveUp e h = (h, refl)
ran Recovers e h = (h, refl)
ran (Settled u o) e h = (h, refl)

pub unasked_cause : (s : Setting) (past : Past) → Lawful s past → ended past ≡ None → (t : ℕ) → tickets past < t → cause s t past ≡ None
unasked_cause s [] h running t far = refl
unasked_cause s (x ∷ past) h running t far =
    let before : tickets past < t = fewer x (tickets past) t far in
    let both : (ended past ≡ None) × (ended_by x None ≡ None) = ran x (ended past) running in
    still s past x t
    (unasked_cause s past h.0 both.0 t before)
    (unasked_made s past x t (unasked_asking s past h.0 t before))
    both.1
    (unasked_reached s (x ∷ past) h t far)

-- no other live ticket was reached
pub others_unreached : (s : Setting) (past : Past) → Lawful s past → (t u : ℕ) → active past ≡ Some t → has u (live past) ≡ true → cause s u past ≡ None
    → (u ≡ t → ⊥) → reached u past ≡ None
others_unreached s past h t u turn lives none other = unreached s u past none (step (is_begun u past) refl)
  where
    step : (b : Bool) → is_begun u past ≡ b → is_begun u past ≡ false
    step true e = absurd (other (same u t (sym (begun_active s past h u lives e) ∙ turn)))
    step false e = e
