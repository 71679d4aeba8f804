-- tickets begin in their order, and their starts rise
use Rattle.std.proofs.Common.{◌≡◌, ◌≢◌, ◌⊎◌, ℕ, ◌+◌, ◌<◌, ◌≤◌, ◌||◌, ◌&&◌, not, Bool, true, false, List, [], ◌∷◌, Some, inl, inr, refl, sym, subst, ◌∙◌, arith}
use Rattle.std.specs.Prelude.{◌==◌, if◌then◌else◌}
use Rattle.std.proofs.lemmas.Bool.{eqb-true}
use Rattle.host_hub.specs.Order.{Setting}
use Rattle.host_hub.specs.Record.{Asked, Of, Past, Recovery, Settled, Wrote, next}
use Rattle.host_hub.specs.Book.{active, first_of, has, live, tickets}
use Rattle.host_hub.specs.Hand.{is_begun, is_of, start}
use Rattle.host_hub.specs.Law.{Lawful}
use Rattle.host_hub.proofs.Endings.{AreRising, above_has, live_rising}
use Rattle.host_hub.proofs.Lists.{clash, first_has, has_added, has_removed, neither, or_cases, same}
use Rattle.host_hub.proofs.Numbers.{may_next}
use Rattle.host_hub.proofs.Pasts.{begun_known, writes_for}

-- ---- a ticket that has begun is before those that are live

first_least : (t u : ℕ) (ts : List ℕ) → AreRising ts → first_of ts ≡ Some t → has u ts ≡ true → t ≤ u
first_least t u [] rising e h = clash h
first_least t u (x ∷ xs) rising e h = by (or_cases (x == u) _ h)
  where
    x_is : x ≡ t
    x_is = same x t e

    by : ((x == u) ≡ true) ⊎ (has u xs ≡ true) → t ≤ u
    by (inl k) = let l : x ≡ u = eqb-true x u k in omega (arith, x_is, l)
    by (inr k) = let l : x < u = above_has x u xs rising.0 k in omega (arith, x_is, l)

pub begun_low : (s : Setting) (past : Past) → Lawful s past → (t u : ℕ) → is_begun t past ≡ true → has u (live past) ≡ true → t ≤ u
begun_low s [] h t u begun lives = clash lives
begun_low s (Wrote n (Of v) k ∷ past) h t u begun lives = step (λ b. begun_low s past h.0 t u b lives) (or_cases (v == t) _ begun)
  where
    now : v ≡ t → (is_begun t past ≡ true → t ≤ u) → (active past ≡ Some v) ⊎ (is_begun v past ≡ true) → t ≤ u
    now e again (inl turn) = let l : v ≤ u = first_least v u (live past) (live_rising s past h.0) turn lives in omega (arith, e, l)
    now e again (inr old) = again (subst (λ (w : ℕ). is_begun w past ≡ true) e old)

    step : (is_begun t past ≡ true → t ≤ u) → ((v == t) ≡ true) ⊎ (is_begun t past ≡ true) → t ≤ u
    step again (inl e) = now (eqb-true v t e) again (writes_for s past v k h.1.2)
    step again (inr e) = again e
begun_low s (Wrote n Recovery k ∷ past) h t u begun lives = begun_low s past h.0 t u begun lives
begun_low s (Settled v o ∷ past) h t u begun lives = begun_low s past h.0 t u begun (has_removed u v (live past) lives).0
begun_low s (Asked v a ∷ past) h t u begun lives = step (begun_low s past h.0 t u begun) (has_added u v (live past) lives)
  where
    step : (has u (live past) ≡ true → t ≤ u) → (has u (live past) ≡ true) ⊎ (v ≡ u) → t ≤ u
    step again (inl l) = again l
    step again (inr e) = let low : t ≤ tickets past = begun_known s past h.0 t begun in omega (arith, low, h.1.1, e)
begun_low s (x ∷ past) h t u begun lives = begun_low s past h.0 t u begun lives

-- ---- its start is below the next number

pub first_next : (s : Setting) (past : Past) → s.first ≤ next s.first past
first_next s [] = omega arith
first_next s (Wrote n o k ∷ past) = omega (arith, first_next s past)
first_next s (x ∷ past) = first_next s past

pub start_below : (s : Setting) (past : Past) → Lawful s past → (t : ℕ) → is_begun t past ≡ true → (s.first ≤ start t past) × (start t past < next s.first past)
start_below s [] h t begun = clash begun
start_below s (Wrote n (Of v) k ∷ past) h t begun = step (v == t) refl (is_begun t past) refl (start_below s past h.0 t) begun
  where
    e : n ≡ next s.first past
    e = may_next s past n k h.1.1

    step : (b : Bool) → (v == t) ≡ b → (c : Bool) → is_begun t past ≡ c → (c ≡ true → (s.first ≤ start t past) × (start t past < next s.first past)) → b || c ≡ true
        → (s.first ≤ (if b && not c then n else start t past)) × ((if b && not c then n else start t past) < next s.first past + 1)
    step true f false g again k = (omega (arith, e, first_next s past), omega (arith, e))
    step true f true g again k = let r = again refl in (r.0, omega (arith, r.1))
    step false f true g again k = let r = again refl in (r.0, omega (arith, r.1))
    step false f false g again k = clash k
start_below s (Wrote n Recovery k ∷ past) h t begun = let r = start_below s past h.0 t begun in (r.0, omega (arith, r.1))
start_below s (x ∷ past) h t begun = start_below s past h.0 t begun

-- ---- so the starts rise

pub starts_rise : (s : Setting) (past : Past) → Lawful s past → (t u : ℕ) → t < u → is_begun t past ≡ true → is_begun u past ≡ true → start t past < start u past
starts_rise s [] h t u less one two = clash one
starts_rise s (Wrote n (Of v) k ∷ past) h t u less one two =
    step (v == t) refl (v == u) refl (is_begun t past) refl (is_begun u past) refl (starts_rise s past h.0 t u less) (start_below s past h.0 t) one two (writes_for s past v k h.1.2)
  where
    e : n ≡ next s.first past
    e = may_next s past n k h.1.1

    late : v ≡ t → is_begun t past ≡ false → is_begun u past ≡ true → (active past ≡ Some v) ⊎ (is_begun v past ≡ true) → ⊥
    late f fresh old (inl turn) = let l : u ≤ v = begun_low s past h.0 u v old (first_has v (live past) turn) in omega (arith, l, f, less)
    late f fresh old (inr begun) = clash (sym fresh ∙ subst (λ (w : ℕ). is_begun w past ≡ true) f begun)

    step : (b : Bool) → (v == t) ≡ b → (c : Bool) → (v == u) ≡ c → (p : Bool) → is_begun t past ≡ p → (q : Bool) → is_begun u past ≡ q
        → (p ≡ true → q ≡ true → start t past < start u past) → (p ≡ true → (s.first ≤ start t past) × (start t past < next s.first past))
        → b || p ≡ true → c || q ≡ true → (active past ≡ Some v) ⊎ (is_begun v past ≡ true)
        → (if b && not p then n else start t past) < (if c && not q then n else start u past)
    step true f true g p a q z again below x y w = absurd (let l : v ≡ t = eqb-true v t f in let m : v ≡ u = eqb-true v u g in omega (arith, l, m, less))
    step true f false g true a true z again below x y w = again refl refl
    step true f false g false a true z again below x y w = absurd (late (eqb-true v t f) a z w)
    step true f false g p a false z again below x y w = clash y
    step false f true g true a true z again below x y w = again refl refl
    step false f true g true a false z again below x y w = let r = below refl in omega (arith, r.1, e)
    step false f true g false a q z again below x y w = clash x
    step false f false g true a true z again below x y w = again refl refl
    step false f false g true a false z again below x y w = clash y
    step false f false g false a q z again below x y w = clash x
starts_rise s (Wrote n Recovery k ∷ past) h t u less one two = starts_rise s past h.0 t u less one two
starts_rise s (x ∷ past) h t u less one two = starts_rise s past h.0 t u less one two

-- a ticket has a start exactly where it has begun
pub unbegun_start : (t : ℕ) (past : Past) → is_begun t past ≡ false → start t past ≡ 0
unbegun_start t [] h = refl
unbegun_start t (Wrote n o k ∷ past) h =
    let both : (is_of t o ≡ false) × (is_begun t past ≡ false) = neither (is_of t o) (is_begun t past) h in
    let other : is_of t o ≡ false = both.0 in
    rw other (unbegun_start t past both.1)
unbegun_start t (x ∷ past) h = unbegun_start t past h

pub started_begun : (t : ℕ) (past : Past) → start t past ≢ 0 → is_begun t past ≡ true
started_begun t past h = step (is_begun t past) refl
  where
    step : (b : Bool) → is_begun t past ≡ b → is_begun t past ≡ true
    step true e = e
    step false e = absurd (h (unbegun_start t past e))

pub begun_started : (s : Setting) (past : Past) → Lawful s past → 1 ≤ s.first → (t : ℕ) → is_begun t past ≡ true → start t past ≢ 0
begun_started s past h one t begun e = let r = start_below s past h t begun in omega (arith, e, r.0, one)

pub starts_in_order : (s : Setting) (past : Past) → Lawful s past → (t u : ℕ) → t < u → start t past ≢ 0 → start u past ≢ 0 → start t past < start u past
starts_in_order s past h t u less one two = starts_rise s past h t u less (started_begun t past one) (started_begun u past two)
