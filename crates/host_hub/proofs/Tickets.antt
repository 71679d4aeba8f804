-- tickets and their outcomes
use Rattle.std.proofs.Common.{◌≡◌, ◌≢◌, ◌⊎◌, ℕ, ◌+◌, ◌≤◌, Bool, true, false, [], ◌∷◌, ◌++◌, Some, inl, inr, refl, sym, subst, arith}
use Rattle.std.specs.Prelude.{◌==◌, if◌then◌else◌}
use Rattle.std.proofs.lemmas.Bool.{eqb-true}
use Rattle.host_hub.specs.declared.outcome.Outcome.{Outcome}
use Rattle.host_hub.specs.Record.{Past, Asked, Settled}
use Rattle.host_hub.specs.Book.{has, live, tickets, settled, KeepsBook}
use Rattle.host_hub.proofs.Lists.{clash, has_added, has_removed}

-- ---- live tickets were asked

pub live_low : (past : Past) (t : ℕ) → KeepsBook past → has t (live past) ≡ true → (1 ≤ t) × (t ≤ tickets past)
live_low [] t h e = clash e
live_low (Asked u asking ∷ past) t h e = step (live_low past t h.0) (has_added t u (live past) e)
  where
    step : (has t (live past) ≡ true → (1 ≤ t) × (t ≤ tickets past)) → (has t (live past) ≡ true) ⊎ (u ≡ t) → (1 ≤ t) × (t ≤ tickets past + 1)
    step again (inl f) = let r = again f in (r.0, omega (arith, r.1))
    step again (inr f) = (omega (arith, h.1, f), omega (arith, h.1, f))
live_low (Settled u outcome ∷ past) t h e = live_low past t h.0 (has_removed t u (live past) e).0
live_low (x ∷ past) t h e = live_low past t h.0 e

pub settled_low : (past : Past) (t : ℕ) (o : Outcome) → KeepsBook past → settled t past ≡ Some o → (1 ≤ t) × (t ≤ tickets past)
settled_low [] t o h e = cc
settled_low (Asked u asking ∷ past) t o h e = let r = settled_low past t o h.0 e in (r.0, omega (arith, r.1))
settled_low (Settled u outcome ∷ past) t o h e = step (u == t) refl (settled_low past t o h.0) e
  where
    step : (b : Bool) → (u == t) ≡ b → (settled t past ≡ Some o → (1 ≤ t) × (t ≤ tickets past)) → (if b then Some outcome else settled t past) ≡ Some o → (1 ≤ t) × (t ≤ tickets past)
    step true f again g = live_low past t h.0 (subst (λ (v : ℕ). has v (live past) ≡ true) (eqb-true u t f) h.1)
    step false f again g = again g
settled_low (x ∷ past) t o h e = settled_low past t o h.0 e

-- ---- a ticket is not both

pub never_both : (past : Past) (t : ℕ) (o : Outcome) → KeepsBook past → settled t past ≡ Some o → has t (live past) ≡ true → ⊥
never_both [] t o h e k = clash k
never_both (Asked u asking ∷ past) t o h e k = step (never_both past t o h.0 e) (has_added t u (live past) k)
  where
    step : (has t (live past) ≡ true → ⊥) → (has t (live past) ≡ true) ⊎ (u ≡ t) → ⊥
    step again (inl f) = again f
    step again (inr f) = omega (arith, h.1, f, (settled_low past t o h.0 e).1)
never_both (Settled u outcome ∷ past) t o h e k = step (u == t) refl (never_both past t o h.0) e (has_removed t u (live past) k)
  where
    step : (b : Bool) → (u == t) ≡ b → (settled t past ≡ Some o → has t (live past) ≡ true → ⊥) → (if b then Some outcome else settled t past) ≡ Some o
        → (has t (live past) ≡ true) × (t ≢ u) → ⊥
    step true f again g r = r.1 (sym (eqb-true u t f))
    step false f again g r = again g r.0
never_both (x ∷ past) t o h e k = never_both past t o h.0 e k

pub dead : (past : Past) (t : ℕ) (o : Outcome) → KeepsBook past → settled t past ≡ Some o → has t (live past) ≡ false
dead past t o h e = step (has t (live past)) (never_both past t o h e)
  where
    step : (b : Bool) → (b ≡ true → ⊥) → b ≡ false
    step true k = absurd (k refl)
    step false k = refl

pub stays : (past more : Past) (t : ℕ) (o : Outcome) → KeepsBook (more ++ past) → settled t past ≡ Some o → settled t (more ++ past) ≡ Some o
stays past [] t o h e = e
stays past (Settled u outcome ∷ more) t o h e = step (u == t) refl (stays past more t o h.0 e)
  where
    step : (b : Bool) → (u == t) ≡ b → settled t (more ++ past) ≡ Some o → (if b then Some outcome else settled t (more ++ past)) ≡ Some o
    step true f g = absurd (never_both (more ++ past) t o h.0 g (subst (λ (v : ℕ). has v (live (more ++ past)) ≡ true) (eqb-true u t f) h.1))
    step false f g = g
stays past (x ∷ more) t o h e = stays past more t o h.0 e
