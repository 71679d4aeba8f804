-- choices, and numbers that are compared
use Rattle.std.proofs.Common.{◌≡◌, ℕ, ◌||◌, ◌&&◌, Bool, true, false, refl, sym, ◌∙◌}
use Rattle.std.specs.Prelude.{◌==◌}
use Rattle.std.proofs.lemmas.Bool.{eqb-true, eqb-false, eq-eqb}

pub clash : {P : Type 0} → false ≡ true → P
clash e = absurd (no e)
  where
    no : false ≡ true → ⊥
    no h = cc

pub or_false : (b : Bool) → b || false ≡ b
or_false true = refl
or_false false = refl

pub or_assoc : (a b c : Bool) → (a || b) || c ≡ a || (b || c)
or_assoc true b c = refl
or_assoc false b c = refl

pub or_swap : (a b c : Bool) → (a || b) || c ≡ (a || c) || b
or_swap true b c = refl
or_swap false true true = refl
or_swap false true false = refl
or_swap false false true = refl
or_swap false false false = refl

pub neither : (a b : Bool) → a || b ≡ false → (a ≡ false) × (b ≡ false)
neither true b h = clash (sym h)
neither false b h = (refl, h)

pub own : (n : ℕ) → (n == n) ≡ true
own n = eq-eqb n n refl

pub differ : (a b : ℕ) → (a ≡ b → ⊥) → (a == b) ≡ false
differ a b h = step (a == b) refl
  where
    step : (c : Bool) → (a == b) ≡ c → (a == b) ≡ false
    step true e = absurd (h (eqb-true a b e))
    step false e = e

pub turned : (a b : ℕ) → (a == b) ≡ (b == a)
turned a b = step (a == b) refl
  where
    step : (c : Bool) → (a == b) ≡ c → (a == b) ≡ (b == a)
    step true e = e ∙ sym (eq-eqb b a (sym (eqb-true a b e)))
    step false e = e ∙ sym (differ b a (λ h. eqb-false a b e (sym h)))

pub and_false : (b : Bool) → b && false ≡ false
and_false true = refl
and_false false = refl
