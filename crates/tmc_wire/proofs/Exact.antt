-- an answer that its definition allows, where there is one alone, is told exactly
use Rattle.std.proofs.Common.{◌≡◌, Result, Ok, Err, MatchResult, ap, subst}
use Rattle.std.specs.Prelude.{◌↔◌}

pub ok_exactly : {T E : Type 0} (Is : T → Type 0) (Bad : E → Type 0) (r : Result T E) → ((a b : T) → Is a → Is b → a ≡ b) → ((a : T) (e : E) → Is a → Bad e → ⊥)
    → MatchResult r Is Bad → (value : T) → (r ≡ Ok value) ↔ Is value
ok_exactly Is Bad (Ok a) one apart h value = (λ e. subst (λ r. MatchResult r Is Bad) e h, λ k. ap Ok (one a value h k))
ok_exactly Is Bad (Err f) one apart h value = (λ e. subst (λ r. MatchResult r Is Bad) e h, λ k. absurd (apart value f k h))

pub err_exactly : {T E : Type 0} (Is : T → Type 0) (Bad : E → Type 0) (r : Result T E) → ((a b : E) → Bad a → Bad b → a ≡ b) → ((a : T) (e : E) → Is a → Bad e → ⊥)
    → MatchResult r Is Bad → (fault : E) → (r ≡ Err fault) ↔ Bad fault
err_exactly Is Bad (Ok a) one apart h fault = (λ e. subst (λ r. MatchResult r Is Bad) e h, λ k. absurd (apart a fault h k))
err_exactly Is Bad (Err f) one apart h fault = (λ e. subst (λ r. MatchResult r Is Bad) e h, λ k. ap Err (one f fault h k))
