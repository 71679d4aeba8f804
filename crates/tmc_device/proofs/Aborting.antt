-- aborts that begin, or are declined
use Rattle.std.proofs.Common.{◌≡◌, refl, sym, subst, ℕ, [], ◌∷◌, Option, Some, None}
use Rattle.std.specs.Option.{unwrap_or}
use Rattle.tmc_law.specs.State.{Running}
use Rattle.tmc_law.specs.Aborts.{Declined, told_tag}

-- the tag that is told
pub told : (tag : Option ℕ) → unwrap_or tag 0 ≡ told_tag tag
told None = refl
told (Some tag) = refl

-- why an abort is declined, by the tag in progress as it is told
pub declined_as : (running : Running) (current in_progress : Option ℕ) (tag status : ℕ) → current ≡ in_progress
    → Declined running current tag (status ∷ told_tag current ∷ []) → Declined running in_progress tag (status ∷ unwrap_or current 0 ∷ [])
declined_as running current in_progress tag status same declined =
    subst (λ (t : Option ℕ). Declined running t tag (status ∷ unwrap_or current 0 ∷ [])) same
    (subst (λ (n : ℕ). Declined running current tag (status ∷ n ∷ [])) (sym (told current)) declined)
