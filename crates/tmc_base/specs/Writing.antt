-- how a text was written, write by write
use Rattle.std.specs.Prelude.{ℕ, ◌<◌, ◌≤◌, List, [], length, drop, Bool, true, false}
use Rattle.tmc_base.specs.declared.sink.WriteStep.{WriteStep}
use Rattle.tmc_base.specs.declared.sink.WriteStep.TheVariants.{Took, Failed}

-- writes one behind the other, of which each offered all that was left of the text and took at least one byte of it,
-- left this rest
pub data Offered {A : Type 0} (writes : A → List ℕ → WriteStep → A → Type 0) (old : A) (text : List ℕ) : List ℕ → A → Type 0 where
  none : Offered writes old text text old
  more : (rest : List ℕ) (n : ℕ) (mid new : A) → Offered writes old text rest mid → 0 < n → n ≤ length rest
      → writes mid rest (Took n) new → Offered writes old text (drop n rest) new

-- a text was written: no rest is left, or the last write, to which all that was left was offered, failed; none stands
-- behind it
abbrev pub WriteRun : {A : Type 0} → (A → List ℕ → WriteStep → A → Type 0) → A → A → Bool → List ℕ → Type 0
WriteRun writes old new true text = Offered writes old text [] new
WriteRun {A} writes old new false text =
    (mid : A) × (rest : List ℕ) × Offered writes old text rest mid × (0 < length rest) × writes mid rest Failed new
