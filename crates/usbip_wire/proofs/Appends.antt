-- pieces that were appended one after another
use Rattle.std.proofs.Common.{◌≡◌, ℕ, List, ◌++◌, ap, ◌∙◌, append_assoc}

pub two_appended : (old first second new last : List ℕ) → new ≡ old ++ first → last ≡ new ++ second → last ≡ old ++ (first ++ second)
two_appended old first second new last e f = f ∙ (ap (λ xs. xs ++ second) e ∙ append_assoc old first second)

pub three_appended : (old first second third new next last : List ℕ) → new ≡ old ++ first → next ≡ new ++ second → last ≡ next ++ third → last ≡ old ++ (first ++ (second ++ third))
three_appended old first second third new next last e f g =
    two_appended old first (second ++ third) new last e (two_appended new second third next last f g)
