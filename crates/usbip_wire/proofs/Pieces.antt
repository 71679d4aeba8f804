-- a piece, taken from its front
use Rattle.std.proofs.Common.{◌≡◌, ℕ, zero, suc, ◌+◌, ◌-◌, List, [], ◌∷◌, ◌++◌, take, drop, refl, ap, ◌∙◌, append_assoc, arith}
use Rattle.std.proofs.lemmas.List.{take-append-drop}

take_none : (m : ℕ) → [] ≡ take {A = ℕ} m []
take_none zero = refl
take_none (suc m) = refl

take_then : (u n m : ℕ) (xs : List ℕ) → m ≡ u + n → take u xs ++ take n (drop u xs) ≡ take m xs
take_then zero n m xs e = let same : n ≡ m = omega arith in ap (λ k. take k xs) same
take_then (suc u) zero m [] e = take_none m
take_then (suc u) (suc n) m [] e = take_none m
take_then (suc u) n zero (x ∷ xs) e = absurd (omega arith)
take_then (suc u) n (suc m) (x ∷ xs) e = ap (λ (t : List ℕ). x ∷ t) (take_then u n m xs (omega arith))

-- so many more bytes
pub next_of_piece : (start piece : List ℕ) (used n : ℕ) → (start ++ take used piece) ++ take (used + n - used) (drop used piece) ≡ start ++ take (used + n) piece
next_of_piece start piece used n =
    append_assoc start (take used piece) (take (used + n - used) (drop used piece)) ∙ ap (λ (t : List ℕ). start ++ t) (take_then used (used + n - used) (used + n) piece (omega arith))

-- and all that are left
pub rest_of_piece : (start piece : List ℕ) (used : ℕ) → (start ++ take used piece) ++ drop used piece ≡ start ++ piece
rest_of_piece start piece used =
    append_assoc start (take used piece) (drop used piece) ∙ ap (λ (t : List ℕ). start ++ t) (take-append-drop used piece)
