-- bytes that come later
use Rattle.std.proofs.Common.{◌≡◌, ℕ, zero, suc, List, [], ◌∷◌, ◌++◌, take, refl, sym, ap}
use Rattle.tmc_wire.specs.HeaderFault.{TransferSize}
use Rattle.host_transfers.specs.Piece.{data_of}

take_none : (n : ℕ) → take {A = ℕ} n [] ≡ []
take_none zero = refl
take_none (suc n) = refl

abbrev Grown : ℕ → List ℕ → List ℕ → Type 0
Grown n xs ys = (added : List ℕ) × (take n (xs ++ ys) ≡ take n xs ++ added)

take_grows : (n : ℕ) (xs ys : List ℕ) → Grown n xs ys
take_grows zero xs ys = ([], refl)
take_grows (suc n) [] ys = (take (suc n) ys, refl)
take_grows (suc n) (x ∷ xs) ys = more (take_grows n xs ys)
  where
    more : Grown n xs ys → Grown (suc n) (x ∷ xs) ys
    more (added, e) = (added, ap (λ (l : List ℕ). x ∷ l) e)

pub grows : (bytes more : List ℕ) → (added : List ℕ) × (data_of (bytes ++ more) ≡ data_of bytes ++ added)
grows (a ∷ (b ∷ (c ∷ (d ∷ (e ∷ (f ∷ (g ∷ (h ∷ (i ∷ (j ∷ (k ∷ (l ∷ rest)))))))))))) more = take_grows (TransferSize (a ∷ b ∷ c ∷ d ∷ e ∷ f ∷ g ∷ h ∷ [])) rest more
grows bytes more = (data_of (bytes ++ more), sym (ap (λ (x : List ℕ). x ++ data_of (bytes ++ more)) (take_none (TransferSize bytes))))
