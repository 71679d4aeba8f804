-- some numbers of a list, in its order
use Rattle.std.proofs.Common.{◌≡◌, ◌⊎◌, inl, inr, ℕ, List, [], ◌∷◌, ◌++◌, refl, subst}

-- the first list is some of the second, in its order
abbrev pub Sub : List ℕ → List ℕ → Type 0
Sub xs [] = xs ≡ []
Sub xs (n ∷ ys) = Sub xs ys ⊎ ((rest : List ℕ) × (xs ≡ n ∷ rest) × Sub rest ys)

pub sub_nil : (ys : List ℕ) → Sub [] ys
sub_nil [] = refl
sub_nil (n ∷ ys) = inl (sub_nil ys)

pub sub_more : (a xs ys : List ℕ) → Sub xs ys → Sub (a ++ xs) (a ++ ys)
sub_more [] xs ys h = h
sub_more (n ∷ a) xs ys h = inr (a ++ xs, refl, sub_more a xs ys h)

pub sub_refl : (xs : List ℕ) → Sub xs xs
sub_refl [] = refl
sub_refl (n ∷ xs) = inr (xs, refl, sub_refl xs)

pub sub_front : (a b : List ℕ) → Sub a (a ++ b)
sub_front [] b = sub_nil b
sub_front (n ∷ a) b = inr (a, refl, sub_front a b)

pub sub_trans : (xs ys zs : List ℕ) → Sub xs ys → Sub ys zs → Sub xs zs
sub_trans xs ys [] p q = subst (λ (l : List ℕ). Sub xs l) q p
sub_trans xs ys (n ∷ zs) p (inl q) = inl (sub_trans xs ys zs p q)
sub_trans xs ys (n ∷ zs) p (inr q) = by (λ xs rest r s. sub_trans xs rest zs r s) (subst (λ (l : List ℕ). Sub xs l) q.1 p)
  where
    by : ((a b : List ℕ) → Sub a b → Sub b zs → Sub a zs) → Sub xs (n ∷ q.0) → Sub xs (n ∷ zs)
    by go (inl r) = inl (go xs q.0 r q.2)
    by go (inr r) = inr (r.0, r.1, go r.0 q.0 r.2 q.2)
