-- how often a number is among submits
use Rattle.std.proofs.Common.{◌≤◌, ◌≡◌, ℕ, ◌+◌, List, [], ◌∷◌, ◌++◌, refl, subst, inl, inr, arith}
use Rattle.std.proofs.lemmas.Bool.Decides.{nat_tests}
use Rattle.tmc_law.specs.State.{Pending, Avoids}
use Rattle.endpoint_pipes.specs.Held.{IsPending, AreUnpolled}
use Rattle.tmc_law.specs.Reached.{AreDistinct}
use Rattle.endpoint_pipes.specs.Kept.{count_of}

pub count-append : (n : ℕ) (xs ys : List Pending) → count_of n (xs ++ ys) ≡ count_of n xs + count_of n ys
count-append n [] ys = omega arith
count-append n (x ∷ xs) ys = let rest = count-append n xs ys in omega (arith, rest)

pub count_first : (x : Pending) (xs : List Pending) → count_of x.head.seqnum (x ∷ xs) ≡ 1 + count_of x.head.seqnum xs
count_first x xs = grind (arith, nat_tests)

pub avoids_none : (n : ℕ) (xs : List Pending) → count_of n xs ≡ 0 → Avoids n xs
avoids_none n [] none = tt
avoids_none n (x ∷ xs) none = (
  λ (same : x.head.seqnum ≡ n). let once : count_of n (x ∷ xs) ≡ 1 + count_of n xs = subst (λ (m : ℕ). count_of m (x ∷ xs) ≡ 1 + count_of m xs) same (count_first x xs) in omega (arith, once, none),
  avoids_none n xs (omega (arith, none)),
)

pub none_avoids : (n : ℕ) (xs : List Pending) → Avoids n xs → count_of n xs ≡ 0
none_avoids n [] avoids = refl
none_avoids n (x ∷ xs) avoids = let rest = none_avoids n xs avoids.1 in let other = avoids.0 in grind (arith, nat_tests)

pub avoids-append : (n : ℕ) (xs ys : List Pending) → Avoids n xs → Avoids n ys → Avoids n (xs ++ ys)
avoids-append n [] ys first second = second
avoids-append n (x ∷ xs) ys first second = (first.0, avoids-append n xs ys first.1 second)

pub pending-left : (n : ℕ) (xs ys : List Pending) → IsPending n xs → IsPending n (xs ++ ys)
pending-left n [] ys there = absurd there
pending-left n (x ∷ xs) ys there = elim there [ inl same ↦ inl same | inr rest ↦ inr (pending-left n xs ys rest) ]

pub pending-right : (n : ℕ) (xs ys : List Pending) → IsPending n ys → IsPending n (xs ++ ys)
pending-right n [] ys there = there
pending-right n (x ∷ xs) ys there = inr (pending-right n xs ys there)

pub distinct_once : (xs : List Pending) → ((n : ℕ) → count_of n xs ≤ 1) → AreDistinct xs
distinct_once [] once = tt
distinct_once (x ∷ xs) once = (
  avoids_none x.head.seqnum xs (let first = count_first x xs in let most = once x.head.seqnum in omega (arith, first, most)),
  distinct_once xs (λ n. let most = once n in omega (arith, most)),
)

pub unpolled-append : (xs ys : List Pending) → AreUnpolled xs → AreUnpolled ys → AreUnpolled (xs ++ ys)
unpolled-append [] ys first second = second
unpolled-append (x ∷ xs) ys first second = (first.0, unpolled-append xs ys first.1 second)
