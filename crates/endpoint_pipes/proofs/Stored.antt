-- the submits under keys, where a slot of another key changes
use Rattle.std.proofs.Common.{◌≡◌, ◌≢◌, ◌∙◌, ℕ, ◌+◌, ◌≤◌, suc, List, [], ◌∷◌, ◌++◌, length, Option, Some, None, refl, ap, sym, subst, arith}
use Rattle.tmc_law.specs.State.{Pending}
use Rattle.endpoint_pipes.specs.declared.entry.Entry.{Entry}
use Rattle.endpoint_pipes.specs.Kept.{submit_of, entry_at, in_front, submits_of, IsThere, AreThere, count_of}
use Rattle.endpoint_pipes.proofs.Counts.{count_first}

-- the key is none of these
abbrev pub Apart : ℕ → List ℕ → Type 0
Apart key [] = Unit {0}
Apart key (k ∷ keys) = (k ≢ key) × Apart key keys

-- each other key has what it had
abbrev pub OthersKept : (old new : List (Option Entry)) → ℕ → Type 0
OthersKept old new key = (k : ℕ) → k ≢ key → entry_at new k ≡ entry_at old k

pub same_submits : (old new : List (Option Entry)) (key : ℕ) → OthersKept old new key → (keys : List ℕ) → Apart key keys → submits_of new keys ≡ submits_of old keys
same_submits old new key others [] apart = refl
same_submits old new key others (k ∷ keys) apart =
    ap (λ (o : Option Entry). in_front o (submits_of new keys)) (others k apart.0)
    ∙ ap (λ (l : List Pending). in_front (entry_at old k) l) (same_submits old new key others keys apart.1)

pub still_there : (old new : List (Option Entry)) (key : ℕ) → OthersKept old new key → (keys : List ℕ) → Apart key keys → AreThere old keys → AreThere new keys
still_there old new key others [] apart there = tt
still_there old new key others (k ∷ keys) apart there =
    (subst (λ (o : Option Entry). IsThere o) (sym (others k apart.0)) there.0, still_there old new key others keys apart.1 there.1)

-- a key without an entry is none of these
pub apart_vacant : (slots : List (Option Entry)) (key : ℕ) → entry_at slots key ≡ None → (keys : List ℕ) → AreThere slots keys → Apart key keys
apart_vacant slots key vacant [] there = tt
apart_vacant slots key vacant (k ∷ keys) there = (
  λ (same : k ≡ key). subst (λ (o : Option Entry). IsThere o) (ap (λ (m : ℕ). entry_at slots m) same ∙ vacant) there.0,
  apart_vacant slots key vacant keys there.1,
)

fewer : (n : ℕ) (o : Option Entry) (submits : List Pending) → count_of n submits ≤ count_of n (in_front o submits)
fewer n None submits = omega arith
fewer n (Some entry) submits = omega arith

-- nor is the key of an entry whose number is not among theirs
pub apart_number : (slots : List (Option Entry)) (key : ℕ) (entry : Entry) → entry_at slots key ≡ Some entry → (keys : List ℕ)
    → count_of entry.head.seqnum (submits_of slots keys) ≡ 0 → Apart key keys
apart_number slots key entry is [] none = tt
apart_number slots key entry is (k ∷ keys) none = (
  λ (same : k ≡ key). let here : count_of entry.head.seqnum (in_front (entry_at slots k) (submits_of slots keys)) ≡ 1 + count_of entry.head.seqnum (submits_of slots keys) =
      ap (λ (o : Option Entry). count_of entry.head.seqnum (in_front o (submits_of slots keys))) (ap (λ (m : ℕ). entry_at slots m) same ∙ is)
      ∙ count_first (submit_of entry) (submits_of slots keys) in omega (arith, here, none),
  apart_number slots key entry is keys (let less = fewer entry.head.seqnum (entry_at slots k) (submits_of slots keys) in omega (arith, less, none)),
)

front-append : (o : Option Entry) (xs ys : List Pending) → in_front o (xs ++ ys) ≡ in_front o xs ++ ys
front-append None xs ys = refl
front-append (Some entry) xs ys = refl

pub submits-append : (slots : List (Option Entry)) (xs ys : List ℕ) → submits_of slots (xs ++ ys) ≡ submits_of slots xs ++ submits_of slots ys
submits-append slots [] ys = refl
submits-append slots (k ∷ xs) ys =
    ap (λ (l : List Pending). in_front (entry_at slots k) l) (submits-append slots xs ys) ∙ front-append (entry_at slots k) (submits_of slots xs) (submits_of slots ys)

pub there-append : (slots : List (Option Entry)) (xs ys : List ℕ) → AreThere slots xs → AreThere slots ys → AreThere slots (xs ++ ys)
there-append slots [] ys first second = second
there-append slots (k ∷ xs) ys first second = (first.0, there-append slots xs ys first.1 second)

pub there-left : (slots : List (Option Entry)) (xs ys : List ℕ) → AreThere slots (xs ++ ys) → AreThere slots xs
there-left slots [] ys there = tt
there-left slots (k ∷ xs) ys there = (there.0, there-left slots xs ys there.1)

pub there-right : (slots : List (Option Entry)) (xs ys : List ℕ) → AreThere slots (xs ++ ys) → AreThere slots ys
there-right slots [] ys there = there
there-right slots (k ∷ xs) ys there = there-right slots xs ys there.1

length-front : (o : Option Entry) (submits : List Pending) (n : ℕ) → IsThere o → length submits ≡ n → length (in_front o submits) ≡ suc n
length-front None submits n there same = absurd there
length-front (Some entry) submits n there same = ap suc same

pub length-submits : (slots : List (Option Entry)) (keys : List ℕ) → AreThere slots keys → length (submits_of slots keys) ≡ length keys
length-submits slots [] there = refl
length-submits slots (k ∷ keys) there = length-front (entry_at slots k) (submits_of slots keys) (length keys) there.0 (length-submits slots keys there.1)
