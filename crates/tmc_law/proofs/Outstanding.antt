-- the outstanding messages, and their numbers
use Rattle.std.proofs.Common.{◌≡◌, ℕ, Bool, true, false, List, [], ◌∷◌, ◌++◌, Option, Some, None, inl, inr, refl, sym, ap, subst, ◌∙◌, eq-eqb}
use Rattle.std.specs.Prelude.{◌≢◌, ◌==◌, if◌then◌else◌}
use Rattle.std.proofs.lemmas.Bool.{ne_eqb, cases_eq}
use Rattle.usbip_wire.specs.declared.dirs.Outstanding.{Outstanding}
use Rattle.usbip_wire.specs.Dirs.{find, others, number_of}

-- no entry has this number
abbrev pub NoneHas : ℕ → List Outstanding → Type 0
NoneHas seqnum [] = Unit {0}
NoneHas seqnum (entry ∷ entries) = (number_of entry ≢ seqnum) × NoneHas seqnum entries

append_step : (b : Bool) (x e : Outstanding) (few all : Option Outstanding) → (if b then Some x else few) ≡ Some e → (few ≡ Some e → all ≡ Some e)
    → (if b then Some x else all) ≡ Some e
append_step true x e few all f h = f
append_step false x e few all f h = h f

some_none : (x : Outstanding) (few : Option Outstanding) (b : Bool) → b ≡ true → (if b then Some x else few) ≡ None → ⊥
some_none x few true is none = cc
some_none x few false is none = cc

later_none : (x : Outstanding) (few : Option Outstanding) (b : Bool) → b ≡ false → (if b then Some x else few) ≡ None → few ≡ None
later_none x few true is none = cc
later_none x few false is none = none

pub find_more : (n : ℕ) (xs ys : List Outstanding) (e : Outstanding) → find n xs ≡ Some e → find n (xs ++ ys) ≡ Some e
find_more n [] ys e f = absurd cc
find_more n (x ∷ xs) ys e f =
    append_step (number_of x == n) x e (find n xs) (find n (xs ++ ys)) f (find_more n xs ys e)

pub find_new : (n : ℕ) (xs : List Outstanding) (e : Outstanding) → number_of e ≡ n → NoneHas n xs → find n (xs ++ e ∷ []) ≡ Some e
find_new n [] e same none = rw (eq-eqb (number_of e) n same) refl
find_new n (x ∷ xs) e same none = rw (ne_eqb (number_of x) n none.0) (find_new n xs e same none.1)

pub find_none : (n : ℕ) (xs : List Outstanding) → NoneHas n xs → find n xs ≡ None
find_none n [] none = refl
find_none n (x ∷ xs) none = rw (ne_eqb (number_of x) n none.0) (find_none n xs none.1)

pub find_others : (k n : ℕ) (xs : List Outstanding) → k ≢ n → find k (others n xs) ≡ find k xs
find_others k n [] apart = refl
find_others k n (x ∷ xs) apart =
    elim (cases_eq (number_of x) n) [
      | inl same ↦
          let other : number_of x ≢ k = λ e. apart (sym e ∙ same) in
          rw (eq-eqb (number_of x) n same, ne_eqb (number_of x) k other) (find_others k n xs apart)
      | inr differs ↦
          rw (ne_eqb (number_of x) n differs) (ap (λ (o : Option Outstanding). if number_of x == k then Some x else o) (find_others k n xs apart))
    ]

-- ---- what no entry has

pub none_has : (n : ℕ) (xs : List Outstanding) → find n xs ≡ None → NoneHas n xs
none_has n [] none = tt
none_has n (x ∷ xs) none =
    elim (cases_eq (number_of x) n) [
      | inl same ↦ absurd (some_none x (find n xs) (number_of x == n) (eq-eqb (number_of x) n same) none)
      | inr differs ↦ (differs, none_has n xs (later_none x (find n xs) (number_of x == n) (ne_eqb (number_of x) n differs) none))
    ]

pub none_more : (n : ℕ) (xs : List Outstanding) (e : Outstanding) → NoneHas n xs → number_of e ≢ n → NoneHas n (xs ++ e ∷ [])
none_more n [] e none differs = (differs, tt)
none_more n (x ∷ xs) e none differs = (none.0, none_more n xs e none.1 differs)

others_step : (n : ℕ) (b : Bool) (x : Outstanding) (few : List Outstanding) → number_of x ≢ n → NoneHas n few
    → NoneHas n (if b then few else x ∷ few)
others_step n true x few differs none = none
others_step n false x few differs none = (differs, none)

pub none_others : (n m : ℕ) (xs : List Outstanding) → NoneHas n xs → NoneHas n (others m xs)
none_others n m [] none = tt
none_others n m (x ∷ xs) none = others_step n (number_of x == m) x (others m xs) none.0 (none_others n m xs none.1)

none_same : (n : ℕ) (xs : List Outstanding) → NoneHas n (others n xs)
none_same n [] = tt
none_same n (x ∷ xs) =
    elim (cases_eq (number_of x) n) [
      | inl same ↦ rw (eq-eqb (number_of x) n same) (none_same n xs)
      | inr differs ↦ rw (ne_eqb (number_of x) n differs) (differs, none_same n xs)
    ]

-- only this number may have been there
pub none_left : (n m : ℕ) (xs : List Outstanding) → (m ≢ n → NoneHas n xs) → NoneHas n (others m xs)
none_left n m xs none =
    elim (cases_eq m n) [
      | inl same ↦ subst (λ (k : ℕ). NoneHas n (others k xs)) (sym same) (none_same n xs)
      | inr differs ↦ none_others n m xs (none differs)
    ]
