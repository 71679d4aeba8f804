-- bytes are cut into descriptors in one way
use Rattle.std.proofs.Common.{◌≡◌, ℕ, List, [], ◌∷◌, ◌++◌, length, take, drop, refl, sym, ap, subst, ◌∙◌, append_assoc, arith, inl, inr}
use Rattle.std.specs.List.{concat, AllByRecursion}
use Rattle.std.proofs.lemmas.List.{length-append, take_at, drop_at, append-nil}
use Rattle.usb_setup.specs.Descriptors.{IsDescriptor, IsBad, IsBadAt, AreDescriptors, IsBrokenAt}

-- no descriptor stands in front
abbrev IsStuck : List ℕ → Type 0
IsStuck rest = (d more : List ℕ) → IsDescriptor d → rest ≡ d ++ more → ⊥

nil_is_stuck : IsStuck []
nil_is_stuck d more is e = omega (arith, is.headed, ap length e, length-append d more)

bad_front : (d more : List ℕ) → IsDescriptor d → IsBad (d ++ more) → ⊥
bad_front [] more is bad = omega (arith, is.headed)
bad_front (n ∷ []) more is bad = omega (arith, is.headed)
bad_front (n ∷ t ∷ d) more is bad =
    elim bad.1 [
      | inl low ↦ omega (arith, low, is.counted)
      | inr other ↦ elim other [
        | inl long ↦ omega (arith, long, is.counted, length-append d more)
        | inr small ↦ omega (arith, small, is.counted, is.sized)
      ]
    ]

bad_is_stuck : (rest : List ℕ) → IsBad rest → IsStuck rest
bad_is_stuck rest bad d more is e = bad_front d more is (subst IsBad e bad)

same_length : (a b x y : List ℕ) → IsDescriptor a → IsDescriptor b → a ++ x ≡ b ++ y → length a ≡ length b
same_length [] b x y is-a is-b e = absurd (omega (arith, is-a.headed))
same_length (m ∷ a) [] x y is-a is-b e = absurd (omega (arith, is-b.headed))
same_length (m ∷ a) (n ∷ b) x y is-a is-b e = let same : m ≡ n = cc in sym is-a.counted ∙ same ∙ is-b.counted

heads_agree : (a b x y : List ℕ) → IsDescriptor a → IsDescriptor b → a ++ x ≡ b ++ y → (a ≡ b) × (x ≡ y)
heads_agree a b x y is-a is-b e =
    let n = same_length a b x y is-a is-b e in (
      sym (take_at a x (length b) n) ∙ ap (take (length b)) e ∙ take_at b y (length b) refl,
      sym (drop_at a x (length b) n) ∙ ap (drop (length b)) e ∙ drop_at b y (length b) refl,
    )

cut_once : (a b : List (List ℕ)) (x y : List ℕ) → AllByRecursion IsDescriptor a → AllByRecursion IsDescriptor b → IsStuck x → IsStuck y → concat a ++ x ≡ concat b ++ y → (a ≡ b) × (x ≡ y)
cut_once [] [] x y each-a each-b stuck-x stuck-y e = (refl, e)
cut_once [] (d ∷ b) x y each-a each-b stuck-x stuck-y e =
    absurd (stuck-x d (concat b ++ y) each-b.0 (e ∙ append_assoc d (concat b) y))
cut_once (c ∷ a) [] x y each-a each-b stuck-x stuck-y e =
    absurd (stuck-y c (concat a ++ x) each-a.0 (sym e ∙ append_assoc c (concat a) x))
cut_once (c ∷ a) (d ∷ b) x y each-a each-b stuck-x stuck-y e =
    let heads = heads_agree c d (concat a ++ x) (concat b ++ y) each-a.0 each-b.0 (sym (append_assoc c (concat a) x) ∙ e ∙ append_assoc d (concat b) y) in
    let rest = cut_once a b x y each-a.1 each-b.1 stuck-x stuck-y heads.1 in
    let head = heads.0 in
    let tail = rest.0 in
    (cc, rest.1)

pub one_list : (bytes : List ℕ) (ds es : List (List ℕ)) → AreDescriptors bytes ds → AreDescriptors bytes es → ds ≡ es
one_list bytes ds es a b =
    (cut_once ds es [] [] a.each b.each nil_is_stuck nil_is_stuck (append-nil (concat ds) ∙ sym a.in_row ∙ b.in_row ∙ sym (append-nil (concat es)))).0

bad_or_whole : (bytes : List ℕ) (at : ℕ) (ds : List (List ℕ)) → IsBadAt bytes at → AreDescriptors bytes ds → ⊥
bad_or_whole bytes at ds a b =
    a.bad.0 (cut_once a.front ds a.rest [] a.each b.each (bad_is_stuck a.rest a.bad) nil_is_stuck (sym a.in_row ∙ b.in_row ∙ sym (append-nil (concat ds)))).1

one_bad_place : (bytes : List ℕ) (at to : ℕ) → IsBadAt bytes at → IsBadAt bytes to → at ≡ to
one_bad_place bytes at to a b =
    let same = (cut_once a.front b.front a.rest b.rest a.each b.each (bad_is_stuck a.rest a.bad) (bad_is_stuck b.rest b.bad) (sym a.in_row ∙ b.in_row)).0 in
    a.place ∙ ap (λ (ds : List (List ℕ)). length (concat ds)) same ∙ sym b.place

pub broken_or_whole : (bytes : List ℕ) (at : ℕ) (ds : List (List ℕ)) → IsBrokenAt bytes at → AreDescriptors bytes ds → ⊥
broken_or_whole bytes at ds (inl a) b = a.1 b.begins
broken_or_whole bytes at ds (inr a) b = bad_or_whole bytes at ds a.1 b

pub one_break : (bytes : List ℕ) (at to : ℕ) → IsBrokenAt bytes at → IsBrokenAt bytes to → at ≡ to
one_break bytes at to (inl a) (inl b) = a.0 ∙ sym b.0
one_break bytes at to (inl a) (inr b) = absurd (a.1 b.0)
one_break bytes at to (inr a) (inl b) = absurd (b.1 a.0)
one_break bytes at to (inr a) (inr b) = one_bad_place bytes at to a.1 b.1
