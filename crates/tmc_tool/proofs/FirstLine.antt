-- the first line of some bytes is one, and one line is not both asked and refused
use Rattle.std.proofs.Common.{◌≡◌, ⊎_elim, ℕ, ◌+◌, ◌≤◌, List, [], ◌∷◌, ◌++◌, length, refl, sym, ap, ◌∙◌, subst, arith, length-append}
use Rattle.std.specs.Prelude.{Contains}
use Rattle.std.proofs.lemmas.List.Elements.{Contains-append_right}
use Rattle.event_text.specs.declared.line_fault.LineWhat.{LineWhat}
use Rattle.event_text.specs.declared.line_fault.LineWhat.TheVariants.{Words, EmptyMessage, LongMessage, NotYet}
use Rattle.tmc_tool.specs.Line.{IsFirstLine, IsQuestion, IsRefused, Responds}

-- the plain instrument gives one answer to a message
abbrev pub OneAnswer : Type 0
OneAnswer = (message response other : List ℕ) → Responds message response → Responds message other → response ≡ other

-- a list contains its first element
first_in : (xs : List ℕ) (x : ℕ) → Contains (x ∷ xs) x
first_in xs x = (0, omega arith, refl)

in_rest : (xs : List ℕ) (x y : ℕ) → Contains xs x → Contains (y ∷ xs) x
in_rest xs x y held = Contains-append_right (y ∷ []) xs x held

split_in : (xs ys : List ℕ) → Contains (xs ++ 10 ∷ ys) 10
split_in xs ys = Contains-append_right xs (10 ∷ ys) 10 (first_in ys 10)

tail_same : {x y : ℕ} {xs ys : List ℕ} → x ∷ xs ≡ y ∷ ys → xs ≡ ys
tail_same e = cc

head_same : {x y : ℕ} {xs ys : List ℕ} → x ∷ xs ≡ y ∷ ys → x ≡ y
head_same e = cc

-- lists without the element in front of it are one
at_seam : (m n b d : List ℕ) → (Contains m 10 → ⊥) → (Contains n 10 → ⊥) → m ++ 10 ∷ b ≡ n ++ 10 ∷ d → (m ≡ n) × (b ≡ d)
at_seam [] [] b d p q e = (refl, tail_same e)
at_seam [] (y ∷ n) b d p q e = absurd (q (subst (λ z. Contains (y ∷ n) z) (sym (head_same e)) (first_in n y)))
at_seam (x ∷ m) [] b d p q e = absurd (p (subst (λ z. Contains (x ∷ m) z) (head_same e) (first_in m x)))
at_seam (x ∷ m) (y ∷ n) b d p q e =
    let rest = at_seam m n b d (λ h. p (in_rest m 10 x h)) (λ h. q (in_rest n 10 y h)) (tail_same e) in
    let heads : x ≡ y = head_same e in
    let tails : m ≡ n = rest.0 in
    (cc, rest.1)

-- the first line is one
pub same_line : (bytes m n b d : List ℕ) → IsFirstLine bytes m b → IsFirstLine bytes n d → (m ≡ n) × (b ≡ d)
same_line bytes m n b d first second =
    ⊎_elim
    (λ alone. ⊎_elim
    (λ other. (sym alone.0 ∙ other.0, alone.1 ∙ sym other.1))
    (λ other. absurd (first.pure (subst (λ xs. Contains xs 10) (sym (sym alone.0 ∙ other)) (split_in n d))))
    second.cut)
    (λ ended. ⊎_elim
    (λ other. absurd (second.pure (subst (λ xs. Contains xs 10) (sym (sym other.0 ∙ ended)) (split_in m b))))
    (λ other. at_seam m n b d first.pure second.pure (sym ended ∙ other))
    second.cut)
    first.cut

-- a line that is nothing but a message, with or without an NL, has at most one byte more
pub line_size : (bytes message : List ℕ) → IsFirstLine bytes message [] → length bytes ≤ length message + 1
line_size bytes message line =
    ⊎_elim
    (λ alone. omega (arith, ap length alone.0))
    (λ ended. omega (arith, ap length ended, length-append message (10 ∷ [])))
    line.cut

-- a line that can be asked is not refused
pub not_refused : OneAnswer → (bytes message : List ℕ) (line : ℕ) (what : LineWhat) → IsQuestion bytes message → IsRefused bytes line what → ⊥
not_refused one bytes message line Words question refused =
    let r = refused.1 in
    let same = same_line bytes message r.0 [] r.1 question.line r.2 in
    omega (arith, r.4, ap length same.1)
not_refused one bytes message line EmptyMessage question refused =
    let r = refused.1 in
    let same = same_line bytes message [] [] r.0 question.line r.1 in
    omega (arith, question.asked.some, ap length same.0)
not_refused one bytes message line LongMessage question refused =
    let r = refused.1 in
    let same = same_line bytes message r.0 [] r.1 question.line r.2 in
    omega (arith, r.3, question.asked.short, ap length same.0)
not_refused one bytes message line NotYet question refused =
    let r = refused.1 in
    let same = same_line bytes message r.0 [] r.1 question.line r.2 in
    let none : question.asked.response ≡ [] = one message question.asked.response [] question.asked.responds (subst (λ m. Responds m []) (sym same.0) r.5) in
    omega (arith, question.asked.answered, ap length none)
not_refused one bytes message line what question refused = absurd refused
