-- a text is cut at its first NL, and a bus id at its first zero
use Rattle.std.proofs.Common.{⊎_elim, zero, suc, ◌-◌, ◌≡◌, ℕ, ◌+◌, ◌<◌, ◌≤◌, Bool, true, false, eqb, Option, Some, None, List, [], ◌∷◌, ◌++◌, length, get_or, take, drop, refl, sym, ap, ◌∙◌, subst, arith}
use Rattle.std.proofs.lemmas.Bool.{cases_lt, cond_below, cond_above, eqb-true}
use Rattle.std.proofs.lemmas.List.{take_all, take_rest, take-append-drop, drop_more}
use Rattle.std.proofs.lemmas.List.Splits.{slice_split_first}
use Rattle.std.proofs.lemmas.List.Sums.{position_or_len_is}
use Rattle.std.specs.List.{AllByRecursion, position_or_len, position, before_first, onto_first}
use Rattle.memchr.specs.Find.{IsFirstByte, is_byte}
use Rattle.event_text.specs.Script.{if_none}
use Rattle.event_text.specs.Words.{IsInside, lines_of, words_of}

not_true : (b : Bool) → (b ≡ true → ⊥) → b ≡ false
not_true true never = absurd (never refl)
not_true false never = refl

-- ---- a text is cut at its first NL

-- no byte before the first NL is one
inside_front : (bytes : List ℕ) (n : ℕ) → n ≤ length bytes → ((k : ℕ) → k < n → IsInside (get_or bytes k 0)) → AllByRecursion IsInside (take n bytes)
inside_front bytes zero fits inside = tt
inside_front [] (suc n) fits inside = absurd (omega (arith, fits))
inside_front (byte ∷ bytes) (suc n) fits inside = (inside 0 (omega arith), inside_front bytes n (omega (arith, fits)) (λ k below. inside (suc k) (omega (arith, below))))

pub nl_none : (bytes : List ℕ) → IsFirstByte (is_byte 10) bytes None → AllByRecursion IsInside bytes
nl_none bytes nowhere =
    subst (λ xs. AllByRecursion IsInside xs) (take_all (length bytes) bytes (omega arith))
    (inside_front bytes (length bytes) (omega arith) (λ k below. not_true (eqb (get_or bytes k 0) 10) (nowhere k (omega arith) below)))

pub nl_some : (bytes : List ℕ) (n : ℕ) → IsFirstByte (is_byte 10) bytes (Some n)
    → AllByRecursion IsInside (take n bytes) × (bytes ≡ take n bytes ++ 10 ∷ take (length bytes - (n + 1)) (drop (n + 1) bytes))
nl_some bytes n (first, passes) =
    let high : n < length bytes = first.high in
    let here : get_or bytes n 0 ≡ 10 = eqb-true _ _ passes in
    let rest : drop n bytes ≡ 10 ∷ drop (n + 1) bytes = drop_more bytes n 0 high ∙ ap (λ b. b ∷ drop (n + 1) bytes) here in
    let all : take (length bytes - (n + 1)) (drop (n + 1) bytes) ≡ drop (n + 1) bytes = take_rest bytes (n + 1) in (
      inside_front bytes n (omega (arith, high)) (λ k below. not_true (eqb (get_or bytes k 0) 10) (first.before k (omega arith) below)),
      rw all (sym (take-append-drop n bytes) ∙ ap (λ xs. take n bytes ++ xs) rest),
    )

nl_ends : (line more : List ℕ) → AllByRecursion IsInside line → lines_of (line ++ 10 ∷ more) ≡ line ∷ lines_of more
nl_ends [] more inside = refl
nl_ends (byte ∷ line) more inside =
    let first : lines_of (byte ∷ (line ++ 10 ∷ more)) ≡ onto_first byte (lines_of (line ++ 10 ∷ more)) = rw inside.0 refl in
    first ∙ ap (onto_first byte) (nl_ends line more inside.1)

pub cut_at : (source line more : List ℕ) → AllByRecursion IsInside line → source ≡ line ++ 10 ∷ more → lines_of source ≡ line ∷ lines_of more
cut_at source line more inside e = ap lines_of e ∙ nl_ends line more inside

-- and with none there is one line
pub uncut : (line : List ℕ) → AllByRecursion IsInside line → 0 < length line → lines_of line ≡ line ∷ []
uncut [] inside some = absurd (omega (arith, some))
uncut (byte ∷ []) inside some = rw inside.0 refl
uncut (byte ∷ second ∷ line) inside some =
    let first : lines_of (byte ∷ second ∷ line) ≡ onto_first byte (lines_of (second ∷ line)) = rw inside.0 refl in
    first ∙ ap (onto_first byte) (uncut (second ∷ line) inside.1 (omega arith))

-- ---- places

-- a search for the first byte that passes answers its place
pub place_found : (p : ℕ → Bool) (bytes : List ℕ) (place : Option ℕ) → IsFirstByte p bytes place → place ≡ position p bytes
place_found p bytes None nowhere =
    let all : position_or_len p bytes ≡ length bytes =
    position_or_len_is p bytes (length bytes) 0 (omega arith) (λ k within. not_true (p (get_or bytes k 0)) (nowhere k (omega arith) within)) (λ past. absurd (omega (arith, past))) in
    let past : length bytes ≤ position_or_len p bytes = omega (arith, all) in
    cond_above _ _ _ _ None past refl
place_found p bytes (Some n) (first, passes) =
    let high : n < length bytes = first.high in
    let at : position_or_len p bytes ≡ n =
    position_or_len_is p bytes n 0 (omega (arith, high)) (λ k before. not_true (p (get_or bytes k 0)) (first.before k (omega arith) before)) (λ _. passes) in
    let within : position_or_len p bytes < length bytes = omega (arith, at, high) in
    ap Some (sym at) ∙ cond_below _ _ _ _ within

-- the place of a first byte that passes
placed : (p : ℕ → Bool) (bytes : List ℕ) (n : ℕ) → position p bytes ≡ Some n → (position_or_len p bytes ≡ n) × (n < length bytes)
placed p bytes n e =
    ⊎_elim
    (λ within.
    let same : position p bytes ≡ Some (position_or_len p bytes) = sym (cond_below _ _ _ _ within) in
    let found : Some n ≡ Some (position_or_len p bytes) = sym e ∙ same in
    let at : n ≡ position_or_len p bytes = cc in
    (sym at, omega (arith, within, at)))
    (λ past.
    let none : position p bytes ≡ None = sym (cond_above _ _ _ _ None past refl) in
    let found : Some n ≡ None = sym e ∙ none in
    absurd (cc found))
    (cases_lt (position_or_len p bytes) (length bytes))

missing : (p : ℕ → Bool) (bytes : List ℕ) → position p bytes ≡ None → length bytes ≤ position_or_len p bytes
missing p bytes e =
    ⊎_elim
    (λ within.
    let same : position p bytes ≡ Some (position_or_len p bytes) = sym (cond_below _ _ _ _ within) in
    let found : None ≡ Some (position_or_len p bytes) = sym e ∙ same in
    absurd (cc found))
    (λ past. past)
    (cases_lt (position_or_len p bytes) (length bytes))

-- what stands before the first byte that passes
pub before_at : (p : ℕ → Bool) (bytes : List ℕ) (n : ℕ) → position p bytes ≡ Some n → take n bytes ≡ before_first p bytes
before_at p bytes n e = ap (λ m. take m bytes) (sym (placed p bytes n e).0)

pub before_none : (p : ℕ → Bool) (bytes : List ℕ) → position p bytes ≡ None → bytes ≡ before_first p bytes
before_none p bytes e = sym (take_all _ _ (missing p bytes e))

-- ---- a line is cut at its first space

abbrev is_space : ℕ → Bool
is_space byte = eqb byte 32

pub word_at : (line : List ℕ) (n : ℕ) → position is_space line ≡ Some n → words_of line ≡ take n line ∷ words_of (take (length line - (n + 1)) (drop (n + 1) line))
word_at line n e =
    let at = placed is_space line n e in
    let all : take (length line - (n + 1)) (drop (n + 1) line) ≡ drop (n + 1) line = take_rest line (n + 1) in
    let first : words_of line ≡ take n line ∷ words_of (drop (n + 1) line) =
    subst (λ m. words_of line ≡ take m line ∷ words_of (drop (m + 1) line)) at.0 (slice_split_first is_space line 0 (omega (arith, at.0, at.1))) in
    rw all first

word_by : (b : ℕ) (bs : List ℕ) (t : Bool) → is_space b ≡ t → (length bs ≤ position_or_len is_space bs → words_of bs ≡ bs ∷ [])
    → length (b ∷ bs) ≤ position_or_len is_space (b ∷ bs) → words_of (b ∷ bs) ≡ (b ∷ bs) ∷ []
word_by b bs true e again h =
    let none : position_or_len is_space (b ∷ bs) ≡ 0 = rw e refl in
    absurd (omega (arith, h, none))
word_by b bs false e again h =
    let one : position_or_len is_space (b ∷ bs) ≡ 1 + position_or_len is_space bs = rw e refl in
    let words : words_of (b ∷ bs) ≡ onto_first b (words_of bs) = rw e refl in
    words ∙ ap (onto_first b) (again (omega (arith, h, one)))

whole_word : (line : List ℕ) → length line ≤ position_or_len is_space line → words_of line ≡ line ∷ []
whole_word [] h = refl
whole_word (b ∷ bs) h = word_by b bs (is_space b) refl (whole_word bs) h

pub one_word : (line : List ℕ) → position is_space line ≡ None → words_of line ≡ line ∷ []
one_word line e = whole_word line (missing is_space line e)

-- a line has at least one word
onto_some : (b : ℕ) (parts : List (List ℕ)) → if_none (onto_first b parts) ≡ None
onto_some b [] = refl
onto_some b (part ∷ parts) = refl

some_by : (b : ℕ) (bs : List ℕ) (t : Bool) → is_space b ≡ t → if_none (words_of (b ∷ bs)) ≡ None
some_by b bs true e = rw e refl
some_by b bs false e = rw e (onto_some b (words_of bs))

pub some_word : (line : List ℕ) → if_none (words_of line) ≡ None
some_word [] = refl
some_word (b ∷ bs) = some_by b bs (is_space b) refl
