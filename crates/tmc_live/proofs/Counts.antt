-- a word is a number of connections exactly where it is what is written of one
use Rattle.std.proofs.Common.{◌≡◌, ◌↔◌, ℕ, zero, suc, ◌<◌, ◌≤◌, ◌^◌, Bool, true, false, cond, leb, eqb, ◌&&◌, Some, None, List, [], ◌∷◌, length, get_or, drop, refl, sym, ap, ◌∙◌, subst, arith}
use Rattle.std.proofs.lemmas.Bool.{le-leb, leb-true, ne_eqb, and_parts}
use Rattle.std.proofs.lemmas.Fmt.{decimal_is_IsNumeral, decimal-digits_value, decimal_digit, first_decimal}
use Rattle.std.proofs.lemmas.Str.Parse.{numerals_by_value, tells_digits, digit_from_value}
use Rattle.std.specs.Fmt.{decimal}
use Rattle.std.specs.Str.Parse.{AllDigits, IsNumeral, digits_value, without_leading_plus}
use Rattle.tmc_live.specs.Command.{IsCount, begins_above_zero}

-- its first byte is a digit above 0
first_byte : (c : ℕ) → (leb 49 c && leb c 57) ≡ true → 49 ≤ c
first_byte c e = leb-true 49 c (and_parts (leb 49 c) (leb c 57) e).0

pub signless : (word : List ℕ) → begins_above_zero word ≡ true → without_leading_plus word ≡ word
signless [] e = refl
signless (c ∷ cs) e =
    let plus : eqb c 43 ≡ false = ne_eqb _ _ (λ is. let above = first_byte c e in omega (arith, above, is)) in
    ap (λ (b : Bool). drop (cond b 1 0) (c ∷ cs)) plus

leads : (word : List ℕ) → begins_above_zero word ≡ true → get_or word 0 0 ≡ 48 → length word ≡ 1
leads [] e zero_first = cc
leads (c ∷ cs) e zero_first = absurd (let above = first_byte c e in omega (arith, above, zero_first))

pub counted : (word : List ℕ) → begins_above_zero word ≡ true → IsNumeral 10 word → digits_value 10 word < 2 ^ 32 → word ≡ decimal (digits_value 10 word)
counted word e digits small =
    sym (decimal-digits_value (numerals_by_value (AllDigits 10) tells_digits) word digits.1 digits.0 (leads word e) (omega (arith, small)))

begins : (word : List ℕ) → IsNumeral 10 word → 48 < get_or word 0 0 → begins_above_zero word ≡ true
begins [] digits first = absurd (omega (arith, digits.0))
begins (c ∷ cs) digits first =
    let above : leb 49 c ≡ true = le-leb 49 c (omega (arith, first)) in
    let below : leb c 57 ≡ true = le-leb c 57 (omega (arith, digit_from_value c digits.1.0)) in
    rw above below

pub begins_decimal : (n : ℕ) → 1 ≤ n → n < 2 ^ 32 → begins_above_zero (decimal n) ≡ true
begins_decimal n some small = begins (decimal n) (decimal_is_IsNumeral n (omega (arith, small))).0 (first_decimal n (omega (arith, some)) (omega (arith, small)))

zero_begins : begins_above_zero (decimal 0) ≡ false
zero_begins = ap begins_above_zero (decimal_digit 0 (omega arith))

pub above_zero : (word : List ℕ) (n : ℕ) → word ≡ decimal n → begins_above_zero word ≡ true → 1 ≤ n
above_zero word zero e begun = absurd (let none : begins_above_zero word ≡ false = ap begins_above_zero e ∙ zero_begins in cc)
above_zero word (suc n) e begun = omega arith

same_number : (word : List ℕ) (n m : ℕ) → n < 2 ^ 32 → m < 2 ^ 32 → word ≡ decimal n → word ≡ decimal m → n ≡ m
same_number word n m small also e d =
    sym (decimal_is_IsNumeral n (omega (arith, small))).1 ∙ (ap (digits_value 10) (sym e ∙ d) ∙ (decimal_is_IsNumeral m (omega (arith, also))).1)

some_same : {x y : ℕ} → Some x ≡ Some y → x ≡ y
some_same e = cc

-- the number that a word is, and no other
pub count_is : (word : List ℕ) (n : ℕ) → word ≡ decimal n → 1 ≤ n → n ≤ 1000 → (count : ℕ) → (Some n ≡ Some count) ↔ IsCount word count
count_is word n e some few count = (
  λ same. subst (λ m. IsCount word m) (some_same same) (record { spelled = e; some = some; few = few }),
  λ is. ap (λ m. Some m) (same_number word n count (omega (arith, few)) (let short = is.few in omega (arith, short)) e is.spelled),
)

pub no_count : (word : List ℕ) → ((n : ℕ) → IsCount word n → ⊥) → (count : ℕ) → (None ≡ Some count) ↔ IsCount word count
no_count word none count = (λ same. absurd cc, λ is. absurd (none count is))

-- a number above 1,000 is none of connections
pub too_many : (word : List ℕ) (n : ℕ) → word ≡ decimal n → n < 2 ^ 32 → 1000 < n → (m : ℕ) → IsCount word m → ⊥
too_many word n e small many m is =
    let short = is.few in
    let same = same_number word n m small (omega (arith, short)) e is.spelled in
    omega (arith, short, many, same)
