-- a word without a sign and without a leading zero is what is written of the number that it is
use Rattle.std.proofs.Common.{◌≡◌, ℕ, zero, suc, ◌<◌, ◌≤◌, ◌^◌, Bool, true, false, cond, leb, eqb, ◌&&◌, List, [], ◌∷◌, length, get_or, drop, refl, sym, ap, arith}
use Rattle.std.proofs.lemmas.Bool.{le-leb, leb-true, ne_eqb, and_parts}
use Rattle.std.proofs.lemmas.Fmt.{decimal_is_IsNumeral, decimal-digits_value, decimal_digit, first_decimal}
use Rattle.std.proofs.lemmas.Str.Parse.{numerals_by_value, tells_digits, digit_from_value}
use Rattle.std.specs.Fmt.{decimal}
use Rattle.std.specs.Str.Parse.{AllDigits, IsNumeral, digits_value, without_leading_plus}
use Rattle.event_text.specs.Read.{starts_plain}

both : (low c : ℕ) → low ≤ c → c ≤ 57 → (leb low c && leb c 57) ≡ true
both low c l h = let yes : leb low c ≡ true = le-leb low c l in let no_more : leb c 57 ≡ true = le-leb c 57 h in rw yes no_more

no_plus : (c : ℕ) (cs : List ℕ) → 48 ≤ c → without_leading_plus (c ∷ cs) ≡ c ∷ cs
no_plus c cs h =
    let plus : eqb c 43 ≡ false = ne_eqb _ _ (λ e. omega (arith, h, e)) in
    ap (λ (b : Bool). drop (cond b 1 0) (c ∷ cs)) plus

pub signless : (word : List ℕ) → starts_plain word ≡ true → without_leading_plus word ≡ word
signless [] e = refl
signless (c ∷ []) e = no_plus c [] (leb-true 48 c (and_parts (leb 48 c) (leb c 57) e).0)
signless (c ∷ d ∷ ds) e = no_plus c (d ∷ ds) (omega (arith, leb-true 49 c (and_parts (leb 49 c) (leb c 57) e).0))

leads : (word : List ℕ) → starts_plain word ≡ true → get_or word 0 0 ≡ 48 → length word ≡ 1
leads [] e zero_first = cc
leads (c ∷ []) e zero_first = refl
leads (c ∷ d ∷ ds) e zero_first = omega (arith, zero_first, leb-true 49 c (and_parts (leb 49 c) (leb c 57) e).0)

pub plain_is : (word : List ℕ) → starts_plain word ≡ true → IsNumeral 10 word → digits_value 10 word < 2 ^ 32 → word ≡ decimal (digits_value 10 word)
plain_is word e digits small =
    sym (decimal-digits_value (numerals_by_value (AllDigits 10) tells_digits) word digits.1 digits.0 (leads word e) (omega (arith, small)))

begins : (word : List ℕ) → IsNumeral 10 word → 48 < get_or word 0 0 → starts_plain word ≡ true
begins [] digits first = absurd (omega (arith, digits.0))
begins (c ∷ []) digits first = both 48 c (omega (arith, first)) (omega (arith, digit_from_value c digits.1.0))
begins (c ∷ d ∷ ds) digits first = both 49 c (omega (arith, first)) (omega (arith, digit_from_value c digits.1.0))

pub written_plain : (n : ℕ) → n < 2 ^ 32 → starts_plain (decimal n) ≡ true
written_plain zero small = ap starts_plain (decimal_digit 0 (omega arith))
written_plain (suc n) small =
    begins (decimal (suc n)) (decimal_is_IsNumeral (suc n) (omega (arith, small))).0 (first_decimal (suc n) (omega arith) (omega (arith, small)))
