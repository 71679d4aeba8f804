-- a word is a number exactly where it is what is written of one
use Rattle.std.proofs.Common.{◌≡◌, ℕ, ◌<◌, ◌^◌, Bool, true, false, cond, ltb, ◌&&◌, Some, None, List, refl, sym, ap, ◌∙◌, arith}
use Rattle.std.proofs.lemmas.Bool.{lt-ltb, ltb-true, and_parts}
use Rattle.std.proofs.lemmas.Fmt.{decimal_is_IsNumeral}
use Rattle.std.proofs.lemmas.Slice.Eq.{bytes_eq-Decides}
use Rattle.std.specs.Fmt.{decimal}
use Rattle.std.specs.Str.{bytes_eq}
use Rattle.std.specs.Str.Parse.{digits_value}
use Rattle.event_text.specs.Words.{number_of}

test : List ℕ → Bool
test word = ltb (digits_value 10 word) (2 ^ 32) && bytes_eq (decimal (digits_value 10 word)) word

value_of : (word : List ℕ) (n : ℕ) → n < 2 ^ 32 → word ≡ decimal n → digits_value 10 word ≡ n
value_of word n small e = ap (digits_value 10) e ∙ (decimal_is_IsNumeral n (omega (arith, small))).1

tested : (word : List ℕ) (n : ℕ) → n < 2 ^ 32 → word ≡ decimal n → (ltb n (2 ^ 32) && bytes_eq (decimal n) word) ≡ true
tested word n small e =
    let below : ltb n (2 ^ 32) ≡ true = lt-ltb n (2 ^ 32) small in
    let same : bytes_eq (decimal n) word ≡ true = (bytes_eq-Decides (decimal n) word).1 (sym e) in
    rw below same

-- what is written of a number is that number
pub number_is : (word : List ℕ) (n : ℕ) → n < 2 ^ 32 → word ≡ decimal n → Some n ≡ number_of word
number_is word n small e =
    let value : digits_value 10 word ≡ n = value_of word n small e in
    rw value (sym (ap (λ b. cond b (Some n) None) (tested word n small e)))

not_number_by : (word : List ℕ) → ((n : ℕ) → n < 2 ^ 32 → word ≡ decimal n → ⊥) → (b : Bool) → (ltb (digits_value 10 word) (2 ^ 32) && bytes_eq (decimal (digits_value 10 word)) word) ≡ b → None ≡ cond b (Some (digits_value 10 word)) None
not_number_by word none true e =
    let parts = and_parts (ltb (digits_value 10 word) (2 ^ 32)) (bytes_eq (decimal (digits_value 10 word)) word) e in
    absurd (none (digits_value 10 word) (ltb-true (digits_value 10 word) (2 ^ 32) parts.0) (sym ((bytes_eq-Decides (decimal (digits_value 10 word)) word).0 parts.1)))
not_number_by word none false e = refl

pub not_number : (word : List ℕ) → ((n : ℕ) → n < 2 ^ 32 → word ≡ decimal n → ⊥) → None ≡ number_of word
not_number word none = not_number_by word none _ refl

number_was_by : (word : List ℕ) (n : ℕ) (b : Bool) → (ltb (digits_value 10 word) (2 ^ 32) && bytes_eq (decimal (digits_value 10 word)) word) ≡ b
    → cond b (Some (digits_value 10 word)) None ≡ Some n → word ≡ decimal n
number_was_by word n true e same =
    let parts = and_parts (ltb (digits_value 10 word) (2 ^ 32)) (bytes_eq (decimal (digits_value 10 word)) word) e in
    let value : digits_value 10 word ≡ n = cc in
    sym ((bytes_eq-Decides (decimal (digits_value 10 word)) word).0 parts.1) ∙ ap decimal value
number_was_by word n false e same = absurd (cc same)

-- and a number is what is written of it
pub number_was : (word : List ℕ) (n : ℕ) → number_of word ≡ Some n → word ≡ decimal n
number_was word n same = number_was_by word n _ refl same
