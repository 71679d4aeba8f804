-- numbers and HEX, written in pieces
use Rattle.std.proofs.Common.{◌≡◌, ◌∙◌, refl, sym, ap, ℕ, ◌+◌, ◌^◌, ◌<◌, ◌≤◌, List, [], ◌∷◌, ◌++◌, map, append_assoc, arith}
use Rattle.std.specs.Prelude.{◌/◌, ◌%◌, slice_index}
use Rattle.std.specs.Fmt.{decimal}
use Rattle.std.specs.Int.Digits.{digits_of}
use Rattle.std.proofs.lemmas.Fmt.{decimal-digits_of}
use Rattle.std.proofs.lemmas.Int.Digits.{digits_of_step}
use Rattle.std.proofs.lemmas.List.{map-append}
use Rattle.hex.specs.Hex.{encode_lower, encode_with, lower_digits}

-- the last digit of a number stands behind the others
pub decimal_step : (n : ℕ) → 10 ≤ n → n < 2 ^ 64 → decimal n ≡ decimal (n / 10) ++ (48 + n % 10) ∷ []
decimal_step n high low =
    decimal-digits_of n (omega (arith, high)) (omega (arith, low))
    ∙ (ap (λ (l : List ℕ). map (λ (d : ℕ). 48 + d) l) (digits_of_step 10 n (omega arith) (omega (arith, high)))
    ∙ (map-append (λ (d : ℕ). 48 + d) (digits_of 10 (n / 10)) (n % 10 ∷ [])
    ∙ ap (λ (l : List ℕ). l ++ (48 + n % 10) ∷ []) (sym (decimal-digits_of (n / 10) (omega (arith, high)) (omega (arith, low))))))

-- bytes in two pieces
pub encode_pieces : (a b : List ℕ) → encode_lower (a ++ b) ≡ encode_lower a ++ encode_lower b
unfolding encode_with
encode_pieces [] b = refl
encode_pieces (x ∷ a) b = ap (λ (l : List ℕ). slice_index lower_digits (x / 16) ∷ slice_index lower_digits (x % 16) ∷ l) (encode_pieces a b)

pub encode_none : encode_lower [] ≡ []
unfolding encode_with
encode_none = refl

-- what stands behind the number and the status of an answer
pub answered_then : (old name number status rest : List ℕ)
    → (old ++ (name ++ (number ++ 32 ∷ status))) ++ rest ≡ old ++ (name ++ (number ++ 32 ∷ (status ++ rest)))
answered_then old name number status rest =
    append_assoc old (name ++ (number ++ 32 ∷ status)) rest
    ∙ ap (λ (l : List ℕ). old ++ l) (append_assoc name (number ++ 32 ∷ status) rest
    ∙ ap (λ (l : List ℕ). name ++ l) (append_assoc number (32 ∷ status) rest))
