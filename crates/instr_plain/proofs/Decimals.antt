-- how many digits a number has
use Rattle.std.proofs.Common.{◌≡◌, ◌∙◌, ℕ, ◌+◌, ◌/◌, ◌%◌, ◌^◌, ◌<◌, ◌≤◌, [], ◌∷◌, length, ap, arith, length-append}
use Rattle.std.proofs.lemmas.Fmt.{decimal_digit, decimal_step}
use Rattle.std.specs.Fmt.{decimal}

pub one_digit : (n : ℕ) → n < 10 → length (decimal n) ≡ 1
one_digit n h = ap length (decimal_digit n h)

pub more_digits : (n : ℕ) → 10 ≤ n → n < 2 ^ 64 → length (decimal n) ≡ length (decimal (n / 10)) + 1
more_digits n low high = ap length (decimal_step n low high) ∙ length-append (decimal (n / 10)) ((48 + n % 10) ∷ [])

pub two_digits : (n : ℕ) → 10 ≤ n → n < 100 → length (decimal n) ≡ 2
two_digits n low high =
    let front = one_digit (n / 10) (omega arith) in
    let step = more_digits n low (omega arith) in omega arith

pub three_digits : (n : ℕ) → 100 ≤ n → n < 1000 → length (decimal n) ≡ 3
three_digits n low high =
    let front = two_digits (n / 10) (omega arith) (omega arith) in
    let step = more_digits n (omega arith) (omega arith) in omega arith

pub four_digits : (n : ℕ) → 1000 ≤ n → n < 10000 → length (decimal n) ≡ 4
four_digits n low high =
    let front = three_digits (n / 10) (omega arith) (omega arith) in
    let step = more_digits n (omega arith) (omega arith) in omega arith

pub five_digits : (n : ℕ) → 10000 ≤ n → n < 100000 → length (decimal n) ≡ 5
five_digits n low high =
    let front = four_digits (n / 10) (omega arith) (omega arith) in
    let step = more_digits n (omega arith) (omega arith) in omega arith
