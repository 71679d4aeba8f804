-- what the quotient and the rest say of the nearest whole number
use Rattle.std.proofs.Common.{◌≡◌, ℕ, ◌+◌, ◌-◌, ◌*◌, ◌/◌, ◌%◌, ◌^◌, ◌<◌, ◌≤◌, min, refl, ap, ℤ, pos, negsuc, ◌<ℤ◌, ◌≤ℤ◌, arith, add-one, Bool}
use Rattle.std.specs.Prelude.{unsigned_abs}
use Rattle.std.proofs.Math.Nat.{div-eq_of_lt-le, div-mul-le_self, lt-mul-div-succ, mul-le-mul_right, mul-le-mul_left, pow-le-pow_right, one-le-pow}
use Rattle.std.proofs.lemmas.Nat.{le-div, div-add-mod'}
use Rattle.std.proofs.lemmas.Int.{ints}
use Rattle.ieee_syntax.specs.declared.nrf.Nrf.{Nrf}
use Rattle.ieee_syntax.specs.Rounded.{numerator, denominator, nearest, clamped, signed, rounded, IsNearest, Rounds}

nearest_is : (a b r : ℕ) → r * (2 * b) ≤ 2 * a + b → 2 * a + b < (r + 1) * (2 * b) → nearest a b ≡ r
nearest_is a b r low high = div-eq_of_lt-le (2 * b) low high

-- at or above the limit
pub clamped_far : (a b : ℕ) → 0 < b → 1000000 * b ≤ a → 1000000 ≡ clamped a b
clamped_far a b some far =
    let h : 1000000 ≤ nearest a b = le-div 1000000 (2 * a + b) (2 * b) (omega arith) (omega arith) in
    omega arith

clamped_is : (a b r : ℕ) → r ≤ 1000000 → r * (2 * b) ≤ 2 * a + b → 2 * a + b < (r + 1) * (2 * b) → r ≡ clamped a b
clamped_is a b r small low high = omega (arith, nearest_is a b r low high)

-- a whole number is its own
pub clamped-one : (a : ℕ) → clamped a 1 ≡ min a 1000000
clamped-one a = ap (λ n. min n 1000000) (nearest_is a 1 a (omega arith) (omega arith))

pub clamped-zeros_many : (a zeros : ℕ) → 0 < a → 6 < zeros → 1000000 ≡ clamped (a * 10 ^ zeros) 1
clamped-zeros_many a zeros some many =
    let power : 10 ^ 7 ≤ 10 ^ zeros = pow-le-pow_right {n = 10} (omega arith) {i = 7} many in
    let product : 1 * 10 ^ zeros ≤ a * 10 ^ zeros = mul-le-mul_right (10 ^ zeros) some in
    clamped_far (a * 10 ^ zeros) 1 (omega arith) (omega arith)

pub clamped-zeros_great : (a zeros : ℕ) → 1000000 ≤ a → 1000000 ≡ clamped (a * 10 ^ zeros) 1
clamped-zeros_great a zeros great =
    let power : 1 ≤ 10 ^ zeros = one-le-pow zeros 10 (omega arith) in
    let product : a * 1 ≤ a * 10 ^ zeros = mul-le-mul_left a power in
    clamped_far (a * 10 ^ zeros) 1 (omega arith) (omega arith)

-- below a half
pub clamped-places_many : (a places : ℕ) → a < 2 ^ 128 → 38 < places → 0 ≡ clamped a (10 ^ places)
clamped-places_many a places small many =
    let power : 10 ^ 39 ≤ 10 ^ places = pow-le-pow_right {n = 10} (omega arith) {i = 39} many in
    clamped_is a (10 ^ places) 0 (omega arith) (omega arith) (omega arith)

module _ (a b : ℕ) (some : 0 < b) where
  pub clamped-whole_great : 1000000 ≤ a / b → 1000000 ≡ clamped a b
  clamped-whole_great great =
      let product : 1000000 * b ≤ a / b * b = mul-le-mul_right b great in
      clamped_far a b some (omega (arith, div-mul-le_self a b))

  pub clamped-up : a / b < 1000000 → b - a % b ≤ a % b → a / b + 1 ≡ clamped a b
  clamped-up small half =
      clamped_is a b (a / b + 1) (omega arith) (omega (arith, div-add-mod' a b)) (omega (arith, div-add-mod' a b))

  pub clamped-down : a / b < 1000000 → a % b < b - a % b → a / b ≡ clamped a b
  clamped-down small half =
      clamped_is a b (a / b) (omega arith) (omega (arith, div-add-mod' a b)) (omega (arith, div-add-mod' a b))

-- which of the two a sign of the exponent asks for
pub clamped-below_zero : (a : ℕ) (e : ℤ) → e <ℤ pos 0 → clamped a (10 ^ unsigned_abs e) ≡ clamped (numerator a e) (denominator e)
clamped-below_zero a (pos n) h = absurd (omega (arith, ints))
clamped-below_zero a (negsuc n) h = rw add-one refl

pub clamped-from_zero : (a : ℕ) (e : ℤ) → pos 0 ≤ℤ e → clamped (a * 10 ^ unsigned_abs e) 1 ≡ clamped (numerator a e) (denominator e)
clamped-from_zero a (pos n) h = refl
clamped-from_zero a (negsuc n) h = absurd (omega (arith, ints))

pub pow-small : (places : ℕ) → places ≤ 38 → 10 ^ places < 2 ^ 128
pow-small places small =
    let power : 10 ^ places ≤ 10 ^ 38 = pow-le-pow_right {n = 10} (omega arith) {j = 38} small in
    omega arith

pub pow-some : (places : ℕ) → 0 < 10 ^ places
pow-some places = one-le-pow places 10 (omega arith)

pub rounded_from : (n : Nrf) (magnitude : ℕ) (negative : Bool) → magnitude ≡ clamped (numerator n.digits n.exponent) (denominator n.exponent) → n.negative ≡ negative → signed negative magnitude ≡ rounded n
unfolding rounded
rounded_from n magnitude negative value sign = rw (value, ← sign) refl

-- the quotient is within a half
denominator-some : (e : ℤ) → 0 < denominator e
denominator-some (pos n) = omega arith
denominator-some (negsuc n) = pow-some (n + 1)

nearest-near : (a b : ℕ) → 0 < b → IsNearest a b (nearest a b)
nearest-near a b some =
    let twice : 0 < 2 * b = omega arith in
    record { low = omega (arith, div-mul-le_self (2 * a + b) (2 * b)); high = omega (arith, lt-mul-div-succ (2 * a + b) twice) }

pub Rounds-rounded : (n : Nrf) → Rounds n (rounded n)
unfolding rounded
Rounds-rounded n = record {
  whole = nearest (numerator n.digits n.exponent) (denominator n.exponent);
  near = nearest-near (numerator n.digits n.exponent) (denominator n.exponent) (denominator-some n.exponent);
  means = refl;
}
