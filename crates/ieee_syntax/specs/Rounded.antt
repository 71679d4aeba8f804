-- the whole number nearest to a decimal one
use Rattle.std.specs.Prelude.{◌≡◌, ℕ, ℤ, pos, negsuc, neg_ℤ, ◌+◌, ◌*◌, ◌/◌, ◌^◌, ◌<◌, ◌≤◌, min, Bool, true, false}
use Rattle.ieee_syntax.specs.declared.nrf.Nrf.{Nrf}

-- a number with its sign
abbrev pub signed : Bool → ℕ → ℤ
signed true magnitude = neg_ℤ (pos magnitude)
signed false magnitude = pos magnitude

-- the value's magnitude is `numerator / denominator`: a power of ten multiplies the one or the other
abbrev pub numerator : ℕ → ℤ → ℕ
numerator digits (pos exponent) = digits * 10 ^ exponent
numerator digits (negsuc exponent) = digits

abbrev pub denominator : ℤ → ℕ
denominator (pos exponent) = 1
denominator (negsuc exponent) = 10 ^ (exponent + 1)

-- a ratio and a half, rounded down: the nearest whole number, and of two the greater
abbrev pub nearest : ℕ → ℕ → ℕ
nearest above below = (2 * above + below) / (2 * below)

-- the same, and at most 1,000,000
abbrev pub clamped : ℕ → ℕ → ℕ
clamped above below = min (nearest above below) 1000000

-- half away from zero, clamped to plus or minus 1,000,000
unfoldable pub rounded : Nrf → ℤ
rounded n = signed n.negative (clamped (numerator n.digits n.exponent) (denominator n.exponent))

-- a whole number that is less than a half below the ratio, and at most a half above it
pub record IsNearest (above below whole : ℕ) : Type 0 where
  pub low : 2 * whole * below ≤ 2 * above + below
  pub high : 2 * above < (2 * whole + 1) * below

-- the same in inequalities: the magnitude is within a half of a whole number, and a tie goes away from zero
pub record Rounds (n : Nrf) (answer : ℤ) : Type 0 where
  pub whole : ℕ
  pub near : IsNearest (numerator n.digits n.exponent) (denominator n.exponent) whole
  pub means : answer ≡ signed n.negative (min whole 1000000)
