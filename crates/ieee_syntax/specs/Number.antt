-- <DECIMAL NUMERIC PROGRAM DATA> (IEEE 488.2, 7.7.2)
use Rattle.std.specs.Prelude.{◌≡◌, ◌⊎◌, ℕ, suc, zero, ℤ, pos, ◌-ℤ◌, ◌+◌, ◌*◌, ◌<◌, ◌≤◌, Bool, true, false, List, [], ◌∷◌, ◌++◌, length, map, fold}
use Rattle.ieee_syntax.specs.declared.kind.Kind.{Kind}
use Rattle.ieee_syntax.specs.declared.kind.Kind.TheVariants.{Space, Digit, Letter, Plus, Minus, Point}
use Rattle.ieee_syntax.specs.declared.nrf.Nrf.{Nrf}
use Rattle.ieee_syntax.specs.Rounded.{signed}

-- ws*: so much <white space>
abbrev pub spaces : ℕ → List Kind
spaces zero = []
spaces (suc n) = Space ∷ spaces n

-- digits by their values, which are below ten in what a byte can be, and the number that they spell
abbrev pub digits : List ℕ → List Kind
digits values = map Digit values

abbrev pub with_digit : ℕ → ℕ → ℕ
with_digit number value = 10 * number + value

abbrev pub decimal : List ℕ → ℕ
decimal values = fold with_digit 0 values

-- [ sign ]
pub data Sign : Type 0 where
  unsigned : Sign
  plus : Sign
  minus : Sign

abbrev pub sign_text : Sign → List Kind
sign_text unsigned = []
sign_text plus = Plus ∷ []
sign_text minus = Minus ∷ []

abbrev pub is_minus : Sign → Bool
is_minus unsigned = false
is_minus plus = false
is_minus minus = true

-- the digits before the point, and then the point and the digits behind it, or neither
abbrev pub Pointed : List Kind → List ℕ → List ℕ → Type 0
Pointed text whole fraction =
    (text ≡ digits whole ++ Point ∷ digits fraction) ⊎ ((text ≡ digits whole) × (fraction ≡ []))

-- mantissa = digit+ [ "." digit* ] | "." digit+: so one digit at least, before the point or behind it; and at
-- most 32 of them
pub record IsMantissa (text : List Kind) (whole fraction : List ℕ) : Type 0 where
  pub spelled : Pointed text whole fraction
  pub some : 0 < length whole + length fraction
  pub few : length whole + length fraction ≤ 32

-- what stands behind an "E": ws* [ sign ] digit+, of at most 5 digits
pub record IsPower (text : List Kind) (value : ℤ) : Type 0 where
  pub gap : ℕ
  pub sign : Sign
  pub values : List ℕ
  pub spelled : text ≡ spaces gap ++ (sign_text sign ++ digits values)
  pub some : 0 < length values
  pub few : length values ≤ 5
  pub means : value ≡ signed (is_minus sign) (decimal values)

-- exponent = ws* ( "E" | "e" ) ws* [ sign ] digit+, or nothing, which stands for 0; an "E" is 69
abbrev pub IsExponent : List Kind → ℤ → Type 0
IsExponent text value =
    ((text ≡ []) × (value ≡ pos 0))
    ⊎ ((gap : ℕ) × (power : List Kind) × (text ≡ spaces gap ++ Letter 69 ∷ power) × IsPower power value)

-- number = [ sign ] mantissa [ exponent ]. All digits stand together in the number's digits, so its exponent is
-- the one that was written, less the number of digits behind the point.
pub record IsNumber (text : List Kind) (number : Nrf) : Type 0 where
  pub sign : Sign
  pub mantissa : List Kind
  pub whole : List ℕ
  pub fraction : List ℕ
  pub exponent : List Kind
  pub power : ℤ
  pub spelled : text ≡ sign_text sign ++ (mantissa ++ exponent)
  pub mantissa_is : IsMantissa mantissa whole fraction
  pub exponent_is : IsExponent exponent power
  pub means : number ≡ record { negative = is_minus sign; digits = decimal (whole ++ fraction); exponent = power -ℤ pos (length fraction) }
