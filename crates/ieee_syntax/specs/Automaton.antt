-- The states of the scanner, and how each byte leads on. Only private contracts cite this file; the grammar
-- stands apart from it, and the two are proved to agree.
use Rattle.std.specs.Prelude.{◌≡◌, ℕ, ℤ, pos, ◌-ℤ◌, ◌+◌, ◌^◌, ◌<◌, ◌≤◌, Bool, true, false, if◌then◌else◌, nat_lt, ◌==◌, List, [], ◌∷◌, ◌++◌, length, Option, Some, None, option_map, fold, ⊤, Result, Ok, Err}
use Rattle.ieee_syntax.specs.declared.kind.Kind.{Kind}
use Rattle.ieee_syntax.specs.declared.kind.Kind.TheVariants.{Space, NewLine, Digit, Letter, Underscore, Star, Question, Comma, Semicolon, Plus, Minus, Point}
use Rattle.ieee_syntax.specs.declared.nrf.Nrf.{Nrf}
use Rattle.ieee_syntax.specs.declared.number.Mantissa.{Mantissa}
use Rattle.ieee_syntax.specs.declared.number.Power.{Power}
use Rattle.ieee_syntax.specs.declared.number.Number.{Number}
use Rattle.ieee_syntax.specs.declared.number.Number.TheVariants as number
use Rattle.ieee_syntax.specs.declared.place.Place.{Place}
use Rattle.ieee_syntax.specs.declared.place.Place.TheVariants as places
use Rattle.ieee_syntax.specs.declared.place.Refusal.{Refusal}
use Rattle.ieee_syntax.specs.declared.place.Refusal.TheVariants as refusal
use Rattle.ieee_syntax.specs.declared.fault.SyntaxFault.{SyntaxFault}
use Rattle.ieee_syntax.specs.declared.fault.SyntaxFault.TheVariants as faults
use Rattle.ieee_syntax.specs.declared.unit.Unit.{Unit}
use Rattle.ieee_syntax.specs.Kind.{kind_of}
use Rattle.ieee_syntax.specs.Rounded.{signed}
use Rattle.ieee_syntax.specs.Number.{with_digit}

-- no digits yet
abbrev pub no_mantissa : Bool → Mantissa
no_mantissa negative = record { negative = negative; digits = 0; count = 0; places = 0; point = false }

-- the same of an exponent
abbrev pub no_power : Bool → Power
no_power negative = record { negative = negative; value = 0; count = 0 }

-- one more digit
abbrev pub push : Mantissa → ℕ → Mantissa
push m digit = record { negative = m.negative; digits = with_digit m.digits digit; count = m.count + 1; places = (if m.point then m.places + 1 else m.places); point = m.point }

-- the same of an exponent
abbrev pub push_power : Power → ℕ → Power
push_power p digit = record { negative = p.negative; value = with_digit p.value digit; count = p.count + 1 }

-- the point behind the digits so far
abbrev pub with_point : Mantissa → Mantissa
with_point m = record { negative = m.negative; digits = m.digits; count = m.count; places = m.places; point = true }

-- the number of these digits and this exponent
abbrev pub number_of : Mantissa → ℤ → Nrf
number_of m exponent = record { negative = m.negative; digits = m.digits; exponent = exponent -ℤ pos m.places }

-- the exponent that these digits spell
abbrev pub power_of : Power → ℤ
power_of p = signed p.negative p.value

-- what fits the machine's numbers
pub record MantissaFits (m : Mantissa) : Type 0 where
  pub digits : m.digits < 10 ^ m.count
  pub count : m.count ≤ 32
  pub places : m.places ≤ m.count

pub record PowerFits (p : Power) : Type 0 where
  pub value : p.value < 10 ^ p.count
  pub count : p.count ≤ 5

-- the same of a number
abbrev pub NumberFits : Number → Type 0
NumberFits (number.Mantissa m) = MantissaFits m
NumberFits (number.Gap m) = MantissaFits m
NumberFits (number.Mark m) = MantissaFits m
NumberFits (number.Power m p) = MantissaFits m × PowerFits p
NumberFits (number.PowerGap m p) = MantissaFits m × PowerFits p

-- behind a mantissa
abbrev pub behind_mantissa : Mantissa → Kind → Option Number
behind_mantissa m Space = Some (number.Gap m)
behind_mantissa m (Letter code) = if code == 69 then Some (number.Mark m) else None
behind_mantissa m _ = None

-- a digit where there is room, one point, and behind a digit what may stand behind a mantissa
abbrev pub in_mantissa : Mantissa → Kind → Option Number
in_mantissa m (Digit digit) = if nat_lt m.count 32 then Some (number.Mantissa (push m digit)) else None
in_mantissa m Point = if m.point then None else Some (number.Mantissa (with_point m))
in_mantissa m kind = if m.count == 0 then None else behind_mantissa m kind

-- white space, a sign, or the first digit of the exponent
abbrev pub behind_mark : Mantissa → Kind → Option Number
behind_mark m Space = Some (number.Mark m)
behind_mark m Plus = Some (number.Power m (no_power false))
behind_mark m Minus = Some (number.Power m (no_power true))
behind_mark m (Digit digit) = Some (number.Power m (push_power (no_power false) digit))
behind_mark m _ = None

-- a digit where there is room, and white space behind one
abbrev pub in_power : Mantissa → Power → Kind → Option Number
in_power m p (Digit digit) = if nat_lt p.count 5 then Some (number.Power m (push_power p digit)) else None
in_power m p Space = if p.count == 0 then None else Some (number.PowerGap m p)
in_power m p _ = None

-- more white space
abbrev pub behind_power : Mantissa → Power → Kind → Option Number
behind_power m p Space = Some (number.PowerGap m p)
behind_power m p _ = None

-- the number after one more byte
abbrev pub next : Number → Kind → Option Number
next (number.Mantissa m) kind = in_mantissa m kind
next (number.Gap m) kind = behind_mantissa m kind
next (number.Mark m) kind = behind_mark m kind
next (number.Power m p) kind = in_power m p kind
next (number.PowerGap m p) kind = behind_power m p kind

-- the first byte of a number
abbrev pub begin : Kind → Option Number
begin Plus = Some (number.Mantissa (no_mantissa false))
begin Minus = Some (number.Mantissa (no_mantissa true))
begin Point = Some (number.Mantissa (with_point (no_mantissa false)))
begin (Digit digit) = Some (number.Mantissa (push (no_mantissa false) digit))
begin _ = None

-- the number, where it may end here
abbrev pub value_of : Number → Option Nrf
value_of (number.Mantissa m) = if m.count == 0 then None else Some (number_of m (pos 0))
value_of (number.Gap m) = Some (number_of m (pos 0))
value_of (number.Mark m) = None
value_of (number.Power m p) = if p.count == 0 then None else Some (number_of m (power_of p))
value_of (number.PowerGap m p) = Some (number_of m (power_of p))

-- a unit with one more byte in its head, or one more number
abbrev pub named : Unit → ℕ → Unit
named unit byte = record unit { head = unit.head ++ byte ∷ [] }

abbrev pub given : Unit → Nrf → Unit
given unit number = record unit { args = unit.args ++ number ∷ [] }

abbrev pub first_of : List ℕ → Unit
first_of name = record { head = name; query = false; args = [] }

-- the most bytes of a head, a "*" counted
abbrev pub most_of : Bool → ℕ
most_of true = 13
most_of false = 12

-- the unit, where it may end here
abbrev pub whole : Place → Option Unit
whole places.Start = None
whole places.Separator = None
whole places.Star = None
whole (places.Head unit starred) = Some unit
whole (places.Query unit) = Some unit
whole (places.Gap unit) = Some unit
whole (places.Comma unit) = None
whole (places.Number unit n) = option_map (given unit) (value_of n)
whole places.End = None

-- white space, or the first byte of a unit
abbrev pub at_unit : Place → Kind → Option Place
at_unit place Space = Some place
at_unit place Star = Some places.Star
at_unit place (Letter code) = Some (places.Head (first_of (code ∷ [])) false)
at_unit place _ = None

-- a letter
abbrev pub behind_star : Kind → Option Place
behind_star (Letter code) = Some (places.Head (first_of (42 ∷ code ∷ [])) true)
behind_star _ = None

-- one more byte where the head has room
abbrev pub longer : Unit → Bool → ℕ → Option Place
longer unit starred byte = if nat_lt (length unit.head) (most_of starred) then Some (places.Head (named unit byte) starred) else None

-- more of the head, or the byte that ends it
abbrev pub in_head : Unit → Bool → Kind → Option Place
in_head unit starred (Letter code) = longer unit starred code
in_head unit starred (Digit digit) = longer unit starred (digit + 48)
in_head unit starred Underscore = longer unit starred 95
in_head unit starred Question = Some (places.Query (record unit { query = true }))
in_head unit starred Space = Some (places.Gap unit)
in_head unit starred _ = None

-- white space alone
abbrev pub behind_query : Unit → Kind → Option Place
behind_query unit Space = Some (places.Gap unit)
behind_query unit _ = None

-- white space, or the first byte of a number
abbrev pub at_number : Place → Unit → Kind → Option Place
at_number place unit Space = Some place
at_number place unit kind = option_map (places.Number unit) (begin kind)

-- a comma behind a whole number, or more of the number
abbrev pub in_number : Unit → Number → Kind → Option Place
in_number unit n Comma = option_map (λ value. places.Comma (given unit value)) (value_of n)
in_number unit n kind = option_map (places.Number unit) (next n kind)

-- a byte that ends no unit
abbrev pub advance : Place → Kind → Option Place
advance places.Start kind = at_unit places.Start kind
advance places.Separator kind = at_unit places.Separator kind
advance places.Star kind = behind_star kind
advance (places.Head unit starred) kind = in_head unit starred kind
advance (places.Query unit) kind = behind_query unit kind
advance (places.Gap unit) kind = at_number (places.Gap unit) unit kind
advance (places.Comma unit) kind = at_number (places.Comma unit) unit kind
advance (places.Number unit n) kind = in_number unit n kind
advance places.End kind = None

-- the units that are whole, and what has begun
pub record Scan : Type 0 where
  pub units : List Unit
  pub place : Place

-- no units, and nothing read
abbrev pub start : Scan
start = record { units = []; place = places.Start }

-- the units and the one that ends here
abbrev pub closed : List Unit → Place → Option (List Unit)
closed units place = option_map (λ unit. units ++ unit ∷ []) (whole place)

-- the units, where the message may end here
abbrev pub finish : List Unit → Place → Option (List Unit)
finish units places.Start = Some units
finish units places.End = Some units
finish units place = closed units place

-- behind the NL that ends a message stands nothing
abbrev pub end_line : List Unit → Place → Option Scan
end_line units places.End = None
end_line units place = option_map (λ us. record { units = us; place = places.End }) (finish units place)

-- a `;` and an NL end a unit, and every other byte goes on with it
abbrev pub step : List Unit → Place → Kind → Option Scan
step units place Semicolon = option_map (λ us. record { units = us; place = places.Separator }) (closed units place)
step units place NewLine = end_line units place
step units place kind = option_map (λ p. record { units = units; place = p }) (advance place kind)

-- a scanner that has refused a byte refuses every byte
abbrev pub goes : Option Scan → Kind → Option Scan
goes None kind = None
goes (Some scan) kind = step scan.units scan.place kind

-- where the bytes lead
abbrev pub reads : List ℕ → Option Scan
reads bytes = fold (λ scan byte. goes scan (kind_of byte)) (Some start) bytes

-- what fits the machine's numbers, of a place
abbrev pub PlaceFits : Place → Type 0
PlaceFits (places.Number unit n) = NumberFits n
PlaceFits _ = ⊤

-- what the code answers, want of memory aside
abbrev pub Gives : {A : Type 0} → Result A Refusal → Option A → Type 0
Gives (Ok value) answer = answer ≡ Some value
Gives (Err refusal.Byte) answer = answer ≡ None
Gives (Err refusal.Memory) answer = ⊤

-- the same of a step, with the units that it leaves
abbrev pub Steps : Result Place Refusal → List Unit → Option Scan → Type 0
Steps (Ok place) units answer = answer ≡ Some (record { units = units; place = place })
Steps (Err refusal.Byte) units answer = answer ≡ None
Steps (Err refusal.Memory) units answer = ⊤

-- the same of an end, with the units that it leaves
abbrev pub Finishes : {D : Type 0} → Result D Refusal → List Unit → Option (List Unit) → Type 0
Finishes (Ok done) units answer = answer ≡ Some units
Finishes (Err refusal.Byte) units answer = answer ≡ None
Finishes (Err refusal.Memory) units answer = ⊤

-- the fault that a refusal stands for
abbrev pub fault_at : Refusal → ℕ → SyntaxFault
fault_at refusal.Byte place = faults.At place
fault_at refusal.Memory place = faults.Memory
