-- the scanner in a number that the grammar has
use Rattle.std.proofs.Common.{◌≡◌, inl, inr, ℕ, suc, zero, ◌+◌, ◌<◌, ◌≤◌, ℤ, pos, ◌-ℤ◌, Bool, true, false, List, [], ◌∷◌, ◌++◌, length, fold, cond, eqb, nat_lt, Option, Some, refl, sym, ap, ◌∙◌, append-nil, add-zero, arith}
use Rattle.std.proofs.lemmas.Bool.Decides.{nat_tests}
use Rattle.std.proofs.lemmas.List.Sums.{fold-append}
use Rattle.ieee_syntax.specs.declared.kind.Kind.{Kind}
use Rattle.ieee_syntax.specs.declared.kind.Kind.TheVariants.{Space, Digit, Letter, Plus, Minus, Point}
use Rattle.ieee_syntax.specs.declared.nrf.Nrf.{Nrf}
use Rattle.ieee_syntax.specs.declared.number.Mantissa.{Mantissa}
use Rattle.ieee_syntax.specs.declared.number.Power.{Power}
use Rattle.ieee_syntax.specs.declared.number.Number.{Number}
use Rattle.ieee_syntax.specs.declared.number.Number.TheVariants as number
use Rattle.ieee_syntax.specs.declared.place.Place.{Place}
use Rattle.ieee_syntax.specs.declared.place.Place.TheVariants as places
use Rattle.ieee_syntax.specs.declared.unit.Unit.{Unit}
use Rattle.ieee_syntax.specs.Rounded.{signed}
use Rattle.ieee_syntax.specs.Number.{spaces, digits, with_digit, decimal, Sign, unsigned, plus, minus, sign_text, is_minus, Pointed, IsMantissa, IsPower, IsExponent, IsNumber}
use Rattle.ieee_syntax.specs.Automaton.{Scan, begin, value_of, push, push_power, with_point, no_mantissa, no_power, number_of, power_of, step, goes}
use Rattle.ieee_syntax.proofs.Options.{cond_none}

-- the scanner with these units at this place
abbrev pub at : List Unit → Place → Option Scan
at units p = Some (record { units = units; place = p })

pub chain : (o m l : Option Scan) (a b : List Kind) → fold goes o a ≡ m → fold goes m b ≡ l → fold goes o (a ++ b) ≡ l
chain o m l a b d e = fold-append goes o a b ∙ (ap (λ x. fold goes x b) d ∙ e)

-- digits one after another
abbrev pushed : Mantissa → List ℕ → Mantissa
pushed m values = fold push m values

pushed-negative : (m : Mantissa) (values : List ℕ) → (pushed m values).negative ≡ m.negative
pushed-negative m [] = refl
pushed-negative m (v ∷ values) = pushed-negative (push m v) values

pushed-digits : (m : Mantissa) (values : List ℕ) → (pushed m values).digits ≡ fold with_digit m.digits values
pushed-digits m [] = refl
pushed-digits m (v ∷ values) = pushed-digits (push m v) values

pushed-count : (m : Mantissa) (values : List ℕ) → (pushed m values).count ≡ m.count + length values
pushed-count m [] = sym (add-zero m.count)
pushed-count m (v ∷ values) = omega (arith, pushed-count (push m v) values)

pushed-point : (m : Mantissa) (values : List ℕ) → (pushed m values).point ≡ m.point
pushed-point m [] = refl
pushed-point m (v ∷ values) = pushed-point (push m v) values

pushed-places : (m : Mantissa) (values : List ℕ) → m.point ≡ true → (pushed m values).places ≡ m.places + length values
pushed-places m [] e = sym (add-zero m.places)
pushed-places m (v ∷ values) e =
    let one : (push m v).places ≡ m.places + 1 = ap (λ b. cond b (m.places + 1) m.places) e in
    omega (arith, pushed-places (push m v) values e)

pushed-no_places : (m : Mantissa) (values : List ℕ) → m.point ≡ false → (pushed m values).places ≡ m.places
pushed-no_places m [] e = refl
pushed-no_places m (v ∷ values) e = pushed-no_places (push m v) values e ∙ ap (λ b. cond b (m.places + 1) m.places) e

abbrev powered : Power → List ℕ → Power
powered p values = fold push_power p values

powered-negative : (p : Power) (values : List ℕ) → (powered p values).negative ≡ p.negative
powered-negative p [] = refl
powered-negative p (v ∷ values) = powered-negative (push_power p v) values

powered-value : (p : Power) (values : List ℕ) → (powered p values).value ≡ fold with_digit p.value values
powered-value p [] = refl
powered-value p (v ∷ values) = powered-value (push_power p v) values

powered-count : (p : Power) (values : List ℕ) → (powered p values).count ≡ p.count + length values
powered-count p [] = sym (add-zero p.count)
powered-count p (v ∷ values) = omega (arith, powered-count (push_power p v) values)

nonzero : (n : ℕ) → 0 < n → eqb n 0 ≡ false
nonzero n h = grind (arith, nat_tests)

below : (m n : ℕ) → m < n → nat_lt m n ≡ true
below m n h = grind (arith, nat_tests)

module _ (units : List Unit) (u : Unit) where
  abbrev in_number : Number → Option Scan
  in_number s = at units (places.Number u s)

  mantissa-digits : (m : Mantissa) (values : List ℕ) → m.count + length values ≤ 32 → fold goes (in_number (number.Mantissa m)) (digits values) ≡ in_number (number.Mantissa (pushed m values))
  mantissa-digits m [] few = refl
  mantissa-digits m (v ∷ values) few =
      let one : step units (places.Number u (number.Mantissa m)) (Digit v) ≡ in_number (number.Mantissa (push m v)) = rw (below m.count 32 (omega arith)) refl in
      ap (λ o. fold goes o (digits values)) one ∙ mantissa-digits (push m v) values (omega arith)

  power-digits : (m : Mantissa) (p : Power) (values : List ℕ) → p.count + length values ≤ 5 → fold goes (in_number (number.Power m p)) (digits values) ≡ in_number (number.Power m (powered p values))
  power-digits m p [] few = refl
  power-digits m p (v ∷ values) few =
      let one : step units (places.Number u (number.Power m p)) (Digit v) ≡ in_number (number.Power m (push_power p v)) = rw (below p.count 5 (omega arith)) refl in
      ap (λ o. fold goes o (digits values)) one ∙ power-digits m (push_power p v) values (omega arith)

  -- to behind an `E`
  gap-mark : (m : Mantissa) (gap : ℕ) (text : List Kind) → fold goes (in_number (number.Gap m)) (spaces gap ++ (Letter 69 ∷ text)) ≡ fold goes (in_number (number.Mark m)) text
  gap-mark m zero text = refl
  gap-mark m (suc gap) text = gap-mark m gap text

  mantissa-mark : (m : Mantissa) (gap : ℕ) (text : List Kind) → 0 < m.count → fold goes (in_number (number.Mantissa m)) (spaces gap ++ (Letter 69 ∷ text)) ≡ fold goes (in_number (number.Mark m)) text
  mantissa-mark m zero text some =
      let one : step units (places.Number u (number.Mantissa m)) (Letter 69) ≡ in_number (number.Mark m) = rw (nonzero m.count some) refl in
      ap (λ o. fold goes o text) one
  mantissa-mark m (suc gap) text some =
      let one : step units (places.Number u (number.Mantissa m)) Space ≡ in_number (number.Gap m) = rw (nonzero m.count some) refl in
      ap (λ o. fold goes o (spaces gap ++ (Letter 69 ∷ text))) one ∙ gap-mark m gap text

  -- behind an `E`
  mark-spaces : (m : Mantissa) (gap : ℕ) (text : List Kind) → fold goes (in_number (number.Mark m)) (spaces gap ++ text) ≡ fold goes (in_number (number.Mark m)) text
  mark-spaces m zero text = refl
  mark-spaces m (suc gap) text = mark-spaces m gap text

  mark-sign : (m : Mantissa) (sign : Sign) (values : List ℕ) → 0 < length values → length values ≤ 5
      → fold goes (in_number (number.Mark m)) (sign_text sign ++ digits values) ≡ in_number (number.Power m (powered (no_power (is_minus sign)) values))
  mark-sign m unsigned [] some few = absurd (omega arith)
  mark-sign m unsigned (v ∷ values) some few = power-digits m (push_power (no_power false) v) values (omega arith)
  mark-sign m plus values some few = power-digits m (no_power false) values (omega arith)
  mark-sign m minus values some few = power-digits m (no_power true) values (omega arith)

  -- the text leads to a number that may end there, and is this one
  pub record Reads (from : Option Scan) (text : List Kind) (n : Nrf) : Type 0 where
    pub state : Number
    pub reached : fold goes from text ≡ in_number state
    pub value : value_of state ≡ Some n

  power-value : (p : Power) (negative : Bool) (value : ℤ) (values : List ℕ) → p ≡ powered (no_power negative) values → value ≡ signed negative (decimal values) → power_of p ≡ value
  power-value p negative value values e means =
      rw (e, powered-negative (no_power negative) values, powered-value (no_power negative) values) (sym means)

  mark-reads : (m : Mantissa) (text : List Kind) (value : ℤ) → IsPower text value → Reads (in_number (number.Mark m)) text (number_of m value)
  mark-reads m text value h =
      let p = powered (no_power (is_minus h.sign)) h.values in
      let some : 0 < p.count = omega (arith, powered-count (no_power (is_minus h.sign)) h.values, h.some) in
      record {
        state = number.Power m p;
        reached = rw h.spelled (mark-spaces m h.gap (sign_text h.sign ++ digits h.values) ∙ mark-sign m h.sign h.values h.some h.few);
        value = rw (nonzero p.count some) (ap (λ v. Some (number_of m v)) (power-value p (is_minus h.sign) value h.values refl h.means));
      }

  exponent-reads : (m : Mantissa) (text : List Kind) (value : ℤ) → 0 < m.count → IsExponent text value → Reads (in_number (number.Mantissa m)) text (number_of m value)
  exponent-reads m text value some (inl h) = record {
    state = number.Mantissa m;
    reached = rw h.0 refl;
    value = rw (nonzero m.count some, h.1) refl;
  }
  exponent-reads m text value some (inr h) =
      let r = mark-reads m h.1 value h.3 in
      record { state = r.state; reached = rw h.2 (mantissa-mark m h.0 h.1 some ∙ r.reached); value = r.value }

  -- a mantissa
  record MantissaReads (negative : Bool) (text : List Kind) (whole fraction : List ℕ) : Type 0 where
    mantissa : Mantissa
    reached : fold goes (in_number (number.Mantissa (no_mantissa negative))) text ≡ in_number (number.Mantissa mantissa)
    some : 0 < mantissa.count
    sign : mantissa.negative ≡ negative
    digits_are : mantissa.digits ≡ decimal (whole ++ fraction)
    places : mantissa.places ≡ length fraction

  point-step : (m : Mantissa) → m.point ≡ false → step units (places.Number u (number.Mantissa m)) Point ≡ in_number (number.Mantissa (with_point m))
  point-step m e = rw e refl

  pointed-reads : (negative : Bool) (text : List Kind) (whole fraction : List ℕ) → Pointed text whole fraction → 0 < length whole + length fraction → length whole + length fraction ≤ 32 → MantissaReads negative text whole fraction
  pointed-reads negative text whole fraction (inl e) some few =
      let none = no_mantissa negative in
      let m = pushed none whole in
      let all = pushed (with_point m) fraction in
      let count : m.count ≡ 0 + length whole = pushed-count none whole in
      record {
        mantissa = all;
        reached = rw e (chain (in_number (number.Mantissa none)) (in_number (number.Mantissa m)) (in_number (number.Mantissa all)) (digits whole) (Point ∷ digits fraction)
            (mantissa-digits none whole (omega arith))
            (ap (λ o. fold goes o (digits fraction)) (point-step m (pushed-point none whole)) ∙ mantissa-digits (with_point m) fraction (omega arith)));
        some = omega (arith, pushed-count (with_point m) fraction);
        sign = pushed-negative (with_point m) fraction ∙ pushed-negative none whole;
        digits_are = pushed-digits (with_point m) fraction ∙ (ap (λ x. fold with_digit x fraction) (pushed-digits none whole) ∙ sym (fold-append with_digit 0 whole fraction));
        places = omega (arith, pushed-places (with_point m) fraction refl, pushed-no_places none whole refl);
      }
  pointed-reads negative text whole fraction (inr e) some few =
      let none = no_mantissa negative in
      record {
        mantissa = pushed none whole;
        reached = rw e.0 (mantissa-digits none whole (omega arith));
        some = omega (arith, pushed-count none whole, ap length e.1);
        sign = pushed-negative none whole;
        digits_are = pushed-digits none whole ∙ ap decimal (sym (ap (λ xs. whole ++ xs) e.1 ∙ append-nil whole));
        places = omega (arith, pushed-no_places none whole refl, ap length e.1);
      }

  -- a mantissa and what stands behind it
  unsigned-reads : (negative : Bool) (mantissa exponent : List Kind) (whole fraction : List ℕ) (power : ℤ) (n : Nrf) → IsMantissa mantissa whole fraction → IsExponent exponent power
      → n ≡ record { negative = negative; digits = decimal (whole ++ fraction); exponent = power -ℤ pos (length fraction) }
      → Reads (in_number (number.Mantissa (no_mantissa negative))) (mantissa ++ exponent) n
  unsigned-reads negative mantissa exponent whole fraction power n h behind means =
      let m = pointed-reads negative mantissa whole fraction h.spelled h.some h.few in
      let r = exponent-reads m.mantissa exponent power m.some behind in
      let same : number_of m.mantissa power ≡ n = rw (m.sign, m.digits_are, m.places) (sym means) in
      record {
        state = r.state;
        reached = chain _ (in_number (number.Mantissa m.mantissa)) (in_number r.state) mantissa exponent m.reached r.reached;
        value = r.value ∙ ap Some same;
      }

  -- a place where a number may begin
  abbrev pub Opens : Place → Type 0
  Opens p = (k : Kind) (s : Number) → begin k ≡ Some s → step units p k ≡ in_number s

  first-step : (p : Place) → Opens p → (mantissa rest : List Kind) (whole fraction : List ℕ) → Pointed mantissa whole fraction → 0 < length whole + length fraction
      → fold goes (at units p) (mantissa ++ rest) ≡ fold goes (in_number (number.Mantissa (no_mantissa false))) (mantissa ++ rest)
  first-step p opens mantissa rest [] fraction (inl e) some =
      rw e (ap (λ o. fold goes o (digits fraction ++ rest)) (opens Point (number.Mantissa (with_point (no_mantissa false))) refl))
  first-step p opens mantissa rest (d ∷ whole) fraction (inl e) some =
      rw e (ap (λ o. fold goes o ((digits whole ++ (Point ∷ digits fraction)) ++ rest)) (opens (Digit d) (number.Mantissa (push (no_mantissa false) d)) refl))
  first-step p opens mantissa rest [] fraction (inr e) some = absurd (omega (arith, ap length e.1))
  first-step p opens mantissa rest (d ∷ whole) fraction (inr e) some =
      rw e.0 (ap (λ o. fold goes o (digits whole ++ rest)) (opens (Digit d) (number.Mantissa (push (no_mantissa false) d)) refl))

  signed-reads : (p : Place) → Opens p → (sign : Sign) (mantissa exponent : List Kind) (whole fraction : List ℕ) (n : Nrf) → IsMantissa mantissa whole fraction
      → Reads (in_number (number.Mantissa (no_mantissa (is_minus sign)))) (mantissa ++ exponent) n → Reads (at units p) (sign_text sign ++ (mantissa ++ exponent)) n
  signed-reads p opens unsigned mantissa exponent whole fraction n h r =
      record { state = r.state; reached = first-step p opens mantissa exponent whole fraction h.spelled h.some ∙ r.reached; value = r.value }
  signed-reads p opens plus mantissa exponent whole fraction n h r =
      record { state = r.state; reached = ap (λ o. fold goes o (mantissa ++ exponent)) (opens Plus (number.Mantissa (no_mantissa false)) refl) ∙ r.reached; value = r.value }
  signed-reads p opens minus mantissa exponent whole fraction n h r =
      record { state = r.state; reached = ap (λ o. fold goes o (mantissa ++ exponent)) (opens Minus (number.Mantissa (no_mantissa true)) refl) ∙ r.reached; value = r.value }

  pub number-reads : (p : Place) → Opens p → (text : List Kind) (n : Nrf) → IsNumber text n → Reads (at units p) text n
  number-reads p opens text n h =
      let r = signed-reads p opens h.sign h.mantissa h.exponent h.whole h.fraction n h.mantissa_is
      (unsigned-reads (is_minus h.sign) h.mantissa h.exponent h.whole h.fraction h.power n h.mantissa_is h.exponent_is h.means) in
      record { state = r.state; reached = rw h.spelled r.reached; value = r.value }

  -- white space behind a number
  pub number-space : (s : Number) (n : Nrf) → value_of s ≡ Some n → (t : Number) × (step units (places.Number u s) Space ≡ in_number t) × (value_of t ≡ Some n)
  number-space (number.Mantissa m) n e =
      let t = cond_none (eqb m.count 0) (Some (number_of m (pos 0))) n e in
      (number.Gap m, rw t.0 refl, t.1)
  number-space (number.Gap m) n e = (number.Gap m, refl, e)
  number-space (number.Mark m) n e = cc
  number-space (number.Power m p) n e =
      let t = cond_none (eqb p.count 0) (Some (number_of m (power_of p))) n e in
      (number.PowerGap m p, rw t.0 refl, t.1)
  number-space (number.PowerGap m p) n e = (number.PowerGap m p, refl, e)
