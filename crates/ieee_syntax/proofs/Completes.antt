-- what completes a number that has come so far
use Rattle.std.proofs.Common.{◌≡◌, inl, inr, ℕ, suc, ◌+◌, ◌-◌, ◌<◌, ◌≤◌, ℤ, pos, ◌-ℤ◌, Bool, true, false, List, [], ◌∷◌, ◌++◌, length, fold, Some, None, refl, sym, ap, ◌∙◌, subst, append_assoc, arith, eqb, cond, nat_lt, add-zero, zero-add}
use Rattle.std.proofs.lemmas.Option.{same_Some, cond_some}
use Rattle.std.proofs.lemmas.Bool.Decides.{nat_tests}
use Rattle.std.proofs.lemmas.List.Sums.{fold-append}
use Rattle.ieee_syntax.specs.declared.kind.Kind.{Kind}
use Rattle.ieee_syntax.specs.declared.kind.Kind.TheVariants.{Space, Digit, Letter, Plus, Minus, Point}
use Rattle.ieee_syntax.specs.declared.nrf.Nrf.{Nrf}
use Rattle.ieee_syntax.specs.declared.number.Mantissa.{Mantissa}
use Rattle.ieee_syntax.specs.declared.number.Power.{Power}
use Rattle.ieee_syntax.specs.declared.number.Number.{Number}
use Rattle.ieee_syntax.specs.declared.number.Number.TheVariants as number
use Rattle.ieee_syntax.specs.Rounded.{signed}
use Rattle.ieee_syntax.specs.Number.{spaces, digits, with_digit, Sign, unsigned, plus, minus, sign_text, is_minus, Pointed, IsPower, IsExponent, IsNumber}
use Rattle.ieee_syntax.specs.Automaton.{next, begin, value_of, in_mantissa, behind_mantissa, behind_mark, in_power, behind_power, push, push_power, with_point, no_mantissa, no_power, number_of, power_of}
use Rattle.ieee_syntax.proofs.Options.{cond_none}

-- digits of an exponent, and white space
pub record EndsPower (p : Power) (text : List Kind) (value : ℤ) : Type 0 where
  pub values : List ℕ
  pub gap : ℕ
  pub spelled : text ≡ digits values ++ spaces gap
  pub some : 0 < p.count + length values
  pub few : length values ≤ 5 - p.count
  pub means : value ≡ signed p.negative (fold with_digit p.value values)

-- an exponent or none, and white space
pub record Behind (text : List Kind) (value : ℤ) : Type 0 where
  pub exponent : List Kind
  pub gap : ℕ
  pub spelled : text ≡ exponent ++ spaces gap
  pub exponent_is : IsExponent exponent value

-- what stands behind an `E`, and white space
pub record BehindMark (text : List Kind) (value : ℤ) : Type 0 where
  pub power : List Kind
  pub gap : ℕ
  pub spelled : text ≡ power ++ spaces gap
  pub power_is : IsPower power value

-- the rest of a mantissa, in which the point has come or not
abbrev pub TailOf : Bool → List Kind → List ℕ → List ℕ → Type 0
TailOf true text whole fraction = (text ≡ digits fraction) × (whole ≡ [])
TailOf false text whole fraction = Pointed text whole fraction

pub record EndsMantissa (negative : Bool) (before count places : ℕ) (point : Bool) (text : List Kind) (n : Nrf) : Type 0 where
  pub mantissa : List Kind
  pub whole : List ℕ
  pub fraction : List ℕ
  pub rest : List Kind
  pub value : ℤ
  pub spelled : text ≡ mantissa ++ rest
  pub tail : TailOf point mantissa whole fraction
  pub some : 0 < count + (length whole + length fraction)
  pub few : length whole + length fraction ≤ 32 - count
  pub behind : Behind rest value
  pub means : n ≡ record { negative = negative; digits = fold with_digit (fold with_digit before whole) fraction; exponent = value -ℤ pos (places + length fraction) }

abbrev pub Completes : Number → List Kind → Nrf → Type 0
Completes (number.Mantissa m) text n = EndsMantissa m.negative m.digits m.count m.places m.point text n
Completes (number.Gap m) text n = (value : ℤ) × Behind text value × (n ≡ number_of m value)
Completes (number.Mark m) text n = (value : ℤ) × BehindMark text value × (n ≡ number_of m value)
Completes (number.Power m p) text n = (value : ℤ) × EndsPower p text value × (n ≡ number_of m value)
Completes (number.PowerGap m p) text n = (gap : ℕ) × (text ≡ spaces gap) × (n ≡ number_of m (power_of p))

into : (s t : Number) (text : List Kind) (n : Nrf) → Some s ≡ Some t → Completes t text n → Completes s text n
into s t text n e h = subst (λ (x : Number). Completes x text n) (sym (same_Some s t e)) h

-- one byte before
power-digit : (p : Power) (d : ℕ) (text : List Kind) (value : ℤ) → p.count < 5 → EndsPower (push_power p d) text value → EndsPower p (Digit d ∷ text) value
power-digit p d text value room h = record {
  values = d ∷ h.values;
  gap = h.gap;
  spelled = ap (λ t. Digit d ∷ t) h.spelled;
  some = omega arith;
  few = omega (arith, h.few);
  means = h.means;
}

power-end : (p : Power) (gap : ℕ) → 0 < p.count → EndsPower p (spaces gap) (power_of p)
power-end p gap some = record { values = []; gap = gap; spelled = refl; some = omega arith; few = omega arith; means = refl }

mark-space : (text : List Kind) (value : ℤ) → BehindMark text value → BehindMark (Space ∷ text) value
mark-space text value h =
    let p = h.power_is in
    record {
      power = Space ∷ h.power;
      gap = h.gap;
      spelled = ap (λ t. Space ∷ t) h.spelled;
      power_is = record { gap = suc p.gap; sign = p.sign; values = p.values; spelled = ap (λ t. Space ∷ t) p.spelled; some = p.some; few = p.few; means = p.means };
    }

mark-sign : (sign : Sign) (text : List Kind) (value : ℤ) → EndsPower (no_power (is_minus sign)) text value → BehindMark (sign_text sign ++ text) value
mark-sign sign text value h = record {
  power = sign_text sign ++ digits h.values;
  gap = h.gap;
  spelled = ap (λ t. sign_text sign ++ t) h.spelled ∙ sym (append_assoc (sign_text sign) (digits h.values) (spaces h.gap));
  power_is = record { gap = 0; sign = sign; values = h.values; spelled = refl; some = omega (arith, h.some); few = omega (arith, h.few); means = h.means };
}

behind-space : (text : List Kind) (value : ℤ) → Behind text value → Behind (Space ∷ text) value
behind-space text value h =
    elim h.exponent_is [
      | inl none ↦ record {
        exponent = [];
        gap = suc h.gap;
        spelled = ap (λ t. Space ∷ t) (h.spelled ∙ ap (λ t. t ++ spaces h.gap) none.0);
        exponent_is = inl (refl, none.1);
      }
      | inr there ↦ record {
        exponent = Space ∷ h.exponent;
        gap = h.gap;
        spelled = ap (λ t. Space ∷ t) h.spelled;
        exponent_is = inr (suc there.0, there.1, ap (λ t. Space ∷ t) there.2, there.3);
      }
    ]

behind-mark : (text : List Kind) (value : ℤ) → BehindMark text value → Behind (Letter 69 ∷ text) value
behind-mark text value h = record {
  exponent = Letter 69 ∷ h.power;
  gap = h.gap;
  spelled = ap (λ t. Letter 69 ∷ t) h.spelled;
  exponent_is = inr (0, h.power, refl, h.power_is);
}

behind-letter : (code : ℕ) (text : List Kind) (value : ℤ) → code ≡ 69 → BehindMark text value → Behind (Letter code ∷ text) value
behind-letter code text value e h = rw e (behind-mark text value h)

behind-none : Behind [] (pos 0)
behind-none = record { exponent = []; gap = 0; spelled = refl; exponent_is = inl (refl, refl) }

-- a mantissa that ends here
tail-none : (point : Bool) → TailOf point [] [] []
tail-none true = (refl, refl)
tail-none false = inr (refl, refl)

mantissa-end : (m : Mantissa) (text : List Kind) (value : ℤ) (n : Nrf) → 0 < m.count → Behind text value → n ≡ number_of m value → EndsMantissa m.negative m.digits m.count m.places m.point text n
mantissa-end m text value n some behind means = record {
  mantissa = [];
  whole = [];
  fraction = [];
  rest = text;
  value = value;
  spelled = refl;
  tail = tail-none m.point;
  some = omega arith;
  few = omega arith;
  behind = behind;
  means = rw add-zero means;
}

mantissa-digit : (negative : Bool) (before count places : ℕ) (point : Bool) (d : ℕ) (text : List Kind) (n : Nrf) → count < 32
    → Completes (number.Mantissa (push (record { negative = negative; digits = before; count = count; places = places; point = point }) d)) text n
    → EndsMantissa negative before count places point (Digit d ∷ text) n
mantissa-digit negative before count places true d text n room h = record {
  mantissa = Digit d ∷ h.mantissa;
  whole = [];
  fraction = d ∷ h.fraction;
  rest = h.rest;
  value = h.value;
  spelled = ap (λ t. Digit d ∷ t) h.spelled;
  tail = (ap (λ t. Digit d ∷ t) h.tail.0, refl);
  some = omega arith;
  few = omega (arith, h.few, ap length h.tail.1);
  behind = h.behind;
  means = let more : (places + 1) + length h.fraction ≡ places + suc (length h.fraction) = omega arith in rw (← more) (rw h.tail.1 at h.means);
}
mantissa-digit negative before count places false d text n room h = record {
  mantissa = Digit d ∷ h.mantissa;
  whole = d ∷ h.whole;
  fraction = h.fraction;
  rest = h.rest;
  value = h.value;
  spelled = ap (λ t. Digit d ∷ t) h.spelled;
  tail = elim h.tail [ inl e ↦ inl (ap (λ t. Digit d ∷ t) e) | inr e ↦ inr (ap (λ t. Digit d ∷ t) e.0, e.1) ];
  some = omega arith;
  few = omega (arith, h.few);
  behind = h.behind;
  means = h.means;
}

mantissa-point : (negative : Bool) (before count places : ℕ) (text : List Kind) (n : Nrf)
    → EndsMantissa negative before count places true text n → EndsMantissa negative before count places false (Point ∷ text) n
mantissa-point negative before count places text n h = record {
  mantissa = Point ∷ h.mantissa;
  whole = [];
  fraction = h.fraction;
  rest = h.rest;
  value = h.value;
  spelled = ap (λ t. Point ∷ t) h.spelled;
  tail = inl (ap (λ t. Point ∷ t) h.tail.0);
  some = omega (arith, h.some, ap length h.tail.1);
  few = omega (arith, h.few, ap length h.tail.1);
  behind = h.behind;
  means = rw h.tail.1 at h.means;
}

mark-from_test : (code : ℕ) (m : Mantissa) (s : Number) → cond (eqb code 69) (Some (number.Mark m)) None ≡ Some s → (code ≡ 69) × (Some (number.Mark m) ≡ Some s)
mark-from_test code m s e =
    let h = cond_some (eqb code 69) (number.Mark m) s e in (grind (arith, nat_tests), ap Some h.1)

completes-behind : (m : Mantissa) (k : Kind) (s : Number) (text : List Kind) (n : Nrf) → behind_mantissa m k ≡ Some s → Completes s text n → (value : ℤ) × Behind (k ∷ text) value × (n ≡ number_of m value)
completes-behind m Space s text n e h =
    let g = into (number.Gap m) s text n e h in (g.0, behind-space text g.0 g.1, g.2)
completes-behind m (Letter code) s text n e h =
    let t = mark-from_test code m s e in
    let g = into (number.Mark m) s text n t.1 h in
    (g.0, behind-letter code text g.0 t.0 g.1, g.2)
completes-behind m _ s text n e h = cc

completes-mantissa_end : (m : Mantissa) (k : Kind) (s : Number) (text : List Kind) (n : Nrf) → cond (eqb m.count 0) None (behind_mantissa m k) ≡ Some s → Completes s text n → Completes (number.Mantissa m) (k ∷ text) n
completes-mantissa_end m k s text n e h =
    let t = cond_none (eqb m.count 0) (behind_mantissa m k) s e in
    let g = completes-behind m k s text n t.1 h in
    mantissa-end m (k ∷ text) g.0 n (grind (arith, nat_tests)) g.1 g.2

completes-mantissa : (m : Mantissa) (k : Kind) (s : Number) (text : List Kind) (n : Nrf) → in_mantissa m k ≡ Some s → Completes s text n → Completes (number.Mantissa m) (k ∷ text) n
completes-mantissa m (Digit d) s text n e h =
    let t = cond_some (nat_lt m.count 32) (number.Mantissa (push m d)) s e in
    mantissa-digit m.negative m.digits m.count m.places m.point d text n (grind (arith, nat_tests)) (into (number.Mantissa (push m d)) s text n (ap Some t.1) h)
completes-mantissa m Point s text n e h =
    let t = cond_none m.point (Some (number.Mantissa (with_point m))) s e in
    rw t.0 (mantissa-point m.negative m.digits m.count m.places text n (into (number.Mantissa (with_point m)) s text n t.1 h))
completes-mantissa m k s text n e h = completes-mantissa_end m k s text n e h

completes-mark : (m : Mantissa) (k : Kind) (s : Number) (text : List Kind) (n : Nrf) → behind_mark m k ≡ Some s → Completes s text n → Completes (number.Mark m) (k ∷ text) n
completes-mark m Space s text n e h =
    let g = into (number.Mark m) s text n e h in (g.0, mark-space text g.0 g.1, g.2)
completes-mark m Plus s text n e h =
    let g = into (number.Power m (no_power false)) s text n e h in (g.0, mark-sign plus text g.0 g.1, g.2)
completes-mark m Minus s text n e h =
    let g = into (number.Power m (no_power true)) s text n e h in (g.0, mark-sign minus text g.0 g.1, g.2)
completes-mark m (Digit d) s text n e h =
    let g = into (number.Power m (push_power (no_power false) d)) s text n e h in
    (g.0, mark-sign unsigned (Digit d ∷ text) g.0 (power-digit (no_power false) d text g.0 (omega arith) g.1), g.2)
completes-mark m _ s text n e h = cc

completes-power : (m : Mantissa) (p : Power) (k : Kind) (s : Number) (text : List Kind) (n : Nrf) → in_power m p k ≡ Some s → Completes s text n → Completes (number.Power m p) (k ∷ text) n
completes-power m p (Digit d) s text n e h =
    let t = cond_some (nat_lt p.count 5) (number.Power m (push_power p d)) s e in
    let g = into (number.Power m (push_power p d)) s text n (ap Some t.1) h in
    (g.0, power-digit p d text g.0 (grind (arith, nat_tests)) g.1, g.2)
completes-power m p Space s text n e h =
    let t = cond_none (eqb p.count 0) (Some (number.PowerGap m p)) s e in
    let g = into (number.PowerGap m p) s text n t.1 h in
    let some : 0 < p.count = grind (arith, nat_tests) in
    (power_of p, rw g.1 (power-end p (suc g.0) some), g.2)
completes-power m p _ s text n e h = cc

completes-power_gap : (m : Mantissa) (p : Power) (k : Kind) (s : Number) (text : List Kind) (n : Nrf) → behind_power m p k ≡ Some s → Completes s text n → Completes (number.PowerGap m p) (k ∷ text) n
completes-power_gap m p Space s text n e h =
    let g = into (number.PowerGap m p) s text n e h in (suc g.0, ap (λ t. Space ∷ t) g.1, g.2)
completes-power_gap m p _ s text n e h = cc

-- what completes the number after a byte completes it with the byte
pub completes-next : (s t : Number) (k : Kind) (text : List Kind) (n : Nrf) → next s k ≡ Some t → Completes t text n → Completes s (k ∷ text) n
completes-next (number.Mantissa m) t k text n e h = completes-mantissa m k t text n e h
completes-next (number.Gap m) t k text n e h = completes-behind m k t text n e h
completes-next (number.Mark m) t k text n e h = completes-mark m k t text n e h
completes-next (number.Power m p) t k text n e h = completes-power m p k t text n e h
completes-next (number.PowerGap m p) t k text n e h = completes-power_gap m p k t text n e h

-- nothing completes a number that may end
pub completes-end : (s : Number) (n : Nrf) → value_of s ≡ Some n → Completes s [] n
completes-end (number.Mantissa m) n e =
    let t = cond_none (eqb m.count 0) (Some (number_of m (pos 0))) n e in
    mantissa-end m [] (pos 0) n (grind (arith, nat_tests)) behind-none (sym (same_Some _ _ t.1))
completes-end (number.Gap m) n e = (pos 0, behind-none, sym (same_Some _ _ e))
completes-end (number.Mark m) n e = cc
completes-end (number.Power m p) n e =
    let t = cond_none (eqb p.count 0) (Some (number_of m (power_of p))) n e in
    (power_of p, power-end p 0 (grind (arith, nat_tests)), sym (same_Some _ _ t.1))
completes-end (number.PowerGap m p) n e = (0, refl, sym (same_Some _ _ e))

-- a number, and white space
pub record SpacedNumber (text : List Kind) (n : Nrf) : Type 0 where
  pub number : List Kind
  pub gap : ℕ
  pub spelled : text ≡ number ++ spaces gap
  pub number_is : IsNumber number n

spaced-from : (sign : Sign) (text : List Kind) (n : Nrf) → Completes (number.Mantissa (no_mantissa (is_minus sign))) text n → SpacedNumber (sign_text sign ++ text) n
spaced-from sign text n h = record {
  number = sign_text sign ++ (h.mantissa ++ h.behind.exponent);
  gap = h.behind.gap;
  spelled = rw (h.spelled, h.behind.spelled) (simp append_assoc);
  number_is = record {
    sign = sign;
    mantissa = h.mantissa;
    whole = h.whole;
    fraction = h.fraction;
    exponent = h.behind.exponent;
    power = h.value;
    spelled = refl;
    mantissa_is = record { spelled = h.tail; some = omega (arith, h.some); few = omega (arith, h.few) };
    exponent_is = h.behind.exponent_is;
    means = rw fold-append (rw zero-add at h.means);
  };
}

-- the first byte of a number, and what completes it
pub spaced-begin : (k : Kind) (s : Number) (text : List Kind) (n : Nrf) → begin k ≡ Some s → Completes s text n → SpacedNumber (k ∷ text) n
spaced-begin Plus s text n e h = spaced-from plus text n (into (number.Mantissa (no_mantissa false)) s text n e h)
spaced-begin Minus s text n e h = spaced-from minus text n (into (number.Mantissa (no_mantissa true)) s text n e h)
spaced-begin Point s text n e h =
    spaced-from unsigned (Point ∷ text) n (completes-mantissa (no_mantissa false) Point s text n e h)
spaced-begin (Digit d) s text n e h =
    spaced-from unsigned (Digit d ∷ text) n (completes-mantissa (no_mantissa false) (Digit d) s text n e h)
spaced-begin _ s text n e h = cc
