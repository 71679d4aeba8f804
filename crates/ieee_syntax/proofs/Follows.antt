-- what stands behind each place of the scanner, in the grammar's terms
use Rattle.std.proofs.Common.{◌≡◌, ◌⊎◌, inl, inr, ℕ, suc, zero, ◌-◌, ◌≤◌, Bool, true, false, List, [], ◌∷◌, ◌++◌, length, Some, refl, sym, ap, ◌∙◌, append_assoc, append-nil, arith}
use Rattle.std.specs.Prelude.{map, ◌||◌}
use Rattle.ieee_syntax.specs.declared.kind.Kind.{Kind}
use Rattle.ieee_syntax.specs.declared.kind.Kind.TheVariants.{Space, Letter, Comma, Semicolon}
use Rattle.ieee_syntax.specs.declared.nrf.Nrf.{Nrf}
use Rattle.ieee_syntax.specs.declared.number.Number.{Number}
use Rattle.ieee_syntax.specs.declared.place.Place.{Place}
use Rattle.ieee_syntax.specs.declared.place.Place.TheVariants as places
use Rattle.ieee_syntax.specs.declared.unit.Unit.{Unit}
use Rattle.ieee_syntax.specs.Number.{spaces, IsNumber}
use Rattle.ieee_syntax.specs.Program.{NameByte, kind_in, byte_in, Separated, IsData, query_text, IsUnit, end_text}
use Rattle.ieee_syntax.specs.Automaton.{next, begin, first_of, most_of}
use Rattle.ieee_syntax.proofs.Completes.{Completes, completes-next, spaced-begin}

-- units, white space and the end
pub record Parts (text : List Kind) (us : List Unit) : Type 0 where
  pub parts : List Kind
  pub gap : ℕ
  pub ended : Bool
  pub spelled : text ≡ parts ++ (spaces gap ++ end_text ended)
  pub units : Separated Semicolon IsUnit parts us

-- what may stand behind a unit: the end, or a `;` and more units
pub record FollowEnd (text : List Kind) : Type 0 where
  pub gap : ℕ
  pub ended : Bool
  pub spelled : text ≡ spaces gap ++ end_text ended

pub record FollowMore (text : List Kind) (us : List Unit) : Type 0 where
  pub before : ℕ
  pub behind : ℕ
  pub rest : List Kind
  pub spelled : text ≡ spaces before ++ (Semicolon ∷ (spaces behind ++ rest))
  pub parts : Parts rest us

abbrev pub Follow : List Kind → List Unit → Type 0
Follow text [] = FollowEnd text
Follow text (u ∷ us) = FollowMore text (u ∷ us)

-- a unit, and what follows it
pub record Before (text : List Kind) (u : Unit) (us : List Unit) : Type 0 where
  pub unit : List Kind
  pub rest : List Kind
  pub spelled : text ≡ unit ++ rest
  pub unit_is : IsUnit unit u
  pub follow : Follow rest us

-- numbers, and what follows the unit
pub record Listed (text : List Kind) (ns : List Nrf) (us : List Unit) : Type 0 where
  pub numbers : List Kind
  pub rest : List Kind
  pub spelled : text ≡ numbers ++ rest
  pub numbers_are : Separated Comma IsNumber numbers ns
  pub follow : Follow rest us

-- the data of a unit, and what follows it
pub record Given (text : List Kind) (ns : List Nrf) (us : List Unit) : Type 0 where
  pub numbers : List Kind
  pub rest : List Kind
  pub spelled : text ≡ numbers ++ rest
  pub data_is : IsData numbers ns
  pub follow : Follow rest us

-- the rest of a number, and what follows it
pub record NumberLast (s : Number) (text : List Kind) (n : Nrf) (us : List Unit) : Type 0 where
  pub number : List Kind
  pub rest : List Kind
  pub spelled : text ≡ number ++ rest
  pub completes : Completes s number n
  pub follow : Follow rest us

pub record NumberMore (s : Number) (text : List Kind) (n : Nrf) (ns : List Nrf) (us : List Unit) : Type 0 where
  pub number : List Kind
  pub behind : ℕ
  pub rest : List Kind
  pub spelled : text ≡ number ++ (Comma ∷ (spaces behind ++ rest))
  pub completes : Completes s number n
  pub listed : Listed rest ns us

abbrev pub NumberThen : Number → List Kind → Nrf → List Nrf → List Unit → Type 0
NumberThen s text n [] us = NumberLast s text n us
NumberThen s text n (m ∷ ms) us = NumberMore s text n (m ∷ ms) us

-- a unit with a `?` or none, and with these numbers behind its own
abbrev pub joined : Unit → List NameByte → Bool → List Nrf → Unit
joined u more query ns = record { head = u.head ++ map byte_in more; query = (u.query || query); args = u.args ++ ns }

pub record HeadThen (u : Unit) (starred : Bool) (text : List Kind) (v : Unit) (us : List Unit) : Type 0 where
  pub more : List NameByte
  pub query : Bool
  pub rest : List Kind
  pub ns : List Nrf
  pub spelled : text ≡ map kind_in more ++ (query_text query ++ rest)
  pub few : length more ≤ most_of starred - length u.head
  pub given : Given rest ns us
  pub unit_is : v ≡ joined u more query ns

pub record QueryThen (u : Unit) (text : List Kind) (v : Unit) (us : List Unit) : Type 0 where
  pub ns : List Nrf
  pub given : Given text ns us
  pub unit_is : v ≡ record u { args = u.args ++ ns }

pub record CommaThen (u : Unit) (text : List Kind) (v : Unit) (us : List Unit) : Type 0 where
  pub gap : ℕ
  pub rest : List Kind
  pub n : Nrf
  pub ns : List Nrf
  pub spelled : text ≡ spaces gap ++ rest
  pub listed : Listed rest (n ∷ ns) us
  pub unit_is : v ≡ record u { args = u.args ++ n ∷ ns }

abbrev pub GapThen : Unit → List Kind → Unit → List Unit → Type 0
GapThen u text v us = ((v ≡ u) × Follow text us) ⊎ CommaThen u text v us

pub record NumberIn (u : Unit) (s : Number) (text : List Kind) (v : Unit) (us : List Unit) : Type 0 where
  pub n : Nrf
  pub ns : List Nrf
  pub then : NumberThen s text n ns us
  pub unit_is : v ≡ record u { args = u.args ++ n ∷ ns }

pub record Spaced (text : List Kind) (us : List Unit) : Type 0 where
  pub gap : ℕ
  pub rest : List Kind
  pub spelled : text ≡ spaces gap ++ rest
  pub parts : Parts rest us

-- behind a `*`
pub record StarThen (text : List Kind) (v : Unit) (us : List Unit) : Type 0 where
  pub first : ℕ
  pub rest : List Kind
  pub spelled : text ≡ Letter first ∷ rest
  pub head : HeadThen (first_of (42 ∷ first ∷ [])) true rest v us

-- one unit at least
abbrev pub OnUnit : List Unit → (Unit → List Unit → Type 0) → Type 0
OnUnit [] P = ⊥
OnUnit (v ∷ us) P = P v us

abbrev pub AtStart : List Kind → List Unit → Type 0
AtStart text [] = FollowEnd text
AtStart text (v ∷ us) = Spaced text (v ∷ us)

abbrev pub AtEnd : List Kind → List Unit → Type 0
AtEnd text [] = text ≡ []
AtEnd text (v ∷ us) = ⊥

abbrev pub After : Place → List Kind → List Unit → Type 0
After places.Start text us = AtStart text us
After places.Separator text us = OnUnit us (λ v vs. Spaced text (v ∷ vs))
After places.Star text us = OnUnit us (StarThen text)
After (places.Head u starred) text us = OnUnit us (HeadThen u starred text)
After (places.Query u) text us = OnUnit us (QueryThen u text)
After (places.Gap u) text us = OnUnit us (GapThen u text)
After (places.Comma u) text us = OnUnit us (CommaThen u text)
After (places.Number u s) text us = OnUnit us (NumberIn u s text)
After places.End text us = AtEnd text us

pub on_unit : (us : List Unit) (P Q : Unit → List Unit → Type 0) → ((v : Unit) (vs : List Unit) → P v vs → Q v vs) → OnUnit us P → OnUnit us Q
on_unit [] P Q f h = h
on_unit (v ∷ vs) P Q f h = f v vs h

-- white space before what follows
pub follow-space : (text : List Kind) (us : List Unit) → Follow text us → Follow (Space ∷ text) us
follow-space text [] h = record { gap = suc h.gap; ended = h.ended; spelled = ap (λ t. Space ∷ t) h.spelled }
follow-space text (u ∷ us) h = record { before = suc h.before; behind = h.behind; rest = h.rest; spelled = ap (λ t. Space ∷ t) h.spelled; parts = h.parts }

follow-spaces : (gap : ℕ) (text : List Kind) (us : List Unit) → Follow text us → Follow (spaces gap ++ text) us
follow-spaces zero text us h = h
follow-spaces (suc gap) text us h = follow-space (spaces gap ++ text) us (follow-spaces gap text us h)

-- a unit joined to those that follow it
pub parts-from : (text : List Kind) (u : Unit) (us : List Unit) → Before text u us → Parts text (u ∷ us)
parts-from text u [] h = record { parts = h.unit; gap = h.follow.gap; ended = h.follow.ended; spelled = h.spelled ∙ ap (λ t. h.unit ++ t) h.follow.spelled; units = h.unit_is }
parts-from text u (v ∷ us) h =
    let f = h.follow in
    let p = f.parts in
    record {
      parts = h.unit ++ (spaces f.before ++ (Semicolon ∷ (spaces f.behind ++ p.parts)));
      gap = p.gap;
      ended = p.ended;
      spelled = rw (h.spelled, f.spelled, p.spelled) (simp append_assoc);
      units = (h.unit, p.parts, f.before, f.behind, refl, h.unit_is, p.units);
    }

-- a number joined to those that follow it
pub listed-begin : (k : Kind) (s : Number) (text : List Kind) (n : Nrf) (ns : List Nrf) (us : List Unit) → begin k ≡ Some s → NumberThen s text n ns us → Listed (k ∷ text) (n ∷ ns) us
listed-begin k s text n [] us e h =
    let b = spaced-begin k s h.number n e h.completes in
    record {
      numbers = b.number;
      rest = spaces b.gap ++ h.rest;
      spelled = ap (λ t. k ∷ t) h.spelled ∙ (ap (λ t. t ++ h.rest) b.spelled ∙ append_assoc b.number (spaces b.gap) h.rest);
      numbers_are = b.number_is;
      follow = follow-spaces b.gap h.rest us h.follow;
    }
listed-begin k s text n (m ∷ ms) us e h =
    let b = spaced-begin k s h.number n e h.completes in
    let l = h.listed in
    record {
      numbers = b.number ++ (spaces b.gap ++ (Comma ∷ (spaces h.behind ++ l.numbers)));
      rest = l.rest;
      spelled = ap (λ t. k ∷ t) h.spelled ∙ (ap (λ t. t ++ (Comma ∷ (spaces h.behind ++ h.rest))) b.spelled ∙ rw l.spelled (simp append_assoc));
      numbers_are = (b.number, l.numbers, b.gap, h.behind, refl, b.number_is, l.numbers_are);
      follow = l.follow;
    }

-- one byte of a number before
pub number-next : (s t : Number) (k : Kind) (text : List Kind) (n : Nrf) (ns : List Nrf) (us : List Unit) → next s k ≡ Some t → NumberThen t text n ns us → NumberThen s (k ∷ text) n ns us
number-next s t k text n [] us e h = record { number = k ∷ h.number; rest = h.rest; spelled = ap (λ t. k ∷ t) h.spelled; completes = completes-next s t k h.number n e h.completes; follow = h.follow }
number-next s t k text n (m ∷ ms) us e h = record { number = k ∷ h.number; behind = h.behind; rest = h.rest; spelled = ap (λ t. k ∷ t) h.spelled; completes = completes-next s t k h.number n e h.completes; listed = h.listed }

pub given-none : (text : List Kind) (us : List Unit) → Follow text us → Given text [] us
given-none text us h = record { numbers = []; rest = text; spelled = refl; data_is = refl; follow = h }

-- the data behind white space
pub given-gap : (u : Unit) (text : List Kind) (v : Unit) (us : List Unit) → GapThen u text v us → QueryThen u (Space ∷ text) v us
given-gap u text v us (inl h) = record { ns = []; given = given-none (Space ∷ text) us (follow-space text us h.1); unit_is = rw append-nil h.0 }
given-gap u text v us (inr h) =
    let l = h.listed in
    record {
      ns = h.n ∷ h.ns;
      given = record {
        numbers = spaces (suc h.gap) ++ l.numbers;
        rest = l.rest;
        spelled = ap (λ t. Space ∷ t) (h.spelled ∙ (ap (λ t. spaces h.gap ++ t) l.spelled ∙ sym (append_assoc (spaces h.gap) l.numbers l.rest)));
        data_is = (suc h.gap, l.numbers, omega arith, refl, l.numbers_are);
        follow = l.follow;
      };
      unit_is = h.unit_is;
    }

-- a head that ends here
or_false : (b : Bool) → (b || false) ≡ b
or_false true = refl
or_false false = refl

pub head-ends : (u : Unit) (starred : Bool) (text : List Kind) (v : Unit) (us : List Unit) → QueryThen u text v us → HeadThen u starred text v us
head-ends u starred text v us h = record { more = []; query = false; rest = text; ns = h.ns; spelled = refl; few = omega arith; given = h.given; unit_is = rw (or_false, append-nil) h.unit_is }
