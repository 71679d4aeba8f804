-- what stands behind a place, from what stands behind the next
use Rattle.std.proofs.Common.{◌≡◌, inl, inr, ℕ, suc, ◌-◌, ◌<◌, ◌≤◌, Bool, true, false, List, [], ◌∷◌, ◌++◌, length, Some, refl, sym, ap, ◌∙◌, subst, append_assoc, append-nil, length-append, arith, nat_lt}
use Rattle.std.specs.Prelude.{map, option_map, ◌||◌}
use Rattle.std.proofs.lemmas.Option.{same_Some, cond_some}
use Rattle.std.proofs.lemmas.Bool.Decides.{nat_tests}
use Rattle.ieee_syntax.specs.declared.kind.Kind.{Kind}
use Rattle.ieee_syntax.specs.declared.kind.Kind.TheVariants.{Space, Digit, Letter, Underscore, Star, Question, Comma}
use Rattle.ieee_syntax.specs.declared.nrf.Nrf.{Nrf}
use Rattle.ieee_syntax.specs.declared.number.Number.{Number}
use Rattle.ieee_syntax.specs.declared.place.Place.{Place}
use Rattle.ieee_syntax.specs.declared.place.Place.TheVariants as places
use Rattle.ieee_syntax.specs.declared.unit.Unit.{Unit}
use Rattle.ieee_syntax.specs.Program.{NameByte, letter, digit, underscore, kind_in, byte_in, star_text, star_name, IsData, query_text}
use Rattle.ieee_syntax.specs.Automaton.{next, begin, value_of, named, given, first_of, most_of, whole, at_unit, behind_star, longer, in_head, behind_query, at_number, in_number, advance}
use Rattle.ieee_syntax.proofs.Options.{option_map_some}
use Rattle.ieee_syntax.proofs.Completes.{completes-end}
use Rattle.ieee_syntax.proofs.Follows.{After, AtStart, OnUnit, on_unit, Follow, Before, Spaced, StarThen, HeadThen, QueryThen, GapThen, CommaThen, NumberIn, follow-space, parts-from, listed-begin, number-next, given-none, given-gap, head-ends}

into : (p q : Place) (text : List Kind) (us : List Unit) → Some p ≡ Some q → After q text us → After p text us
into p q text us e h = subst (λ (x : Place). After x text us) (sym (same_Some p q e)) h

-- a unit that ends here
query-none : (u v : Unit) (text : List Kind) (us : List Unit) → Some u ≡ Some v → Follow text us → QueryThen u text v us
query-none u v text us e h = record { ns = []; given = given-none text us h; unit_is = rw append-nil (sym (same_Some u v e)) }

pub whole-back : (p : Place) (v : Unit) (text : List Kind) (us : List Unit) → whole p ≡ Some v → Follow text us → After p text (v ∷ us)
whole-back places.Start v text us e h = cc
whole-back places.Separator v text us e h = cc
whole-back places.Star v text us e h = cc
whole-back (places.Head u starred) v text us e h = head-ends u starred text v us (query-none u v text us e h)
whole-back (places.Query u) v text us e h = query-none u v text us e h
whole-back (places.Gap u) v text us e h = inl (sym (same_Some u v e), h)
whole-back (places.Comma u) v text us e h = cc
whole-back (places.Number u s) v text us e h =
    let t = option_map_some (given u) (value_of s) v e in
    record {
      n = t.0;
      ns = [];
      then = record { number = []; rest = text; spelled = refl; completes = completes-end s t.0 t.1; follow = h };
      unit_is = sym t.2;
    }
whole-back places.End v text us e h = cc

-- the first bytes of a unit
room : (star : Bool) (first n : ℕ) → n ≤ most_of star - length (star_name star ++ first ∷ []) → n < 12
room true first n h = omega arith
room false first n h = omega arith

before-head : (star : Bool) (first : ℕ) (text : List Kind) (v : Unit) (us : List Unit) → HeadThen (first_of (star_name star ++ first ∷ [])) star text v us → Before (star_text star ++ (Letter first ∷ text)) v us
before-head star first text v us h =
    let head = star_text star ++ (Letter first ∷ map kind_in h.more) in
    let asked : h.query ≡ v.query = sym (ap (λ (u : Unit). u.query) h.unit_is) in
    let called : v.head ≡ (star_name star ++ first ∷ []) ++ map byte_in h.more = ap (λ (u : Unit). u.head) h.unit_is in
    let with_numbers : h.ns ≡ v.args = sym (ap (λ (u : Unit). u.args) h.unit_is) in
    record {
      unit = head ++ (query_text h.query ++ h.given.numbers);
      rest = h.given.rest;
      spelled = rw (h.spelled, h.given.spelled) (simp append_assoc);
      unit_is = record {
        head = head;
        numbers = h.given.numbers;
        spelled = ap (λ q. head ++ (query_text q ++ h.given.numbers)) asked;
        named = record { star = star; first = first; more = h.more; spelled = refl; few = room star first (length h.more) h.few; named = called ∙ append_assoc (star_name star) (first ∷ []) (map byte_in h.more) };
        given = subst (IsData h.given.numbers) with_numbers h.given.data_is;
      };
      follow = h.given.follow;
    }

spaced-head : (star : Bool) (first : ℕ) (text : List Kind) (v : Unit) (us : List Unit) → HeadThen (first_of (star_name star ++ first ∷ [])) star text v us → Spaced (star_text star ++ (Letter first ∷ text)) (v ∷ us)
spaced-head star first text v us h = record { gap = 0; rest = star_text star ++ (Letter first ∷ text); spelled = refl; parts = parts-from _ v us (before-head star first text v us h) }

spaced-star : (text : List Kind) (v : Unit) (us : List Unit) → StarThen text v us → Spaced (Star ∷ text) (v ∷ us)
spaced-star text v us h = rw h.spelled (spaced-head true h.first h.rest v us h.head)

spaced-space : (text : List Kind) (v : Unit) (us : List Unit) → Spaced text (v ∷ us) → Spaced (Space ∷ text) (v ∷ us)
spaced-space text v us h = record { gap = suc h.gap; rest = h.rest; spelled = ap (λ t. Space ∷ t) h.spelled; parts = h.parts }

start-space : (text : List Kind) (us : List Unit) → AtStart text us → AtStart (Space ∷ text) us
start-space text [] h = follow-space text [] h
start-space text (v ∷ us) h = spaced-space text v us h

start-from : (text : List Kind) (us : List Unit) → OnUnit us (λ v vs. Spaced text (v ∷ vs)) → AtStart text us
start-from text [] h = absurd h
start-from text (v ∷ us) h = h

unit-back : (p q : Place) (k : Kind) (text : List Kind) (us : List Unit) → at_unit p k ≡ Some q → (k ≡ Space → ⊥) → After q text us → OnUnit us (λ v vs. Spaced (k ∷ text) (v ∷ vs))
unit-back p q Space text us e other h = absurd (other refl)
unit-back p q Star text us e other h = on_unit us (StarThen text) (λ v vs. Spaced (Star ∷ text) (v ∷ vs)) (spaced-star text) (into places.Star q text us e h)
unit-back p q (Letter code) text us e other h =
    on_unit us (HeadThen (first_of (code ∷ [])) false text) (λ v vs. Spaced (Letter code ∷ text) (v ∷ vs)) (spaced-head false code text)
    (into (places.Head (first_of (code ∷ [])) false) q text us e h)
unit-back p q _ text us e other h = cc

start-back : (q : Place) (k : Kind) (text : List Kind) (us : List Unit) → at_unit places.Start k ≡ Some q → After q text us → AtStart (k ∷ text) us
start-back q Space text us e h = start-space text us (into places.Start q text us e h)
start-back q k text us e h = start-from (k ∷ text) us (unit-back places.Start q k text us e (λ s. cc) h)

separator-back : (q : Place) (k : Kind) (text : List Kind) (us : List Unit) → at_unit places.Separator k ≡ Some q → After q text us → OnUnit us (λ v vs. Spaced (k ∷ text) (v ∷ vs))
separator-back q Space text us e h =
    on_unit us (λ v vs. Spaced text (v ∷ vs)) (λ v vs. Spaced (Space ∷ text) (v ∷ vs)) (spaced-space text) (into places.Separator q text us e h)
separator-back q k text us e h = unit-back places.Separator q k text us e (λ s. cc) h

star-back : (q : Place) (k : Kind) (text : List Kind) (us : List Unit) → behind_star k ≡ Some q → After q text us → OnUnit us (StarThen (k ∷ text))
star-back q (Letter code) text us e h =
    on_unit us (HeadThen (first_of (42 ∷ code ∷ [])) true text) (StarThen (Letter code ∷ text))
    (λ v vs t. record { first = code; rest = text; spelled = refl; head = t })
    (into (places.Head (first_of (42 ∷ code ∷ [])) true) q text us e h)
star-back q _ text us e h = cc

-- one more byte of a head
head-longer : (u : Unit) (starred : Bool) (byte : NameByte) (text : List Kind) (v : Unit) (us : List Unit) → length u.head < most_of starred → HeadThen (named u (byte_in byte)) starred text v us → HeadThen u starred (kind_in byte ∷ text) v us
head-longer u starred byte text v us less h = record {
  more = byte ∷ h.more;
  query = h.query;
  rest = h.rest;
  ns = h.ns;
  spelled = ap (λ t. kind_in byte ∷ t) h.spelled;
  few = omega (arith, h.few, length-append u.head (byte_in byte ∷ []));
  given = h.given;
  unit_is = rw (← append_assoc u.head (byte_in byte ∷ []) (map byte_in h.more)) h.unit_is;
}

longer-back : (u : Unit) (starred : Bool) (byte : NameByte) (q : Place) (text : List Kind) (us : List Unit) → longer u starred (byte_in byte) ≡ Some q → After q text us → OnUnit us (HeadThen u starred (kind_in byte ∷ text))
longer-back u starred byte q text us e h =
    let t = cond_some (nat_lt (length u.head) (most_of starred)) (places.Head (named u (byte_in byte)) starred) q e in
    let less : length u.head < most_of starred = grind (arith, nat_tests) in
    on_unit us (HeadThen (named u (byte_in byte)) starred text) (HeadThen u starred (kind_in byte ∷ text)) (λ v vs g. head-longer u starred byte text v vs less g)
    (into (places.Head (named u (byte_in byte)) starred) q text us (ap Some t.1) h)

or_true : (b : Bool) → (b || true) ≡ true
or_true true = refl
or_true false = refl

head-query : (u : Unit) (starred : Bool) (text : List Kind) (v : Unit) (us : List Unit) → QueryThen (record u { query = true }) text v us → HeadThen u starred (Question ∷ text) v us
head-query u starred text v us h = record { more = []; query = true; rest = text; ns = h.ns; spelled = refl; few = omega arith; given = h.given; unit_is = rw (or_true, append-nil) h.unit_is }

head-back : (u : Unit) (starred : Bool) (q : Place) (k : Kind) (text : List Kind) (us : List Unit) → in_head u starred k ≡ Some q → After q text us → OnUnit us (HeadThen u starred (k ∷ text))
head-back u starred q (Letter code) text us e h = longer-back u starred (letter code) q text us e h
head-back u starred q (Digit value) text us e h = longer-back u starred (digit value) q text us e h
head-back u starred q Underscore text us e h = longer-back u starred underscore q text us e h
head-back u starred q Question text us e h =
    on_unit us (QueryThen (record u { query = true }) text) (HeadThen u starred (Question ∷ text)) (head-query u starred text)
    (into (places.Query (record u { query = true })) q text us e h)
head-back u starred q Space text us e h =
    on_unit us (GapThen u text) (HeadThen u starred (Space ∷ text)) (λ v vs g. head-ends u starred (Space ∷ text) v vs (given-gap u text v vs g))
    (into (places.Gap u) q text us e h)
head-back u starred q _ text us e h = cc

query-back : (u : Unit) (q : Place) (k : Kind) (text : List Kind) (us : List Unit) → behind_query u k ≡ Some q → After q text us → OnUnit us (QueryThen u (k ∷ text))
query-back u q Space text us e h = on_unit us (GapThen u text) (QueryThen u (Space ∷ text)) (given-gap u text) (into (places.Gap u) q text us e h)
query-back u q _ text us e h = cc

-- white space before a number, and its first byte
comma-space : (u : Unit) (text : List Kind) (v : Unit) (us : List Unit) → CommaThen u text v us → CommaThen u (Space ∷ text) v us
comma-space u text v us h = record { gap = suc h.gap; rest = h.rest; n = h.n; ns = h.ns; spelled = ap (λ t. Space ∷ t) h.spelled; listed = h.listed; unit_is = h.unit_is }

gap-space : (u : Unit) (text : List Kind) (v : Unit) (us : List Unit) → GapThen u text v us → GapThen u (Space ∷ text) v us
gap-space u text v us (inl h) = inl (h.0, follow-space text us h.1)
gap-space u text v us (inr h) = inr (comma-space u text v us h)

comma-number : (u : Unit) (q : Place) (k : Kind) (text : List Kind) (us : List Unit) → option_map (places.Number u) (begin k) ≡ Some q → After q text us → OnUnit us (CommaThen u (k ∷ text))
comma-number u q k text us e h =
    let t = option_map_some (places.Number u) (begin k) q e in
    on_unit us (NumberIn u t.0 text) (CommaThen u (k ∷ text))
    (λ v vs g. record { gap = 0; rest = k ∷ text; n = g.n; ns = g.ns; spelled = refl; listed = listed-begin k t.0 text g.n g.ns vs t.1 g.then; unit_is = g.unit_is })
    (into (places.Number u t.0) q text us (ap Some t.2) h)

gap-back : (u : Unit) (q : Place) (k : Kind) (text : List Kind) (us : List Unit) → at_number (places.Gap u) u k ≡ Some q → After q text us → OnUnit us (GapThen u (k ∷ text))
gap-back u q Space text us e h = on_unit us (GapThen u text) (GapThen u (Space ∷ text)) (gap-space u text) (into (places.Gap u) q text us e h)
gap-back u q k text us e h = on_unit us (CommaThen u (k ∷ text)) (GapThen u (k ∷ text)) (λ v vs g. inr g) (comma-number u q k text us e h)

comma-back : (u : Unit) (q : Place) (k : Kind) (text : List Kind) (us : List Unit) → at_number (places.Comma u) u k ≡ Some q → After q text us → OnUnit us (CommaThen u (k ∷ text))
comma-back u q Space text us e h = on_unit us (CommaThen u text) (CommaThen u (Space ∷ text)) (comma-space u text) (into (places.Comma u) q text us e h)
comma-back u q k text us e h = comma-number u q k text us e h

-- in a number
number-comma : (u : Unit) (s : Number) (n : Nrf) (text : List Kind) (v : Unit) (us : List Unit) → value_of s ≡ Some n → CommaThen (given u n) text v us → NumberIn u s (Comma ∷ text) v us
number-comma u s n text v us e h = record {
  n = n;
  ns = h.n ∷ h.ns;
  then = record { number = []; behind = h.gap; rest = h.rest; spelled = ap (λ t. Comma ∷ t) h.spelled; completes = completes-end s n e; listed = h.listed };
  unit_is = rw (← append_assoc u.args (n ∷ []) (h.n ∷ h.ns)) h.unit_is;
}

number-goes : (u : Unit) (s : Number) (q : Place) (k : Kind) (text : List Kind) (us : List Unit) → option_map (places.Number u) (next s k) ≡ Some q → After q text us → OnUnit us (NumberIn u s (k ∷ text))
number-goes u s q k text us e h =
    let t = option_map_some (places.Number u) (next s k) q e in
    on_unit us (NumberIn u t.0 text) (NumberIn u s (k ∷ text))
    (λ v vs g. record { n = g.n; ns = g.ns; then = number-next s t.0 k text g.n g.ns vs t.1 g.then; unit_is = g.unit_is })
    (into (places.Number u t.0) q text us (ap Some t.2) h)

number-back : (u : Unit) (s : Number) (q : Place) (k : Kind) (text : List Kind) (us : List Unit) → in_number u s k ≡ Some q → After q text us → OnUnit us (NumberIn u s (k ∷ text))
number-back u s q Comma text us e h =
    let t = option_map_some (λ value. places.Comma (given u value)) (value_of s) q e in
    on_unit us (CommaThen (given u t.0) text) (NumberIn u s (Comma ∷ text)) (λ v vs g. number-comma u s t.0 text v vs t.1 g)
    (into (places.Comma (given u t.0)) q text us (ap Some t.2) h)
number-back u s q k text us e h = number-goes u s q k text us e h

pub advance-back : (p q : Place) (k : Kind) (text : List Kind) (us : List Unit) → advance p k ≡ Some q → After q text us → After p (k ∷ text) us
advance-back places.Start q k text us e h = start-back q k text us e h
advance-back places.Separator q k text us e h = separator-back q k text us e h
advance-back places.Star q k text us e h = star-back q k text us e h
advance-back (places.Head u starred) q k text us e h = head-back u starred q k text us e h
advance-back (places.Query u) q k text us e h = query-back u q k text us e h
advance-back (places.Gap u) q k text us e h = gap-back u q k text us e h
advance-back (places.Comma u) q k text us e h = comma-back u q k text us e h
advance-back (places.Number u s) q k text us e h = number-back u s q k text us e h
advance-back places.End q k text us e h = cc
