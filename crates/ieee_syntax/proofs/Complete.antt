-- a message of the grammar is taken by the scanner, which gives its units
use Rattle.std.proofs.Common.{◌≡◌, ℕ, suc, zero, ◌+◌, ◌<◌, ◌≤◌, Bool, true, false, List, [], ◌∷◌, ◌++◌, length, fold, map, nat_lt, Option, Some, refl, sym, ap, ◌∙◌, append_assoc, append-nil, length-append, arith}
use Rattle.std.specs.Prelude.{option_map}
use Rattle.std.proofs.lemmas.Bool.Decides.{nat_tests}
use Rattle.std.proofs.lemmas.List.Sums.{fold-append}
use Rattle.ieee_syntax.specs.declared.kind.Kind.{Kind}
use Rattle.ieee_syntax.specs.declared.kind.Kind.TheVariants.{Space, NewLine, Letter, Star, Comma, Semicolon}
use Rattle.ieee_syntax.specs.declared.nrf.Nrf.{Nrf}
use Rattle.ieee_syntax.specs.declared.number.Number.{Number}
use Rattle.ieee_syntax.specs.declared.place.Place.{Place}
use Rattle.ieee_syntax.specs.declared.place.Place.TheVariants as places
use Rattle.ieee_syntax.specs.declared.unit.Unit.{Unit}
use Rattle.ieee_syntax.specs.Number.{spaces, IsNumber}
use Rattle.ieee_syntax.specs.Program.{NameByte, letter, digit, underscore, kind_in, byte_in, star_text, star_name, IsHead, Separated, IsData, query_text, IsUnit, IsMessage, end_text, Program}
use Rattle.ieee_syntax.specs.Automaton.{Scan, start, value_of, named, given, first_of, most_of, whole, finish, step, goes, reads}
use Rattle.ieee_syntax.proofs.Options.{option_map_some}
use Rattle.ieee_syntax.proofs.Sound.{ended, reads-kinds}
use Rattle.ieee_syntax.proofs.Digits.{at, chain, Opens, Reads, number-reads, number-space}

spaces-stay : (units : List Unit) (p : Place) → step units p Space ≡ at units p → (gap : ℕ) → fold goes (at units p) (spaces gap) ≡ at units p
spaces-stay units p e zero = refl
spaces-stay units p e (suc gap) = ap (λ o. fold goes o (spaces gap)) e ∙ spaces-stay units p e gap

-- the text leads to a place where this unit is whole
record Leads (units : List Unit) (from : Option Scan) (text : List Kind) (u : Unit) : Type 0 where
  place : Place
  reached : fold goes from text ≡ at units place
  unit : whole place ≡ Some u

number-whole : (u : Unit) (s : Number) (n : Nrf) → value_of s ≡ Some n → whole (places.Number u s) ≡ Some (given u n)
number-whole u s n e = ap (option_map (given u)) e

-- white space behind a whole unit
place-space : (units : List Unit) (p : Place) (u : Unit) → whole p ≡ Some u → (q : Place) × (step units p Space ≡ at units q) × (whole q ≡ Some u)
place-space units places.Start u e = cc
place-space units places.Separator u e = cc
place-space units places.Star u e = cc
place-space units (places.Head v starred) u e = (places.Gap v, refl, e)
place-space units (places.Query v) u e = (places.Gap v, refl, e)
place-space units (places.Gap v) u e = (places.Gap v, refl, e)
place-space units (places.Comma v) u e = cc
place-space units (places.Number v s) u e =
    let t = option_map_some (given v) (value_of s) u e in
    let r = number-space units v s t.0 t.1 in
    (places.Number v r.0, r.1, number-whole v r.0 t.0 r.2 ∙ ap Some t.2)
place-space units places.End u e = cc

place-spaces : (units : List Unit) (p : Place) (u : Unit) → whole p ≡ Some u → (gap : ℕ) → Leads units (at units p) (spaces gap) u
place-spaces units p u e zero = record { place = p; reached = refl; unit = e }
place-spaces units p u e (suc gap) =
    let t = place-space units p u e in
    let r = place-spaces units t.0 u t.2 gap in
    record { place = r.place; reached = ap (λ o. fold goes o (spaces gap)) t.1 ∙ r.reached; unit = r.unit }

leads-spaces : (units : List Unit) (from : Option Scan) (text : List Kind) (u : Unit) → Leads units from text u → (gap : ℕ) → Leads units from (text ++ spaces gap) u
leads-spaces units from text u h gap =
    let r = place-spaces units h.place u h.unit gap in
    record { place = r.place; reached = chain from (at units h.place) (at units r.place) text (spaces gap) h.reached r.reached; unit = r.unit }

number-spaces : (units : List Unit) (u : Unit) (s : Number) (n : Nrf) → value_of s ≡ Some n → (gap : ℕ) → Reads units u (at units (places.Number u s)) (spaces gap) n
number-spaces units u s n e zero = record { state = s; reached = refl; value = e }
number-spaces units u s n e (suc gap) =
    let t = number-space units u s n e in
    let r = number-spaces units u t.0 n t.2 gap in
    record { state = r.state; reached = ap (λ o. fold goes o (spaces gap)) t.1 ∙ r.reached; value = r.value }

-- places where a number may begin
opens-gap : (units : List Unit) (u : Unit) → Opens units u (places.Gap u)
opens-gap units u Space s e = cc
opens-gap units u NewLine s e = cc
opens-gap units u Semicolon s e = cc
opens-gap units u k s e = ap (λ o. option_map (λ (p : Place). record { units = units; place = p }) (option_map (places.Number u) o)) e

opens-comma : (units : List Unit) (u : Unit) → Opens units u (places.Comma u)
opens-comma units u Space s e = cc
opens-comma units u NewLine s e = cc
opens-comma units u Semicolon s e = cc
opens-comma units u k s e = ap (λ o. option_map (λ (p : Place). record { units = units; place = p }) (option_map (places.Number u) o)) e

-- numbers with commas between them
comma-step : (units : List Unit) (u : Unit) (s : Number) (n : Nrf) → value_of s ≡ Some n → step units (places.Number u s) Comma ≡ at units (places.Comma (given u n))
comma-step units u s n e = ap (λ o. option_map (λ (p : Place). record { units = units; place = p }) (option_map (λ value. places.Comma (given u value)) o)) e

numbers-lead : (units : List Unit) (p : Place) (u : Unit) → Opens units u p → (text : List Kind) (n : Nrf) (ns : List Nrf) → Separated Comma IsNumber text (n ∷ ns) → Leads units (at units p) text (record u { args = u.args ++ n ∷ ns })
numbers-lead units p u opens text n [] h =
    let r = number-reads units u p opens text n h in
    record { place = places.Number u r.state; reached = r.reached; unit = number-whole u r.state n r.value }
numbers-lead units p u opens text n (m ∷ ms) h =
    let item = h.0 in
    let rest = h.1 in
    let v = given u n in
    let r = number-reads units u p opens item n h.5 in
    let g = number-spaces units u r.state n r.value h.2 in
    let l = numbers-lead units (places.Comma v) v (opens-comma units v) rest m ms h.6 in
    let behind : fold goes (at units (places.Comma v)) (spaces h.3 ++ rest) ≡ at units l.place =
    chain (at units (places.Comma v)) (at units (places.Comma v)) (at units l.place) (spaces h.3) rest (spaces-stay units (places.Comma v) refl h.3) l.reached in
    let comma : fold goes (at units (places.Number u g.state)) (Comma ∷ (spaces h.3 ++ rest)) ≡ at units l.place =
    ap (λ o. fold goes o (spaces h.3 ++ rest)) (comma-step units u g.state n g.value) ∙ behind in
    let before : fold goes (at units (places.Number u r.state)) (spaces h.2 ++ (Comma ∷ (spaces h.3 ++ rest))) ≡ at units l.place =
    chain (at units (places.Number u r.state)) (at units (places.Number u g.state)) (at units l.place) (spaces h.2) (Comma ∷ (spaces h.3 ++ rest)) g.reached comma in
    record {
      place = l.place;
      reached = rw h.4 (chain (at units p) (at units (places.Number u r.state)) (at units l.place) item (spaces h.2 ++ (Comma ∷ (spaces h.3 ++ rest))) r.reached before);
      unit = l.unit ∙ ap (λ args. Some (record u { args = args })) (append_assoc u.args (n ∷ []) (m ∷ ms));
    }

-- a place behind a head or a `?`
record IsNamed (units : List Unit) (p : Place) (u : Unit) : Type 0 where
  unit : whole p ≡ Some u
  space : step units p Space ≡ at units (places.Gap u)

data-leads : (units : List Unit) (p : Place) (u : Unit) → IsNamed units p u → (text : List Kind) (ns : List Nrf) → IsData text ns → Leads units (at units p) text (record u { args = u.args ++ ns })
data-leads units p u h text [] e = record { place = p; reached = rw e refl; unit = rw append-nil h.unit }
data-leads units p u h text (n ∷ ns) d =
    let gap = d.0 in
    let l = numbers-lead units (places.Gap u) u (opens-gap units u) d.1 n ns d.4 in
    record { place = l.place; reached = rw d.3 (gap-leads gap d.2 d.1 l.place l.reached); unit = l.unit }
  where
    gap-leads : (gap : ℕ) → 0 < gap → (numbers : List Kind) (q : Place) → fold goes (at units (places.Gap u)) numbers ≡ at units q → fold goes (at units p) (spaces gap ++ numbers) ≡ at units q
    gap-leads zero some numbers q e = absurd (omega arith)
    gap-leads (suc gap) some numbers q e =
        ap (λ o. fold goes o (spaces gap ++ numbers)) h.space
        ∙ chain (at units (places.Gap u)) (at units (places.Gap u)) (at units q) (spaces gap) numbers (spaces-stay units (places.Gap u) refl gap) e

-- a head
less : (m n : ℕ) → m < n → nat_lt m n ≡ true
less m n h = grind (arith, nat_tests)

name-step : (units : List Unit) (u : Unit) (starred : Bool) (b : NameByte) → length u.head < most_of starred → step units (places.Head u starred) (kind_in b) ≡ at units (places.Head (named u (byte_in b)) starred)
name-step units u starred (letter code) h = rw (less (length u.head) (most_of starred) h) refl
name-step units u starred (digit value) h = rw (less (length u.head) (most_of starred) h) refl
name-step units u starred underscore h = rw (less (length u.head) (most_of starred) h) refl

name-reads : (units : List Unit) (u : Unit) (starred : Bool) (more : List NameByte) → length u.head + length more ≤ most_of starred
    → fold goes (at units (places.Head u starred)) (map kind_in more) ≡ at units (places.Head (record u { head = u.head ++ map byte_in more }) starred)
name-reads units u starred [] few = rw append-nil refl
name-reads units u starred (b ∷ more) few =
    ap (λ o. fold goes o (map kind_in more)) (name-step units u starred b (omega arith))
    ∙ (name-reads units (named u (byte_in b)) starred more (omega (arith, length-append u.head (byte_in b ∷ [])))
    ∙ ap (λ head. at units (places.Head (record u { head = head }) starred)) (append_assoc u.head (byte_in b ∷ []) (map byte_in more)))

-- a place where a unit may begin
record OpensUnit (units : List Unit) (p : Place) : Type 0 where
  star : step units p Star ≡ at units places.Star
  letters : (code : ℕ) → step units p (Letter code) ≡ at units (places.Head (first_of (code ∷ [])) false)
  stays : step units p Space ≡ at units p

head-first : (units : List Unit) (p : Place) → OpensUnit units p → (starred : Bool) (first : ℕ) (text : List Kind)
    → fold goes (at units p) (star_text starred ++ (Letter first ∷ text)) ≡ fold goes (at units (places.Head (first_of (star_name starred ++ first ∷ [])) starred)) text
head-first units p h true first text = ap (λ o. fold goes o (Letter first ∷ text)) h.star
head-first units p h false first text = ap (λ o. fold goes o text) (h.letters first)

fits-head : (starred : Bool) (first n : ℕ) → n < 12 → length (star_name starred ++ first ∷ []) + n ≤ most_of starred
fits-head true first n h = omega arith
fits-head false first n h = omega arith

head-reads : (units : List Unit) (p : Place) → OpensUnit units p → (text : List Kind) (name : List ℕ) → IsHead text name → (starred : Bool) × (fold goes (at units p) text ≡ at units (places.Head (first_of name) starred))
head-reads units p opens text name h =
    let first = first_of (star_name h.star ++ h.first ∷ []) in
    let same : (star_name h.star ++ h.first ∷ []) ++ map byte_in h.more ≡ name = append_assoc (star_name h.star) (h.first ∷ []) (map byte_in h.more) ∙ sym h.named in (
      h.star,
      rw h.spelled (head-first units p opens h.star h.first (map kind_in h.more)
          ∙ (name-reads units first h.star h.more (fits-head h.star h.first (length h.more) h.few)
          ∙ ap (λ head. at units (places.Head (first_of head) h.star)) same)),
    )

-- a `?`
query-reads : (units : List Unit) (name : List ℕ) (starred query : Bool) → (p : Place)
    × (fold goes (at units (places.Head (first_of name) starred)) (query_text query) ≡ at units p) × IsNamed units p (record { head = name; query = query; args = [] })
query-reads units name starred true = (places.Query (record { head = name; query = true; args = [] }), refl, record { unit = refl; space = refl })
query-reads units name starred false = (places.Head (first_of name) starred, refl, record { unit = refl; space = refl })

unit-leads : (units : List Unit) (p : Place) → OpensUnit units p → (text : List Kind) (u : Unit) → IsUnit text u → Leads units (at units p) text u
unit-leads units p opens text u h =
    let head = head-reads units p opens h.head u.head h.named in
    let query = query-reads units u.head head.0 u.query in
    let l = data-leads units query.0 (record { head = u.head; query = u.query; args = [] }) query.2 h.numbers u.args h.given in
    let behind : fold goes (at units (places.Head (first_of u.head) head.0)) (query_text u.query ++ h.numbers) ≡ at units l.place =
    chain (at units (places.Head (first_of u.head) head.0)) (at units query.0) (at units l.place) (query_text u.query) h.numbers query.1 l.reached in
    record {
      place = l.place;
      reached = rw h.spelled (chain (at units p) (at units (places.Head (first_of u.head) head.0)) (at units l.place) h.head (query_text u.query ++ h.numbers) head.1 behind);
      unit = l.unit;
    }

-- units with semicolons between them
separator-step : (units : List Unit) (p : Place) (u : Unit) → whole p ≡ Some u → step units p Semicolon ≡ at (units ++ u ∷ []) places.Separator
separator-step units p u e = ap (λ o. option_map (λ (all : List Unit). record { units = all; place = places.Separator }) (option_map (λ unit. units ++ unit ∷ []) o)) e

-- the text leads to a place where these units are whole
record LeadsAll (from : Option Scan) (text : List Kind) (all : List Unit) : Type 0 where
  units : List Unit
  place : Place
  last : Unit
  reached : fold goes from text ≡ at units place
  unit : whole place ≡ Some last
  joined : units ++ last ∷ [] ≡ all

opens-separator : (units : List Unit) → OpensUnit units places.Separator
opens-separator units = record { star = refl; letters = λ code. refl; stays = refl }

opens-start : (units : List Unit) → OpensUnit units places.Start
opens-start units = record { star = refl; letters = λ code. refl; stays = refl }

units-lead : (units : List Unit) (p : Place) → OpensUnit units p → (text : List Kind) (u : Unit) (us : List Unit) → Separated Semicolon IsUnit text (u ∷ us) → LeadsAll (at units p) text (units ++ u ∷ us)
units-lead units p opens text u [] h =
    let l = unit-leads units p opens text u h in
    record { units = units; place = l.place; last = u; reached = l.reached; unit = l.unit; joined = refl }
units-lead units p opens text u (v ∷ us) h =
    let done = units ++ u ∷ [] in
    let first = leads-spaces units (at units p) h.0 u (unit-leads units p opens h.0 u h.5) h.2 in
    let l = units-lead done places.Separator (opens-separator done) h.1 v us h.6 in
    let behind : fold goes (at done places.Separator) (spaces h.3 ++ h.1) ≡ at l.units l.place =
    chain (at done places.Separator) (at done places.Separator) (at l.units l.place) (spaces h.3) h.1 (spaces-stay done places.Separator refl h.3) l.reached in
    let separator : fold goes (at units first.place) (Semicolon ∷ (spaces h.3 ++ h.1)) ≡ at l.units l.place =
    ap (λ o. fold goes o (spaces h.3 ++ h.1)) (separator-step units first.place u first.unit) ∙ behind in
    record {
      units = l.units;
      place = l.place;
      last = l.last;
      reached = rw (h.4, ← append_assoc h.0 (spaces h.2) (Semicolon ∷ (spaces h.3 ++ h.1)))
          (chain (at units p) (at units first.place) (at l.units l.place) (h.0 ++ spaces h.2) (Semicolon ∷ (spaces h.3 ++ h.1)) first.reached separator);
      unit = l.unit;
      joined = l.joined ∙ append_assoc units (u ∷ []) (v ∷ us);
    }

-- the end of the message
finish-whole : (units : List Unit) (p : Place) (u : Unit) → whole p ≡ Some u → finish units p ≡ Some (units ++ u ∷ [])
finish-whole units places.Start u e = cc
finish-whole units places.End u e = cc
finish-whole units p u e = ap (option_map (λ unit. units ++ unit ∷ [])) e

line-whole : (units : List Unit) (p : Place) (u : Unit) → whole p ≡ Some u → step units p NewLine ≡ at (units ++ u ∷ []) places.End
line-whole units places.Start u e = cc
line-whole units places.End u e = cc
line-whole units p u e = ap (λ o. option_map (λ (all : List Unit). record { units = all; place = places.End }) (option_map (λ unit. units ++ unit ∷ []) o)) e

ends-whole : (units : List Unit) (p : Place) (u : Unit) → whole p ≡ Some u → (last : Bool) → ended (fold goes (at units p) (end_text last)) ≡ Some (units ++ u ∷ [])
ends-whole units p u e true = ap ended (line-whole units p u e)
ends-whole units p u e false = finish-whole units p u e

ends-start : (last : Bool) → ended (fold goes (Some start) (end_text last)) ≡ Some []
ends-start true = refl
ends-start false = refl

message-reads : (text : List Kind) (us : List Unit) (last : Bool) → IsMessage text us → ended (fold goes (Some start) (text ++ end_text last)) ≡ Some us
message-reads text [] last h =
    rw (h.1, fold-append goes (Some start) (spaces h.0) (end_text last), spaces-stay [] places.Start refl h.0) (ends-start last)
message-reads text (u ∷ us) last h =
    let l = units-lead [] places.Start (opens-start []) h.2 u us h.4 in
    let g = place-spaces l.units l.place l.last l.unit h.1 in
    let whole_text : fold goes (Some start) (spaces h.0 ++ (h.2 ++ spaces h.1)) ≡ at l.units g.place =
    chain (Some start) (Some start) (at l.units g.place) (spaces h.0) (h.2 ++ spaces h.1) (spaces-stay [] places.Start refl h.0)
    (chain (Some start) (at l.units l.place) (at l.units g.place) h.2 (spaces h.1) l.reached g.reached) in
    rw (h.3, fold-append goes (Some start) (spaces h.0 ++ (h.2 ++ spaces h.1)) (end_text last), whole_text)
    (ends-whole l.units g.place l.last g.unit last ∙ ap Some l.joined)

pub program-reads : (bytes : List ℕ) (us : List Unit) → Program bytes us → ended (reads bytes) ≡ Some us
program-reads bytes us h = rw (reads-kinds bytes, h.spelled) (message-reads h.text us h.ended h.message)
