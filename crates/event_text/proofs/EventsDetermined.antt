-- a text is a script of events or refused, and refused for one fault of one line
use Rattle.std.proofs.Common.{◌≡◌, ℕ, ◌+◌, Result, Ok, Err, List, [], ◌∷◌, ◌++◌, length, refl, sym, ap, subst, ◌∙◌, arith}
use Rattle.event_text.specs.declared.event.Script.{Script}
use Rattle.event_text.specs.declared.event_line.Place.{Place}
use Rattle.event_text.specs.declared.event_line.Place.TheVariants.{Start}
use Rattle.event_text.specs.declared.event_line.Said.{Said}
use Rattle.event_text.specs.declared.line_fault.LineWhat.{LineWhat}
use Rattle.event_text.specs.EventLine.{line_said, place_behind}
use Rattle.event_text.specs.EventScript.{SayInTurn, place_after, script_of, IsEventScript, IsRefusedEvent}
use Rattle.event_text.specs.Words.{lines_of}

ok_one : {A E : Type 0} (r : Result A E) (x y : A) → r ≡ Ok x → r ≡ Ok y → x ≡ y
ok_one {A} {E} r x y p q = let both : Ok x ≡ Ok y = sym p ∙ q in cc

err_one : {A E : Type 0} (r : Result A E) (x y : E) → r ≡ Err x → r ≡ Err y → x ≡ y
err_one {A} {E} r x y p q = let both : Err x ≡ Err y = sym p ∙ q in cc

ok_err : {A E : Type 0} (r : Result A E) (x : A) (y : E) → r ≡ Ok x → r ≡ Err y → ⊥
ok_err {A} {E} r x y p q = let both : Ok x ≡ Err y = sym p ∙ q in cc

head_one : {A : Type 0} (x y : A) (xs ys : List A) → x ∷ xs ≡ y ∷ ys → x ≡ y
head_one {A} x y xs ys e = cc

tail_one : {A : Type 0} (x y : A) (xs ys : List A) → x ∷ xs ≡ y ∷ ys → xs ≡ ys
tail_one {A} x y xs ys e = cc

empty : {A : Type 0} (x : A) (xs : List A) → [] ≡ x ∷ xs → ⊥
empty {A} x xs e = cc

say_one : (place : Place) (number : ℕ) (lines : List (List ℕ)) (said other : List Said) → SayInTurn place number lines said → SayInTurn place number lines other → said ≡ other
say_one place number [] [] [] p q = refl
say_one place number [] [] (o ∷ other) p q = absurd q
say_one place number [] (s ∷ said) other p q = absurd p
say_one place number (l ∷ lines) [] other p q = absurd p
say_one place number (l ∷ lines) (s ∷ said) [] p q = absurd q
say_one place number (l ∷ lines) (s ∷ said) (o ∷ other) p q =
    let one : s ≡ o = ok_one (line_said place number l) s o p.0 q.0 in
    let more : said ≡ other = say_one (place_behind o) (number + 1) lines said other (subst (λ (z : Said). SayInTurn (place_behind z) (number + 1) lines said) one p.1) q.1 in
    ap (λ (z : Said). z ∷ said) one ∙ ap (λ (z : List Said). o ∷ z) more

-- the place and the number behind one more line
moved : (place : Place) (number : ℕ) (before : List (List ℕ)) (line : List ℕ) (other : Said) (said : List Said) (text : List ℕ) (what : LineWhat)
    → line_said (place_after place (other ∷ said)) (number + length (line ∷ before)) text ≡ Err what
    → line_said (place_after (place_behind other) said) (number + 1 + length before) text ≡ Err what
moved place number before line other said text what e =
    let behind : number + length (line ∷ before) ≡ number + 1 + length before = omega arith in
    subst (λ (k : ℕ). line_said (place_after (place_behind other) said) k text ≡ Err what) behind e

at_once : (place : Place) (number : ℕ) (text : List ℕ) (what : LineWhat) → line_said place (number + 0) text ≡ Err what → line_said place number text ≡ Err what
at_once place number text what e =
    let same : number + 0 ≡ number = omega arith in
    subst (λ (k : ℕ). line_said place k text ≡ Err what) same e

-- lines that all say something have no refused one among them
none_refused : (place : Place) (number : ℕ) (lines : List (List ℕ)) (all : List Said) (before : List (List ℕ)) (line : List ℕ) (others : List (List ℕ)) (said : List Said) (what : LineWhat)
    → lines ≡ before ++ line ∷ others → SayInTurn place number lines all → SayInTurn place number before said
    → line_said (place_after place said) (number + length before) line ≡ Err what → ⊥
none_refused place number [] all [] line others said what e p q f = empty line others e
none_refused place number [] all (b ∷ before) line others said what e p q f = empty b (before ++ line ∷ others) e
none_refused place number (l ∷ lines) [] before line others said what e p q f = absurd p
none_refused place number (l ∷ lines) (a ∷ all) [] line others [] what e p q f =
    let same : l ≡ line = head_one l line lines others e in
    ok_err (line_said place number line) a what (subst (λ (z : List ℕ). line_said place number z ≡ Ok a) same p.0) (at_once place number line what f)
none_refused place number (l ∷ lines) (a ∷ all) [] line others (s ∷ said) what e p q f = absurd q
none_refused place number (l ∷ lines) (a ∷ all) (b ∷ before) line others [] what e p q f = absurd q
none_refused place number (l ∷ lines) (a ∷ all) (b ∷ before) line others (s ∷ said) what e p q f =
    let same : l ≡ b = head_one l b lines (before ++ line ∷ others) e in
    let one : a ≡ s = ok_one (line_said place number b) a s (subst (λ (z : List ℕ). line_said place number z ≡ Ok a) same p.0) q.0 in
    none_refused (place_behind s) (number + 1) lines all before line others said what (tail_one l b lines (before ++ line ∷ others) e)
    (subst (λ (z : Said). SayInTurn (place_behind z) (number + 1) lines all) one p.1) q.1 (moved place number before b s said line what f)

record OneFault (before other : List (List ℕ)) (what worse : LineWhat) : Type 0 where
  places : length before ≡ length other
  whats : what ≡ worse

one_refused : (place : Place) (number : ℕ) (before : List (List ℕ)) (line : List ℕ) (others : List (List ℕ)) (said : List Said) (what : LineWhat)
    (before2 : List (List ℕ)) (line2 : List ℕ) (others2 : List (List ℕ)) (said2 : List Said) (what2 : LineWhat)
    → before ++ line ∷ others ≡ before2 ++ line2 ∷ others2
    → SayInTurn place number before said → line_said (place_after place said) (number + length before) line ≡ Err what
    → SayInTurn place number before2 said2 → line_said (place_after place said2) (number + length before2) line2 ≡ Err what2
    → OneFault before before2 what what2
one_refused place number [] line others (s ∷ said) what before2 line2 others2 said2 what2 e p f q g = absurd p
one_refused place number [] line others [] what [] line2 others2 (s ∷ said2) what2 e p f q g = absurd q
one_refused place number [] line others [] what [] line2 others2 [] what2 e p f q g =
    let same : line ≡ line2 = head_one line line2 others others2 e in
    record {
      places = refl;
      whats = err_one (line_said place (number + 0) line2) what what2 (subst (λ (z : List ℕ). line_said place (number + 0) z ≡ Err what) same f) g;
    }
one_refused place number [] line others [] what (b ∷ before2) line2 others2 [] what2 e p f q g = absurd q
one_refused place number [] line others [] what (b ∷ before2) line2 others2 (s ∷ said2) what2 e p f q g =
    let same : line ≡ b = head_one line b others (before2 ++ line2 ∷ others2) e in
    absurd (ok_err (line_said place number b) s what q.0 (subst (λ (z : List ℕ). line_said place number z ≡ Err what) same (at_once place number line what f)))
one_refused place number (b ∷ before) line others [] what before2 line2 others2 said2 what2 e p f q g = absurd p
one_refused place number (b ∷ before) line others (s ∷ said) what [] line2 others2 (t ∷ said2) what2 e p f q g = absurd q
one_refused place number (b ∷ before) line others (s ∷ said) what [] line2 others2 [] what2 e p f q g =
    let same : b ≡ line2 = head_one b line2 (before ++ line ∷ others) others2 e in
    absurd (ok_err (line_said place number line2) s what2 (subst (λ (z : List ℕ). line_said place number z ≡ Ok s) same p.0) (at_once place number line2 what2 g))
one_refused place number (b ∷ before) line others (s ∷ said) what (c ∷ before2) line2 others2 [] what2 e p f q g = absurd q
one_refused place number (b ∷ before) line others (s ∷ said) what (c ∷ before2) line2 others2 (t ∷ said2) what2 e p f q g =
    let same : b ≡ c = head_one b c (before ++ line ∷ others) (before2 ++ line2 ∷ others2) e in
    let one : s ≡ t = ok_one (line_said place number c) s t (subst (λ (z : List ℕ). line_said place number z ≡ Ok s) same p.0) q.0 in
    let rest = one_refused (place_behind t) (number + 1) before line others said what before2 line2 others2 said2 what2
    (tail_one b c (before ++ line ∷ others) (before2 ++ line2 ∷ others2) e)
    (subst (λ (z : Said). SayInTurn (place_behind z) (number + 1) before said) one p.1)
    (subst (λ (z : Said). line_said (place_after (place_behind z) said) (number + 1 + length before) line ≡ Err what) one (moved place number before b s said line what f))
    q.1 (moved place number before2 c t said2 line2 what2 g) in
    record { places = omega (arith, rest.places); whats = rest.whats }

-- ---- whole texts

pub scripts_one : (source : List ℕ) (script other : Script) → IsEventScript source script → IsEventScript source other → script ≡ other
scripts_one source script other a b = a.made ∙ (ap script_of (say_one Start 1 (lines_of source) a.said b.said a.says b.says) ∙ sym b.made)

-- the number of a refused line, by the lines before it
numbered : (source : List ℕ) (number : ℕ) (what : LineWhat) (r : IsRefusedEvent source number what) → line_said (place_after Start r.said) (1 + length r.before) r.line ≡ Err what
numbered source number what r = subst (λ (k : ℕ). line_said (place_after Start r.said) k r.line ≡ Err what) r.place r.refused

pub refusals_one : (source : List ℕ) (number second : ℕ) (what other : LineWhat) → IsRefusedEvent source number what → IsRefusedEvent source second other
    → (number ≡ second) × (what ≡ other)
refusals_one source number second what other a b =
    let one = one_refused Start 1 a.before a.line a.others a.said what b.before b.line b.others b.said other (sym a.cut ∙ b.cut)
    a.says (numbered source number what a) b.says (numbered source second other b) in
    (omega (arith, a.place, b.place, one.places), one.whats)

pub not_both : (source : List ℕ) (script : Script) (number : ℕ) (what : LineWhat) → IsEventScript source script → IsRefusedEvent source number what → ⊥
not_both source script number what a b =
    none_refused Start 1 (lines_of source) a.said b.before b.line b.others b.said what b.cut a.says b.says (numbered source number what b)
