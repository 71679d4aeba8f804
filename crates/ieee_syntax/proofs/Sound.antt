-- what the scanner takes is a message of the units that it gives
use Rattle.std.proofs.Common.{◌≡◌, ℕ, List, [], ◌∷◌, ◌++◌, Option, Some, None, true, false, fold, refl, sym, ap, ◌∙◌, subst, append_assoc, append-nil}
use Rattle.std.specs.Prelude.{option_map}
use Rattle.std.proofs.lemmas.Option.{same_Some}
use Rattle.std.proofs.lemmas.List.Folds.{fold-map}
use Rattle.ieee_syntax.specs.declared.kind.Kind.{Kind}
use Rattle.ieee_syntax.specs.declared.kind.Kind.TheVariants.{NewLine, Semicolon}
use Rattle.ieee_syntax.specs.declared.place.Place.{Place}
use Rattle.ieee_syntax.specs.declared.place.Place.TheVariants as places
use Rattle.ieee_syntax.specs.declared.unit.Unit.{Unit}
use Rattle.ieee_syntax.specs.Kind.{kind_of, kinds}
use Rattle.ieee_syntax.specs.Number.{spaces}
use Rattle.ieee_syntax.specs.Program.{Program}
use Rattle.ieee_syntax.specs.Automaton.{Scan, start, whole, advance, closed, finish, end_line, step, goes, reads}
use Rattle.ieee_syntax.proofs.Options.{option_map_some}
use Rattle.ieee_syntax.proofs.Follows.{After, AtEnd, OnUnit, Follow, Spaced}
use Rattle.ieee_syntax.proofs.Backs.{whole-back, advance-back}

-- the units of a message that ends here
abbrev pub ended : Option Scan → Option (List Unit)
ended None = None
ended (Some scan) = finish scan.units scan.place

pub reads-kinds : (bytes : List ℕ) → reads bytes ≡ fold goes (Some start) (kinds bytes)
reads-kinds bytes = sym (fold-map goes kind_of (Some start) bytes)

pub stopped : (text : List Kind) → fold goes None text ≡ None
stopped [] = refl
stopped (k ∷ text) = stopped text

pub stepped : (o : Option Scan) (text : List Kind) (all : List Unit) → ended (fold goes o text) ≡ Some all → (s : Scan) × (o ≡ Some s)
stepped None text all e = let h = rw (stopped text) at e in cc
stepped (Some s) text all e = (s, refl)

follow-more : (text : List Kind) (us : List Unit) → OnUnit us (λ v vs. Spaced text (v ∷ vs)) → Follow (Semicolon ∷ text) us
follow-more text [] h = absurd h
follow-more text (v ∷ us) h = record { before = 0; behind = h.gap; rest = h.rest; spelled = ap (λ t. Semicolon ∷ t) h.spelled; parts = h.parts }

follow-end : (text : List Kind) (us : List Unit) → AtEnd text us → Follow (NewLine ∷ text) us
follow-end text [] h = record { gap = 0; ended = true; spelled = ap (λ t. NewLine ∷ t) h }
follow-end text (v ∷ us) h = absurd h

-- what stands behind a place and begins with these units
pub record Continues (units : List Unit) (p : Place) (text : List Kind) (all : List Unit) : Type 0 where
  pub us : List Unit
  pub joined : all ≡ units ++ us
  pub after : After p text us

at_place : (s t : Scan) (text : List Kind) (us : List Unit) → s ≡ t → After t.place text us → After s.place text us
at_place s t text us e h = subst (λ (x : Scan). After x.place text us) (sym e) h

closed-back : (units all : List Unit) (p : Place) (text : List Kind) (us : List Unit) → closed units p ≡ Some all → Follow text us → Continues units p text (all ++ us)
closed-back units all p text us e h =
    let t = option_map_some (λ unit. units ++ unit ∷ []) (whole p) all e in
    record {
      us = t.0 ∷ us;
      joined = ap (λ xs. xs ++ us) (sym t.2) ∙ append_assoc units (t.0 ∷ []) us;
      after = whole-back p t.0 text us t.1 h;
    }

line-back : (units : List Unit) (p : Place) (s : Scan) (text : List Kind) (us : List Unit)
    → option_map (λ all. record { units = all; place = places.End }) (closed units p) ≡ Some s → After s.place text us → Continues units p (NewLine ∷ text) (s.units ++ us)
line-back units p s text us e h =
    let t = option_map_some {B = Scan} (λ all. record { units = all; place = places.End }) (closed units p) s e in
    let g = closed-back units t.0 p (NewLine ∷ text) us t.1 (follow-end text us (at_place (record { units = t.0; place = places.End }) s text us t.2 h)) in
    subst (λ xs. Continues units p (NewLine ∷ text) (xs ++ us)) (ap (λ (x : Scan). x.units) t.2) g

start-line : (units : List Unit) (s : Scan) (text : List Kind) (us : List Unit) → record { units = units; place = places.End } ≡ s → AtEnd text us → Continues units places.Start (NewLine ∷ text) (s.units ++ us)
start-line units s text [] e h = record {
  us = [];
  joined = ap (λ (x : Scan). x.units ++ []) (sym e);
  after = record { gap = 0; ended = true; spelled = ap (λ t. NewLine ∷ t) h };
}
start-line units s text (v ∷ us) e h = absurd h

end-back : (units : List Unit) (p : Place) (s : Scan) (text : List Kind) (us : List Unit) → end_line units p ≡ Some s → After s.place text us → Continues units p (NewLine ∷ text) (s.units ++ us)
end-back units places.Start s text us e h =
    let same : record { units = units; place = places.End } ≡ s = same_Some {A = Scan} _ _ e in
    start-line units s text us same (at_place (record { units = units; place = places.End }) s text us same h)
end-back units places.End s text us e h = cc
end-back units p s text us e h = line-back units p s text us e h

advanced : (units : List Unit) (p : Place) (k : Kind) (s : Scan) (text : List Kind) (us : List Unit)
    → option_map (λ q. record { units = units; place = q }) (advance p k) ≡ Some s → After s.place text us → Continues units p (k ∷ text) (s.units ++ us)
advanced units p k s text us e h =
    let t = option_map_some {B = Scan} (λ q. record { units = units; place = q }) (advance p k) s e in
    record {
      us = us;
      joined = ap (λ (x : Scan). x.units ++ us) (sym t.2);
      after = advance-back p t.0 k text us t.1 (at_place (record { units = units; place = t.0 }) s text us t.2 h);
    }

step-back : (units : List Unit) (p : Place) (k : Kind) (s : Scan) (text : List Kind) (us : List Unit) → step units p k ≡ Some s → After s.place text us → Continues units p (k ∷ text) (s.units ++ us)
step-back units p Semicolon s text us e h =
    let t = option_map_some {B = Scan} (λ all. record { units = all; place = places.Separator }) (closed units p) s e in
    let g = closed-back units t.0 p (Semicolon ∷ text) us t.1 (follow-more text us (at_place (record { units = t.0; place = places.Separator }) s text us t.2 h)) in
    subst (λ xs. Continues units p (Semicolon ∷ text) (xs ++ us)) (ap (λ (x : Scan). x.units) t.2) g
step-back units p NewLine s text us e h = end-back units p s text us e h
step-back units p k s text us e h = advanced units p k s text us e h

finish-closed : (units all : List Unit) (p : Place) → closed units p ≡ Some all → Continues units p [] all
finish-closed units all p e =
    let g = closed-back units all p [] [] e (record { gap = 0; ended = false; spelled = refl }) in
    rw append-nil at g

finish-back : (units all : List Unit) (p : Place) → finish units p ≡ Some all → Continues units p [] all
finish-back units all places.Start e = record { us = []; joined = sym (same_Some _ _ e) ∙ sym (append-nil units); after = record { gap = 0; ended = false; spelled = refl } }
finish-back units all places.End e = record { us = []; joined = sym (same_Some _ _ e) ∙ sym (append-nil units); after = refl }
finish-back units all p e = finish-closed units all p e

sound : (text : List Kind) (units : List Unit) (p : Place) (all : List Unit) → ended (fold goes (Some (record { units = units; place = p })) text) ≡ Some all → Continues units p text all
sound [] units p all e = finish-back units all p e
sound (k ∷ text) units p all e =
    let t = stepped (step units p k) text all e in
    let later : ended (fold goes (Some t.0) text) ≡ Some all = subst (λ o. ended (fold goes o text) ≡ Some all) t.1 e in
    let g = sound text t.0.units t.0.place all later in
    let h = step-back units p k t.0 text g.us t.1 g.after in
    record { us = h.us; joined = g.joined ∙ h.joined; after = h.after }

program-from : (bytes : List ℕ) (us : List Unit) → After places.Start (kinds bytes) us → Program bytes us
program-from bytes [] h = record { text = spaces h.gap; ended = h.ended; spelled = h.spelled; message = (h.gap, refl) }
program-from bytes (v ∷ us) h =
    let p = h.parts in
    record {
      text = spaces h.gap ++ (p.parts ++ spaces p.gap);
      ended = p.ended;
      spelled = h.spelled ∙ (ap (λ t. spaces h.gap ++ t) p.spelled ∙ simp append_assoc);
      message = (h.gap, p.gap, p.parts, refl, p.units);
    }

pub reads-program : (bytes : List ℕ) (us : List Unit) → ended (reads bytes) ≡ Some us → Program bytes us
reads-program bytes us e =
    let g = sound (kinds bytes) [] places.Start us (rw reads-kinds at e) in
    subst (Program bytes) (sym g.joined) (program-from bytes g.us g.after)
