-- where bytes leave the grammar
use Rattle.std.proofs.Common.{◌≡◌, inl, inr, ℕ, ◌+◌, ◌<◌, ◌≤◌, pos, Bool, true, false, List, [], ◌∷◌, ◌++◌, length, take, drop, fold, eqb, Some, None, Result, Ok, Err, refl, sym, ap, ◌∙◌, append_assoc, append-nil, arith}
use Rattle.std.specs.Global.{Vec}
use Rattle.std.proofs.lemmas.Option.{same_Some}
use Rattle.std.proofs.lemmas.Bool.Decides.{nat_tests}
use Rattle.std.proofs.lemmas.List.{take-append-drop, take-take}
use Rattle.std.proofs.Math.Seq.{take-length}
use Rattle.std.proofs.lemmas.Bool.{cases_lt}
use Rattle.std.proofs.lemmas.List.Sums.{fold-append}
use Rattle.std.proofs.lemmas.List.Folds.{fold-map}
use Rattle.ieee_syntax.specs.declared.kind.Kind.TheVariants.{Digit, Letter}
use Rattle.ieee_syntax.specs.declared.number.Mantissa.{Mantissa}
use Rattle.ieee_syntax.specs.declared.number.Power.{Power}
use Rattle.ieee_syntax.specs.declared.number.Number.{Number}
use Rattle.ieee_syntax.specs.declared.number.Number.TheVariants as number
use Rattle.ieee_syntax.specs.declared.place.Place.{Place}
use Rattle.ieee_syntax.specs.declared.place.Place.TheVariants as places
use Rattle.ieee_syntax.specs.declared.unit.Unit.{Unit}
use Rattle.ieee_syntax.specs.declared.fault.SyntaxFault.{SyntaxFault}
use Rattle.ieee_syntax.specs.declared.fault.SyntaxFault.TheVariants.{At, Memory}
use Rattle.ieee_syntax.specs.Kind.{kind_of, kinds}
use Rattle.ieee_syntax.specs.Program.{Program, Begins, FaultAt}
use Rattle.ieee_syntax.specs.Answers.{Answers, AnswersUnits, AnswersFault}
use Rattle.ieee_syntax.specs.Automaton.{Scan, start, goes, reads, finish, given, first_of, push, push_power, no_mantissa, no_power, number_of, power_of}
use Rattle.ieee_syntax.proofs.Sound.{ended, reads-program, stepped}
use Rattle.ieee_syntax.proofs.Complete.{program-reads}

-- a scanner that has not refused can be led to the end of a message
record Alive (scan : Scan) : Type 0 where
  more : List ℕ
  units : List Unit
  ends : ended (fold goes (Some scan) (kinds more)) ≡ Some units

kind_of-letter : kind_of 65 ≡ Letter 65
unfolding kind_of
kind_of-letter = refl

kind_of-digit : kind_of 49 ≡ Digit 1
unfolding kind_of
kind_of-digit = refl

alive-mantissa : (units : List Unit) (u : Unit) (m : Mantissa) (b : Bool) → eqb m.count 0 ≡ b → Alive (record { units = units; place = places.Number u (number.Mantissa m) })
alive-mantissa units u m false e = record { more = []; units = units ++ given u (number_of m (pos 0)) ∷ []; ends = rw e refl }
alive-mantissa units u m true e =
    let none : m.count ≡ 0 = grind (arith, nat_tests) in
    record { more = 49 ∷ []; units = units ++ given u (number_of (push m 1) (pos 0)) ∷ []; ends = rw (kind_of-digit, none) refl }

alive-power : (units : List Unit) (u : Unit) (m : Mantissa) (p : Power) (b : Bool) → eqb p.count 0 ≡ b → Alive (record { units = units; place = places.Number u (number.Power m p) })
alive-power units u m p false e = record { more = []; units = units ++ given u (number_of m (power_of p)) ∷ []; ends = rw e refl }
alive-power units u m p true e =
    let none : p.count ≡ 0 = grind (arith, nat_tests) in
    record { more = 49 ∷ []; units = units ++ given u (number_of m (power_of (push_power p 1))) ∷ []; ends = rw (kind_of-digit, none) refl }

alive-number : (units : List Unit) (u : Unit) (n : Number) → Alive (record { units = units; place = places.Number u n })
alive-number units u (number.Mantissa m) = alive-mantissa units u m (eqb m.count 0) refl
alive-number units u (number.Gap m) = record { more = []; units = units ++ given u (number_of m (pos 0)) ∷ []; ends = refl }
alive-number units u (number.Mark m) = record { more = 49 ∷ []; units = units ++ given u (number_of m (power_of (push_power (no_power false) 1))) ∷ []; ends = rw kind_of-digit refl }
alive-number units u (number.Power m p) = alive-power units u m p (eqb p.count 0) refl
alive-number units u (number.PowerGap m p) = record { more = []; units = units ++ given u (number_of m (power_of p)) ∷ []; ends = refl }

alive : (units : List Unit) (p : Place) → Alive (record { units = units; place = p })
alive units places.Start = record { more = []; units = units; ends = refl }
alive units places.Separator = record { more = 65 ∷ []; units = units ++ first_of (65 ∷ []) ∷ []; ends = rw kind_of-letter refl }
alive units places.Star = record { more = 65 ∷ []; units = units ++ first_of (42 ∷ 65 ∷ []) ∷ []; ends = rw kind_of-letter refl }
alive units (places.Head u starred) = record { more = []; units = units ++ u ∷ []; ends = refl }
alive units (places.Query u) = record { more = []; units = units ++ u ∷ []; ends = refl }
alive units (places.Gap u) = record { more = []; units = units ++ u ∷ []; ends = refl }
alive units (places.Comma u) = record { more = 49 ∷ []; units = units ++ given u (number_of (push (no_mantissa false) 1) (pos 0)) ∷ []; ends = rw kind_of-digit refl }
alive units (places.Number u n) = alive-number units u n
alive units places.End = record { more = []; units = units; ends = refl }

reads-append : (bytes more : List ℕ) → reads (bytes ++ more) ≡ fold goes (reads bytes) (kinds more)
reads-append bytes more = fold-append (λ scan byte. goes scan (kind_of byte)) (Some start) bytes more ∙ sym (fold-map goes kind_of (reads bytes) more)

-- a message begins with the bytes exactly where the scanner has not refused
begins-from : (bytes : List ℕ) (s : Scan) → reads bytes ≡ Some s → Begins bytes
begins-from bytes s e =
    let a = alive s.units s.place in
    let all : ended (reads (bytes ++ a.more)) ≡ Some a.units = ap ended (reads-append bytes a.more ∙ ap (λ o. fold goes o (kinds a.more)) e) ∙ a.ends in
    record { more = a.more; units = a.units; whole = reads-program (bytes ++ a.more) a.units all }

begins-reads : (bytes : List ℕ) → Begins bytes → (s : Scan) × (reads bytes ≡ Some s)
begins-reads bytes h =
    stepped (reads bytes) (kinds h.more) h.units (ap ended (sym (reads-append bytes h.more)) ∙ program-reads (bytes ++ h.more) h.units h.whole)

begins-take : (bytes : List ℕ) (i : ℕ) → Begins bytes → Begins (take i bytes)
begins-take bytes i h = record {
  more = drop i bytes ++ h.more;
  units = h.units;
  whole = rw (← append_assoc (take i bytes) (drop i bytes) h.more, take-append-drop i bytes) h.whole;
}

begins-program : (bytes : List ℕ) (units : List Unit) → Program bytes units → Begins bytes
begins-program bytes units h = record { more = []; units = units; whole = rw append-nil h }

-- a byte that is refused
pub fault-byte : (bytes : List ℕ) (place : ℕ) (s : Scan) → place < length bytes → reads (take place bytes) ≡ Some s → reads (take (place + 1) bytes) ≡ None → FaultAt bytes place
fault-byte bytes place s within front refused =
    let stops : Begins (take (place + 1) bytes) → ⊥ = λ b. let r = begins-reads (take (place + 1) bytes) b in let e = sym refused ∙ r.1 in cc in
    record {
      none = λ units p. stops (begins-take bytes (place + 1) (begins-program bytes units p));
      within = omega arith;
      front = begins-from (take place bytes) s front;
      stops = λ _ b. stops b;
    }

-- bytes that end too early
pub fault-end : (bytes : List ℕ) (s : Scan) → reads bytes ≡ Some s → finish s.units s.place ≡ None → FaultAt bytes (length bytes)
fault-end bytes s front refused = record {
  none = λ units p. let e = sym (ap ended front ∙ refused) ∙ program-reads bytes units p in cc;
  within = omega arith;
  front = rw (take-length bytes) (begins-from bytes s front);
  stops = λ h b. absurd (omega arith);
}

-- one place for a fault
no_earlier : (bytes : List ℕ) (i k : ℕ) → FaultAt bytes i → FaultAt bytes k → i < k → ⊥
no_earlier bytes i k g h less =
    let within : k ≤ length bytes = h.within in
    let front = begins-take (take k bytes) (i + 1) h.front in
    g.stops (omega arith) (rw (take-take (i + 1) k bytes (omega arith)) at front)

pub one-fault : (bytes : List ℕ) (i k : ℕ) → FaultAt bytes i → FaultAt bytes k → i ≡ k
one-fault bytes i k g h =
    elim (cases_lt i k) [
      | inl less ↦ absurd (no_earlier bytes i k g h less)
      | inr not_less ↦ elim (cases_lt k i) [
        | inl less ↦ absurd (no_earlier bytes k i h g less)
        | inr not_more ↦ omega arith
      ]
    ]

-- what is answered is all that could be
pub answers-units : (bytes : List ℕ) (r : Result (Vec Unit) SyntaxFault) (us : List Unit) → Answers bytes r → Program bytes us → AnswersUnits r us
answers-units bytes (Ok v) us h p = same_Some v.items us (sym (program-reads bytes v.items h) ∙ program-reads bytes us p)
answers-units bytes (Err (At k)) us h p = h.none us p
answers-units bytes (Err Memory) us h p = tt

pub answers-fault : (bytes : List ℕ) (r : Result (Vec Unit) SyntaxFault) (k : ℕ) → Answers bytes r → FaultAt bytes k → AnswersFault r k
answers-fault bytes (Ok v) k h f = f.none v.items h
answers-fault bytes (Err (At i)) k h f = one-fault bytes i k h f
answers-fault bytes (Err Memory) k h f = tt
