use Rattle.std.proofs.Common.{◌≡◌, ◌⊎◌, inl, inr, ℕ, zero, suc, ◌+◌, ◌<◌, ◌≤◌, List, length, take, get_or, Option, Some, None, refl, sym, ap, ◌∙◌, subst, arith}
use Rattle.std.proofs.Math.Seq.{take-length}
use Rattle.std.proofs.lemmas.List.Sums.{fold_more}
use Rattle.ieee_syntax.specs.declared.unit.Unit.{Unit}
use Rattle.ieee_syntax.specs.Kind.{kind_of}
use Rattle.ieee_syntax.specs.Program.{Program, FaultAt}
use Rattle.ieee_syntax.specs.Automaton.{Scan, start, goes, reads, step, finish}
use Rattle.ieee_syntax.proofs.Sound.{ended, reads-program}
use Rattle.ieee_syntax.proofs.Faults.{fault-byte, fault-end}
use Rattle.ieee_syntax.proofs.laws.a_message_or_a_fault.Goals as goal

-- a fault, or the bytes before this one lead on
abbrev Leads : List ℕ → ℕ → Type 0
Leads bytes at = ((place : ℕ) × FaultAt bytes place) ⊎ ((s : Scan) × (reads (take at bytes) ≡ Some s))

one_more : (bytes : List ℕ) (at : ℕ) (s : Scan) → at < length bytes → reads (take at bytes) ≡ Some s
    → reads (take (at + 1) bytes) ≡ step s.units s.place (kind_of (get_or bytes at 0))
one_more bytes at s within front =
    fold_more (λ scan byte. goes scan (kind_of byte)) (Some start) bytes at 0 within ∙ ap (λ o. goes o (kind_of (get_or bytes at 0))) front

goes_on : (bytes : List ℕ) (at : ℕ) (s : Scan) (o : Option Scan) → at < length bytes → reads (take at bytes) ≡ Some s → reads (take (at + 1) bytes) ≡ o → Leads bytes (at + 1)
goes_on bytes at s None within front e = inl (at, fault-byte bytes at s within front e)
goes_on bytes at s (Some t) within front e = inr (t, e)

leads : (bytes : List ℕ) (at : ℕ) → at ≤ length bytes → Leads bytes at
leads bytes zero within = inr (start, refl)
leads bytes (suc at) within =
    elim (leads bytes at (omega (arith, within))) [
      | inl fault ↦ inl fault
      | inr read ↦
          (let next = goes_on bytes at read.0 (step read.0.units read.0.place (kind_of (get_or bytes at 0))) (omega (arith, within)) read.1 (one_more bytes at read.0 (omega (arith, within)) read.1) in
          let same : at + 1 ≡ suc at = omega arith in
          subst (Leads bytes) same next)
    ]

ends : (bytes : List ℕ) (s : Scan) (o : Option (List Unit)) → reads bytes ≡ Some s → finish s.units s.place ≡ o
    → ((us : List Unit) × Program bytes us) ⊎ ((place : ℕ) × FaultAt bytes place)
ends bytes s None whole e = inr (length bytes, fault-end bytes s whole e)
ends bytes s (Some us) whole e = inl (us, reads-program bytes us (ap ended whole ∙ e))

either : (bytes : List ℕ) → ((us : List Unit) × Program bytes us) ⊎ ((place : ℕ) × FaultAt bytes place)
either bytes =
    elim (leads bytes (length bytes) (omega arith)) [
      | inl fault ↦ inr fault
      | inr read ↦ ends bytes read.0 (finish read.0.units read.0.place) (ap reads (sym (take-length bytes)) ∙ read.1) refl
    ]

pub returns-clause-either : goal.returns-clause-either
returns-clause-either c = either

pub returns-clause-not_both : goal.returns-clause-not_both
returns-clause-not_both c bytes us place program fault = fault.none us program
