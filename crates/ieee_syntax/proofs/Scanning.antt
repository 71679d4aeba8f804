-- what the scanner's loop says of the bytes
use Rattle.std.proofs.Common.{◌≡◌, ℕ, ◌+◌, ◌<◌, List, length, take, get_or, Some, Ok, Err, sym, ap, ◌∙◌}
use Rattle.std.proofs.Math.Seq.{take-length}
use Rattle.std.proofs.lemmas.List.Sums.{fold_more}
use Rattle.ieee_syntax.specs.declared.kind.Kind.{Kind}
use Rattle.ieee_syntax.specs.declared.place.Place.{Place}
use Rattle.ieee_syntax.specs.declared.place.Refusal.{Refusal}
use Rattle.ieee_syntax.specs.declared.place.Refusal.TheVariants as refusal
use Rattle.ieee_syntax.specs.declared.unit.Unit.{Unit}
use Rattle.ieee_syntax.specs.declared.fault.SyntaxFault.{SyntaxFault}
use Rattle.ieee_syntax.specs.Kind.{kind_of}
use Rattle.ieee_syntax.specs.Program.{Program}
use Rattle.ieee_syntax.specs.Answers.{Answers}
use Rattle.ieee_syntax.specs.Automaton.{start, goes, reads, step, finish, Steps, Finishes, fault_at, PlaceFits}
use Rattle.ieee_syntax.proofs.Sound.{ended, reads-program}
use Rattle.ieee_syntax.proofs.Faults.{fault-byte, fault-end}

-- the bytes before this one led here
pub record HasRead (bytes : List ℕ) (at : ℕ) (units : List Unit) (place : Place) : Type 0 where
  pub reached : reads (take at bytes) ≡ Some (record { units = units; place = place })
  pub fits : PlaceFits place

module _ (bytes : List ℕ) (at : ℕ) (units : List Unit) (place : Place) (h : HasRead bytes at units place) (kind : Kind) (is : kind ≡ kind_of (get_or bytes at 0)) (within : at < length bytes) where
  one-more : reads (take (at + 1) bytes) ≡ step units place kind
  one-more = fold_more (λ scan byte. goes scan (kind_of byte)) (Some start) bytes at 0 within ∙ (ap (λ o. goes o (kind_of (get_or bytes at 0))) h.reached ∙ ap (step units place) (sym is))

  pub refused : (r : Refusal) (after : List Unit) (answer : SyntaxFault) → Steps (Err r) after (step units place kind) → answer ≡ fault_at r at → Answers bytes (Err answer)
  refused refusal.Byte after answer e is_at = rw is_at (fault-byte bytes at (record { units = units; place = place }) within h.reached (one-more ∙ e))
  refused refusal.Memory after answer e is_at = rw is_at tt

module _ (bytes : List ℕ) (units : List Unit) (place : Place) (at : ℕ) (all : at ≡ length bytes) (h : HasRead bytes at units place) where
  whole : reads bytes ≡ Some (record { units = units; place = place })
  whole = ap reads (sym (ap (λ n. take n bytes) all ∙ take-length bytes)) ∙ h.reached

  pub finished : (D : Type 0) (d : D) (after : List Unit) → Finishes (Ok d) after (finish units place) → Program bytes after
  finished D d after e = reads-program bytes after (ap ended whole ∙ e)

  pub unfinished : (D : Type 0) (r : Refusal) (after : List Unit) (answer : SyntaxFault) → Finishes {D = D} (Err r) after (finish units place) → answer ≡ fault_at r (length bytes) → Answers bytes (Err answer)
  unfinished D refusal.Byte after answer e is_at = rw is_at (fault-end bytes (record { units = units; place = place }) whole e)
  unfinished D refusal.Memory after answer e is_at = rw is_at tt
