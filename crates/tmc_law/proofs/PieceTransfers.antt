-- the pieces of a response
use Rattle.std.proofs.Common.{◌≡◌, ℕ, ◌≤◌, ◌==◌, true, List, [], length, drop, sym, ap, ◌∙◌, subst, arith, length-drop}
use Rattle.std.specs.Prelude.{◌↔◌}
use Rattle.std.proofs.lemmas.List.{nil_from_length}
use Rattle.std.proofs.lemmas.Bool.{eq-eqb, eqb-true}
use Rattle.tmc_wire.specs.Header.{IsTag, IsSize}
use Rattle.instr_plain.specs.declared.log.LogEntry.TheVariants as entry
use Rattle.instr_plain.specs.Standing.{Standing}
use Rattle.tmc_law.specs.State.{State, start, Side, Piece, Sending}
use Rattle.tmc_law.specs.Logging.{Logs, unread}
use Rattle.tmc_law.specs.BulkIn.{Begins, DoesBegin, piece_bytes}
use Rattle.tmc_law.specs.Run.{Entry, Runs}
use Rattle.tmc_law.specs.Layouts.{BeginsTransfer, IsUnderWay}
use Rattle.tmc_law.proofs.PieceTexts.{text}
use Rattle.tmc_law.proofs.Laid.{IsLaid, SideFits}
use Rattle.tmc_law.proofs.LaidSteps.{reached, count_fits}

-- all of a response is taken exactly where nothing is left of it
ends : (size : ℕ) (response : List ℕ) → size ≤ length response → ((size == length response) ≡ true) ↔ (drop size response ≡ [])
ends size response within = (
  λ whole. nil_from_length (drop size response) (omega (arith, length-drop size response, eqb-true size (length response) whole)),
  λ none. eq-eqb size (length response) (omega (arith, length-drop size response, ap (λ (x : List ℕ). length x) none)),
)

-- what is unread behind a piece
left : (count : ℕ) (s t : State) → Logs (entry.Took count) s t → unread t ≡ drop count (unread s)
left count s t logs = ap (λ (x : State). unread x) logs.is ∙ ap unread_of logs.after where
  unread_of : Standing → List ℕ
  unread_of standing = standing.unread

begins : (s : State) (count : ℕ) (t : State) → IsLaid s → Begins s count t → BeginsTransfer s count t
begins s count t laid (DoesBegin tag size owed calm least most logs) =
    let fits : IsTag tag × IsSize size = subst (λ (x : Side). SideFits x) owed laid.side in
    let within : count ≤ length (unread s) = omega arith in
    record {
      tag = tag;
      size = size;
      eom = count == length (unread s);
      piece = record { tag = tag; size = count; left = piece_bytes tag count (unread s) };
      owed = owed;
      sending = ap (λ (x : State). x.side) logs.is;
      text = text tag count (unread s) fits.0 (count_fits count size _ fits.1 least most) within;
      ends = subst (λ (x : List ℕ). ((count == length (unread s)) ≡ true) ↔ (x ≡ [])) (sym (left count _ t logs)) (ends count (unread s) within);
    }

pub transfers : (run : List Entry) (s t : State) (count : ℕ) → Runs start run s → Begins s count t → BeginsTransfer s count t
transfers run s t count runs does = begins s count t (reached run s runs) does

pub goes_on : (run : List Entry) (s : State) (piece : Piece) → Runs start run s → s.side ≡ Sending piece → IsUnderWay piece
goes_on run s piece runs sending = (subst (λ (x : Side). SideFits x) sending (reached run s runs).side).2
