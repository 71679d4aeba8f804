-- the lines of a stream, one more at the front
use Rattle.std.proofs.Common.{◌≡◌, ℕ, ◌<◌, min, List, [], ◌∷◌, ◌++◌, length, take, drop, refl, sym, ap, ◌∙◌, subst, ⊎_elim, arith, length-append, append_assoc, append-nil}
use Rattle.std.proofs.lemmas.Bool.{cases_lt}
use Rattle.std.proofs.lemmas.List.{take-append-drop, length-take}
use Rattle.event_text.specs.Report.{StreamLines, none, rest, full, stream_line}

empty : (xs : List ℕ) → length xs ≡ 0 → xs ≡ []
empty [] e = refl
empty (x ∷ xs) e = absurd (omega (arith, e))

-- a stream without bytes has no lines
no_lines : {letter : List ℕ} {bytes lines : List ℕ} → StreamLines letter bytes lines → bytes ≡ [] → lines ≡ []
no_lines none e = refl
no_lines (rest piece some short) e = absurd (omega (arith, some, ap length e))
no_lines (full piece bytes lines whole more) e = absurd (omega (arith, whole, ap length e, length-append piece bytes))

add_line : (letter : List ℕ) (bytes piece left lines : List ℕ) → bytes ≡ piece ++ left → length piece ≡ min (length bytes) 32 → 0 < length bytes
    → StreamLines letter left lines → StreamLines letter bytes (stream_line letter piece ++ lines)
add_line letter bytes piece left lines cut size some more =
    ⊎_elim
    (λ short.
    let whole : length piece ≡ length bytes = omega (arith, size, short) in
    let gone : left ≡ [] = empty left (omega (arith, whole, ap length cut, length-append piece left)) in
    let alone : bytes ≡ piece = cut ∙ (ap (λ (xs : List ℕ). piece ++ xs) gone ∙ append-nil piece) in
    let last : stream_line letter piece ++ lines ≡ stream_line letter piece = ap (λ (xs : List ℕ). stream_line letter piece ++ xs) (no_lines more gone) ∙ append-nil (stream_line letter piece) in
    subst (λ (xs : List ℕ). StreamLines letter xs (stream_line letter piece ++ lines)) (sym alone) (subst (λ (ys : List ℕ). StreamLines letter piece ys) (sym last) (rest piece (omega (arith, whole, some)) (omega (arith, whole, short)))))
    (λ long.
    let filled : length piece ≡ 32 = omega (arith, size, long) in
    subst (λ (xs : List ℕ). StreamLines letter xs (stream_line letter piece ++ lines)) (sym cut) (full piece left lines filled more))
    (cases_lt (length bytes) 32)

-- the lines so far, behind what was there: what follows the lines of the rest follows them
pub record Progress (letter all left old text : List ℕ) : Type 0 where
  pub lines : List ℕ
  pub written : text ≡ old ++ lines
  pub so_far : (more : List ℕ) → StreamLines letter left more → StreamLines letter all (lines ++ more)

pub begun : (letter all text : List ℕ) → Progress letter all all text text
begun letter all text = record { lines = []; written = sym (append-nil text); so_far = λ more are. are }

pub line_more : (letter all left old text : List ℕ) (count : ℕ) (piece behind new : List ℕ) → Progress letter all left old text
    → piece ≡ take count left → behind ≡ drop count left → count ≡ min (length left) 32 → 0 < length left → new ≡ text ++ stream_line letter piece
    → Progress letter all behind old new
line_more letter all left old text count piece behind new p front back size some appended =
    let cut : left ≡ piece ++ behind = sym (ap (λ (xs : List ℕ). xs ++ behind) front ∙ (ap (λ (xs : List ℕ). take count left ++ xs) back ∙ take-append-drop count left)) in
    let measured : length piece ≡ min (length left) 32 = omega (arith, ap length front, length-take count left, size) in
    record {
      lines = p.lines ++ stream_line letter piece;
      written = appended ∙ (ap (λ (z : List ℕ). z ++ stream_line letter piece) p.written ∙ append_assoc old p.lines (stream_line letter piece));
      so_far = λ more are.
          subst (λ (ys : List ℕ). StreamLines letter all ys) (sym (append_assoc p.lines (stream_line letter piece) more))
          (p.so_far (stream_line letter piece ++ more) (add_line letter left piece behind more cut measured some are));
    }

pub lines_end : (letter all left old text : List ℕ) → Progress letter all left old text → left ≡ []
    → (lines : List ℕ) × StreamLines letter all lines × (text ≡ old ++ lines)
lines_end letter all left old text p gone = (
  p.lines,
  subst (λ (ys : List ℕ). StreamLines letter all ys) (append-nil p.lines) (p.so_far [] (subst (λ (xs : List ℕ). StreamLines letter xs []) (sym gone) none)),
  p.written,
)
