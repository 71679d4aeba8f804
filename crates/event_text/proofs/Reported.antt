-- the parts of a report, one behind another
use Rattle.std.proofs.Common.{◌≡◌, ℕ, Option, Result, Ok, Err, List, ◌++◌, length, codes, refl, ap, ◌∙◌, append_assoc}
use Rattle.std.specs.Prelude.{OnOk}
use Rattle.std.specs.Fmt.{decimal}
use Rattle.tmc_base.specs.declared.memory.Memory.{Memory}
use Rattle.host_hub.specs.BookSeen.{BookSeen}
use Rattle.host_hub.specs.declared.outcome.End.{End}
use Rattle.instr_plain.specs.declared.log.LogEntry.{LogEntry}
use Rattle.event_text.specs.declared.way.Way.TheVariants as ways
use Rattle.event_text.specs.declared.way.Way.{Way}
use Rattle.event_text.specs.declared.answer.EventAnswer.{EventAnswer}
use Rattle.event_text.specs.Report.{IsReport, StreamText, StreamLines, stream_letter, stream_word, numbered, answer_line, log_line, book_text}

pub stream_put : (way : Way) (bytes old middle new : List ℕ) (count : ℕ) (result : Result (Unit {0}) Memory) → count ≡ length bytes
    → middle ≡ old ++ (stream_word way ++ (decimal count ++ codes "\n"))
    → OnOk result ((lines : List ℕ) × StreamLines (stream_letter way) bytes lines × (new ≡ middle ++ lines))
    → OnOk result ((text : List ℕ) × StreamText way bytes text × (new ≡ old ++ text))
stream_put way bytes old middle new count (Ok done) size begun (lines, are, appended) =
    let text : List ℕ = stream_word way ++ (decimal (length bytes) ++ (codes "\n" ++ lines)) in (
      text,
      record { lines = lines; are = are; written = refl },
      appended
          ∙ (ap (λ (z : List ℕ). z ++ lines) begun
          ∙ (append_assoc old (stream_word way ++ (decimal count ++ codes "\n")) lines
          ∙ ap (λ (z : List ℕ). old ++ z)
          (append_assoc (stream_word way) (decimal count ++ codes "\n") lines
          ∙ (ap (λ (z : List ℕ). stream_word way ++ z) (append_assoc (decimal count) (codes "\n") lines)
          ∙ ap (λ (n : ℕ). stream_word way ++ (decimal n ++ (codes "\n" ++ lines))) size)))),
    )
stream_put way bytes old middle new count (Err memory) size begun put = tt

pub report_put : (answers : List (Option EventAnswer)) (end : Option End) (book : BookSeen) (log : List LogEntry) (up down old first second third fourth text new : List ℕ)
    (result : Result (Unit {0}) Memory) → first ≡ numbered answer_line 1 answers → second ≡ first ++ book_text end book → third ≡ second ++ numbered log_line 1 log
    → (lines : List ℕ) × StreamText ways.Up up lines × (fourth ≡ third ++ lines)
    → (lines : List ℕ) × StreamText ways.Down down lines × (text ≡ fourth ++ lines)
    → OnOk result (new ≡ old ++ text)
    → OnOk result ((report : List ℕ) × IsReport answers end book log up down report × (new ≡ old ++ report))
report_put answers end book log up down old first second third fourth text new (Ok done) answered booked logged (up_text, sent, upward) (down_text, taken, downward) put =
    let a = numbered answer_line 1 answers in
    let b = book_text end book in
    let l = numbered log_line 1 log in
    let whole : text ≡ a ++ (b ++ (l ++ (up_text ++ down_text))) =
    downward
    ∙ (ap (λ (z : List ℕ). z ++ down_text) (upward ∙ ap (λ (z : List ℕ). z ++ up_text) (logged ∙ ap (λ (z : List ℕ). z ++ l) (booked ∙ ap (λ (z : List ℕ). z ++ b) answered)))
    ∙ simp append_assoc) in
    (text, record { up_text = up_text; down_text = down_text; sent = sent; taken = taken; written = whole }, put)
report_put answers end book log up down old first second third fourth text new (Err memory) answered booked logged sent taken put = tt
