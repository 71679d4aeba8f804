-- how `ask` ends
use Rattle.std.proofs.Common.{◌≡◌, ◌⊎◌, inl, inr, ⊎_elim, ℕ, ◌<◌, ◌≤◌, Bool, List, [], length, subst, arith}
use Rattle.std.proofs.lemmas.Bool.{cases_lt}
use Rattle.tmc_base.specs.Source.{GivesFirst, HasEnded}
use Rattle.tmc_base.specs.Reading.{Last, NoRead, AtEnd}
use Rattle.event_text.specs.declared.line_fault.LineWhat.{LineWhat}
use Rattle.event_text.specs.declared.line_fault.LineWhat.TheVariants.{Words, EmptyMessage, LongMessage, NotYet}
use Rattle.tmc_tool.specs.declared.status.Status.{Status}
use Rattle.tmc_tool.specs.declared.command.Command.TheVariants.{Ask}
use Rattle.tmc_tool.specs.Command.{Names}
use Rattle.tmc_tool.specs.Line.{IsFirstLine, IsAsked, IsQuestion, IsRefused, line_most}
use Rattle.tmc_tool.specs.Judged.{IsWrong}
use Rattle.tmc_tool.specs.Told.{AskedOnce}
use Rattle.tmc_tool.specs.Tool.{Outside, ReadsLine, ReadsAll, ReadsSome, Ends, Prints, PrintsRefusal}
use Rattle.tmc_tool.proofs.FirstLine.{line_size}
use Rattle.tmc_tool.proofs.Lines.{empty}
use Rattle.tmc_tool.proofs.Ending.{printed_ends, some_read, refused_ends}

-- what was read of a source, as a call of `read_up_to` tells it
pub record Reads (reads : Last → List ℕ → Type 0) (bytes : List ℕ) (before after : Outside) : Type 0 where
  pub first : GivesFirst bytes before.left after.left
  pub most : length bytes ≤ line_most
  pub ended : length bytes < line_most → HasEnded after.left
  pub short_run : length bytes < line_most → reads AtEnd bytes
  pub full_run : length bytes ≡ line_most → reads NoRead bytes
  pub counts : after.read_faults ≡ before.read_faults

reads_line : (reads : Last → List ℕ → Type 0) (bytes : List ℕ) (before after : Outside) → Reads reads bytes before after → ReadsLine reads bytes before after
reads_line reads bytes before after read = record {
  first = read.first;
  most = read.most;
  enough =
      ⊎_elim (λ short. inl (read.ended short, read.short_run short))
      (λ long. let full : length bytes ≡ line_most = omega (arith, long, read.most) in inr (full, read.full_run full))
      (cases_lt (length bytes) line_most);
  counts = read.counts;
}

-- what is wrong with a line is why its bytes are refused
refused_by : (bytes message behind : List ℕ) (line : ℕ) (what : LineWhat) → IsFirstLine bytes message behind → IsWrong message behind line what → IsRefused bytes line what
refused_by bytes message behind line Words first wrong = (wrong.0, (message, behind, first, wrong.1, wrong.2))
refused_by bytes message behind line EmptyMessage first wrong = (wrong.0, (behind, subst (λ m. IsFirstLine bytes m behind) wrong.1 first))
refused_by bytes message behind line LongMessage first wrong = (wrong.0, (message, behind, first, wrong.1))
refused_by bytes message behind line NotYet first wrong = (wrong.0, (message, behind, first, wrong.1, wrong.2, wrong.3))
refused_by bytes message behind line what first wrong = absurd wrong

pub refusal_ends : (reads : Last → List ℕ → Type 0) (writes : Bool → List ℕ → Type 0) (words : List (List ℕ)) (limit : ℕ) (before after : Outside) (bytes message behind : List ℕ) (line : ℕ) (what : LineWhat) (result : Status)
    → Names words (Ask limit) → Reads reads bytes before after → IsFirstLine bytes message behind → IsWrong message behind line what
    → PrintsRefusal writes line what result before.put before.write_faults after.put after.write_faults → Ends reads writes words result before after
refusal_ends reads writes words limit before after bytes message behind line what result names read first wrong printed =
    refused_ends reads writes words (Ask limit) before after bytes line what result names (reads_line reads bytes before after read) read.counts
    (refused_by bytes message behind line what first wrong) printed

pub answer_ends : (reads : Last → List ℕ → Type 0) (writes : Bool → List ℕ → Type 0) (words : List (List ℕ)) (limit : ℕ) (before after : Outside) (bytes message behind : List ℕ) (result : Status)
    → Names words (Ask limit) → Reads reads bytes before after → IsFirstLine bytes message behind → length behind ≡ 0 → IsAsked message
    → Prints writes (AskedOnce limit message) result before.put before.write_faults after.put after.write_faults → Ends reads writes words result before after
answer_ends reads writes words limit before after bytes message behind result names read first alone asked printed =
    let line : IsFirstLine bytes message [] = subst (λ b. IsFirstLine bytes message b) (empty behind alone) first in
    let short : length bytes < line_most = omega (arith, line_size bytes message line, asked.short) in
    let question : IsQuestion bytes message = record { line = line; asked = asked } in
    let all : ReadsAll reads bytes before after = record { first = read.first; ended = read.ended short; run = read.short_run short; counts = read.counts } in
    printed_ends reads writes words (Ask limit) before after bytes result (AskedOnce limit message) names all (reads_line reads bytes before after read)
    (λ text is. record { message = message; question = question; asked = is }) printed

-- memory was wanting for the response of a line
pub wanting_ends : (reads : Last → List ℕ → Type 0) (words : List (List ℕ)) (limit : ℕ) (bytes : List ℕ) (before after : Outside) → Names words (Ask limit) → Reads reads bytes before after
    → ReadsSome reads words NoRead ⊎ ReadsSome reads words AtEnd
wanting_ends reads words limit bytes before after names read = some_read reads words (Ask limit) before after bytes names (reads_line reads bytes before after read)
