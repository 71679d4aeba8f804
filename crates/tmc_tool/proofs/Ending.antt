-- how a command ends
use Rattle.std.proofs.Common.{◌≡◌, ◌⊎◌, inl, inr, ⊎_elim, ℕ, Bool, List, refl, sym, subst}
use Rattle.tmc_base.specs.Reading.{Last, NoRead, AtEnd}
use Rattle.event_text.specs.declared.line_fault.LineWhat.{LineWhat}
use Rattle.tmc_tool.specs.declared.status.Status.{Status}
use Rattle.tmc_tool.specs.declared.status.Status.TheVariants.{Printed, Usage, Refused, SourceFault, SinkFault, NoMemory}
use Rattle.tmc_tool.specs.declared.command.Command.{Command}
use Rattle.tmc_tool.specs.declared.command.Command.TheVariants.{Ask, Replay, Show}
use Rattle.tmc_tool.specs.Command.{Names}
use Rattle.tmc_tool.specs.Refusal.{refusal}
use Rattle.tmc_tool.specs.Tool.{Outside, ReadsAll, ReadsSome, ReadsEnough, Makes, Refuses, Puts, Due, Ends, Writes, WritesNone, Prints, PrintsRefusal}

-- a text that is due was written, or a front of it was
pub text_written : (reads : Last → List ℕ → Type 0) (writes : Bool → List ℕ → Type 0) (words : List (List ℕ)) (before after : Outside) (status result : Status) (text : List ℕ)
    → Due reads words before after status text → Writes writes status text result before.put before.write_faults after.put after.write_faults
    → Ends reads writes words result before after
text_written reads writes words before after status result text due (inl whole) =
    subst (λ r. Ends reads writes words r before after) (sym whole.0) (by_status status due)
  where
    put : Puts writes text before after
    put = record { put = whole.1; run = whole.3; counts = whole.2 }

    by_status : (s : Status) → Due reads words before after s text → Ends reads writes words s before after
    by_status Printed d = (text, d, put)
    by_status Usage d = (text, d, put)
    by_status Refused d = (text, d, put)
    by_status SourceFault d = absurd d
    by_status SinkFault d = absurd d
    by_status NoMemory d = absurd d
text_written reads writes words before after status result text due (inr failed) =
    subst (λ r. Ends reads writes words r before after) (sym failed.0) (failed.1, (status, text, due, failed.2, failed.3))

-- the text of the bytes was written, or a front of it
pub made_ends : (reads : Last → List ℕ → Type 0) (writes : Bool → List ℕ → Type 0) (words : List (List ℕ)) (command : Command) (before after : Outside) (bytes text : List ℕ) (result : Status)
    → Names words command → ReadsAll reads bytes before after → Makes command bytes text
    → Writes writes Printed text result before.put before.write_faults after.put after.write_faults → Ends reads writes words result before after
made_ends reads writes words command before after bytes text result names read made written =
    text_written reads writes words before after Printed result text (command, names, bytes, read, made) written

-- memory was wanting behind the reading
pub memory_ends : (reads : Last → List ℕ → Type 0) (writes : Bool → List ℕ → Type 0) (words : List (List ℕ)) (before after : Outside) (result : Status)
    → ReadsSome reads words NoRead ⊎ ReadsSome reads words AtEnd → after.read_faults ≡ before.read_faults
    → WritesNone writes result before.put before.write_faults after.put after.write_faults → Ends reads writes words result before after
memory_ends reads writes words before after result some counts wanting =
    subst (λ r. Ends reads writes words r before after) (sym wanting.0)
    (some, counts, record { put = wanting.1; run = wanting.3; counts = wanting.2 })

-- what is read to refuse bytes is no more than the command may read
pub some_read : (reads : Last → List ℕ → Type 0) (words : List (List ℕ)) (command : Command) (before after : Outside) (bytes : List ℕ) → Names words command
    → ReadsEnough reads command bytes before after → ReadsSome reads words NoRead ⊎ ReadsSome reads words AtEnd
some_read reads words (Ask limit) before after bytes names read =
    ⊎_elim (λ ended. inr (Ask limit, names, bytes, read.most, ended.1)) (λ full. inl (Ask limit, names, bytes, read.most, full.1)) read.enough
some_read reads words Replay before after bytes names read =
    ⊎_elim (λ ended. inr (Replay, names, bytes, read.bounded, ended.1)) (λ past. inl (Replay, names, bytes, read.bounded, past.1)) read.enough
some_read reads words (Show way) before after bytes names read =
    ⊎_elim (λ ended. inr (Show way, names, bytes, read.bounded, ended.1)) (λ past. inl (Show way, names, bytes, read.bounded, past.1)) read.enough

-- a text of the bytes was written, or a front of it, or memory was wanting
pub printed_ends : (reads : Last → List ℕ → Type 0) (writes : Bool → List ℕ → Type 0) (words : List (List ℕ)) (command : Command) (before after : Outside) (bytes : List ℕ) (result : Status)
    → (Is : List ℕ → Type 0) → Names words command → ReadsAll reads bytes before after → ReadsEnough reads command bytes before after
    → ((text : List ℕ) → Is text → Makes command bytes text)
    → Prints writes Is result before.put before.write_faults after.put after.write_faults → Ends reads writes words result before after
printed_ends reads writes words command before after bytes result Is names all enough makes (inl written) =
    made_ends reads writes words command before after bytes written.0 result names all (makes written.0 written.1) written.2
printed_ends reads writes words command before after bytes result Is names all enough makes (inr wanting) =
    memory_ends reads writes words before after result (some_read reads words command before after bytes names enough) all.counts wanting

-- the refusal of the bytes was written, or a front of it, or memory was wanting
pub refused_ends : (reads : Last → List ℕ → Type 0) (writes : Bool → List ℕ → Type 0) (words : List (List ℕ)) (command : Command) (before after : Outside) (bytes : List ℕ) (line : ℕ) (what : LineWhat) (result : Status)
    → Names words command → ReadsEnough reads command bytes before after → after.read_faults ≡ before.read_faults → Refuses command bytes line what
    → PrintsRefusal writes line what result before.put before.write_faults after.put after.write_faults → Ends reads writes words result before after
refused_ends reads writes words command before after bytes line what result names read counts refused (inl written) =
    text_written reads writes words before after Refused result (refusal line what) (command, names, bytes, line, what, read, refused, refl) written
refused_ends reads writes words command before after bytes line what result names read counts refused (inr wanting) =
    memory_ends reads writes words before after result (some_read reads words command before after bytes names read) counts wanting
