-- the text of a refusal
use Rattle.std.specs.Prelude.{ℕ, List, ◌++◌, codes}
use Rattle.std.specs.Fmt.{decimal}
use Rattle.event_text.specs.declared.line_fault.LineWhat.{LineWhat}
use Rattle.event_text.specs.Fault.{name_of}

-- a line, counted from 1, and what is wrong with it
abbrev pub refusal : ℕ → LineWhat → List ℕ
refusal line what = codes "refused line " ++ (decimal line ++ (codes " " ++ (name_of what ++ codes "\n")))
