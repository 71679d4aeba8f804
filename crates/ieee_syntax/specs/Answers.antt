-- what the answer about some bytes says, want of memory aside
use Rattle.std.specs.Prelude.{◌≡◌, ℕ, ⊤, List, Result, Ok, Err}
use Rattle.std.specs.Global.{Vec}
use Rattle.ieee_syntax.specs.declared.unit.Unit.{Unit}
use Rattle.ieee_syntax.specs.declared.fault.SyntaxFault.{SyntaxFault}
use Rattle.ieee_syntax.specs.declared.fault.SyntaxFault.TheVariants.{At, Memory}
use Rattle.ieee_syntax.specs.Program.{Program, FaultAt}

-- units are those of a message, and a place is that of the fault
abbrev pub Answers : List ℕ → Result (Vec Unit) SyntaxFault → Type 0
Answers bytes (Ok units) = Program bytes units.items
Answers bytes (Err (At place)) = FaultAt bytes place
Answers bytes (Err Memory) = ⊤

-- these units, or want of memory
abbrev pub AnswersUnits : Result (Vec Unit) SyntaxFault → List Unit → Type 0
AnswersUnits (Ok units) us = units.items ≡ us
AnswersUnits (Err (At place)) us = ⊥
AnswersUnits (Err Memory) us = ⊤

-- a fault at this place, or want of memory
abbrev pub AnswersFault : Result (Vec Unit) SyntaxFault → ℕ → Type 0
AnswersFault (Ok units) place = ⊥
AnswersFault (Err (At found)) place = found ≡ place
AnswersFault (Err Memory) place = ⊤
