-- the execution of a program message (IEEE 488.2, section 6)
use Rattle.std.specs.Prelude.{◌≡◌, ◌⊎◌, ℕ, Bool, true, false, ◌&&◌, ◌||◌, if◌then◌else◌, nat_le, Option, Some, None, List, [], ◌∷◌, ◌++◌, length}
use Rattle.ieee_syntax.specs.declared.unit.Unit.{Unit}
use Rattle.ieee_syntax.specs.Program.{Program}
use Rattle.instr_plain.specs.declared.plain.Plain.{Plain}
use Rattle.instr_plain.specs.declared.answer.Answer.{Answer}
use Rattle.instr_plain.specs.declared.command.Command.{Command}
use Rattle.instr_plain.specs.Status.{query_error, command_error, with_event}
use Rattle.instr_plain.specs.Command.{unit_of, is_query, IsUnknown}
use Rattle.instr_plain.specs.Answer.{bytes_of, is_last}
use Rattle.instr_plain.specs.Outcome.{outcome_of}

-- the response of these answers: they are parted by `;` (8.4.1) and ended by NL (8.5), and no answers make no response
abbrev pub response_of : List (List ℕ) → List ℕ
response_of [] = []
response_of (answer ∷ []) = answer ++ 10 ∷ []
response_of (answer ∷ next ∷ answers) = answer ++ (59 ∷ response_of (next ∷ answers))

-- the most bytes of a response
abbrev pub response_most : ℕ
response_most = 65535

-- where the execution of a message has come: the state, the answers that stand, whether the answers of this message are
-- dropped, and whether an answer was given behind which none can stand
pub record Progress : Type 0 where
  pub state : Plain
  pub answers : List (List ℕ)
  pub dropped : Bool
  pub ended : Bool

abbrev pub begun : Plain → Progress
begun state = record { state = state; answers = []; dropped = false; ended = false }

abbrev pub with_error : ℕ → Progress → Progress
with_error bit progress = record progress { state = with_event bit progress.state }

-- whether an earlier unit's answer stands
abbrev pub some_stand : List (List ℕ) → Bool
some_stand [] = false
some_stand (answer ∷ answers) = true

-- one more answer. Where it makes the response too long, that is a deadlock (6.3.1.7): all answers of the message are
-- dropped, before and after, and QYE is set.
abbrev pub answered : List ℕ → Progress → Progress
answered bytes progress =
    if progress.dropped then progress
    else if nat_le (length (response_of (progress.answers ++ bytes ∷ []))) response_most
    then record progress { answers = progress.answers ++ bytes ∷ [] }
    else with_error query_error (record progress { answers = []; dropped = true })

abbrev pub told : Option Answer → Progress → Progress
told None progress = progress
told (Some answer) progress = answered (bytes_of answer) (record progress { ended = progress.ended || is_last answer })

-- A query where no answer can stand sets QYE and is passed over. Every other command acts on the state, and then its
-- answer is told.
abbrev pub performed : Command → Progress → Progress
performed command progress =
    if is_query command && progress.ended then with_error query_error progress
    else (let outcome = outcome_of command (some_stand progress.answers) progress.state in
    told outcome.answer (record progress { state = outcome.state }))

-- the units one after another. One that is unknown sets CME and ends the message; earlier answers stay.
abbrev pub Executes : Progress → List Unit → Progress → Type 0
Executes before [] after = after ≡ before
Executes before (unit ∷ units) after =
    ((command : Command) × (unit ≡ unit_of command) × Executes (performed command before) units after)
    ⊎ (IsUnknown unit × (after ≡ with_error command_error before))

-- the bytes are a program message, whose units are executed
pub record IsExecuted (before : Plain) (message : List ℕ) (after : Plain) (response : List ℕ) : Type 0 where
  pub units : List Unit
  pub end : Progress
  pub program : Program message units
  pub executes : Executes (begun before) units end
  pub leaves : after ≡ end.state
  pub answers : response ≡ response_of end.answers

-- the bytes are no program message: CME is set, and nothing is executed (11.5.1.1.4)
pub record IsRefused (before : Plain) (message : List ℕ) (after : Plain) (response : List ℕ) : Type 0 where
  pub none : (units : List Unit) → Program message units → ⊥
  pub leaves : after ≡ with_event command_error before
  pub silent : response ≡ []

-- a message leads from one state to another, and to a response
abbrev pub Exec : (before : Plain) (message : List ℕ) (after : Plain) (response : List ℕ) → Type 0
Exec before message after response = IsExecuted before message after response ⊎ IsRefused before message after response
