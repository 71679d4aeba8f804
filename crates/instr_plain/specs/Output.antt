-- how the code keeps the answers of a message: one after another, each with a `;` behind it
use Rattle.std.specs.Prelude.{◌≡◌, ℕ, ◌+◌, Bool, not, ◌&&◌, ◌||◌, if◌then◌else◌, nat_le, List, [], ◌∷◌, ◌++◌, length}
use Rattle.instr_plain.specs.declared.plain.Plain.{Plain}
use Rattle.instr_plain.specs.declared.answer.Answer.{Answer}
use Rattle.instr_plain.specs.Answer.{bytes_of, is_last}
use Rattle.ieee_syntax.specs.declared.unit.Unit.{Unit}
use Rattle.instr_plain.specs.Exec.{Progress, response_most, response_of, begun, Executes}

-- what is written
pub record Written : Type 0 where
  pub bytes : List ℕ
  pub dropped : Bool
  pub ended : Bool

abbrev pub parts_of : List (List ℕ) → List ℕ
parts_of [] = []
parts_of (answer ∷ answers) = answer ++ (59 ∷ parts_of answers)

-- what is written where the execution of a message has come so far
abbrev pub written : Progress → Written
written progress = record { bytes = parts_of progress.answers; dropped = progress.dropped; ended = progress.ended }

-- the state and what is written stand for that
pub record IsAt (progress : Progress) (state : Plain) (output : Written) : Type 0 where
  pub state_is : progress.state ≡ state
  pub output_is : written progress ≡ output

-- whether there is room for an answer and the byte behind it
abbrev pub fits : Answer → Written → Bool
fits answer output = nat_le (length output.bytes + length (bytes_of answer) + 1) response_most

-- what is written behind one more answer
abbrev pub with_answer : Answer → Written → Written
with_answer answer output = record {
  bytes = if output.dropped then output.bytes else if fits answer output then output.bytes ++ (bytes_of answer ++ 59 ∷ []) else [];
  dropped = output.dropped || not (fits answer output);
  ended = output.ended || is_last answer;
}

-- whether that answer makes the response too long
abbrev pub is_too_long : Answer → Written → Bool
is_too_long answer output = not output.dropped && not (fits answer output)

-- the units are executed from a state to a state, with this response
pub record Obeys (before : Plain) (units : List Unit) (after : Plain) (response : List ℕ) : Type 0 where
  pub end : Progress
  pub executes : Executes (begun before) units end
  pub leaves : after ≡ end.state
  pub answers : response ≡ response_of end.answers
