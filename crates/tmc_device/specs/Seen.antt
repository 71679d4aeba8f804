-- what contracts see of a device
use Rattle.std.specs.Prelude.{◌≡◌, ℕ, Bool, true, false, List, [], ◌++◌}
use Rattle.tmc_law.specs.declared.output.Output.{Output}
use Rattle.tmc_law.specs.declared.output.Output.TheVariants as output
use Rattle.tmc_law.specs.State.{State, Presence, Plugged, Unplugged, Closed, start}
use Rattle.tmc_law.specs.Put.{Put, Submitted, Unlinked}
use Rattle.tmc_law.specs.Step.{Move, Steps}
use Rattle.tmc_law.specs.Run.{Entry, Runs}

-- the state of the law, and what was put out and not yet dropped, in order
pub record Seen : Type 0 where
  pub state : State
  pub puts : List Put

-- some run of a lawful device leads from power-on to this state
pub record IsReached (s : State) : Type 0 where
  pub run : List Entry
  pub runs : Runs start run s

-- One step of the law: the move is lawful, and what it puts out comes behind what was put out before.
pub record Makes (move : Move) (old new : Seen) : Type 0 where
  pub puts : List Put
  pub steps : Steps old.state move puts new.state
  pub joins : new.puts ≡ old.puts ++ puts

-- the message that an answer is, and its data
abbrev pub output_of : Put → Output
output_of (Submitted asked answer transferred) = output.Submit answer
output_of (Unlinked asked answer) = output.Unlink answer

abbrev pub data_of : Put → List ℕ
data_of (Submitted asked answer transferred) = transferred
data_of (Unlinked asked answer) = []

-- the device takes nothing in any more
abbrev pub is_closed : Presence → Bool
is_closed Plugged = false
is_closed Unplugged = true
is_closed (Closed f) = true
