-- the run that a loop link tells
use Rattle.std.specs.Prelude.{◌≡◌, ℕ, false, if◌then◌else◌, List, [], ◌∷◌, ◌++◌, length, take, drop}
use Rattle.tmc_base.specs.declared.run_step.RunStep.{RunStep}
use Rattle.tmc_base.specs.Told.{IsFront, in_bytes, out_bytes}
use Rattle.tmc_law.specs.declared.dev_event.DevEvent.{DevEvent}
use Rattle.tmc_law.specs.State.{State, start}
use Rattle.tmc_law.specs.Run.{Entry, Runs, TakesAll, outputs}
use Rattle.host_joint.specs.Joint.{TellsBy}
use Rattle.usbip_export.specs.Identity.{devid}
use Rattle.usbip_export.specs.Seen.{standing}
use Rattle.usbip_export.specs.TakenIn.{IsSpelled}
use Rattle.tmc_world.specs.Calm.{IsQuiet}
use Rattle.tmc_world.specs.Crossing.{Crossing, IsSound, heard, said}

-- a step that took in and put out all that a told run did not
abbrev pub since : List RunStep → Crossing → RunStep
since run now = record { took = drop (length (in_bytes run)) (heard now); put = drop (length (out_bytes run)) (said now) }

-- A told run is told on by one step. While answers wait for memory it stands, since their bytes are not settled.
abbrev pub told_on : List RunStep → Crossing → List RunStep
told_on run now = if now.late then run else run ++ since run now ∷ []

-- a run that is told on at each of these moments
abbrev pub told_of : List RunStep → List Crossing → List RunStep
told_of run [] = run
told_of run (moment ∷ moments) = told_of (told_on run moment) moments

-- A told run, and what the instrument did behind it that is not told: from power-on the told steps lead to some state, and
-- a lawful run leads on to the instrument's. What both took in, and what the node keeps, is what the node was fed. What
-- both put out, as far as it is spelled, is what was taken and what is pending. What was taken is told. Where the acts of the instrument
-- were calm, nothing disturbed it.
pub record Follows (acts : List DevEvent) (run : List RunStep) (now : Crossing) : Type 0 where
  pub state : State
  pub leads : TellsBy (IsQuiet acts) devid start run state
  pub later : List Entry
  pub took : List ℕ
  pub answered : List ℕ
  pub goes : Runs state later (standing now.node)
  pub quiet : IsQuiet acts later
  pub takes : TakesAll devid later took
  pub spelled : IsSpelled (outputs later) answered now.node.puts
  pub fed : take now.fed now.sent ≡ in_bytes run ++ (took ++ now.node.kept)
  pub out : out_bytes run ++ answered ≡ now.taken ++ now.node.out
  pub taken : IsFront now.taken (out_bytes run)

-- Unless answers wait for memory, all is told.
pub record IsTelling (acts : List DevEvent) (run : List RunStep) (now : Crossing) : Type 0 where
  pub sound : IsSound now
  pub follows : Follows acts run now
  pub none_later : now.late ≡ false → follows.later ≡ []
  pub none_took : now.late ≡ false → follows.took ≡ []
  pub none_answered : now.late ≡ false → follows.answered ≡ []
