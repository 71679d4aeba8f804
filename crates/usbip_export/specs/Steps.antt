-- which steps the instrument of a node makes in a call
use Rattle.std.specs.Prelude.{◌≡◌, ◌⊎◌, ℕ, List, [], ◌∷◌, ◌++◌}
use Rattle.usbip_wire.specs.Up as up
use Rattle.tmc_law.specs.declared.dev_event.DevEvent.{DevEvent}
use Rattle.tmc_law.specs.State.{State, Presence, Closed}
use Rattle.tmc_law.specs.Put.{Put}
use Rattle.tmc_law.specs.Step.{Move, Comes, Refuses, Steps, IsRefused}
use Rattle.tmc_law.specs.Run.{Entry, SpellAll}
use Rattle.tmc_device.specs.Events.{Allows}
use Rattle.usbip_export.specs.Identity.{devid}
use Rattle.usbip_export.specs.Seen.{Seen, standing}
use Rattle.usbip_export.specs.TakenIn.{IsSpelled, TakenIn, Asked, Failed, Imported, Served, Moves}
use Rattle.usbip_export.specs.Events.{IsCalmMove}

-- the steps of the instrument's run; before an import it makes none
abbrev pub steps_of : {took answered : List ℕ} {old new : Seen} → TakenIn took answered old new → List Entry
steps_of (Asked requests was is same row none says untouched) = []
steps_of (Failed requests front rest f was is good bad cut row none field says untouched) = []
steps_of (Imported requests front request rest behind was is cut row none asks begins says serves) = serves.run
steps_of (Served was is serves) = serves.run

-- each step is such a move
abbrev pub AllSteps : (Move → Type 0) → List Entry → Type 0
AllSteps Is [] = Unit {0}
AllSteps Is (entry ∷ run) = Is entry.move × AllSteps Is run

-- a message arrives, or bytes are refused
abbrev pub IsArrival : Move → Type 0
IsArrival (Comes message) = Unit {0}
IsArrival (Refuses number bytes f) = Unit {0}
IsArrival _ = ⊥

-- the instrument takes in what arrives, and does nothing by itself
abbrev pub AreArrivals : List Entry → Type 0
AreArrivals run = AllSteps IsArrival run

-- a move that a calm event allows
abbrev pub IsCalmStep : Move → Type 0
IsCalmStep move = (event : DevEvent) × IsCalmMove event × Allows event move

abbrev pub AreCalmSteps : List Entry → Type 0
AreCalmSteps run = AllSteps IsCalmStep run

-- what waits arrives, and behind it the instrument makes calm moves alone
abbrev pub AreCalming : List Entry → Type 0
AreCalming run = (arrivals moves : List Entry) × (run ≡ arrivals ++ moves) × AreArrivals arrivals × AreCalmSteps moves

-- what arrives, or a calm move
abbrev pub IsServing : Move → Type 0
IsServing move = IsArrival move ⊎ IsCalmStep move

-- the instrument makes no step but these
abbrev pub AreServing : List Entry → Type 0
AreServing run = AllSteps IsServing run

-- A call of a node, whose instrument made such steps and no others.
pub record MovesBy (Only : List Entry → Type 0) (old new : Seen) : Type 0 where
  pub moves : Moves old new
  pub only : Only (steps_of moves.taken)

-- each of these messages is taken in by one step, in their order, and no other step is made
abbrev pub StepEach : State → List up.Message → List Put → State → Type 0
StepEach s [] puts t = (puts ≡ []) × (t ≡ s)
StepEach s (message ∷ messages) puts t =
    (first rest : List Put) × (mid : State) × (puts ≡ first ++ rest) × Steps s (Comes message) first mid × StepEach mid messages rest t

-- what stood behind these messages: where the instrument closed at a field, bytes that are refused there, and else nothing
-- that was taken in
abbrev pub EndsBehind : Presence → (mid new : State) → (refused : List ℕ) → Type 0
EndsBehind (Closed f) mid new refused = IsRefused devid mid refused f × (new ≡ record mid { presence = Closed f })
EndsBehind _ mid new refused = (new ≡ mid) × (refused ≡ [])

-- What a node had kept and was fed is messages in a row, and a rest that it keeps. Its instrument took each message in by
-- one step, and what these steps put out is spelled, in order, behind what was pending. Bytes behind the messages may be
-- refused, by one step that is the last.
pub record TakesEach (bytes : List ℕ) (old new : Seen) : Type 0 where
  pub messages : List up.Message
  pub took : List ℕ
  pub puts : List Put
  pub answered : List ℕ
  pub mid : State
  pub refused : List ℕ
  pub kept : old.kept ++ bytes ≡ took ++ (refused ++ new.kept)
  pub row : SpellAll (up.Spells devid) messages took
  pub steps : StepEach (standing old) messages puts mid
  pub behind : EndsBehind (standing new).presence mid (standing new) refused
  pub spelled : IsSpelled (old.puts ++ puts) answered new.puts
  pub out : new.out ≡ old.out ++ answered
