-- a run as a link can tell it: bytes alone, and what they mean
use Rattle.std.specs.Prelude.{◌≡◌, ℕ, List, [], ◌∷◌}
use Rattle.tmc_base.specs.declared.run_step.RunStep.{RunStep}
use Rattle.tmc_base.specs.Told.{Told, Silent, Bytes, Peer}
use Rattle.tmc_law.specs.State.{State, start}
use Rattle.tmc_law.specs.Run.{Entry, Runs, TakesAll, outputs, SpellAll, SpellsPut}

-- A told step is what one call on a link did: some run of a lawful device with this devid leads from the one state to the
-- other, takes in these bytes and puts out those. Bytes of a message that is not whole were sent, and are taken in with
-- its last one.
pub record Means (devid : ℕ) (s : State) (step : RunStep) (t : State) : Type 0 where
  pub run : List Entry
  pub goes : Runs s run t
  pub took : TakesAll devid run step.took
  pub put : SpellAll SpellsPut (outputs run) step.put

-- told steps are those of some lawful device that went from one state to another
abbrev pub Tells : (devid : ℕ) → State → List RunStep → State → Type 0
Tells devid s [] t = t ≡ s
Tells devid s (step ∷ run) t = (mid : State) × Means devid s step mid × Tells devid mid run t

-- some lawful device that began at power-on, took in these bytes and put out these, is in this state
abbrev pub ToldFromStart : (devid : ℕ) → List RunStep → State → Type 0
ToldFromStart devid run s = Tells devid start run s

-- a link's told peer is a lawful device in this state
abbrev pub Peered : (devid : ℕ) → Told → State → Type 0
Peered devid Silent s = ⊥
Peered devid (Bytes sent taken) s = ⊥
Peered devid (Peer sent taken run) s = ToldFromStart devid run s
