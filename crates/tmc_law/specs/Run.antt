-- runs of a lawful device: its steps in a row, with what they take in and what they put out
use Rattle.std.specs.Prelude.{◌≡◌, ℕ, List, [], ◌∷◌, ◌++◌}
use Rattle.usbip_wire.specs.Up as up
use Rattle.usbip_wire.specs.RetSubmit.{SpellsRetSubmit}
use Rattle.usbip_wire.specs.RetUnlink.{SpellsRetUnlink}
use Rattle.usbip_wire.specs.Stream.{InRow}
use Rattle.tmc_law.specs.State.{State}
use Rattle.tmc_law.specs.Put.{Put, Submitted, Unlinked}
use Rattle.tmc_law.specs.Step.{Move, Comes, Refuses, Steps}

-- a step's move, and what it puts out
pub record Entry : Type 0 where
  pub move : Move
  pub puts : List Put

-- the steps lead from one state to another
abbrev pub Runs : State → List Entry → State → Type 0
Runs s [] t = t ≡ s
Runs s (entry ∷ run) t = (mid : State) × Steps s entry.move entry.puts mid × Runs mid run t

-- the message that a move takes in
abbrev pub taken : Move → List up.Message
taken (Comes message) = message ∷ []
taken _ = []

-- the messages that a run takes in, and what it puts out
abbrev pub inputs : List Entry → List up.Message
inputs [] = []
inputs (entry ∷ run) = taken entry.move ++ inputs run

abbrev pub outputs : List Entry → List Put
outputs [] = []
outputs (entry ∷ run) = entry.puts ++ outputs run

-- the bytes that a move takes in, sent to the device with this devid: a message's spelling, those that are refused, or
-- none
abbrev pub TakesIn : (devid : ℕ) → Move → List ℕ → Type 0
TakesIn devid (Comes message) bytes = up.Spells devid message bytes
TakesIn devid (Refuses number refused f) bytes = (number ≡ devid) × (bytes ≡ refused)
TakesIn devid _ bytes = bytes ≡ []

-- the bytes that a run takes in
abbrev pub TakesAll : (devid : ℕ) → List Entry → List ℕ → Type 0
TakesAll devid [] bytes = bytes ≡ []
TakesAll devid (entry ∷ run) bytes =
    (front rest : List ℕ) × (bytes ≡ front ++ rest) × TakesIn devid entry.move front × TakesAll devid run rest

-- these bytes are this answer
abbrev pub SpellsPut : Put → List ℕ → Type 0
SpellsPut (Submitted asked answer transferred) bytes =
    SpellsRetSubmit (record { dir = asked.dir; size = asked.length }) answer transferred bytes
SpellsPut (Unlinked asked answer) bytes = SpellsRetUnlink answer bytes

-- these bytes are these messages in a row, and no more
abbrev pub SpellAll : {M : Type 0} → (M → List ℕ → Type 0) → List M → List ℕ → Type 0
SpellAll SpellsOne messages bytes = InRow SpellsOne messages bytes []

-- the second list begins with the first
abbrev pub IsFront : {A : Type 0} → List A → List A → Type 0
IsFront {A} front all = (rest : List A) × (all ≡ front ++ rest)

-- a run fits the bytes that the device with this devid was sent and that were taken from it: what it took in was sent
-- first, and it put out all that was taken
pub record Fits (devid : ℕ) (run : List Entry) (sent received : List ℕ) : Type 0 where
  pub taken_in : List ℕ
  pub takes : TakesAll devid run taken_in
  pub sent_first : IsFront taken_in sent
  pub text : List ℕ
  pub spelled : SpellAll SpellsPut (outputs run) text
  pub put : IsFront received text
