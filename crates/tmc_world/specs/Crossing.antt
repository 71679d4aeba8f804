-- a node in memory, and the bytes that crossed the link to it
use Rattle.std.specs.Prelude.{◌≡◌, ℕ, ◌-◌, ◌≤◌, Bool, true, false, List, [], ◌++◌, length, take}
use Rattle.tmc_device.specs.Seen.{is_closed}
use Rattle.usbip_export.specs.Seen.{Seen, begun, standing, IsCaughtUp}
use Rattle.usbip_export.specs.Serving.{WorksBy}
use Rattle.usbip_export.specs.Steps.{AreArrivals}

pub record Crossing : Type 0 where
  pub node : Seen
  -- the bytes that were sent
  pub sent : List ℕ
  -- how many of them the node was fed: all that were sent while it was open
  pub fed : ℕ
  -- the bytes that were taken
  pub taken : List ℕ
  -- whether something in the node waits for memory
  pub late : Bool

-- the bytes that were taken, and room for so many more
pub record Taped : Type 0 where
  pub bytes : List ℕ
  pub room : ℕ

-- unless memory is wanting, there is room for each byte that waits to be taken
abbrev pub HasRoom : (late : Bool) → Seen → (room : ℕ) → Type 0
HasRoom late node room = late ≡ false → length node.out ≤ room

-- an imported instrument at power-on, and nothing sent or taken
abbrev pub uncrossed : Crossing
uncrossed = record { node = begun true; sent = []; fed = 0; taken = []; late = false }

abbrev pub IsOpen : Seen → Type 0
IsOpen node = is_closed (standing node).presence ≡ false

abbrev pub IsShut : Seen → Type 0
IsShut node = is_closed (standing node).presence ≡ true

pub record IsSound (crossing : Crossing) : Type 0 where
  pub imported : crossing.node.imported ≡ true
  pub within : crossing.fed ≤ length crossing.sent
  pub opened : IsOpen crossing.node → crossing.fed ≡ length crossing.sent
  -- unless memory is wanting, each answer is spelled
  pub spelled : crossing.late ≡ false → crossing.node.puts ≡ []

-- the bytes before those at the end of a list
abbrev pub before : (end all : List ℕ) → List ℕ
before end all = take (length all - length end) all

-- of the bytes that the node was fed these are more, where it was open, or none
pub record HasFed (bytes : List ℕ) (old new : Crossing) : Type 0 where
  pub opened : IsOpen old.node → take new.fed new.sent ≡ take old.fed old.sent ++ bytes
  pub shut : IsShut old.node → take new.fed new.sent ≡ take old.fed old.sent

-- what the instrument took in: the bytes that its node was fed, without the last of them, which the node keeps
abbrev pub heard : Crossing → List ℕ
heard crossing = before crossing.node.kept (take crossing.fed crossing.sent)

-- what it put out
abbrev pub said : Crossing → List ℕ
said crossing = crossing.taken ++ crossing.node.out

-- A node was fed these bytes, where it is open; a closed one takes nothing in. Its instrument makes no step but what arrives. Unless
-- memory is wanting, no whole message waits then.
pub record Hears (bytes : List ℕ) (old new : Seen) (late : Bool) : Type 0 where
  pub opened : IsOpen old → WorksBy AreArrivals bytes [] old new
  pub shut : IsShut old → WorksBy AreArrivals [] [] old new
  pub caught_up : late ≡ false → IsOpen new → IsCaughtUp new
