-- what a read says of a source
use Rattle.std.specs.Prelude.{◌≡◌, ℕ, ◌<◌, ◌≤◌, List, [], ◌++◌, take, Option, Some, None}
use Rattle.tmc_base.specs.declared.source.ReadStep.{ReadStep}
use Rattle.tmc_base.specs.declared.source.ReadStep.TheVariants.{Got, End, Failed}
use Rattle.tmc_base.specs.Faults.{Rose}

-- how many bytes came
abbrev pub got_count : ReadStep → ℕ
got_count (Got n) = n
got_count End = 0
got_count Failed = 0

-- bytes came only into the buffer, and at least one where the read says so
abbrev pub IsWithin : ReadStep → ℕ → Type 0
IsWithin (Got n) room = (0 < n) × (n ≤ room)
IsWithin End room = Unit {0}
IsWithin Failed room = Unit {0}

-- what is left, where the source tells it: these bytes came first, and nothing but the read took any
abbrev pub GivesFirst : List ℕ → Option (List ℕ) → Option (List ℕ) → Type 0
GivesFirst bytes None new = new ≡ None
GivesFirst bytes (Some left) new = (rest : List ℕ) × (left ≡ bytes ++ rest) × (new ≡ Some rest)

-- nothing is left, where the source tells it
abbrev pub HasEnded : Option (List ℕ) → Type 0
HasEnded None = Unit {0}
HasEnded (Some left) = left ≡ []

-- a read gives the first bytes that are left, and says that it is at the end only where none is
abbrev pub ReadTells : ReadStep → List ℕ → Option (List ℕ) → Option (List ℕ) → Type 0
ReadTells (Got n) buf old new = GivesFirst (take n buf) old new
ReadTells End buf old new = HasEnded old × (new ≡ old)
ReadTells Failed buf old new = new ≡ old

-- the count of faults rises at a failed read, and stands at every other
abbrev pub ReadCounts : ReadStep → ℕ → ℕ → Type 0
ReadCounts (Got n) before now = now ≡ before
ReadCounts End before now = now ≡ before
ReadCounts Failed before now = Rose before now
