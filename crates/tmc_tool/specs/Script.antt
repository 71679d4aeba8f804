-- the limits of a script, and where its reading stands
use Rattle.std.specs.Prelude.{◌≡◌, ℕ, ◌<◌, ◌≤◌, List, ◌++◌, length}
use Rattle.std.specs.List.{AllByRecursion}
use Rattle.event_text.specs.Script.{lines_most, line_most}
use Rattle.event_text.specs.Words.{IsInside, lines_of}
use Rattle.tmc_tool.specs.declared.script.Place.{Place}
use Rattle.tmc_tool.specs.declared.script.Place.TheVariants.{Within, Past}

-- a line is no longer than the longest line of a script
abbrev pub IsShortLine : List ℕ → Type 0
IsShortLine line = length line ≤ line_most

-- these bytes are no more lines than a script has, and none of them is too long
abbrev pub KeepsLimits : List ℕ → Type 0
KeepsLimits bytes = (length (lines_of bytes) ≤ lines_most) × AllByRecursion IsShortLine (lines_of bytes)

-- these bytes are more lines than a script has, or one of their lines is too long
abbrev pub PassesLimit : List ℕ → Type 0
PassesLimit bytes = KeepsLimits bytes → ⊥

-- these bytes keep the limits but for the last of them, which one read gave
pub record IsBounded (bytes : List ℕ) : Type 0 where
  pub front : List ℕ
  pub last : List ℕ
  pub cut : bytes ≡ front ++ last
  pub keeps : KeepsLimits front
  pub few : length last ≤ 4096

-- in these bytes so many lines are ended, and so many bytes of the next have come, within the limits: whatever
-- follows, its lines stand behind the ended ones, and the first of them begins with those bytes
pub record IsAt (bytes : List ℕ) (ended begun : ℕ) : Type 0 where
  pub lines : List (List ℕ)
  pub line : List ℕ
  pub many : length lines ≡ ended
  pub size : length line ≡ begun
  pub inside : AllByRecursion IsInside line
  pub each : AllByRecursion IsShortLine lines
  pub short : begun ≤ line_most
  pub few : ended ≤ lines_most
  pub room : 0 < begun → ended < lines_most
  pub cut : (more : List ℕ) → lines_of (bytes ++ more) ≡ lines ++ lines_of (line ++ more)

-- the reading of these bytes stands here
abbrev pub Stands : List ℕ → Place → Type 0
Stands bytes (Within ended begun) = IsAt bytes ended begun
Stands bytes Past = PassesLimit bytes
