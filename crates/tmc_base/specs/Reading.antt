-- how a source was read, read by read
use Rattle.std.specs.Prelude.{ℕ, ◌<◌, ◌≤◌, List, [], ◌++◌, length}
use Rattle.tmc_base.specs.declared.source.ReadStep.{ReadStep}
use Rattle.tmc_base.specs.declared.source.ReadStep.TheVariants.{Got, End, Failed}

-- these bytes came by reads one behind the other, of which each gave the next of them, and at least one
pub data Gave {A : Type 0} (reads : A → ℕ → ReadStep → List ℕ → A → Type 0) (old : A) : List ℕ → A → Type 0 where
  none : Gave reads old [] old
  more : (bytes piece : List ℕ) (room : ℕ) (mid new : A) → Gave reads old bytes mid → 0 < length piece
      → reads mid room (Got (length piece)) piece new → Gave reads old (bytes ++ piece) new

-- what stands behind the reads that gave bytes: no read, one that found the end, or one that failed
pub data Last : Type 0 where
  NoRead : Last
  AtEnd : Last
  AtFault : Last

-- a source was read: each read but the last gave some of these bytes, and none stands behind one that gave none
abbrev pub ReadRun : {A : Type 0} → (A → ℕ → ReadStep → List ℕ → A → Type 0) → A → A → Last → List ℕ → Type 0
ReadRun reads old new NoRead bytes = Gave reads old bytes new
ReadRun {A} reads old new AtEnd bytes = (mid : A) × (room : ℕ) × Gave reads old bytes mid × reads mid room End [] new
ReadRun {A} reads old new AtFault bytes = (mid : A) × (room : ℕ) × Gave reads old bytes mid × reads mid room Failed [] new

-- some bytes were read so, and at most so many
abbrev pub ReadsAtMost : ℕ → (List ℕ → Type 0) → Type 0
ReadsAtMost most run = (bytes : List ℕ) × (length bytes ≤ most) × run bytes
