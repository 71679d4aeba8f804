-- what a write says of a sink
use Rattle.std.specs.Prelude.{◌≡◌, ℕ, ◌<◌, ◌≤◌, List, ◌++◌, Option, option_map}
use Rattle.tmc_base.specs.declared.sink.WriteStep.{WriteStep}
use Rattle.tmc_base.specs.declared.sink.WriteStep.TheVariants.{Took, Failed}
use Rattle.tmc_base.specs.Faults.{Rose}

-- how many bytes went
abbrev pub took_count : WriteStep → ℕ
took_count (Took n) = n
took_count Failed = 0

-- bytes went only from the piece, and at least one where the write says so
abbrev pub IsWithin : WriteStep → ℕ → Type 0
IsWithin (Took n) offered = (0 < n) × (n ≤ offered)
IsWithin Failed offered = Unit {0}

-- what was put, where the sink tells it, after these bytes
abbrev pub put_after : List ℕ → Option (List ℕ) → Option (List ℕ)
put_after bytes put = option_map (λ before. before ++ bytes) put

-- the count of faults rises at a failed write, and stands at every other
abbrev pub WriteCounts : WriteStep → ℕ → ℕ → Type 0
WriteCounts (Took n) before now = now ≡ before
WriteCounts Failed before now = Rose before now

-- the sink was given a front of these bytes, where it tells it
pub record PutsFront (bytes : List ℕ) (old new : Option (List ℕ)) : Type 0 where
  pub front : List ℕ
  pub rest : List ℕ
  pub cut : bytes ≡ front ++ rest
  pub put : new ≡ put_after front old
