-- counts of faults, which stop at the greatest `u64`
use Rattle.std.specs.Prelude.{ℕ, ◌+◌, ◌-◌, ◌^◌, ◌≤◌, min}

-- one more, or the greatest `u64`
abbrev pub raised : ℕ → ℕ
raised count = min (count + 1) (2 ^ 64 - 1)

-- a count rose, or stands at the greatest `u64`; it did not fall
abbrev pub Rose : ℕ → ℕ → Type 0
Rose before now = (raised before ≤ now) × (before ≤ now)
