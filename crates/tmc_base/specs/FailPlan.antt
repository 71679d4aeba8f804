-- the calls of an object in memory, and those that are to fail
use Rattle.std.specs.Prelude.{ℕ, ◌+◌, ◌-◌, ◌^◌, min, Bool, ◌==◌, List}
use Rattle.std.specs.List.{list_any}

-- how many calls were made, and the numbers of those that fail, counted from 1
pub record Plan : Type 0 where
  pub fails : List ℕ
  pub calls : ℕ

-- the plan after one more call; the count of calls stays at the greatest `u32`
abbrev pub after_call : Plan → Plan
after_call plan = record plan { calls = min (plan.calls + 1) (2 ^ 32 - 1) }

-- whether the next call is to fail
abbrev pub next_fails : Plan → Bool
next_fails plan = list_any (λ fail. fail == (after_call plan).calls) plan.fails
