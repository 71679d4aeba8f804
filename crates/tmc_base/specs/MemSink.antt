-- a sink in memory: what was put, its room, and the calls that are to fail
use Rattle.std.specs.Prelude.{◌≡◌, ◌⊎◌, ℕ, ◌-◌, min, true, false, List, ◌++◌, length, take}
use Rattle.tmc_base.specs.declared.sink.WriteStep.{WriteStep}
use Rattle.tmc_base.specs.declared.sink.WriteStep.TheVariants.{Took, Failed}
use Rattle.tmc_base.specs.Faults.{raised}
use Rattle.tmc_base.specs.FailPlan.{Plan, after_call, next_fails}

pub record Held : Type 0 where
  pub put : List ℕ
  pub room : ℕ
  pub most : ℕ
  pub plan : Plan
  pub faults : ℕ

-- one write: it fails where it is to fail or no room is left, and else takes as much as goes into one piece
abbrev pub Writes : Held → List ℕ → WriteStep → Held → Type 0
Writes old piece (Took n) new =
    (next_fails old.plan ≡ false) × (n ≡ min (length piece) (min old.most old.room))
    × (new ≡ record old { put = old.put ++ take n piece; room = old.room - n; plan = after_call old.plan })
Writes old piece Failed new =
    ((next_fails old.plan ≡ true) ⊎ (old.room ≡ 0))
    × (new ≡ record old { plan = after_call old.plan; faults = raised old.faults })
