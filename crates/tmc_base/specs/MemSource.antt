-- a source in memory: what is left, and the calls that are to fail
use Rattle.std.specs.Prelude.{◌≡◌, ℕ, min, true, false, List, [], length, take, drop}
use Rattle.tmc_base.specs.declared.source.ReadStep.{ReadStep}
use Rattle.tmc_base.specs.declared.source.ReadStep.TheVariants.{Got, End, Failed}
use Rattle.tmc_base.specs.Faults.{raised}
use Rattle.tmc_base.specs.FailPlan.{Plan, after_call, next_fails}

pub record Held : Type 0 where
  pub left : List ℕ
  pub most : ℕ
  pub plan : Plan
  pub faults : ℕ

-- one read: it fails where it is to fail, and else gives as many of the first bytes as go into one piece
abbrev pub Reads : Held → ℕ → ReadStep → List ℕ → Held → Type 0
Reads old room (Got n) bytes new =
    (next_fails old.plan ≡ false) × (n ≡ min room (min old.most (length old.left))) × (bytes ≡ take n old.left)
    × (new ≡ record old { left = drop n old.left; plan = after_call old.plan })
Reads old room End bytes new =
    (next_fails old.plan ≡ false) × (old.left ≡ []) × (bytes ≡ []) × (new ≡ record old { plan = after_call old.plan })
Reads old room Failed bytes new =
    (next_fails old.plan ≡ true) × (bytes ≡ []) × (new ≡ record old { plan = after_call old.plan; faults = raised old.faults })
