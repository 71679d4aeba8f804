-- what the calls of a net say of it
use Rattle.std.specs.Prelude.{◌≡◌, ℕ, ◌+◌, ◌-◌, Bool, true, List, [], ◌∷◌, ◌++◌, Option, option_map, Result, Ok, Err}
use Rattle.tmc_base.specs.Faults.{Rose}
use Rattle.tmc_live.specs.declared.net.NetFault.{NetFault}
use Rattle.tmc_live.specs.declared.net.NetFault.TheVariants.{Failed, Memory}

-- how a net stands
pub record Standing : Type 0 where
  -- whether it listens
  pub listens : Bool
  -- the links that it has given and not taken back
  pub given : ℕ
  -- how many calls failed
  pub faults : ℕ

-- a fault: the count of faults rises where the call failed, and all else stands
abbrev pub IsFault : NetFault → Standing → Standing → Type 0
IsFault Failed old new = Rose old.faults new.faults × (new ≡ record old { faults = new.faults })
IsFault Memory old new = new ≡ old

-- an answer that is a link: one more is given
abbrev pub Gives : {A : Type 0} → Result A NetFault → Standing → Standing → Type 0
Gives (Ok link) old new = new ≡ record old { given = old.given + 1 }
Gives (Err fault) old new = IsFault fault old new

-- an answer of listening: the net listens from now on, and nothing makes it stop
abbrev pub Listens : {A : Type 0} → Result A NetFault → Standing → Standing → Type 0
Listens (Ok done) old new = new ≡ record old { listens = true }
Listens (Err fault) old new = IsFault fault old new

-- one link less is given
abbrev pub TakesOne : Standing → Standing → Type 0
TakesOne old new = new ≡ record old { given = old.given - 1 }

-- the links that were taken back, where the net tells them, after this one
abbrev pub back_after : {A : Type 0} → A → Option (List A) → Option (List A)
back_after link back = option_map (λ before. before ++ link ∷ []) back
