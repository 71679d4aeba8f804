-- a net in memory: the links that it is still to give, those that it took back, and the calls that are to fail
use Rattle.std.specs.Prelude.{◌≡◌, ◌⊎◌, ℕ, ◌+◌, ◌-◌, Bool, true, false, List, [], ◌∷◌, ◌++◌, Result, Ok, Err}
use Rattle.tmc_base.specs.Faults.{raised}
use Rattle.tmc_base.specs.FailPlan.{Plan, after_call, next_fails}
use Rattle.tmc_base.specs.MemLink.{Linked}
use Rattle.tmc_live.specs.declared.net.NetFault.{NetFault}
use Rattle.tmc_live.specs.declared.net.NetFault.TheVariants.{Failed, Memory}
use Rattle.tmc_live.specs.Net.{Standing}

pub record Held : Type 0 where
  pub links : List Linked
  pub back : List Linked
  pub listens : Bool
  pub given : ℕ
  pub plan : Plan
  pub faults : ℕ

-- what every net tells
abbrev pub standing_of : Held → Standing
standing_of net = record { listens = net.listens; given = net.given; faults = net.faults }

-- a dial or an accept: it fails where it is to fail or no link is left, and else gives the next link
abbrev pub GivesNext : Held → Result Linked NetFault → Held → Type 0
GivesNext old (Ok link) new =
    (next_fails old.plan ≡ false) × (old.links ≡ link ∷ new.links)
    × (new ≡ record old { links = new.links; given = old.given + 1; plan = after_call old.plan })
GivesNext old (Err Failed) new =
    ((next_fails old.plan ≡ true) ⊎ (old.links ≡ []))
    × (new ≡ record old { plan = after_call old.plan; faults = raised old.faults })
GivesNext old (Err Memory) new = ⊥

-- a listening: it fails only where it is to fail
abbrev pub Opens : {A : Type 0} → Held → Result A NetFault → Held → Type 0
Opens old (Ok done) new = (next_fails old.plan ≡ false) × (new ≡ record old { listens = true; plan = after_call old.plan })
Opens old (Err Failed) new =
    (next_fails old.plan ≡ true) × (new ≡ record old { plan = after_call old.plan; faults = raised old.faults })
Opens old (Err Memory) new = ⊥

-- a link comes back
abbrev pub Takes : Held → Linked → Held → Type 0
Takes old link new = new ≡ record old { back = old.back ++ link ∷ []; given = old.given - 1 }
