-- what an instrument does by itself until it has nothing to do, act by act
use Rattle.std.specs.Prelude.{◌≡◌, ◌⊎◌, ℕ, List, [], ◌∷◌}
use Rattle.tmc_law.specs.declared.dev_event.DevEvent.{DevEvent}
use Rattle.usbip_export.specs.Seen.{Seen, standing}
use Rattle.usbip_export.specs.Events.{IsDue, IsDeclined, IsCalm, calm_moves}
use Rattle.usbip_export.specs.Work.{weight}
use Rattle.tmc_world.specs.LoopLink.{Looped, Acts}

-- of some events this is the first that is enabled
abbrev pub IsFirstDue : DevEvent → List DevEvent → Seen → Type 0
IsFirstDue event [] node = ⊥
IsFirstDue event (first ∷ others) node = ((event ≡ first) × IsDue first node) ⊎ (IsDeclined first node × IsFirstDue event others node)

-- these calm moves were made, each the first one that was enabled, and then none was
abbrev pub Calms : List DevEvent → Looped → Looped → Type 0
Calms [] old new = (new ≡ old) × IsCalm old.node
Calms (event ∷ events) old new = (mid : Looped) × IsFirstDue event calm_moves old.node × Acts event old mid × Calms events mid new

-- what is left for it to do, of which each of them leaves less
abbrev pub left : Looped → ℕ
left link = weight (standing link.node)
