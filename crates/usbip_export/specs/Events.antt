-- what the instrument of a node does by itself
use Rattle.std.specs.Prelude.{◌≡◌, ◌++◌, ℕ, ◌≤◌, true, List, [], ◌∷◌}
use Rattle.tmc_law.specs.declared.dev_event.DevEvent.{DevEvent}
use Rattle.tmc_law.specs.declared.dev_event.DevEvent.TheVariants as event
use Rattle.tmc_law.specs.State.{State}
use Rattle.tmc_law.specs.Put.{Put}
use Rattle.tmc_law.specs.Step.{Move, Steps}
use Rattle.tmc_device.specs.Events.{Allows, NoneLawful, IsEnabled, count_of}
use Rattle.usbip_export.specs.Seen.{Seen, standing}
use Rattle.usbip_export.specs.TakenIn.{IsSpelled}

-- The instrument made one lawful step that the event allows, the one with the greatest count, and what it put out is
-- spelled behind what is pending.
pub record Drives (event : DevEvent) (old new : Seen) : Type 0 where
  pub move : Move
  pub puts : List Put
  pub answered : List ℕ
  pub allowed : Allows event move
  pub steps : Steps (standing old) move puts (standing new)
  pub greatest : (other : Move) (others : List Put) (t : State) → Allows event other → Steps (standing old) other others t
      → count_of other ≤ count_of move
  pub spelled : IsSpelled (old.puts ++ puts) answered new.puts
  pub out : new.out ≡ old.out ++ answered
  pub kept : new.kept ≡ old.kept
  pub imported : new.imported ≡ old.imported
  pub refused : new.refused ≡ old.refused

-- the event is not enabled: the instrument is not imported, or the law allows no such step
abbrev pub IsDeclined : DevEvent → Seen → Type 0
IsDeclined event seen = seen.imported ≡ true → NoneLawful event (standing seen)

-- it is
pub record IsDue (event : DevEvent) (seen : Seen) : Type 0 where
  pub imported : seen.imported ≡ true
  pub enabled : IsEnabled event (standing seen)

-- all that there is
abbrev pub all : ℕ
all = 4294967295

-- the six calm moves: answers, execution, packets out, a piece, packets in, and packets of notifications
abbrev pub calm_moves : List DevEvent
calm_moves = event.Answer ∷ event.Exec ∷ event.Take all ∷ event.Begin all ∷ event.Fill all ∷ event.Notify ∷ []

abbrev pub AreDeclined : List DevEvent → Seen → Type 0
AreDeclined [] seen = Unit {0}
AreDeclined (event ∷ events) seen = IsDeclined event seen × AreDeclined events seen

-- none of the calm moves is enabled
abbrev pub IsCalm : Seen → Type 0
IsCalm seen = AreDeclined calm_moves seen

-- these are calm moves
abbrev pub IsCalmMove : DevEvent → Type 0
IsCalmMove event.Answer = Unit {0}
IsCalmMove event.Exec = Unit {0}
IsCalmMove (event.Take most) = Unit {0}
IsCalmMove (event.Begin most) = Unit {0}
IsCalmMove (event.Fill most) = Unit {0}
IsCalmMove event.Notify = Unit {0}
IsCalmMove _ = ⊥

abbrev pub AreCalmMoves : List DevEvent → Type 0
AreCalmMoves [] = Unit {0}
AreCalmMoves (event ∷ events) = IsCalmMove event × AreCalmMoves events
