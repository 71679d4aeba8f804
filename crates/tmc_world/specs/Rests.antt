-- how a world comes to rest: the moves that it makes, how it stops where memory is wanting, and what each move leaves to do
use Rattle.std.specs.Prelude.{◌≡◌, ◌⊎◌, ℕ, suc, ◌+◌, ◌-◌, ◌^◌, ◌<◌, true, false, Option, Some, None, List, [], ◌∷◌, length}
use Rattle.host_hub.specs.declared.outcome.End.{End}
use Rattle.host_hub.specs.Hand.{ended}
use Rattle.host_hub.specs.Order.{Setting}
use Rattle.host_hub.specs.Record.{next}
use Rattle.event_text.specs.declared.event.Event.{Event}
use Rattle.event_text.specs.declared.event.Event.TheVariants as event
use Rattle.tmc_law.specs.declared.dev_event.DevEvent.{DevEvent}
use Rattle.usbip_export.specs.Events.{all}
use Rattle.usbip_export.specs.Seen.{standing}
use Rattle.usbip_export.specs.Work.{weight}
use Rattle.tmc_world.specs.World.{Worldly, outbox}
use Rattle.tmc_world.specs.WorldSteps.{IsFirstOpen, IsOpenTo, Moves, moves}

-- ---- moves

-- steps of the instrument, as moves
abbrev pub steps_of : List DevEvent → List Event
steps_of [] = []
steps_of (does ∷ others) = event.Dev does ∷ steps_of others

-- bytes go up, and bytes go down
abbrev pub up_moves : List Event
up_moves = event.Up all ∷ []

abbrev pub down_moves : List Event
down_moves = event.Down all ∷ []

-- these moves were made, each the first that was enabled; nothing waited for memory before one
abbrev pub MovesBy : Setting → List Event → (old new : Worldly) → Type 0
MovesBy s [] old new = new ≡ old
MovesBy s (move ∷ more) old new =
    (old.link.late ≡ false) × IsFirstOpen s move moves old × (mid : Worldly) × Moves s move old mid × MovesBy s more mid new

-- ---- want of memory

-- what want of memory for a move leaves
abbrev pub Wanting : Type 1
Wanting = Event → (old new : Worldly) → Type 0

-- memory is wanting for the first of these moves that is enabled
abbrev pub WantsFirst : Wanting → Setting → List Event → (old new : Worldly) → Type 0
WantsFirst wants s [] old new = ⊥
WantsFirst wants s (first ∷ others) old new = wants first old new ⊎ ((IsOpenTo s first old → ⊥) × WantsFirst wants s others old new)

-- Memory is wanting between two moves: something waits for it, or it is wanting for the move that comes next.
abbrev pub WantsNext : Wanting → Setting → (old new : Worldly) → Type 0
WantsNext wants s old new =
    ((old.link.late ≡ true) × (new ≡ old)) ⊎ ((old.link.late ≡ false) × WantsFirst wants s moves old new)

-- some moves were made, each the first that was enabled, and then memory was wanting
pub record StopsBy (wants : Wanting) (s : Setting) (made : List Event) (old new : Worldly) : Type 0 where
  pub mid : Worldly
  pub moved : MovesBy s made old mid
  pub stops : WantsNext wants s mid new

-- ---- what is left to do

-- How much a hub may still do by itself: while it runs, it writes messages with the numbers of 32 bits that are left, and ends.
abbrev pub writes_left : Option End → (number : ℕ) → ℕ
writes_left None number = 2 ^ 32 - number + 1
writes_left (Some e) number = 0

pub record Left : Type 0 where
  -- the messages that the hub may still write, and its end
  pub writes : ℕ
  -- the bytes in its outbox
  pub unsent : ℕ
  -- the work of the instrument
  pub work : ℕ
  -- the bytes that were not taken from the node
  pub untaken : ℕ

abbrev pub left_of : Setting → Worldly → Left
left_of s world = record {
  writes = writes_left (ended world.past) (next s.first world.past);
  unsent = length (outbox s world);
  work = weight (standing world.link.node);
  untaken = length world.link.node.out;
}

-- less of the first of the four of which there is not as much as before
abbrev pub IsLess : (new old : Left) → Type 0
IsLess new old =
    (new.writes < old.writes) ⊎ ((new.writes ≡ old.writes) × ((new.unsent < old.unsent)
    ⊎ ((new.unsent ≡ old.unsent) × ((new.work < old.work) ⊎ ((new.work ≡ old.work) × (new.untaken < old.untaken))))))

-- moves without an end, each the first that was enabled; nothing waited for memory before one
abbrev pub GoesOn : Setting → (worlds : ℕ → Worldly) → Type 0
GoesOn s worlds =
    (n : ℕ) → ((worlds n).link.late ≡ false) × (move : Event) × IsFirstOpen s move moves (worlds n) × Moves s move (worlds n) (worlds (suc n))
