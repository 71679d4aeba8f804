-- the calls that bring a world to rest
use Rattle.std.specs.Prelude.{◌≡◌, ◌≢◌, ℕ, ◌+◌, ◌*◌, ◌<◌, ◌≤◌, Bool, true, false, Option, Some, None, Result, Ok, Err, List, [], ◌∷◌, length}
use Rattle.tmc_base.specs.declared.memory.Memory.{Memory}
use Rattle.host_hub.specs.declared.outcome.End.{End}
use Rattle.host_hub.specs.Behind.{HubParts}
use Rattle.tmc_law.specs.declared.dev_event.DevEvent.{DevEvent}
use Rattle.tmc_law.specs.State.{State}
use Rattle.usbip_export.specs.Seen.{standing}
use Rattle.usbip_export.specs.Events.{calm_moves}
use Rattle.event_text.specs.declared.answer.EventAnswer.TheVariants as answer
use Rattle.event_text.specs.declared.event.Event.{Event}
use Rattle.event_text.specs.declared.event.Event.TheVariants as event
use Rattle.tmc_world.specs.declared.applied.Applied.TheVariants as applied
use Rattle.tmc_world.specs.LoopLink.{Looped}
use Rattle.tmc_world.specs.World.{Worldly, IsBehind, setting_of}
use Rattle.tmc_world.specs.WorldSteps.{IsFirstOpen, IsLawfulNow, Moves, NoneOpen}
use Rattle.tmc_world.specs.WorldEvents.{LeadsTo, MoveWants}
use Rattle.tmc_world.specs.Rests.{MovesBy, WantsFirst, steps_of, writes_left}

-- ---- one of some moves

-- the first of them that is enabled was made
pub record MakesOne (first depth : ℕ) (events : List Event) (old : Worldly) (hub : HubParts Looped) : Type 0 where
  pub new : Worldly
  pub move : Event
  pub opened : IsFirstOpen (setting_of first depth) move events old
  pub goes : Moves (setting_of first depth) move old new
  pub behind : IsBehind first depth new hub

-- none of them is
pub record MakesNone (first depth : ℕ) (events : List Event) (old : Worldly) (hub : HubParts Looped) : Type 0 where
  pub none : NoneOpen (setting_of first depth) events old
  pub behind : IsBehind first depth old hub

-- memory is wanting for it
pub record WantsOne (first depth : ℕ) (events : List Event) (old : Worldly) (hub : HubParts Looped) : Type 0 where
  pub new : Worldly
  pub wants : WantsFirst (MoveWants (setting_of first depth)) (setting_of first depth) events old new
  pub behind : IsBehind first depth new hub

abbrev pub Tries : (first depth : ℕ) → List Event → Worldly → Result Bool Memory → HubParts Looped → Type 0
Tries first depth events old (Ok true) hub = MakesOne first depth events old hub
Tries first depth events old (Ok false) hub = MakesNone first depth events old hub
Tries first depth events old (Err memory) hub = WantsOne first depth events old hub

-- ---- some moves

pub record HasMade (first depth : ℕ) (old : Worldly) (hub : HubParts Looped) : Type 0 where
  pub new : Worldly
  pub made : List Event
  pub moved : MovesBy (setting_of first depth) made old new
  pub behind : IsBehind first depth new hub

-- steps of the instrument, behind which none is enabled
pub record HasCalmed (first depth : ℕ) (old : Worldly) (hub : HubParts Looped) : Type 0 where
  pub made : HasMade first depth old hub
  pub past : made.new.past ≡ old.past
  pub sent : made.new.link.sent ≡ old.link.sent
  pub unlate : made.new.link.late ≡ false
  pub none : NoneOpen (setting_of first depth) (steps_of calm_moves) made.new

-- some moves, and then none is enabled
abbrev pub HasRested : (first depth : ℕ) → Worldly → HubParts Looped → Type 0
HasRested first depth old hub = LeadsTo first depth event.Rest old (applied.Answer answer.Done) hub

-- some moves, and then memory was wanting
abbrev pub HasStopped : (first depth : ℕ) → Worldly → HubParts Looped → Type 0
HasStopped first depth old hub = LeadsTo first depth event.Rest old applied.Memory hub

-- bytes went down until some are to go up, or nothing is left to do
abbrev pub Drains : (first depth : ℕ) → Worldly → Result Bool Memory → HubParts Looped → Type 0
Drains first depth old (Ok true) hub = HasMade first depth old hub
Drains first depth old (Ok false) hub = HasRested first depth old hub
Drains first depth old (Err memory) hub = HasStopped first depth old hub

-- ---- what is left to do, as it shows at a hub

abbrev pub AreShut : List DevEvent → State → Type 0
AreShut [] s = Unit {0}
AreShut (does ∷ others) s = (IsLawfulNow does s → ⊥) × AreShut others s

-- neither the instrument nor the outbox has anything to do, and nothing waits for memory
pub record IsSpent (hub : HubParts Looped) : Type 0 where
  pub unlate : hub.link.late ≡ false
  pub sent : hub.core.end ≡ None → hub.core.urbs.outbox ≡ []
  pub calm : AreShut calm_moves (standing hub.link.node)

abbrev pub to_write : HubParts Looped → ℕ
to_write hub = writes_left hub.core.end hub.core.urbs.next

-- what it writes comes before what stands in its outbox, which has at most 4,096 bytes
abbrev pub to_send : HubParts Looped → ℕ
to_send hub = to_write hub * 4097 + length hub.core.urbs.outbox

-- bytes to be taken, or the end
abbrev pub ends_left : Option End → ℕ
ends_left None = 1
ends_left (Some e) = 0

abbrev pub to_take : HubParts Looped → ℕ
to_take hub = ends_left hub.core.end + length hub.link.node.out

-- bytes were taken, or the hub has ended; where something is to be sent, the hub wrote it
pub record HasTaken (old new : HubParts Looped) : Type 0 where
  pub unlate : new.link.late ≡ false
  pub stands : standing new.link.node ≡ standing old.link.node
  pub less : to_take new < to_take old
  pub no_more : to_write new ≤ to_write old
  pub wrote : new.core.urbs.outbox ≢ [] → to_write new < to_write old
