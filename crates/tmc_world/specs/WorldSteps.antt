-- what each event does to a world: one step of it, or none where the event is not enabled
use Rattle.std.specs.Prelude.{◌≡◌, ◌≢◌, ◌⊎◌, ℕ, ◌+◌, ◌≤◌, Option, Some, None, List, [], ◌∷◌, ◌++◌, true, false}
use Rattle.tmc_base.specs.declared.link.PollStep.{PollStep}
use Rattle.tmc_base.specs.declared.link.PollStep.TheVariants as poll
use Rattle.tmc_base.specs.declared.link.SendStep.{SendStep}
use Rattle.tmc_base.specs.declared.link.SendStep.TheVariants as send
use Rattle.tmc_base.specs.declared.link.TendStep.TheVariants as tend
use Rattle.host_hub.specs.declared.kind.Kind.TheVariants as kind
use Rattle.host_hub.specs.declared.outcome.End.{End}
use Rattle.host_hub.specs.Book.{tickets}
use Rattle.host_hub.specs.Calls.{AddsAsk, AddsGivingUp}
use Rattle.host_hub.specs.Hand.{ended}
use Rattle.host_hub.specs.HubCalls.{SendsOnce, PollsOnce, said_by}
use Rattle.host_hub.specs.Law.{Kept}
use Rattle.host_hub.specs.Order.{Setting}
use Rattle.host_hub.specs.Record.{Asking, Past}
use Rattle.host_hub.specs.Refusals.{ask_fault}
use Rattle.host_hub.specs.Tied.{AddsTurn, AllTaken, AreSent, Tied}
use Rattle.event_text.specs.declared.answer.EventAnswer.{EventAnswer}
use Rattle.event_text.specs.declared.answer.EventAnswer.TheVariants as answer
use Rattle.event_text.specs.declared.event.Event.{Event}
use Rattle.event_text.specs.declared.event.Event.TheVariants as event
use Rattle.tmc_world.specs.declared.pace.Pace.{Pace}
use Rattle.tmc_world.specs.declared.pace.Pace.TheVariants.{Paced}
use Rattle.tmc_law.specs.declared.dev_event.DevEvent.{DevEvent}
use Rattle.tmc_law.specs.declared.dev_event.DevEvent.TheVariants as device
use Rattle.tmc_law.specs.Put.{Put}
use Rattle.tmc_law.specs.State.{State}
use Rattle.tmc_law.specs.Step.{Move}
use Rattle.tmc_law.specs.Step.{Steps as LawSteps}
use Rattle.tmc_device.specs.Events.{Allows}
use Rattle.usbip_export.specs.Events.{all}
use Rattle.usbip_export.specs.Seen.{standing}
use Rattle.tmc_world.specs.Calm.{IsCalmEvent}
use Rattle.tmc_world.specs.Crossing.{IsShut}
use Rattle.tmc_world.specs.LoopLink.{Looped, ActGoes, Acts, Polls, Sends}
use Rattle.tmc_world.specs.World.{Worldly, outbox, shut}

-- ---- the hub's own calls

-- the record goes on by what a call adds, and its laws are kept
pub record GoesOn (s : Setting) (Adds : Past → Type 0) (old new : Worldly) : Type 0 where
  pub more : Past
  pub adds : Adds more
  pub kept : Kept s (more ++ old.past)
  pub is : new ≡ record old { past = more ++ old.past }

-- a ticket has the next number, or is refused by the first cause that holds
abbrev pub Asks : Setting → Asking → (old : Worldly) → EventAnswer → (new : Worldly) → Type 0
Asks s asking old (answer.Ticket ticket) new =
    (ask_fault s old.past asking ≡ None) × (ticket ≡ tickets old.past + 1) × GoesOn s (AddsAsk old.past asking) old new
Asks s asking old (answer.Refused why) new = (ask_fault s old.past asking ≡ Some why) × (new ≡ old)
Asks s asking old _ new = ⊥

-- a hub that has ended stays as it is
abbrev pub GivesUp : Setting → Option End → (old new : Worldly) → Type 0
GivesUp s None old new = GoesOn s AddsGivingUp old new
GivesUp s (Some e) old new = new ≡ old

abbrev pub asking_of_ask : (session limit : ℕ) → (message : List ℕ) → Asking
asking_of_ask session limit message = record { session = session; kind = kind.Ask; limit = limit; message = message }

abbrev pub asking_of_tell : (session : ℕ) → (message : List ℕ) → Asking
asking_of_tell session message = record { session = session; kind = kind.Tell; limit = 0; message = message }

-- ---- a turn

-- One turn of a hub that runs, over a link with these rooms: the outbox goes by one send, where it is not empty, and then the link
-- goes by one poll, unless the send failed. The record goes on by what a turn adds, and its laws are kept. Behind it the link has no room.
pub record TurnsBy (s : Setting) (rooms : Pace) (sent : Option SendStep) (came : Option PollStep) (old new : Worldly) : Type 0 where
  pub bytes : List ℕ
  pub between : Looped
  pub later : Looped
  pub sends : SendsOnce Sends (outbox s old) sent (record old.link { pace = rooms }) between
  pub polls : PollsOnce Polls sent came bytes between later
  pub link : new.link ≡ record later { pace = shut }
  pub more : Past
  pub past : new.past ≡ more ++ old.past
  pub kept : Kept s new.past
  -- so many messages were sent whole before the poll, and this of what came is not a whole answer
  pub count : ℕ
  pub rest : List ℕ
  pub adds : AddsTurn s old.past count rest (said_by sent came) more
  pub tied : Tied s new.past new.link.sent (outbox s new) new.link.taken rest
  pub whole : AreSent s new.past new.link.sent count
  pub taken : AllTaken s new.past count rest

-- one for which no memory was wanting
pub record Turns (s : Setting) (rooms : Pace) (old new : Worldly) : Type 0 where
  pub sent : Option SendStep
  pub came : Option PollStep
  pub turns : TurnsBy s rooms sent came old new
  pub sent_well : sent ≢ Some send.Memory
  pub came_well : came ≢ Some poll.Memory

-- bytes may go up: the hub runs, and its outbox is not empty
pub record MayGoUp (s : Setting) (most : ℕ) (world : Worldly) : Type 0 where
  pub number : 1 ≤ most
  pub runs : ended world.past ≡ None
  pub some : outbox s world ≢ []

-- bytes, or the closing, may go down: the hub runs, and the node has bytes or is closed
pub record MayGoDown (most : ℕ) (world : Worldly) : Type 0 where
  pub number : 1 ≤ most
  pub runs : ended world.past ≡ None
  pub some : (world.link.node.out ≢ []) ⊎ IsShut world.link.node

-- a turn with room in one direction alone
abbrev pub GoesUp : Setting → (most : ℕ) → (old new : Worldly) → Type 0
GoesUp s most old new = MayGoUp s most old × Turns s (Paced (record { send = most; poll = 0 })) old new

abbrev pub GoesDown : Setting → (most : ℕ) → (old new : Worldly) → Type 0
GoesDown s most old new = MayGoDown most old × Turns s (Paced (record { send = 0; poll = most })) old new

-- ---- until nothing is left to do

abbrev pub moves : List Event
moves =
    event.Dev device.Answer ∷ event.Dev device.Exec ∷ event.Dev (device.Take all) ∷ event.Dev (device.Begin all) ∷ event.Dev (device.Fill all)
    ∷ event.Dev device.Notify ∷ event.Up all ∷ event.Down all ∷ []

-- the law allows such a step of the instrument
pub record IsLawfulNow (does : DevEvent) (state : State) : Type 0 where
  pub move : Move
  pub puts : List Put
  pub next : State
  pub allowed : Allows does move
  pub steps : LawSteps state move puts next

-- a move is enabled
abbrev pub IsOpenTo : Setting → Event → Worldly → Type 0
IsOpenTo s (event.Up most) world = MayGoUp s most world
IsOpenTo s (event.Down most) world = MayGoDown most world
IsOpenTo s (event.Dev does) world = IsLawfulNow does (standing world.link.node)
IsOpenTo s _ world = ⊥

-- it does what it does
abbrev pub Moves : Setting → Event → (old new : Worldly) → Type 0
Moves s (event.Up most) old new = GoesUp s most old new
Moves s (event.Down most) old new = GoesDown s most old new
Moves s (event.Dev does) old new = (new.past ≡ old.past) × Acts does old.link new.link
Moves s _ old new = ⊥

-- of some moves this is the first that is enabled
abbrev pub IsFirstOpen : Setting → Event → List Event → Worldly → Type 0
IsFirstOpen s move [] world = ⊥
IsFirstOpen s move (first ∷ others) world =
    ((move ≡ first) × IsOpenTo s first world) ⊎ ((IsOpenTo s first world → ⊥) × IsFirstOpen s move others world)

abbrev pub NoneOpen : Setting → List Event → Worldly → Type 0
NoneOpen s [] world = Unit {0}
NoneOpen s (first ∷ others) world = (IsOpenTo s first world → ⊥) × NoneOpen s others world

-- These moves were made, each the first that was enabled, and then none was. Nothing waits for memory in between.
abbrev pub RestsBy : Setting → List Event → (old new : Worldly) → Type 0
RestsBy s [] old new = (old.link.late ≡ false) × NoneOpen s moves old × (new ≡ old)
RestsBy s (move ∷ more) old new =
    (old.link.late ≡ false) × IsFirstOpen s move moves old × (mid : Worldly) × Moves s move old mid × RestsBy s more mid new

-- ---- one event

-- One step of a world, by an event that is enabled. A step of the instrument is the one lawful step that its line names, with the
-- greatest count that its number allows; what waits for memory in its node is taken in and spelled before.
abbrev pub Steps : Setting → Event → (old : Worldly) → EventAnswer → (new : Worldly) → Type 0
Steps s (event.Ask session limit message) old said new = Asks s (asking_of_ask session limit message) old said new
Steps s (event.Tell session message) old said new = Asks s (asking_of_tell session message) old said new
Steps s event.GiveUp old answer.Done new = GivesUp s (ended old.past) old new
Steps s (event.Up most) old answer.Done new = GoesUp s most old new
Steps s (event.Down most) old answer.Done new = GoesDown s most old new
Steps s (event.Dev does) old answer.Done new = (new.past ≡ old.past) × ActGoes does old.link tend.Did new.link
Steps s event.FailSend old answer.Done new = new ≡ record old { link = record old.link { send_fails = true } }
Steps s event.FailPoll old answer.Done new = new ≡ record old { link = record old.link { poll_fails = true } }
Steps s event.Rest old answer.Done new = (made : List Event) × RestsBy s made old new
Steps s _ old said new = ⊥

-- The event is not enabled. Nothing has changed, but that what waits for memory in the node may be taken in and spelled.
abbrev pub IsClosedTo : Setting → Event → (old new : Worldly) → Type 0
IsClosedTo s (event.Up most) old new = (MayGoUp s most old → ⊥) × (new ≡ old)
IsClosedTo s (event.Down most) old new = (MayGoDown most old → ⊥) × (new ≡ old)
IsClosedTo s (event.Dev does) old new = (new.past ≡ old.past) × ActGoes does old.link tend.NotNow new.link
IsClosedTo s _ old new = ⊥

-- ---- runs

-- an event and what it answered; nothing where it was not enabled
pub record Answered : Type 0 where
  pub event : Event
  pub said : Option EventAnswer

abbrev pub Goes : Setting → Event → (old : Worldly) → Option EventAnswer → (new : Worldly) → Type 0
Goes s does old None new = IsClosedTo s does old new
Goes s does old (Some said) new = Steps s does old said new

-- the events of a script, one behind another
abbrev pub GoThrough : Setting → (old : Worldly) → List Answered → (new : Worldly) → Type 0
GoThrough s old [] new = new ≡ old
GoThrough s old (one ∷ more) new = (mid : Worldly) × Goes s one.event old one.said mid × GoThrough s mid more new

-- none of them is a line `halt` or `unplug`
abbrev pub AreCalmEvents : List Answered → Type 0
AreCalmEvents [] = Unit {0}
AreCalmEvents (one ∷ more) = IsCalmEvent one.event × AreCalmEvents more
