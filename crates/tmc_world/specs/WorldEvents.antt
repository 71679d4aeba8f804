-- what became of an event in a world, and of the hub behind which the world stands
use Rattle.std.specs.Prelude.{◌≡◌, ◌≢◌, ◌⊎◌, ℕ, false, List, [], Option, None, Result, Ok, Err}
use Rattle.tmc_base.specs.declared.link.PollStep.{PollStep}
use Rattle.tmc_base.specs.declared.link.SendStep.{SendStep}
use Rattle.tmc_base.specs.declared.link.TendStep.{TendStep}
use Rattle.tmc_base.specs.declared.link.TendStep.TheVariants as tend
use Rattle.host_hub.specs.declared.answers.Turn.{Turn}
use Rattle.host_hub.specs.declared.answers.Turn.TheVariants as turn
use Rattle.host_hub.specs.Hand.{ended}
use Rattle.host_hub.specs.HubCalls.{EndsTurn, IsAnswer}
use Rattle.tmc_world.specs.declared.pace.Pace.{Pace}
use Rattle.host_hub.specs.declared.refusals.AskFault.{AskFault}
use Rattle.host_hub.specs.declared.refusals.AskFault.TheVariants as fault
use Rattle.host_hub.specs.Behind.{HubParts}
use Rattle.host_hub.specs.Order.{Setting}
use Rattle.host_hub.specs.Refusals.{ask_fault}
use Rattle.event_text.specs.declared.answer.EventAnswer.TheVariants as answer
use Rattle.event_text.specs.declared.event.Event.{Event}
use Rattle.event_text.specs.declared.event.Event.TheVariants as event
use Rattle.tmc_world.specs.declared.applied.Applied.{Applied}
use Rattle.tmc_world.specs.declared.applied.Applied.TheVariants as applied
use Rattle.tmc_world.specs.declared.loop_act.LoopAct.TheVariants as act
use Rattle.tmc_law.specs.declared.dev_event.DevEvent.{DevEvent}
use Rattle.tmc_world.specs.Counting.{one_idle}
use Rattle.tmc_world.specs.LoopLink.{Looped, MayHaveMoved, Tends}
use Rattle.tmc_world.specs.World.{Worldly, IsBehind, outbox, setting_of, shut}
use Rattle.tmc_world.specs.Rests.{StopsBy}
use Rattle.tmc_world.specs.WorldSteps.{Steps, IsClosedTo, MayGoDown, MayGoUp, TurnsBy, asking_of_ask, asking_of_tell}

-- a ticket, or a refusal by its cause; a call that wants memory answers that alone
abbrev pub applied_ask : Result ℕ AskFault → Applied
applied_ask (Ok ticket) = applied.Answer (answer.Ticket ticket)
applied_ask (Err fault.Memory) = applied.Memory
applied_ask (Err why) = applied.Answer (answer.Refused why)

-- what a step of the instrument answers
abbrev pub applied_step : TendStep → Applied
applied_step tend.Did = applied.Answer answer.Done
applied_step tend.NotNow = applied.NotEnabled
applied_step tend.Memory = applied.Memory

-- what a turn answers that an event makes
abbrev pub applied_turn : Turn → Applied
applied_turn turn.Memory = applied.Memory
applied_turn said = applied.Answer answer.Done

-- ---- want of memory

-- bytes may go up, and nothing has changed
abbrev pub WantsUp : Setting → (most : ℕ) → (old new : Worldly) → Type 0
WantsUp s most old new = MayGoUp s most old × (new ≡ old)

-- Bytes may go down, and something waited for memory in the node. Nothing has changed but that the link counted that it did not send, where
-- the outbox is not empty, and that what waits may be taken in and spelled in part.
pub record WantsDown (s : Setting) (most : ℕ) (old new : Worldly) : Type 0 where
  pub due : MayGoDown most old
  pub past : new.past ≡ old.past
  pub idled : Looped
  pub idles : ((outbox s old ≡ []) × (idled ≡ old.link)) ⊎ ((outbox s old ≢ []) × (idled ≡ record old.link { counts = one_idle old.link.counts }))
  pub moved : MayHaveMoved shut old.link.late idled new.link

-- a step of the instrument: nothing has changed but that what waits for memory in its node may be taken in and spelled in part
abbrev pub WantsDev : DevEvent → (old new : Worldly) → Type 0
WantsDev does old new = (new.past ≡ old.past) × Tends old.link (act.Dev does) tend.Memory new.link

-- memory is wanting for a move
abbrev pub MoveWants : Setting → Event → (old new : Worldly) → Type 0
MoveWants s (event.Up most) old new = WantsUp s most old new
MoveWants s (event.Down most) old new = WantsDown s most old new
MoveWants s (event.Dev does) old new = WantsDev does old new
MoveWants s _ old new = ⊥

-- Memory is wanting for an event. A call that asks has no cause to refuse, and nothing has changed. Where nothing was to be left to do, some moves
-- were made, and then memory was wanting.
abbrev pub Wants : Setting → Event → (old new : Worldly) → Type 0
Wants s (event.Ask session limit message) old new = (ask_fault s old.past (asking_of_ask session limit message) ≡ None) × (new ≡ old)
Wants s (event.Tell session message) old new = (ask_fault s old.past (asking_of_tell session message) ≡ None) × (new ≡ old)
Wants s event.Rest old new = (made : List Event) × StopsBy (MoveWants s) s made old new
Wants s move old new = MoveWants s move old new

abbrev pub Applies : Setting → Event → (old : Worldly) → Applied → (new : Worldly) → Type 0
Applies s does old (applied.Answer said) new = Steps s does old said new
Applies s does old applied.NotEnabled new = IsClosedTo s does old new
Applies s does old applied.Memory new = Wants s does old new

-- the hub is led to behind a world to which the event led
pub record LeadsTo (first depth : ℕ) (does : Event) (old : Worldly) (became : Applied) (hub : HubParts Looped) : Type 0 where
  pub new : Worldly
  pub goes : Applies (setting_of first depth) does old became new
  pub behind : IsBehind first depth new hub

-- Where nothing waited for memory in the world, and an event other than a rest wants it, nothing has changed: the same world stands behind
-- the hub.
abbrev pub LeavesWorld : (first depth : ℕ) → Event → (old : Worldly) → Applied → (hub : HubParts Looped) → Type 0
LeavesWorld first depth does old became hub =
    does ≢ event.Rest → old.link.late ≡ false → became ≡ applied.Memory → IsBehind first depth old hub

-- One turn of a hub that runs led it to behind a world, and answered so. The hub has ended behind it by what the link answered, or
-- runs on. Where memory was wanting, nothing happened at the hub.
pub record TurnsTo (first depth : ℕ) (rooms : Pace) (old : Worldly) (said : Turn) (hub : HubParts Looped) : Type 0 where
  pub new : Worldly
  pub sent : Option SendStep
  pub came : Option PollStep
  pub turns : TurnsBy (setting_of first depth) rooms sent came old new
  pub answers : IsAnswer said (ended new.past) sent came
  pub ends : EndsTurn sent came (ended new.past)
  pub stays : said ≡ turn.Memory → new.past ≡ old.past
  pub behind : IsBehind first depth new hub
