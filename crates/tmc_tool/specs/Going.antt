-- events that were applied to a world, and what each of them answered
use Rattle.std.specs.Prelude.{◌≡◌, ℕ, List, map, Option, Some, None}
use Rattle.host_hub.specs.Behind.{HubParts}
use Rattle.event_text.specs.declared.answer.EventAnswer.{EventAnswer}
use Rattle.event_text.specs.declared.event.Event.{Event}
use Rattle.event_text.specs.declared.event.Event.TheVariants.{Ask as ask}
use Rattle.tmc_world.specs.declared.applied.Applied.{Applied}
use Rattle.tmc_world.specs.declared.applied.Applied.TheVariants.{Answer, NotEnabled}
use Rattle.tmc_world.specs.LoopLink.{Looped}
use Rattle.tmc_world.specs.World.{Worldly, IsBehind, setting_of}
use Rattle.tmc_world.specs.WorldEvents.{LeadsTo}
use Rattle.tmc_world.specs.WorldSteps.{Answered, GoThrough}

-- what became of an event for which memory was not wanting, by what it answered
abbrev pub applied_as : Option EventAnswer → Applied
applied_as (Some said) = Answer said
applied_as None = NotEnabled

-- these events led the world, one after another, to one behind this hub, and answered this
pub record Went (first depth : ℕ) (old : Worldly) (events : List Event) (answers : List (Option EventAnswer)) (hub : HubParts Looped) : Type 0 where
  pub run : List Answered
  pub done : map (λ one. one.event) run ≡ events
  pub said : map (λ one. one.said) run ≡ answers
  pub new : Worldly
  pub goes : GoThrough (setting_of first depth) old run new
  pub behind : IsBehind first depth new hub

-- this run led the world to one behind this hub
pub record LedBy (first depth : ℕ) (old : Worldly) (run : List Answered) (hub : HubParts Looped) : Type 0 where
  pub new : Worldly
  pub goes : GoThrough (setting_of first depth) old run new
  pub behind : IsBehind first depth new hub

-- an ask of session 0 led every world behind the one hub to one behind the other, and answered something
pub record HasAsked (limit : ℕ) (message : List ℕ) (old new : HubParts Looped) : Type 0 where
  pub said : Option EventAnswer
  pub leads : (first depth : ℕ) (world : Worldly) → IsBehind first depth world old → LeadsTo first depth (ask 0 limit message) world (applied_as said) new
