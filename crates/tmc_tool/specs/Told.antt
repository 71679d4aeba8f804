-- what a report tells: a world behind the events of a run, and what holds in it
use Rattle.std.specs.Prelude.{◌≡◌, ℕ, false, List, [], ◌∷◌, map, Option, Some}
use Rattle.host_hub.specs.Behind.{HubParts}
use Rattle.host_hub.specs.Hand.{ended}
use Rattle.host_hub.specs.Undisturbed.{AllOwned, IsFaultless}
use Rattle.usbip_export.specs.Seen.{standing}
use Rattle.event_text.specs.declared.answer.EventAnswer.{EventAnswer}
use Rattle.event_text.specs.declared.answer.EventAnswer.TheVariants.{Ticket, Done}
use Rattle.event_text.specs.declared.event.Event.TheVariants.{Ask as ask, Rest as rest}
use Rattle.event_text.specs.declared.event.Script.{Script}
use Rattle.event_text.specs.EventScript.{MayBegin}
use Rattle.event_text.specs.Report.{IsReport}
use Rattle.tmc_world.specs.LoopLink.{Looped}
use Rattle.tmc_world.specs.World.{Worldly, begun, setting_of}
use Rattle.tmc_world.specs.WorldFacts.{WorldFacts}
use Rattle.tmc_world.specs.WorldSteps.{Answered, AreCalmEvents, GoThrough}

-- This text is the report of the world: behind what its events answered the book of the hub that it stands behind, whether this hub runs,
-- the log of the instrument, and the bytes that were sent and taken. What holds of each such world holds of it: the laws of the hub were
-- kept, what it shows is what its record says, its link tells a lawful run that fits the bytes, and where nothing disturbed that run
-- each ticket has what the log gave to its own message.
pub record Tells (first depth : ℕ) (world : Worldly) (answers : List (Option EventAnswer)) (text : List ℕ) : Type 0 where
  pub hub : HubParts Looped
  pub facts : WorldFacts (setting_of first depth) world hub
  pub report : IsReport answers (ended world.past) hub.core.book (standing world.link.node).log world.link.sent world.link.taken text

-- each ticket that is told has what the log gave to its own message, and what the instrument said did not end the hub
pub record Owns (world : Worldly) (hub : HubParts Looped) : Type 0 where
  pub owned : AllOwned hub.core.book.tickets (standing world.link.node).log
  pub faultless : IsFaultless hub.core.end

-- From power-on these events, one after another, answered this, and led to a world that the text tells. Where none of them is a line
-- `halt` or `unplug`, each ticket has what is its own. No answer of the instrument waits for memory: so all that it did is told.
pub record Reports (first depth : ℕ) (run : List Answered) (answers : List (Option EventAnswer)) (text : List ℕ) : Type 0 where
  pub begins : MayBegin first depth
  pub world : Worldly
  pub goes : GoThrough (setting_of first depth) begun run world
  pub tells : Tells first depth world answers text
  pub spelled : world.link.late ≡ false
  pub owns : AreCalmEvents run → Owns world tells.hub

-- the events of a script, each with what it answered
pub record Replayed (script : Script) (text : List ℕ) : Type 0 where
  pub run : List Answered
  pub events : map (λ one. one.event) run ≡ script.events
  pub reported : Reports script.first script.depth run (map (λ one. one.said) run) text

-- one ask of session 0, which is ticket 1, and then rest; the answers are not printed
abbrev pub asked_once : (limit : ℕ) → (message : List ℕ) → List Answered
asked_once limit message =
    record { event = ask 0 limit message; said = Some (Ticket 1) } ∷ record { event = rest; said = Some Done } ∷ []

abbrev pub AskedOnce : (limit : ℕ) → (message text : List ℕ) → Type 0
AskedOnce limit message text = Reports 1 1 (asked_once limit message) [] text
