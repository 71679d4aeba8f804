-- the calls of a hub with its link: what each adds to every record behind it, and which calls of the link it makes
use Rattle.std.specs.Prelude.{◌≡◌, ◌⊎◌, ◌+◌, ◌<◌, ℕ, Result, Ok, Err, Option, Some, None, List, [], ◌∷◌, ◌++◌, length, take}
use Rattle.tmc_base.specs.declared.link.PollStep.{PollStep}
use Rattle.tmc_base.specs.declared.link.PollStep.TheVariants as poll
use Rattle.tmc_base.specs.declared.link.SendStep.{SendStep}
use Rattle.tmc_base.specs.declared.link.SendStep.TheVariants as send
use Rattle.tmc_base.specs.Link.{Counts, PollCounts, SendCounts, got_count, took_count}
use Rattle.tmc_base.specs.Told.{Told}
use Rattle.host_hub.specs.declared.answers.Turn.{Turn}
use Rattle.host_hub.specs.declared.answers.Turn.TheVariants as turn
use Rattle.host_hub.specs.declared.outcome.End.{End}
use Rattle.host_hub.specs.declared.outcome.End.TheVariants as end
use Rattle.host_hub.specs.declared.refusals.AskFault.{AskFault}
use Rattle.host_hub.specs.Asks.{IsWhy}
use Rattle.host_hub.specs.declared.hub_core.HubCore.{HubCore}
use Rattle.host_hub.specs.Behind.{Account, Behind, HubParts, births_of}
use Rattle.host_hub.specs.BookSeen.{BookSeen, Seen, ticket_of}
use Rattle.host_hub.specs.Calls.{AddsAsk}
use Rattle.host_hub.specs.Order.{Setting}
use Rattle.host_hub.specs.Record.{Asking, Past}
use Rattle.host_hub.specs.Book.{tickets}
use Rattle.host_hub.specs.Refusals.{ask_fault}
use Rattle.host_hub.specs.Shown.{HasTurned}
use Rattle.host_hub.specs.Tied.{AddsTurn, Said, Went, Failed, Closed}

-- ---- calls that move no byte

-- the record goes on by what was added, and the bytes of the link stay
pub record LeadsOn (start now : Told) (counts : Counts) (s : Setting) (past : Past) (sent received : List ℕ) (Adds : Past → Type 0) (core : HubCore) : Type 0 where
  pub more : Past
  pub adds : Adds more
  pub account : Account start now counts s (more ++ past) sent received core

-- A ticket has the next number. It is refused by the first cause that holds, and for want of memory where none does.
abbrev pub AsksOf : (start now : Told) → Counts → Setting → Past → (sent received : List ℕ) → Asking → Result ℕ AskFault → HubCore → Type 0
AsksOf start now counts s past sent received asking (Ok ticket) core =
    (ask_fault s past asking ≡ None) × (ticket ≡ tickets past + 1) × LeadsOn start now counts s past sent received (AddsAsk past asking) core
AsksOf start now counts s past sent received asking (Err why) core =
    IsWhy (ask_fault s past asking) why × Account start now counts s past sent received core

-- the view of the ticket that was asked: the last one, behind those that there were
pub record AddsView (asking : Asking) (ticket : ℕ) (old new : BookSeen) : Type 0 where
  pub next : ticket ≡ length old.tickets + 1
  pub one : length new.tickets ≡ length old.tickets + 1
  pub seen : Seen
  pub found : ticket_of ticket new.tickets ≡ Some seen
  pub session : seen.session ≡ asking.session
  pub kind : seen.kind ≡ asking.kind
  pub limit : seen.limit ≡ asking.limit
  pub message : seen.message ≡ asking.message

-- so of a call that asks: where nothing was asked, no view was added
abbrev pub HasView : Asking → Result ℕ AskFault → (old new : BookSeen) → Type 0
HasView asking (Ok ticket) old new = AddsView asking ticket old new
HasView asking (Err why) old new = new ≡ old

-- ---- a turn

-- the outbox goes by one send, where it is not empty
abbrev pub SendsOnce : {A : Type 0} → (A → List ℕ → SendStep → A → Type 0) → (outbox : List ℕ) → Option SendStep → (old new : A) → Type 0
SendsOnce sends [] None old new = new ≡ old
SendsOnce sends (byte ∷ bytes) (Some step) old new = sends old (byte ∷ bytes) step new
SendsOnce sends outbox step old new = ⊥

-- and then the link goes by one poll of 8,192 bytes, unless the send failed, which ended the hub
abbrev pub PollsOnce : {A : Type 0} → (A → ℕ → PollStep → List ℕ → A → Type 0) → Option SendStep → Option PollStep → (came : List ℕ) → (old new : A) → Type 0
PollsOnce polls (Some send.Failed) None came old new = (new ≡ old) × (came ≡ [])
PollsOnce polls (Some send.Failed) (Some step) came old new = ⊥
PollsOnce polls sent None came old new = ⊥
PollsOnce polls sent (Some step) came old new = polls old 8192 step came new

-- by which its counts went
abbrev pub CountsSend : Option SendStep → Counts → Counts → Type 0
CountsSend None old new = new ≡ old
CountsSend (Some step) old new = SendCounts step old new

abbrev pub CountsPoll : Option PollStep → Counts → Counts → Type 0
CountsPoll None old new = new ≡ old
CountsPoll (Some step) old new = PollCounts step old new

-- how many bytes went, and came
abbrev pub sent_count : Option SendStep → ℕ
sent_count None = 0
sent_count (Some step) = took_count step

abbrev pub came_count : Option PollStep → ℕ
came_count None = 0
came_count (Some step) = got_count step

-- what the link said
abbrev pub said_of : PollStep → Said
said_of poll.Failed = Failed
said_of poll.Closed = Closed
said_of step = Went

abbrev pub said_by : Option SendStep → Option PollStep → Said
said_by (Some send.Failed) step = Failed
said_by sent None = Went
said_by sent (Some step) = said_of step

-- no byte went: there was none, or the link was idle
abbrev pub IsIdleSend : Option SendStep → Type 0
IsIdleSend None = Unit {0}
IsIdleSend (Some step) = step ≡ send.Idle

-- What a turn answers, where it found the hub running: the hub's end, or that bytes moved, or that the link was idle, or that it
-- wanted memory.
abbrev pub IsAnswer : Turn → Option End → Option SendStep → Option PollStep → Type 0
IsAnswer turn.Moved ended sent came = (ended ≡ None) × (0 < sent_count sent + came_count came)
IsAnswer turn.Idle ended sent came = (ended ≡ None) × IsIdleSend sent × (came ≡ Some poll.Idle)
IsAnswer (turn.Ended e) ended sent came = ended ≡ Some e
IsAnswer turn.Memory ended sent came =
    (ended ≡ None) × (sent_count sent + came_count came ≡ 0) × ((sent ≡ Some send.Memory) ⊎ (came ≡ Some poll.Memory))

-- how the hub is behind a send, and behind a poll
abbrev pub EndsSend : Option SendStep → Option End → Type 0
EndsSend (Some send.Failed) ended = ended ≡ Some end.LinkFault
EndsSend step ended = ended ≡ None

abbrev pub EndsPoll : PollStep → Option End → Type 0
EndsPoll poll.Failed ended = ended ≡ Some end.LinkFault
EndsPoll poll.Closed ended = ended ≡ Some end.Unplugged
EndsPoll (poll.Got n) ended = Unit {0}
EndsPoll step ended = ended ≡ None

-- and behind both, where the second was made
abbrev pub EndsTurn : Option SendStep → Option PollStep → Option End → Type 0
EndsTurn sent None ended = EndsSend sent ended
EndsTurn sent (Some step) ended = EndsSend sent None × EndsPoll step ended

-- a turn that says that no byte moved counts itself, and changes nothing else
abbrev pub KeepsTurn : Turn → (old new : HubCore) → Type 0
KeepsTurn turn.Idle old new = new ≡ record old { turned = new.turned }
KeepsTurn turn.Memory old new = new ≡ record old { turned = new.turned }
KeepsTurn answer old new = Unit {0}

-- The record goes on by what a turn adds, by the messages that were sent whole before it polled, and by what the link said; and
-- these bytes are sent and taken then.
pub record TurnsOn (start now : Told) (counts : Counts) (s : Setting) (past : Past) (sent received : List ℕ) (said : Said) (core : HubCore) : Type 0 where
  pub more : Past
  pub account : Account start now counts s (more ++ past) sent received core
  pub adds : AddsTurn s past account.count account.rest said more

-- one turn of a hub that runs
pub record Turns {A : Type 0} (tells : A → Told) (counts : A → Counts) (sends : A → List ℕ → SendStep → A → Type 0) (polls : A → ℕ → PollStep → List ℕ → A → Type 0) (answer : Turn) (old new : HubParts A) : Type 0 where
  pub sent : Option SendStep
  pub came : Option PollStep
  pub between : A
  pub bytes : List ℕ
  pub sends_once : SendsOnce sends old.core.urbs.outbox sent old.link between
  pub polls_once : PollsOnce polls sent came bytes between new.link
  pub send_counts : CountsSend sent (counts old.link) (counts between)
  pub poll_counts : CountsPoll came (counts between) (counts new.link)
  pub answers : IsAnswer answer new.core.end sent came
  pub ends : EndsTurn sent came new.core.end
  pub keeps : KeepsTurn answer old.core new.core
  pub births : HasTurned (births_of old.core) (births_of new.core)
  pub turns : (start : Told) (s : Setting) (past : Past) (before received : List ℕ) → Behind tells counts start s past before received old
      → TurnsOn start (tells new.link) (counts new.link) s past (before ++ take (sent_count sent) old.core.urbs.outbox) (received ++ bytes) (said_by sent came) new.core
