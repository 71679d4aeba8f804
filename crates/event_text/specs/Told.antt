-- what a text may tell: values as their types hold them
use Rattle.std.specs.Prelude.{ℕ, ⊤, ◌<◌, ◌^◌, ℤ, pos, negsuc, Option, Some, None, IfSome, List, [], ◌∷◌, length}
use Rattle.std.specs.List.{AllByRecursion}
use Rattle.host_hub.specs.BookSeen.{Seen, BookSeen}
use Rattle.host_hub.specs.declared.refusals.AskFault.{AskFault}
use Rattle.host_hub.specs.declared.refusals.AskFault.TheVariants as refused
use Rattle.host_hub.specs.declared.refusals.ClearFault.{ClearFault}
use Rattle.host_hub.specs.declared.refusals.ClearFault.TheVariants as not_cleared
use Rattle.host_hub.specs.declared.book.BookEntry.{BookEntry}
use Rattle.host_hub.specs.declared.book.BookEntry.TheVariants as entry
use Rattle.host_hub.specs.declared.outcome.End.{End}
use Rattle.host_hub.specs.declared.outcome.End.TheVariants as ended
use Rattle.host_hub.specs.declared.outcome.Outcome.{Outcome}
use Rattle.host_hub.specs.declared.outcome.Outcome.TheVariants as outcome
use Rattle.instr_plain.specs.declared.log.LogEntry.{LogEntry}
use Rattle.instr_plain.specs.declared.log.LogEntry.TheVariants as logged
use Rattle.event_text.specs.declared.answer.EventAnswer.{EventAnswer}
use Rattle.event_text.specs.declared.answer.EventAnswer.TheVariants.{Ticket, Refused, NotCleared, Done}
use Rattle.event_text.specs.declared.event.Event.{Event}
use Rattle.event_text.specs.declared.event.Event.TheVariants as event

abbrev pub AreBytes : List ℕ → Type 0
AreBytes bytes = AllByRecursion (λ byte. byte < 2 ^ 8) bytes

-- bytes that may fill a buffer
pub record MayFill (bytes : List ℕ) : Type 0 where
  pub are : AreBytes bytes
  pub few : length bytes < 2 ^ 64

-- a signed number of 32 bits
abbrev pub IsStatus : ℤ → Type 0
IsStatus (pos n) = n < 2 ^ 31
IsStatus (negsuc n) = n < 2 ^ 31

abbrev pub MayBeLogged : LogEntry → Type 0
MayBeLogged (logged.Exec seq message) = (seq < 2 ^ 32) × AreBytes message
MayBeLogged (logged.Took n) = n < 2 ^ 32
MayBeLogged (logged.Trigger seq) = seq < 2 ^ 32
MayBeLogged (logged.Poll seq) = seq < 2 ^ 32
MayBeLogged entry = ⊤

abbrev pub MayBecome : Outcome → Type 0
MayBecome (outcome.Status byte) = byte < 2 ^ 8
MayBecome (outcome.Cleared session) = session < 2 ^ 8
MayBecome (outcome.Halted endpoint) = endpoint < 2 ^ 8
MayBecome (outcome.DeviceFault status) = IsStatus status
MayBecome (outcome.DeviceSays status) = status < 2 ^ 8
MayBecome (outcome.PeerFault f) = f.offset < 2 ^ 32
MayBecome what = ⊤

abbrev pub MayEnd : End → Type 0
MayEnd (ended.DeviceFault status) = IsStatus status
MayEnd (ended.DeviceSays status) = status < 2 ^ 8
MayEnd (ended.PeerFault f) = f.offset < 2 ^ 32
MayEnd what = ⊤

pub record MayBeSeen (ticket : Seen) : Type 0 where
  pub session : ticket.session < 2 ^ 8
  pub limit : ticket.limit < 2 ^ 32
  pub last : ticket.last < 2 ^ 32
  pub message : MayFill ticket.message
  pub bytes : MayFill ticket.bytes
  pub outcome : MayBecome ticket.outcome

abbrev pub MayBeEntered : BookEntry → Type 0
MayBeEntered (entry.Asked ticket) = ticket < 2 ^ 32
MayBeEntered (entry.Cancel ticket) = ticket < 2 ^ 32
MayBeEntered (entry.Clear session) = session < 2 ^ 8
MayBeEntered entry.GaveUp = ⊤
MayBeEntered (entry.Settled ticket) = ticket < 2 ^ 32

abbrev pub MayRefuse : AskFault → Type 0
MayRefuse (refused.Down end) = MayEnd end
MayRefuse fault = ⊤

abbrev pub MayNotClear : ClearFault → Type 0
MayNotClear (not_cleared.Down end) = MayEnd end
MayNotClear fault = ⊤

abbrev pub MayAnswer : Option EventAnswer → Type 0
MayAnswer (Some (Ticket ticket)) = ticket < 2 ^ 32
MayAnswer (Some (Refused fault)) = MayRefuse fault
MayAnswer (Some (NotCleared fault)) = MayNotClear fault
MayAnswer answer = ⊤

pub record MayBeBooked (end : Option End) (book : BookSeen) : Type 0 where
  pub ended : IfSome end MayEnd
  pub count : book.service.count < 2 ^ 64
  pub last : IfSome book.service.last (λ byte. byte < 2 ^ 8)
  pub tickets : AllByRecursion MayBeSeen book.tickets
  pub entries : AllByRecursion MayBeEntered book.entries

pub record MayBeReported (answers : List (Option EventAnswer)) (end : Option End) (book : BookSeen) (log : List LogEntry) (up down : List ℕ) : Type 0 where
  pub answered : AllByRecursion MayAnswer answers
  pub booked : MayBeBooked end book
  pub logged : AllByRecursion MayBeLogged log
  pub sent : MayFill up
  pub taken : MayFill down

-- what an event may answer: who asks gets a ticket or a refusal, and any other event happens; each may be not enabled
abbrev pub Suits : Event → Option EventAnswer → Type 0
Suits what None = ⊤
Suits (event.Ask session limit message) (Some (Ticket ticket)) = ⊤
Suits (event.Ask session limit message) (Some (Refused fault)) = ⊤
Suits (event.Ask session limit message) (Some answer) = ⊥
Suits (event.Tell session message) (Some (Ticket ticket)) = ⊤
Suits (event.Tell session message) (Some (Refused fault)) = ⊤
Suits (event.Tell session message) (Some answer) = ⊥
Suits what (Some Done) = ⊤
Suits what (Some answer) = ⊥

-- an answer each
abbrev pub SuitAll : List Event → List (Option EventAnswer) → Type 0
SuitAll [] [] = ⊤
SuitAll (what ∷ events) (answer ∷ answers) = Suits what answer × SuitAll events answers
SuitAll events answers = ⊥
