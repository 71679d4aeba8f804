-- the text of a report
use Rattle.std.specs.Prelude.{◌≡◌, ℕ, ◌+◌, ◌<◌, Option, Some, None, List, [], ◌∷◌, ◌++◌, length, codes}
use Rattle.std.specs.Fmt.{decimal}
use Rattle.hex.specs.Hex.{encode_lower}
use Rattle.host_hub.specs.BookSeen.{Seen, BookSeen}
use Rattle.host_hub.specs.declared.answers.CancelAnswer.{CancelAnswer}
use Rattle.host_hub.specs.declared.answers.CancelAnswer.TheVariants as cancel
use Rattle.host_hub.specs.declared.answers.DropAnswer.{DropAnswer}
use Rattle.host_hub.specs.declared.answers.DropAnswer.TheVariants as dropped
use Rattle.host_hub.specs.declared.book.BookEntry.{BookEntry}
use Rattle.host_hub.specs.declared.book.BookEntry.TheVariants as entry
use Rattle.host_hub.specs.declared.kind.Kind.{Kind}
use Rattle.host_hub.specs.declared.kind.Kind.TheVariants as kind
use Rattle.host_hub.specs.declared.outcome.End.{End}
use Rattle.host_hub.specs.declared.service.Service.{Service}
use Rattle.instr_plain.specs.declared.log.LogEntry.{LogEntry}
use Rattle.instr_plain.specs.declared.log.LogEntry.TheVariants as logged
use Rattle.instr_plain.specs.declared.remote.RemoteAct.{RemoteAct}
use Rattle.instr_plain.specs.declared.remote.RemoteAct.TheVariants.{On, Off, GoLocal, Lockout}
use Rattle.usbip_wire.specs.declared.urb.Dir.{Dir}
use Rattle.event_text.specs.declared.way.Way.{Way}
use Rattle.event_text.specs.declared.way.Way.TheVariants as ways
use Rattle.event_text.specs.Way.{way_of}
use Rattle.event_text.specs.declared.answer.EventAnswer.{EventAnswer}
use Rattle.event_text.specs.declared.answer.EventAnswer.TheVariants.{Ticket, Refused, CancelSaid, DropSaid, NotCleared, Done}
use Rattle.event_text.specs.Outcome.{outcome_words, end_words, refusal_words, clear_refusal_words}
use Rattle.event_text.specs.Words.{hex_word}

-- a line each, the first with this number
abbrev pub numbered : {A : Type 0} → (ℕ → A → List ℕ) → ℕ → List A → List ℕ
numbered line number [] = []
numbered line number (one ∷ others) = line number one ++ numbered line (number + 1) others

-- ---- what each event answered

abbrev pub cancel_word : CancelAnswer → List ℕ
cancel_word cancel.Begun = codes "begun"
cancel_word cancel.Settled = codes "settled"
cancel_word cancel.Unknown = codes "unknown"

abbrev pub drop_word : DropAnswer → List ℕ
drop_word dropped.Begun = codes "begun"
drop_word dropped.NothingLive = codes "nothing"

abbrev pub answer_words : Option EventAnswer → List ℕ
answer_words None = codes "not-enabled"
answer_words (Some (Ticket ticket)) = codes "ticket " ++ decimal ticket
answer_words (Some (Refused fault)) = codes "refused " ++ refusal_words fault
answer_words (Some (CancelSaid said)) = cancel_word said
answer_words (Some (DropSaid said)) = drop_word said
answer_words (Some (NotCleared fault)) = codes "refused " ++ clear_refusal_words fault
answer_words (Some Done) = codes "ok"

abbrev pub answer_line : ℕ → Option EventAnswer → List ℕ
answer_line number answer =
    codes "event " ++ (decimal number
    ++ (codes " " ++ (answer_words answer
    ++ codes "\n")))

-- ---- the hub's book

abbrev pub hub_line : Option End → List ℕ
hub_line None = codes "hub running\n"
hub_line (Some end) = codes "hub ended " ++ (end_words end ++ codes "\n")

-- the status byte of the last request for service
abbrev pub last_word : Option ℕ → List ℕ
last_word None = codes "-"
last_word (Some byte) = decimal byte

abbrev pub service_line : Service → List ℕ
service_line service =
    codes "service " ++ (decimal service.count
    ++ (codes " " ++ (last_word service.last
    ++ codes "\n")))

abbrev pub kind_word : Kind → List ℕ
kind_word kind.Ask = codes "ask"
kind_word kind.Tell = codes "tell"
kind_word kind.Trigger = codes "trigger"
kind_word kind.Status = codes "status"
kind_word (kind.Remote On) = codes "remote-on"
kind_word (kind.Remote Off) = codes "remote-off"
kind_word (kind.Remote GoLocal) = codes "remote-local"
kind_word (kind.Remote Lockout) = codes "remote-lockout"

-- a ticket: what was asked; behind `message` and `bytes` the number of bytes, and the bytes; and what became of it
abbrev pub ticket_line : ℕ → Seen → List ℕ
ticket_line number ticket =
    codes "ticket " ++ (decimal number
    ++ (codes " session " ++ (decimal ticket.session
    ++ (codes " " ++ (kind_word ticket.kind
    ++ (codes " limit " ++ (decimal ticket.limit
    ++ (codes " last " ++ (decimal ticket.last
    ++ (codes " message " ++ (decimal (length ticket.message)
    ++ (codes " " ++ (hex_word ticket.message
    ++ (codes " bytes " ++ (decimal (length ticket.bytes)
    ++ (codes " " ++ (hex_word ticket.bytes
    ++ (codes " outcome " ++ (outcome_words ticket.outcome
    ++ codes "\n")))))))))))))))))))

abbrev pub entry_line : ℕ → BookEntry → List ℕ
entry_line number (entry.Asked ticket) = codes "book " ++ (decimal number ++ (codes " asked " ++ (decimal ticket ++ codes "\n")))
entry_line number (entry.Cancel ticket) = codes "book " ++ (decimal number ++ (codes " cancel " ++ (decimal ticket ++ codes "\n")))
entry_line number (entry.Clear session) = codes "book " ++ (decimal number ++ (codes " clear " ++ (decimal session ++ codes "\n")))
entry_line number entry.GaveUp = codes "book " ++ (decimal number ++ codes " gaveup\n")
entry_line number (entry.Settled ticket) = codes "book " ++ (decimal number ++ (codes " settled " ++ (decimal ticket ++ codes "\n")))

abbrev pub book_text : Option End → BookSeen → List ℕ
book_text end book =
    hub_line end ++ (service_line book.service ++ (numbered ticket_line 1 book.tickets ++ numbered entry_line 1 book.entries))

-- ---- the instrument's log

abbrev pub act_word : RemoteAct → List ℕ
act_word On = codes "on"
act_word Off = codes "off"
act_word GoLocal = codes "local"
act_word Lockout = codes "lockout"

abbrev pub exec_line : ℕ → ℕ → List ℕ → List ℕ
exec_line number seq message =
    codes "log " ++ (decimal number
    ++ (codes " exec " ++ (decimal seq
    ++ (codes " " ++ (hex_word message
    ++ codes "\n")))))

abbrev pub log_line : ℕ → LogEntry → List ℕ
log_line number (logged.Exec seq message) = exec_line number seq message
log_line number (logged.Took n) = codes "log " ++ (decimal number ++ (codes " took " ++ (decimal n ++ codes "\n")))
log_line number logged.Interrupt = codes "log " ++ (decimal number ++ codes " interrupt\n")
log_line number logged.Bare = codes "log " ++ (decimal number ++ codes " bare\n")
log_line number (logged.Trigger seq) = codes "log " ++ (decimal number ++ (codes " trigger " ++ (decimal seq ++ codes "\n")))
log_line number (logged.Poll seq) = codes "log " ++ (decimal number ++ (codes " poll " ++ (decimal seq ++ codes "\n")))
log_line number logged.Clear = codes "log " ++ (decimal number ++ codes " clear\n")
log_line number (logged.Remote act) = codes "log " ++ (decimal number ++ (codes " remote " ++ (act_word act ++ codes "\n")))

-- ---- the bytes of a direction: up, which the hub sends, and down, which it takes

abbrev pub stream_word : Way → List ℕ
stream_word ways.Up = codes "up "
stream_word ways.Down = codes "down "

-- what each line of bytes begins with
abbrev pub stream_letter : Way → List ℕ
stream_letter ways.Up = codes "u "
stream_letter ways.Down = codes "d "

abbrev pub stream_line : List ℕ → List ℕ → List ℕ
stream_line letter piece = letter ++ (encode_lower piece ++ codes "\n")

-- the lines of bytes: 32 bytes each, and in the last one what is left
pub data StreamLines (letter : List ℕ) : List ℕ → List ℕ → Type 0 where
  none : StreamLines letter [] []
  rest : (piece : List ℕ) → 0 < length piece → length piece < 32 → StreamLines letter piece (stream_line letter piece)
  full : (piece bytes lines : List ℕ) → length piece ≡ 32 → StreamLines letter bytes lines
      → StreamLines letter (piece ++ bytes) (stream_line letter piece ++ lines)

-- how many bytes there are, and then their lines
pub record StreamText (way : Way) (bytes text : List ℕ) : Type 0 where
  pub lines : List ℕ
  pub are : StreamLines (stream_letter way) bytes lines
  pub written : text ≡ stream_word way ++ (decimal (length bytes) ++ (codes "\n" ++ lines))

abbrev pub IsStream : Dir → List ℕ → List ℕ → Type 0
IsStream dir bytes text = StreamText (way_of dir) bytes text

-- ---- a report

-- what the events answered, the book of the hub, the log of the instrument, and what was sent and taken
pub record IsReport (answers : List (Option EventAnswer)) (end : Option End) (book : BookSeen) (log : List LogEntry) (up down text : List ℕ) : Type 0 where
  pub up_text : List ℕ
  pub down_text : List ℕ
  pub sent : StreamText ways.Up up up_text
  pub taken : StreamText ways.Down down down_text
  pub written : text ≡ numbered answer_line 1 answers ++ (book_text end book ++ (numbered log_line 1 log ++ (up_text ++ down_text)))
