-- what a call of the program does, by its status
use Rattle.std.specs.Prelude.{◌≡◌, ◌⊎◌, ℕ, ◌≤◌, Bool, true, false, List, [], ◌∷◌, length, codes, Option}
use Rattle.tmc_base.specs.Faults.{Rose}
use Rattle.tmc_base.specs.Source.{GivesFirst, HasEnded}
use Rattle.tmc_base.specs.Sink.{PutsFront, put_after}
use Rattle.tmc_base.specs.Reading.{Last, NoRead, AtEnd, AtFault}
use Rattle.event_text.specs.declared.line_fault.LineWhat.{LineWhat}
use Rattle.event_text.specs.declared.event.Script.{Script}
use Rattle.event_text.specs.EventScript.{IsEventScript, IsRefusedEvent}
use Rattle.event_text.specs.Shown as showing
use Rattle.tmc_tool.specs.declared.status.Status.{Status}
use Rattle.tmc_tool.specs.declared.status.Status.TheVariants.{Printed, Usage, Refused, SourceFault, SinkFault, NoMemory}
use Rattle.tmc_tool.specs.declared.command.Command.{Command}
use Rattle.tmc_tool.specs.declared.command.Command.TheVariants.{Ask, Replay, Show}
use Rattle.tmc_tool.specs.Command.{Names, IsCommand}
use Rattle.tmc_tool.specs.Line.{IsQuestion, IsRefused, line_most}
use Rattle.tmc_tool.specs.Refusal.{refusal}
use Rattle.tmc_tool.specs.Script.{PassesLimit, IsBounded}
use Rattle.tmc_tool.specs.Told.{AskedOnce, Replayed}

-- the number that a status is to the shell
abbrev pub code_of : Status → ℕ
code_of Printed = 0
code_of Usage = 1
code_of Refused = 2
code_of SourceFault = 3
code_of SinkFault = 4
code_of NoMemory = 5

-- what is told of the outside: the bytes left in the source, those put into the sink, and the counts of faults
pub record Outside : Type 0 where
  pub left : Option (List ℕ)
  pub read_faults : ℕ
  pub put : Option (List ℕ)
  pub write_faults : ℕ

-- `reads` says by which reads the source went from before to after: what stands behind those that gave bytes, and these
-- bytes. `writes` says by which writes the sink went: whether all of a text went, and this text.

-- these bytes were read for `ask`: the first of the source, no more than so many, and all of them or enough to know
pub record ReadsLine (reads : Last → List ℕ → Type 0) (bytes : List ℕ) (before after : Outside) : Type 0 where
  pub first : GivesFirst bytes before.left after.left
  pub most : length bytes ≤ line_most
  pub enough : (HasEnded after.left × reads AtEnd bytes) ⊎ ((length bytes ≡ line_most) × reads NoRead bytes)
  pub counts : after.read_faults ≡ before.read_faults

-- these bytes were read: all of the source, by reads of which the last alone found the end
pub record ReadsAll (reads : Last → List ℕ → Type 0) (bytes : List ℕ) (before after : Outside) : Type 0 where
  pub first : GivesFirst bytes before.left after.left
  pub ended : HasEnded after.left
  pub run : reads AtEnd bytes
  pub counts : after.read_faults ≡ before.read_faults

-- these bytes were read for `replay` and for `show`: the first of the source, and all of them or, by the last read, more than a
-- script has
pub record ReadsScript (reads : Last → List ℕ → Type 0) (bytes : List ℕ) (before after : Outside) : Type 0 where
  pub first : GivesFirst bytes before.left after.left
  pub enough : (HasEnded after.left × reads AtEnd bytes) ⊎ (PassesLimit bytes × reads NoRead bytes)
  pub bounded : IsBounded bytes
  pub counts : after.read_faults ≡ before.read_faults

-- nothing was read: no read was made
pub record ReadsNothing (reads : Last → List ℕ → Type 0) (before after : Outside) : Type 0 where
  pub left : after.left ≡ before.left
  pub run : reads NoRead []
  pub counts : after.read_faults ≡ before.read_faults

-- no more was read than the command may read
abbrev pub MayRead : Command → List ℕ → Type 0
MayRead (Ask limit) bytes = length bytes ≤ line_most
MayRead Replay bytes = IsBounded bytes
MayRead (Show way) bytes = IsBounded bytes

-- the words are a command's, and it read no more than it may, by reads behind which this stands
abbrev pub ReadsSome : (reads : Last → List ℕ → Type 0) → List (List ℕ) → Last → Type 0
ReadsSome reads words last =
    (command : Command) × Names words command × (bytes : List ℕ) × MayRead command bytes × reads last bytes

-- nothing was put: no write was made
pub record PutsNothing (writes : Bool → List ℕ → Type 0) (before after : Outside) : Type 0 where
  pub put : after.put ≡ before.put
  pub run : writes true []
  pub counts : after.write_faults ≡ before.write_faults

-- this text was put whole, by writes that each offered all that was left of it
pub record Puts (writes : Bool → List ℕ → Type 0) (text : List ℕ) (before after : Outside) : Type 0 where
  pub put : after.put ≡ put_after text before.put
  pub run : writes true text
  pub counts : after.write_faults ≡ before.write_faults

-- this text is the report of asking these bytes: they are one line, and its message was asked
pub record Answers (limit : ℕ) (bytes text : List ℕ) : Type 0 where
  pub message : List ℕ
  pub question : IsQuestion bytes message
  pub asked : AskedOnce limit message text

-- this text is the report of the script that these bytes are: its events were applied, all of them and no others
pub record Replays (bytes text : List ℕ) : Type 0 where
  pub script : Script
  pub is : IsEventScript bytes script
  pub replayed : Replayed script text

-- the command makes this text of exactly these bytes
abbrev pub Makes : Command → (bytes text : List ℕ) → Type 0
Makes (Ask limit) bytes text = Answers limit bytes text
Makes Replay bytes text = Replays bytes text
Makes (Show way) bytes text = showing.ShownOf way bytes text

-- the command takes these bytes
abbrev pub Takes : Command → List ℕ → Type 0
Takes (Ask limit) bytes = (message : List ℕ) × IsQuestion bytes message
Takes Replay bytes = (script : Script) × IsEventScript bytes script
Takes (Show way) bytes = (text : List ℕ) × showing.ShownOf way bytes text

-- the command refuses these bytes: this line, counted from 1, for what is wrong with it
abbrev pub Refuses : Command → List ℕ → (line : ℕ) → LineWhat → Type 0
Refuses (Ask limit) bytes line what = IsRefused bytes line what
Refuses Replay bytes line what = IsRefusedEvent bytes line what
Refuses (Show way) bytes line what = showing.IsRefused way bytes line what

-- these bytes were read: the first of the source, and enough of them for the command to refuse them
abbrev pub ReadsEnough : (reads : Last → List ℕ → Type 0) → Command → List ℕ → Outside → Outside → Type 0
ReadsEnough reads (Ask limit) bytes before after = ReadsLine reads bytes before after
ReadsEnough reads Replay bytes before after = ReadsScript reads bytes before after
ReadsEnough reads (Show way) bytes before after = ReadsScript reads bytes before after

-- the text that is due with a status, by the words and by what was read
abbrev pub Due : (reads : Last → List ℕ → Type 0) → List (List ℕ) → Outside → Outside → Status → List ℕ → Type 0
Due reads words before after Printed text =
    (command : Command) × Names words command
    × (bytes : List ℕ) × ReadsAll reads bytes before after × Makes command bytes text
Due reads words before after Usage text = (IsCommand words → ⊥) × ReadsNothing reads before after × (text ≡ codes "usage\n")
Due reads words before after Refused text =
    (command : Command) × Names words command
    × (bytes : List ℕ) × (line : ℕ) × (what : LineWhat)
    × ReadsEnough reads command bytes before after × Refuses command bytes line what × (text ≡ refusal line what)
Due reads words before after SourceFault text = ⊥
Due reads words before after SinkFault text = ⊥
Due reads words before after NoMemory text = ⊥

-- some text is due with the status, and was put whole
abbrev pub IsWritten : (reads : Last → List ℕ → Type 0) → (writes : Bool → List ℕ → Type 0) → List (List ℕ) → Status → Outside → Outside → Type 0
IsWritten reads writes words status before after =
    (text : List ℕ) × Due reads words before after status text × Puts writes text before after

-- what each status means
abbrev pub Ends : (reads : Last → List ℕ → Type 0) → (writes : Bool → List ℕ → Type 0) → List (List ℕ) → Status → Outside → Outside → Type 0
Ends reads writes words Printed before after = IsWritten reads writes words Printed before after
Ends reads writes words Usage before after = IsWritten reads writes words Usage before after
Ends reads writes words Refused before after = IsWritten reads writes words Refused before after
Ends reads writes words SourceFault before after =
    ReadsSome reads words AtFault × Rose before.read_faults after.read_faults × PutsNothing writes before after
Ends reads writes words SinkFault before after =
    Rose before.write_faults after.write_faults
    × ((status : Status) × (text : List ℕ) × Due reads words before after status text
    × PutsFront text before.put after.put × writes false text)
Ends reads writes words NoMemory before after =
    (ReadsSome reads words NoRead ⊎ ReadsSome reads words AtEnd)
    × (after.read_faults ≡ before.read_faults) × PutsNothing writes before after

-- a text was written whole and the status is its own, or the sink failed and took a front of it
abbrev pub Writes : (writes : Bool → List ℕ → Type 0) → Status → List ℕ → Status → Option (List ℕ) → ℕ → Option (List ℕ) → ℕ → Type 0
Writes writes status text result old_put old_faults new_put new_faults =
    ((result ≡ status) × (new_put ≡ put_after text old_put) × (new_faults ≡ old_faults) × writes true text)
    ⊎ ((result ≡ SinkFault) × Rose old_faults new_faults × PutsFront text old_put new_put × writes false text)

-- memory was wanting, and nothing was written
abbrev pub WritesNone : (writes : Bool → List ℕ → Type 0) → Status → Option (List ℕ) → ℕ → Option (List ℕ) → ℕ → Type 0
WritesNone writes result old_put old_faults new_put new_faults =
    (result ≡ NoMemory) × (new_put ≡ old_put) × (new_faults ≡ old_faults) × writes true []

-- a text of this kind was written, or a front of it, or memory was wanting
abbrev pub Prints : (writes : Bool → List ℕ → Type 0) → (Is : List ℕ → Type 0) → Status → Option (List ℕ) → ℕ → Option (List ℕ) → ℕ → Type 0
Prints writes Is result old_put old_faults new_put new_faults =
    ((text : List ℕ) × Is text × Writes writes Printed text result old_put old_faults new_put new_faults)
    ⊎ WritesNone writes result old_put old_faults new_put new_faults

-- a refusal was written, or a front of it, or memory was wanting
abbrev pub PrintsRefusal : (writes : Bool → List ℕ → Type 0) → (line : ℕ) → LineWhat → Status → Option (List ℕ) → ℕ → Option (List ℕ) → ℕ → Type 0
PrintsRefusal writes line what result old_put old_faults new_put new_faults =
    Writes writes Refused (refusal line what) result old_put old_faults new_put new_faults
    ⊎ WritesNone writes result old_put old_faults new_put new_faults
