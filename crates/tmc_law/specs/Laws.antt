-- what the laws speak of
use Rattle.std.specs.Prelude.{◌≡◌, ◌≢◌, ℕ, ◌+◌, Bool, false, ◌==◌, ◌||◌, if◌then◌else◌, List, [], ◌∷◌, ◌++◌, None}
use Rattle.tmc_base.specs.declared.field.Field.{Field}
use Rattle.usbip_wire.specs.declared.submit.SubmitHead.{SubmitHead}
use Rattle.usbip_wire.specs.Dirs.{find}
use Rattle.usbip_wire.specs.Awaited.{Awaited, entries_of, sent, left_by, left}
use Rattle.usbip_wire.specs.Down as down
use Rattle.usbip_wire.specs.Up as up
use Rattle.instr_plain.specs.declared.log.LogEntry.{LogEntry}
use Rattle.instr_plain.specs.declared.log.LogEntry.TheVariants.{Exec, Took, Clear}
use Rattle.tmc_law.specs.State.{State, Pending, Plugged, Closed}
use Rattle.tmc_law.specs.Put.{Put, Submitted, Unlinked}
use Rattle.tmc_law.specs.Step.{Move, Comes, Refuses, IsRefused, IsOver}
use Rattle.tmc_law.specs.Run.{Entry, Runs, taken, inputs, SpellAll}

-- bytes to the device with this devid are refused at a field, and nothing is put out
abbrev pub refusal : (devid : ℕ) (refused : List ℕ) → Field → Entry
refusal devid refused f = record { move = Refuses devid refused f; puts = [] }

-- A run from this state took in these bytes, and its last step closed the device at this field: the bytes are the
-- spellings of its inputs, and then bytes that are refused at the field in the state before that step.
pub record EndsRefused (devid : ℕ) (s : State) (run : List Entry) (t : State) (bytes : List ℕ) (f : Field) : Type 0 where
  pub before : List Entry
  pub mid : State
  pub front : List ℕ
  pub refused : List ℕ
  pub goes : Runs s before mid
  pub plugged : mid.presence ≡ Plugged
  pub last : run ≡ before ++ refusal devid refused f ∷ []
  pub closed : t ≡ record mid { presence = Closed f }
  pub took : bytes ≡ front ++ refused
  pub spelled : SpellAll (up.Spells devid) (inputs run) front
  pub refuses : IsRefused devid mid refused f

-- A run to the device with this devid ended at a submit that came behind its inputs, and that the state before its last
-- step could not take.
pub record EndsOver (devid : ℕ) (s : State) (run : List Entry) (messages : List up.Message) (f : Field) : Type 0 where
  pub before : List Entry
  pub mid : State
  pub refused : List ℕ
  pub head : SubmitHead
  pub transferred : List ℕ
  pub behind : List up.Message
  pub goes : Runs s before mid
  pub last : run ≡ before ++ refusal devid refused f ∷ []
  pub next : messages ≡ inputs run ++ up.Submit head transferred ∷ behind
  pub over : IsOver mid head f

-- no submit with this number arrives
abbrev pub NoneArrives : ℕ → List up.Message → Type 0
NoneArrives seqnum [] = Unit {0}
NoneArrives seqnum (up.Submit head transferred ∷ messages) = (head.seqnum ≢ seqnum) × NoneArrives seqnum messages
NoneArrives seqnum (up.Unlink head ∷ messages) = NoneArrives seqnum messages

-- no submit with this number is answered
abbrev pub NoneAnswers : ℕ → List Put → Type 0
NoneAnswers seqnum [] = Unit {0}
NoneAnswers seqnum (Submitted asked answer transferred ∷ puts) = (answer.seqnum ≢ seqnum) × NoneAnswers seqnum puts
NoneAnswers seqnum (Unlinked asked answer ∷ puts) = NoneAnswers seqnum puts

-- none of these submits arrives again
abbrev pub NoneAgain : List Pending → List up.Message → Type 0
NoneAgain [] messages = Unit {0}
NoneAgain (submit ∷ submits) messages = NoneArrives submit.head.seqnum messages × NoneAgain submits messages

-- one of these submits has this number
abbrev pub is_one_of : List Pending → ℕ → Bool
is_one_of [] seqnum = false
is_one_of (submit ∷ submits) seqnum = (submit.head.seqnum == seqnum) || is_one_of submits seqnum

-- the numbers of those answers that are to these submits, in the order of the answers
abbrev pub answers_to : List Pending → List Put → List ℕ
answers_to submits [] = []
answers_to submits (Submitted asked answer transferred ∷ puts) =
    if is_one_of submits answer.seqnum then answer.seqnum ∷ answers_to submits puts else answers_to submits puts
answers_to submits (Unlinked asked answer ∷ puts) = answers_to submits puts

-- these numbers are those of some of these submits, in their order, and none twice
abbrev pub AreInOrder : List ℕ → List Pending → Type 0
AreInOrder [] submits = Unit {0}
AreInOrder (seqnum ∷ seqnums) submits =
    (before : List Pending) × (submit : Pending) × (behind : List Pending)
    × (submits ≡ before ++ submit ∷ behind) × (submit.head.seqnum ≡ seqnum) × AreInOrder seqnums behind

-- an entry behind which other output is unread: a new response, or none
abbrev pub Renews : LogEntry → Type 0
Renews (Exec seq message) = Unit {0}
Renews Clear = Unit {0}
Renews _ = ⊥

abbrev pub NoneRenews : List LogEntry → Type 0
NoneRenews [] = Unit {0}
NoneRenews (entry ∷ entries) = (Renews entry → ⊥) × NoneRenews entries

-- how many bytes were taken of a response
abbrev pub bytes_taken : List LogEntry → ℕ
bytes_taken [] = 0
bytes_taken (Took n ∷ entries) = n + bytes_taken entries
bytes_taken (_ ∷ entries) = bytes_taken entries

-- the message of an answer
abbrev pub message_of : Put → down.Message
message_of (Submitted asked answer transferred) = down.RetSubmit answer transferred
message_of (Unlinked asked answer) = down.RetUnlink answer

abbrev pub messages_of : List Put → List down.Message
messages_of [] = []
messages_of (put ∷ puts) = message_of put ∷ messages_of puts

-- the answers have spellings that a reader accepts, each by what is outstanding when it comes
abbrev pub AreAccepted : List Awaited → List Put → Type 0
AreAccepted awaited [] = Unit {0}
AreAccepted awaited (put ∷ puts) =
    ((bytes : List ℕ) × down.SpellsAnswer (entries_of awaited) (message_of put) bytes) × AreAccepted (left_by awaited (message_of put)) puts

-- the same of the answers of a run: what it takes in is outstanding until an answer takes it out
abbrev pub IsAccepted : List Awaited → List Entry → Type 0
IsAccepted awaited [] = Unit {0}
IsAccepted awaited (entry ∷ run) =
    AreAccepted (sent awaited (taken entry.move)) entry.puts
    × IsAccepted (left (sent awaited (taken entry.move)) (messages_of entry.puts)) run

-- an unlink comes with a number that is not outstanding
abbrev pub IsNew : List Awaited → Move → Type 0
IsNew awaited (Comes (up.Unlink head)) = find head.seqnum (entries_of awaited) ≡ None
IsNew awaited _ = Unit {0}

-- the same of each unlink of a run
abbrev pub AreNew : List Awaited → List Entry → Type 0
AreNew awaited [] = Unit {0}
AreNew awaited (entry ∷ run) =
    IsNew awaited entry.move × AreNew (left (sent awaited (taken entry.move)) (messages_of entry.puts)) run
