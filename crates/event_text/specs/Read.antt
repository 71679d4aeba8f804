-- what the functions of the code gave
use Rattle.std.specs.Prelude.{◌≡◌, ⊤, ℕ, ◌<◌, ◌≤◌, Option, Some, None, Result, Ok, Err, List, [], ◌++◌, length, take, Bool, true, false, nat_le, ◌&&◌, ◌∷◌}
use Rattle.hex.specs.Hex.{decode_of}
use Rattle.tmc_base.specs.declared.field.Field.{Field}
use Rattle.tmc_base.specs.declared.memory.Memory as want
use Rattle.usbip_wire.specs.declared.dirs.Outstanding.{Outstanding}
use Rattle.usbip_wire.specs.declared.down.Down.{Down}
use Rattle.usbip_wire.specs.declared.down.Down.TheVariants as got
use Rattle.usbip_wire.specs.declared.down.DownPhase.{DownPhase}
use Rattle.usbip_wire.specs.declared.down.DownStep.{DownStep}
use Rattle.usbip_wire.specs.declared.up.UpStep.{UpStep}
use Rattle.usbip_wire.specs.declared.down.DownPhase.TheVariants as down_phase
use Rattle.usbip_wire.specs.declared.up.Up.{Up}
use Rattle.usbip_wire.specs.declared.up.Up.TheVariants as sent
use Rattle.usbip_wire.specs.declared.up.UpPhase.{UpPhase}
use Rattle.usbip_wire.specs.declared.up.UpPhase.TheVariants as up_phase
use Rattle.usbip_wire.specs.Dirs.{IsShort, others}
use Rattle.usbip_wire.specs.DownFed as down_fed
use Rattle.usbip_wire.specs.UpFed as up_fed
use Rattle.event_text.specs.declared.way.Way.{Way}
use Rattle.event_text.specs.declared.line_fault.LineFault.{LineFault}
use Rattle.event_text.specs.declared.line_fault.LineFault.TheVariants.{At, Memory as no_memory}
use Rattle.event_text.specs.declared.line_fault.LineWhat.{LineWhat}
use Rattle.event_text.specs.declared.line_fault.LineWhat.TheVariants.{TooLong, TooMany}
use Rattle.event_text.specs.declared.line_stop.LineStop.{LineStop}
use Rattle.event_text.specs.declared.line_stop.LineStop.TheVariants.{Wrong, Memory}
use Rattle.event_text.specs.declared.behind.Behind.{Behind}
use Rattle.event_text.specs.declared.behind.Behind.TheVariants.{Nothing, Words}
use Rattle.event_text.specs.declared.event.Script.{Script as event_script}
use Rattle.event_text.specs.declared.event_line.Place.{Place}
use Rattle.event_text.specs.declared.event_line.Said.{Said}
use Rattle.event_text.specs.declared.event_line.Said.TheVariants.{First, Depth, Does}
use Rattle.event_text.specs.declared.reading.Step.{Step}
use Rattle.event_text.specs.declared.reading.Step.TheVariants.{Message, More, Bad}
use Rattle.event_text.specs.declared.reading.Reader.{Reader}
use Rattle.event_text.specs.declared.reading.Reader.TheVariants.{Client, Device}
use Rattle.event_text.specs.declared.script.Line.{Line}
use Rattle.event_text.specs.declared.script.Line.TheVariants.{Adds, Bytes}
use Rattle.event_text.specs.EventLine.{line_said, place_behind}
use Rattle.event_text.specs.Message as message
use Rattle.event_text.specs.Message.{Stream, Requests, Urbs, Parts, Answers, devid}
use Rattle.event_text.specs.Printed.{message_line, request_line, submit_line, unlink_line, part_line, ret_submit_line, ret_unlink_line, bad_line}
use Rattle.event_text.specs.Script.{lines_most, line_most, said_fault, later_said}
use Rattle.event_text.specs.Shown.{Standing, Stops, stopped, taken, Prints}
use Rattle.event_text.specs.Words.{words_of, bytes_of}

-- a word that begins with a digit, which is a zero only where it is alone
abbrev pub starts_plain : List ℕ → Bool
starts_plain [] = false
starts_plain (first ∷ []) = nat_le 48 first && nat_le first 57
starts_plain (first ∷ others) = nat_le 49 first && nat_le first 57

-- the code gave what a line says, or memory was wanting
abbrev pub IsRead : {A : Type 0} → Result A LineStop → Result A LineWhat → Type 0
IsRead (Ok x) said = said ≡ Ok x
IsRead (Err (Wrong what)) said = said ≡ Err what
IsRead (Err Memory) said = ⊤

-- the place and the length of a line
abbrev pub IsJudged : ℕ → List ℕ → Result Unit LineWhat → Type 0
IsJudged number line (Ok done) = (number ≤ lines_most) × (length line ≤ line_most)
IsJudged number line (Err TooMany) = lines_most < number
IsJudged number line (Err TooLong) = (number ≤ lines_most) × (line_most < length line)
IsJudged number line (Err what) = ⊥

abbrev pub IsShortLine : Line → Type 0
IsShortLine (Adds entry) = IsShort entry
IsShortLine (Bytes piece) = ⊤

abbrev pub fault_at : ℕ → LineStop → LineFault
fault_at line (Wrong what) = At line what
fault_at line Memory = no_memory

-- ---- what is printed of an answer of a reader, with the data that it has

abbrev pub client_text : Up → List ℕ → List ℕ
client_text (sent.Op request) carried = request_line request
client_text (sent.Submit head) carried = submit_line head carried
client_text (sent.Unlink head) carried = unlink_line head
client_text sent.More carried = []
client_text (sent.Bad f) carried = bad_line f

abbrev pub device_text : Down → List ℕ → List ℕ
device_text (got.RetSubmit head) carried = ret_submit_line head carried
device_text (got.RetUnlink head) carried = ret_unlink_line head
device_text got.More carried = []
device_text (got.Bad f) carried = bad_line f
device_text what carried = part_line what

-- ---- where a reader stands

abbrev pub client_stream : UpPhase → Stream
client_stream up_phase.Ops = Requests
client_stream (up_phase.Urbs device) = Urbs

abbrev pub device_stream : DownPhase → Stream
device_stream (down_phase.Ops devices interfaces) = Parts devices interfaces
device_stream down_phase.Urbs = Answers

-- behind a bad field nothing is kept
abbrev pub kept_by : Option Field → List ℕ → List ℕ
kept_by None rest = rest
kept_by (Some f) rest = []

abbrev pub standing_of : Reader → List Outstanding → Standing
standing_of (Client held) entries =
    record { reading = client_stream held.phase; entries = entries; rest = kept_by held.bad (up_fed.kept held); bad = held.bad }
standing_of (Device held) entries =
    record { reading = device_stream held.phase; entries = entries; rest = kept_by held.bad (down_fed.kept held); bad = held.bad }

-- URB messages go to one device
abbrev pub IsOurs : UpPhase → Type 0
IsOurs up_phase.Ops = ⊤
IsOurs (up_phase.Urbs device) = device ≡ devid

abbrev pub IsOurReader : Reader → Type 0
IsOurReader (Client held) = IsOurs held.phase
IsOurReader (Device held) = ⊤

-- no message and no bad field is in the rest
abbrev pub IsSettled : Standing → Type 0
IsSettled standing = standing.bad ≡ None → Stops standing None

-- whether a field was refused
abbrev pub IsMarked : Bool → Standing → Type 0
IsMarked true standing = standing.bad ≡ None → ⊥
IsMarked false standing = standing.bad ≡ None

abbrev pub IsSound : Reader → List Outstanding → Bool → Type 0
IsSound reader entries refused = IsMarked refused (standing_of reader entries) × IsOurReader reader × IsSettled (standing_of reader entries)

-- ---- one call of a reader

abbrev pub client_gave : ℕ → Up → Step
client_gave used sent.More = More
client_gave used (sent.Bad f) = Bad
client_gave used what = Message used

abbrev pub client_step : UpStep → Step
client_step fed = client_gave fed.used fed.what

abbrev pub device_gave : ℕ → Down → Step
device_gave used got.More = More
device_gave used (got.Bad f) = Bad
device_gave used what = Message used

abbrev pub device_step : DownStep → Step
device_step fed = device_gave fed.used fed.what

-- what is outstanding behind an answer of a reader
abbrev pub answered : List Outstanding → Down → List Outstanding
answered entries (got.RetSubmit head) = others head.seqnum entries
answered entries (got.RetUnlink head) = others head.seqnum entries
answered entries what = entries

abbrev pub is_bad : Step → Bool
is_bad (Message used) = false
is_bad More = false
is_bad Bad = true

abbrev pub fed_with : Standing → List ℕ → Standing
fed_with old piece = record old { rest = old.rest ++ piece }

-- a message was completed by so many bytes and printed; or all bytes were used, or a field was refused
abbrev pub Stepped : Standing → List ℕ → Step → List ℕ → Standing → Type 0
Stepped old piece (Message used) text new =
    (0 < used) × (used ≤ length piece)
    × ((what : message.Message) × message.Spells old.reading old.entries what (old.rest ++ take used piece) × (text ≡ message_line what) × (new ≡ taken old what []))
Stepped old piece More text new = Stops (fed_with old piece) None × (text ≡ []) × (new ≡ fed_with old piece)
Stepped old piece Bad text new = (f : Field) × Stops (fed_with old piece) (Some f) × (text ≡ bad_line f) × (new ≡ stopped (fed_with old piece) (Some f))

-- ---- one line

-- a line was taken, or it is refused, or memory was wanting
abbrev pub LinePut : Way → ℕ → List ℕ → Standing → List ℕ → Result Unit LineStop → Standing → List ℕ → Type 0
LinePut way number line old before (Ok done) new text =
    (number ≤ lines_most)
    × ((said : Line) × (later_said way number line ≡ Ok said) × ((printed : List ℕ) × Prints old said printed new × (text ≡ before ++ printed)))
LinePut way number line old before (Err (Wrong what)) new text = said_fault old.entries (later_said way number line) ≡ Some what
LinePut way number line old before (Err Memory) new text = ⊤

-- ---- a script of events

-- the words behind a word
abbrev pub words_behind : Behind → List (List ℕ)
words_behind Nothing = []
words_behind (Words rest) = words_of rest.now

-- a script with what one more line says
abbrev pub with_said : event_script → Said → event_script
with_said script (First number) = record script { first = number }
with_said script (Depth depth) = record script { depth = depth }
with_said script (Does event) = record script { events = script.events ++ event ∷ [] }

-- a line was added, or it is refused, or memory was wanting
abbrev pub LineTaken : Place → ℕ → List ℕ → event_script → Result Place LineStop → event_script → Type 0
LineTaken place number line old (Ok next) new =
    (number ≤ lines_most)
    × ((said : Said) × (line_said place number line ≡ Ok said) × (next ≡ place_behind said) × (new ≡ with_said old said))
LineTaken place number line old (Err (Wrong what)) new = line_said place number line ≡ Err what
LineTaken place number line old (Err Memory) new = ⊤

-- the bytes of a word were appended, or it is no HEX and nothing was; and nothing was where memory was wanting
abbrev pub HexRead : List ℕ → List ℕ → Result Bool want.Memory → List ℕ → Type 0
HexRead word old (Ok true) new = (bytes : List ℕ) × (bytes_of word ≡ Some bytes) × (new ≡ old ++ bytes)
HexRead word old (Ok false) new = (bytes_of word ≡ None) × (new ≡ old)
HexRead word old (Err memory) new = new ≡ old

-- digits of either case were decoded, or the word is none such; nothing was appended then, and where memory was wanting
abbrev pub Decoded : List ℕ → List ℕ → Result Bool want.Memory → List ℕ → Type 0
Decoded word old (Ok true) new = (bytes : List ℕ) × (decode_of word ≡ Ok bytes) × (new ≡ old ++ bytes)
Decoded word old (Ok false) new = ((bytes : List ℕ) → decode_of word ≡ Ok bytes → ⊥) × (new ≡ old)
Decoded word old (Err memory) new = new ≡ old
