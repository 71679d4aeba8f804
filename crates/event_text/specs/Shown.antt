-- what is shown of a script, and which line of it is refused
use Rattle.std.specs.Prelude.{◌≡◌, ◌⊎◌, ℕ, ◌+◌, Option, Some, None, ⊤, Ok, Err, List, [], ◌∷◌, ◌++◌, length}
use Rattle.std.specs.List.{flat_map}
use Rattle.tmc_base.specs.declared.field.Field.{Field}
use Rattle.usbip_wire.specs.declared.dirs.Outstanding.{Outstanding}
use Rattle.usbip_wire.specs.declared.urb.Dir.{Dir}
use Rattle.event_text.specs.declared.way.Way.{Way}
use Rattle.event_text.specs.Way.{way_of}
use Rattle.event_text.specs.declared.line_fault.LineFault.{LineFault}
use Rattle.event_text.specs.declared.line_fault.LineFault.TheVariants.{At, Memory}
use Rattle.event_text.specs.declared.line_fault.LineWhat.{LineWhat}
use Rattle.event_text.specs.declared.line_fault.LineWhat.TheVariants.{Unknown}
use Rattle.event_text.specs.declared.script.Line.{Line}
use Rattle.event_text.specs.declared.script.Line.TheVariants.{Adds, Bytes}
use Rattle.event_text.specs.declared.script.Phase.{Phase}
use Rattle.event_text.specs.Message.{Stream, Message, stream_of, Spells, NoneWhole, BadAt, behind, left_by}
use Rattle.event_text.specs.Printed.{message_line, bad_line, more_line}
use Rattle.event_text.specs.Script.{first_said, later_said, Say, entry_fault, said_fault}
use Rattle.event_text.specs.Words.{lines_of}

-- between two lines: the stream, what is outstanding, the bytes that are not part of a message yet, and the field that
-- was refused
pub record Standing : Type 0 where
  pub reading : Stream
  pub entries : List Outstanding
  pub rest : List ℕ
  pub bad : Option Field

-- before the first of them
abbrev pub begun : Way → Phase → Standing
begun way phase = record { reading = stream_of way phase; entries = []; rest = []; bad = None }

-- behind a message, which leaves this rest
abbrev pub taken : Standing → Message → List ℕ → Standing
taken old message rest = record { reading = behind old.reading message; entries = left_by old.entries message; rest = rest; bad = old.bad }

-- the bytes are these messages in a row, each of the stream and the outstanding that the one before it left, and then
-- the rest
abbrev pub InTurn : Standing → List Message → Standing → Type 0
InTurn old [] new = new ≡ old
InTurn old (message ∷ messages) new =
    (front : List ℕ) × (rest : List ℕ) × (old.rest ≡ front ++ rest) × Spells old.reading old.entries message front
    × InTurn (taken old message rest) messages new

-- why no message follows: the rest holds none whole and no bad field, or this field is bad
abbrev pub Stops : Standing → Option Field → Type 0
Stops last None = NoneWhole last.reading last.entries last.rest × ((f : Field) → BadAt last.reading last.entries last.rest f → ⊥)
Stops last (Some f) = BadAt last.reading last.entries last.rest f

abbrev pub bad_text : Option Field → List ℕ
bad_text None = []
bad_text (Some f) = bad_line f

-- behind a bad field nothing is kept
abbrev pub stopped : Standing → Option Field → Standing
stopped last None = last
stopped last (Some f) = record last { rest = []; bad = Some f }

-- a piece completes these messages, each printed as a line, and behind them a bad field is printed
pub record Takes (old : Standing) (piece text : List ℕ) (new : Standing) : Type 0 where
  pub messages : List Message
  pub last : Standing
  pub bad : Option Field
  pub row : InTurn (record old { rest = old.rest ++ piece }) messages last
  pub stops : Stops last bad
  pub marked : new ≡ stopped last bad
  pub printed : text ≡ flat_map message_line messages ++ bad_text bad

-- nothing is printed behind a bad field
abbrev pub Gives : Option Field → Standing → List ℕ → List ℕ → Standing → Type 0
Gives None old piece text new = Takes old piece text new
Gives (Some f) old piece text new = (text ≡ []) × (new ≡ old)

-- a line prints this text
abbrev pub Prints : Standing → Line → List ℕ → Standing → Type 0
Prints old (Adds entry) text new =
    (entry_fault old.entries entry ≡ None) × (text ≡ []) × (new ≡ record old { entries = old.entries ++ entry ∷ [] })
Prints old (Bytes piece) text new = Gives old.bad old piece text new

-- lines print this text, one after another
abbrev pub PrintAll : Standing → List Line → List ℕ → Standing → Type 0
PrintAll old [] text new = (text ≡ []) × (new ≡ old)
PrintAll old (line ∷ lines) text new =
    (front : List ℕ) × (back : List ℕ) × (middle : Standing) × (text ≡ front ++ back) × Prints old line front middle
    × PrintAll middle lines back new

-- behind the last line
abbrev pub ending : Option Field → List ℕ → List ℕ
ending None rest = more_line (length rest)
ending (Some f) rest = []

-- this text is shown of these lines
pub record Shown (way : Way) (phase : Phase) (lines : List Line) (text : List ℕ) : Type 0 where
  pub body : List ℕ
  pub last : Standing
  pub prints : PrintAll (begun way phase) lines body last
  pub ended : text ≡ body ++ ending last.bad last.rest

-- the source is a script: its first line names the phase, and the others say these lines
pub record IsScript (way : Way) (source : List ℕ) (phase : Phase) (lines : List Line) : Type 0 where
  pub first : List ℕ
  pub others : List (List ℕ)
  pub cut : lines_of source ≡ first ∷ others
  pub named : first_said first ≡ Ok phase
  pub said : Say way 2 others lines

-- this text is shown of exactly the source's lines
pub record SourceShown (way : Way) (source text : List ℕ) : Type 0 where
  pub phase : Phase
  pub lines : List Line
  pub script : IsScript way source phase lines
  pub shown : Shown way phase lines text

abbrev pub ShownOf : Dir → List ℕ → List ℕ → Type 0
ShownOf dir source text = SourceShown (way_of dir) source text

-- the first line names no phase, or there is none
abbrev pub IsFirstFault : List ℕ → LineWhat → Type 0
IsFirstFault source what =
    ((lines_of source ≡ []) × (what ≡ Unknown))
    ⊎ ((first : List ℕ) × (others : List (List ℕ)) × (lines_of source ≡ first ∷ others) × (first_said first ≡ Err what))

-- a later line has this for its first fault, where the lines before it have none
pub record IsLaterFault (way : Way) (source : List ℕ) (number : ℕ) (what : LineWhat) : Type 0 where
  pub first : List ℕ
  pub before : List (List ℕ)
  pub line : List ℕ
  pub others : List (List ℕ)
  pub phase : Phase
  pub lines : List Line
  pub body : List ℕ
  pub last : Standing
  pub cut : lines_of source ≡ first ∷ (before ++ line ∷ others)
  pub named : first_said first ≡ Ok phase
  pub place : number ≡ 2 + length before
  pub said : Say way 2 before lines
  pub prints : PrintAll (begun way phase) lines body last
  pub refused : said_fault last.entries (later_said way number line) ≡ Some what

-- this line, counted from 1, is the first that is refused, with its first fault
abbrev pub SourceRefused : Way → List ℕ → ℕ → LineWhat → Type 0
SourceRefused way source number what = ((number ≡ 1) × IsFirstFault source what) ⊎ IsLaterFault way source number what

abbrev pub IsRefused : Dir → List ℕ → ℕ → LineWhat → Type 0
IsRefused dir source number what = SourceRefused (way_of dir) source number what

-- the fault of a call: a line is refused, or memory is wanting
abbrev pub SourceFault : Way → List ℕ → LineFault → Type 0
SourceFault way source (At number what) = SourceRefused way source number what
SourceFault way source Memory = ⊤

abbrev pub IsFaultOf : Dir → List ℕ → LineFault → Type 0
IsFaultOf dir source fault = SourceFault (way_of dir) source fault
