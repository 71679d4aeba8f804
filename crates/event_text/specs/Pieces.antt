-- pieces of one stream
use Rattle.std.specs.Prelude.{◌≡◌, ℕ, Option, Some, None, List, [], ◌∷◌, ◌++◌, length}
use Rattle.std.specs.List.{flat_map}
use Rattle.tmc_base.specs.declared.field.Field.{Field}
use Rattle.usbip_wire.specs.Stream.{Reads}
use Rattle.event_text.specs.declared.script.Line.{Line}
use Rattle.event_text.specs.declared.script.Line.TheVariants.{Adds, Bytes}
use Rattle.event_text.specs.Message.{Stream, Message, Spells, BadAt}
use Rattle.event_text.specs.Printed.{message_line, bad_line, more_line}

-- a line before others: a piece becomes one with a piece behind it
abbrev pub onto : Line → List Line → List Line
onto (Bytes piece) (Bytes more ∷ lines) = Bytes (piece ++ more) ∷ lines
onto line lines = line ∷ lines

-- the lines, where pieces behind one another are one piece
abbrev pub merged : List Line → List Line
merged [] = []
merged (line ∷ lines) = onto line (merged lines)

-- the bytes of all pieces
abbrev pub bytes_in : List Line → List ℕ
bytes_in [] = []
bytes_in (Adds entry ∷ lines) = bytes_in lines
bytes_in (Bytes piece ∷ lines) = piece ++ bytes_in lines

-- the bad field of a rest, if it has one
abbrev pub IsBadOf : Stream → List ℕ → Option Field → Type 0
IsBadOf reading rest None = (f : Field) → BadAt reading [] rest f → ⊥
IsBadOf reading rest (Some f) = BadAt reading [] rest f

-- the line of a rest: its bad field, or where it has none the number of its bytes
abbrev pub rest_line : Option Field → List ℕ → List ℕ
rest_line None rest = more_line (length rest)
rest_line (Some f) rest = bad_line f

-- The bytes are messages in a row, where nothing is outstanding, and then a rest in which none is whole. The text is a
-- line of each message, and one of the rest.
pub record IsTextOf (reading : Stream) (bytes text : List ℕ) : Type 0 where
  pub messages : List Message
  pub rest : List ℕ
  pub bad : Option Field
  pub reads : Reads (Spells reading []) bytes messages rest
  pub found : IsBadOf reading rest bad
  pub printed : text ≡ flat_map message_line messages ++ rest_line bad rest
