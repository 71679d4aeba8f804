-- The messages between a client and a device: each that was written, and each whole answer that was taken, the latest
-- first. The two lists, the next number and what is outstanding are read off them.
use Rattle.std.specs.Prelude.{ℕ, ◌+◌, List, [], ◌∷◌, ◌++◌, length}
use Rattle.usbip_wire.specs.Awaited.{Awaited, sent_by, left_by}
use Rattle.usbip_wire.specs.Down as down
use Rattle.usbip_wire.specs.Up as up

pub data Crossing : Type 0 where
  -- the client wrote a message
  Wrote : (message : up.Message) → Crossing
  -- the client took a whole answer
  Took : (answer : down.Message) → Crossing

-- what crossed up to some moment, the latest first
abbrev pub Past : Type 0
Past = List Crossing

-- the messages written, in the order in which they were
abbrev pub written : Past → List up.Message
written [] = []
written (Wrote message ∷ past) = written past ++ message ∷ []
written (Took answer ∷ past) = written past

-- the answers taken, in the order in which they were
abbrev pub taken : Past → List down.Message
taken [] = []
taken (Wrote message ∷ past) = taken past
taken (Took answer ∷ past) = taken past ++ answer ∷ []

-- the number of the next message, where the first one has this number
abbrev pub next : (first : ℕ) → Past → ℕ
next first past = first + length (written past)

-- What is outstanding, in the order in which it was written: an answer takes out what it answers, and the answer to an
-- unlink takes out the submit, too, that the unlink names.
abbrev pub outstanding : Past → List Awaited
outstanding [] = []
outstanding (Wrote message ∷ past) = outstanding past ++ sent_by message ∷ []
outstanding (Took answer ∷ past) = left_by (outstanding past) answer
