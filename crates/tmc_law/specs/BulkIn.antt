-- Bulk-IN: pieces of a response, and the packets in which they go (USBTMC 1.0, section 3.3; USB 2.0, section 5.8.3)
use Rattle.std.specs.Prelude.{◌≡◌, ◌⊎◌, ℕ, ◌+◌, ◌-◌, ◌*◌, ◌<◌, ◌≤◌, min, true, false, ◌==◌, List, [], ◌∷◌, ◌++◌, length, take, drop}
use Rattle.tmc_wire.specs.Header.{in_header_bytes}
use Rattle.tmc_wire.specs.Transfer.{alignment_of}
use Rattle.instr_plain.specs.declared.log.LogEntry.TheVariants as entry
use Rattle.tmc_law.specs.Endpoint.{BulkIn, packet_size}
use Rattle.tmc_law.specs.State.{State, Pending, Piece, Idle, Owed, Sending, Running, AbortsIn, room}
use Rattle.tmc_law.specs.Put.{Put, ended, success}
use Rattle.tmc_law.specs.Logging.{Logs, unread}
use Rattle.tmc_law.specs.Halts.{halts, halt_answers}

-- the transfer of a piece: its header, whose EOM says whether it ends the response, the data, and zeros up to a multiple
-- of 4
abbrev pub piece_bytes : (tag size : ℕ) → (response : List ℕ) → List ℕ
piece_bytes tag size response =
    in_header_bytes (record { tag = tag; size = size; eom = size == length response }) ++ (take size response ++ alignment_of size)

-- no abort of Bulk-IN runs
abbrev pub NoAbortIn : Running → Type 0
NoAbortIn (AbortsIn wanting given) = ⊥
NoAbortIn _ = Unit {0}

-- no abort wants its packet
abbrev pub NoPacketWanted : Running → Type 0
NoPacketWanted (AbortsIn true given) = ⊥
NoPacketWanted _ = Unit {0}

-- a piece of so many bytes begins, at most as many as were requested and are unread
pub data Begins (s : State) (count : ℕ) (t : State) : Type 0 where
  DoesBegin : (tag size : ℕ) → s.side ≡ Owed tag size → NoAbortIn s.running → 1 ≤ count → count ≤ min size (length (unread s))
      → Logs (entry.Took count) (record s { side = Sending (record { tag = tag; size = count; left = piece_bytes tag count (unread s) }) }) t
      → Begins s count t

-- the first packets of a piece that are not its last are full ones, and go into the first submit one behind the other: so
-- many of them leave it room for one more
abbrev pub LeavesRoom : (count : ℕ) → Pending → Type 0
LeavesRoom count submit = (count ≡ 0) ⊎ (count * packet_size < room submit)

-- the submit with the first bytes of the piece
abbrev pub filled : ℕ → Piece → Pending → Pending
filled size piece submit = record submit { moved = submit.moved ++ take size piece.left }

-- the piece without its first bytes
abbrev pub given : ℕ → Piece → Piece
given size piece = record piece { left = drop size piece.left }

-- so many packets go into the first Bulk-IN submit; the last one of a piece is shorter than the others, or of length 0
pub data Fills (s : State) (count : ℕ) (puts : List Put) (t : State) : Type 0 where
  -- an abort that wants its packet: one of length 0 ends the transfer and the submit
  Ends : (submit : Pending) (behind : List Pending) (given : ℕ) → s.bulk_in ≡ submit ∷ behind → s.running ≡ AbortsIn true given
      → count ≡ 1 → puts ≡ ended success submit ∷ []
      → t ≡ record s { bulk_in = behind; side = Idle; running = AbortsIn false given } → Fills s count puts t
  -- full packets, behind which the submit still has room
  Inside : (submit : Pending) (behind : List Pending) (piece : Piece) → s.bulk_in ≡ submit ∷ behind → s.side ≡ Sending piece
      → NoPacketWanted s.running → 1 ≤ count → count * packet_size ≤ length piece.left → count * packet_size < room submit
      → puts ≡ []
      → t ≡ record s { bulk_in = filled (count * packet_size) piece submit ∷ behind; side = Sending (given (count * packet_size) piece) }
      → Fills s count puts t
  -- full packets that fill the submit
  Full : (submit : Pending) (behind : List Pending) (piece : Piece) → s.bulk_in ≡ submit ∷ behind → s.side ≡ Sending piece
      → NoPacketWanted s.running → 1 ≤ count → count * packet_size ≤ length piece.left → count * packet_size ≡ room submit
      → puts ≡ ended success (filled (count * packet_size) piece submit) ∷ []
      → t ≡ record s { bulk_in = behind; side = Sending (given (count * packet_size) piece) } → Fills s count puts t
  -- the short packet, behind full ones: it ends the piece and the submit
  Short : (submit : Pending) (behind : List Pending) (piece : Piece) (full : ℕ) → s.bulk_in ≡ submit ∷ behind
      → s.side ≡ Sending piece → NoPacketWanted s.running → count ≡ full + 1 → LeavesRoom full submit
      → full * packet_size ≤ length piece.left → length piece.left < count * packet_size → length piece.left ≤ room submit
      → puts ≡ ended success (filled (length piece.left) piece submit) ∷ []
      → t ≡ record s { bulk_in = behind; side = Idle } → Fills s count puts t
  -- a packet that does not fit, behind full ones: Bulk-IN halts
  Overflows : (submit : Pending) (behind : List Pending) (piece : Piece) (full : ℕ) → s.bulk_in ≡ submit ∷ behind
      → s.side ≡ Sending piece → NoPacketWanted s.running → count ≡ full + 1 → LeavesRoom full submit
      → full * packet_size ≤ length piece.left
      → room submit < full * packet_size + min packet_size (length piece.left - full * packet_size)
      → puts ≡ halt_answers BulkIn (record s { bulk_in = filled (full * packet_size) piece submit ∷ behind })
      → t ≡ halts BulkIn s → Fills s count puts t
