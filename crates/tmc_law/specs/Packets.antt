-- what packets do to a whole transfer: it goes on, or it ends
use Rattle.std.specs.Prelude.{◌≡◌, ◌≢◌, ℕ, ◌+◌, ◌*◌, ◌%◌, ◌<◌, ◌≤◌, true, false, List, [], ◌∷◌, ◌++◌, length, Some, None}
use Rattle.tmc_law.specs.Endpoint.{BulkOut, BulkIn, packet_size}
use Rattle.tmc_law.specs.State.{State, Pending, Transfer, Piece, Idle, Sending, AbortsIn, room}
use Rattle.tmc_law.specs.Put.{Put, ended, success}
use Rattle.tmc_law.specs.Halts.{halts, halt_answers}
use Rattle.tmc_law.specs.BulkOut.{Belongs, Spoils, TakesEffect, wants}
use Rattle.tmc_law.specs.BulkIn.{NoPacketWanted, LeavesRoom}

-- ---- Bulk-OUT (USBTMC 1.0, section 3.2)

-- the submit when these bytes were moved and those are left
abbrev pub moved_on : Pending → (bytes left : List ℕ) → Pending
moved_on submit bytes left = record submit { left = left; moved = submit.moved ++ bytes }

-- the transfer with these bytes more
abbrev pub grown_by : Transfer → List ℕ → Transfer
grown_by transfer bytes = record transfer { taken = transfer.taken ++ bytes }

-- These bytes are taken from the first submit: it stays with the others, or its last bytes are taken and it is answered.
pub data TakesBytes (submit : Pending) (behind : List Pending) (bytes : List ℕ) (puts : List Put) (queue : List Pending) : Type 0 where
  SubmitStays : (left : List ℕ) → submit.left ≡ bytes ++ left → bytes ≢ [] → left ≢ [] → puts ≡ []
      → queue ≡ moved_on submit bytes left ∷ behind → TakesBytes submit behind bytes puts queue
  SubmitIsOver : bytes ≡ submit.left → puts ≡ ended success (moved_on submit bytes []) ∷ [] → queue ≡ behind
      → TakesBytes submit behind bytes puts queue

pub data TransferTakes (s : State) (puts : List Put) (t : State) : Type 0 where
  -- a submit of length 0 is answered, and has no transfer
  OfNoBytes : (submit : Pending) (behind : List Pending) → s.bulk_out ≡ submit ∷ behind → submit.head.length ≡ 0
      → puts ≡ ended success submit ∷ [] → t ≡ record s { bulk_out = behind } → TransferTakes s puts t
  -- the header or the length is refused: Bulk-OUT halts
  IsRefused : (submit : Pending) (behind : List Pending) → s.bulk_out ≡ submit ∷ behind → submit.head.length ≢ 0 → Spoils s submit
      → puts ≡ halt_answers BulkOut s → t ≡ halts BulkOut s → TransferTakes s puts t
  -- the transfer in progress, or the one that begins, has these bytes more and goes on
  TransferGoesOn : (submit : Pending) (behind queue : List Pending) (transfer : Transfer) (bytes : List ℕ) → s.bulk_out ≡ submit ∷ behind
      → submit.head.length ≢ 0 → ¬ Spoils s submit → Belongs s submit transfer → TakesBytes submit behind bytes puts queue
      → t ≡ record s { bulk_out = queue; transfer = Some (grown_by transfer bytes) } → TransferTakes s puts t
  -- the transfer has all its bytes, the last ones of its submit, and takes effect
  TransferIsWhole : (submit : Pending) (behind : List Pending) (transfer : Transfer) → s.bulk_out ≡ submit ∷ behind
      → submit.head.length ≢ 0 → ¬ Spoils s submit → Belongs s submit transfer → wants (grown_by transfer submit.left) ≡ 0
      → puts ≡ ended success (moved_on submit submit.left []) ∷ []
      → TakesEffect submit.head.seqnum (grown_by transfer submit.left) (record s { bulk_out = behind; transfer = None }) t
      → TransferTakes s puts t

-- ---- Bulk-IN (USBTMC 1.0, section 3.3)

-- the submit with these bytes more
abbrev pub filled_by : Pending → List ℕ → Pending
filled_by submit bytes = record submit { moved = submit.moved ++ bytes }

-- These bytes go into the first submit: it has room for more and stays, or it is full and is answered.
pub data GivesBytes (submit : Pending) (behind : List Pending) (bytes : List ℕ) (puts : List Put) (queue : List Pending) : Type 0 where
  HasRoom : length (submit.moved ++ bytes) < submit.head.length → puts ≡ [] → queue ≡ filled_by submit bytes ∷ behind
      → GivesBytes submit behind bytes puts queue
  IsFull : length (submit.moved ++ bytes) ≡ submit.head.length → puts ≡ ended success (filled_by submit bytes) ∷ [] → queue ≡ behind
      → GivesBytes submit behind bytes puts queue

pub data PieceGives (s : State) (puts : List Put) (t : State) : Type 0 where
  -- an abort gets the packet that it wants: one of length 0 ends the transfer and the submit
  IsDrained : (submit : Pending) (behind : List Pending) (given : ℕ) → s.bulk_in ≡ submit ∷ behind → s.running ≡ AbortsIn true given
      → puts ≡ ended success submit ∷ [] → t ≡ record s { bulk_in = behind; side = Idle; running = AbortsIn false given } → PieceGives s puts t
  -- full packets of the piece are given, and it goes on
  PieceGoesOn : (submit : Pending) (behind queue : List Pending) (piece : Piece) (bytes left : List ℕ) → s.bulk_in ≡ submit ∷ behind
      → s.side ≡ Sending piece → NoPacketWanted s.running → piece.left ≡ bytes ++ left → bytes ≢ [] → length bytes % packet_size ≡ 0
      → GivesBytes submit behind bytes puts queue → t ≡ record s { bulk_in = queue; side = Sending (record piece { left = left }) }
      → PieceGives s puts t
  -- the rest of the piece is given, its last packet a short one: it ends the piece and the submit
  PieceIsOver : (submit : Pending) (behind : List Pending) (piece : Piece) (full : ℕ) → s.bulk_in ≡ submit ∷ behind → s.side ≡ Sending piece
      → NoPacketWanted s.running → LeavesRoom full submit → full * packet_size ≤ length piece.left
      → length piece.left < (full + 1) * packet_size → length piece.left ≤ room submit
      → puts ≡ ended success (filled_by submit piece.left) ∷ [] → t ≡ record s { bulk_in = behind; side = Idle } → PieceGives s puts t
  -- behind full packets one comes that the submit has no room for: Bulk-IN halts
  PieceOverflows : (submit : Pending) (behind : List Pending) (piece : Piece) (bytes left : List ℕ) → s.bulk_in ≡ submit ∷ behind
      → s.side ≡ Sending piece → NoPacketWanted s.running → piece.left ≡ bytes ++ left → length bytes % packet_size ≡ 0
      → room submit < length piece.left → puts ≡ halt_answers BulkIn (record s { bulk_in = filled_by submit bytes ∷ behind })
      → t ≡ halts BulkIn s → PieceGives s puts t
