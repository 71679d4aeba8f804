-- what the answers gave to a ticket: the data of the pieces that they spell (USBTMC 1.0, section 3.3)
use Rattle.std.specs.Prelude.{ℕ, pos, ◌+◌, nat_lt, min, Bool, true, ◌&&◌, not, Option, Some, None, is_some, List, [], ◌∷◌, ◌++◌, if◌then◌else◌}
use Rattle.std.specs.Ordering.{int_eq}
use Rattle.tmc_base.specs.declared.limits.TheConstants.{BULK_IN_SUBMIT}
use Rattle.usbip_wire.specs.declared.ret_submit.RetSubmitHead.{RetSubmitHead}
use Rattle.usbip_wire.specs.Down as down
use Rattle.host_transfers.specs.Piece.{data_of}
use Rattle.host_hub.specs.Order.{Order, Request, Read}
use Rattle.host_hub.specs.Record.{Happening, Past, Wrote, Took}
use Rattle.host_hub.specs.Hand.{is_of}
use Rattle.host_hub.specs.Outstanding.{Sent, find, lost_with, outstanding}

-- A piece of a response: its request with its number, the bytes of its transfer as far as they came, the reads that were
-- made for it, and of these the full ones. `over` is the number of the read that ended it. Reads with numbers above `shut`
-- do not count: one before them was taken away, or an answer of the ticket had another status than 0.
pub record Piece : Type 0 where
  pub number : ℕ
  pub tag : ℕ
  pub size : ℕ
  pub bytes : List ℕ
  pub reads : ℕ
  pub full : ℕ
  pub over : Option ℕ
  pub shut : Option ℕ

abbrev pub requested : (number tag size : ℕ) → Piece
requested number tag size = record { number = number; tag = tag; size = size; bytes = []; reads = 0; full = 0; over = None; shut = None }

-- a submit is written
abbrev pub opened : (number : ℕ) → Order → List Piece → List Piece
opened number (Request tag size) pieces = requested number tag size ∷ pieces
opened number Read (piece ∷ pieces) = record piece { reads = piece.reads + 1 } ∷ pieces
opened number order pieces = pieces

-- a read with this number counts
abbrev pub is_below : ℕ → Option ℕ → Bool
is_below n None = true
is_below n (Some last) = nat_lt n (last + 1)

abbrev pub does_count : ℕ → Piece → Bool
does_count n piece = is_below n piece.shut && not (is_some piece.over)

-- the answer to a read: one with fewer bytes than were asked for ends the transfer (USB 2.0, section 5.8.3)
abbrev pub extended : RetSubmitHead → List ℕ → Piece → Piece
extended head bytes piece =
    if nat_lt head.actual BULK_IN_SUBMIT then record piece { bytes = piece.bytes ++ bytes; over = Some head.seqnum }
    else record piece { bytes = piece.bytes ++ bytes; full = piece.full + 1 }

abbrev pub least : ℕ → Option ℕ → Option ℕ
least n None = Some n
least n (Some k) = Some (min n k)

abbrev pub shut_at : ℕ → List Piece → List Piece
shut_at n [] = []
shut_at n (piece ∷ pieces) = (if is_some piece.over then piece else record piece { shut = least n piece.shut }) ∷ pieces

abbrev pub read_by : RetSubmitHead → List ℕ → List Piece → List Piece
read_by head bytes [] = []
read_by head bytes (piece ∷ pieces) = (if does_count head.seqnum piece then extended head bytes piece else piece) ∷ pieces

-- a submit of the ticket was answered
abbrev pub answered : Order → RetSubmitHead → List ℕ → List Piece → List Piece
answered Read head bytes pieces = if int_eq head.status (pos 0) then read_by head bytes pieces else shut_at 0 pieces
answered order head bytes pieces = if int_eq head.status (pos 0) then pieces else shut_at 0 pieces

abbrev pub answered_for : ℕ → Option Sent → RetSubmitHead → List ℕ → List Piece → List Piece
answered_for t None head bytes pieces = pieces
answered_for t (Some x) head bytes pieces = if is_of t x.owner then answered x.order head bytes pieces else pieces

-- a submit of the ticket was taken away
abbrev pub lost : Order → ℕ → List Piece → List Piece
lost Read n pieces = shut_at n pieces
lost order n pieces = pieces

abbrev pub lost_for : ℕ → Option Sent → List Piece → List Piece
lost_for t None pieces = pieces
lost_for t (Some x) pieces = if is_of t x.owner then lost x.order x.number pieces else pieces

abbrev pub piece_by : ℕ → Past → Happening → List Piece → List Piece
piece_by t past (Wrote number owner order) pieces = if is_of t owner then opened number order pieces else pieces
piece_by t past (Took (down.RetSubmit head bytes)) pieces = answered_for t (find head.seqnum (outstanding past)) head bytes pieces
piece_by t past (Took (down.RetUnlink head)) pieces = lost_for t (lost_with head.seqnum (outstanding past)) pieces
piece_by t past _ pieces = pieces

-- the pieces that a ticket requested, the last one first
abbrev pub pieces : ℕ → Past → List Piece
pieces t [] = []
pieces t (x ∷ past) = piece_by t past x (pieces t past)

abbrev pub data_in : List Piece → List ℕ
data_in [] = []
data_in (piece ∷ pieces) = data_in pieces ++ data_of piece.bytes

-- the bytes of a ticket
abbrev pub got : ℕ → Past → List ℕ
got t past = data_in (pieces t past)
