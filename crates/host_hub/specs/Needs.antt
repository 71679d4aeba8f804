-- which recovery a ticket calls for (USBTMC 1.0, sections 4.2.1.2 to 4.2.1.7)
use Rattle.std.specs.Prelude.{ℕ, ℤ, pos, neg_ℤ, ◌==◌, nat_lt, Bool, true, false, ◌&&◌, ◌||◌, not, Option, Some, None, List, [], ◌∷◌, ◌++◌, is_some, if◌then◌else◌}
use Rattle.std.specs.Ordering.{int_eq}
use Rattle.usbip_wire.specs.Down as down
use Rattle.host_recover.specs.declared.need.Need.{Need}
use Rattle.host_recover.specs.declared.need.Need.TheVariants as need
use Rattle.host_hub.specs.Order.{Order, Part, Request, Trigger, is_bulk, is_listen}
use Rattle.host_hub.specs.Record.{Happening, Past, Took}
use Rattle.host_hub.specs.Hand.{is_of}
use Rattle.host_hub.specs.Outstanding.{Sent, find, lost_with, outstanding}
use Rattle.host_hub.specs.Pieces.{Piece, pieces}
use Rattle.host_hub.specs.Status.{concerns}

-- how a submit of a ticket ended: it was answered, or an unlink took it away
pub record Over : Type 0 where
  pub number : ℕ
  pub order : Order
  pub unlinked : Bool
  pub status : ℤ

abbrev pub over_of : (unlinked : Bool) → (status : ℤ) → Sent → Over
over_of unlinked status x = record { number = x.number; order = x.order; unlinked = unlinked; status = status }

abbrev pub answered : ℕ → Past → Option Sent → (status : ℤ) → List Over → List Over
answered t past None status xs = xs
answered t past (Some x) status xs = if concerns t past x then over_of false status x ∷ xs else xs

abbrev pub taken_away : ℕ → Option Sent → Option Sent → (status : ℤ) → List Over → List Over
taken_away t (Some unlink) (Some x) status xs = if is_of t unlink.owner then over_of true status x ∷ xs else xs
taken_away t unlink x status xs = xs

abbrev pub over_by : ℕ → Past → Happening → List Over → List Over
over_by t past (Took (down.RetSubmit head bytes)) xs = answered t past (find head.seqnum (outstanding past)) head.status xs
over_by t past (Took (down.RetUnlink head)) xs =
    taken_away t (find head.seqnum (outstanding past)) (lost_with head.seqnum (outstanding past)) head.status xs
over_by t past _ xs = xs

-- the submits of a ticket that are over, the last one first
abbrev pub overs : ℕ → Past → List Over
overs t [] = []
overs t (x ∷ past) = over_by t past x (overs t past)

-- ECONNRESET: the submit was taken back
abbrev pub taken_back : ℤ
taken_back = neg_ℤ (pos 104)

abbrev pub is_accepted : Over → Bool
is_accepted x = not x.unlinked && int_eq x.status (pos 0)

-- the Bulk-OUT submit with the lowest number that was taken back, by its tag
pub record Back : Type 0 where
  pub number : ℕ
  pub tag : ℕ

abbrev pub lower : (number tag : ℕ) → Option Back → Option Back
lower number tag None = Some (record { number = number; tag = tag })
lower number tag (Some back) = if nat_lt number back.number then Some (record { number = number; tag = tag }) else Some back

abbrev pub back_by : (number : ℕ) → Order → Option Back → Option Back
back_by number (Part tag text eom) before = lower number tag before
back_by number (Request tag size) before = lower number tag before
back_by number (Trigger tag) before = lower number tag before
back_by number order before = before

abbrev pub back : List Over → Option Back
back [] = None
back (x ∷ xs) = if x.unlinked && int_eq x.status taken_back then back_by x.number x.order (back xs) else back xs

-- the last transfer of the message that was accepted is not the one with EOM
abbrev pub split_at : Order → Bool → Bool
split_at (Part tag text eom) before = not eom
split_at order before = before

abbrev pub is_split : List Over → Bool
is_split [] = false
is_split (x ∷ xs) = if is_accepted x then split_at x.order (is_split xs) else is_split xs

-- the submit of this number was accepted
abbrev pub has_accepted : (number : ℕ) → List Over → Bool
has_accepted number [] = false
has_accepted number (x ∷ xs) = (is_accepted x && (x.number == number)) || has_accepted number xs

-- the tag of the last request, where it was accepted and its transfer has not ended
abbrev pub owed : List Piece → List Over → Option ℕ
owed [] xs = None
owed (piece ∷ pieces) xs = if has_accepted piece.number xs && not (is_some piece.over) then Some piece.tag else None

-- what calls for the full clear: a nonzero status of a bulk or Interrupt-IN submit, or a submit that was lost
abbrev pub is_faulty : Over → Bool
is_faulty x =
    if x.unlinked then not (int_eq x.status taken_back)
    else (is_bulk x.order || is_listen x.order) && not (int_eq x.status (pos 0))

abbrev pub any_faulty : List Over → Bool
any_faulty [] = false
any_faulty (x ∷ xs) = is_faulty x || any_faulty xs

-- ---- the table of recoveries: each row that holds

-- a message was taken back in its midst, or its last part was never written
abbrev pub out_needs : Option Back → (parts : Bool) → List Need
out_needs (Some back) parts = need.Out back.tag parts ∷ []
out_needs None true = need.Full ∷ []
out_needs None false = []

-- a response is owed
abbrev pub in_needs : Option ℕ → List Need
in_needs (Some tag) = need.In tag ∷ []
in_needs None = []

abbrev pub fault_needs : Bool → List Need
fault_needs true = need.Full ∷ []
fault_needs false = []

abbrev pub needs : List Over → List Piece → List Need
needs xs now = out_needs (back xs) (is_split xs) ++ (in_needs (owed now xs) ++ fault_needs (any_faulty xs))

-- where more than one row holds, the full clear runs
abbrev pub only : List Need → Option Need
only [] = None
only (row ∷ []) = Some row
only (row ∷ (other ∷ rows)) = Some need.Full

abbrev pub need_of : Option ℕ → Past → Option Need
need_of None past = None
need_of (Some t) past = only (needs (overs t past) (pieces t past))
