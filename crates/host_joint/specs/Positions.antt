-- where a device is in the recovery behind a ticket (USBTMC 1.0, sections 4.2.1.2 to 4.2.1.7)
use Rattle.std.specs.Prelude.{◌≡◌, ℕ, Bool, true, false, List, [], Option, None, Some}
use Rattle.tmc_law.specs.State.{State, Transfer, Waiting, Piece, Side, Idle, Owed, Sending, Running, Nothing, AbortsOut, AbortsIn, Clears}
use Rattle.tmc_law.specs.BulkIn.{NoAbortIn}
use Rattle.tmc_law.specs.Aborts.{tag_of}

-- What is known of a device between two requests of a recovery, field by field: what runs, the Bulk-IN transfer, the Bulk-OUT
-- transfer with the unfinished message, the message that waits, and whether Bulk-OUT is halted.
pub record Position : Type 1 where
  pub running : Running → Type 0
  pub side : Side → Type 0
  pub out : Option Transfer → List ℕ → Type 0
  pub waits : Option Waiting → Type 0
  pub shut : Bool → Type 0

-- What a device may do by itself keeps it there: a halt of Bulk-IN or of Bulk-OUT, the beginning of a piece, an execution.
pub record IsClosed (position : Position) : Type 0 where
  pub drops_in : (side : Side) → position.side side → position.side Idle
  pub begins : (running : Running) (tag size : ℕ) (piece : Piece) → position.running running → NoAbortIn running → position.side (Owed tag size) → piece.tag ≡ tag → position.side (Sending piece)
  pub drops_out : (transfer : Option Transfer) (part : List ℕ) → position.out transfer part → position.out None []
  pub executes : (waiting : Waiting) → position.waits (Some waiting) → position.waits None
  pub shuts : (shut : Bool) → position.shut shut → position.shut true

-- a device is at this position, and no bulk submit is pending
pub record IsAt (position : Position) (s : State) : Type 0 where
  pub bulk_out : s.bulk_out ≡ []
  pub bulk_in : s.bulk_in ≡ []
  pub running : position.running s.running
  pub side : position.side s.side
  pub out : position.out s.transfer s.part
  pub waits : position.waits s.waiting
  pub shut : position.shut s.halted.bulk_out

-- ---- the positions

-- nothing is known of it
abbrev pub Any : {A : Type 0} → A → Type 0
Any x = Unit {0}

-- no Bulk-OUT transfer is in progress, and no message is unfinished
abbrev pub IsFree : Option Transfer → List ℕ → Type 0
IsFree transfer part = (transfer ≡ None) × (part ≡ [])

-- no transfer is in progress, or one with this tag
pub data OutTag (tag : ℕ) (transfer : Option Transfer) : Type 0 where
  NoTransfer : transfer ≡ None → OutTag tag transfer
  ThisTransfer : (one : Transfer) → transfer ≡ Some one → tag_of one.header ≡ tag → OutTag tag transfer

-- no Bulk-IN transfer is in progress, or one that was requested with this tag
pub data InTag (tag : ℕ) (side : Side) : Type 0 where
  NoPiece : side ≡ Idle → InTag tag side
  IsOwed : (size : ℕ) → side ≡ Owed tag size → InTag tag side
  IsSent : (piece : Piece) → side ≡ Sending piece → piece.tag ≡ tag → InTag tag side

-- nothing runs, and no transfer is in progress; a message of an earlier ticket may wait
abbrev pub rests : Position
rests = record { running = λ r. r ≡ Nothing; side = λ x. x ≡ Idle; out = IsFree; waits = Any; shut = Any }

-- the Bulk-IN transfer of this tag is to be aborted, unless it is over
abbrev pub in_begun : ℕ → Position
in_begun tag = record { running = λ r. r ≡ Nothing; side = InTag tag; out = IsFree; waits = Any; shut = Any }

-- it is aborted, and wants its packet
abbrev pub in_wants : Position
in_wants = record { running = λ r. (given : ℕ) × (r ≡ AbortsIn true given); side = Any; out = IsFree; waits = Any; shut = Any }

-- its packet was given
abbrev pub in_ended : Position
in_ended = record { running = λ r. (given : ℕ) × (r ≡ AbortsIn false given); side = λ x. x ≡ Idle; out = IsFree; waits = Any; shut = Any }

-- the Bulk-OUT transfer of this tag is to be aborted, unless it never began
abbrev pub out_begun : ℕ → Position
out_begun tag = record { running = λ r. r ≡ Nothing; side = λ x. x ≡ Idle; out = λ transfer part. OutTag tag transfer; waits = Any; shut = Any }

-- the same, where no part of an unfinished message was taken
abbrev pub out_first : ℕ → Position
out_first tag =
    record { running = λ r. r ≡ Nothing; side = λ x. x ≡ Idle; out = λ transfer part. OutTag tag transfer × (part ≡ []); waits = Any; shut = Any }

-- no transfer is in progress, but an unfinished message may be there
abbrev pub out_unfinished : Position
out_unfinished = record { running = λ r. r ≡ Nothing; side = λ x. x ≡ Idle; out = λ transfer part. transfer ≡ None; waits = Any; shut = Any }

-- it is aborted, and Bulk-OUT is halted until its halt is cleared
abbrev pub out_aborted : Position
out_aborted = record { running = λ r. r ≡ AbortsOut; side = λ x. x ≡ Idle; out = IsFree; waits = Any; shut = λ b. b ≡ true }

-- whatever the device does: from here a clear leads to rest
abbrev pub anything : Position
anything = record { running = Any; side = Any; out = λ transfer part. Unit {0}; waits = Any; shut = Any }

-- a clear runs, and Bulk-OUT is halted
abbrev pub clears : Position
clears = record { running = λ r. r ≡ Clears; side = λ x. x ≡ Idle; out = IsFree; waits = λ w. w ≡ None; shut = λ b. b ≡ true }

-- the clear is over, and Bulk-OUT may still be halted
abbrev pub cleared : Position
cleared = record { running = λ r. r ≡ Nothing; side = λ x. x ≡ Idle; out = IsFree; waits = λ w. w ≡ None; shut = Any }
