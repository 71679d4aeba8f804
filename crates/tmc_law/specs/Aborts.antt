-- aborts, their checks, and clear (USBTMC 1.0, sections 4.2.1.2 to 4.2.1.7)
use Rattle.std.specs.Prelude.{◌≡◌, ◌≢◌, ℕ, true, false, List, [], ◌∷◌, ◌++◌, Option, Some, None}
use Rattle.std.specs.Int.{w32, to_le_bytes}
use Rattle.tmc_wire.specs.declared.header.OutHeader.{OutHeader}
use Rattle.tmc_wire.specs.declared.header.OutHeader.TheVariants.{Message, Request, Trigger}
use Rattle.tmc_wire.specs.ClassStatus.{STATUS_SUCCESS, STATUS_PENDING, STATUS_FAILED, STATUS_TRANSFER_NOT_IN_PROGRESS, STATUS_SPLIT_NOT_IN_PROGRESS, STATUS_SPLIT_IN_PROGRESS}
use Rattle.instr_plain.specs.declared.log.LogEntry.TheVariants as entry
use Rattle.tmc_law.specs.Endpoint.{BulkOut}
use Rattle.tmc_law.specs.State.{State, Pending, Transfer, Side, Idle, Owed, Sending, Running, Nothing, AbortsOut, AbortsIn, Clears, data_given}
use Rattle.tmc_law.specs.Put.{Put, ended, success}
use Rattle.tmc_law.specs.Logging.{Logs}
use Rattle.tmc_law.specs.Halts.{halts, halt_answers}

-- the tag of a transfer's header
abbrev pub tag_of : OutHeader → ℕ
tag_of (Message tag size eom) = tag
tag_of (Request tag size) = tag
tag_of (Trigger tag) = tag

-- the tag of the Bulk-OUT transfer in progress, and of the Bulk-IN one, none where there is none
abbrev pub out_tag : State → Option ℕ
out_tag s = tag_of_transfer s.transfer where
  tag_of_transfer : Option Transfer → Option ℕ
  tag_of_transfer None = None
  tag_of_transfer (Some transfer) = Some (tag_of transfer.header)

abbrev pub in_tag : State → Option ℕ
in_tag s = tag_of_side s.side where
  tag_of_side : Side → Option ℕ
  tag_of_side Idle = None
  tag_of_side (Owed tag size) = Some tag
  tag_of_side (Sending piece) = Some piece.tag

-- a tag as an abort's answer has it: 0 where no transfer is in progress, which is this instrument's choice
abbrev pub told_tag : Option ℕ → ℕ
told_tag None = 0
told_tag (Some tag) = tag

-- Why an abort of the transfer with this tag does not begin, with what it answers: something runs already, no transfer is
-- in progress, or another one is. Which status comes without a transfer is this instrument's choice.
pub data Declined (running : Running) (in_progress : Option ℕ) (tag : ℕ) (layout : List ℕ) : Type 0 where
  Busy : running ≢ Nothing → layout ≡ STATUS_SPLIT_IN_PROGRESS ∷ told_tag in_progress ∷ [] → Declined running in_progress tag layout
  NoTransfer : running ≡ Nothing → in_progress ≡ None → layout ≡ STATUS_FAILED ∷ told_tag in_progress ∷ []
      → Declined running in_progress tag layout
  Another : (other : ℕ) → running ≡ Nothing → in_progress ≡ Some other → other ≢ tag
      → layout ≡ STATUS_TRANSFER_NOT_IN_PROGRESS ∷ told_tag in_progress ∷ [] → Declined running in_progress tag layout

-- the answer of a class request, what is put out behind it, and the state behind it
pub record Served : Type 0 where
  pub layout : List ℕ
  pub behind : List Put
  pub state : State

-- INITIATE_ABORT_BULK_OUT: the transfer and the whole unfinished message are dropped, and Bulk-OUT halts
pub data AbortsBulkOut (tag : ℕ) (s : State) (served : Served) : Type 0 where
  NotBegun : (layout : List ℕ) → Declined s.running (out_tag s) tag layout
      → served ≡ record { layout = layout; behind = []; state = s } → AbortsBulkOut tag s served
  DoesAbort : s.running ≡ Nothing → out_tag s ≡ Some tag
      → served ≡ record { layout = STATUS_SUCCESS ∷ tag ∷ []; behind = halt_answers BulkOut s; state = record (halts BulkOut s) { running = AbortsOut } }
      → AbortsBulkOut tag s served

-- the transfer without the bytes that were not given, and how many bytes of data were
abbrev pub cut : Side → Side
cut (Sending piece) = Sending (record piece { left = [] })
cut side = side

abbrev pub given_of : Side → ℕ
given_of (Sending piece) = data_given piece
given_of _ = 0

-- INITIATE_ABORT_BULK_IN: the bytes of the piece that were not given are dropped, and the next packet, of length 0, ends
-- the transfer
pub data AbortsBulkIn (tag : ℕ) (s : State) (served : Served) : Type 0 where
  NotBegun : (layout : List ℕ) → Declined s.running (in_tag s) tag layout
      → served ≡ record { layout = layout; behind = []; state = s } → AbortsBulkIn tag s served
  DoesAbort : s.running ≡ Nothing → in_tag s ≡ Some tag
      → served ≡ record { layout = STATUS_SUCCESS ∷ tag ∷ []; behind = []; state = record s { side = cut s.side; running = AbortsIn true (given_of s.side) } }
      → AbortsBulkIn tag s served

-- the layout of CHECK_ABORT_BULK_OUT_STATUS: NBYTES_RXD is 0, since the transfer is dropped whole
abbrev pub check_out_layout : (status : ℕ) → List ℕ
check_out_layout status = status ∷ 0 ∷ 0 ∷ 0 ∷ [] ++ to_le_bytes w32 0

-- the layout of CHECK_ABORT_BULK_IN_STATUS: bmAbortBulkIn, whose bit 0 says that a packet is still to be read, and
-- NBYTES_TXD, without header and alignment
abbrev pub check_in_layout : (status bmAbortBulkIn given : ℕ) → List ℕ
check_in_layout status bmAbortBulkIn given = status ∷ bmAbortBulkIn ∷ 0 ∷ 0 ∷ [] ++ to_le_bytes w32 given

-- CHECK_ABORT_BULK_OUT_STATUS
abbrev pub checked_out : State → Served
checked_out s = by s.running where
  by : Running → Served
  by AbortsOut = record { layout = check_out_layout STATUS_SUCCESS; behind = []; state = record s { running = Nothing } }
  by _ = record { layout = check_out_layout STATUS_SPLIT_NOT_IN_PROGRESS; behind = []; state = s }

-- CHECK_ABORT_BULK_IN_STATUS
abbrev pub checked_in : State → Served
checked_in s = by s.running where
  by : Running → Served
  by (AbortsIn true given) = record { layout = check_in_layout STATUS_PENDING 1 given; behind = []; state = s }
  by (AbortsIn false given) = record { layout = check_in_layout STATUS_SUCCESS 0 given; behind = []; state = record s { running = Nothing } }
  by _ = record { layout = check_in_layout STATUS_SPLIT_NOT_IN_PROGRESS 0 0; behind = []; state = s }

-- a part-filled Bulk-IN submit is answered with its bytes by a clear; only the first can be part-filled
abbrev pub part_answer : List Pending → List Put
part_answer [] = []
part_answer (first ∷ others) = by first.moved where
  by : List ℕ → List Put
  by [] = []
  by _ = ended success first ∷ []

abbrev pub without_part : List Pending → List Pending
without_part [] = []
without_part (first ∷ others) = by first.moved where
  by : List ℕ → List Pending
  by [] = first ∷ others
  by _ = others

-- what a clear leaves, before it is logged: no message, no transfer, a halted Bulk-OUT, and no other split transaction
abbrev pub cleared : State → State
cleared s = record (halts BulkOut s) { bulk_in = without_part s.bulk_in; waiting = None; side = Idle; running = Clears }

-- INITIATE_CLEAR: it begins whatever runs, and drops the unread output too
pub data ClearsAll (s : State) (served : Served) : Type 0 where
  DoesClear : (t : State) → Logs entry.Clear (cleared s) t
      → served ≡ record { layout = STATUS_SUCCESS ∷ []; behind = part_answer s.bulk_in ++ halt_answers BulkOut s; state = t }
      → ClearsAll s served

-- CHECK_CLEAR_STATUS: bmClear is 0, since no packet is to be read
abbrev pub checked_clear : State → Served
checked_clear s = by s.running where
  by : Running → Served
  by Clears = record { layout = STATUS_SUCCESS ∷ 0 ∷ []; behind = []; state = record s { running = Nothing } }
  by _ = record { layout = STATUS_SPLIT_NOT_IN_PROGRESS ∷ 0 ∷ []; behind = []; state = s }
