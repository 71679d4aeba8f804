-- How an exchange keeps a message: one list of bytes, of which so many took effect, and the number of the submit that ended
-- the message where it waits. Behind an unfinished message stands what has come of its next part.
use Rattle.std.specs.Prelude.{ℕ, ◌+◌, ◌≤◌, List, [], take, drop, Option, Some, None}
use Rattle.tmc_law.specs.State.{Waiting}
use Rattle.tmc_law.specs.BulkOut.{message_most}

abbrev pub part_of : (ended_by : Option ℕ) (size : ℕ) → List ℕ → List ℕ
part_of None size bytes = take size bytes
part_of (Some seq) size bytes = []

abbrev pub waiting_of : (ended_by : Option ℕ) (size : ℕ) → List ℕ → Option Waiting
waiting_of None size bytes = None
waiting_of (Some seq) size bytes = Some (record { seq = seq; message = take size bytes })

abbrev pub coming_of : (ended_by : Option ℕ) (size : ℕ) → List ℕ → List ℕ
coming_of None size bytes = drop size bytes
coming_of (Some seq) size bytes = []

-- the most alignment bytes of a transfer (USBTMC 1.0, section 3.2), which come behind its data
abbrev pub alignment_most : ℕ
alignment_most = 3

-- a buffer for the longest message and the alignment bytes of its last part
pub record IsBuffer (size length capacity : ℕ) : Type 0 where
  pub there : size ≤ length
  pub short : size ≤ message_most
  pub room : message_most + alignment_most ≤ capacity
