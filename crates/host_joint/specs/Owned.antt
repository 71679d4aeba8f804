-- whose bytes a host has
use Rattle.std.specs.Prelude.{◌≡◌, ◌≢◌, ℕ, ◌≤◌, List, [], ◌++◌, length, take, drop}
use Rattle.tmc_wire.specs.Standard.{header_size}
use Rattle.tmc_law.specs.State.{State}
use Rattle.tmc_law.specs.Logging.{unread}
use Rattle.tmc_law.specs.BulkIn.{piece_bytes}
use Rattle.tmc_law.specs.Run.{IsFront}
use Rattle.host_joint.specs.Stage.{Ran}
use Rattle.host_joint.specs.Asking.{Ask}

-- of the first bytes of a piece's transfer, the data, where its header says that it has so many bytes
abbrev pub data_of : (size : ℕ) (read : List ℕ) → List ℕ
data_of size read = take size (drop header_size read)

-- What a host has read is a front of the one response that the log gives to the execution of its message, under its number.
pub data Owned (ask : Ask) (s : State) : Type 0 where
  -- it has read nothing
  NothingRead : ask.sofar ≡ [] → ask.read ≡ [] → Owned ask s
  -- it has read whole pieces, and nothing of another; what is unread is the rest of the response
  PiecesRead : (response : List ℕ) → Ran ask.last ask.message response s.log → response ≡ ask.sofar ++ unread s → ask.read ≡ [] → Owned ask s
  -- It has read whole pieces and the first bytes of the transfer of another, which carries this much of the response. So that
  -- transfer's header has the tag of the request and no more bytes than were asked for, and EOM where nothing is unread.
  PieceRead : (response carried rest : List ℕ) → Ran ask.last ask.message response s.log → response ≡ ask.sofar ++ (carried ++ unread s)
      → 1 ≤ length carried → length carried ≤ ask.size → piece_bytes ask.tag (length carried) (carried ++ unread s) ≡ ask.read ++ rest
      → IsFront (ask.sofar ++ data_of (length carried) ask.read) response → Owned ask s

-- Behind the pieces that a host has read more of the same response is unread at the device, which goes on where they ended.
pub record HasMore (ask : Ask) (s : State) : Type 0 where
  pub response : List ℕ
  pub ran : Ran ask.last ask.message response s.log
  pub all : response ≡ ask.sofar ++ unread s
  pub more : unread s ≢ []
