-- what a host does with an ask: it takes answers, and writes transfers, reads and unlinks
use Rattle.std.specs.Prelude.{◌≡◌, ◌≢◌, ◌⊎◌, ℕ, ◌+◌, ◌<◌, ◌≤◌, Bool, true, false, List, [], ◌∷◌, ◌++◌, length}
use Rattle.usbip_wire.specs.declared.submit.SubmitHead.{SubmitHead}
use Rattle.usbip_wire.specs.declared.ret_submit.RetSubmitHead.{RetSubmitHead}
use Rattle.usbip_wire.specs.declared.unlink.UnlinkHead.{UnlinkHead}
use Rattle.usbip_wire.specs.Up as up
use Rattle.tmc_wire.specs.Header.{in_header_bytes}
use Rattle.tmc_wire.specs.Transfer.{alignment_of}
use Rattle.tmc_law.specs.Endpoint.{Endpoint}
use Rattle.tmc_law.specs.State.{State}
use Rattle.tmc_law.specs.Put.{Put, success, stalled}
use Rattle.tmc_law.specs.Logging.{unread}
use Rattle.host_joint.specs.Lines.{Event}
use Rattle.host_joint.specs.Jobs.{Job, last_header, data_in}
use Rattle.host_joint.specs.Reads.{Answered, answer, read_size, IsHalted}
use Rattle.host_joint.specs.Stage.{Ran, Carries, IsInner}
use Rattle.host_joint.specs.Asking.{Ask, Asking, Cancelled}

-- An answer to a transfer was taken: the transfer was taken whole, or Bulk-OUT is halted. The ask stays in hand.
abbrev pub OutAnswered : Ask → List up.Message → SubmitHead → RetSubmitHead → List Put → State → Type 0
OutAnswered ask ups head answer downs s =
    ((answer.status ≡ success) × (answer.actual ≡ head.length) × Asking (record ask { answered = ask.answered + 1 }) ups downs s)
    ⊎ ((answer.status ≡ stalled) × (s.halted.bulk_out ≡ true) × Asking ask ups downs s)

-- What a host has behind the last read of a piece, which had these bytes.
pub record PieceEnd (ask : Ask) (bytes : List ℕ) (ups : List up.Message) (downs : List Put) (s : State) : Type 0 where
  -- the response to its message, the data of the piece, and EOM
  pub response : List ℕ
  pub carried : List ℕ
  pub eom : Bool
  pub ran : Ran ask.last ask.message response s.log
  pub some : 1 ≤ length carried
  pub fits : length carried ≤ ask.size
  -- the transfer: its header has the tag of the request, then come the data and its alignment
  pub text : ask.read ++ bytes ≡ in_header_bytes (record { tag = ask.tag; size = length carried; eom = eom }) ++ (carried ++ alignment_of (length carried))
  -- the data goes on where the earlier pieces ended, and the rest is unread
  pub all : response ≡ (ask.sofar ++ carried) ++ unread s
  -- with EOM the host has the whole response; without EOM output is unread, and the response is longer
  pub ended : eom ≡ true → response ≡ ask.sofar ++ carried
  pub longer : eom ≡ false → unread s ≢ []
  -- where all that was written was answered, the ask goes on with another request
  pub next : (tag size : ℕ) → ask.answered ≡ length ask.written
      → Asking (record ask { tag = tag; size = size; written = []; answered = 0; sofar = ask.sofar ++ carried; read = [] }) ups downs s

-- An answer to a read was taken: it is full, it ends the piece, or it tells of a halt of Bulk-IN, and the ask stays in hand.
pub data InAnswered (ask : Ask) (ups : List up.Message) (event : Event) (downs : List Put) (s : State) : Type 0 where
  TookFull : (x : Answered) → event ≡ answer x → length x.bytes ≡ read_size → Asking (record ask { read = ask.read ++ x.bytes }) ups downs s
      → InAnswered ask ups event downs s
  TookEnd : (x : Answered) → event ≡ answer x → length x.bytes < read_size → PieceEnd ask x.bytes ups downs s → InAnswered ask ups event downs s
  TookHalt : s.halted.bulk_in ≡ true → IsHalted (event ∷ []) → Asking ask ups downs s → InAnswered ask ups event downs s

-- the next part of the message, behind parts that make the first of it
pub record IsNext (last : ℕ) (message : List ℕ) (tag size : ℕ) (past : List Job) (job : Job) (sofar : List ℕ) : Type 0 where
  pub rest : List ℕ
  pub inner : IsInner (last_header past)
  pub left : message ≡ data_in past ++ rest
  pub carries : Carries last tag size rest (job ∷ [])
  pub unread : sofar ≡ []

-- the transfer is the next part of the ask's message
abbrev pub IsNextOf : Ask → Job → Type 0
IsNextOf ask job = IsNext ask.last ask.message ask.tag ask.size ask.written job ask.sofar

-- the messages of unlinks
abbrev pub unlinks_of : List UnlinkHead → List up.Message
unlinks_of [] = []
unlinks_of (head ∷ heads) = up.Unlink head ∷ unlinks_of heads

-- The first submit of an endpoint's list was answered to an ask that a cancel has reached. Whichever ask is in hand behind that answer, it
-- is a cancelled one, with the submits that are left and with the same unlinks.
pub record IsLeft (asked : Endpoint → List SubmitHead) (unlinks : List UnlinkHead) (endpoint : Endpoint) (head : SubmitHead) (ups : List up.Message) (downs : List Put) (s : State) : Type 0 where
  pub rest : List SubmitHead
  pub first : asked endpoint ≡ head ∷ rest
  pub later : (left : Endpoint → List SubmitHead) → left endpoint ≡ rest → ((other : Endpoint) → other ≢ endpoint → left other ≡ asked other)
      → (ask : Ask) → Asking ask ups downs s → Cancelled left unlinks ask ups downs s
