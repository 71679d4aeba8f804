-- what ties a host to a lawful device, while nothing disturbs them: what it has in hand, the one submit that is not answered, the
-- messages on their way, and the device's state
use Rattle.std.specs.Prelude.{◌≡◌, ◌≢◌, ◌⊎◌, ℕ, ◌+◌, ◌==◌, ◌<◌, ◌≤◌, if◌then◌else◌, true, false, Option, Some, None, List, [], ◌∷◌, ◌++◌, length, take, drop}
use Rattle.usbip_wire.specs.declared.submit.SubmitHead.{SubmitHead}
use Rattle.usbip_wire.specs.declared.ret_submit.RetSubmitHead.{RetSubmitHead}
use Rattle.usbip_wire.specs.Up as up
use Rattle.tmc_wire.specs.declared.header.OutHeader.TheVariants.{Request}
use Rattle.tmc_wire.specs.Standard.{header_size}
use Rattle.tmc_wire.specs.Header.{IsTag, IsSize}
use Rattle.tmc_wire.specs.HeaderFault.{TransferSize}
use Rattle.tmc_law.specs.Endpoint.{Endpoint, BulkOut, BulkIn, number_of}
use Rattle.tmc_law.specs.State.{State, start}
use Rattle.tmc_law.specs.Logging.{unread}
use Rattle.tmc_law.specs.Put.{Put, Submitted, Unlinked, success}
use Rattle.tmc_law.specs.AnswerFits.{AllAnswers, FitsSubmit}
use Rattle.tmc_law.specs.Numbers.{AllBelow, Rises, numbers}
use Rattle.tmc_law.specs.Step.{Halt, Unplug}
use Rattle.tmc_law.specs.Run.{Entry, Runs, IsFront}
use Rattle.host_joint.specs.Lines.{Lines, Fitting, AllFitting}
use Rattle.host_joint.specs.Jobs.{Job, last_header, data_in}
use Rattle.host_joint.specs.Reads.{read_size}
use Rattle.host_joint.specs.Stage.{Ran, IsInner, IsFinal, IsUnasked}
use Rattle.host_joint.specs.Asking.{Ask, Asking}
use Rattle.host_joint.specs.Positions.{IsAt, rests}
use Rattle.host_joint.specs.Hand.{Hand, Free, Says, Said, Reads, Pauses}
use Rattle.host_joint.specs.Pieces.{IsPiece, BeginsPiece}

-- nothing disturbs the device in this run: it is not unplugged, and no endpoint halts by itself
abbrev pub IsUndisturbed : List Entry → Type 0
IsUndisturbed [] = Unit {0}
IsUndisturbed (entry ∷ run) = (entry.move ≢ Unplug) × ((endpoint : Endpoint) → entry.move ≢ Halt endpoint) × IsUndisturbed run

-- the one submit that is not answered, among those of its endpoint
abbrev pub asked_of : Option SubmitHead → Endpoint → List SubmitHead
asked_of None endpoint = []
asked_of (Some head) endpoint = if head.ep == number_of endpoint then head ∷ [] else []

-- how many transfers to Bulk-OUT are not answered
abbrev pub transfers_of : Option SubmitHead → ℕ
transfers_of None = 0
transfers_of (Some head) = if head.ep == number_of BulkOut then 1 else 0

-- it is one to Bulk-OUT, or to a bulk endpoint
abbrev pub IsOut : Option SubmitHead → Type 0
IsOut None = Unit {0}
IsOut (Some head) = head.ep ≡ number_of BulkOut

abbrev pub IsOutOrIn : Option SubmitHead → Type 0
IsOutOrIn None = Unit {0}
IsOutOrIn (Some head) = (head.ep ≡ number_of BulkOut) ⊎ (head.ep ≡ number_of BulkIn)

-- an answer to a submit to an endpoint of the instrument, which fits it
abbrev pub IsGood : Put → Type 0
IsGood (Submitted asked answer transferred) = Fitting asked × FitsSubmit asked answer transferred
IsGood (Unlinked asked answer) = ⊥

-- what a host knows of its ask, of which no submit was unlinked
abbrev pub ask_with : (last : ℕ) (message : List ℕ) (tag size : ℕ) (written : List Job) (answered : ℕ) (sofar read : List ℕ) → Ask
ask_with last message tag size written answered sofar read = record {
  last = last;
  message = message;
  tag = tag;
  size = size;
  written = written;
  answered = answered;
  sofar = sofar;
  read = read;
  gone = false;
}

-- a message is in hand whose last transfer so far goes on; the number that will end it and the request are open yet
pub record IsSaying (message said : List ℕ) (waits : Option SubmitHead) (ups : List up.Message) (downs : List Put) (s : State) : Type 0 where
  pub last : ℕ
  pub tag : ℕ
  pub size : ℕ
  pub front : List Job
  pub job : Job
  pub answered : ℕ
  pub asking : Asking (ask_with last message tag size (front ++ job ∷ []) answered [] []) ups downs s
  pub counted : length (front ++ job ∷ []) ≡ answered + transfers_of waits
  pub inner : IsInner (last_header front)
  pub goes_on : IsInner (Some job.header)
  pub so_far : data_in (front ++ job ∷ []) ≡ said
  pub out : IsOut waits

-- a message is in hand that was written whole, with its last transfer; its request is open yet
pub record HasSaid (last : ℕ) (message : List ℕ) (waits : Option SubmitHead) (ups : List up.Message) (downs : List Put) (s : State) : Type 0 where
  pub tag : ℕ
  pub size : ℕ
  pub front : List Job
  pub job : Job
  pub answered : ℕ
  pub asking : Asking (ask_with last message tag size (front ++ job ∷ []) answered [] []) ups downs s
  pub counted : length (front ++ job ∷ []) ≡ answered + transfers_of waits
  pub inner : IsInner (last_header front)
  pub ended : IsFinal (Some job.header)
  pub out : IsOut waits

-- a piece is in hand: its request was written behind the whole message, or behind the end of a piece; once bytes of it were read, its
-- header is among them
pub record IsReading (last : ℕ) (message : List ℕ) (tag size : ℕ) (sofar read : List ℕ) (waits : Option SubmitHead) (ups : List up.Message) (downs : List Put) (s : State) : Type 0 where
  pub front : List Job
  pub request : Job
  pub answered : ℕ
  pub asking : Asking (ask_with last message tag size (front ++ request ∷ []) answered sofar read) ups downs s
  pub counted : length (front ++ request ∷ []) ≡ answered + transfers_of waits
  pub behind : IsUnasked front sofar
  pub header : request.header ≡ Request tag size
  pub tagged : IsTag tag
  pub sized : IsSize size
  pub long : (read ≡ []) ⊎ (header_size ≤ length read)
  pub bulk : IsOutOrIn waits

-- pieces were read, and output is unread
pub record HasRead (last : ℕ) (message sofar : List ℕ) (waits : Option SubmitHead) (ups : List up.Message) (downs : List Put) (s : State) : Type 0 where
  pub tag : ℕ
  pub size : ℕ
  pub asking : Asking (ask_with last message tag size [] 0 sofar []) ups downs s
  pub some : sofar ≢ []
  pub more : unread s ≢ []
  pub none : waits ≡ None

abbrev pub Holds : Hand → Option SubmitHead → List up.Message → List Put → State → Type 0
Holds Free waits ups downs s = (waits ≡ None) × IsAt rests s
Holds (Says message said) waits ups downs s = IsSaying message said waits ups downs s
Holds (Said last message) waits ups downs s = HasSaid last message waits ups downs s
Holds (Reads last message tag size sofar read) waits ups downs s = IsReading last message tag size sofar read waits ups downs s
Holds (Pauses last message sofar) waits ups downs s = HasRead last message sofar waits ups downs s

-- A host and a lawful device: what the host has in hand, its one submit that is not answered, the number of its next submit, the
-- messages on their way to the device, the answers on their way back, and the device's state.
pub record Tie (hand : Hand) (waits : Option SubmitHead) (next : ℕ) (ups : List up.Message) (downs : List Put) (s : State) : Type 0 where
  -- the device came here from power-on
  pub run : List Entry
  pub reached : Runs start run s
  -- the submit is on its way, pending, or answered on the way back, and nothing else is
  pub lines : Lines (asked_of waits) [] ups downs s
  pub fitting : AllFitting ups
  pub good : AllAnswers IsGood downs
  -- no bulk endpoint is halted
  pub out_usable : s.halted.bulk_out ≡ false
  pub in_usable : s.halted.bulk_in ≡ false
  -- the numbers of what took effect, waits and comes rise, and the next one is above them
  pub rises : Rises (numbers s ups)
  pub below : AllBelow next (numbers s ups)
  -- and the instrument is as far as the host knows, or a lawful way further
  pub held : Holds hand waits ups downs s

-- ---- what a host is given

-- The answer to the one submit that is not answered has this data. Nothing of it is refused, and this is in hand then.
pub data Goes (hand : Hand) (head : SubmitHead) (actual : ℕ) (transferred : List ℕ) (next : ℕ) (ups : List up.Message) (downs : List Put) (s : State) : Type 0 where
  -- a transfer was taken whole
  TakesTransfer : head.ep ≡ number_of BulkOut → actual ≡ head.length → transferred ≡ [] → Tie hand None next ups downs s
      → Goes hand head actual transferred next ups downs s
  -- a read came full, and the piece goes on
  TakesFull : (last tag size : ℕ) (message sofar read : List ℕ) → hand ≡ Reads last message tag size sofar read → head.ep ≡ number_of BulkIn
      → actual ≡ length transferred → length transferred ≡ read_size → BeginsPiece tag size (read ++ transferred)
      → Tie (Reads last message tag size sofar (read ++ transferred)) None next ups downs s → Goes hand head actual transferred next ups downs s
  -- a short read ended a piece with EOM: the host has the whole response to its message
  TakesLast : (last tag size : ℕ) (message sofar read carried : List ℕ) → hand ≡ Reads last message tag size sofar read → head.ep ≡ number_of BulkIn
      → actual ≡ length transferred → length transferred < read_size → IsPiece tag size true carried (read ++ transferred)
      → Ran last message (sofar ++ carried) s.log → Tie Free None next ups downs s → Goes hand head actual transferred next ups downs s
  -- a short read ended a piece without EOM: the response is longer
  TakesPiece : (last tag size : ℕ) (message sofar read carried response : List ℕ) → hand ≡ Reads last message tag size sofar read → head.ep ≡ number_of BulkIn
      → actual ≡ length transferred → length transferred < read_size → IsPiece tag size false carried (read ++ transferred)
      → Ran last message response s.log → IsFront (sofar ++ carried) response → length (sofar ++ carried) < length response
      → Tie (Pauses last message (sofar ++ carried)) None next ups downs s → Goes hand head actual transferred next ups downs s

-- the next answer is the one to that submit: with its number, with status 0, and what it says
pub record IsGiven (hand : Hand) (head : SubmitHead) (put : Put) (next : ℕ) (ups : List up.Message) (downs : List Put) (s : State) : Type 0 where
  pub answer : RetSubmitHead
  pub transferred : List ℕ
  pub is : put ≡ Submitted head answer transferred
  pub number : answer.seqnum ≡ head.seqnum
  pub status : answer.status ≡ success
  pub goes : Goes hand head answer.actual transferred next ups downs s

-- ---- whose bytes a host has

-- the data in the first bytes of a piece's transfer
abbrev pub data_in_read : List ℕ → List ℕ
data_in_read read = take (TransferSize read) (drop header_size read)

-- They are a front of the one response that the log gives to its message, executed under its number.
abbrev pub IsOwned : (last : ℕ) (message got : List ℕ) → State → Type 0
IsOwned last message got s = (response : List ℕ) × Ran last message response s.log × IsFront got response

abbrev pub Owns : Hand → State → Type 0
Owns (Reads last message tag size sofar read) s = (sofar ++ data_in_read read ≡ []) ⊎ IsOwned last message (sofar ++ data_in_read read) s
Owns (Pauses last message sofar) s = IsOwned last message sofar s
Owns _ s = Unit {0}

-- ---- a message that was accepted

-- the device has the whole message under this number: it waits, or was executed
abbrev pub WasAccepted : (last : ℕ) (message : List ℕ) → State → Type 0
WasAccepted last message s = (s.waiting ≡ Some (record { seq = last; message = message })) ⊎ ((response : List ℕ) × Ran last message response s.log)
