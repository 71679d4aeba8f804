-- what ties a host to a lawful device behind a cancel of an ask that is read, and in the recovery behind it (USBTMC 1.0, sections
-- 4.2.1.2 to 4.2.1.7)
use Rattle.std.specs.Prelude.{◌≡◌, ◌≢◌, ◌⊎◌, ℕ, ◌==◌, ◌<◌, ◌≤◌, Bool, true, false, if◌then◌else◌, Option, Some, None, List, [], ◌∷◌, ◌++◌, length}
use Rattle.usbip_wire.specs.declared.submit.SubmitHead.{SubmitHead}
use Rattle.usbip_wire.specs.declared.unlink.UnlinkHead.{UnlinkHead}
use Rattle.usbip_wire.specs.declared.ret_submit.RetSubmitHead.{RetSubmitHead}
use Rattle.usbip_wire.specs.Up as up
use Rattle.tmc_wire.specs.declared.header.OutHeader.TheVariants.{Request}
use Rattle.tmc_wire.specs.declared.class_request.ClassRequest.TheVariants.{AbortOut, CheckOut, AbortIn, CheckIn, Clear, CheckClear}
use Rattle.tmc_wire.specs.Standard.{header_size}
use Rattle.tmc_wire.specs.Header.{IsTag, IsSize}
use Rattle.tmc_law.specs.Endpoint.{Endpoint, Control, BulkOut, BulkIn, number_of}
use Rattle.tmc_law.specs.State.{State, start, is_halted}
use Rattle.tmc_law.specs.Aborts.{tag_of}
use Rattle.tmc_law.specs.Put.{Put, Submitted, Unlinked, success, stalled}
use Rattle.tmc_law.specs.AnswerFits.{AllAnswers, FitsSubmit, FitsUnlink}
use Rattle.tmc_law.specs.Numbers.{AllBelow, Rises, numbers}
use Rattle.tmc_law.specs.Run.{Entry, Runs, IsFront}
use Rattle.host_joint.specs.Lines.{Lines, Fitting, AllFitting, InOrder, sent_to, events_of}
use Rattle.host_joint.specs.Jobs.{Job, last_header}
use Rattle.host_joint.specs.Reads.{read_size, IsRead}
use Rattle.host_joint.specs.Unlinking.{Unlinking}
use Rattle.host_joint.specs.Stage.{Ran, IsInner, IsFinal, IsUnasked}
use Rattle.host_joint.specs.Asking.{Ask, Asking}
use Rattle.host_joint.specs.Positions.{Position, IsAt, rests, in_begun, in_wants, in_ended, out_begun, out_first, out_unfinished, out_aborted, anything, clears, cleared}
use Rattle.host_joint.specs.Requests.{Choice, RequestAt, IsClass, IsClearHalt, in_aborts, in_fails, in_checked, in_pending, out_rests, out_aborts, out_fails, out_checked, out_pending, begins_clear, never, clear_checked, clear_pending, usable_again, usable_cleared}
use Rattle.host_joint.specs.Drains.{DrainAt}
use Rattle.host_joint.specs.Hand.{Hand, Free}
use Rattle.host_joint.specs.Pieces.{IsPiece, BeginsPiece}
use Rattle.host_joint.specs.Tie.{asked_of, ask_with}

-- an answer to a submit to an endpoint of the instrument, or to an unlink, which fits it
abbrev pub IsFit : Put → Type 0
IsFit (Submitted asked answer transferred) = Fitting asked × FitsSubmit asked answer transferred
IsFit (Unlinked asked answer) = FitsUnlink asked answer

-- A host and a lawful device, with endpoints that may be halted: what holds of the messages on their way and of the device's state,
-- the submits and unlinks that are not answered, and the number of the next one.
pub record Bond (Holds : List up.Message → List Put → State → Type 0) (asked : Endpoint → List SubmitHead) (unlinks : List UnlinkHead) (next : ℕ) (ups : List up.Message) (downs : List Put) (s : State) : Type 0 where
  -- the device came here from power-on
  pub run : List Entry
  pub reached : Runs start run s
  -- what is not answered is on its way, pending, or answered on the way back
  pub lines : Lines asked unlinks ups downs s
  pub fitting : AllFitting ups
  pub order : InOrder ups
  pub fits : AllAnswers IsFit downs
  -- the numbers of what took effect, waits and comes rise, and the next one is above them
  pub rises : Rises (numbers s ups)
  pub below : AllBelow next (numbers s ups)
  pub held : Holds ups downs s

-- ---- the situations

-- what a host knows of its ask, of which submits were unlinked
abbrev pub cancelled_with : (last : ℕ) (message : List ℕ) (tag size : ℕ) (written : List Job) (answered : ℕ) (sofar read : List ℕ) → Ask
cancelled_with last message tag size written answered sofar read = record (ask_with last message tag size written answered sofar read) { gone = true }

-- the request was answered as taken, where the one submit that is not answered is no transfer
abbrev pub taken_of : SubmitHead → Bool
taken_of head = if head.ep == number_of BulkOut then false else true

-- an unlink names the one submit that is not answered
abbrev pub IsUnlinkOf : Option SubmitHead → UnlinkHead → Type 0
IsUnlinkOf None unlink = Unit {0}
IsUnlinkOf (Some head) unlink = unlink.target ≡ head.seqnum

-- an ask that was cancelled while a piece was requested, and of which these bytes were read; `taken` says whether its request was
-- answered as taken
pub record WasReading (last : ℕ) (message : List ℕ) (tag size : ℕ) (sofar read : List ℕ) (taken : Bool) (ups : List up.Message) (downs : List Put) (s : State) : Type 0 where
  pub front : List Job
  pub request : Job
  pub answered : ℕ
  pub asking : Asking (cancelled_with last message tag size (front ++ request ∷ []) answered sofar read) ups downs s
  pub counted : answered ≡ (if taken then length (front ++ request ∷ []) else length front)
  pub behind : IsUnasked front sofar
  pub header : request.header ≡ Request tag size
  pub tagged : IsTag tag
  pub sized : IsSize size
  pub long : (read ≡ []) ⊎ (header_size ≤ length read)

-- an ask that was cancelled, and whose piece was read to its end all the same
pub record WasRead (last : ℕ) (message sofar : List ℕ) (ups : List up.Message) (downs : List Put) (s : State) : Type 0 where
  pub tag : ℕ
  pub size : ℕ
  pub asking : Asking (cancelled_with last message tag size [] 0 sofar []) ups downs s
  pub some : sofar ≢ []

-- the transfer that a host writes next is the first one of its message
abbrev pub begins : Hand → Bool
begins Free = true
begins _ = false

-- A message whose last transfer so far has this tag: whether it is the first one, whether it ends the message, and whether it was answered
-- as taken.
pub record WasSaying (tag : ℕ) (first ended taken : Bool) (ups : List up.Message) (downs : List Put) (s : State) : Type 0 where
  pub last : ℕ
  pub message : List ℕ
  pub mark : ℕ
  pub size : ℕ
  pub front : List Job
  pub job : Job
  pub answered : ℕ
  pub asking : Asking (cancelled_with last message mark size (front ++ job ∷ []) answered [] []) ups downs s
  pub counted : answered ≡ (if taken then length (front ++ job ∷ []) else length front)
  pub inner : IsInner (last_header front)
  pub header : tag_of job.header ≡ tag
  pub alone : first ≡ true → front ≡ []
  pub goes_on : ended ≡ false → IsInner (Some job.header)
  pub final : ended ≡ true → IsFinal (Some job.header)

-- the submit was unlinked, as falls to a cancel, or nothing was
abbrev pub MayBeCancelled : Option SubmitHead → List UnlinkHead → Type 0
MayBeCancelled waits unlinks = Unlinking (asked_of waits) unlinks ⊎ (unlinks ≡ [])

-- a device between two requests of a recovery
pub data Place : Type 0 where
  -- nothing is in progress
  Resting : Place
  -- a Bulk-IN transfer of this tag is to be aborted, unless it is over
  ToAbortIn : (tag : ℕ) → Place
  -- it is aborted and wants its packet; that was given
  WantsPacket : Place
  GavePacket : Place
  -- a Bulk-OUT transfer of this tag is to be aborted, unless it never began; the same, where no part of a message was taken
  ToAbortOut : (tag : ℕ) → Place
  ToAbortFirst : (tag : ℕ) → Place
  -- no transfer is in progress, and an unfinished message may be there
  Unfinished : Place
  -- a Bulk-OUT transfer is aborted
  AbortedOut : Place
  -- whatever it does; a clear runs; it is over
  Anywhere : Place
  Clearing : Place
  BehindClear : Place

abbrev pub position_of : Place → Position
position_of Resting = rests
position_of (ToAbortIn tag) = in_begun tag
position_of WantsPacket = in_wants
position_of GavePacket = in_ended
position_of (ToAbortOut tag) = out_begun tag
position_of (ToAbortFirst tag) = out_first tag
position_of Unfinished = out_unfinished
position_of AbortedOut = out_aborted
position_of Anywhere = anything
position_of Clearing = clears
position_of BehindClear = cleared

-- a request of a recovery
pub data Letter : Type 0 where
  AbortsIn : (tag : ℕ) → Letter
  ChecksIn : Letter
  AbortsOut : (tag : ℕ) → Letter
  AbortsFirst : (tag : ℕ) → Letter
  ChecksOut : Letter
  BeginsClear : Letter
  ChecksClear : Letter
  -- CLEAR_FEATURE of an endpoint's halt, behind an abort and behind a clear
  Frees : (endpoint : Endpoint) → Letter
  FreesBehind : (endpoint : Endpoint) → Letter

-- a submit is this request
abbrev pub IsOf : SubmitHead → Letter → Type 0
IsOf head (AbortsIn tag) = IsClass head (AbortIn tag)
IsOf head ChecksIn = IsClass head CheckIn
IsOf head (AbortsOut tag) = IsClass head (AbortOut tag)
IsOf head (AbortsFirst tag) = IsClass head (AbortOut tag)
IsOf head ChecksOut = IsClass head CheckOut
IsOf head BeginsClear = IsClass head Clear
IsOf head ChecksClear = IsClass head CheckClear
IsOf head (Frees endpoint) = IsClearHalt head endpoint
IsOf head (FreesBehind endpoint) = IsClearHalt head endpoint

-- where it finds the device
abbrev pub finds : Letter → Place
finds (AbortsIn tag) = ToAbortIn tag
finds ChecksIn = GavePacket
finds (AbortsOut tag) = ToAbortOut tag
finds (AbortsFirst tag) = ToAbortFirst tag
finds ChecksOut = AbortedOut
finds BeginsClear = Anywhere
finds ChecksClear = Clearing
finds (Frees endpoint) = Resting
finds (FreesBehind endpoint) = BehindClear

-- its two answers, the second of which some never have, and where each leaves the device
abbrev pub one_of : Letter → Choice
one_of (AbortsIn tag) = in_aborts tag
one_of ChecksIn = in_checked
one_of (AbortsOut tag) = out_aborts tag
one_of (AbortsFirst tag) = out_aborts tag
one_of ChecksOut = out_checked
one_of BeginsClear = begins_clear
one_of ChecksClear = clear_checked
one_of (Frees endpoint) = usable_again
one_of (FreesBehind endpoint) = usable_cleared

abbrev pub other_of : Letter → Choice
other_of (AbortsIn tag) = in_fails
other_of ChecksIn = in_pending
other_of (AbortsOut tag) = out_fails
other_of (AbortsFirst tag) = out_rests
other_of ChecksOut = out_pending
other_of BeginsClear = never
other_of ChecksClear = clear_pending
other_of (Frees endpoint) = never
other_of (FreesBehind endpoint) = never

abbrev pub leaves : Letter → Place
leaves (AbortsIn tag) = WantsPacket
leaves ChecksIn = Resting
leaves (AbortsOut tag) = AbortedOut
leaves (AbortsFirst tag) = AbortedOut
leaves ChecksOut = Resting
leaves BeginsClear = Clearing
leaves ChecksClear = BehindClear
leaves (Frees endpoint) = Resting
leaves (FreesBehind endpoint) = BehindClear

abbrev pub leaves_else : Letter → Place
leaves_else (AbortsIn tag) = Resting
leaves_else ChecksIn = GavePacket
leaves_else (AbortsOut tag) = Unfinished
leaves_else (AbortsFirst tag) = Resting
leaves_else ChecksOut = AbortedOut
leaves_else BeginsClear = Anywhere
leaves_else ChecksClear = Clearing
leaves_else (Frees endpoint) = Anywhere
leaves_else (FreesBehind endpoint) = Anywhere

-- what a host is at behind a cancel
pub data Situation : Type 0 where
  -- an ask that is cancelled, or may be, is read yet, or its request is yet to be answered
  Reading : (last : ℕ) (message : List ℕ) (tag size : ℕ) (sofar read : List ℕ) (taken : Bool) → Situation
  -- the last transfer so far of a message is cancelled, or may be
  Saying : (tag : ℕ) (first ended taken : Bool) → Situation
  -- its piece was read to the end
  Read : (last : ℕ) (message sofar : List ℕ) → Situation
  -- between two requests of the recovery
  Stands : (place : Place) → Situation
  -- a request of the recovery is not answered, or the read of its drain
  Requests : (head : SubmitHead) (letter : Letter) → Situation
  Drains : (head : SubmitHead) → Situation

abbrev pub Holds : Situation → List up.Message → List Put → State → Type 0
Holds (Reading last message tag size sofar read taken) ups downs s = WasReading last message tag size sofar read taken ups downs s
Holds (Saying tag first ended taken) ups downs s = WasSaying tag first ended taken ups downs s
Holds (Read last message sofar) ups downs s = WasRead last message sofar ups downs s
Holds (Stands place) ups downs s = IsAt (position_of place) s
Holds (Requests head letter) ups downs s = RequestAt head (position_of (finds letter)) (one_of letter) (other_of letter) (sent_to Control ups) (events_of Control downs) s
Holds (Drains head) ups downs s = DrainAt head (sent_to BulkIn ups) (events_of BulkIn downs) s

-- which submit and which unlinks are not answered then
abbrev pub Waits : Situation → Option SubmitHead → List UnlinkHead → Type 0
Waits (Reading last message tag size sofar read taken) waits unlinks = MayBeCancelled waits unlinks
Waits (Saying tag first ended taken) waits unlinks = MayBeCancelled waits unlinks
Waits (Read last message sofar) waits unlinks = MayBeCancelled waits unlinks
Waits (Stands place) waits unlinks = (waits ≡ None) × (unlinks ≡ [])
Waits (Requests head letter) waits unlinks = (waits ≡ Some head) × (unlinks ≡ []) × IsOf head letter
Waits (Drains head) waits unlinks = (waits ≡ Some head) × (unlinks ≡ []) × IsRead head

-- A host and a lawful device in a situation behind a cancel: the one submit and the unlinks that are not answered, the number of the next
-- one, the messages on their way in both directions, and the device's state.
pub record Bound (situation : Situation) (waits : Option SubmitHead) (unlinks : List UnlinkHead) (next : ℕ) (ups : List up.Message) (downs : List Put) (s : State) : Type 0 where
  pub bond : Bond (Holds situation) (asked_of waits) unlinks next ups downs s
  pub awaited : Waits situation waits unlinks

-- ---- what a host is given in them

-- the answer to the one submit of a cancelled ask: its status is 0, or its endpoint is halted
pub data StillGoes (last : ℕ) (message : List ℕ) (tag size : ℕ) (sofar read : List ℕ) (head : SubmitHead) (answer : RetSubmitHead) (transferred : List ℕ) (unlinks : List UnlinkHead) (next : ℕ) (ups : List up.Message) (downs : List Put) (s : State) : Type 0 where
  -- the request was taken
  StillTaken : head.ep ≡ number_of BulkOut → answer.status ≡ success → answer.actual ≡ head.length
      → Bound (Reading last message tag size sofar read true) None unlinks next ups downs s
      → StillGoes last message tag size sofar read head answer transferred unlinks next ups downs s
  -- a read came full
  StillFull : head.ep ≡ number_of BulkIn → answer.status ≡ success → answer.actual ≡ length transferred → length transferred ≡ read_size
      → BeginsPiece tag size (read ++ transferred)
      → Bound (Reading last message tag size sofar (read ++ transferred) true) None unlinks next ups downs s
      → StillGoes last message tag size sofar read head answer transferred unlinks next ups downs s
  -- a short read ended the piece: the data that the host has is a front of the response, and with EOM all of it
  StillEnds : (eom : Bool) (carried response : List ℕ) → head.ep ≡ number_of BulkIn → answer.status ≡ success → answer.actual ≡ length transferred
      → length transferred < read_size → IsPiece tag size eom carried (read ++ transferred) → Ran last message response s.log
      → IsFront (sofar ++ carried) response → (eom ≡ true → response ≡ sofar ++ carried) → (eom ≡ false → length (sofar ++ carried) < length response)
      → Bound (Read last message (sofar ++ carried)) None unlinks next ups downs s
      → StillGoes last message tag size sofar read head answer transferred unlinks next ups downs s
  -- its endpoint is halted
  StillHalted : (endpoint : Endpoint) → head.ep ≡ number_of endpoint → is_halted endpoint s ≡ true → answer.status ≡ stalled
      → Bound (Reading last message tag size sofar read (taken_of head)) None unlinks next ups downs s
      → StillGoes last message tag size sofar read head answer transferred unlinks next ups downs s

-- the answer to a transfer of a message: it was taken whole, or Bulk-OUT is halted
abbrev pub TakesPart : (tag : ℕ) (first ended : Bool) (head : SubmitHead) (answer : RetSubmitHead) (unlinks : List UnlinkHead) (next : ℕ) (ups : List up.Message) (downs : List Put) → State → Type 0
TakesPart tag first ended head answer unlinks next ups downs s =
    ((answer.status ≡ success) × (answer.actual ≡ head.length) × Bound (Saying tag first ended true) None unlinks next ups downs s)
    ⊎ ((answer.status ≡ stalled) × (is_halted BulkOut s ≡ true) × Bound (Saying tag first ended false) None unlinks next ups downs s)

-- an answer to a request of the recovery has one of two layouts, and leaves the device where that one says
pub data Said (letter : Letter) (layout : List ℕ) (next : ℕ) (ups : List up.Message) (downs : List Put) (s : State) : Type 0 where
  SaidOne : (one_of letter).layout layout → Bound (Stands (leaves letter)) None [] next ups downs s → Said letter layout next ups downs s
  SaidOther : (other_of letter).layout layout → Bound (Stands (leaves_else letter)) None [] next ups downs s → Said letter layout next ups downs s

-- the read of the drain ended short, with no bytes, or Bulk-IN halted
pub data Drained (answer : RetSubmitHead) (next : ℕ) (ups : List up.Message) (downs : List Put) (s : State) : Type 0 where
  DrainedShort : answer.status ≡ success → answer.actual ≡ 0 → Bound (Stands GavePacket) None [] next ups downs s → Drained answer next ups downs s
  DrainedHalted : answer.status ≡ stalled → Bound (Stands WantsPacket) None [] next ups downs s → Drained answer next ups downs s
