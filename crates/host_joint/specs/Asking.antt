-- an ask in hand: what a host wrote and read of it, against the device
use Rattle.std.specs.Prelude.{◌≡◌, ◌≢◌, ◌⊎◌, ℕ, ◌+◌, ◌≤◌, Bool, true, false, List, [], ◌∷◌, ◌++◌, length, None}
use Rattle.usbip_wire.specs.declared.submit.SubmitHead.{SubmitHead}
use Rattle.usbip_wire.specs.declared.unlink.UnlinkHead.{UnlinkHead}
use Rattle.usbip_wire.specs.Up as up
use Rattle.tmc_law.specs.Endpoint.{Endpoint, Control, BulkOut, BulkIn}
use Rattle.tmc_law.specs.State.{State, Pending, Idle, Nothing, queue_of}
use Rattle.tmc_law.specs.Put.{Put, success, stalled}
use Rattle.tmc_law.specs.BulkOut.{message_most}
use Rattle.tmc_law.specs.Halts.{unplug_answers}
use Rattle.tmc_law.specs.Step.{Move, Comes, Unplug}
use Rattle.tmc_law.specs.Run.{Entry}
use Rattle.host_joint.specs.Lines.{Lines, Sent, sent_to, Event, Gives, Drops, events_of, unlinks_in}
use Rattle.host_joint.specs.Unlinking.{IsBulk, Unlinking}
use Rattle.host_joint.specs.Jobs.{Job, AllJobs, OutLine}
use Rattle.host_joint.specs.Reads.{IsRead, Flow, InLine, gives}
use Rattle.host_joint.specs.Stage.{Stage, IsAnother, NoExec}

-- What a host knows of its ask: a message, and the response that it reads piece by piece.
pub record Ask : Type 0 where
  -- the message, and the number of the submit that ends it, under which it will be executed
  pub last : ℕ
  pub message : List ℕ
  -- the tag of the request of the piece in hand, and the most bytes that it asks for
  pub tag : ℕ
  pub size : ℕ
  -- the transfers that were written since the last piece was read to its end, and how many were answered as taken
  pub written : List Job
  pub answered : ℕ
  -- the data of the pieces that were read to their end, and the bytes that were read of the next one's transfer
  pub sofar : List ℕ
  pub read : List ℕ
  -- whether submits were unlinked
  pub gone : Bool

-- these submits are reads
abbrev pub SentReads : List Sent → Type 0
SentReads [] = Unit {0}
SentReads (submit ∷ submits) = IsRead submit.head × (submit.transferred ≡ []) × SentReads submits

-- So many of these answers are of transfers that were taken whole, and the others, behind them, tell of a halt of Bulk-OUT; `shut`
-- says whether it is halted. The answers to unlinks say nothing here.
abbrev pub AllTaken : (shut : Bool) (count : ℕ) → List Event → Type 0
AllTaken shut count [] = count ≡ 0
AllTaken shut count (Gives head answer transferred ∷ events) =
    ((answer.status ≡ success) × (answer.actual ≡ head.length) × (more : ℕ) × (count ≡ more + 1) × AllTaken shut more events)
    ⊎ ((answer.status ≡ stalled) × (shut ≡ true) × (count ≡ 0) × AllTaken shut 0 events)
AllTaken shut count (Drops n ∷ events) = AllTaken shut count events

-- Nothing else goes on: no control request is pending or on its way, no abort and no clear runs, and no unlink is on its way
-- before the host made one. Interrupt-IN is free.
pub record Calm (gone : Bool) (ups : List up.Message) (s : State) : Type 0 where
  pub control : s.control ≡ []
  pub none_comes : sent_to Control ups ≡ []
  pub running : s.running ≡ Nothing
  pub unlinks : gone ≡ false → unlinks_in ups ≡ []

-- An ask in hand, with these messages on their way to the device and these answers on their way back.
pub record Asking (ask : Ask) (ups : List up.Message) (downs : List Put) (s : State) : Type 0 where
  -- of the transfers that were written: those that were taken whole, those that were not yet, and those that never will be,
  -- because they were unlinked or Bulk-OUT halted
  pub past : List Job
  pub todo : List Job
  pub hit : List Job
  pub whole : ask.written ≡ past ++ (todo ++ hit)
  pub missed : ask.gone ≡ false → s.halted.bulk_out ≡ false → hit ≡ []
  pub jobs : AllJobs todo
  pub short : length ask.message ≤ message_most
  -- Bulk-OUT: where the transfers are
  pub out : OutLine s.halted.bulk_out ask.gone todo (sent_to BulkOut ups) s.bulk_out s.transfer
  -- how many good answers to them are on their way, so that the host comes to know how many were taken
  pub came : ℕ
  pub taken : AllTaken s.halted.bulk_out came (events_of BulkOut downs)
  pub counted : length past ≡ ask.answered + came
  -- the instrument: how far it is with the ask, and how far the piece in hand was given
  pub flow : Flow
  pub stage : Stage ask.last ask.message ask.tag ask.size past todo ask.sofar flow s
  -- Bulk-IN: where the bytes of the piece in hand are
  pub ins : InLine s.halted.bulk_in ask.gone flow ask.read (gives (events_of BulkIn downs)) (sent_to BulkIn ups) s.bulk_in
  pub reads : SentReads (sent_to BulkIn ups)
  pub calm : Calm ask.gone ups s

-- The device as an ask under this number finds it: nothing is in progress, though a message of an earlier ticket may wait, and
-- endpoints may be halted.
pub record AtRest (last : ℕ) (s : State) : Type 0 where
  pub control : s.control ≡ []
  pub bulk_out : s.bulk_out ≡ []
  pub bulk_in : s.bulk_in ≡ []
  pub transfer : s.transfer ≡ None
  pub part : s.part ≡ []
  pub waiting : IsAnother last s.waiting
  pub side : s.side ≡ Idle
  pub running : s.running ≡ Nothing
  pub log : NoExec last s.log

-- where an unlink hits a bulk submit, it is the last of its queue, and none comes behind it
abbrev pub HitsLast : UnlinkHead → List up.Message → State → Type 0
HitsLast head ups s =
    (e : Endpoint) (before : List Pending) (submit : Pending) (behind : List Pending) → IsBulk e → queue_of e s ≡ before ++ submit ∷ behind
    → submit.head.seqnum ≡ head.target → (behind ≡ []) × (sent_to e ups ≡ [])

-- the move does not unplug the device, and an unlink that it takes in hits the last submit of a queue
abbrev pub IsSafe : Move → List up.Message → State → Type 0
IsSafe Unplug ups s = ⊥
IsSafe (Comes (up.Unlink head)) ups s = HitsLast head ups s
IsSafe _ ups s = Unit {0}

-- no step of a run unplugs the device
abbrev pub StaysPlugged : List Entry → Type 0
StaysPlugged [] = Unit {0}
StaysPlugged (entry ∷ run) = (entry.move ≢ Unplug) × StaysPlugged run

-- An ask that a cancel has reached: each of its bulk submits that was not answered has an unlink, in falling order.
pub record Cancelled (asked : Endpoint → List SubmitHead) (unlinks : List UnlinkHead) (ask : Ask) (ups : List up.Message) (downs : List Put) (s : State) : Type 0 where
  pub lines : Lines asked unlinks ups downs s
  pub order : Unlinking asked unlinks
  pub asking : Asking ask ups downs s

-- An ask whose device was unplugged: it was in hand until then, and behind the answers that were on their way come those of all
-- that was pending. The instrument is as it was, and nothing more happens.
pub record WasAsking (ask : Ask) (ups : List up.Message) (downs : List Put) (t : State) : Type 0 where
  pub before : State
  pub front : List Put
  pub asking : Asking ask ups front before
  pub behind : downs ≡ front ++ unplug_answers before
  pub log : t.log ≡ before.log
  pub standing : t.standing ≡ before.standing

-- Nothing of a ticket is on its way in either direction; submits to Interrupt-IN and their answers may be.
pub record IsQuiet (ups : List up.Message) (downs : List Put) : Type 0 where
  pub control : sent_to Control ups ≡ []
  pub bulk_out : sent_to BulkOut ups ≡ []
  pub bulk_in : sent_to BulkIn ups ≡ []
  pub unlinks : unlinks_in ups ≡ []
  pub outs : events_of BulkOut downs ≡ []
  pub ins : events_of BulkIn downs ≡ []
