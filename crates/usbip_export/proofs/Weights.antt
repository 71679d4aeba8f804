-- the calm moves come to an end: each makes what is left to do less
use Rattle.std.proofs.Common.{◌≡◌, ◌≢◌, ◌∙◌, ℕ, ◌+◌, ◌-◌, ◌<◌, ◌≤◌, true, false, List, [], ◌∷◌, length, Option, Some, None, refl, ap, length-append, arith}
use Rattle.instr_plain.specs.declared.log.LogEntry.{LogEntry}
use Rattle.tmc_wire.specs.declared.class_request.ClassRequest.{ClassRequest}
use Rattle.tmc_wire.specs.declared.class_request.ClassRequest.TheVariants.{AbortOut, CheckOut, AbortIn, CheckIn, Clear, CheckClear, Capabilities, Pulse, ReadStatus, Ren, GoLocal, Lockout}
use Rattle.tmc_law.specs.Endpoint.{Endpoint, Control, BulkOut, BulkIn, InterruptIn}
use Rattle.tmc_law.specs.State.{State, Pending, Waiting, Transfer, Side, Idle, Owed, Sending, Running, Nothing, AbortsOut, AbortsIn, Clears}
use Rattle.tmc_law.specs.Put.{Put}
use Rattle.tmc_law.specs.Logging.{Logs}
use Rattle.tmc_law.specs.BulkOut.{Interrupts, Dropped, NothingUnread, LaterPart, TakesEffect, Part, Last, Requests, RequestsNothing, Triggers, Executes, DoesExecute}
use Rattle.tmc_law.specs.BulkIn.{Begins, DoesBegin}
use Rattle.tmc_law.specs.Aborts.{Served, AbortsBulkOut, AbortsBulkIn, ClearsAll, DoesClear, NotBegun, DoesAbort, checked_out, checked_in, checked_clear, without_part, cut}
use Rattle.tmc_law.specs.Aborts as aborts
use Rattle.tmc_law.specs.Status.{ReadsStatus, BadTag, PolledBefore, Busy, PolledNow, DoesPoll, Notifies, Gives, NoRoom}
use Rattle.tmc_law.specs.Standard.{Standard, standard_effect}
use Rattle.tmc_law.specs.Standard as standard
use Rattle.tmc_law.specs.Class.{Serves, Operates, DoesOperate, Answers, ByClass, ByStandard, Unknown}
use Rattle.usbip_export.specs.Work.{outs, ins, waits, owes, work, weight}
use Rattle.tmc_law.specs.Packets.{TakesBytes, SubmitStays, SubmitIsOver, TransferTakes, OfNoBytes, IsRefused, TransferGoesOn, TransferIsWhole, GivesBytes, HasRoom, IsFull, PieceGives, IsDrained, PieceGoesOn, PieceIsOver, PieceOverflows}

waits_most : (waiting : Option Waiting) → waits waiting ≤ 1
waits_most None = omega arith
waits_most (Some waiting) = omega arith

owes_most : (side : Side) → owes side ≤ 1
owes_most Idle = omega arith
owes_most (Owed tag size) = omega arith
owes_most (Sending piece) = omega arith

-- less work weighs less, whatever a message and a request do
less_work : (s t : State) → work t < work s → weight t < weight s
less_work s t less = omega (arith, less, waits_most t.waiting, owes_most t.side)

-- the queues have no more
pub record NoMore (s t : State) : Type 0 where
  pub control : length t.control ≤ length s.control
  pub out : outs t.bulk_out ≤ outs s.bulk_out
  pub into : ins t.bulk_in ≤ ins s.bulk_in
  pub notify : length t.interrupt_in ≤ length s.interrupt_in

no_more_work : (s t : State) → NoMore s t → work t ≤ work s
no_more_work s t less = omega (arith, less.control, less.out, less.into, less.notify)

-- the queues are the same
same_queues : (s t : State) → t.control ≡ s.control → t.bulk_out ≡ s.bulk_out → t.bulk_in ≡ s.bulk_in → t.interrupt_in ≡ s.interrupt_in → NoMore s t
same_queues s t control out into notify = record {
  control = omega (arith, ap length control);
  out = omega (arith, ap outs out);
  into = omega (arith, ap ins into);
  notify = omega (arith, ap length notify);
}

logged : (entry : LogEntry) (s t : State) → Logs entry s t → NoMore s t
logged entry s t logs =
    same_queues s t (ap (λ (x : State). x.control) logs.is) (ap (λ (x : State). x.bulk_out) logs.is) (ap (λ (x : State). x.bulk_in) logs.is)
    (ap (λ (x : State). x.interrupt_in) logs.is)

-- from a state with the same queues
is_state : (s t : State) → t ≡ s → NoMore s t
is_state s t is =
    same_queues s t (ap (λ (x : State). x.control) is) (ap (λ (x : State). x.bulk_out) is) (ap (λ (x : State). x.bulk_in) is)
    (ap (λ (x : State). x.interrupt_in) is)

no_more : (s mid t : State) → NoMore s mid → NoMore mid t → NoMore s t
no_more s mid t first second = record {
  control = omega (arith, first.control, second.control);
  out = omega (arith, first.out, second.out);
  into = omega (arith, first.into, second.into);
  notify = omega (arith, first.notify, second.notify);
}

some_bytes : (bytes : List ℕ) → bytes ≢ [] → 0 < length bytes
some_bytes [] some = absurd (some refl)
some_bytes (byte ∷ bytes) some = omega arith

-- ---- Bulk-OUT

interrupted : (s t : State) → Interrupts s t → NoMore s t
interrupted s t (Dropped none unread logs) = logged _ s t logs
interrupted s t (NothingUnread none is) = is_state s t is
interrupted s t (LaterPart later is) = is_state s t is

-- the state but for what no queue has
same_but : (s mid t : State) → mid.control ≡ s.control → mid.bulk_out ≡ s.bulk_out → mid.bulk_in ≡ s.bulk_in → mid.interrupt_in ≡ s.interrupt_in
    → t ≡ mid → NoMore s t
same_but s mid t control out into notify is =
    same_queues s t (ap (λ (x : State). x.control) is ∙ control) (ap (λ (x : State). x.bulk_out) is ∙ out) (ap (λ (x : State). x.bulk_in) is ∙ into)
    (ap (λ (x : State). x.interrupt_in) is ∙ notify)

has_effect : (seq : ℕ) (transfer : Transfer) (s t : State) → TakesEffect seq transfer s t → NoMore s t
has_effect seq transfer s t (Part tag size message mid header text drops is) =
    no_more s mid t (interrupted s mid drops) (same_but mid _ t refl refl refl refl is)
has_effect seq transfer s t (Last tag size message mid header text drops is) =
    no_more s mid t (interrupted s mid drops) (same_but mid _ t refl refl refl refl is)
has_effect seq transfer s t (Requests tag size header unread is) = same_but s _ t refl refl refl refl is
has_effect seq transfer s t (RequestsNothing tag size header unread logs) =
    no_more s (record s { side = Owed tag size }) t (same_but s _ _ refl refl refl refl refl) (logged _ _ t logs)
has_effect seq transfer s t (Triggers tag header logs) = logged _ s t logs

taken_bytes : (submit : Pending) (behind : List Pending) (bytes : List ℕ) (puts : List Put) (queue : List Pending)
    → TakesBytes submit behind bytes puts queue → outs queue < outs (submit ∷ behind)
taken_bytes submit behind bytes puts queue (SubmitStays left cut some more none is) =
    omega (arith, ap outs is, ap length cut, length-append bytes left, some_bytes bytes some)
taken_bytes submit behind bytes puts queue (SubmitIsOver all over is) = omega (arith, ap outs is)

pub take_less : (s t : State) (puts : List Put) → TransferTakes s puts t → weight t < weight s
take_less s t puts (OfNoBytes submit behind first empty says is) = less_work s t (omega (arith, ap work is, ap outs first))
take_less s t puts (IsRefused submit behind first some spoils says is) = less_work s t (omega (arith, ap work is, ap outs first))
take_less s t puts (TransferGoesOn submit behind queue transfer bytes first some whole belongs takes is) =
    less_work s t (omega (arith, ap work is, ap outs first, taken_bytes submit behind bytes puts queue takes))
take_less s t puts (TransferIsWhole submit behind transfer first some whole belongs wants says effect) =
    less_work s t (omega (arith, no_more_work _ t (has_effect _ _ _ t effect), ap outs first))

-- ---- Bulk-IN

given_bytes : (submit : Pending) (behind : List Pending) (bytes : List ℕ) (puts : List Put) (queue : List Pending) → bytes ≢ []
    → GivesBytes submit behind bytes puts queue → ins queue < ins (submit ∷ behind)
given_bytes submit behind bytes puts queue some (HasRoom room none is) =
    omega (arith, ap ins is, room, length-append submit.moved bytes, some_bytes bytes some)
given_bytes submit behind bytes puts queue some (IsFull full over is) = omega (arith, ap ins is)

pub fill_less : (s t : State) (puts : List Put) → PieceGives s puts t → weight t < weight s
fill_less s t puts (IsDrained submit behind given first running says is) = less_work s t (omega (arith, ap work is, ap ins first))
fill_less s t puts (PieceGoesOn submit behind queue piece bytes left first side none cut some full gives is) =
    less_work s t (omega (arith, ap work is, ap ins first, given_bytes submit behind bytes puts queue some gives))
fill_less s t puts (PieceIsOver submit behind piece full first side none room fits short free says is) =
    less_work s t (omega (arith, ap work is, ap ins first))
fill_less s t puts (PieceOverflows submit behind piece bytes left first side none cut full over says is) =
    less_work s t (omega (arith, ap work is, ap ins first))

-- ---- execution, and the beginning of a piece

pub exec_less : (s t : State) → Executes s t → weight t < weight s
exec_less s t (DoesExecute seq message was logs) = omega (arith, ap weight logs.is, ap waits was)

pub begin_less : (s t : State) (count : ℕ) → Begins s count t → weight t < weight s
begin_less s t count (DoesBegin tag size side none some most logs) = omega (arith, ap weight logs.is, ap owes side)

-- ---- Interrupt-IN

pub notify_less : (s t : State) (puts : List Put) → Notifies s puts t → weight t < weight s
notify_less s t puts (Gives submit behind packet packets first queued room says is) = less_work s t (omega (arith, ap work is, ap length first))
notify_less s t puts (NoRoom submit behind packet packets first queued short says is) = less_work s t (omega (arith, ap work is, ap length first))

-- ---- the control endpoint

less_part : (queue : List Pending) → ins (without_part queue) ≤ ins queue
less_part [] = omega arith
less_part (first ∷ others) = by first.moved where
  by : (moved : List ℕ) → ins (aborts.without_part (record first { moved = moved } ∷ others)) ≤ 1 + (first.head.length - length moved) + ins others
  by [] = omega arith
  by (byte ∷ bytes) = omega arith

served_by : (submit : Pending) (s : State) (served : Served) (layout : List ℕ) (behind : List Put) (t : State)
    → served ≡ record { layout = layout; behind = behind; state = t } → NoMore s t → NoMore s served.state
served_by submit s served layout behind t is less = no_more s t served.state less (is_state t served.state (ap (λ (x : Served). x.state) is))

same : (s : State) → NoMore s s
same s = is_state s s refl

operated : (submit : Pending) (s : State) (served : Served) (act : _) → Operates act s served → NoMore s served.state
operated submit s served act (DoesOperate t logs is) = served_by submit s served _ _ t is (logged _ s t logs)

aborted_out : (submit : Pending) (tag : ℕ) (s : State) (served : Served) → AbortsBulkOut tag s served → NoMore s served.state
aborted_out submit tag s served (NotBegun layout declined is) = served_by submit s served _ _ s is (same s)
aborted_out submit tag s served (DoesAbort nothing tagged is) =
    served_by submit s served _ _ _ is (record { control = omega arith; out = omega arith; into = omega arith; notify = omega arith })

aborted_in : (submit : Pending) (tag : ℕ) (s : State) (served : Served) → AbortsBulkIn tag s served → NoMore s served.state
aborted_in submit tag s served (aborts.NotBegun layout declined is) = served_by submit s served _ _ s is (same s)
aborted_in submit tag s served (aborts.DoesAbort nothing tagged is) = served_by submit s served _ _ _ is (same_but s _ _ refl refl refl refl refl)

was_cleared : (submit : Pending) (s : State) (served : Served) → ClearsAll s served → NoMore s served.state
was_cleared submit s served (DoesClear t logs is) =
    served_by submit s served _ _ t is
    (no_more s (aborts.cleared s) t
    (record { control = omega arith; out = omega arith; into = less_part s.bulk_in; notify = omega arith }) (logged _ _ t logs))

read_status : (submit : Pending) (tag : ℕ) (s : State) (served : Served) → ReadsStatus tag submit s served → NoMore s served.state
read_status submit tag s served (BadTag bad is) = served_by submit s served _ _ s is (same s)
read_status submit tag s served (PolledBefore good polled is) = served_by submit s served _ _ s is (same s)
read_status submit tag s served (Busy good polled queued is) = served_by submit s served _ _ s is (same s)
read_status submit tag s served (PolledNow t good polled queued (DoesPoll mid logs joins) is) =
    served_by submit s served _ _ t is (no_more s mid t (logged _ s mid logs) (same_but mid _ t refl refl refl refl joins))

-- whichever split transaction runs
rerun : (s : State) (was is : Running) → NoMore (record s { running = was }) (record s { running = is })
rerun s was is = same_queues (record s { running = was }) (record s { running = is }) refl refl refl refl

check_out : (s : State) (running : Running) → s.running ≡ running → NoMore s (checked_out s).state
check_out s Nothing is = rw is (same _)
check_out s AbortsOut is = rw is (rerun s AbortsOut Nothing)
check_out s (AbortsIn wanting given) is = rw is (same _)
check_out s Clears is = rw is (same _)

check_in : (s : State) (running : Running) → s.running ≡ running → NoMore s (checked_in s).state
check_in s Nothing is = rw is (same _)
check_in s AbortsOut is = rw is (same _)
check_in s (AbortsIn true given) is = rw is (same _)
check_in s (AbortsIn false given) is = rw is (rerun s (AbortsIn false given) Nothing)
check_in s Clears is = rw is (same _)

check_clear : (s : State) (running : Running) → s.running ≡ running → NoMore s (checked_clear s).state
check_clear s Nothing is = rw is (same _)
check_clear s AbortsOut is = rw is (same _)
check_clear s (AbortsIn wanting given) is = rw is (same _)
check_clear s Clears is = rw is (rerun s Clears Nothing)

state_of : (s : State) (served by : Served) → served ≡ by → NoMore s by.state → NoMore s served.state
state_of s served by is less = no_more s by.state served.state less (is_state by.state served.state (ap (λ (x : Served). x.state) is))

serves_less : (request : ClassRequest) (submit : Pending) (s : State) (served : Served) → Serves request submit s served → NoMore s served.state
serves_less (AbortOut tag) submit s served serves = aborted_out submit tag s served serves
serves_less CheckOut submit s served serves = state_of s served (checked_out s) serves (check_out s s.running refl)
serves_less (AbortIn tag) submit s served serves = aborted_in submit tag s served serves
serves_less CheckIn submit s served serves = state_of s served (checked_in s) serves (check_in s s.running refl)
serves_less Clear submit s served serves = was_cleared submit s served serves
serves_less CheckClear submit s served serves = state_of s served (checked_clear s) serves (check_clear s s.running refl)
serves_less Capabilities submit s served serves = served_by submit s served _ _ s serves (same s)
serves_less Pulse submit s served serves = served_by submit s served _ _ s serves (same s)
serves_less (ReadStatus tag) submit s served serves = read_status submit tag s served serves
serves_less (Ren true) submit s served serves = operated submit s served _ serves
serves_less (Ren false) submit s served serves = operated submit s served _ serves
serves_less GoLocal submit s served serves = operated submit s served _ serves
serves_less Lockout submit s served serves = operated submit s served _ serves

unhalted : (e : Endpoint) (s : State) → NoMore s (standard_effect (standard.ClearHalt e) s)
unhalted Control s = same s
unhalted BulkOut s = same_but s _ _ refl refl refl refl refl
unhalted BulkIn s = same_but s _ _ refl refl refl refl refl
unhalted InterruptIn s = same_but s _ _ refl refl refl refl refl

standard_less : (request : Standard) (s : State) → NoMore s (standard_effect request s)
standard_less standard.GetDeviceStatus s = same s
standard_less standard.GetInterfaceStatus s = same s
standard_less (standard.GetEndpointStatus endpoint) s = same s
standard_less (standard.ClearHalt endpoint) s = unhalted endpoint s
standard_less standard.GetDeviceDescriptor s = same s
standard_less standard.GetConfigurationDescriptor s = same s
standard_less (standard.GetString index) s = same s
standard_less standard.GetConfiguration s = same s
standard_less standard.SetConfiguration s = same_but s _ _ refl refl refl refl refl
standard_less standard.GetInterface s = same s
standard_less standard.SetInterface s = same_but s _ _ refl refl refl refl refl

pub answer_less : (s t : State) (puts : List Put) → Answers s puts t → weight t < weight s
answer_less s t puts (ByClass submit behind setup request served first asks row serves says is) =
    less_work s t (omega (arith, ap length first, no_more_work _ t (no_more _ served.state t (serves_less request submit _ served serves) (is_state served.state t is))))
answer_less s t puts (ByStandard submit behind setup request first asks row says is) =
    less_work s t (omega (arith, ap length first, no_more_work _ t (no_more _ _ t (standard_less request (record s { control = behind })) (is_state _ t is))))
answer_less s t puts (Unknown submit behind setup first asks none says is) = less_work s t (omega (arith, ap work is, ap length first))
