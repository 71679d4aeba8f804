-- what a step does to the halts
use Rattle.std.proofs.Common.{◌≡◌, ◌∙◌, ◌⊎◌, inl, inr, ℕ, true, false, List, [], ◌++◌, refl, ap, sym, subst}
use Rattle.usbip_wire.specs.declared.submit.SubmitHead.{SubmitHead}
use Rattle.usbip_wire.specs.declared.unlink.UnlinkHead.{UnlinkHead}
use Rattle.usbip_wire.specs.Up as up
use Rattle.tmc_wire.specs.declared.class_request.ClassRequest.{ClassRequest}
use Rattle.tmc_wire.specs.declared.class_request.ClassRequest.TheVariants.{AbortOut, CheckOut, AbortIn, CheckIn, Clear, CheckClear, Capabilities, Pulse, ReadStatus, Ren, GoLocal, Lockout}
use Rattle.tmc_law.specs.Endpoint.{Endpoint, Control, BulkOut, BulkIn, InterruptIn}
use Rattle.tmc_law.specs.State.{State, Pending, Transfer, Halted, Running, Nothing, AbortsOut, AbortsIn, Clears, queue_of, with_queue, is_halted, with_halt}
use Rattle.tmc_law.specs.Put.{Put}
use Rattle.tmc_law.specs.Halts.{halts, HaltsItself, DoesHalt}
use Rattle.tmc_law.specs.Queues.{Arrives, Queued, TurnedAway, Unlinks, Hits, Polled, Misses}
use Rattle.tmc_law.specs.BulkOut as out
use Rattle.tmc_law.specs.BulkIn as «in»
use Rattle.tmc_law.specs.Aborts as aborts
use Rattle.tmc_law.specs.Aborts.{Served}
use Rattle.tmc_law.specs.Status as status
use Rattle.tmc_law.specs.Class as class
use Rattle.tmc_law.specs.Standard.{Standard, GetDeviceStatus, GetInterfaceStatus, GetEndpointStatus, ClearHalt, GetDeviceDescriptor, GetConfigurationDescriptor, GetString, GetConfiguration, SetConfiguration, GetInterface, SetInterface, standard_effect}
use Rattle.tmc_law.specs.Logging.{Logs}
use Rattle.tmc_law.specs.Step.{Move, Comes, Refuses, Take, Exec, Begin, Fill, Answer, Pend, Poll, Notify, Halt, Unplug, Leads}
use Rattle.tmc_law.specs.HaltCauses.{IsClassFirst, IsStandardFirst, HaltedBy, ByItself, BySpoiling, ByAbort, ByClear, ByOverflow, ByPacket, UsableBy, ByClearFeature, BySetConfiguration, BySetInterface}

-- the halts stay, one endpoint halts, or a standard request ends some
pub data Flags (s : State) (move : Move) (t : State) : Type 0 where
  Same : t.halted ≡ s.halted → Flags s move t
  Halts : (d : Endpoint) → HaltedBy s d move → t.halted ≡ (halts d s).halted → queue_of d t ≡ [] → Flags s move t
  Ends : (request : Standard) → IsStandardFirst s request → move ≡ Answer → t.halted ≡ (standard_effect request s).halted → Flags s move t

empty : (d : Endpoint) (s : State) → queue_of d (halts d s) ≡ []
empty Control s = refl
empty BulkOut s = refl
empty BulkIn s = refl
empty InterruptIn s = refl

halts_is : (d : Endpoint) (s t : State) (move : Move) → HaltedBy s d move → t ≡ halts d s → Flags s move t
halts_is d s t move cause is = Halts d cause (ap (λ (x : State). x.halted) is) (ap (λ (x : State). queue_of d x) is ∙ empty d s)

same_is : (s t w : State) (move : Move) → t ≡ w → w.halted ≡ s.halted → Flags s move t
same_is s t w move is same = Same (ap (λ (x : State). x.halted) is ∙ same)

logs_flags : (entry : _) (s t : State) → Logs entry s t → t.halted ≡ s.halted
logs_flags entry s t logs = ap (λ (x : State). x.halted) logs.is

interrupts_flags : (s t : State) → out.Interrupts s t → t.halted ≡ s.halted
interrupts_flags s t (out.Dropped part some logs) = logs_flags _ s t logs
interrupts_flags s t (out.NothingUnread none is) = ap (λ (x : State). x.halted) is
interrupts_flags s t (out.LaterPart part is) = ap (λ (x : State). x.halted) is

effect_flags : (seq : ℕ) (transfer : Transfer) (s t : State) → out.TakesEffect seq transfer s t → t.halted ≡ s.halted
effect_flags seq transfer s t (out.Part tag size message mid header text first is) = ap (λ (x : State). x.halted) is ∙ interrupts_flags s mid first
effect_flags seq transfer s t (out.Last tag size message mid header text first is) = ap (λ (x : State). x.halted) is ∙ interrupts_flags s mid first
effect_flags seq transfer s t (out.Requests tag size header some is) = ap (λ (x : State). x.halted) is
effect_flags seq transfer s t (out.RequestsNothing tag size header none logs) = logs_flags _ _ t logs
effect_flags seq transfer s t (out.Triggers tag header logs) = logs_flags _ s t logs

takes : (s t : State) (count : ℕ) (puts : List Put) → out.Takes s count puts t → Flags s (Take count) t
takes s t count puts (out.Empty submit behind line a b c is) = same_is s t _ _ is refl
takes s t count puts (out.Spoiled submit behind line a b c spoils put is) = halts_is BulkOut s t _ (BySpoiling count submit behind refl refl line spoils) is
takes s t count puts (out.Inside submit after behind transfer grown line a b c d f g h is) = same_is s t _ _ is refl
takes s t count puts (out.SubmitEnds submit after behind transfer grown line a b c d f g put is) = same_is s t _ _ is refl
takes s t count puts (out.TransferEnds submit after behind transfer grown line a b c d f g effect put) = Same (effect_flags _ _ _ t effect)

executes : (s t : State) → out.Executes s t → Flags s Exec t
executes s t (out.DoesExecute seq message waits logs) = Same (logs_flags _ _ t logs)

begins : (s t : State) (count : ℕ) → «in».Begins s count t → Flags s (Begin count) t
begins s t count («in».DoesBegin tag size owes free low high logs) = Same (logs_flags _ _ t logs)

fills : (s t : State) (count : ℕ) (puts : List Put) → «in».Fills s count puts t → Flags s (Fill count) t
fills s t count puts («in».Ends submit behind n line a b c is) = same_is s t _ _ is refl
fills s t count puts («in».Inside submit behind piece line a b c d f g is) = same_is s t _ _ is refl
fills s t count puts («in».Full submit behind piece line a b c d f g is) = same_is s t _ _ is refl
fills s t count puts («in».Short submit behind piece n line a b c d f g i put is) = same_is s t _ _ is refl
fills s t count puts («in».Overflows submit behind piece full line sends free counts leaves inside over put is) =
    halts_is BulkIn s t _ (ByOverflow count full submit behind piece refl refl line sends inside over) is

-- ---- control requests

check_out : (s : State) (r : Running) → (aborts.checked_out (record s { running = r })).state.halted ≡ s.halted
check_out s Nothing = refl
check_out s AbortsOut = refl
check_out s (AbortsIn wanting given) = refl
check_out s Clears = refl

check_in : (s : State) (r : Running) → (aborts.checked_in (record s { running = r })).state.halted ≡ s.halted
check_in s Nothing = refl
check_in s AbortsOut = refl
check_in s (AbortsIn true given) = refl
check_in s (AbortsIn false given) = refl
check_in s Clears = refl

check_clear : (s : State) (r : Running) → (aborts.checked_clear (record s { running = r })).state.halted ≡ s.halted
check_clear s Nothing = refl
check_clear s AbortsOut = refl
check_clear s (AbortsIn wanting given) = refl
check_clear s Clears = refl

served_same : (s w : State) (a b : Served) → w.halted ≡ s.halted → a ≡ b → b.state.halted ≡ w.halted → Flags s Answer a.state
served_same s w a b from is same = Same (ap (λ (v : Served). v.state.halted) is ∙ same ∙ from)

abort_out : (tag : ℕ) (s : State) (behind : List Pending) (served : Served) → IsClassFirst s (AbortOut tag) → aborts.AbortsBulkOut tag (record s { control = behind }) served → Flags s Answer served.state
abort_out tag s behind served first (aborts.NotBegun layout declined is) = served_same s (record s { control = behind }) served _ refl is refl
abort_out tag s behind served first (aborts.DoesAbort free some is) =
    Halts BulkOut (ByAbort tag refl refl first free some) (ap (λ (v : Served). v.state.halted) is) (ap (λ (v : Served). v.state.bulk_out) is)

abort_in : (tag : ℕ) (s w : State) (served : Served) → w.halted ≡ s.halted → aborts.AbortsBulkIn tag w served → Flags s Answer served.state
abort_in tag s w served from (aborts.NotBegun layout declined is) = served_same s w served _ from is refl
abort_in tag s w served from (aborts.DoesAbort free some is) = served_same s w served _ from is refl

clears : (s : State) (behind : List Pending) (served : Served) → IsClassFirst s Clear → aborts.ClearsAll (record s { control = behind }) served → Flags s Answer served.state
clears s behind served first (aborts.DoesClear t logs is) =
    Halts BulkOut (ByClear refl refl first) (ap (λ (v : Served). v.state.halted) is ∙ ap (λ (x : State). x.halted) logs.is) (ap (λ (v : Served). v.state.bulk_out) is ∙ ap (λ (x : State). x.bulk_out) logs.is)

polls_flags : (seq tag : ℕ) (s t : State) → status.Polls seq tag s t → t.halted ≡ s.halted
polls_flags seq tag s t (status.DoesPoll mid logs is) = ap (λ (x : State). x.halted) is ∙ logs_flags _ s mid logs

reads_status : (tag : ℕ) (submit : Pending) (s w : State) (served : Served) → w.halted ≡ s.halted → status.ReadsStatus tag submit w served → Flags s Answer served.state
reads_status tag submit s w served from (status.BadTag bad is) = served_same s w served _ from is refl
reads_status tag submit s w served from (status.PolledBefore good before is) = served_same s w served _ from is refl
reads_status tag submit s w served from (status.Busy good unpolled queued is) = served_same s w served _ from is refl
reads_status tag submit s w served from (status.PolledNow t good unpolled free polls is) = served_same s w served _ from is (polls_flags _ tag w t polls)

operates : (act : _) (s w : State) (served : Served) → w.halted ≡ s.halted → class.Operates act w served → Flags s Answer served.state
operates act s w served from (class.DoesOperate t logs is) = served_same s w served _ from is (logs_flags _ w t logs)

serves : (request : ClassRequest) (submit : Pending) (behind : List Pending) (s : State) (served : Served) → IsClassFirst s request
    → class.Serves request submit (record s { control = behind }) served → Flags s Answer served.state
serves (AbortOut tag) submit behind s served first h = abort_out tag s behind served first h
serves CheckOut submit behind s served first h = served_same s (record s { control = behind }) served _ refl h (check_out (record s { control = behind }) s.running)
serves (AbortIn tag) submit behind s served first h = abort_in tag s (record s { control = behind }) served refl h
serves CheckIn submit behind s served first h = served_same s (record s { control = behind }) served _ refl h (check_in (record s { control = behind }) s.running)
serves Clear submit behind s served first h = clears s behind served first h
serves CheckClear submit behind s served first h = served_same s (record s { control = behind }) served _ refl h (check_clear (record s { control = behind }) s.running)
serves Capabilities submit behind s served first h = served_same s (record s { control = behind }) served _ refl h refl
serves Pulse submit behind s served first h = served_same s (record s { control = behind }) served _ refl h refl
serves (ReadStatus tag) submit behind s served first h = reads_status tag submit s (record s { control = behind }) served refl h
serves (Ren true) submit behind s served first h = operates _ s (record s { control = behind }) served refl h
serves (Ren false) submit behind s served first h = operates _ s (record s { control = behind }) served refl h
serves GoLocal submit behind s served first h = operates _ s (record s { control = behind }) served refl h
serves Lockout submit behind s served first h = operates _ s (record s { control = behind }) served refl h

-- a standard request does the same to the halts, whatever the control queue
other_queue : (request : Standard) (s : State) (behind : List Pending) → (standard_effect request (record s { control = behind })).halted ≡ (standard_effect request s).halted
other_queue GetDeviceStatus s behind = refl
other_queue GetInterfaceStatus s behind = refl
other_queue (GetEndpointStatus e) s behind = refl
other_queue (ClearHalt Control) s behind = refl
other_queue (ClearHalt BulkOut) s behind = refl
other_queue (ClearHalt BulkIn) s behind = refl
other_queue (ClearHalt InterruptIn) s behind = refl
other_queue GetDeviceDescriptor s behind = refl
other_queue GetConfigurationDescriptor s behind = refl
other_queue (GetString index) s behind = refl
other_queue GetConfiguration s behind = refl
other_queue SetConfiguration s behind = refl
other_queue GetInterface s behind = refl
other_queue SetInterface s behind = refl

answers : (s t : State) (puts : List Put) → class.Answers s puts t → Flags s Answer t
answers s t puts (class.ByClass submit behind setup request served line asks row serving put is) =
    subst (λ (x : State). Flags s Answer x) (sym is)
    (serves request submit behind s served (record { submit = submit; behind = behind; setup = setup; first = line; asks = asks; row = row }) serving)
answers s t puts (class.ByStandard submit behind setup request line asks row put is) =
    Ends request (record { submit = submit; behind = behind; setup = setup; first = line; asks = asks; row = row }) refl (ap (λ (x : State). x.halted) is ∙ other_queue request s behind)
answers s t puts (class.Unknown submit behind setup line asks unknown put is) = same_is s t _ _ is refl

postpones : (s t : State) (puts : List Put) → class.Postpones s puts t → Flags s Pend t
postpones s t puts (class.DoesPostpone submit behind setup request layout line asks row stays put is) = same_is s t _ _ is refl

polls : (s t : State) → class.PollsFirst s t → Flags s Poll t
polls s t (class.DoesPollFirst submit behind setup tag line asks row good unpolled free poll) = Same (polls_flags _ tag _ t poll)

notifies : (s t : State) (puts : List Put) → status.Notifies s puts t → Flags s Notify t
notifies s t puts (status.Gives submit behind packet packets line there long put is) = same_is s t _ _ is refl
notifies s t puts (status.NoRoom submit behind packet packets line there short put is) = halts_is InterruptIn s t _ (ByPacket submit behind packet packets refl refl line there short) is

queue_flags : (d : Endpoint) (q : List Pending) (s : State) → (with_queue d q s).halted ≡ s.halted
queue_flags Control q s = refl
queue_flags BulkOut q s = refl
queue_flags BulkIn q s = refl
queue_flags InterruptIn q s = refl

unlinks : (s t : State) (head : UnlinkHead) (puts : List Put) → Unlinks s head puts t → Flags s (Comes (up.Unlink head)) t
unlinks s t head puts (Hits d before submit behind line target unpolled put is) = same_is s t _ _ is (queue_flags d (before ++ behind) s)
unlinks s t head puts (Polled d before submit behind setup tag line target polled asks row put is) = same_is s t _ _ is (queue_flags d (before ++ behind) s)
unlinks s t head puts (Misses avoids put is) = same_is s t _ _ is refl

arrives : (s t : State) (head : SubmitHead) (transferred : List ℕ) (puts : List Put) → Arrives s head transferred puts t → Flags s (Comes (up.Submit head transferred)) t
arrives s t head transferred puts (Queued d taken put is) = same_is s t _ _ is (queue_flags d _ s)
arrives s t head transferred puts (TurnedAway none put is) = same_is s t _ _ is refl

halts_itself : (s t : State) (e : Endpoint) (puts : List Put) → HaltsItself s e puts t → Flags s (Halt e) t
halts_itself s t e puts (DoesHalt other usable put is) = halts_is e s t _ (ByItself refl other) is

-- ---- all moves

pub flags : (s t : State) (move : Move) (puts : List Put) → Leads s move puts t → Flags s move t
flags s t (Comes (up.Submit head transferred)) puts h = arrives s t head transferred puts h.3
flags s t (Comes (up.Unlink head)) puts h = unlinks s t head puts h.1
flags s t (Refuses devid bytes f) puts h = same_is s t _ _ h.2 refl
flags s t (Take count) puts h = takes s t count puts h.1
flags s t Exec puts h = executes s t h.0
flags s t (Begin count) puts h = begins s t count h.0
flags s t (Fill count) puts h = fills s t count puts h
flags s t Answer puts h = answers s t puts h
flags s t Pend puts h = postpones s t puts h
flags s t Poll puts h = polls s t h.0
flags s t Notify puts h = notifies s t puts h
flags s t (Halt e) puts h = halts_itself s t e puts h
flags s t Unplug puts h = same_is s t _ _ h.is refl

-- ---- one endpoint

flags_same : (e : Endpoint) (s t : State) → t.halted ≡ s.halted → is_halted e t ≡ is_halted e s
flags_same Control s t h = refl
flags_same BulkOut s t h = ap (λ (x : Halted). x.bulk_out) h
flags_same BulkIn s t h = ap (λ (x : Halted). x.bulk_in) h
flags_same InterruptIn s t h = ap (λ (x : Halted). x.interrupt_in) h

false_true : {B : Type 0} → false ≡ true → B
false_true e = absurd (cc)

-- an endpoint that halts is this one
this_one : (d e : Endpoint) (s : State) → is_halted e (halts d s) ≡ true → (is_halted e s ≡ true) ⊎ (e ≡ d)
this_one Control Control s h = inl h
this_one Control BulkOut s h = inl h
this_one Control BulkIn s h = inl h
this_one Control InterruptIn s h = inl h
this_one BulkOut Control s h = false_true h
this_one BulkOut BulkOut s h = inr refl
this_one BulkOut BulkIn s h = inl h
this_one BulkOut InterruptIn s h = inl h
this_one BulkIn Control s h = false_true h
this_one BulkIn BulkOut s h = inl h
this_one BulkIn BulkIn s h = inr refl
this_one BulkIn InterruptIn s h = inl h
this_one InterruptIn Control s h = false_true h
this_one InterruptIn BulkOut s h = inl h
this_one InterruptIn BulkIn s h = inl h
this_one InterruptIn InterruptIn s h = inr refl

-- a halt ends no other
stays_halted : (d e : Endpoint) (s : State) → is_halted e s ≡ true → is_halted e (halts d s) ≡ true
stays_halted Control Control s h = h
stays_halted Control BulkOut s h = h
stays_halted Control BulkIn s h = h
stays_halted Control InterruptIn s h = h
stays_halted BulkOut Control s h = h
stays_halted BulkOut BulkOut s h = refl
stays_halted BulkOut BulkIn s h = h
stays_halted BulkOut InterruptIn s h = h
stays_halted BulkIn Control s h = h
stays_halted BulkIn BulkOut s h = h
stays_halted BulkIn BulkIn s h = refl
stays_halted BulkIn InterruptIn s h = h
stays_halted InterruptIn Control s h = h
stays_halted InterruptIn BulkOut s h = h
stays_halted InterruptIn BulkIn s h = h
stays_halted InterruptIn InterruptIn s h = refl

ends_one : (d e : Endpoint) (s : State) → is_halted e (with_halt d false s) ≡ true → is_halted e s ≡ true
ends_one Control e s h = h
ends_one BulkOut Control s h = h
ends_one BulkOut BulkOut s h = false_true h
ends_one BulkOut BulkIn s h = h
ends_one BulkOut InterruptIn s h = h
ends_one BulkIn Control s h = h
ends_one BulkIn BulkOut s h = h
ends_one BulkIn BulkIn s h = false_true h
ends_one BulkIn InterruptIn s h = h
ends_one InterruptIn Control s h = h
ends_one InterruptIn BulkOut s h = h
ends_one InterruptIn BulkIn s h = h
ends_one InterruptIn InterruptIn s h = false_true h

-- a standard request halts none
halts_none : (request : Standard) (e : Endpoint) (s : State) → is_halted e (standard_effect request s) ≡ true → is_halted e s ≡ true
halts_none (ClearHalt d) e s h = ends_one d e s h
halts_none SetConfiguration Control s h = h
halts_none SetConfiguration BulkOut s h = false_true h
halts_none SetConfiguration BulkIn s h = false_true h
halts_none SetConfiguration InterruptIn s h = false_true h
halts_none SetInterface Control s h = h
halts_none SetInterface BulkOut s h = false_true h
halts_none SetInterface BulkIn s h = false_true h
halts_none SetInterface InterruptIn s h = false_true h
halts_none GetDeviceStatus e s h = h
halts_none GetInterfaceStatus e s h = h
halts_none (GetEndpointStatus d) e s h = h
halts_none GetDeviceDescriptor e s h = h
halts_none GetConfigurationDescriptor e s h = h
halts_none (GetString index) e s h = h
halts_none GetConfiguration e s h = h
halts_none GetInterface e s h = h

-- which of them ends this halt
cleared_one : (d e : Endpoint) (s : State) → is_halted e s ≡ true → is_halted e (with_halt d false s) ≡ false → d ≡ e
cleared_one Control e s h k = false_true (sym k ∙ h)
cleared_one BulkOut Control s h k = false_true h
cleared_one BulkOut BulkOut s h k = refl
cleared_one BulkOut BulkIn s h k = false_true (sym k ∙ h)
cleared_one BulkOut InterruptIn s h k = false_true (sym k ∙ h)
cleared_one BulkIn Control s h k = false_true h
cleared_one BulkIn BulkOut s h k = false_true (sym k ∙ h)
cleared_one BulkIn BulkIn s h k = refl
cleared_one BulkIn InterruptIn s h k = false_true (sym k ∙ h)
cleared_one InterruptIn Control s h k = false_true h
cleared_one InterruptIn BulkOut s h k = false_true (sym k ∙ h)
cleared_one InterruptIn BulkIn s h k = false_true (sym k ∙ h)
cleared_one InterruptIn InterruptIn s h k = refl

ended_by : (request : Standard) (e : Endpoint) (s : State) (move : Move) → IsStandardFirst s request → move ≡ Answer → is_halted e s ≡ true
    → is_halted e (standard_effect request s) ≡ false → UsableBy s e move
ended_by (ClearHalt d) e s move first is h k = ByClearFeature is (subst (λ (x : Endpoint). IsStandardFirst s (ClearHalt x)) (cleared_one d e s h k) first)
ended_by SetConfiguration e s move first is h k = BySetConfiguration is first
ended_by SetInterface e s move first is h k = BySetInterface is first
ended_by GetDeviceStatus e s move first is h k = false_true (sym k ∙ h)
ended_by GetInterfaceStatus e s move first is h k = false_true (sym k ∙ h)
ended_by (GetEndpointStatus d) e s move first is h k = false_true (sym k ∙ h)
ended_by GetDeviceDescriptor e s move first is h k = false_true (sym k ∙ h)
ended_by GetConfigurationDescriptor e s move first is h k = false_true (sym k ∙ h)
ended_by (GetString index) e s move first is h k = false_true (sym k ∙ h)
ended_by GetConfiguration e s move first is h k = false_true (sym k ∙ h)
ended_by GetInterface e s move first is h k = false_true (sym k ∙ h)

-- an endpoint that is halted behind a step was so before, or the step halted it and took its queue
pub halted_now : (s t : State) (move : Move) (e : Endpoint) → Flags s move t → is_halted e t ≡ true → (is_halted e s ≡ true) ⊎ (HaltedBy s e move × (queue_of e t ≡ []))
halted_now s t move e (Same same) h = inl (sym (flags_same e s t same) ∙ h)
halted_now s t move e (Halts d cause is none) h = by (this_one d e s (sym (flags_same e (halts d s) t is) ∙ h))
  where
    by : (is_halted e s ≡ true) ⊎ (e ≡ d) → (is_halted e s ≡ true) ⊎ (HaltedBy s e move × (queue_of e t ≡ []))
    by (inl was) = inl was
    by (inr same) = inr (subst (λ (x : Endpoint). HaltedBy s x move) (sym same) cause, subst (λ (x : Endpoint). queue_of x t ≡ []) (sym same) none)
halted_now s t move e (Ends request first answer is) h = inl (halts_none request e s (sym (flags_same e (standard_effect request s) t is) ∙ h))

pub halted_by : (s t : State) (move : Move) (e : Endpoint) → Flags s move t → is_halted e s ≡ false → is_halted e t ≡ true → HaltedBy s e move
halted_by s t move e f before h = by (halted_now s t move e f h)
  where
    by : (is_halted e s ≡ true) ⊎ (HaltedBy s e move × (queue_of e t ≡ [])) → HaltedBy s e move
    by (inl was) = false_true (sym before ∙ was)
    by (inr cause) = cause.0

pub usable_by : (s t : State) (move : Move) (e : Endpoint) → Flags s move t → is_halted e s ≡ true → is_halted e t ≡ false → UsableBy s e move
usable_by s t move e (Same same) h k = false_true (sym k ∙ flags_same e s t same ∙ h)
usable_by s t move e (Halts d cause is none) h k = false_true (sym k ∙ flags_same e (halts d s) t is ∙ stays_halted d e s h)
usable_by s t move e (Ends request first answer is) h k = ended_by request e s move first answer h (sym (flags_same e (standard_effect request s) t is) ∙ k)
