-- at most one packet of each kind is queued in each state that can be reached
use Rattle.std.proofs.Common.{◌≡◌, ◌∙◌, ℕ, ◌+◌, Bool, true, false, cond, not, ◌&&◌, List, [], ◌∷◌, ◌++◌, refl, ap, sym, subst, arith}
use Rattle.usbip_wire.specs.declared.submit.SubmitHead.{SubmitHead}
use Rattle.usbip_wire.specs.declared.unlink.UnlinkHead.{UnlinkHead}
use Rattle.usbip_wire.specs.Up as up
use Rattle.tmc_wire.specs.declared.class_request.ClassRequest.{ClassRequest}
use Rattle.tmc_wire.specs.declared.class_request.ClassRequest.TheVariants.{AbortOut, CheckOut, AbortIn, CheckIn, Clear, CheckClear, Capabilities, Pulse, ReadStatus, Ren, GoLocal, Lockout}
use Rattle.instr_plain.specs.declared.log.LogEntry.{LogEntry}
use Rattle.instr_plain.specs.Standing.{Standing, polled_byte}
use Rattle.tmc_law.specs.Endpoint.{Endpoint, Control, BulkOut, BulkIn, InterruptIn}
use Rattle.tmc_law.specs.State.{State, Pending, Transfer, Running, Nothing, AbortsOut, AbortsIn, Clears, Packet, StatusPacket, ServicePacket, start, with_queue}
use Rattle.tmc_law.specs.Put.{Put}
use Rattle.tmc_law.specs.Logging.{Logs, is_service, is_queued, with_service}
use Rattle.tmc_law.specs.Halts.{halts, HaltsItself, DoesHalt}
use Rattle.tmc_law.specs.Queues.{Arrives, Queued, TurnedAway, Unlinks, Hits, Polled, Misses}
use Rattle.tmc_law.specs.BulkOut as out
use Rattle.tmc_law.specs.BulkIn as «in»
use Rattle.tmc_law.specs.Aborts as aborts
use Rattle.tmc_law.specs.Aborts.{Served}
use Rattle.tmc_law.specs.Status as status
use Rattle.tmc_law.specs.Status.{is_status}
use Rattle.tmc_law.specs.Class as class
use Rattle.tmc_law.specs.Standard.{Standard, ClearHalt, SetConfiguration, SetInterface, standard_effect}
use Rattle.tmc_law.specs.Step.{Move, Comes, Refuses, Take, Exec, Begin, Fill, Answer, Pend, Poll, Notify, Halt, Unplug, Leads}
use Rattle.tmc_law.specs.Run.{Entry, Runs}
use Rattle.tmc_law.specs.Reached.{queued_of, AreFew}

queued-append : (kind : Packet → Bool) (a b : List Packet) → queued_of kind (a ++ b) ≡ queued_of kind a + queued_of kind b
queued-append kind [] b = omega arith
queued-append kind (packet ∷ a) b = omega (arith, queued-append kind a b)

none_queued : (kind : Packet → Bool) (packets : List Packet) → is_queued kind packets ≡ false → queued_of kind packets ≡ 0
none_queued kind [] h = refl
none_queued kind (packet ∷ packets) h = by (kind packet) (λ e. none_queued kind packets e) h
  where
    by : (b : Bool) → (is_queued kind packets ≡ false → queued_of kind packets ≡ 0) → cond b true (is_queued kind packets) ≡ false → cond b 1 0 + queued_of kind packets ≡ 0
    by true again e = absurd (clash e)
      where
        clash : true ≡ false → ⊥
        clash e = cc
    by false again e = omega (arith, again e)

abbrev Few : State → Type 0
Few s = AreFew s.packets

-- a service packet comes where none is queued
served_few : (before after : Standing) (packets : List Packet) → AreFew packets → AreFew (with_service before after packets)
served_few before after packets few = by (not before.rqs && after.rqs) (is_queued is_service packets) refl
  where
    by : (rises queued : Bool) → is_queued is_service packets ≡ queued
        → AreFew (cond (rises && not queued) (packets ++ ServicePacket (polled_byte after) ∷ []) packets)
    by true false none = record {
      status = omega (arith, few.status, queued-append is_status packets (ServicePacket (polled_byte after) ∷ []));
      service = omega (arith, none_queued is_service packets none, queued-append is_service packets (ServicePacket (polled_byte after) ∷ []));
    }
    by true true some = few
    by false queued some = few

logged : (entry : LogEntry) (s t : State) → Few s → Logs entry s t → Few t
logged entry s t few logs = subst (λ (p : List Packet). AreFew p) (sym (ap (λ (x : State). x.packets) logs.is)) (served_few s.standing logs.standing s.packets few)

to : (w t : State) → t ≡ w → Few w → Few t
to w t is few = subst (λ (x : State). Few x) (sym is) few

first_less : (packet : Packet) (packets : List Packet) → AreFew (packet ∷ packets) → AreFew packets
first_less packet packets few = record { status = omega (arith, few.status); service = omega (arith, few.service) }

polls : (seq tag : ℕ) (s t : State) → is_queued is_status s.packets ≡ false → Few s → status.Polls seq tag s t → Few t
polls seq tag s t none few (status.DoesPoll mid logs is) = to (record mid { packets = mid.packets ++ packet ∷ [] }) t is (record {
  status = omega (arith, queued-append is_status mid.packets (packet ∷ []), alone, none_queued is_status s.packets none);
  service = omega (arith, queued-append is_service mid.packets (packet ∷ []), (logged _ s mid few logs).service);
})
  where
    packet : Packet
    packet = StatusPacket tag (polled_byte s.standing)

    -- what is logged queues no status packet
    as_many : (before after : Standing) (packets : List Packet) → queued_of is_status (with_service before after packets) ≡ queued_of is_status packets
    as_many before after packets = by (not before.rqs && after.rqs) (is_queued is_service packets)
      where
        by : (rises queued : Bool) → queued_of is_status (cond (rises && not queued) (packets ++ ServicePacket (polled_byte after) ∷ []) packets) ≡ queued_of is_status packets
        by true false = omega (arith, queued-append is_status packets (ServicePacket (polled_byte after) ∷ []))
        by true true = refl
        by false queued = refl

    alone : queued_of is_status mid.packets ≡ queued_of is_status s.packets
    alone = ap (λ (x : State). queued_of is_status x.packets) logs.is ∙ as_many s.standing logs.standing s.packets

halted : (e : Endpoint) (s : State) → Few s → Few (halts e s)
halted Control s few = few
halted BulkOut s few = few
halted BulkIn s few = few
halted InterruptIn s few = few

with : (e : Endpoint) (queue : List Pending) (s : State) → Few s → Few (with_queue e queue s)
with Control queue s few = few
with BulkOut queue s few = few
with BulkIn queue s few = few
with InterruptIn queue s few = few

arrives : (s t : State) (head : SubmitHead) (transferred : List ℕ) (puts : List Put) → Few s → Arrives s head transferred puts t → Few t
arrives s t head transferred puts few (TurnedAway none put is) = to s t is few
arrives s t head transferred puts few (Queued e taken put is) = to _ t is (with e _ s few)

unlinks : (s t : State) (head : UnlinkHead) (puts : List Put) → Few s → Unlinks s head puts t → Few t
unlinks s t head puts few (Hits e before submit behind queue target fresh put is) = to _ t is (with e (before ++ behind) s few)
unlinks s t head puts few (Polled e before submit behind setup tag queue target polled asks row put is) = to _ t is (with e (before ++ behind) s few)
unlinks s t head puts few (Misses avoids put is) = to s t is few

interrupts : (s t : State) → Few s → out.Interrupts s t → Few t
interrupts s t few (out.Dropped part some logs) = logged _ s t few logs
interrupts s t few (out.NothingUnread none is) = to s t is few
interrupts s t few (out.LaterPart part is) = to s t is few

effect : (seq : ℕ) (transfer : Transfer) (s t : State) → Few s → out.TakesEffect seq transfer s t → Few t
effect seq transfer s t few (out.Part tag size message mid header text first is) = to _ t is (interrupts s mid few first)
effect seq transfer s t few (out.Last tag size message mid header text first is) = to _ t is (interrupts s mid few first)
effect seq transfer s t few (out.Requests tag size header some is) = to _ t is few
effect seq transfer s t few (out.RequestsNothing tag size header none logs) = logged _ _ t few logs
effect seq transfer s t few (out.Triggers tag header logs) = logged _ s t few logs

takes : (s t : State) (count : ℕ) (puts : List Put) → Few s → out.Takes s count puts t → Few t
takes s t count puts few (out.Empty submit behind queue none one put is) = to _ t is few
takes s t count puts few (out.Spoiled submit behind queue some low high spoils put is) = to _ t is few
takes s t count puts few (out.Inside submit later behind transfer grown queue some low fine belongs moves more put is) = to _ t is few
takes s t count puts few (out.SubmitEnds submit later behind transfer grown queue some all fine belongs moves more put is) = to _ t is few
takes s t count puts few (out.TransferEnds submit later behind transfer grown queue some all fine belongs moves done take_effect put) = effect _ grown _ t few take_effect

fills : (s t : State) (count : ℕ) (puts : List Put) → Few s → «in».Fills s count puts t → Few t
fills s t count puts few («in».Ends submit behind n queue runs one put is) = to _ t is few
fills s t count puts few («in».Inside submit behind piece queue sends free low inside fits put is) = to _ t is few
fills s t count puts few («in».Full submit behind piece queue sends free low inside fits put is) = to _ t is few
fills s t count puts few («in».Short submit behind piece full queue sends free counts leaves inside less fits put is) = to _ t is few
fills s t count puts few («in».Overflows submit behind piece full queue sends free counts leaves inside over put is) = to _ t is few

check_out : (s : State) (r : Running) → Few s → Few (aborts.checked_out (record s { running = r })).state
check_out s Nothing few = few
check_out s AbortsOut few = few
check_out s (AbortsIn wanting given) few = few
check_out s Clears few = few

check_in : (s : State) (r : Running) → Few s → Few (aborts.checked_in (record s { running = r })).state
check_in s Nothing few = few
check_in s AbortsOut few = few
check_in s (AbortsIn true given) few = few
check_in s (AbortsIn false given) few = few
check_in s Clears few = few

check_clear : (s : State) (r : Running) → Few s → Few (aborts.checked_clear (record s { running = r })).state
check_clear s Nothing few = few
check_clear s AbortsOut few = few
check_clear s (AbortsIn wanting given) few = few
check_clear s Clears few = few

served : (a b : Served) → a ≡ b → Few b.state → Few a.state
served a b is few = subst (λ (v : Served). Few v.state) (sym is) few

abort_out : (tag : ℕ) (s : State) (v : Served) → Few s → aborts.AbortsBulkOut tag s v → Few v.state
abort_out tag s v few (aborts.NotBegun layout declined is) = served v _ is few
abort_out tag s v few (aborts.DoesAbort nothing runs is) = served v _ is few

abort_in : (tag : ℕ) (s : State) (v : Served) → Few s → aborts.AbortsBulkIn tag s v → Few v.state
abort_in tag s v few (aborts.NotBegun layout declined is) = served v _ is few
abort_in tag s v few (aborts.DoesAbort nothing runs is) = served v _ is few

clears : (s : State) (v : Served) → Few s → aborts.ClearsAll s v → Few v.state
clears s v few (aborts.DoesClear t logs is) = served v _ is (logged _ (aborts.cleared s) t few logs)

reads_status : (tag : ℕ) (submit : Pending) (s : State) (v : Served) → Few s → status.ReadsStatus tag submit s v → Few v.state
reads_status tag submit s v few (status.BadTag bad is) = served v _ is few
reads_status tag submit s v few (status.PolledBefore good before is) = served v _ is few
reads_status tag submit s v few (status.Busy good fresh queued is) = served v _ is few
reads_status tag submit s v few (status.PolledNow t good fresh free polling is) = served v _ is (polls _ tag s t free few polling)

operates : (act : _) (s : State) (v : Served) → Few s → class.Operates act s v → Few v.state
operates act s v few (class.DoesOperate t logs is) = served v _ is (logged _ s t few logs)

serves : (request : ClassRequest) (submit : Pending) (s : State) (v : Served) → Few s → class.Serves request submit s v → Few v.state
serves (AbortOut tag) submit s v few k = abort_out tag s v few k
serves CheckOut submit s v few k = served v _ k (check_out s s.running few)
serves (AbortIn tag) submit s v few k = abort_in tag s v few k
serves CheckIn submit s v few k = served v _ k (check_in s s.running few)
serves Clear submit s v few k = clears s v few k
serves CheckClear submit s v few k = served v _ k (check_clear s s.running few)
serves Capabilities submit s v few k = served v _ k few
serves Pulse submit s v few k = served v _ k few
serves (ReadStatus tag) submit s v few k = reads_status tag submit s v few k
serves (Ren true) submit s v few k = operates _ s v few k
serves (Ren false) submit s v few k = operates _ s v few k
serves GoLocal submit s v few k = operates _ s v few k
serves Lockout submit s v few k = operates _ s v few k

standard : (request : Standard) (s : State) → Few s → Few (standard_effect request s)
standard (ClearHalt Control) s few = few
standard (ClearHalt BulkOut) s few = few
standard (ClearHalt BulkIn) s few = few
standard (ClearHalt InterruptIn) s few = few
standard SetConfiguration s few = few
standard SetInterface s few = few
standard _ s few = few

answers : (s t : State) (puts : List Put) → Few s → class.Answers s puts t → Few t
answers s t puts few (class.ByClass submit behind setup request v queue asks row serving put is) = to v.state t is (serves request submit (record s { control = behind }) v few serving)
answers s t puts few (class.ByStandard submit behind setup request queue asks row put is) = to _ t is (standard request (record s { control = behind }) few)
answers s t puts few (class.Unknown submit behind setup queue asks unknown put is) = to _ t is few

pub few_goes : (s t : State) (move : Move) (puts : List Put) → Few s → Leads s move puts t → Few t
few_goes s t (Comes (up.Submit head transferred)) puts few k = arrives s t head transferred puts few k.3
few_goes s t (Comes (up.Unlink head)) puts few k = unlinks s t head puts few k.1
few_goes s t (Refuses devid bytes f) puts few k = to _ t k.2 few
few_goes s t (Take count) puts few k = takes s t count puts few k.1
few_goes s t Exec puts few k = executes k.0
  where
    executes : out.Executes s t → Few t
    executes (out.DoesExecute seq message waits logs) = logged _ _ t few logs
few_goes s t (Begin count) puts few k = begins k.0
  where
    begins : «in».Begins s count t → Few t
    begins («in».DoesBegin tag size owes free low high logs) = logged _ _ t few logs
few_goes s t (Fill count) puts few k = fills s t count puts few k
few_goes s t Answer puts few k = answers s t puts few k
few_goes s t Pend puts few k = pends k
  where
    pends : class.Postpones s puts t → Few t
    pends (class.DoesPostpone submit behind setup request layout queue asks row stays put is) = to _ t is few
few_goes s t Poll puts few k = polls_first k.0
  where
    polls_first : class.PollsFirst s t → Few t
    polls_first (class.DoesPollFirst submit behind setup tag queue asks row good fresh free polling) = polls _ tag _ t free few polling
few_goes s t Notify puts few k = notifies k
  where
    notifies : status.Notifies s puts t → Few t
    notifies (status.Gives submit behind packet packets queue there long put is) = to _ t is (first_less packet packets (subst (λ (p : List Packet). AreFew p) there few))
    notifies (status.NoRoom submit behind packet packets queue there short put is) = to _ t is few
few_goes s t (Halt e) puts few k = itself k
  where
    itself : HaltsItself s e puts t → Few t
    itself (DoesHalt other usable put is) = to (halts e s) t is (halted e s few)
few_goes s t Unplug puts few k = to _ t k.is few

few_run : (s : State) (run : List Entry) (t : State) → Few s → Runs s run t → Few t
few_run s [] t few is = to s t is few
few_run s (entry ∷ run) t few goes = few_run goes.0 run t (few_goes s goes.0 entry.move entry.puts few goes.1.leads) goes.2

pub few_packets : (run : List Entry) (s : State) → Runs start run s → AreFew s.packets
few_packets run s goes = few_run start run s (record { status = omega arith; service = omega arith }) goes
