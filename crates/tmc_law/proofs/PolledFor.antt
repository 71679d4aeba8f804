-- the status byte is polled for requests of it alone
use Rattle.std.proofs.Common.{◌≡◌, ◌∙◌, ℕ, true, false, List, [], ◌∷◌, ◌++◌, refl, ap, sym, subst}
use Rattle.usbip_wire.specs.declared.submit.SubmitHead.{SubmitHead}
use Rattle.usbip_wire.specs.declared.unlink.UnlinkHead.{UnlinkHead}
use Rattle.usbip_wire.specs.Up as up
use Rattle.tmc_wire.specs.declared.class_request.ClassRequest.{ClassRequest}
use Rattle.tmc_wire.specs.declared.class_request.ClassRequest.TheVariants.{AbortOut, CheckOut, AbortIn, CheckIn, Clear, CheckClear, Capabilities, Pulse, ReadStatus, Ren, GoLocal, Lockout}
use Rattle.instr_plain.specs.declared.log.LogEntry.{LogEntry}
use Rattle.tmc_law.specs.Endpoint.{Endpoint, Control, BulkOut, BulkIn, InterruptIn}
use Rattle.tmc_law.specs.State.{State, Pending, Transfer, Running, Nothing, AbortsOut, AbortsIn, Clears, start, arrived, queue_of, with_queue}
use Rattle.tmc_law.specs.Put.{Put}
use Rattle.tmc_law.specs.Logging.{Logs}
use Rattle.tmc_law.specs.Halts.{halts, HaltsItself, DoesHalt}
use Rattle.tmc_law.specs.Queues.{Holds, Arrives, Queued, TurnedAway, Unlinks, Hits, Polled, Misses}
use Rattle.tmc_law.specs.BulkOut as out
use Rattle.tmc_law.specs.BulkIn as «in»
use Rattle.tmc_law.specs.Aborts as aborts
use Rattle.tmc_law.specs.Aborts.{Served}
use Rattle.tmc_law.specs.Status as status
use Rattle.tmc_law.specs.Class as class
use Rattle.tmc_law.specs.Standard.{Standard, ClearHalt, SetConfiguration, SetInterface, standard_effect}
use Rattle.tmc_law.specs.Step.{Move, Comes, Refuses, Take, Exec, Begin, Fill, Answer, Pend, Poll, Notify, Halt, Unplug, Leads}
use Rattle.tmc_law.specs.Run.{Entry, Runs}
use Rattle.tmc_law.specs.Reached.{AreFresh, FirstBegins, AsksStatus}
use Rattle.tmc_law.proofs.Queued.{NonePolled, FirstPolled}
use Rattle.tmc_law.proofs.Sound.{sound}
use Rattle.tmc_law.proofs.Reaching.{IsReached, reached_start, reached_step, AllFirst}

-- where the status byte was polled for the first control submit, it asks for it
abbrev PolledAsks : List Pending → Type 0
PolledAsks [] = Unit {0}
PolledAsks (first ∷ others) = first.polled ≡ true → AsksStatus first

abbrev Asked : State → Type 0
Asked s = PolledAsks s.control

logged : (entry : LogEntry) (s t : State) → Asked s → Logs entry s t → Asked t
logged entry s t asked logs = subst (λ (q : List Pending). PolledAsks q) (sym (ap (λ (x : State). x.control) logs.is)) asked

to : (w t : State) → t ≡ w → Asked w → Asked t
to w t is asked = subst (λ (x : State). Asked x) (sym is) asked

polls : (seq tag : ℕ) (s t : State) → Asked s → status.Polls seq tag s t → Asked t
polls seq tag s t asked (status.DoesPoll mid logs is) = to _ t is (logged _ s mid asked logs)

true_false : {A : Type 0} → false ≡ true → A
true_false e = absurd (cc)

-- a queue whose first submit has not begun
fresh_asks : (queue : List Pending) → AreFresh queue → PolledAsks queue
fresh_asks [] h = tt
fresh_asks (first ∷ queue) h = λ polled. true_false (sym h.0.1 ∙ polled)

-- without the first submit
behind_asks : (submit : Pending) (behind : List Pending) (s : State) → AllFirst s → s.control ≡ submit ∷ behind → PolledAsks behind
behind_asks submit behind s first queue = fresh_asks behind (subst (λ (q : List Pending). FirstBegins q) queue (first Control))

more_asks : (queue : List Pending) (last : Pending) → last.polled ≡ false → PolledAsks queue → PolledAsks (queue ++ last ∷ [])
more_asks [] last fresh h = λ polled. true_false (sym fresh ∙ polled)
more_asks (first ∷ queue) last fresh h = h

without_asks : (before : List Pending) (submit : Pending) (behind : List Pending) → FirstBegins (before ++ submit ∷ behind) → PolledAsks (before ++ submit ∷ behind) → PolledAsks (before ++ behind)
without_asks [] submit behind first h = fresh_asks behind first
without_asks (x ∷ before) submit behind first h = h

halted : (e : Endpoint) (s : State) → Asked s → Asked (halts e s)
halted Control s asked = tt
halted BulkOut s asked = asked
halted BulkIn s asked = asked
halted InterruptIn s asked = asked

arrives : (s t : State) (head : SubmitHead) (transferred : List ℕ) (puts : List Put) → Asked s → Arrives s head transferred puts t → Asked t
arrives s t head transferred puts asked (TurnedAway none put is) = to s t is asked
arrives s t head transferred puts asked (Queued e taken put is) = to (with_queue e (queue_of e s ++ arrived head transferred ∷ []) s) t is (by e)
  where
    by : (e : Endpoint) → Asked (with_queue e (queue_of e s ++ arrived head transferred ∷ []) s)
    by Control = more_asks s.control (arrived head transferred) refl asked
    by BulkOut = asked
    by BulkIn = asked
    by InterruptIn = asked

unlinked : (e : Endpoint) (s : State) (before : List Pending) (submit : Pending) (behind : List Pending) → AllFirst s → queue_of e s ≡ before ++ submit ∷ behind → Asked s → Asked (with_queue e (before ++ behind) s)
unlinked Control s before submit behind first queue asked =
    without_asks before submit behind (subst (λ (q : List Pending). FirstBegins q) queue (first Control)) (subst (λ (q : List Pending). PolledAsks q) queue asked)
unlinked BulkOut s before submit behind first queue asked = asked
unlinked BulkIn s before submit behind first queue asked = asked
unlinked InterruptIn s before submit behind first queue asked = asked

unlinks : (s t : State) (head : UnlinkHead) (puts : List Put) → AllFirst s → Asked s → Unlinks s head puts t → Asked t
unlinks s t head puts first asked (Hits e before submit behind queue target fresh put is) = to _ t is (unlinked e s before submit behind first queue asked)
unlinks s t head puts first asked (Polled e before submit behind setup tag queue target polled asks row put is) = to _ t is (unlinked e s before submit behind first queue asked)
unlinks s t head puts first asked (Misses avoids put is) = to s t is asked

interrupts : (s t : State) → Asked s → out.Interrupts s t → Asked t
interrupts s t asked (out.Dropped part some logs) = logged _ s t asked logs
interrupts s t asked (out.NothingUnread none is) = to s t is asked
interrupts s t asked (out.LaterPart part is) = to s t is asked

effect : (seq : ℕ) (transfer : Transfer) (s t : State) → Asked s → out.TakesEffect seq transfer s t → Asked t
effect seq transfer s t asked (out.Part tag size message mid header text first is) = to _ t is (interrupts s mid asked first)
effect seq transfer s t asked (out.Last tag size message mid header text first is) = to _ t is (interrupts s mid asked first)
effect seq transfer s t asked (out.Requests tag size header some is) = to _ t is asked
effect seq transfer s t asked (out.RequestsNothing tag size header none logs) = logged _ _ t asked logs
effect seq transfer s t asked (out.Triggers tag header logs) = logged _ s t asked logs

takes : (s t : State) (count : ℕ) (puts : List Put) → Asked s → out.Takes s count puts t → Asked t
takes s t count puts asked (out.Empty submit behind queue none one put is) = to _ t is asked
takes s t count puts asked (out.Spoiled submit behind queue some low high spoils put is) = to _ t is asked
takes s t count puts asked (out.Inside submit later behind transfer grown queue some low fine belongs moves more put is) = to _ t is asked
takes s t count puts asked (out.SubmitEnds submit later behind transfer grown queue some all fine belongs moves more put is) = to _ t is asked
takes s t count puts asked (out.TransferEnds submit later behind transfer grown queue some all fine belongs moves done take_effect put) = effect _ grown _ t asked take_effect

fills : (s t : State) (count : ℕ) (puts : List Put) → Asked s → «in».Fills s count puts t → Asked t
fills s t count puts asked («in».Ends submit behind n queue runs one put is) = to _ t is asked
fills s t count puts asked («in».Inside submit behind piece queue sends free low inside fits put is) = to _ t is asked
fills s t count puts asked («in».Full submit behind piece queue sends free low inside fits put is) = to _ t is asked
fills s t count puts asked («in».Short submit behind piece full queue sends free counts leaves inside less fits put is) = to _ t is asked
fills s t count puts asked («in».Overflows submit behind piece full queue sends free counts leaves inside over put is) = to _ t is asked

check_out : (s : State) (r : Running) → Asked s → Asked (aborts.checked_out (record s { running = r })).state
check_out s Nothing asked = asked
check_out s AbortsOut asked = asked
check_out s (AbortsIn wanting given) asked = asked
check_out s Clears asked = asked

check_in : (s : State) (r : Running) → Asked s → Asked (aborts.checked_in (record s { running = r })).state
check_in s Nothing asked = asked
check_in s AbortsOut asked = asked
check_in s (AbortsIn true given) asked = asked
check_in s (AbortsIn false given) asked = asked
check_in s Clears asked = asked

check_clear : (s : State) (r : Running) → Asked s → Asked (aborts.checked_clear (record s { running = r })).state
check_clear s Nothing asked = asked
check_clear s AbortsOut asked = asked
check_clear s (AbortsIn wanting given) asked = asked
check_clear s Clears asked = asked

served : (a b : Served) → a ≡ b → Asked b.state → Asked a.state
served a b is asked = subst (λ (v : Served). Asked v.state) (sym is) asked

abort_out : (tag : ℕ) (s : State) (v : Served) → Asked s → aborts.AbortsBulkOut tag s v → Asked v.state
abort_out tag s v asked (aborts.NotBegun layout declined is) = served v _ is asked
abort_out tag s v asked (aborts.DoesAbort nothing runs is) = served v _ is asked

abort_in : (tag : ℕ) (s : State) (v : Served) → Asked s → aborts.AbortsBulkIn tag s v → Asked v.state
abort_in tag s v asked (aborts.NotBegun layout declined is) = served v _ is asked
abort_in tag s v asked (aborts.DoesAbort nothing runs is) = served v _ is asked

clears : (s : State) (v : Served) → Asked s → aborts.ClearsAll s v → Asked v.state
clears s v asked (aborts.DoesClear t logs is) = served v _ is (logged _ (aborts.cleared s) t asked logs)

reads_status : (tag : ℕ) (submit : Pending) (s : State) (v : Served) → Asked s → status.ReadsStatus tag submit s v → Asked v.state
reads_status tag submit s v asked (status.BadTag bad is) = served v _ is asked
reads_status tag submit s v asked (status.PolledBefore good before is) = served v _ is asked
reads_status tag submit s v asked (status.Busy good fresh queued is) = served v _ is asked
reads_status tag submit s v asked (status.PolledNow t good fresh free polling is) = served v _ is (polls _ tag s t asked polling)

operates : (act : _) (s : State) (v : Served) → Asked s → class.Operates act s v → Asked v.state
operates act s v asked (class.DoesOperate t logs is) = served v _ is (logged _ s t asked logs)

serves : (request : ClassRequest) (submit : Pending) (s : State) (v : Served) → Asked s → class.Serves request submit s v → Asked v.state
serves (AbortOut tag) submit s v asked k = abort_out tag s v asked k
serves CheckOut submit s v asked k = served v _ k (check_out s s.running asked)
serves (AbortIn tag) submit s v asked k = abort_in tag s v asked k
serves CheckIn submit s v asked k = served v _ k (check_in s s.running asked)
serves Clear submit s v asked k = clears s v asked k
serves CheckClear submit s v asked k = served v _ k (check_clear s s.running asked)
serves Capabilities submit s v asked k = served v _ k asked
serves Pulse submit s v asked k = served v _ k asked
serves (ReadStatus tag) submit s v asked k = reads_status tag submit s v asked k
serves (Ren true) submit s v asked k = operates _ s v asked k
serves (Ren false) submit s v asked k = operates _ s v asked k
serves GoLocal submit s v asked k = operates _ s v asked k
serves Lockout submit s v asked k = operates _ s v asked k

standard : (request : Standard) (s : State) → Asked s → Asked (standard_effect request s)
standard (ClearHalt Control) s asked = asked
standard (ClearHalt BulkOut) s asked = asked
standard (ClearHalt BulkIn) s asked = asked
standard (ClearHalt InterruptIn) s asked = asked
standard SetConfiguration s asked = asked
standard SetInterface s asked = asked
standard _ s asked = asked

answers : (s t : State) (puts : List Put) → AllFirst s → class.Answers s puts t → Asked t
answers s t puts first (class.ByClass submit behind setup request v queue asks row serving put is) =
    to v.state t is (serves request submit (record s { control = behind }) v (behind_asks submit behind s first queue) serving)
answers s t puts first (class.ByStandard submit behind setup request queue asks row put is) = to _ t is (standard request (record s { control = behind }) (behind_asks submit behind s first queue))
answers s t puts first (class.Unknown submit behind setup queue asks unknown put is) = to _ t is (behind_asks submit behind s first queue)

asked_goes : (s t : State) (move : Move) (puts : List Put) → AllFirst s → Asked s → Leads s move puts t → Asked t
asked_goes s t (Comes (up.Submit head transferred)) puts first asked k = arrives s t head transferred puts asked k.3
asked_goes s t (Comes (up.Unlink head)) puts first asked k = unlinks s t head puts first asked k.1
asked_goes s t (Refuses devid bytes f) puts first asked k = to _ t k.2 asked
asked_goes s t (Take count) puts first asked k = takes s t count puts asked k.1
asked_goes s t Exec puts first asked k = executes k.0
  where
    executes : out.Executes s t → Asked t
    executes (out.DoesExecute seq message waits logs) = logged _ _ t asked logs
asked_goes s t (Begin count) puts first asked k = begins k.0
  where
    begins : «in».Begins s count t → Asked t
    begins («in».DoesBegin tag size owes free low high logs) = logged _ _ t asked logs
asked_goes s t (Fill count) puts first asked k = fills s t count puts asked k
asked_goes s t Answer puts first asked k = answers s t puts first k
asked_goes s t Pend puts first asked k = pends k
  where
    pends : class.Postpones s puts t → Asked t
    pends (class.DoesPostpone submit behind setup request layout queue asks row stays put is) = to _ t is (behind_asks submit behind s first queue)
asked_goes s t Poll puts first asked k = polls_first k.0
  where
    polls_first : class.PollsFirst s t → Asked t
    polls_first (class.DoesPollFirst submit behind setup tag queue asks row good fresh free polling) =
        polls _ tag _ t (λ polled. record { setup = setup; tag = tag; asks = record { fits = asks.fits; layout = asks.layout }; row = row; tagged = good }) polling
asked_goes s t Notify puts first asked k = notifies k
  where
    notifies : status.Notifies s puts t → Asked t
    notifies (status.Gives submit behind packet packets queue there long put is) = to _ t is asked
    notifies (status.NoRoom submit behind packet packets queue there short put is) = to _ t is asked
asked_goes s t (Halt e) puts first asked k = itself k
  where
    itself : HaltsItself s e puts t → Asked t
    itself (DoesHalt other usable put is) = to (halts e s) t is (halted e s asked)
asked_goes s t Unplug puts first asked k = to _ t k.is tt

asked_run : (s : State) (run : List Entry) (t : State) → IsReached s → Asked s → Runs s run t → Asked t
asked_run s [] t r asked is = to s t is asked
asked_run s (entry ∷ run) t r asked goes =
    asked_run goes.0 run t (reached_step s entry.move entry.puts goes.0 r goes.1) (asked_goes s goes.0 entry.move entry.puts r.first asked goes.1.leads) goes.2

polled_asks : (run : List Entry) (s : State) → Runs start run s → PolledAsks s.control
polled_asks run s goes = asked_run start run s reached_start tt goes

none_polled : (before : List Pending) (submit : Pending) (behind : List Pending) → NonePolled (before ++ submit ∷ behind) → submit.polled ≡ true → ⊥
none_polled [] submit behind h polled = true_false (sym h.0 ∙ polled)
none_polled (x ∷ before) submit behind h polled = none_polled before submit behind h.1 polled

-- where a submit was polled
polled_first : (e : Endpoint) (before : List Pending) (submit : Pending) (behind : List Pending) → FirstPolled e (before ++ submit ∷ behind) → submit.polled ≡ true → (e ≡ Control) × (before ≡ [])
polled_first Control [] submit behind h polled = (refl, refl)
polled_first BulkOut [] submit behind h polled = absurd (none_polled [] submit behind h polled)
polled_first BulkIn [] submit behind h polled = absurd (none_polled [] submit behind h polled)
polled_first InterruptIn [] submit behind h polled = absurd (none_polled [] submit behind h polled)
polled_first e (x ∷ before) submit behind h polled = absurd (none_polled before submit behind h.1 polled)

pub polled_for : (run : List Entry) (s : State) (e : Endpoint) (before : List Pending) (submit : Pending) (behind : List Pending) → Runs start run s → Holds s e before submit behind → submit.polled ≡ true
    → (e ≡ Control) × (before ≡ []) × AsksStatus submit
polled_for run s e before submit behind goes holds polled =
    let place = polled_first e before submit behind (subst (λ (q : List Pending). FirstPolled e q) holds ((sound run s goes).polled e)) polled in
    let queue : s.control ≡ submit ∷ behind = subst (λ (x : Endpoint). queue_of x s ≡ submit ∷ behind) place.0 (holds ∙ ap (λ (x : List Pending). x ++ submit ∷ behind) place.1) in
    (place.0, place.1, subst (λ (q : List Pending). PolledAsks q) queue (polled_asks run s goes) polled)
