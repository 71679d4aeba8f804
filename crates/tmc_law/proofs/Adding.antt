-- what each move adds to the log
use Rattle.std.proofs.Common.{◌≡◌, ◌∙◌, ℕ, Bool, true, false, List, [], ◌∷◌, ◌++◌, None, refl, ap, sym, subst}
use Rattle.usbip_wire.specs.Up as up
use Rattle.tmc_wire.specs.declared.class_request.ClassRequest.{ClassRequest}
use Rattle.tmc_wire.specs.declared.class_request.ClassRequest.TheVariants.{AbortOut, CheckOut, AbortIn, CheckIn, Clear, CheckClear, Capabilities, Pulse, ReadStatus, Ren, GoLocal, Lockout}
use Rattle.instr_plain.specs.declared.log.LogEntry.{LogEntry}
use Rattle.instr_plain.specs.declared.log.LogEntry.TheVariants as entry
use Rattle.instr_plain.specs.Log.{After}
use Rattle.instr_plain.specs.Standing.{Standing}
use Rattle.tmc_law.specs.Endpoint.{Endpoint, Control, BulkOut, BulkIn, InterruptIn}
use Rattle.tmc_law.specs.State.{State, Pending, Transfer, Running, Nothing, AbortsOut, AbortsIn, Clears, with_queue, with_halt}
use Rattle.tmc_law.specs.Put.{Put}
use Rattle.tmc_law.specs.Halts.{halts, HaltsItself, DoesHalt}
use Rattle.tmc_law.specs.Queues.{Arrives, Queued, TurnedAway, Unlinks, Hits, Polled, Misses}
use Rattle.tmc_law.specs.BulkOut as out
use Rattle.tmc_law.specs.BulkIn as «in»
use Rattle.tmc_law.specs.Aborts as aborts
use Rattle.tmc_law.specs.Aborts.{Served}
use Rattle.tmc_law.specs.Status as status
use Rattle.tmc_law.specs.Class as class
use Rattle.tmc_law.specs.Standard.{Standard, ClearHalt, SetConfiguration, SetInterface, standard_effect}
use Rattle.tmc_law.specs.Logging.{Logs}
use Rattle.tmc_law.specs.Step.{Move, Comes, Refuses, Take, Exec, Begin, Fill, Answer, Pend, Poll, Notify, Halt, Unplug, Leads}
use Rattle.tmc_law.specs.LogStep.{IsFirst, MayLog, Adds, LogsNothing, LogsOne}

-- log and instrument are the same in both states
record Alike (s t : State) : Type 0 where
  log : t.log ≡ s.log
  standing : t.standing ≡ s.standing

alike : (s : State) → Alike s s
alike s = record { log = refl; standing = refl }

stays : (Ok : LogEntry → Type 0) (s t u : State) → t ≡ u → Alike s u → Adds Ok s t
stays Ok s t u is same = LogsNothing (ap (λ (x : State). x.log) is ∙ same.log) (ap (λ (x : State). x.standing) is ∙ same.standing)

logs : (Ok : LogEntry → Type 0) (e : LogEntry) (s t : State) → Ok e → Logs e s t → Adds Ok s t
logs Ok e s t may l =
    LogsOne e may (ap (λ (x : State). x.log) l.is) (subst (λ (v : Standing). After s.standing e v) (sym (ap (λ (x : State). x.standing) l.is)) l.after)

-- what is added to a state that has the same log, or left by one
via : (Ok : LogEntry → Type 0) (w s t : State) → Alike s w → Adds Ok w t → Adds Ok s t
via Ok w s t same (LogsNothing log standing) = LogsNothing (log ∙ same.log) (standing ∙ same.standing)
via Ok w s t same (LogsOne e may log after) =
    LogsOne e may (log ∙ ap (λ (l : List LogEntry). l ++ e ∷ []) same.log) (subst (λ (v : Standing). After v e t.standing) same.standing after)

to : (Ok : LogEntry → Type 0) (s t u : State) → Alike t u → Adds Ok s t → Adds Ok s u
to Ok s t u same (LogsNothing log standing) = LogsNothing (same.log ∙ log) (same.standing ∙ standing)
to Ok s t u same (LogsOne e may log after) = LogsOne e may (same.log ∙ log) (subst (λ (v : Standing). After s.standing e v) (sym same.standing) after)

-- a state that is written out
is_alike : (s t u : State) → t ≡ u → Alike s u → Alike s t
is_alike s t u is same = record { log = ap (λ (x : State). x.log) is ∙ same.log; standing = ap (λ (x : State). x.standing) is ∙ same.standing }

-- ---- Bulk-OUT

-- what a transfer may log when it takes effect
record Effects (Ok : LogEntry → Type 0) (seq : ℕ) : Type 0 where
  interrupt : Ok entry.Interrupt
  bare : Ok entry.Bare
  trigger : Ok (entry.Trigger seq)

interrupts : (Ok : LogEntry → Type 0) (s t : State) → Ok entry.Interrupt → out.Interrupts s t → Adds Ok s t
interrupts Ok s t may (out.Dropped part some l) = logs Ok entry.Interrupt s t may l
interrupts Ok s t may (out.NothingUnread none is) = stays Ok s t s is (alike s)
interrupts Ok s t may (out.LaterPart part is) = stays Ok s t s is (alike s)

effect : (Ok : LogEntry → Type 0) (seq : ℕ) (transfer : Transfer) (s t : State) → Effects Ok seq → out.TakesEffect seq transfer s t → Adds Ok s t
effect Ok seq transfer s t may (out.Part tag size message mid header text first is) =
    to Ok s mid t (is_alike mid t _ is (record { log = refl; standing = refl })) (interrupts Ok s mid may.interrupt first)
effect Ok seq transfer s t may (out.Last tag size message mid header text first is) =
    to Ok s mid t (is_alike mid t _ is (record { log = refl; standing = refl })) (interrupts Ok s mid may.interrupt first)
effect Ok seq transfer s t may (out.Requests tag size header some is) = stays Ok s t _ is (record { log = refl; standing = refl })
effect Ok seq transfer s t may (out.RequestsNothing tag size header none l) =
    via Ok _ s t (record { log = refl; standing = refl }) (logs Ok entry.Bare _ t may.bare l)
effect Ok seq transfer s t may (out.Triggers tag header l) = logs Ok (entry.Trigger seq) s t may.trigger l

halts_alike : (e : Endpoint) (s : State) → Alike s (halts e s)
halts_alike Control s = record { log = refl; standing = refl }
halts_alike BulkOut s = record { log = refl; standing = refl }
halts_alike BulkIn s = record { log = refl; standing = refl }
halts_alike InterruptIn s = record { log = refl; standing = refl }

takes : (s t : State) (count : ℕ) (puts : List Put) → out.Takes s count puts t → Adds (MayLog s (Take count)) s t
takes s t count puts (out.Empty submit behind line a b c is) = stays _ s t _ is (record { log = refl; standing = refl })
takes s t count puts (out.Spoiled submit behind line a b c d put is) = stays _ s t _ is (halts_alike BulkOut s)
takes s t count puts (out.Inside submit after behind transfer grown line a b c d f g h is) = stays _ s t _ is (record { log = refl; standing = refl })
takes s t count puts (out.SubmitEnds submit after behind transfer grown line a b c d f g put is) = stays _ s t _ is (record { log = refl; standing = refl })
takes s t count puts (out.TransferEnds submit after behind transfer grown line a b c d f g eff put) =
    via _ (record s { bulk_out = behind; transfer = None }) s t (record { log = refl; standing = refl })
    (effect (MayLog s (Take count)) submit.head.seqnum grown _ t (record {
      interrupt = tt;
      bare = tt;
      trigger = subst (λ (q : List Pending). IsFirst q submit.head.seqnum) (sym line) refl;
    }) eff)

-- ---- execution and Bulk-IN

executes : (s t : State) → out.Executes s t → Adds (MayLog s Exec) s t
executes s t (out.DoesExecute seq message waits l) =
    via _ (record s { waiting = None }) s t (record { log = refl; standing = refl }) (logs (MayLog s Exec) (entry.Exec seq message) _ t waits l)

begins : (s t : State) (count : ℕ) → «in».Begins s count t → Adds (MayLog s (Begin count)) s t
begins s t count («in».DoesBegin tag size owes free low high l) =
    via _ _ s t (record { log = refl; standing = refl }) (logs (MayLog s (Begin count)) (entry.Took count) _ t refl l)

fills : (Ok : LogEntry → Type 0) (s t : State) (count : ℕ) (puts : List Put) → «in».Fills s count puts t → Adds Ok s t
fills Ok s t count puts («in».Ends submit behind g line a b c is) = stays Ok s t _ is (record { log = refl; standing = refl })
fills Ok s t count puts («in».Inside submit behind piece line a b c d f g is) = stays Ok s t _ is (record { log = refl; standing = refl })
fills Ok s t count puts («in».Full submit behind piece line a b c d f g is) = stays Ok s t _ is (record { log = refl; standing = refl })
fills Ok s t count puts («in».Short submit behind piece k line a b c d f g i put is) = stays Ok s t _ is (record { log = refl; standing = refl })
fills Ok s t count puts («in».Overflows submit behind piece k line a b c d f g put is) = stays Ok s t _ is (halts_alike BulkIn s)

-- ---- control submits

check_out : (s : State) (r : Running) → Alike s (aborts.checked_out (record s { running = r })).state
check_out s Nothing = record { log = refl; standing = refl }
check_out s AbortsOut = record { log = refl; standing = refl }
check_out s (AbortsIn wanting given) = record { log = refl; standing = refl }
check_out s Clears = record { log = refl; standing = refl }

check_in : (s : State) (r : Running) → Alike s (aborts.checked_in (record s { running = r })).state
check_in s Nothing = record { log = refl; standing = refl }
check_in s AbortsOut = record { log = refl; standing = refl }
check_in s (AbortsIn true given) = record { log = refl; standing = refl }
check_in s (AbortsIn false given) = record { log = refl; standing = refl }
check_in s Clears = record { log = refl; standing = refl }

check_clear : (s : State) (r : Running) → Alike s (aborts.checked_clear (record s { running = r })).state
check_clear s Nothing = record { log = refl; standing = refl }
check_clear s AbortsOut = record { log = refl; standing = refl }
check_clear s (AbortsIn wanting given) = record { log = refl; standing = refl }
check_clear s Clears = record { log = refl; standing = refl }

same_state : (Ok : LogEntry → Type 0) (s : State) (a b : Served) → a ≡ b → Alike s b.state → Adds Ok s a.state
same_state Ok s a b is same = stays Ok s a.state b.state (ap (λ (v : Served). v.state) is) same

-- what a control submit with this number may log
record Controls (Ok : LogEntry → Type 0) (seq : ℕ) : Type 0 where
  poll : Ok (entry.Poll seq)
  clear : Ok entry.Clear
  remote : (act : _) → Ok (entry.Remote act)

polls : (Ok : LogEntry → Type 0) (seq tag : ℕ) (s t : State) → Ok (entry.Poll seq) → status.Polls seq tag s t → Adds Ok s t
polls Ok seq tag s t may (status.DoesPoll mid l is) = to Ok s mid t (is_alike mid t _ is (record { log = refl; standing = refl })) (logs Ok (entry.Poll seq) s mid may l)

served_by : (Ok : LogEntry → Type 0) (s t : State) (a b : Served) → a ≡ b → b.state ≡ t → Adds Ok s t → Adds Ok s a.state
served_by Ok s t a b is state adds = subst (λ (x : State). Adds Ok s x) (sym (ap (λ (v : Served). v.state) is ∙ state)) adds

reads_status : (Ok : LogEntry → Type 0) (tag : ℕ) (submit : Pending) (s : State) (served : Served) → Controls Ok submit.head.seqnum → status.ReadsStatus tag submit s served
    → Adds Ok s served.state
reads_status Ok tag submit s served may (status.BadTag bad is) = same_state Ok s served _ is (alike s)
reads_status Ok tag submit s served may (status.PolledBefore good before is) = same_state Ok s served _ is (alike s)
reads_status Ok tag submit s served may (status.Busy good unpolled queued is) = same_state Ok s served _ is (alike s)
reads_status Ok tag submit s served may (status.PolledNow t good unpolled free poll is) = served_by Ok s t served _ is refl (polls Ok _ tag s t may.poll poll)

serves : (Ok : LogEntry → Type 0) (request : ClassRequest) (submit : Pending) (s : State) (served : Served) → Controls Ok submit.head.seqnum
    → class.Serves request submit s served → Adds Ok s served.state
serves Ok (AbortOut tag) submit s served may (aborts.NotBegun layout declined is) = same_state Ok s served _ is (alike s)
serves Ok (AbortOut tag) submit s served may (aborts.DoesAbort free some is) = same_state Ok s served _ is (record { log = refl; standing = refl })
serves Ok CheckOut submit s served may h = same_state Ok s served _ h (check_out s s.running)
serves Ok (AbortIn tag) submit s served may (aborts.NotBegun layout declined is) = same_state Ok s served _ is (alike s)
serves Ok (AbortIn tag) submit s served may (aborts.DoesAbort free some is) = same_state Ok s served _ is (record { log = refl; standing = refl })
serves Ok CheckIn submit s served may h = same_state Ok s served _ h (check_in s s.running)
serves Ok Clear submit s served may (aborts.DoesClear t l is) =
    served_by Ok s t served _ is refl (via Ok (aborts.cleared s) s t (record { log = refl; standing = refl }) (logs Ok entry.Clear (aborts.cleared s) t may.clear l))
serves Ok CheckClear submit s served may h = same_state Ok s served _ h (check_clear s s.running)
serves Ok Capabilities submit s served may h = same_state Ok s served _ h (alike s)
serves Ok Pulse submit s served may h = same_state Ok s served _ h (alike s)
serves Ok (ReadStatus tag) submit s served may h = reads_status Ok tag submit s served may h
serves Ok (Ren true) submit s served may (class.DoesOperate t l is) = served_by Ok s t served _ is refl (logs Ok _ s t (may.remote _) l)
serves Ok (Ren false) submit s served may (class.DoesOperate t l is) = served_by Ok s t served _ is refl (logs Ok _ s t (may.remote _) l)
serves Ok GoLocal submit s served may (class.DoesOperate t l is) = served_by Ok s t served _ is refl (logs Ok _ s t (may.remote _) l)
serves Ok Lockout submit s served may (class.DoesOperate t l is) = served_by Ok s t served _ is refl (logs Ok _ s t (may.remote _) l)

halt_alike : (e : Endpoint) (b : Bool) (s : State) → Alike s (with_halt e b s)
halt_alike Control b s = alike s
halt_alike BulkOut b s = record { log = refl; standing = refl }
halt_alike BulkIn b s = record { log = refl; standing = refl }
halt_alike InterruptIn b s = record { log = refl; standing = refl }

standard : (request : Standard) (s : State) → Alike s (standard_effect request s)
standard (ClearHalt e) s = halt_alike e false s
standard SetConfiguration s = record { log = refl; standing = refl }
standard SetInterface s = record { log = refl; standing = refl }
standard _ s = alike s

answers : (s t : State) (puts : List Put) → class.Answers s puts t → Adds (MayLog s Answer) s t
answers s t puts (class.ByClass submit behind setup request served line asks row serving put is) =
    subst (λ (x : State). Adds (MayLog s Answer) s x) (sym is)
    (via _ (record s { control = behind }) s served.state (record { log = refl; standing = refl })
    (serves (MayLog s Answer) request submit (record s { control = behind }) served (record {
      poll = subst (λ (q : List Pending). IsFirst q submit.head.seqnum) (sym line) refl;
      clear = tt;
      remote = λ act. tt;
    }) serving))
answers s t puts (class.ByStandard submit behind setup request line asks row put is) =
    stays _ s t _ is (via_alike (standard request (record s { control = behind })))
  where
    via_alike : Alike (record s { control = behind }) (standard_effect request (record s { control = behind })) → Alike s (standard_effect request (record s { control = behind }))
    via_alike h = record { log = h.log; standing = h.standing }
answers s t puts (class.Unknown submit behind setup line asks unknown put is) = stays _ s t _ is (record { log = refl; standing = refl })

-- ---- all moves

queue_alike : (e : Endpoint) (q : List Pending) (s : State) → Alike s (with_queue e q s)
queue_alike Control q s = record { log = refl; standing = refl }
queue_alike BulkOut q s = record { log = refl; standing = refl }
queue_alike BulkIn q s = record { log = refl; standing = refl }
queue_alike InterruptIn q s = record { log = refl; standing = refl }

pub adds : (s t : State) (move : Move) (puts : List Put) → Leads s move puts t → Adds (MayLog s move) s t
adds s t (Comes (up.Submit head transferred)) puts h = arrives h.3
  where
    arrives : Arrives s head transferred puts t → Adds (MayLog s (Comes (up.Submit head transferred))) s t
    arrives (Queued e taken put is) = stays _ s t _ is (queue_alike e _ s)
    arrives (TurnedAway none put is) = stays _ s t s is (alike s)
adds s t (Comes (up.Unlink head)) puts h = unlinks h.1
  where
    unlinks : Unlinks s head puts t → Adds (MayLog s (Comes (up.Unlink head))) s t
    unlinks (Hits e before submit behind line target unpolled put is) = stays _ s t _ is (queue_alike e (before ++ behind) s)
    unlinks (Polled e before submit behind setup tag line target polled asks row put is) = stays _ s t _ is (queue_alike e (before ++ behind) s)
    unlinks (Misses avoids put is) = stays _ s t s is (alike s)
adds s t (Refuses devid bytes f) puts h = stays _ s t _ h.2 (record { log = refl; standing = refl })
adds s t (Take count) puts h = takes s t count puts h.1
adds s t Exec puts h = executes s t h.0
adds s t (Begin count) puts h = begins s t count h.0
adds s t (Fill count) puts h = fills _ s t count puts h
adds s t Answer puts h = answers s t puts h
adds s t Pend puts h = pends h
  where
    pends : class.Postpones s puts t → Adds (MayLog s Pend) s t
    pends (class.DoesPostpone submit behind setup request layout line asks row stay put is) = stays _ s t _ is (record { log = refl; standing = refl })
adds s t Poll puts h = polled h.0
  where
    polled : class.PollsFirst s t → Adds (MayLog s Poll) s t
    polled (class.DoesPollFirst submit behind setup tag line asks row good unpolled free poll) =
        via _ _ s t (record { log = refl; standing = refl })
        (polls (MayLog s Poll) _ tag _ t (subst (λ (q : List Pending). IsFirst q submit.head.seqnum) (sym line) refl) poll)
adds s t Notify puts h = notifies h
  where
    notifies : status.Notifies s puts t → Adds (MayLog s Notify) s t
    notifies (status.Gives submit behind packet packets line there long put is) = stays _ s t _ is (record { log = refl; standing = refl })
    notifies (status.NoRoom submit behind packet packets line there short put is) = stays _ s t _ is (halts_alike InterruptIn s)
adds s t (Halt e) puts h = halted h
  where
    halted : HaltsItself s e puts t → Adds (MayLog s (Halt e)) s t
    halted (DoesHalt other usable put is) = stays _ s t _ is (halts_alike e s)
adds s t Unplug puts h = stays _ s t _ h.is (record { log = refl; standing = refl })
