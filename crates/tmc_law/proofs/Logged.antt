-- what each move logs
use Rattle.std.proofs.Common.{◌≡◌, ℕ, true, false, List, [], ◌∷◌, ap, arith}
use Rattle.tmc_wire.specs.declared.class_request.ClassRequest.{ClassRequest}
use Rattle.tmc_wire.specs.declared.class_request.ClassRequest.TheVariants as request
use Rattle.usbip_wire.specs.declared.submit.SubmitHead.{SubmitHead}
use Rattle.usbip_wire.specs.declared.unlink.UnlinkHead.{UnlinkHead}
use Rattle.usbip_wire.specs.Up as up
use Rattle.instr_plain.specs.declared.remote.RemoteAct.{RemoteAct}
use Rattle.instr_plain.specs.declared.remote.RemoteAct.TheVariants as act
use Rattle.instr_plain.specs.declared.log.LogEntry.TheVariants as entry
use Rattle.tmc_law.specs.Endpoint.{Endpoint, Control, BulkOut, BulkIn, InterruptIn}
use Rattle.tmc_law.specs.State.{State, Pending, Running, Nothing, AbortsOut, AbortsIn, Clears, Transfer, Owed, with_queue}
use Rattle.tmc_law.specs.Put.{Put}
use Rattle.tmc_law.specs.Halts.{halts, HaltsItself, DoesHalt}
use Rattle.tmc_law.specs.Queues.{Arrives, Queued, TurnedAway, Unlinks, Hits, Polled, Misses}
use Rattle.tmc_law.specs.BulkOut.{Takes, TakesEffect, Interrupts, Executes, DoesExecute}
use Rattle.tmc_law.specs.BulkOut as out
use Rattle.tmc_law.specs.BulkIn.{Begins, DoesBegin, Fills}
use Rattle.tmc_law.specs.BulkIn as piece
use Rattle.tmc_law.specs.Standard.{Standard, standard_effect}
use Rattle.tmc_law.specs.Standard as standard
use Rattle.tmc_law.specs.Aborts.{Served, AbortsBulkOut, AbortsBulkIn, ClearsAll, DoesClear, checked_out, checked_in, checked_clear, cleared}
use Rattle.tmc_law.specs.Aborts as abort
use Rattle.tmc_law.specs.Status.{Polls, DoesPoll, ReadsStatus, Notifies}
use Rattle.tmc_law.specs.Status as status
use Rattle.tmc_law.specs.Class.{Operates, DoesOperate, Serves, Answers, ByClass, ByStandard, Unknown, Postpones, DoesPostpone, PollsFirst, DoesPollFirst}
use Rattle.tmc_law.specs.Step.{Move, Comes, Refuses, Take, Exec, Begin, Fill, Answer, Pend, Poll, Notify, Halt, Unplug, Leads}
use Rattle.tmc_law.specs.Run.{Entry, Runs}
use Rattle.tmc_law.proofs.Grown.{Grown, still, logged, like, twice}

queue : (endpoint : Endpoint) (queue : List Pending) (s : State) → Grown s (with_queue endpoint queue s)
queue Control submits s = still s
queue BulkOut submits s = still s
queue BulkIn submits s = still s
queue InterruptIn submits s = still s

halt : (endpoint : Endpoint) (s : State) → Grown s (halts endpoint s)
halt Control s = still s
halt BulkOut s = still s
halt BulkIn s = still s
halt InterruptIn s = still s

arrives : (s : State) (head : SubmitHead) (transferred : List ℕ) (puts : List Put) (t : State) → Arrives s head transferred puts t → Grown s t
arrives s head transferred puts t (Queued endpoint taken put is) = like s t _ is (queue endpoint _ s)
arrives s head transferred puts t (TurnedAway none put is) = like s t _ is (still s)

unlinks : (s : State) (head : UnlinkHead) (puts : List Put) (t : State) → Unlinks s head puts t → Grown s t
unlinks s head puts t (Hits endpoint before submit behind holds number polled put is) = like s t _ is (queue endpoint _ s)
unlinks s head puts t (Polled endpoint before submit behind setup tag holds number polled asks row put is) = like s t _ is (queue endpoint _ s)
unlinks s head puts t (Misses avoids put is) = like s t _ is (still s)

interrupts : (s t : State) → Interrupts s t → Grown s t
interrupts s t (out.Dropped first unread logs) = logged entry.Interrupt s t tt logs
interrupts s t (out.NothingUnread none is) = like s t _ is (still s)
interrupts s t (out.LaterPart later is) = like s t _ is (still s)

takes_effect : (seq : ℕ) (transfer : Transfer) (s t : State) → TakesEffect seq transfer s t → Grown s t
takes_effect seq transfer s t (out.Part tag size message mid header text interrupted is) = like s t _ is (interrupts s mid interrupted)
takes_effect seq transfer s t (out.Last tag size message mid header text interrupted is) = like s t _ is (interrupts s mid interrupted)
takes_effect seq transfer s t (out.Requests tag size header unread is) = like s t _ is (still s)
takes_effect seq transfer s t (out.RequestsNothing tag size header none logs) = logged entry.Bare (record s { side = Owed tag size }) t tt logs
takes_effect seq transfer s t (out.Triggers tag header logs) = logged (entry.Trigger seq) s t tt logs

takes : (s : State) (count : ℕ) (puts : List Put) (t : State) → Takes s count puts t → Grown s t
takes s count puts t (out.Empty submit behind queued empty one put is) = like s t _ is (still s)
takes s count puts t (out.Spoiled submit behind queued some least most spoils put is) = like s t _ is (halt BulkOut s)
takes s count puts t (out.Inside submit later behind transfer grown queued some least fine belongs moves more put is) = like s t _ is (still s)
takes s count puts t (out.SubmitEnds submit later behind transfer grown queued some all fine belongs moves wanting put is) = like s t _ is (still s)
takes s count puts t (out.TransferEnds submit later behind transfer grown queued some all fine belongs moves whole effect put) =
    takes_effect submit.head.seqnum grown _ t effect

executes : (s t : State) → Executes s t → Grown s t
executes s t (DoesExecute seq message waiting logs) = logged (entry.Exec seq message) _ t tt logs

begins : (s : State) (count : ℕ) (t : State) → Begins s count t → Grown s t
begins s count t (DoesBegin tag size owed calm least most logs) = logged (entry.Took count) _ t (omega arith) logs

fills : (s : State) (count : ℕ) (puts : List Put) (t : State) → Fills s count puts t → Grown s t
fills s count puts t (piece.Ends submit behind given queued running one put is) = like s t _ is (still s)
fills s count puts t (piece.Inside submit behind sent queued sending calm least within room put is) = like s t _ is (still s)
fills s count puts t (piece.Full submit behind sent queued sending calm least within room put is) = like s t _ is (still s)
fills s count puts t (piece.Short submit behind sent full queued sending calm last room within short fits put is) = like s t _ is (still s)
fills s count puts t (piece.Overflows submit behind sent full queued sending calm last room within over put is) = like s t _ is (halt BulkIn s)

checks_out : (running : Running) (s : State) → Grown s (checked_out (record s { running = running })).state
checks_out Nothing s = still s
checks_out AbortsOut s = still s
checks_out (AbortsIn wanting given) s = still s
checks_out Clears s = still s

checks_in : (running : Running) (s : State) → Grown s (checked_in (record s { running = running })).state
checks_in Nothing s = still s
checks_in AbortsOut s = still s
checks_in (AbortsIn true given) s = still s
checks_in (AbortsIn false given) s = still s
checks_in Clears s = still s

checks_clear : (running : Running) (s : State) → Grown s (checked_clear (record s { running = running })).state
checks_clear Nothing s = still s
checks_clear AbortsOut s = still s
checks_clear (AbortsIn wanting given) s = still s
checks_clear Clears s = still s

-- what was served is this
serves_like : (s : State) (served other : Served) → served ≡ other → Grown s other.state → Grown s served.state
serves_like s served other same grown = like s served.state other.state (ap (λ (x : Served). x.state) same) grown

aborts_out : (tag : ℕ) (s : State) (served : Served) → AbortsBulkOut tag s served → Grown s served.state
aborts_out tag s served (abort.AbortsBulkOut.NotBegun layout declined is) = serves_like s served _ is (still s)
aborts_out tag s served (abort.AbortsBulkOut.DoesAbort calm ours is) = serves_like s served _ is (still s)

aborts_in : (tag : ℕ) (s : State) (served : Served) → AbortsBulkIn tag s served → Grown s served.state
aborts_in tag s served (abort.AbortsBulkIn.NotBegun layout declined is) = serves_like s served _ is (still s)
aborts_in tag s served (abort.AbortsBulkIn.DoesAbort calm ours is) = serves_like s served _ is (still s)

clears : (s : State) (served : Served) → ClearsAll s served → Grown s served.state
clears s served (DoesClear t logs is) = serves_like s served _ is (logged entry.Clear (cleared s) t tt logs)

polls : (seq tag : ℕ) (s t : State) → Polls seq tag s t → Grown s t
polls seq tag s t (DoesPoll mid logs is) = like s t _ is (logged (entry.Poll seq) s mid tt logs)

reads_status : (tag : ℕ) (submit : Pending) (s : State) (served : Served) → ReadsStatus tag submit s served → Grown s served.state
reads_status tag submit s served (status.BadTag bad is) = serves_like s served _ is (still s)
reads_status tag submit s served (status.PolledBefore good polled is) = serves_like s served _ is (still s)
reads_status tag submit s served (status.Busy good polled queued is) = serves_like s served _ is (still s)
reads_status tag submit s served (status.PolledNow t good polled queued poll is) = serves_like s served _ is (polls _ tag s t poll)

operates : (act : RemoteAct) (s : State) (served : Served) → Operates act s served → Grown s served.state
operates act s served (DoesOperate t logs is) = serves_like s served _ is (logged (entry.Remote act) s t tt logs)

serves : (request : ClassRequest) (submit : Pending) (s : State) (served : Served) → Serves request submit s served → Grown s served.state
serves (request.AbortOut tag) submit s served does = aborts_out tag s served does
serves request.CheckOut submit s served does = serves_like s served _ does (checks_out s.running s)
serves (request.AbortIn tag) submit s served does = aborts_in tag s served does
serves request.CheckIn submit s served does = serves_like s served _ does (checks_in s.running s)
serves request.Clear submit s served does = clears s served does
serves request.CheckClear submit s served does = serves_like s served _ does (checks_clear s.running s)
serves request.Capabilities submit s served does = serves_like s served _ does (still s)
serves request.Pulse submit s served does = serves_like s served _ does (still s)
serves (request.ReadStatus tag) submit s served does = reads_status tag submit s served does
serves (request.Ren true) submit s served does = operates act.On s served does
serves (request.Ren false) submit s served does = operates act.Off s served does
serves request.GoLocal submit s served does = operates act.GoLocal s served does
serves request.Lockout submit s served does = operates act.Lockout s served does

standard_does : (request : Standard) (s : State) → Grown s (standard_effect request s)
standard_does standard.GetDeviceStatus s = still s
standard_does standard.GetInterfaceStatus s = still s
standard_does (standard.GetEndpointStatus endpoint) s = still s
standard_does (standard.ClearHalt Control) s = still s
standard_does (standard.ClearHalt BulkOut) s = still s
standard_does (standard.ClearHalt BulkIn) s = still s
standard_does (standard.ClearHalt InterruptIn) s = still s
standard_does standard.GetDeviceDescriptor s = still s
standard_does standard.GetConfigurationDescriptor s = still s
standard_does (standard.GetString index) s = still s
standard_does standard.GetConfiguration s = still s
standard_does standard.SetConfiguration s = still s
standard_does standard.GetInterface s = still s
standard_does standard.SetInterface s = still s

answers : (s : State) (puts : List Put) (t : State) → Answers s puts t → Grown s t
answers s puts t (ByClass submit behind setup request served queued asks row does put is) =
    like s t served.state is (serves request submit (record s { control = behind }) served does)
answers s puts t (ByStandard submit behind setup request queued asks row put is) =
    like s t _ is (standard_does request (record s { control = behind }))
answers s puts t (Unknown submit behind setup queued asks unknown put is) = like s t _ is (still s)

postpones : (s : State) (puts : List Put) (t : State) → Postpones s puts t → Grown s t
postpones s puts t (DoesPostpone submit behind setup request layout queued asks row pends put is) = like s t _ is (still s)

polls_first : (s t : State) → PollsFirst s t → Grown s t
polls_first s t (DoesPollFirst submit behind setup tag queued asks row good polled free poll) = polls submit.head.seqnum tag _ t poll

notifies : (s : State) (puts : List Put) (t : State) → Notifies s puts t → Grown s t
notifies s puts t (status.Gives submit behind packet packets queued first room put is) = like s t _ is (still s)
notifies s puts t (status.NoRoom submit behind packet packets queued first room put is) = like s t _ is (halt InterruptIn s)

halts_itself : (s : State) (endpoint : Endpoint) (puts : List Put) (t : State) → HaltsItself s endpoint puts t → Grown s t
halts_itself s endpoint puts t (DoesHalt other usable put is) = like s t _ is (halt endpoint s)

-- each move logs what leads from standing to standing
pub leads : (s : State) (move : Move) (puts : List Put) (t : State) → Leads s move puts t → Grown s t
leads s (Comes (up.Submit head transferred)) puts t does = arrives s head transferred puts t does.3
leads s (Comes (up.Unlink head)) puts t does = unlinks s head puts t does.1
leads s (Refuses devid bytes f) puts t does = like s t _ does.2 (still s)
leads s (Take count) puts t does = takes s count puts t does.1
leads s Exec puts t does = executes s t does.0
leads s (Begin count) puts t does = begins s count t does.0
leads s (Fill count) puts t does = fills s count puts t does
leads s Answer puts t does = answers s puts t does
leads s Pend puts t does = postpones s puts t does
leads s Poll puts t does = polls_first s t does.0
leads s Notify puts t does = notifies s puts t does
leads s (Halt endpoint) puts t does = halts_itself s endpoint puts t does
leads s Unplug puts t does = like s t _ does.is (still s)

pub runs : (run : List Entry) (s t : State) → Runs s run t → Grown s t
runs [] s t same = like s t s same (still s)
runs (entry ∷ run) s t (mid, step, more) = twice s mid t (leads s entry.move entry.puts mid step.leads) (runs run mid t more)
