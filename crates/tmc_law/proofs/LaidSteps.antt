-- each step keeps what is laid out
use Rattle.std.proofs.Common.{◌≡◌, ℕ, ◌*◌, ◌≤◌, min, true, false, List, [], ◌∷◌, Option, Some, refl, sym, ap, subst, arith}
use Rattle.tmc_wire.specs.declared.class_request.ClassRequest.{ClassRequest}
use Rattle.tmc_wire.specs.declared.class_request.ClassRequest.TheVariants as request
use Rattle.tmc_wire.specs.declared.header.OutHeader.{OutHeader}
use Rattle.tmc_wire.specs.declared.header.OutHeader.TheVariants.{Request}
use Rattle.tmc_wire.specs.Header.{IsTag, IsSize}
use Rattle.usbip_wire.specs.declared.submit.SubmitHead.{SubmitHead}
use Rattle.usbip_wire.specs.declared.unlink.UnlinkHead.{UnlinkHead}
use Rattle.usbip_wire.specs.Up as up
use Rattle.instr_plain.specs.declared.remote.RemoteAct.{RemoteAct}
use Rattle.instr_plain.specs.declared.remote.RemoteAct.TheVariants as act
use Rattle.instr_plain.specs.declared.log.LogEntry.TheVariants as entry
use Rattle.instr_plain.specs.Standing.{polled_byte}
use Rattle.tmc_law.specs.Endpoint.{Endpoint, Control, BulkOut, BulkIn, InterruptIn, packet_size}
use Rattle.tmc_law.specs.State.{State, start, Pending, Piece, Running, Nothing, AbortsOut, AbortsIn, Clears, Transfer, Side, Owed, Sending, Packet, StatusPacket, with_queue}
use Rattle.tmc_law.specs.Put.{Put}
use Rattle.tmc_law.specs.Logging.{unread}
use Rattle.tmc_law.specs.Halts.{halts, HaltsItself, DoesHalt}
use Rattle.tmc_law.specs.Queues.{Arrives, Queued, TurnedAway, Unlinks, Hits, Polled, Misses}
use Rattle.tmc_law.specs.BulkOut.{Takes, TakesEffect, Interrupts, Executes, DoesExecute, Belongs, Moves, DoesMove}
use Rattle.tmc_law.specs.BulkOut as out
use Rattle.tmc_law.specs.BulkIn.{Begins, DoesBegin, Fills, given}
use Rattle.tmc_law.specs.BulkIn as piece
use Rattle.tmc_law.specs.Standard.{Standard, standard_effect}
use Rattle.tmc_law.specs.Standard as standard
use Rattle.tmc_law.specs.Aborts.{Served, AbortsBulkOut, AbortsBulkIn, ClearsAll, DoesClear, checked_out, checked_in, checked_clear, cleared}
use Rattle.tmc_law.specs.Aborts as abort
use Rattle.tmc_law.specs.Status.{IsStatusTag, Polls, DoesPoll, ReadsStatus, Notifies}
use Rattle.tmc_law.specs.Status as status
use Rattle.tmc_law.specs.Class.{Operates, DoesOperate, Serves, Answers, ByClass, ByStandard, Unknown, Postpones, DoesPostpone, PollsFirst, DoesPollFirst}
use Rattle.tmc_law.specs.Step.{Move, Comes, Refuses, Take, Exec, Begin, Fill, Answer, Pend, Poll, Notify, Halt, Unplug, Leads}
use Rattle.tmc_law.specs.Run.{Entry, Runs}
use Rattle.tmc_law.proofs.PieceTexts.{begun, goes}
use Rattle.tmc_law.proofs.Laid.{IsLaid, HeaderFits, TransferFits, SideFits, RunningFits, PacketsFit, at_start, like, header_fits, pushed, logged, cut_fits, given_fits}

-- the queues and the halts alone differ
still : (s t : State) → t.transfer ≡ s.transfer → t.side ≡ s.side → t.running ≡ s.running → t.packets ≡ s.packets → IsLaid s → IsLaid t
still s t transfer side running packets laid = record {
  transfer = subst (λ (x : Option Transfer). TransferFits x) (sym transfer) laid.transfer;
  side = subst (λ (x : Side). SideFits x) (sym side) laid.side;
  running = subst (λ (x : Running). RunningFits x) (sym running) laid.running;
  packets = subst (λ (x : List Packet). PacketsFit x) (sym packets) laid.packets;
}

queue : (endpoint : Endpoint) (queue : List Pending) (s : State) → IsLaid s → IsLaid (with_queue endpoint queue s)
queue Control submits s laid = still s _ refl refl refl refl laid
queue BulkOut submits s laid = still s _ refl refl refl refl laid
queue BulkIn submits s laid = still s _ refl refl refl refl laid
queue InterruptIn submits s laid = still s _ refl refl refl refl laid

halt : (endpoint : Endpoint) (s : State) → IsLaid s → IsLaid (halts endpoint s)
halt Control s laid = still s _ refl refl refl refl laid
halt BulkOut s laid = record { transfer = tt; side = laid.side; running = laid.running; packets = laid.packets }
halt BulkIn s laid = record { transfer = laid.transfer; side = tt; running = laid.running; packets = laid.packets }
halt InterruptIn s laid = still s _ refl refl refl refl laid

arrives : (s : State) (head : SubmitHead) (transferred : List ℕ) (puts : List Put) (t : State) → IsLaid s → Arrives s head transferred puts t → IsLaid t
arrives s head transferred puts t laid (Queued endpoint taken put is) = like t _ is (queue endpoint _ s laid)
arrives s head transferred puts t laid (TurnedAway none put is) = like t _ is laid

unlinks : (s : State) (head : UnlinkHead) (puts : List Put) (t : State) → IsLaid s → Unlinks s head puts t → IsLaid t
unlinks s head puts t laid (Hits endpoint before submit behind holds number polled put is) = like t _ is (queue endpoint _ s laid)
unlinks s head puts t laid (Polled endpoint before submit behind setup tag holds number polled asks row put is) = like t _ is (queue endpoint _ s laid)
unlinks s head puts t laid (Misses avoids put is) = like t _ is laid

-- ---- Bulk-OUT

interrupts : (s t : State) → IsLaid s → Interrupts s t → IsLaid t
interrupts s t laid (out.Dropped first unread logs) = logged entry.Interrupt s t laid logs
interrupts s t laid (out.NothingUnread none is) = like t _ is laid
interrupts s t laid (out.LaterPart later is) = like t _ is laid

-- the request that a transfer is
requested : (header : OutHeader) (tag size : ℕ) → header ≡ Request tag size → HeaderFits header → IsTag tag × IsSize size
requested header tag size is fits = subst (λ (h : OutHeader). HeaderFits h) is fits

owing : (s : State) (tag size : ℕ) → IsTag tag × IsSize size → IsLaid s → IsLaid (record s { side = Owed tag size })
owing s tag size fits laid = record { transfer = laid.transfer; side = fits; running = laid.running; packets = laid.packets }

takes_effect : (seq : ℕ) (transfer : Transfer) (s t : State) → HeaderFits transfer.header → IsLaid s → TakesEffect seq transfer s t → IsLaid t
takes_effect seq transfer s t fits laid (out.Part tag size message mid header text interrupted is) =
    like t _ is (still mid _ refl refl refl refl (interrupts s mid laid interrupted))
takes_effect seq transfer s t fits laid (out.Last tag size message mid header text interrupted is) =
    like t _ is (still mid _ refl refl refl refl (interrupts s mid laid interrupted))
takes_effect seq transfer s t fits laid (out.Requests tag size header unread is) =
    like t _ is (owing s tag size (requested transfer.header tag size header fits) laid)
takes_effect seq transfer s t fits laid (out.RequestsNothing tag size header none logs) =
    logged entry.Bare (record s { side = Owed tag size }) t (owing s tag size (requested transfer.header tag size header fits) laid) logs
takes_effect seq transfer s t fits laid (out.Triggers tag header logs) = logged (entry.Trigger seq) s t laid logs

belongs_fits : (s : State) (submit : Pending) (transfer : Transfer) → IsLaid s → Belongs s submit transfer → HeaderFits transfer.header
belongs_fits s submit transfer laid (out.InProgress is) = subst (λ (x : Option Transfer). TransferFits x) is laid.transfer
belongs_fits s submit transfer laid (out.Begun header none fine is same) =
    subst (λ (x : Transfer). HeaderFits x.header) (sym same) (header_fits header _ is)

grown_fits : (count : ℕ) (submit : Pending) (transfer : Transfer) (later : Pending) (grown : Transfer) → HeaderFits transfer.header
    → Moves count submit transfer later grown → HeaderFits grown.header
grown_fits count submit transfer later grown fits (DoesMove l is) = subst (λ (x : Transfer). HeaderFits x.header) (sym is) fits

moving : (s : State) (queue : List Pending) (grown : Transfer) → HeaderFits grown.header → IsLaid s
    → IsLaid (record s { bulk_out = queue; transfer = Some grown })
moving s queue grown fits laid = record { transfer = fits; side = laid.side; running = laid.running; packets = laid.packets }

takes : (s : State) (count : ℕ) (puts : List Put) (t : State) → IsLaid s → Takes s count puts t → IsLaid t
takes s count puts t laid (out.Empty submit behind queued empty one put is) = like t _ is (still s _ refl refl refl refl laid)
takes s count puts t laid (out.Spoiled submit behind queued some least most spoils put is) = like t _ is (halt BulkOut s laid)
takes s count puts t laid (out.Inside submit later behind transfer grown queued some least fine belongs moves more put is) =
    like t _ is (moving s _ grown (grown_fits count submit transfer later grown (belongs_fits s submit transfer laid belongs) moves) laid)
takes s count puts t laid (out.SubmitEnds submit later behind transfer grown queued some all fine belongs moves wanting put is) =
    like t _ is (moving s _ grown (grown_fits count submit transfer later grown (belongs_fits s submit transfer laid belongs) moves) laid)
takes s count puts t laid (out.TransferEnds submit later behind transfer grown queued some all fine belongs moves whole effect put) =
    takes_effect submit.head.seqnum grown _ t
    (grown_fits count submit transfer later grown (belongs_fits s submit transfer laid belongs) moves)
    (record { transfer = tt; side = laid.side; running = laid.running; packets = laid.packets }) effect

executes : (s t : State) → IsLaid s → Executes s t → IsLaid t
executes s t laid (DoesExecute seq message waiting logs) =
    logged (entry.Exec seq message) _ t (still s _ refl refl refl refl laid) logs

-- ---- Bulk-IN

pub count_fits : (count size most : ℕ) → IsSize size → 1 ≤ count → count ≤ min size most → IsSize count
count_fits count size most (some, small) least within = (omega arith, omega (arith, small, within))

begins : (s : State) (count : ℕ) (t : State) → IsLaid s → Begins s count t → IsLaid t
begins s count t laid (DoesBegin tag size owed calm least most logs) =
    let fits : IsTag tag × IsSize size = subst (λ (x : Side). SideFits x) owed laid.side in
    let counted : IsSize count = count_fits count size _ fits.1 least most in
    logged (entry.Took count) _ t (record {
      transfer = laid.transfer;
      side = (fits.0, counted, begun tag count (unread s) fits.0 counted (omega arith));
      running = laid.running;
      packets = laid.packets;
    }) logs

gives : (size : ℕ) (sent : Piece) → SideFits (Sending sent) → SideFits (Sending (given size sent))
gives size sent fits = (fits.0, fits.1, goes size sent fits.2)

fills : (s : State) (count : ℕ) (puts : List Put) (t : State) → IsLaid s → Fills s count puts t → IsLaid t
fills s count puts t laid (piece.Ends submit behind given queued running one put is) = like t _ is (record {
  transfer = laid.transfer;
  side = tt;
  running = subst (λ (x : Running). RunningFits x) running laid.running;
  packets = laid.packets;
})
fills s count puts t laid (piece.Inside submit behind sent queued sending calm least within room put is) = like t _ is (record {
  transfer = laid.transfer;
  side = gives (count * packet_size) sent (subst (λ (x : Side). SideFits x) sending laid.side);
  running = laid.running;
  packets = laid.packets;
})
fills s count puts t laid (piece.Full submit behind sent queued sending calm least within room put is) = like t _ is (record {
  transfer = laid.transfer;
  side = gives (count * packet_size) sent (subst (λ (x : Side). SideFits x) sending laid.side);
  running = laid.running;
  packets = laid.packets;
})
fills s count puts t laid (piece.Short submit behind sent full queued sending calm last room within short fits put is) = like t _ is (record {
  transfer = laid.transfer;
  side = tt;
  running = laid.running;
  packets = laid.packets;
})
fills s count puts t laid (piece.Overflows submit behind sent full queued sending calm last room within over put is) = like t _ is (halt BulkIn s laid)

-- ---- control

checks_out : (running : Running) (s : State) → IsLaid (record s { running = running }) → IsLaid (checked_out (record s { running = running })).state
checks_out Nothing s laid = laid
checks_out AbortsOut s laid = record { transfer = laid.transfer; side = laid.side; running = tt; packets = laid.packets }
checks_out (AbortsIn wanting given) s laid = laid
checks_out Clears s laid = laid

checks_in : (running : Running) (s : State) → IsLaid (record s { running = running }) → IsLaid (checked_in (record s { running = running })).state
checks_in Nothing s laid = laid
checks_in AbortsOut s laid = laid
checks_in (AbortsIn true given) s laid = laid
checks_in (AbortsIn false given) s laid = record { transfer = laid.transfer; side = laid.side; running = tt; packets = laid.packets }
checks_in Clears s laid = laid

checks_clear : (running : Running) (s : State) → IsLaid (record s { running = running }) → IsLaid (checked_clear (record s { running = running })).state
checks_clear Nothing s laid = laid
checks_clear AbortsOut s laid = laid
checks_clear (AbortsIn wanting given) s laid = laid
checks_clear Clears s laid = record { transfer = laid.transfer; side = laid.side; running = tt; packets = laid.packets }

-- what was served is this
serves_like : (served other : Served) → served ≡ other → IsLaid other.state → IsLaid served.state
serves_like served other same laid = like served.state other.state (ap (λ (x : Served). x.state) same) laid

aborts_out : (tag : ℕ) (s : State) (served : Served) → IsLaid s → AbortsBulkOut tag s served → IsLaid served.state
aborts_out tag s served laid (abort.AbortsBulkOut.NotBegun layout declined is) = serves_like served _ is laid
aborts_out tag s served laid (abort.AbortsBulkOut.DoesAbort calm ours is) =
    serves_like served _ is (record { transfer = tt; side = laid.side; running = tt; packets = laid.packets })

aborts_in : (tag : ℕ) (s : State) (served : Served) → IsLaid s → AbortsBulkIn tag s served → IsLaid served.state
aborts_in tag s served laid (abort.AbortsBulkIn.NotBegun layout declined is) = serves_like served _ is laid
aborts_in tag s served laid (abort.AbortsBulkIn.DoesAbort calm ours is) = serves_like served _ is (record {
  transfer = laid.transfer;
  side = cut_fits s.side laid.side;
  running = given_fits s.side laid.side;
  packets = laid.packets;
})

clears : (s : State) (served : Served) → IsLaid s → ClearsAll s served → IsLaid served.state
clears s served laid (DoesClear t logs is) =
    serves_like served _ is (logged entry.Clear (cleared s) t (record { transfer = tt; side = tt; running = tt; packets = laid.packets }) logs)

polls : (seq tag : ℕ) (s t : State) → IsStatusTag tag → IsLaid s → Polls seq tag s t → IsLaid t
polls seq tag s t good laid (DoesPoll mid logs is) =
    let then = logged (entry.Poll seq) s mid laid logs in
    like t _ is (record {
      transfer = then.transfer;
      side = then.side;
      running = then.running;
      packets = pushed mid.packets (StatusPacket tag (polled_byte s.standing)) then.packets good;
    })

reads_status : (tag : ℕ) (submit : Pending) (s : State) (served : Served) → IsLaid s → ReadsStatus tag submit s served → IsLaid served.state
reads_status tag submit s served laid (status.BadTag bad is) = serves_like served _ is laid
reads_status tag submit s served laid (status.PolledBefore good polled is) = serves_like served _ is laid
reads_status tag submit s served laid (status.Busy good polled queued is) = serves_like served _ is laid
reads_status tag submit s served laid (status.PolledNow t good polled queued poll is) = serves_like served _ is (polls _ tag s t good laid poll)

operates : (act : RemoteAct) (s : State) (served : Served) → IsLaid s → Operates act s served → IsLaid served.state
operates act s served laid (DoesOperate t logs is) = serves_like served _ is (logged (entry.Remote act) s t laid logs)

serves : (request : ClassRequest) (submit : Pending) (s : State) (served : Served) → IsLaid s → Serves request submit s served → IsLaid served.state
serves (request.AbortOut tag) submit s served laid does = aborts_out tag s served laid does
serves request.CheckOut submit s served laid does = serves_like served _ does (checks_out s.running s laid)
serves (request.AbortIn tag) submit s served laid does = aborts_in tag s served laid does
serves request.CheckIn submit s served laid does = serves_like served _ does (checks_in s.running s laid)
serves request.Clear submit s served laid does = clears s served laid does
serves request.CheckClear submit s served laid does = serves_like served _ does (checks_clear s.running s laid)
serves request.Capabilities submit s served laid does = serves_like served _ does laid
serves request.Pulse submit s served laid does = serves_like served _ does laid
serves (request.ReadStatus tag) submit s served laid does = reads_status tag submit s served laid does
serves (request.Ren true) submit s served laid does = operates act.On s served laid does
serves (request.Ren false) submit s served laid does = operates act.Off s served laid does
serves request.GoLocal submit s served laid does = operates act.GoLocal s served laid does
serves request.Lockout submit s served laid does = operates act.Lockout s served laid does

standard_does : (request : Standard) (s : State) → IsLaid s → IsLaid (standard_effect request s)
standard_does standard.GetDeviceStatus s laid = laid
standard_does standard.GetInterfaceStatus s laid = laid
standard_does (standard.GetEndpointStatus endpoint) s laid = laid
standard_does (standard.ClearHalt Control) s laid = laid
standard_does (standard.ClearHalt BulkOut) s laid = still s _ refl refl refl refl laid
standard_does (standard.ClearHalt BulkIn) s laid = still s _ refl refl refl refl laid
standard_does (standard.ClearHalt InterruptIn) s laid = still s _ refl refl refl refl laid
standard_does standard.GetDeviceDescriptor s laid = laid
standard_does standard.GetConfigurationDescriptor s laid = laid
standard_does (standard.GetString index) s laid = laid
standard_does standard.GetConfiguration s laid = laid
standard_does standard.SetConfiguration s laid = still s _ refl refl refl refl laid
standard_does standard.GetInterface s laid = laid
standard_does standard.SetInterface s laid = still s _ refl refl refl refl laid

answers : (s : State) (puts : List Put) (t : State) → IsLaid s → Answers s puts t → IsLaid t
answers s puts t laid (ByClass submit behind setup request served queued asks row does put is) =
    like t served.state is (serves request submit (record s { control = behind }) served (still s _ refl refl refl refl laid) does)
answers s puts t laid (ByStandard submit behind setup request queued asks row put is) =
    like t _ is (standard_does request (record s { control = behind }) (still s _ refl refl refl refl laid))
answers s puts t laid (Unknown submit behind setup queued asks unknown put is) = like t _ is (still s _ refl refl refl refl laid)

postpones : (s : State) (puts : List Put) (t : State) → IsLaid s → Postpones s puts t → IsLaid t
postpones s puts t laid (DoesPostpone submit behind setup request layout queued asks row pends put is) =
    like t _ is (still s _ refl refl refl refl laid)

polls_first : (s t : State) → IsLaid s → PollsFirst s t → IsLaid t
polls_first s t laid (DoesPollFirst submit behind setup tag queued asks row good polled free poll) =
    polls submit.head.seqnum tag _ t good (still s _ refl refl refl refl laid) poll

-- ---- the other moves

notifies : (s : State) (puts : List Put) (t : State) → IsLaid s → Notifies s puts t → IsLaid t
notifies s puts t laid (status.Gives submit behind packet packets queued first room put is) =
    let all : PacketsFit (packet ∷ packets) = subst (λ (x : List Packet). PacketsFit x) first laid.packets in
    like t _ is (record { transfer = laid.transfer; side = laid.side; running = laid.running; packets = all.1 })
notifies s puts t laid (status.NoRoom submit behind packet packets queued first room put is) = like t _ is (halt InterruptIn s laid)

halts_itself : (s : State) (endpoint : Endpoint) (puts : List Put) (t : State) → IsLaid s → HaltsItself s endpoint puts t → IsLaid t
halts_itself s endpoint puts t laid (DoesHalt other usable put is) = like t _ is (halt endpoint s laid)

pub leads : (s : State) (move : Move) (puts : List Put) (t : State) → IsLaid s → Leads s move puts t → IsLaid t
leads s (Comes (up.Submit head transferred)) puts t laid does = arrives s head transferred puts t laid does.3
leads s (Comes (up.Unlink head)) puts t laid does = unlinks s head puts t laid does.1
leads s (Refuses devid bytes f) puts t laid does = like t _ does.2 (still s _ refl refl refl refl laid)
leads s (Take count) puts t laid does = takes s count puts t laid does.1
leads s Exec puts t laid does = executes s t laid does.0
leads s (Begin count) puts t laid does = begins s count t laid does.0
leads s (Fill count) puts t laid does = fills s count puts t laid does
leads s Answer puts t laid does = answers s puts t laid does
leads s Pend puts t laid does = postpones s puts t laid does
leads s Poll puts t laid does = polls_first s t laid does.0
leads s Notify puts t laid does = notifies s puts t laid does
leads s (Halt endpoint) puts t laid does = halts_itself s endpoint puts t laid does
leads s Unplug puts t laid does = like t _ does.is (still s _ refl refl refl refl laid)

pub runs : (run : List Entry) (s t : State) → IsLaid s → Runs s run t → IsLaid t
runs [] s t laid same = like t s same laid
runs (entry ∷ run) s t laid (mid, step, more) = runs run mid t (leads s entry.move entry.puts mid laid step.leads) more

pub reached : (run : List Entry) (s : State) → Runs start run s → IsLaid s
reached run s does = runs run start s at_start does
