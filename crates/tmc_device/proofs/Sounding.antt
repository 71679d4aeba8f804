-- what holds of each state that can be reached, for the steps to rest on
use Rattle.std.proofs.Common.{◌≡◌, ◌≢◌, ◌∙◌, ℕ, ◌+◌, ◌*◌, ◌≤◌, Bool, true, false, cond, not, ◌&&◌, List, [], ◌∷◌, ◌++◌, length, take, drop, Option, Some, None, refl, ap, sym, subst, arith}
use Rattle.std.proofs.Math.Nat.{lt_of_not-le}
use Rattle.std.proofs.lemmas.List.{take-append-le, take-append-drop, length-append, length-take}
use Rattle.usbip_wire.specs.declared.submit.SubmitHead.{SubmitHead}
use Rattle.usbip_wire.specs.declared.unlink.UnlinkHead.{UnlinkHead}
use Rattle.usbip_wire.specs.Up as up
use Rattle.tmc_wire.specs.declared.class_request.ClassRequest.{ClassRequest}
use Rattle.tmc_wire.specs.declared.class_request.ClassRequest.TheVariants.{AbortOut, CheckOut, AbortIn, CheckIn, Clear, CheckClear, Capabilities, Pulse, ReadStatus, Ren, GoLocal, Lockout}
use Rattle.tmc_wire.specs.declared.header.OutHeader.{OutHeader}
use Rattle.tmc_wire.specs.declared.header.OutHeader.TheVariants.{Message, Request, Trigger}
use Rattle.tmc_wire.specs.Standard.{header_size}
use Rattle.tmc_wire.specs.Header.{IsOutHeader}
use Rattle.tmc_wire.specs.Transfer.{data_size}
use Rattle.instr_plain.specs.declared.log.LogEntry.{LogEntry}
use Rattle.instr_plain.specs.declared.remote.RemoteAct.{RemoteAct}
use Rattle.instr_plain.specs.Standing.{Standing, polled_byte}
use Rattle.tmc_law.specs.Endpoint.{Endpoint, Control, BulkOut, BulkIn, InterruptIn, packet_size}
use Rattle.tmc_law.specs.State.{State, Pending, Transfer, Side, Idle, Owed, Sending, Piece, Running, Nothing, AbortsOut, AbortsIn, Clears, Packet, StatusPacket, ServicePacket, start, with_queue}
use Rattle.tmc_law.specs.Put.{Put}
use Rattle.tmc_law.specs.Logging.{Logs, is_service, is_queued, with_service}
use Rattle.tmc_law.specs.Halts.{halts, HaltsItself, DoesHalt}
use Rattle.tmc_law.specs.Queues.{Arrives, Queued, TurnedAway, Unlinks, Hits, Polled, Misses}
use Rattle.tmc_law.specs.BulkOut as out
use Rattle.tmc_law.specs.BulkOut.{message_most, packets_of, HeaderRefused, RequestInside, TriggerInside, TooLong}
use Rattle.tmc_law.specs.BulkIn as «in»
use Rattle.tmc_law.specs.Aborts as aborts
use Rattle.tmc_law.specs.Aborts.{Served, cut}
use Rattle.tmc_law.specs.Status as status
use Rattle.tmc_law.specs.Class as class
use Rattle.tmc_law.specs.Standard.{Standard, ClearHalt, SetConfiguration, SetInterface, standard_effect}
use Rattle.tmc_law.specs.Step.{Move, Comes, Refuses, Take, Exec, Begin, Fill, Answer, Pend, Poll, Notify, Halt, Unplug, Leads}
use Rattle.tmc_law.specs.Run.{Entry, Runs}
use Rattle.tmc_device.specs.Sound.{IsRequested}
use Rattle.tmc_device.proofs.Wanting.{twelve}

-- a Bulk-OUT transfer in progress, behind this unfinished message
pub record UnderWay (part : List ℕ) (transfer : Transfer) : Type 0 where
  pub headed : IsOutHeader transfer.header (take header_size transfer.taken)
  pub long : header_size ≤ length transfer.taken
  pub fits : length part + data_size transfer.header ≤ message_most

abbrev pub AllTagged : List Packet → Type 0
AllTagged [] = Unit {0}
AllTagged (StatusPacket tag byte ∷ packets) = (tag ≤ 127) × AllTagged packets
AllTagged (ServicePacket byte ∷ packets) = AllTagged packets

pub record OwnOf (transfer : Option Transfer) (part : List ℕ) (side : Side) (packets : List Packet) : Type 0 where
  pub under_way : (t : Transfer) → transfer ≡ Some t → UnderWay part t
  pub tagged : AllTagged packets
  pub asked : (tag size : ℕ) → side ≡ Owed tag size → IsRequested tag size

abbrev pub Own : State → Type 0
Own s = OwnOf s.transfer s.part s.side s.packets

-- ---- what changes of it

without : (transfer : Option Transfer) (part : List ℕ) (side : Side) (packets : List Packet) → transfer ≡ None → AllTagged packets
    → ((tag size : ℕ) → side ≡ Owed tag size → IsRequested tag size) → OwnOf transfer part side packets
without transfer part side packets none tagged asked = record { under_way = λ t is. absurd (clash t is); tagged = tagged; asked = asked }
  where
    clash : (t : Transfer) → transfer ≡ Some t → ⊥
    clash t is = cc

no_transfer : (part : List ℕ) (side : Side) (packets : List Packet) → AllTagged packets
    → ((tag size : ℕ) → side ≡ Owed tag size → IsRequested tag size) → OwnOf None part side packets
no_transfer part side packets tagged asked = without None part side packets refl tagged asked

with_transfer : (before : Option Transfer) (part : List ℕ) (side : Side) (packets : List Packet) (t : Transfer) → OwnOf before part side packets
    → UnderWay part t → OwnOf (Some t) part side packets
with_transfer before part side packets t own way = record {
  under_way = λ u is. subst (λ (x : Transfer). UnderWay part x) (same u is) way;
  tagged = own.tagged;
  asked = own.asked;
}
  where
    same : (u : Transfer) → Some t ≡ Some u → t ≡ u
    same u is = cc

idle : (transfer : Option Transfer) (part : List ℕ) {side : Side} (packets : List Packet) → OwnOf transfer part side packets → OwnOf transfer part Idle packets
idle transfer part packets own = record { under_way = own.under_way; tagged = own.tagged; asked = λ tag size is. absurd (clash tag size is) }
  where
    clash : (tag size : ℕ) → Idle ≡ Owed tag size → ⊥
    clash tag size is = cc

sends : (transfer : Option Transfer) (part : List ℕ) {side : Side} (packets : List Packet) (piece : Piece) → OwnOf transfer part side packets → OwnOf transfer part (Sending piece) packets
sends transfer part packets piece own = record { under_way = own.under_way; tagged = own.tagged; asked = λ tag size is. absurd (clash tag size is) }
  where
    clash : (tag size : ℕ) → Sending piece ≡ Owed tag size → ⊥
    clash tag size is = cc

cut_off : (transfer : Option Transfer) (part : List ℕ) (side : Side) (packets : List Packet) → OwnOf transfer part side packets → OwnOf transfer part (cut side) packets
cut_off transfer part Idle packets own = own
cut_off transfer part (Owed tag size) packets own = own
cut_off transfer part (Sending piece) packets own = sends transfer part packets _ own

less : (transfer : Option Transfer) (part : List ℕ) (side : Side) (packet : Packet) (packets : List Packet) → OwnOf transfer part side (packet ∷ packets) → OwnOf transfer part side packets
less transfer part side (StatusPacket tag byte) packets own = record { under_way = own.under_way; tagged = own.tagged.1; asked = own.asked }
less transfer part side (ServicePacket byte) packets own = record { under_way = own.under_way; tagged = own.tagged; asked = own.asked }

abbrev Asked : Side → Type 0
Asked Idle = Unit {0}
Asked (Owed t n) = IsRequested t n
Asked (Sending piece) = Unit {0}

-- a request is owed once its transfer is whole
owed : (before : Option Transfer) (part : List ℕ) {side : Side} (packets : List Packet) (transfer : Transfer) (tag size : ℕ) → OwnOf before part side packets
    → UnderWay part transfer → transfer.header ≡ Request tag size → OwnOf before part (Owed tag size) packets
owed before part packets transfer tag size own way header = record {
  under_way = own.under_way;
  tagged = own.tagged;
  asked = λ t n is. subst (λ (s : Side). Asked s) is (record { tagged = sized.tagged.0; sized = sized.counted.0 });
}
  where
    sized : IsOutHeader (Request tag size) (take header_size transfer.taken)
    sized = subst (λ (h : OutHeader). IsOutHeader h (take header_size transfer.taken)) header way.headed

-- what is logged queues no status packet
all-append : (a b : List Packet) → AllTagged a → AllTagged b → AllTagged (a ++ b)
all-append [] b x y = y
all-append (StatusPacket tag byte ∷ a) b x y = (x.0, all-append a b x.1 y)
all-append (ServicePacket byte ∷ a) b x y = all-append a b x y

tagged_service : (before after : Standing) (packets : List Packet) → AllTagged packets → AllTagged (with_service before after packets)
tagged_service before after packets tagged = by (not before.rqs && after.rqs) (is_queued is_service packets)
  where
    by : (rises queued : Bool) → AllTagged (cond (rises && not queued) (packets ++ ServicePacket (polled_byte after) ∷ []) packets)
    by true false = all-append packets (ServicePacket (polled_byte after) ∷ []) tagged tt
    by true true = tagged
    by false queued = tagged

logged : (entry : LogEntry) (s t : State) → Own s → Logs entry s t → Own t
logged entry s t own logs = subst (λ (x : State). Own x) (sym logs.is)
    (record { under_way = own.under_way; tagged = tagged_service s.standing logs.standing s.packets own.tagged; asked = own.asked })

to : (w t : State) → t ≡ w → Own w → Own t
to w t is own = subst (λ (x : State). Own x) (sym is) own

polls : (seq tag : ℕ) (s t : State) → tag ≤ 127 → Own s → status.Polls seq tag s t → Own t
polls seq tag s t low own (status.DoesPoll mid logs is) =
    let before = logged _ s mid own logs in
    to _ t is (record { under_way = before.under_way; tagged = all-append mid.packets (StatusPacket tag (polled_byte s.standing) ∷ []) before.tagged (low, tt); asked = before.asked })

-- ---- a transfer that grows

-- the message of a header that is not refused fits
not_refused : (s : State) (bytes : List ℕ) (header : OutHeader) → ¬ HeaderRefused s bytes → IsOutHeader header (take header_size bytes)
    → length s.part + data_size header ≤ message_most
not_refused s bytes (Message tag size eom) fine is =
    let below = lt_of_not-le {n = 4097} {m = length s.part + size} (λ over. fine (TooLong tag size eom is (omega (arith, over)))) in
    omega (arith, below)
not_refused s bytes (Request tag size) fine is = by s.part (λ some. fine (RequestInside tag size is some))
  where
    by : (part : List ℕ) → (part ≢ [] → ⊥) → length part + 0 ≤ message_most
    by [] none = omega arith
    by (x ∷ part) none = absurd (none (λ e. cc))
not_refused s bytes (Trigger tag) fine is = by s.part (λ some. fine (TriggerInside tag is some))
  where
    by : (part : List ℕ) → (part ≢ [] → ⊥) → length part + 0 ≤ message_most
    by [] none = omega arith
    by (x ∷ part) none = absurd (none (λ e. cc))

one_more : (count : ℕ) (submit : Pending) → count ≡ packets_of (length submit.left) → 1 ≤ count
one_more count submit all = omega (arith, all)

grows : (count : ℕ) (submit : Pending) (transfer : Transfer) (later : Pending) (grown : Transfer) (s : State) → Own s → 1 ≤ count
    → out.Belongs s submit transfer → out.Moves count submit transfer later grown → UnderWay s.part grown
grows count submit transfer later grown s own low (out.InProgress is) (out.DoesMove l g) =
    let way = own.under_way transfer is in
    let more = take (count * packet_size) submit.left in
    subst (λ (t : Transfer). UnderWay s.part t) (sym g) (record {
      headed = subst (λ (b : List ℕ). IsOutHeader transfer.header b) (sym (take-append-le header_size transfer.taken more way.long)) way.headed;
      long = omega (arith, way.long, length-append transfer.taken more);
      fits = way.fits;
    })
grows count submit transfer later grown s own low (out.Begun header none fine is begun) (out.DoesMove l g) =
    let k = count * packet_size in
    let more = take k submit.left in
    let long : header_size ≤ length more =
    omega (arith, low, length-take k submit.left, length-take header_size submit.left, twelve header (take header_size submit.left) is) in
    let front : take header_size more ≡ take header_size submit.left =
    sym (take-append-le header_size more (drop k submit.left) long) ∙ ap (λ (b : List ℕ). take header_size b) (take-append-drop k submit.left) in
    subst (λ (t : Transfer). UnderWay s.part t) (sym (g ∙ ap (λ (t : Transfer). record t { taken = t.taken ++ more }) begun)) (record {
      headed = subst (λ (b : List ℕ). IsOutHeader header b) (sym front) is;
      long = long;
      fits = not_refused s submit.left header fine is;
    })

-- ---- the steps

halted : (e : Endpoint) (s : State) → Own s → Own (halts e s)
halted Control s own = own
halted BulkOut s own = no_transfer [] s.side s.packets own.tagged own.asked
halted BulkIn s own = idle s.transfer s.part s.packets own
halted InterruptIn s own = own

with : (e : Endpoint) (queue : List Pending) (s : State) → Own s → Own (with_queue e queue s)
with Control queue s own = own
with BulkOut queue s own = own
with BulkIn queue s own = own
with InterruptIn queue s own = own

arrives : (s t : State) (head : SubmitHead) (transferred : List ℕ) (puts : List Put) → Own s → Arrives s head transferred puts t → Own t
arrives s t head transferred puts own (TurnedAway none put is) = to s t is own
arrives s t head transferred puts own (Queued e taken put is) = to _ t is (with e _ s own)

unlinks : (s t : State) (head : UnlinkHead) (puts : List Put) → Own s → Unlinks s head puts t → Own t
unlinks s t head puts own (Hits e before submit behind queue target fresh put is) = to _ t is (with e (before ++ behind) s own)
unlinks s t head puts own (Polled e before submit behind setup tag queue target polled asks row put is) = to _ t is (with e (before ++ behind) s own)
unlinks s t head puts own (Misses avoids put is) = to s t is own

interrupts : (s t : State) → Own s → out.Interrupts s t → Own t
interrupts s t own (out.Dropped part some logs) = logged _ s t own logs
interrupts s t own (out.NothingUnread none is) = to s t is own
interrupts s t own (out.LaterPart part is) = to s t is own

-- what interrupts a response leaves transfers as they are
none_between : (s mid : State) → out.Interrupts s mid → mid.transfer ≡ s.transfer
none_between s mid (out.Dropped part some logs) = ap (λ (x : State). x.transfer) logs.is
none_between s mid (out.NothingUnread none is) = ap (λ (x : State). x.transfer) is
none_between s mid (out.LaterPart part is) = ap (λ (x : State). x.transfer) is

effect : (seq : ℕ) (transfer : Transfer) (s t : State) → Own s → s.transfer ≡ None → UnderWay s.part transfer → out.TakesEffect seq transfer s t → Own t
effect seq transfer s t own none way (out.Part tag size message mid header text first is) =
    let before = interrupts s mid own first in
    to _ t is (without mid.transfer (mid.part ++ message) mid.side mid.packets (none_between s mid first ∙ none) before.tagged before.asked)
effect seq transfer s t own none way (out.Last tag size message mid header text first is) =
    let before = interrupts s mid own first in
    to _ t is (without mid.transfer [] mid.side mid.packets (none_between s mid first ∙ none) before.tagged before.asked)
effect seq transfer s t own none way (out.Requests tag size header some is) =
    to _ t is (owed s.transfer s.part s.packets transfer tag size own way header)
effect seq transfer s t own none way (out.RequestsNothing tag size header some logs) =
    logged _ (record s { side = Owed tag size }) t (owed s.transfer s.part s.packets transfer tag size own way header) logs
effect seq transfer s t own none way (out.Triggers tag header logs) = logged _ s t own logs

takes : (s t : State) (count : ℕ) (puts : List Put) → Own s → out.Takes s count puts t → Own t
takes s t count puts own (out.Empty submit behind queue none one put is) = to _ t is own
takes s t count puts own (out.Spoiled submit behind queue some low high spoils put is) = to _ t is (halted BulkOut s own)
takes s t count puts own (out.Inside submit later behind transfer grown queue some low fine belongs moves more put is) =
    to _ t is (with_transfer s.transfer s.part s.side s.packets grown own (grows count submit transfer later grown s own low belongs moves))
takes s t count puts own (out.SubmitEnds submit later behind transfer grown queue some all fine belongs moves more put is) =
    to _ t is (with_transfer s.transfer s.part s.side s.packets grown own (grows count submit transfer later grown s own (one_more count submit all) belongs moves))
takes s t count puts own (out.TransferEnds submit later behind transfer grown queue some all fine belongs moves done take_effect put) =
    effect submit.head.seqnum grown (record s { bulk_out = behind; transfer = None }) t (no_transfer s.part s.side s.packets own.tagged own.asked) refl
    (grows count submit transfer later grown s own (one_more count submit all) belongs moves) take_effect

fills : (s t : State) (count : ℕ) (puts : List Put) → Own s → «in».Fills s count puts t → Own t
fills s t count puts own («in».Ends submit behind n queue runs one put is) = to _ t is (idle s.transfer s.part s.packets own)
fills s t count puts own («in».Inside submit behind piece queue sending free low inside fits put is) = to _ t is (sends s.transfer s.part s.packets _ own)
fills s t count puts own («in».Full submit behind piece queue sending free low inside fits put is) = to _ t is (sends s.transfer s.part s.packets _ own)
fills s t count puts own («in».Short submit behind piece full queue sends free counts leaves inside less fits put is) = to _ t is (idle s.transfer s.part s.packets own)
fills s t count puts own («in».Overflows submit behind piece full queue sends free counts leaves inside over put is) = to _ t is (halted BulkIn s own)

check_out : (s : State) (r : Running) → Own s → Own (aborts.checked_out (record s { running = r })).state
check_out s Nothing own = own
check_out s AbortsOut own = own
check_out s (AbortsIn wanting given) own = own
check_out s Clears own = own

check_in : (s : State) (r : Running) → Own s → Own (aborts.checked_in (record s { running = r })).state
check_in s Nothing own = own
check_in s AbortsOut own = own
check_in s (AbortsIn true given) own = own
check_in s (AbortsIn false given) own = own
check_in s Clears own = own

check_clear : (s : State) (r : Running) → Own s → Own (aborts.checked_clear (record s { running = r })).state
check_clear s Nothing own = own
check_clear s AbortsOut own = own
check_clear s (AbortsIn wanting given) own = own
check_clear s Clears own = own

served : (a b : Served) → a ≡ b → Own b.state → Own a.state
served a b is own = subst (λ (v : Served). Own v.state) (sym is) own

abort_out : (tag : ℕ) (s : State) (v : Served) → Own s → aborts.AbortsBulkOut tag s v → Own v.state
abort_out tag s v own (aborts.NotBegun layout declined is) = served v _ is own
abort_out tag s v own (aborts.DoesAbort nothing runs is) = served v _ is (halted BulkOut s own)

abort_in : (tag : ℕ) (s : State) (v : Served) → Own s → aborts.AbortsBulkIn tag s v → Own v.state
abort_in tag s v own (aborts.NotBegun layout declined is) = served v _ is own
abort_in tag s v own (aborts.DoesAbort nothing runs is) = served v _ is (cut_off s.transfer s.part s.side s.packets own)

clears : (s : State) (v : Served) → Own s → aborts.ClearsAll s v → Own v.state
clears s v own (aborts.DoesClear t logs is) = served v _ is (logged _ (aborts.cleared s) t (no_transfer [] Idle s.packets own.tagged (λ tag size e. absurd (cc))) logs)

reads_status : (tag : ℕ) (submit : Pending) (s : State) (v : Served) → Own s → status.ReadsStatus tag submit s v → Own v.state
reads_status tag submit s v own (status.BadTag bad is) = served v _ is own
reads_status tag submit s v own (status.PolledBefore good before is) = served v _ is own
reads_status tag submit s v own (status.Busy good fresh queued is) = served v _ is own
reads_status tag submit s v own (status.PolledNow t good fresh free polling is) = served v _ is (polls _ tag s t good.1 own polling)

operates : (act : RemoteAct) (s : State) (v : Served) → Own s → class.Operates act s v → Own v.state
operates act s v own (class.DoesOperate t logs is) = served v _ is (logged _ s t own logs)

serves : (request : ClassRequest) (submit : Pending) (s : State) (v : Served) → Own s → class.Serves request submit s v → Own v.state
serves (AbortOut tag) submit s v own k = abort_out tag s v own k
serves CheckOut submit s v own k = served v _ k (check_out s s.running own)
serves (AbortIn tag) submit s v own k = abort_in tag s v own k
serves CheckIn submit s v own k = served v _ k (check_in s s.running own)
serves Clear submit s v own k = clears s v own k
serves CheckClear submit s v own k = served v _ k (check_clear s s.running own)
serves Capabilities submit s v own k = served v _ k own
serves Pulse submit s v own k = served v _ k own
serves (ReadStatus tag) submit s v own k = reads_status tag submit s v own k
serves (Ren true) submit s v own k = operates _ s v own k
serves (Ren false) submit s v own k = operates _ s v own k
serves GoLocal submit s v own k = operates _ s v own k
serves Lockout submit s v own k = operates _ s v own k

standard : (request : Standard) (s : State) → Own s → Own (standard_effect request s)
standard (ClearHalt Control) s own = own
standard (ClearHalt BulkOut) s own = own
standard (ClearHalt BulkIn) s own = own
standard (ClearHalt InterruptIn) s own = own
standard SetConfiguration s own = own
standard SetInterface s own = own
standard _ s own = own

answers : (s t : State) (puts : List Put) → Own s → class.Answers s puts t → Own t
answers s t puts own (class.ByClass submit behind setup request v queue asks row serving put is) = to v.state t is (serves request submit (record s { control = behind }) v own serving)
answers s t puts own (class.ByStandard submit behind setup request queue asks row put is) = to _ t is (standard request (record s { control = behind }) own)
answers s t puts own (class.Unknown submit behind setup queue asks unknown put is) = to _ t is own

pub own_goes : (s t : State) (move : Move) (puts : List Put) → Own s → Leads s move puts t → Own t
own_goes s t (Comes (up.Submit head transferred)) puts own k = arrives s t head transferred puts own k.3
own_goes s t (Comes (up.Unlink head)) puts own k = unlinks s t head puts own k.1
own_goes s t (Refuses devid bytes f) puts own k = to _ t k.2 own
own_goes s t (Take count) puts own k = takes s t count puts own k.1
own_goes s t Exec puts own k = executes k.0
  where
    executes : out.Executes s t → Own t
    executes (out.DoesExecute seq message waits logs) = logged _ _ t own logs
own_goes s t (Begin count) puts own k = begins k.0
  where
    begins : «in».Begins s count t → Own t
    begins («in».DoesBegin tag size owes free low high logs) = logged _ _ t (sends s.transfer s.part s.packets _ own) logs
own_goes s t (Fill count) puts own k = fills s t count puts own k
own_goes s t Answer puts own k = answers s t puts own k
own_goes s t Pend puts own k = pends k
  where
    pends : class.Postpones s puts t → Own t
    pends (class.DoesPostpone submit behind setup request layout queue asks row stays put is) = to _ t is own
own_goes s t Poll puts own k = polls_first k.0
  where
    polls_first : class.PollsFirst s t → Own t
    polls_first (class.DoesPollFirst submit behind setup tag queue asks row good fresh free polling) = polls _ tag _ t good.1 own polling
own_goes s t Notify puts own k = notifies k
  where
    notifies : status.Notifies s puts t → Own t
    notifies (status.Gives submit behind packet packets queue there long put is) = to _ t is (less s.transfer s.part s.side packet packets (subst (λ (p : List Packet). OwnOf s.transfer s.part s.side p) there own))
    notifies (status.NoRoom submit behind packet packets queue there short put is) = to _ t is own
own_goes s t (Halt e) puts own k = itself k
  where
    itself : HaltsItself s e puts t → Own t
    itself (DoesHalt other usable put is) = to (halts e s) t is (halted e s own)
own_goes s t Unplug puts own k = to _ t k.is own

own_run : (s : State) (run : List Entry) (t : State) → Own s → Runs s run t → Own t
own_run s [] t own is = to s t is own
own_run s (entry ∷ run) t own goes = own_run goes.0 run t (own_goes s goes.0 entry.move entry.puts own goes.1.leads) goes.2

pub reached : (run : List Entry) (s : State) → Runs start run s → Own s
reached run s goes = own_run start run s (no_transfer [] Idle [] tt (λ tag size is. absurd (cc))) goes
