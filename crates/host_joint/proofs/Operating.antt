-- the request of a remote ticket, under each step
use Rattle.std.proofs.Common.{◌≡◌, ◌≢◌, ◌∙◌, ℕ, ◌+◌, Some, None, List, [], ◌∷◌, ◌++◌, refl, ap, sym, subst, append_assoc, append-nil, length}
use Rattle.usbip_wire.specs.declared.submit.SubmitHead.{SubmitHead}
use Rattle.usbip_wire.specs.declared.ret_submit.RetSubmitHead.{RetSubmitHead}
use Rattle.usbip_wire.specs.Up as up
use Rattle.usb_setup.specs.declared.setup.Setup.{Setup}
use Rattle.tmc_wire.specs.declared.class_request.ClassRequest.{ClassRequest}
use Rattle.tmc_wire.specs.declared.class_request.ClassRequest.TheVariants as request
use Rattle.tmc_wire.specs.ClassAnswer.{answer_length}
use Rattle.tmc_wire.specs.ClassStatus.{STATUS_SUCCESS}
use Rattle.instr_plain.specs.declared.log.LogEntry.{LogEntry}
use Rattle.instr_plain.specs.declared.log.LogEntry.TheVariants as entry
use Rattle.instr_plain.specs.declared.remote.RemoteAct.{RemoteAct}
use Rattle.instr_plain.specs.declared.remote.RemoteAct.TheVariants as act
use Rattle.tmc_law.specs.Endpoint.{Control}
use Rattle.tmc_law.specs.State.{State, Pending, Running, Nothing, arrived}
use Rattle.tmc_law.specs.Put.{Put, Submitted, success}
use Rattle.tmc_law.specs.Class as class
use Rattle.tmc_law.specs.Class.{Serves, StaysPending, Operates}
use Rattle.tmc_law.specs.Control.{Asks, control_answer}
use Rattle.tmc_law.specs.Aborts.{Served}
use Rattle.tmc_law.specs.LogStep.{MayLog, Adds, LogsNothing, LogsOne}
use Rattle.tmc_law.specs.Step.{Move, Comes, Refuses, Take, Exec, Begin, Fill, Answer, Pend, Poll, Notify, Halt, Unplug, Leads}
use Rattle.tmc_law.specs.Run.{Entry, Runs, taken, inputs, outputs}
use Rattle.host_joint.specs.Lines.{Sent, sent_to, Event, events_of, unlinks_in, Fitting, AllFitting}
use Rattle.host_joint.specs.Positions.{IsAt, rests}
use Rattle.host_joint.specs.Requests.{NoBulk, IsPlugged, IsClass}
use Rattle.host_joint.specs.Remotes.{request_of, NoAct, NoneSince, OneSince, ActAt, ActComes, ActPends, ActDone}
use Rattle.host_joint.specs.Lines.{InOrder}
use Rattle.host_joint.specs.Asking.{StaysPlugged}
use Rattle.host_joint.specs.Hand.{Free}
use Rattle.host_joint.specs.Tie.{Tie, asked_of}
use Rattle.host_joint.specs.Bond.{Bond, Bound, Holds, Stands, Resting}
use Rattle.host_joint.specs.Remotes.{Operating}
use Rattle.host_joint.proofs.Queues.{IsSound}
use Rattle.host_joint.proofs.Running.{sound}
use Rattle.host_joint.proofs.Tying.{TieLaws}
use Rattle.host_joint.proofs.Bonding.{Keeps, bond_run, none_linked, control_only}
use Rattle.host_joint.proofs.Cancelling.{empty, after, same_head, good_fits}
use Rattle.host_joint.proofs.Recovering.{write, coming, no_event, one_event}
use Rattle.host_joint.proofs.Hosting.{own_event}
use Rattle.host_joint.proofs.Joining.{IsKept, Never, plugged-append, plugged_front, rising_asked, apart_asked, few_total}
use Rattle.host_joint.proofs.Flows.{events-append}
use Rattle.host_joint.proofs.Resting.{LeavesControl, rest_goes, rest_is, no_take, no_fill, rests_closed}
use Rattle.host_joint.proofs.Requesting.{Meaning, only_class, OnlyClass, Apart, Came, CameHere, CameElsewhere, came, executes, begins, notifies, halts_itself, events_same, one_sent, no_sent, one_pending, answer_event, no_answer, no_pend, no_first_poll}

-- ---- what is logged meanwhile

-- nothing was logged, or an entry that is no act
pub data Others (s t : State) : Type 0 where
  NoEntry : t.log ≡ s.log → Others s t
  OneOther : (e : LogEntry) → NoAct (e ∷ []) → t.log ≡ s.log ++ e ∷ [] → Others s t

no_act : (s : State) (move : Move) (e : LogEntry) → move ≢ Answer → MayLog s move e → NoAct (e ∷ [])
no_act s move (entry.Exec seq message) other may = tt
no_act s move (entry.Took n) other may = tt
no_act s move entry.Interrupt other may = tt
no_act s move entry.Bare other may = tt
no_act s move (entry.Trigger seq) other may = tt
no_act s move (entry.Poll seq) other may = tt
no_act s move entry.Clear other may = tt
no_act s (Comes message) (entry.Remote a) other may = may
no_act s (Refuses devid bytes f) (entry.Remote a) other may = may
no_act s (Take count) (entry.Remote a) other may = may
no_act s Exec (entry.Remote a) other may = may
no_act s (Begin count) (entry.Remote a) other may = may
no_act s (Fill count) (entry.Remote a) other may = may
no_act s Answer (entry.Remote a) other may = other refl
no_act s Pend (entry.Remote a) other may = may
no_act s Poll (entry.Remote a) other may = may
no_act s Notify (entry.Remote a) other may = may
no_act s (Halt e) (entry.Remote a) other may = may
no_act s Unplug (entry.Remote a) other may = may

pub others : (s t : State) (move : Move) → move ≢ Answer → Adds (MayLog s move) s t → Others s t
others s t move other (LogsNothing log standing) = NoEntry log
others s t move other (LogsOne e may log after) = OneOther e (no_act s move e other may) log

act-append : (a b : List LogEntry) → NoAct a → NoAct b → NoAct (a ++ b)
act-append [] b h k = k
act-append (entry.Exec seq message ∷ a) b h k = act-append a b h k
act-append (entry.Took n ∷ a) b h k = act-append a b h k
act-append (entry.Interrupt ∷ a) b h k = act-append a b h k
act-append (entry.Bare ∷ a) b h k = act-append a b h k
act-append (entry.Trigger seq ∷ a) b h k = act-append a b h k
act-append (entry.Poll seq ∷ a) b h k = act-append a b h k
act-append (entry.Clear ∷ a) b h k = act-append a b h k
act-append (entry.Remote x ∷ a) b h k = absurd h

pub none_goes : (since : List LogEntry) (s t : State) → Others s t → NoneSince since s.log → NoneSince since t.log
none_goes since s t (NoEntry same) h = subst (λ (l : List LogEntry). NoneSince since l) (sym same) h
none_goes since s t (OneOther e other log) h = record {
  more = h.more ++ e ∷ [];
  whole = log ∙ ap (λ (l : List LogEntry). l ++ e ∷ []) h.whole ∙ append_assoc since h.more (e ∷ []);
  none = act-append h.more (e ∷ []) h.none other;
}

pub one_goes : (a : RemoteAct) (since : List LogEntry) (s t : State) → Others s t → OneSince a since s.log → OneSince a since t.log
one_goes a since s t (NoEntry same) h = subst (λ (l : List LogEntry). OneSince a since l) (sym same) h
one_goes a since s t (OneOther e other log) h = record {
  before = h.before;
  behind = h.behind ++ e ∷ [];
  whole = log ∙ ap (λ (l : List LogEntry). l ++ e ∷ []) h.whole ∙ append_assoc since (h.before ++ entry.Remote a ∷ h.behind) (e ∷ [])
      ∙ ap (λ (l : List LogEntry). since ++ l) (append_assoc h.before (entry.Remote a ∷ h.behind) (e ∷ []));
  none_before = h.none_before;
  none_behind = act-append h.behind (e ∷ []) h.none_behind other;
}

-- ---- a move that does nothing at the control endpoint

stays : (a : RemoteAct) (since : List LogEntry) (head : SubmitHead) (coming later : List Sent) (downs puts : List Put) (ups : List up.Message) (s t : State) (move : Move)
    → NoBulk (taken move ++ ups) → LeavesControl move → Leads s move puts t → Others s t → Apart s t puts → coming ≡ later
    → ActAt a since head coming (events_of Control downs) s → ActAt a since head later (events_of Control (downs ++ puts)) t
stays a since head coming later downs puts ups s t move none leaves h logs apart same (ActComes come empty free rest nothing) =
    ActComes (sym same ∙ come) (events_same Control downs puts apart.events ∙ empty) (apart.queue ∙ free) (rest_goes rests s t move puts ups rests_closed none leaves h rest) (none_goes since s t logs nothing)
stays a since head coming later downs puts ups s t move none leaves h logs apart same (ActPends come empty pends rest nothing) =
    ActPends (sym same ∙ come) (events_same Control downs puts apart.events ∙ empty) (apart.queue ∙ pends) (rest_goes rests s t move puts ups rests_closed none leaves h rest) (none_goes since s t logs nothing)
stays a since head coming later downs puts ups s t move none leaves h logs apart same (ActDone come given free rest one) =
    ActDone (sym same ∙ come) (events_same Control downs puts apart.events ∙ given) (apart.queue ∙ free) (rest_goes rests s t move puts ups rests_closed none leaves h rest) (one_goes a since s t logs one)

arrives : (a : RemoteAct) (since : List LogEntry) (head : SubmitHead) (downs puts : List Put) (x : SubmitHead) (transferred : List ℕ) (ups : List up.Message) (s t : State)
    → NoBulk (up.Submit x transferred ∷ ups) → Leads s (Comes (up.Submit x transferred)) puts t → Others s t → Came x transferred ups s t puts
    → ActAt a since head (sent_to Control (up.Submit x transferred ∷ ups)) (events_of Control downs) s → ActAt a since head (sent_to Control ups) (events_of Control (downs ++ puts)) t
arrives a since head downs puts x transferred ups s t none h logs (CameElsewhere apart same) at = stays a since head _ _ downs puts ups s t (Comes (up.Submit x transferred)) none tt h logs apart same at
arrives a since head downs puts x transferred ups s t none h logs (CameHere put is same) (ActComes come empty free rest nothing) =
    let e = one_sent x transferred head (sent_to Control ups) (sym same ∙ come) in
    ActPends e.2 (events_same Control downs puts (ap (λ (p : List Put). events_of Control p) put) ∙ empty)
    (ap (λ (y : State). y.control) is ∙ ap (λ (q : List Pending). q ++ arrived x transferred ∷ []) free ∙ ap (λ (y : SubmitHead). arrived y transferred ∷ []) e.0 ∙ ap (λ (l : List ℕ). arrived head l ∷ []) e.1)
    (rest_goes rests s t (Comes (up.Submit x transferred)) puts ups rests_closed none tt h rest) (none_goes since s t logs nothing)
arrives a since head downs puts x transferred ups s t none h logs (CameHere put is same) (ActPends come empty pends rest nothing) = no_sent _ _ _ same come
arrives a since head downs puts x transferred ups s t none h logs (CameHere put is same) (ActDone come given free rest one) = no_sent _ _ _ same come

-- ---- it is answered

operates_of : (a : RemoteAct) (submit : Pending) (s : State) (served : Served) → Serves (request_of a) submit s served → Operates a s served
operates_of act.On submit s served h = h
operates_of act.Off submit s served h = h
operates_of act.GoLocal submit s served h = h
operates_of act.Lockout submit s served h = h

no_status : (a : RemoteAct) (tag : ℕ) → request.ReadStatus tag ≡ request_of a → ⊥
no_status act.On tag e = cc
no_status act.Off tag e = cc
no_status act.GoLocal tag e = cc
no_status act.Lockout tag e = cc

one_long : (a : RemoteAct) → length (STATUS_SUCCESS ∷ []) ≡ answer_length (request_of a)
one_long act.On = refl
one_long act.Off = refl
one_long act.GoLocal = refl
one_long act.Lockout = refl

done : (a : RemoteAct) (since : List LogEntry) (head : SubmitHead) (coming : List Sent) (downs puts : List Put) (setup : Setup) (s t : State) (served : Served) → OnlyClass head (request_of a) → Asks (arrived head []) setup
    → Operates a (record s { control = [] }) served → puts ≡ control_answer (arrived head []) setup served.layout ∷ served.behind → t ≡ served.state
    → coming ≡ [] → events_of Control downs ≡ [] → IsAt rests s → NoneSince since s.log → ActAt a since head coming (events_of Control (downs ++ puts)) t
done a since head coming downs puts setup s t served is asks (class.DoesOperate w logs made) put to come empty rest nothing =
    let layout : served.layout ≡ STATUS_SUCCESS ∷ [] = ap (λ (v : Served). v.layout) made in
    let alone : puts ≡ control_answer (arrived head []) setup (STATUS_SUCCESS ∷ []) ∷ [] =
    put ∙ ap (λ (v : Served). control_answer (arrived head []) setup v.layout ∷ v.behind) made in
    let w_is : t ≡ w = to ∙ ap (λ (v : Served). v.state) made in
    ActDone come
    (events-append Control downs puts ∙ ap (λ (l : List Event). l ++ events_of Control puts) empty ∙ ap (λ (p : List Put). events_of Control p) alone
    ∙ answer_event head (request_of a) setup (STATUS_SUCCESS ∷ []) is asks (one_long a))
    (ap (λ (x : State). x.control) (w_is ∙ logs.is))
    (rest_is rests _ t (w_is ∙ logs.is) (record { bulk_out = rest.bulk_out; bulk_in = rest.bulk_in; running = rest.running; side = rest.side; out = rest.out; waits = tt; shut = tt }))
    (record {
      before = nothing.more;
      behind = [];
      whole = ap (λ (x : State). x.log) (w_is ∙ logs.is) ∙ ap (λ (l : List LogEntry). l ++ entry.Remote a ∷ []) nothing.whole ∙ append_assoc since nothing.more (entry.Remote a ∷ []);
      none_before = nothing.none;
      none_behind = tt;
    })

answers : (a : RemoteAct) (since : List LogEntry) (head : SubmitHead) (coming : List Sent) (downs puts : List Put) (s t : State) → OnlyClass head (request_of a)
    → class.Answers s puts t → coming ≡ [] → events_of Control downs ≡ [] → s.control ≡ arrived head [] ∷ [] → IsAt rests s → NoneSince since s.log
    → ActAt a since head coming (events_of Control (downs ++ puts)) t
answers a since head coming downs puts s t is (class.ByClass submit behind setup found served line asks row serving put to) come empty pends rest nothing =
    let e = one_pending submit (arrived head []) behind (sym line ∙ pends) in
    let ask : Asks (arrived head []) setup = subst (λ (x : Pending). Asks x setup) e.0 asks in
    let own : Serves (request_of a) submit (record s { control = [] }) served =
    subst (λ (r : ClassRequest). Serves r submit (record s { control = [] }) served) (is.only setup found ask row)
    (subst (λ (q : List Pending). Serves found submit (record s { control = q }) served) e.1 serving) in
    done a since head coming downs puts setup s t served is ask (operates_of a submit (record s { control = [] }) served own)
    (put ∙ ap (λ (x : Pending). control_answer x setup served.layout ∷ served.behind) e.0) to come empty rest nothing
answers a since head coming downs puts s t is (class.ByStandard submit behind setup found line asks row put to) come empty pends rest nothing =
    let e = one_pending submit (arrived head []) behind (sym line ∙ pends) in absurd (is.not_standard setup found (subst (λ (x : Pending). Asks x setup) e.0 asks) row)
answers a since head coming downs puts s t is (class.Unknown submit behind setup line asks unknown put to) come empty pends rest nothing =
    let e = one_pending submit (arrived head []) behind (sym line ∙ pends) in absurd (is.known setup (subst (λ (x : Pending). Asks x setup) e.0 asks) unknown)

no_pending : {B : Type 0} (a : RemoteAct) (r : Running) (layout : List ℕ) → r ≡ Nothing → StaysPending r (request_of a) layout → B
no_pending a r layout is h = absurd (subst (λ (x : Running). StaysPending x (request_of a) layout) is h)

no_postpone : (a : RemoteAct) (head : SubmitHead) (puts : List Put) (s t : State) → OnlyClass head (request_of a) → class.Postpones s puts t → s.control ≡ arrived head [] ∷ [] → IsAt rests s → ⊥
no_postpone a head puts s t is (class.DoesPostpone submit behind setup found layout line asks row pending put to) pends rest =
    let e = one_pending submit (arrived head []) behind (sym line ∙ pends) in
    let ask : Asks (arrived head []) setup = subst (λ (x : Pending). Asks x setup) e.0 asks in
    no_pending a s.running layout rest.running (subst (λ (r : ClassRequest). StaysPending s.running r layout) (is.only setup found ask row) pending)

no_poll : (a : RemoteAct) (head : SubmitHead) (s t : State) → OnlyClass head (request_of a) → class.PollsFirst s t → s.control ≡ arrived head [] ∷ [] → ⊥
no_poll a head s t is (class.DoesPollFirst submit behind setup tag line asks row good fresh free polls) pends =
    let e = one_pending submit (arrived head []) behind (sym line ∙ pends) in
    no_status a tag (is.only setup (request.ReadStatus tag) (subst (λ (x : Pending). Asks x setup) e.0 asks) row)

-- ---- all moves

pub quiet_out : (a : RemoteAct) (since : List LogEntry) (head : SubmitHead) (coming : List Sent) (events : List Event) (s : State) → ActAt a since head coming events s → IsAt rests s
quiet_out a since head coming events s (ActComes come empty free rest nothing) = rest
quiet_out a since head coming events s (ActPends come empty pends rest nothing) = rest
quiet_out a since head coming events s (ActDone come given free rest one) = rest

pub act_goes : (a : RemoteAct) (since : List LogEntry) (head : SubmitHead) (downs puts : List Put) (ups : List up.Message) (s t : State) (move : Move)
    → OnlyClass head (request_of a) → IsSound s → NoBulk (taken move ++ ups) → AllFitting (taken move ++ ups) → IsPlugged move → Leads s move puts t → Adds (MayLog s move) s t
    → ActAt a since head (sent_to Control (taken move ++ ups)) (events_of Control downs) s → ActAt a since head (sent_to Control ups) (events_of Control (downs ++ puts)) t
act_goes a since head downs puts ups s t (Comes (up.Submit x transferred)) is sound none fit plugged h adds at =
    arrives a since head downs puts x transferred ups s t none h (others s t (Comes (up.Submit x transferred)) (λ e. cc) adds) (came x transferred ups s t puts fit.0 h.3) at
act_goes a since head downs puts ups s t (Comes (up.Unlink x)) is sound none fit plugged h adds at = let e : x ∷ unlinks_in ups ≡ [] = none.unlinks in absurd (cc)
act_goes a since head downs puts ups s t (Refuses devid bytes f) is sound none fit plugged h adds at =
    stays a since head _ _ downs puts ups s t (Refuses devid bytes f) none tt h (others s t (Refuses devid bytes f) (λ e. cc) adds)
    (record { queue = ap (λ (x : State). x.control) h.2; events = ap (λ (p : List Put). events_of Control p) h.1 }) refl at
act_goes a since head downs puts ups s t (Take count) is sound none fit plugged h adds at = absurd (no_take s t count puts (quiet_out a since head _ _ s at).bulk_out h.1)
act_goes a since head downs puts ups s t Exec is sound none fit plugged h adds at = stays a since head _ _ downs puts ups s t Exec none tt h (others s t Exec (λ e. cc) adds) (executes s t puts h.1 h.0) refl at
act_goes a since head downs puts ups s t (Begin count) is sound none fit plugged h adds at =
    stays a since head _ _ downs puts ups s t (Begin count) none tt h (others s t (Begin count) (λ e. cc) adds) (begins s t count puts h.1 h.0) refl at
act_goes a since head downs puts ups s t (Fill count) is sound none fit plugged h adds at = absurd (no_fill s t count puts (quiet_out a since head _ _ s at).bulk_in h)
act_goes a since head downs puts ups s t Answer is sound none fit plugged h adds (ActComes come empty free rest nothing) = absurd (no_answer s t puts free h)
act_goes a since head downs puts ups s t Answer is sound none fit plugged h adds (ActPends come empty pends rest nothing) = answers a since head (sent_to Control ups) downs puts s t is h come empty pends rest nothing
act_goes a since head downs puts ups s t Answer is sound none fit plugged h adds (ActDone come given free rest one) = absurd (no_answer s t puts free h)
act_goes a since head downs puts ups s t Pend is sound none fit plugged h adds (ActComes come empty free rest nothing) = absurd (no_pend s t puts free h)
act_goes a since head downs puts ups s t Pend is sound none fit plugged h adds (ActPends come empty pends rest nothing) = absurd (no_postpone a head puts s t is h pends rest)
act_goes a since head downs puts ups s t Pend is sound none fit plugged h adds (ActDone come given free rest one) = absurd (no_pend s t puts free h)
act_goes a since head downs puts ups s t Poll is sound none fit plugged h adds (ActComes come empty free rest nothing) = absurd (no_first_poll s t free h.0)
act_goes a since head downs puts ups s t Poll is sound none fit plugged h adds (ActPends come empty pends rest nothing) = absurd (no_poll a head s t is h.0 pends)
act_goes a since head downs puts ups s t Poll is sound none fit plugged h adds (ActDone come given free rest one) = absurd (no_first_poll s t free h.0)
act_goes a since head downs puts ups s t Notify is sound none fit plugged h adds at = stays a since head _ _ downs puts ups s t Notify none tt h (others s t Notify (λ e. cc) adds) (notifies s t puts sound h) refl at
act_goes a since head downs puts ups s t (Halt e) is sound none fit plugged h adds at = stays a since head _ _ downs puts ups s t (Halt e) none tt h (others s t (Halt e) (λ e. cc) adds) (halts_itself s t e puts sound h) refl at
act_goes a since head downs puts ups s t Unplug is sound none fit plugged h adds at = absurd plugged

-- ---- the tie

plugged_of : (move : Move) → move ≢ Unplug → IsPlugged move
plugged_of Unplug h = h refl
plugged_of _ h = tt

pub act_keeps : (laws : TieLaws) (meaning : Meaning) (a : RemoteAct) (since : List LogEntry) (head : SubmitHead) → IsClass head (request_of a)
    → Keeps (λ ups downs s. ActAt a since head (sent_to Control ups) (events_of Control downs) s) (asked_of (Some head)) []
act_keeps laws meaning a since head is run s t move ups downs puts reached step plugged fit order lines at =
    act_goes a since head downs puts ups s t move (only_class meaning head (request_of a) is) (sound laws.ask run s reached) (control_only head (taken move ++ ups) downs s is.number lines) fit (plugged_of move plugged) step.leads
    (laws.logs s t move puts step) at

pub act_run : (laws : TieLaws) (meaning : Meaning) (a : RemoteAct) (since : List LogEntry) (head : SubmitHead) (run : List Entry) (next : ℕ) (ups : List up.Message) (downs : List Put) (s t : State)
    → Runs s run t → StaysPlugged run → Operating a since head next (inputs run ++ ups) downs s → Operating a since head next ups (downs ++ outputs run) t
act_run laws meaning a since head run next ups downs s t goes plugged o =
    record { asks = o.asks; bond = bond_run laws _ (asked_of (Some head)) [] (act_keeps laws meaning a since head o.asks) run next ups downs s t goes plugged o.bond }

since_now : (log : List LogEntry) → NoneSince log log
since_now log = record { more = []; whole = sym (append-nil log); none = tt }

pub act_begins : (a : RemoteAct) (head : SubmitHead) (next : ℕ) (ups : List up.Message) (downs : List Put) (s : State) → IsClass head (request_of a) → Fitting head → head.seqnum ≡ next → Bound (Stands Resting) None [] next ups downs s
    → Operating a s.log head (next + 1) (ups ++ up.Submit head [] ∷ []) downs s
act_begins a head next ups downs s is fits number bound =
    let line = empty _ next ups downs s Control bound.bond in
    record {
      asks = is;
      bond = write (Holds (Stands Resting)) (λ ups downs t. ActAt a s.log head (sent_to Control ups) (events_of Control downs) t) head next ups downs s Control fits is.number number bound.bond
          (ActComes (coming Control head ups is.number line.sent) line.events line.queue bound.bond.held (since_now s.log));
    }

pub done_at : (a : RemoteAct) (since : List LogEntry) (head : SubmitHead) (b : RetSubmitHead) (transferred : List ℕ) (ups : List up.Message) (downs : List Put) (s : State) → head.ep ≡ 0
    → ActAt a since head (sent_to Control ups) (events_of Control (Submitted head b transferred ∷ downs)) s
    → (b ≡ record { seqnum = head.seqnum; status = success; actual = 1 }) × (transferred ≡ STATUS_SUCCESS ∷ []) × OneSince a since s.log × IsAt rests s
done_at a since head b transferred ups downs s own (ActComes come none free rest nothing) = no_event _ _ (sym (own_event Control head b transferred downs own) ∙ none)
done_at a since head b transferred ups downs s own (ActPends come none pends rest nothing) = no_event _ _ (sym (own_event Control head b transferred downs own) ∙ none)
done_at a since head b transferred ups downs s own (ActDone come one free rest logged) =
    let same = one_event head head b _ transferred (STATUS_SUCCESS ∷ []) _ (sym (own_event Control head b transferred downs own) ∙ one) in
    (same.0, same.1, logged, rest)

pub act_answered : (a : RemoteAct) (since : List LogEntry) (head : SubmitHead) (next : ℕ) (asked : SubmitHead) (b : RetSubmitHead) (transferred : List ℕ) (ups : List up.Message) (downs : List Put) (s : State)
    → Operating a since head next ups (Submitted asked b transferred ∷ downs) s
    → (asked ≡ head) × (b ≡ record { seqnum = head.seqnum; status = success; actual = 1 }) × (transferred ≡ STATUS_SUCCESS ∷ []) × OneSince a since s.log × Bound (Stands Resting) None [] next ups downs s
act_answered a since head next asked b transferred ups downs s o =
    let same = same_head _ head asked b transferred [] next ups downs s o.bond in
    let own : Bond (λ ups downs s. ActAt a since head (sent_to Control ups) (events_of Control downs) s) (asked_of (Some head)) [] next ups (Submitted head b transferred ∷ downs) s =
    subst (λ (x : SubmitHead). Bond (λ ups downs s. ActAt a since head (sent_to Control ups) (events_of Control downs) s) (asked_of (Some head)) [] next ups (Submitted x b transferred ∷ downs) s) same o.bond in
    let over = done_at a since head b transferred ups downs s o.asks.number own.held in
    (same, over.0, over.1, over.2, record { bond = after _ (Holds (Stands Resting)) head b transferred [] next ups downs s own over.3; awaited = (refl, refl) })

pub stands : (next : ℕ) (ups : List up.Message) (downs : List Put) (s : State) → Tie Free None next ups downs s → Bound (Stands Resting) None [] next ups downs s
stands next ups downs s tie = record {
  bond = record {
    run = tie.run;
    reached = tie.reached;
    lines = tie.lines;
    fitting = tie.fitting;
    order = in_order ups (none_linked (asked_of None) ups downs s tie.lines);
    fits = good_fits downs tie.good;
    rises = tie.rises;
    below = tie.below;
    held = tie.held.1;
  };
  awaited = (refl, refl);
}
  where
    in_order : (l : List up.Message) → unlinks_in l ≡ [] → InOrder l
    in_order [] none = tt
    in_order (up.Submit x transferred ∷ l) none = in_order l none
    in_order (up.Unlink x ∷ l) none = absurd (cc)

pub act_kept : (laws : TieLaws) (meaning : Meaning) → Never → (a : RemoteAct) (since : List LogEntry) (head : SubmitHead) (next : ℕ) → IsKept StaysPlugged (λ ups downs t. Operating a since head next ups downs t)
act_kept laws meaning never a since head next = record {
  kind = record { more = plugged-append; front = plugged_front };
  goes = λ run ups downs s t goes plugged o. act_run laws meaning a since head run next ups downs s t goes plugged o;
  taken = λ x transferred ups downs s f o over.
      never (asked_of (Some head)) [] x transferred ups downs s f o.bond.fitting.0 (record { rising = rising_asked (Some head); apart = apart_asked (Some head) }) (few_total (Some head)) o.bond.lines over;
}
