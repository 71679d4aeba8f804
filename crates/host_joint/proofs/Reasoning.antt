-- why a bulk endpoint halts in a step of a device whose host is tied or bound to it
use Rattle.std.proofs.Common.{◌≡◌, ◌≢◌, ◌∙◌, ℕ, Bool, true, false, List, [], ◌∷◌, ◌++◌, Option, refl, ap, sym, subst, append_assoc, append-nil}
use Rattle.usbip_wire.specs.declared.submit.SubmitHead.{SubmitHead}
use Rattle.usbip_wire.specs.declared.unlink.UnlinkHead.{UnlinkHead}
use Rattle.usbip_wire.specs.Up as up
use Rattle.tmc_law.specs.Endpoint.{Endpoint}
use Rattle.tmc_law.specs.State.{State, Pending, Running, AbortsIn, arrived, start, is_halted}
use Rattle.tmc_law.specs.Put.{Put}
use Rattle.tmc_law.specs.BulkOut.{Spoils}
use Rattle.tmc_law.specs.BulkIn as «in»
use Rattle.tmc_law.specs.BulkIn.{NoPacketWanted}
use Rattle.tmc_law.specs.HaltCauses.{HaltedBy, ByItself, BySpoiling, ByAbort, ByClear, ByOverflow, ByPacket}
use Rattle.tmc_law.specs.Step.{Move, Halt, Unplug, Steps, Leads}
use Rattle.tmc_law.specs.Run.{Entry, Runs, taken, inputs, outputs}
use Rattle.host_joint.specs.Lines.{Sent, Event}
use Rattle.host_joint.specs.Unlinking.{IsBulk}
use Rattle.host_joint.specs.Jobs.{Job}
use Rattle.host_joint.specs.Asking.{Ask, Asking, StaysPlugged}
use Rattle.host_joint.specs.Positions.{IsAt, rests}
use Rattle.host_joint.specs.Drains.{DrainAt, ReadComes, ReadPends, ReadShort, ReadHalted}
use Rattle.host_joint.specs.Hand.{Hand, Free, Says, Said, Reads, Pauses}
use Rattle.host_joint.specs.Tie as tied
use Rattle.host_joint.specs.Bond as bonds
use Rattle.host_joint.specs.Bond.{Situation, Reading, Saying, Read, Stands, Requests, Drains, Bound, position_of, finds, one_of, other_of}
use Rattle.host_joint.specs.Triggers.{IsTrigger, untaken_state, TriggerAt, TriggerComes, TriggerPends, TriggerTaken, TriggerShut}
use Rattle.host_joint.specs.Reasons.{HaltsFor, ItHalts, ItAborts, ItClears, StaysHalted, HaltedSince, HaveReasons, Hosts, IsTied, IsBound, Operates, Triggers}
use Rattle.host_joint.proofs.Taking.{OneHeader, MayBegin, Suits, owns_fresh}
use Rattle.tmc_wire.specs.declared.header.OutHeader.{OutHeader}
use Rattle.host_joint.proofs.Resting.{none_first}
use Rattle.host_joint.proofs.Requesting.{rest_out, rest_in}
use Rattle.host_joint.proofs.Operating.{quiet_out}

-- what this asks of the laws
pub record HaltLaws : Type 0 where
  pub asks : (ask : Ask) (s t : State) (move : Move) (ups : List up.Message) (downs puts : List Put) (endpoint : Endpoint) → IsBulk endpoint → Steps s move puts t → Asking ask (taken move ++ ups) downs s
      → is_halted endpoint s ≡ false → is_halted endpoint t ≡ true → move ≡ Halt endpoint
  pub causes : (s t : State) (move : Move) (puts : List Put) (endpoint : Endpoint) → Steps s move puts t → is_halted endpoint s ≡ false → is_halted endpoint t ≡ true → HaltedBy s endpoint move
  pub one_header : OneHeader
  pub stays : (situation : Situation) (run : List Entry) (waits : Option SubmitHead) (unlinks : List UnlinkHead) (next : ℕ) (ups : List up.Message) (downs : List Put) (s t : State)
      → Runs s run t → StaysPlugged run → Bound situation waits unlinks next (inputs run ++ ups) downs s → Bound situation waits unlinks next ups (downs ++ outputs run) t

pub clash : {B : Type 0} (b : Bool) → b ≡ false → b ≡ true → B
clash b off on = let e : false ≡ true = sym off ∙ on in absurd (cc)

-- ---- no bulk submit is pending

quiet : (s : State) (e : Endpoint) (move : Move) → IsBulk e → s.bulk_out ≡ [] → s.bulk_in ≡ [] → HaltedBy s e move → HaltsFor s e move
quiet s e move bulk outs ins (ByItself is other) = ItHalts is
quiet s e move bulk outs ins (BySpoiling count submit behind is at first spoils) = none_first submit behind s.bulk_out outs first
quiet s e move bulk outs ins (ByAbort tag is at class runs own) = ItAborts tag is at class
quiet s e move bulk outs ins (ByClear is at class) = ItClears is at class
quiet s e move bulk outs ins (ByOverflow count full submit behind piece is at first side within over) = none_first submit behind s.bulk_in ins first
quiet s e move bulk outs ins (ByPacket submit behind packet packets is at line there long) = absurd (subst (λ (d : Endpoint). IsBulk d) at bulk)

-- ---- the read of a drain

-- an abort that wants its packet lets no piece overflow
drain_fills : (s t : State) (count : ℕ) (puts : List Put) (given : ℕ) → s.running ≡ AbortsIn true given → «in».Fills s count puts t → t.halted.bulk_in ≡ s.halted.bulk_in
drain_fills s t count puts given wants («in».Ends submit behind n line runs a put to) = ap (λ (x : State). x.halted.bulk_in) to
drain_fills s t count puts given wants («in».Inside submit behind piece line side free a b c put to) = absurd (subst (λ (r : Running). NoPacketWanted r) wants free)
drain_fills s t count puts given wants («in».Full submit behind piece line side free a b c put to) = absurd (subst (λ (r : Running). NoPacketWanted r) wants free)
drain_fills s t count puts given wants («in».Short submit behind piece full line side free a b c d f put to) = absurd (subst (λ (r : Running). NoPacketWanted r) wants free)
drain_fills s t count puts given wants («in».Overflows submit behind piece full line side free a b c d put to) = absurd (subst (λ (r : Running). NoPacketWanted r) wants free)

drains : (head : SubmitHead) (coming : List Sent) (events : List Event) (s t : State) (move : Move) (puts : List Put) (e : Endpoint) → IsBulk e → Steps s move puts t → is_halted e s ≡ false → is_halted e t ≡ true
    → DrainAt head coming events s → HaltedBy s e move → HaltsFor s e move
drains head coming events s t move puts e bulk step off on (ReadComes come empty rest) by = quiet s e move bulk rest.bulk_out rest.bulk_in by
drains head coming events s t move puts e bulk step off on (ReadShort come given rest) by = quiet s e move bulk rest.bulk_out rest.bulk_in by
drains head coming events s t move puts e bulk step off on (ReadHalted come given rest) by = quiet s e move bulk rest.bulk_out rest.bulk_in by
drains head coming events s t move puts e bulk step off on (ReadPends come empty pends rest) (ByItself is other) = ItHalts is
drains head coming events s t move puts e bulk step off on (ReadPends come empty pends rest) (BySpoiling count submit behind is at first spoils) = none_first submit behind s.bulk_out rest.bulk_out first
drains head coming events s t move puts e bulk step off on (ReadPends come empty pends rest) (ByAbort tag is at class runs own) = ItAborts tag is at class
drains head coming events s t move puts e bulk step off on (ReadPends come empty pends rest) (ByClear is at class) = ItClears is at class
drains head coming events s t move puts e bulk step off on (ReadPends come empty pends rest) (ByOverflow count full submit behind piece is at first side within over) =
    clash s.halted.bulk_in (subst (λ (d : Endpoint). is_halted d s ≡ false) at off)
    (sym (drain_fills s t count puts rest.running.0 rest.running.1 (subst (λ (m : Move). Leads s m puts t) is step.leads)) ∙ subst (λ (d : Endpoint). is_halted d t ≡ true) at on)
drains head coming events s t move puts e bulk step off on (ReadPends come empty pends rest) (ByPacket submit behind packet packets is at line there long) = absurd (subst (λ (d : Endpoint). IsBulk d) at bulk)

-- ---- a trigger

unspoiled : (one_header : OneHeader) (job : Job) (s : State) → IsTrigger job → IsAt rests (untaken_state s) → Spoils s (arrived job.head job.bytes) → ⊥
unspoiled one_header job s is rest spoils = (owns_fresh one_header s job [] (job ∷ []) refl is.transfer may rest.out.0).unspoiled spoils
  where
    may : MayBegin (job ∷ []) s
    may other more e =
        let same : job ≡ other = cc in
        (rest.side, subst (λ (j : Job). Suits s.part j.header) same (subst (λ (h : OutHeader). Suits s.part h) (sym is.header) rest.out.1))

triggers : (one_header : OneHeader) (job : Job) (coming : List Sent) (events : List Event) (s : State) (move : Move) (e : Endpoint) → IsTrigger job → IsBulk e → TriggerAt job coming events s → HaltedBy s e move → HaltsFor s e move
triggers one_header job coming events s move e is bulk (TriggerComes come none rest nothing) by = quiet s e move bulk rest.bulk_out rest.bulk_in by
triggers one_header job coming events s move e is bulk (TriggerTaken come one rest triggered) by = quiet s e move bulk rest.bulk_out rest.bulk_in by
triggers one_header job coming events s move e is bulk (TriggerShut come one shuts rest nothing) by = quiet s e move bulk rest.bulk_out rest.bulk_in by
triggers one_header job coming events s move e is bulk (TriggerPends come none pends rest nothing) (ByItself own other) = ItHalts own
triggers one_header job coming events s move e is bulk (TriggerPends come none pends rest nothing) (BySpoiling count submit behind own at first spoils) =
    absurd (unspoiled one_header job s is rest (subst (λ (x : Pending). Spoils s x) (head_of submit (arrived job.head job.bytes) behind (sym first ∙ pends)) spoils))
  where
    head_of : (x y : Pending) (xs : List Pending) → x ∷ xs ≡ y ∷ [] → x ≡ y
    head_of x y xs e = cc
triggers one_header job coming events s move e is bulk (TriggerPends come none pends rest nothing) (ByAbort tag own at class runs idle) = ItAborts tag own at class
triggers one_header job coming events s move e is bulk (TriggerPends come none pends rest nothing) (ByClear own at class) = ItClears own at class
triggers one_header job coming events s move e is bulk (TriggerPends come none pends rest nothing) (ByOverflow count full submit behind piece own at first side within over) = none_first submit behind s.bulk_in rest.bulk_in first
triggers one_header job coming events s move e is bulk (TriggerPends come none pends rest nothing) (ByPacket submit behind packet packets own at line there long) = absurd (subst (λ (d : Endpoint). IsBulk d) at bulk)

-- ---- any host

pub newly : (laws : HaltLaws) (s t : State) (move : Move) (puts : List Put) (ups : List up.Message) (downs : List Put) (e : Endpoint) → Hosts (taken move ++ ups) downs s → Steps s move puts t → IsBulk e
    → is_halted e s ≡ false → is_halted e t ≡ true → HaltsFor s e move
newly laws s t move puts ups downs e (IsTied hand waits next tie) step bulk off on = by hand tie.held
  where
    by : (h : Hand) → tied.Holds h waits (taken move ++ ups) downs s → HaltsFor s e move
    by Free held = quiet s e move bulk held.1.bulk_out held.1.bulk_in (laws.causes s t move puts e step off on)
    by (Says message said) held = ItHalts (laws.asks _ s t move ups downs puts e bulk step held.asking off on)
    by (Said last message) held = ItHalts (laws.asks _ s t move ups downs puts e bulk step held.asking off on)
    by (Reads last message tag size sofar read) held = ItHalts (laws.asks _ s t move ups downs puts e bulk step held.asking off on)
    by (Pauses last message sofar) held = ItHalts (laws.asks _ s t move ups downs puts e bulk step held.asking off on)
newly laws s t move puts ups downs e (IsBound situation waits unlinks next bound) step bulk off on = by situation bound.bond.held
  where
    by : (x : Situation) → bonds.Holds x (taken move ++ ups) downs s → HaltsFor s e move
    by (Reading last message tag size sofar read took) held = ItHalts (laws.asks _ s t move ups downs puts e bulk step held.asking off on)
    by (Saying tag first ended took) held = ItHalts (laws.asks _ s t move ups downs puts e bulk step held.asking off on)
    by (Read last message sofar) held = ItHalts (laws.asks _ s t move ups downs puts e bulk step held.asking off on)
    by (Stands place) held = quiet s e move bulk held.bulk_out held.bulk_in (laws.causes s t move puts e step off on)
    by (Requests head letter) held =
        quiet s e move bulk (rest_out head (position_of (finds letter)) (one_of letter) (other_of letter) _ _ s held) (rest_in head (position_of (finds letter)) (one_of letter) (other_of letter) _ _ s held)
        (laws.causes s t move puts e step off on)
    by (Drains head) held = drains head _ _ s t move puts e bulk step off on held (laws.causes s t move puts e step off on)
newly laws s t move puts ups downs e (Operates act since head next o) step bulk off on =
    let rest = quiet_out act since head _ _ s o.bond.held in quiet s e move bulk rest.bulk_out rest.bulk_in (laws.causes s t move puts e step off on)
newly laws s t move puts ups downs e (Triggers job next o) step bulk off on =
    triggers laws.one_header job _ _ s move e o.trigger bulk o.bond.held (laws.causes s t move puts e step off on)

-- ---- the reasons are kept

stays_more : (e : Endpoint) (a s t : State) (run : List Entry) (x : Entry) → StaysHalted e a run s → Steps s x.move x.puts t → is_halted e t ≡ true → StaysHalted e a (run ++ x ∷ []) t
stays_more e a s t [] x h step on = (h.0, t, subst (λ (y : State). Steps y x.move x.puts t) h.1 step, (on, refl))
stays_more e a s t (y ∷ run) x h step on = (h.0, h.1, h.2, stays_more e h.1 s t run x h.3 step on)

pub reasons_step : (run : List Entry) (s t : State) (move : Move) (puts : List Put) → Runs start run s → Steps s move puts t
    → ((e : Endpoint) → IsBulk e → is_halted e s ≡ false → is_halted e t ≡ true → HaltsFor s e move) → HaveReasons run s → HaveReasons (run ++ record { move = move; puts = puts } ∷ []) t
reasons_step run s t move puts reached step newly_halted have e bulk on = by (is_halted e s) refl
  where
    x : Entry
    x = record { move = move; puts = puts }

    by : (b : Bool) → is_halted e s ≡ b → HaltedSince e (run ++ x ∷ []) t
    by true was =
        let h = have e bulk was in
        record {
          before = h.before;
          entry = h.entry;
          behind = h.behind ++ x ∷ [];
          mid = h.mid;
          after = h.after;
          whole = ap (λ (l : List Entry). l ++ x ∷ []) h.whole ∙ append_assoc h.before (h.entry ∷ h.behind) (x ∷ []);
          reached = h.reached;
          step = h.step;
          reason = h.reason;
          stays = stays_more e h.after s t h.behind x h.stays step on;
        }
    by false was = record {
      before = run;
      entry = x;
      behind = [];
      mid = s;
      after = t;
      whole = refl;
      reached = reached;
      step = step;
      reason = newly_halted e bulk was on;
      stays = (on, refl);
    }

pub bound_step : (laws : HaltLaws) (situation : Situation) (waits : Option SubmitHead) (unlinks : List UnlinkHead) (next : ℕ) (ups : List up.Message) (downs puts : List Put) (s t : State) (move : Move) → Steps s move puts t → move ≢ Unplug
    → Bound situation waits unlinks next (taken move ++ ups) downs s → Bound situation waits unlinks next ups (downs ++ puts) t
bound_step laws situation waits unlinks next ups downs puts s t move step plugged bound =
    subst (λ (l : List Put). Bound situation waits unlinks next ups (downs ++ l) t) (append-nil puts)
    (laws.stays situation (record { move = move; puts = puts } ∷ []) waits unlinks next ups downs s t (t, step, refl) (plugged, tt)
    (subst (λ (l : List up.Message). Bound situation waits unlinks next (l ++ ups) downs s) (sym (append-nil (taken move))) bound))

pub reasons_run : (laws : HaltLaws) → ((a b : List Entry) (s m t : State) → Runs s a m → Runs m b t → Runs s (a ++ b) t)
    → (before run : List Entry) (situation : Situation) (waits : Option SubmitHead) (unlinks : List UnlinkHead) (next : ℕ) (ups : List up.Message) (downs : List Put) (s t : State)
    → Runs start before s → Runs s run t → StaysPlugged run → Bound situation waits unlinks next (inputs run ++ ups) downs s → HaveReasons before s → HaveReasons (before ++ run) t
reasons_run laws joins before [] situation waits unlinks next ups downs s t reached goes plugged bound have =
    subst (λ (r : List Entry). HaveReasons r t) (sym (append-nil before)) (subst (λ (x : State). HaveReasons before x) (sym goes) have)
reasons_run laws joins before (entry ∷ run) situation waits unlinks next ups downs s t reached goes plugged bound have =
    let same : ((taken entry.move ++ inputs run) ++ ups) ≡ (taken entry.move ++ (inputs run ++ ups)) = append_assoc (taken entry.move) (inputs run) ups in
    let here : Bound situation waits unlinks next (taken entry.move ++ (inputs run ++ ups)) downs s = subst (λ (l : List up.Message). Bound situation waits unlinks next l downs s) same bound in
    let go = bound_step laws situation waits unlinks next (inputs run ++ ups) downs entry.puts s goes.0 entry.move goes.1 plugged.0 here in
    let more = reasons_step before s goes.0 entry.move entry.puts reached goes.1
    (λ e bulk off on. newly laws s goes.0 entry.move entry.puts (inputs run ++ ups) downs e (IsBound situation waits unlinks next here) goes.1 bulk off on) have in
    let further = joins before (entry ∷ []) start s goes.0 reached (goes.0, goes.1, refl) in
    subst (λ (r : List Entry). HaveReasons r t) (append_assoc before (entry ∷ []) run)
    (reasons_run laws joins (before ++ entry ∷ []) run situation waits unlinks next ups (downs ++ entry.puts) goes.0 t further goes.2 plugged.1 go more)
