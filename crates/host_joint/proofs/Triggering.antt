-- the transfer of a trigger ticket, under each step
use Rattle.std.proofs.Common.{◌≡◌, ◌≢◌, ◌∙◌, ℕ, ◌*◌, ◌≤◌, Bool, true, false, None, List, [], ◌∷◌, ◌++◌, length, take, drop, slice_index, refl, ap, sym, subst, append_assoc, take_all, arith}
use Rattle.std.proofs.lemmas.Bool.{eq-eqb}
use Rattle.usbip_wire.specs.declared.submit.SubmitHead.{SubmitHead}
use Rattle.usbip_wire.specs.declared.urb.Dir.{Dir}
use Rattle.usbip_wire.specs.declared.urb.Dir.TheVariants.{In, Out}
use Rattle.usbip_wire.specs.Up as up
use Rattle.tmc_wire.specs.declared.header.OutHeader.{OutHeader}
use Rattle.tmc_wire.specs.declared.header.OutHeader.TheVariants as header
use Rattle.tmc_wire.specs.Transfer.{data_size}
use Rattle.instr_plain.specs.declared.log.LogEntry.{LogEntry}
use Rattle.instr_plain.specs.declared.log.LogEntry.TheVariants as entry
use Rattle.tmc_law.specs.Endpoint.{Endpoint, Control, BulkOut, BulkIn, InterruptIn, number_of, way_of, packet_size}
use Rattle.tmc_law.specs.State.{State, Pending, Transfer, Idle, Owed, Nothing, arrived, transfer_size}
use Rattle.tmc_law.specs.Put.{Put, answer_of, ended, success, stalled, returned}
use Rattle.tmc_law.specs.Halts.{all_ended, HaltsItself, DoesHalt}
use Rattle.tmc_law.specs.Queues.{Arrives, Queued, TurnedAway, IsTaken}
use Rattle.tmc_law.specs.BulkOut as out
use Rattle.tmc_law.specs.BulkOut.{wants, Spoils, Belongs}
use Rattle.tmc_law.specs.BulkIn as «in»
use Rattle.tmc_law.specs.Status as status
use Rattle.tmc_law.specs.Logging.{Logs}
use Rattle.tmc_law.specs.LogStep.{MayLog, Adds, LogsNothing, LogsOne}
use Rattle.tmc_law.specs.Numbers.{AllBelow, effects}
use Rattle.tmc_law.specs.Step.{Move, Comes, Refuses, Take, Exec, Begin, Fill, Answer, Pend, Poll, Notify, Halt, Unplug, Leads}
use Rattle.tmc_law.specs.Run.{taken}
use Rattle.host_joint.specs.Lines.{Sent, sent_to, Event, Gives, events_of, unlinks_in, Fitting, AllFitting}
use Rattle.host_joint.specs.Jobs.{Job, partly, transfer_of}
use Rattle.host_joint.specs.Positions.{IsAt, rests}
use Rattle.host_joint.specs.Requests.{NoBulk}
use Rattle.host_joint.specs.Triggers.{IsTrigger, NoTrigger, OneTrigger, untaken_state, TriggerAt, TriggerComes, TriggerPends, TriggerTaken, TriggerShut}
use Rattle.host_joint.proofs.Flows.{events-append}
use Rattle.host_joint.proofs.Taking.{OneHeader, MayBegin, Suits, Owns, owns_fresh, drop_all, moved_on}
use Rattle.host_joint.proofs.Resting.{rest_is, none_first, no_take, no_fill}
use Rattle.host_joint.proofs.Requesting.{events_same, no_sent, one_pending, no_answer, no_pend, no_first_poll}
use Rattle.host_joint.proofs.Hosting.{own_event}
use Rattle.host_joint.proofs.Cancelling.{after}

-- ---- the log

trigger-append : (n : ℕ) (a b : List LogEntry) → NoTrigger n a → NoTrigger n b → NoTrigger n (a ++ b)
trigger-append n [] b h k = k
trigger-append n (entry.Exec seq message ∷ a) b h k = trigger-append n a b h k
trigger-append n (entry.Took m ∷ a) b h k = trigger-append n a b h k
trigger-append n (entry.Interrupt ∷ a) b h k = trigger-append n a b h k
trigger-append n (entry.Bare ∷ a) b h k = trigger-append n a b h k
trigger-append n (entry.Trigger seq ∷ a) b h k = (h.0, trigger-append n a b h.1 k)
trigger-append n (entry.Poll seq ∷ a) b h k = trigger-append n a b h k
trigger-append n (entry.Clear ∷ a) b h k = trigger-append n a b h k
trigger-append n (entry.Remote x ∷ a) b h k = trigger-append n a b h k

-- nothing was logged, or an entry that is no trigger
pub data Others (n : ℕ) (s t : State) : Type 0 where
  NoEntry : t.log ≡ s.log → Others n s t
  OneOther : (e : LogEntry) → NoTrigger n (e ∷ []) → t.log ≡ s.log ++ e ∷ [] → Others n s t

no_trigger : (n : ℕ) (s : State) (move : Move) (e : LogEntry) → ((count : ℕ) → move ≢ Take count) → MayLog s move e → NoTrigger n (e ∷ [])
no_trigger n s move (entry.Exec seq message) other may = tt
no_trigger n s move (entry.Took m) other may = tt
no_trigger n s move entry.Interrupt other may = tt
no_trigger n s move entry.Bare other may = tt
no_trigger n s move (entry.Poll seq) other may = tt
no_trigger n s move entry.Clear other may = tt
no_trigger n s move (entry.Remote a) other may = tt
no_trigger n s (Comes message) (entry.Trigger seq) other may = absurd may
no_trigger n s (Refuses devid bytes f) (entry.Trigger seq) other may = absurd may
no_trigger n s (Take count) (entry.Trigger seq) other may = absurd (other count refl)
no_trigger n s Exec (entry.Trigger seq) other may = absurd may
no_trigger n s (Begin count) (entry.Trigger seq) other may = absurd may
no_trigger n s (Fill count) (entry.Trigger seq) other may = absurd may
no_trigger n s Answer (entry.Trigger seq) other may = absurd may
no_trigger n s Pend (entry.Trigger seq) other may = absurd may
no_trigger n s Poll (entry.Trigger seq) other may = absurd may
no_trigger n s Notify (entry.Trigger seq) other may = absurd may
no_trigger n s (Halt e) (entry.Trigger seq) other may = absurd may
no_trigger n s Unplug (entry.Trigger seq) other may = absurd may

pub others : (n : ℕ) (s t : State) (move : Move) → ((count : ℕ) → move ≢ Take count) → Adds (MayLog s move) s t → Others n s t
others n s t move other (LogsNothing log standing) = NoEntry log
others n s t move other (LogsOne e may log after) = OneOther e (no_trigger n s move e other may) log

pub none_goes : (n : ℕ) (s t : State) → Others n s t → NoTrigger n s.log → NoTrigger n t.log
none_goes n s t (NoEntry same) h = subst (λ (l : List LogEntry). NoTrigger n l) (sym same) h
none_goes n s t (OneOther e other log) h = subst (λ (l : List LogEntry). NoTrigger n l) (sym log) (trigger-append n s.log (e ∷ []) h other)

pub one_goes : (n : ℕ) (s t : State) → Others n s t → OneTrigger n s.log → OneTrigger n t.log
one_goes n s t (NoEntry same) h = subst (λ (l : List LogEntry). OneTrigger n l) (sym same) h
one_goes n s t (OneOther e other log) h = record {
  before = h.before;
  behind = h.behind ++ e ∷ [];
  whole = log ∙ ap (λ (l : List LogEntry). l ++ e ∷ []) h.whole ∙ append_assoc h.before (entry.Trigger n ∷ h.behind) (e ∷ []);
  none_before = h.none_before;
  none_behind = trigger-append n h.behind (e ∷ []) h.none_behind other;
}

-- a new number was not triggered
pub unused : (n : ℕ) (log : List LogEntry) (more : List ℕ) → AllBelow n (effects log ++ more) → NoTrigger n log
unused n [] more h = tt
unused n (entry.Exec seq message ∷ log) more h = unused n log more h.1
unused n (entry.Took m ∷ log) more h = unused n log more h
unused n (entry.Interrupt ∷ log) more h = unused n log more h
unused n (entry.Bare ∷ log) more h = unused n log more h
unused n (entry.Trigger seq ∷ log) more h = ((λ e. omega (arith, e, h.0)), unused n log more h.1)
unused n (entry.Poll seq ∷ log) more h = unused n log more h
unused n (entry.Clear ∷ log) more h = unused n log more h
unused n (entry.Remote x ∷ log) more h = unused n log more h

-- ---- a move that does nothing at Bulk-OUT

no_bulk : NoBulk []
no_bulk = record { outs = refl; ins = refl; unlinks = refl }

record Apart (s t : State) (puts : List Put) : Type 0 where
  pub queue : t.bulk_out ≡ s.bulk_out
  pub events : events_of BulkOut puts ≡ []
  pub shut : s.halted.bulk_out ≡ true → t.halted.bulk_out ≡ true
  pub at_rest : IsAt rests s → IsAt rests t
  pub untaken : IsAt rests (untaken_state s) → IsAt rests (untaken_state t)

stays : (job : Job) (coming : List Sent) (downs puts : List Put) (s t : State) → Others job.head.seqnum s t → Apart s t puts
    → TriggerAt job coming (events_of BulkOut downs) s → TriggerAt job coming (events_of BulkOut (downs ++ puts)) t
stays job coming downs puts s t logs apart (TriggerComes come none rest nothing) =
    TriggerComes come (events_same BulkOut downs puts apart.events ∙ none) (apart.at_rest rest) (none_goes job.head.seqnum s t logs nothing)
stays job coming downs puts s t logs apart (TriggerPends come none pends rest nothing) =
    TriggerPends come (events_same BulkOut downs puts apart.events ∙ none) (apart.queue ∙ pends) (apart.untaken rest) (none_goes job.head.seqnum s t logs nothing)
stays job coming downs puts s t logs apart (TriggerTaken come one rest triggered) =
    TriggerTaken come (events_same BulkOut downs puts apart.events ∙ one) (apart.at_rest rest) (one_goes job.head.seqnum s t logs triggered)
stays job coming downs puts s t logs apart (TriggerShut come one shuts rest nothing) =
    TriggerShut come (events_same BulkOut downs puts apart.events ∙ one) (apart.shut shuts) (apart.at_rest rest) (none_goes job.head.seqnum s t logs nothing)

no_events : (puts : List Put) → puts ≡ [] → events_of BulkOut puts ≡ []
no_events puts none = ap (λ (p : List Put). events_of BulkOut p) none

refuses : (s t : State) (devid : ℕ) (bytes : List ℕ) (f : _) (puts : List Put) → Leads s (Refuses devid bytes f) puts t → Apart s t puts
refuses s t devid bytes f puts h = record {
  queue = ap (λ (x : State). x.bulk_out) h.2;
  events = no_events puts h.1;
  shut = λ shuts. ap (λ (x : State). x.halted.bulk_out) h.2 ∙ shuts;
  at_rest = λ rest. rest_is rests _ t h.2 (record { bulk_out = rest.bulk_out; bulk_in = rest.bulk_in; running = rest.running; side = rest.side; out = rest.out; waits = tt; shut = tt });
  untaken = λ rest. rest_is rests _ (untaken_state t) (ap untaken_state h.2) (record { bulk_out = refl; bulk_in = rest.bulk_in; running = rest.running; side = rest.side; out = rest.out; waits = tt; shut = tt });
}

executes : (s t : State) (puts : List Put) → puts ≡ [] → out.Executes s t → Apart s t puts
executes s t puts none (out.DoesExecute seq message waits logs) = record {
  queue = ap (λ (x : State). x.bulk_out) logs.is;
  events = no_events puts none;
  shut = λ shuts. ap (λ (x : State). x.halted.bulk_out) logs.is ∙ shuts;
  at_rest = λ rest. rest_is rests _ t logs.is (record { bulk_out = rest.bulk_out; bulk_in = rest.bulk_in; running = rest.running; side = rest.side; out = rest.out; waits = tt; shut = tt });
  untaken = λ rest. rest_is rests _ (untaken_state t) (ap untaken_state logs.is) (record { bulk_out = refl; bulk_in = rest.bulk_in; running = rest.running; side = rest.side; out = rest.out; waits = tt; shut = tt });
}

-- a halt of another endpoint, which has no submits
halts_other : (s t : State) (e : Endpoint) (puts : List Put) → e ≢ BulkOut → s.bulk_in ≡ [] → s.interrupt_in ≡ [] → HaltsItself s e puts t → Apart s t puts
halts_other s t Control puts other ins interrupts (DoesHalt free usable put is) = absurd (free refl)
halts_other s t BulkOut puts other ins interrupts (DoesHalt free usable put is) = absurd (other refl)
halts_other s t BulkIn puts other ins interrupts (DoesHalt free usable put is) = record {
  queue = ap (λ (x : State). x.bulk_out) is;
  events = no_events puts (put ∙ ap (λ (q : List Pending). all_ended stalled q) ins);
  shut = λ shuts. ap (λ (x : State). x.halted.bulk_out) is ∙ shuts;
  at_rest = λ rest. rest_is rests _ t is (record { bulk_out = rest.bulk_out; bulk_in = refl; running = rest.running; side = refl; out = rest.out; waits = tt; shut = tt });
  untaken = λ rest. rest_is rests _ (untaken_state t) (ap untaken_state is) (record { bulk_out = refl; bulk_in = refl; running = rest.running; side = refl; out = rest.out; waits = tt; shut = tt });
}
halts_other s t InterruptIn puts other ins interrupts (DoesHalt free usable put is) = record {
  queue = ap (λ (x : State). x.bulk_out) is;
  events = no_events puts (put ∙ ap (λ (q : List Pending). all_ended stalled q) interrupts);
  shut = λ shuts. ap (λ (x : State). x.halted.bulk_out) is ∙ shuts;
  at_rest = λ rest. rest_is rests _ t is (record { bulk_out = rest.bulk_out; bulk_in = rest.bulk_in; running = rest.running; side = rest.side; out = rest.out; waits = tt; shut = tt });
  untaken = λ rest. rest_is rests _ (untaken_state t) (ap untaken_state is) (record { bulk_out = refl; bulk_in = rest.bulk_in; running = rest.running; side = rest.side; out = rest.out; waits = tt; shut = tt });
}

-- ---- Bulk-OUT halts

none_returned : (d : Dir) → returned d [] ≡ []
none_returned In = refl
none_returned Out = refl

halts_own : (job : Job) (coming : List Sent) (downs puts : List Put) (s t : State) → job.head.ep ≡ 1 → Others job.head.seqnum s t → HaltsItself s BulkOut puts t
    → TriggerAt job coming (events_of BulkOut downs) s → TriggerAt job coming (events_of BulkOut (downs ++ puts)) t
halts_own job coming downs puts s t own logs (DoesHalt free usable put is) at = by at
  where
    rest_of : s.bulk_in ≡ [] → s.running ≡ Nothing → s.side ≡ Idle → IsAt rests t
    rest_of ins running side = rest_is rests _ t is (record { bulk_out = refl; bulk_in = ins; running = running; side = side; out = (refl, refl); waits = tt; shut = tt })

    no_put : s.bulk_out ≡ [] → events_of BulkOut puts ≡ []
    no_put none = no_events puts (put ∙ ap (λ (q : List Pending). all_ended stalled q) none)

    by : TriggerAt job coming (events_of BulkOut downs) s → TriggerAt job coming (events_of BulkOut (downs ++ puts)) t
    by (TriggerComes come none rest nothing) =
        TriggerComes come (events_same BulkOut downs puts (no_put rest.bulk_out) ∙ none) (rest_of rest.bulk_in rest.running rest.side) (none_goes job.head.seqnum s t logs nothing)
    by (TriggerTaken come one rest triggered) =
        TriggerTaken come (events_same BulkOut downs puts (no_put rest.bulk_out) ∙ one) (rest_of rest.bulk_in rest.running rest.side) (one_goes job.head.seqnum s t logs triggered)
    by (TriggerShut come one shuts rest nothing) =
        TriggerShut come (events_same BulkOut downs puts (no_put rest.bulk_out) ∙ one) (ap (λ (x : State). x.halted.bulk_out) is) (rest_of rest.bulk_in rest.running rest.side) (none_goes job.head.seqnum s t logs nothing)
    by (TriggerPends come none pends rest nothing) =
        TriggerShut come
        (events-append BulkOut downs puts ∙ ap (λ (l : List Event). l ++ events_of BulkOut puts) none ∙ ap (λ (p : List Put). events_of BulkOut p) (put ∙ ap (λ (q : List Pending). all_ended stalled q) pends)
        ∙ own_event BulkOut job.head (record { seqnum = job.head.seqnum; status = stalled; actual = 0 }) (returned job.head.dir []) [] own
        ∙ ap (λ (l : List ℕ). Gives job.head (record { seqnum = job.head.seqnum; status = stalled; actual = 0 }) l ∷ []) (none_returned job.head.dir))
        (ap (λ (x : State). x.halted.bulk_out) is) (rest_of rest.bulk_in rest.running rest.side) (none_goes job.head.seqnum s t logs nothing)

-- ---- it arrives

sent_own : (e : Endpoint) (x : SubmitHead) (transferred : List ℕ) (ups : List up.Message) → x.ep ≡ number_of e
    → sent_to e (up.Submit x transferred ∷ ups) ≡ record { head = x; transferred = transferred } ∷ sent_to e ups
sent_own e x transferred ups is = rw (eq-eqb x.ep (number_of e) is) refl

arrives : (job : Job) (x : SubmitHead) (transferred : List ℕ) (ups : List up.Message) (downs puts : List Put) (s t : State) → job.head.ep ≡ 1 → Fitting x → Others job.head.seqnum s t → sent_to BulkIn (up.Submit x transferred ∷ ups) ≡ []
    → sent_to Control (up.Submit x transferred ∷ ups) ≡ [] → sent_to InterruptIn (up.Submit x transferred ∷ ups) ≡ [] → Arrives s x transferred puts t
    → TriggerAt job (sent_to BulkOut (up.Submit x transferred ∷ ups)) (events_of BulkOut downs) s → TriggerAt job (sent_to BulkOut ups) (events_of BulkOut (downs ++ puts)) t
arrives job x transferred ups downs puts s t own fits logs ins controls interrupts arrival at = by fits.endpoint fits.number
  where
    not_here : (e : Endpoint) → x.ep ≡ number_of e → sent_to e (up.Submit x transferred ∷ ups) ≡ [] → ⊥
    not_here e is none = no_sent _ _ _ (sent_own e x transferred ups is) none

    go : x.ep ≡ 1 → TriggerAt job (sent_to BulkOut ups) (events_of BulkOut (downs ++ puts)) t
    go is = comes_at (subst (λ (l : List Sent). TriggerAt job l (events_of BulkOut downs) s) (sent_own BulkOut x transferred ups is) at)
      where
        comes_at : TriggerAt job (record { head = x; transferred = transferred } ∷ sent_to BulkOut ups) (events_of BulkOut downs) s → TriggerAt job (sent_to BulkOut ups) (events_of BulkOut (downs ++ puts)) t
        comes_at (TriggerPends come none pends rest nothing) = absurd (cc)
        comes_at (TriggerTaken come one rest triggered) = absurd (cc)
        comes_at (TriggerShut come one shuts rest nothing) = absurd (cc)
        comes_at (TriggerComes come none rest nothing) = came arrival
          where
            first : record { head = x; transferred = transferred } ≡ (let y : Sent = record { head = job.head; transferred = job.bytes } in y)
            first = cc

            behind : sent_to BulkOut ups ≡ []
            behind = cc

            is_head : x ≡ job.head
            is_head = ap (λ (y : Sent). y.head) first

            is_bytes : transferred ≡ job.bytes
            is_bytes = ap (λ (y : Sent). y.transferred) first

            queued : puts ≡ [] → t ≡ record s { bulk_out = s.bulk_out ++ arrived x transferred ∷ [] } → TriggerAt job (sent_to BulkOut ups) (events_of BulkOut (downs ++ puts)) t
            queued put to =
                TriggerPends behind (events_same BulkOut downs puts (no_events puts put) ∙ none)
                (ap (λ (y : State). y.bulk_out) to ∙ ap (λ (q : List Pending). q ++ arrived x transferred ∷ []) rest.bulk_out ∙ ap (λ (h : SubmitHead). arrived h transferred ∷ []) is_head ∙ ap (λ (l : List ℕ). arrived job.head l ∷ []) is_bytes)
                (rest_is rests _ (untaken_state t) (ap untaken_state to) (record { bulk_out = refl; bulk_in = rest.bulk_in; running = rest.running; side = rest.side; out = rest.out; waits = tt; shut = tt }))
                (none_goes job.head.seqnum s t logs nothing)

            turned : ((e : Endpoint) → IsTaken s x e → ⊥) → puts ≡ answer_of x stalled [] ∷ [] → t ≡ s → (b : Bool) → s.halted.bulk_out ≡ b → TriggerAt job (sent_to BulkOut ups) (events_of BulkOut (downs ++ puts)) t
            turned away put to false usable = absurd (away BulkOut (record { number = is; way = out_way; usable = usable }))
              where
                way_at : (e : Endpoint) → x.ep ≡ number_of e → x.dir ≡ way_of e (slice_index x.setup 0) → x.dir ≡ way_of BulkOut (slice_index x.setup 0)
                way_at BulkOut n w = w
                way_at Control n w = absurd (omega (arith, n, is))
                way_at BulkIn n w = absurd (omega (arith, n, is))
                way_at InterruptIn n w = absurd (omega (arith, n, is))

                out_way : x.dir ≡ way_of BulkOut (slice_index x.setup 0)
                out_way = way_at fits.endpoint fits.number fits.way
            turned away put to true shuts =
                TriggerShut behind
                (events-append BulkOut downs puts ∙ ap (λ (l : List Event). l ++ events_of BulkOut puts) none ∙ ap (λ (p : List Put). events_of BulkOut p) (put ∙ ap (λ (h : SubmitHead). answer_of h stalled [] ∷ []) is_head)
                ∙ own_event BulkOut job.head (record { seqnum = job.head.seqnum; status = stalled; actual = 0 }) (returned job.head.dir []) [] own
                ∙ ap (λ (l : List ℕ). Gives job.head (record { seqnum = job.head.seqnum; status = stalled; actual = 0 }) l ∷ []) (none_returned job.head.dir))
                (ap (λ (y : State). y.halted.bulk_out) to ∙ shuts)
                (rest_is rests s t to rest) (none_goes job.head.seqnum s t logs nothing)

            came : Arrives s x transferred puts t → TriggerAt job (sent_to BulkOut ups) (events_of BulkOut (downs ++ puts)) t
            came (Queued BulkOut takes put to) = queued put to
            came (Queued Control takes put to) = absurd (omega (arith, takes.number, is))
            came (Queued BulkIn takes put to) = absurd (omega (arith, takes.number, is))
            came (Queued InterruptIn takes put to) = absurd (omega (arith, takes.number, is))
            came (TurnedAway away put to) = turned away put to s.halted.bulk_out refl

    by : (e : Endpoint) → x.ep ≡ number_of e → TriggerAt job (sent_to BulkOut ups) (events_of BulkOut (downs ++ puts)) t
    by Control is = absurd (not_here Control is controls)
    by BulkOut is = go is
    by BulkIn is = absurd (not_here BulkIn is ins)
    by InterruptIn is = absurd (not_here InterruptIn is interrupts)

-- ---- it is taken

twelve : (job : Job) → IsTrigger job → length job.bytes ≡ 12
twelve job is = sym is.transfer.whole ∙ ap (λ (h : OutHeader). transfer_size (data_size h)) is.header

effect : (job : Job) (n : ℕ) (grown : Transfer) (w t : State) → IsTrigger job → grown ≡ transfer_of job job.bytes → out.TakesEffect n grown w t → Logs (entry.Trigger n) w t
effect job n grown w t is same (out.Part tag size message mid h text drops to) = let e : header.Trigger is.tag ≡ header.Message tag size false = sym is.header ∙ sym (ap (λ (x : Transfer). x.header) same) ∙ h in absurd (cc)
effect job n grown w t is same (out.Last tag size message mid h text drops to) = let e : header.Trigger is.tag ≡ header.Message tag size true = sym is.header ∙ sym (ap (λ (x : Transfer). x.header) same) ∙ h in absurd (cc)
effect job n grown w t is same (out.Requests tag size h some to) = let e : header.Trigger is.tag ≡ header.Request tag size = sym is.header ∙ sym (ap (λ (x : Transfer). x.header) same) ∙ h in absurd (cc)
effect job n grown w t is same (out.RequestsNothing tag size h none logs) = let e : header.Trigger is.tag ≡ header.Request tag size = sym is.header ∙ sym (ap (λ (x : Transfer). x.header) same) ∙ h in absurd (cc)
effect job n grown w t is same (out.Triggers tag h logs) = logs

takes : (one_header : OneHeader) (job : Job) (coming : List Sent) (downs puts : List Put) (s t : State) (count : ℕ) → IsTrigger job → coming ≡ [] → events_of BulkOut downs ≡ [] → s.bulk_out ≡ arrived job.head job.bytes ∷ []
    → IsAt rests (untaken_state s) → NoTrigger job.head.seqnum s.log → out.Takes s count puts t → TriggerAt job coming (events_of BulkOut (downs ++ puts)) t
takes one_header job coming downs puts s t count is come none pends rest nothing step = by step
  where
    may : MayBegin (job ∷ []) s
    may other more e =
        let same : job ≡ other = cc in
        (rest.side, subst (λ (j : Job). Suits s.part j.header) same (subst (λ (h : OutHeader). Suits s.part h) (sym is.header) rest.out.1))

    owns : Owns s job [] job.bytes
    owns = owns_fresh one_header s job [] (job ∷ []) refl is.transfer may rest.out.0

    first : (submit : Pending) (behind : List Pending) → s.bulk_out ≡ submit ∷ behind → (submit ≡ arrived job.head job.bytes) × (behind ≡ [])
    first submit behind line = one_pending submit (arrived job.head job.bytes) behind (sym line ∙ pends)

    enough : 1 ≤ count → length job.bytes ≤ count * packet_size
    enough low = omega (arith, twelve job is, low)

    by : out.Takes s count puts t → TriggerAt job coming (events_of BulkOut (downs ++ puts)) t
    by (out.Empty submit behind line zero one put to) =
        let e = first submit behind line in
        absurd (omega (arith, ap (λ (x : Pending). x.head.length) e.0, zero, is.transfer.sized, twelve job is))
    by (out.Spoiled submit behind line some low high spoils put to) = absurd (owns.unspoiled (subst (λ (x : Pending). Spoils s x) (first submit behind line).0 spoils))
    by (out.Inside submit later behind transfer grown line some low fine belongs moves left put to) =
        let e = first submit behind line in
        let m = moved_on job [] job.bytes count submit later transfer grown e.0 (owns.one transfer (subst (λ (x : Pending). Belongs s x transfer) e.0 belongs)) moves in
        absurd (left (ap (λ (x : Pending). x.left) m.0 ∙ drop_all (count * packet_size) job.bytes (enough low)))
    by (out.SubmitEnds submit later behind transfer grown line some counted fine belongs moves less put to) =
        let e = first submit behind line in
        let m = moved_on job [] job.bytes count submit later transfer grown e.0 (owns.one transfer (subst (λ (x : Pending). Belongs s x transfer) e.0 belongs)) moves in
        let low : 1 ≤ count = omega (arith, counted) in
        let all : grown ≡ transfer_of job job.bytes = m.1 ∙ ap (λ (l : List ℕ). transfer_of job l) (take_all (count * packet_size) job.bytes (enough low)) in
        absurd (less (ap (λ (x : Transfer). wants x) all ∙ omega (arith, is.transfer.whole)))
    by (out.TransferEnds submit later behind transfer grown line some counted fine belongs moves full effects put) =
        let e = first submit behind line in
        let m = moved_on job [] job.bytes count submit later transfer grown e.0 (owns.one transfer (subst (λ (x : Pending). Belongs s x transfer) e.0 belongs)) moves in
        let low : 1 ≤ count = omega (arith, counted) in
        let taken_is : take (count * packet_size) job.bytes ≡ job.bytes = take_all (count * packet_size) job.bytes (enough low) in
        let all : grown ≡ transfer_of job job.bytes = m.1 ∙ ap (λ (l : List ℕ). transfer_of job l) taken_is in
        let over : later ≡ partly job job.bytes [] = m.0 ∙ ap (λ (l : List ℕ). partly job l (drop (count * packet_size) job.bytes)) taken_is ∙ ap (λ (l : List ℕ). partly job job.bytes l) (drop_all (count * packet_size) job.bytes (enough low)) in
        let number : submit.head.seqnum ≡ job.head.seqnum = ap (λ (x : Pending). x.head.seqnum) e.0 in
        let own : out.TakesEffect job.head.seqnum grown (record s { bulk_out = []; transfer = None }) t =
        subst (λ (n : ℕ). out.TakesEffect n grown (record s { bulk_out = []; transfer = None }) t) number
        (subst (λ (q : List Pending). out.TakesEffect submit.head.seqnum grown (record s { bulk_out = q; transfer = None }) t) e.1 effects) in
        let logs = effect job job.head.seqnum grown (record s { bulk_out = []; transfer = None }) t is all own in
        TriggerTaken come
        (events-append BulkOut downs puts ∙ ap (λ (l : List Event). l ++ events_of BulkOut puts) none ∙ ap (λ (p : List Put). events_of BulkOut p) (put ∙ ap (λ (x : Pending). ended success x ∷ []) over)
        ∙ own_event BulkOut job.head (record { seqnum = job.head.seqnum; status = success; actual = length job.bytes }) (returned job.head.dir job.bytes) [] is.transfer.number
        ∙ ap (λ (l : List ℕ). Gives job.head (record { seqnum = job.head.seqnum; status = success; actual = length job.bytes }) l ∷ []) (ap (λ (d : Dir). returned d job.bytes) is.transfer.way)
        ∙ ap (λ (n : ℕ). Gives job.head (record { seqnum = job.head.seqnum; status = success; actual = n }) [] ∷ []) (sym is.transfer.sized))
        (rest_is rests _ t logs.is (record { bulk_out = refl; bulk_in = rest.bulk_in; running = rest.running; side = rest.side; out = (refl, rest.out.1); waits = tt; shut = tt }))
        (record { before = s.log; behind = []; whole = ap (λ (x : State). x.log) logs.is; none_before = nothing; none_behind = tt })

-- ---- all moves

-- no other submit is there
pub record Alone (ups : List up.Message) (s : State) : Type 0 where
  pub controls : sent_to Control ups ≡ []
  pub ins : sent_to BulkIn ups ≡ []
  pub interrupts : sent_to InterruptIn ups ≡ []
  pub unlinks : unlinks_in ups ≡ []
  pub control : s.control ≡ []
  pub interrupt_in : s.interrupt_in ≡ []

ins_of : (job : Job) (coming : List Sent) (events : List Event) (s : State) → TriggerAt job coming events s → (s.bulk_in ≡ []) × (s.side ≡ Idle) × (s.running ≡ Nothing)
ins_of job coming events s (TriggerComes come none rest nothing) = (rest.bulk_in, rest.side, rest.running)
ins_of job coming events s (TriggerPends come none pends rest nothing) = (rest.bulk_in, rest.side, rest.running)
ins_of job coming events s (TriggerTaken come one rest triggered) = (rest.bulk_in, rest.side, rest.running)
ins_of job coming events s (TriggerShut come one shuts rest nothing) = (rest.bulk_in, rest.side, rest.running)

pub no_begin : (s t : State) (count : ℕ) → s.side ≡ Idle → «in».Begins s count t → ⊥
no_begin s t count idle («in».DoesBegin tag size owes free low high logs) = let e : Idle ≡ Owed tag size = sym idle ∙ owes in cc

pub no_notify : (s t : State) (puts : List Put) → s.interrupt_in ≡ [] → status.Notifies s puts t → ⊥
no_notify s t puts none (status.Gives submit behind packet packets line there long put is) = none_first _ _ _ none line
no_notify s t puts none (status.NoRoom submit behind packet packets line there short put is) = none_first _ _ _ none line

pub trigger_goes : (one_header : OneHeader) (job : Job) (downs puts : List Put) (ups : List up.Message) (s t : State) (move : Move) → IsTrigger job → Alone (taken move ++ ups) s → AllFitting (taken move ++ ups) → move ≢ Unplug
    → Leads s move puts t → Adds (MayLog s move) s t
    → TriggerAt job (sent_to BulkOut (taken move ++ ups)) (events_of BulkOut downs) s → TriggerAt job (sent_to BulkOut ups) (events_of BulkOut (downs ++ puts)) t
trigger_goes one_header job downs puts ups s t (Comes (up.Submit x transferred)) is alone fit plugged h adds at =
    arrives job x transferred ups downs puts s t is.transfer.number fit.0 (others job.head.seqnum s t (Comes (up.Submit x transferred)) (λ count e. cc) adds) alone.ins alone.controls alone.interrupts h.3 at
trigger_goes one_header job downs puts ups s t (Comes (up.Unlink x)) is alone fit plugged h adds at = let e : x ∷ unlinks_in ups ≡ [] = alone.unlinks in absurd (cc)
trigger_goes one_header job downs puts ups s t (Refuses devid bytes f) is alone fit plugged h adds at =
    stays job (sent_to BulkOut ups) downs puts s t (others job.head.seqnum s t (Refuses devid bytes f) (λ count e. cc) adds) (refuses s t devid bytes f puts h) at
trigger_goes one_header job downs puts ups s t (Take count) is alone fit plugged h adds (TriggerComes come none rest nothing) = absurd (no_take s t count puts rest.bulk_out h.1)
trigger_goes one_header job downs puts ups s t (Take count) is alone fit plugged h adds (TriggerPends come none pends rest nothing) = takes one_header job (sent_to BulkOut ups) downs puts s t count is come none pends rest nothing h.1
trigger_goes one_header job downs puts ups s t (Take count) is alone fit plugged h adds (TriggerTaken come one rest triggered) = absurd (no_take s t count puts rest.bulk_out h.1)
trigger_goes one_header job downs puts ups s t (Take count) is alone fit plugged h adds (TriggerShut come one shuts rest nothing) = absurd (no_take s t count puts rest.bulk_out h.1)
trigger_goes one_header job downs puts ups s t Exec is alone fit plugged h adds at = stays job (sent_to BulkOut ups) downs puts s t (others job.head.seqnum s t Exec (λ count e. cc) adds) (executes s t puts h.1 h.0) at
trigger_goes one_header job downs puts ups s t (Begin count) is alone fit plugged h adds at = absurd (no_begin s t count (ins_of job _ _ s at).1 h.0)
trigger_goes one_header job downs puts ups s t (Fill count) is alone fit plugged h adds at = absurd (no_fill s t count puts (ins_of job _ _ s at).0 h)
trigger_goes one_header job downs puts ups s t Answer is alone fit plugged h adds at = absurd (no_answer s t puts alone.control h)
trigger_goes one_header job downs puts ups s t Pend is alone fit plugged h adds at = absurd (no_pend s t puts alone.control h)
trigger_goes one_header job downs puts ups s t Poll is alone fit plugged h adds at = absurd (no_first_poll s t alone.control h.0)
trigger_goes one_header job downs puts ups s t Notify is alone fit plugged h adds at = absurd (no_notify s t puts alone.interrupt_in h)
trigger_goes one_header job downs puts ups s t (Halt BulkOut) is alone fit plugged h adds at =
    halts_own job (sent_to BulkOut ups) downs puts s t is.transfer.number (others job.head.seqnum s t (Halt BulkOut) (λ count e. cc) adds) h at
trigger_goes one_header job downs puts ups s t (Halt Control) is alone fit plugged h adds at =
    stays job (sent_to BulkOut ups) downs puts s t (others job.head.seqnum s t (Halt Control) (λ count e. cc) adds) (halts_other s t Control puts (λ e. cc) (ins_of job _ _ s at).0 alone.interrupt_in h) at
trigger_goes one_header job downs puts ups s t (Halt BulkIn) is alone fit plugged h adds at =
    stays job (sent_to BulkOut ups) downs puts s t (others job.head.seqnum s t (Halt BulkIn) (λ count e. cc) adds) (halts_other s t BulkIn puts (λ e. cc) (ins_of job _ _ s at).0 alone.interrupt_in h) at
trigger_goes one_header job downs puts ups s t (Halt InterruptIn) is alone fit plugged h adds at =
    stays job (sent_to BulkOut ups) downs puts s t (others job.head.seqnum s t (Halt InterruptIn) (λ count e. cc) adds) (halts_other s t InterruptIn puts (λ e. cc) (ins_of job _ _ s at).0 alone.interrupt_in h) at
trigger_goes one_header job downs puts ups s t Unplug is alone fit plugged h adds at = absurd (plugged refl)
