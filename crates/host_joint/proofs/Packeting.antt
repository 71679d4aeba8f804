-- the packets on Interrupt-IN, and the entries of the log, under each move
use Rattle.std.proofs.Common.{◌≡◌, ◌≢◌, ◌∙◌, ◌⊎◌, inl, inr, ℕ, Bool, true, false, cond, not, ◌&&◌, eqb, ℤ, List, [], ◌∷◌, ◌++◌, length, map, refl, ap, sym, subst, append_assoc, append-nil}
use Rattle.std.proofs.lemmas.Bool.{eq-eqb}
use Rattle.usbip_wire.specs.declared.submit.SubmitHead.{SubmitHead}
use Rattle.usbip_wire.specs.declared.urb.Dir.{Dir}
use Rattle.usbip_wire.specs.declared.urb.Dir.TheVariants.{In}
use Rattle.instr_plain.specs.Standing.{polled_byte}
use Rattle.usbip_wire.specs.Up as up
use Rattle.instr_plain.specs.declared.log.LogEntry.{LogEntry}
use Rattle.instr_plain.specs.declared.log.LogEntry.TheVariants as entry
use Rattle.tmc_law.specs.Endpoint.{Endpoint, Control, BulkOut, BulkIn, InterruptIn, number_of}
use Rattle.tmc_law.specs.State.{State, Pending, Packet, StatusPacket, ServicePacket}
use Rattle.tmc_law.specs.Put.{Put, answer_of, success, stalled, returned}
use Rattle.tmc_law.specs.Halts.{all_ended, HaltsItself, DoesHalt}
use Rattle.tmc_law.specs.Queues.{Arrives, Queued, TurnedAway}
use Rattle.tmc_law.specs.BulkOut as out
use Rattle.tmc_law.specs.BulkIn as «in»
use Rattle.tmc_law.specs.Status as status
use Rattle.tmc_law.specs.Status.{is_status, packet_bytes}
use Rattle.tmc_law.specs.Logging.{Logs, is_queued, is_service, with_service}
use Rattle.tmc_law.specs.LogStep.{MayLog, Adds, LogsNothing, LogsOne}
use Rattle.tmc_law.specs.AnswerFits.{AllAnswers, IsAnswer, ToPending, ToArriving, ToUnlink, StatusBy}
use Rattle.tmc_law.specs.Acts.{FitsAt}
use Rattle.tmc_law.specs.Reached.{AllFit}
use Rattle.tmc_law.specs.Step.{Move, Comes, Refuses, Take, Exec, Begin, Fill, Answer, Pend, Poll, Notify, Halt, Unplug}
use Rattle.host_joint.specs.Lines.{Event, Gives, Drops, events_of}
use Rattle.host_joint.specs.StatusReads.{is_good, packets_in, bytes_of, statuses, IsUsual, Brings, NoPoll, NonePolled, OnePolled}
use Rattle.host_joint.proofs.Flows.{events-append}
use Rattle.host_joint.proofs.Queues.{IsSound}

-- ---- lists of packets

pub packets-append : (a b : List Event) → packets_in (a ++ b) ≡ packets_in a ++ packets_in b
packets-append [] b = refl
packets-append (Gives head answer transferred ∷ a) b = by (is_good answer.status) (packets-append a b)
  where
    by : (good : Bool) → packets_in (a ++ b) ≡ packets_in a ++ packets_in b
        → cond good (transferred ∷ packets_in (a ++ b)) (packets_in (a ++ b)) ≡ cond good (transferred ∷ packets_in a) (packets_in a) ++ packets_in b
    by true h = ap (λ (l : List (List ℕ)). transferred ∷ l) h
    by false h = h
packets-append (Drops n ∷ a) b = packets-append a b

pub bytes-append : (a b : List Packet) → bytes_of (a ++ b) ≡ bytes_of a ++ bytes_of b
bytes-append [] b = refl
bytes-append (x ∷ a) b = ap (λ (l : List (List ℕ)). packet_bytes x ∷ l) (bytes-append a b)

pub statuses-append : (a b : List Packet) → statuses (a ++ b) ≡ statuses a ++ statuses b
statuses-append [] b = refl
statuses-append (StatusPacket tag byte ∷ a) b = ap (λ (l : List Packet). StatusPacket tag byte ∷ l) (statuses-append a b)
statuses-append (ServicePacket byte ∷ a) b = statuses-append a b

pub queued_some : (packets : List Packet) → is_queued is_status packets ≡ true → statuses packets ≢ []
queued_some [] h = λ e. cc
queued_some (StatusPacket tag byte ∷ packets) h = λ e. cc
queued_some (ServicePacket byte ∷ packets) h = queued_some packets h

-- a request for service is no status byte
pub service_same : (before after : _) (packets : List Packet) → statuses (with_service before after packets) ≡ statuses packets
service_same before after packets = by ((not before.rqs && after.rqs) && not (is_queued is_service packets)) (polled_byte after)
  where
    by : (b : Bool) (byte : ℕ) → statuses (cond b (packets ++ ServicePacket byte ∷ []) packets) ≡ statuses packets
    by true byte = statuses-append packets (ServicePacket byte ∷ []) ∙ append-nil (statuses packets)
    by false byte = refl

-- ---- what a move does to them

-- These packets leave in its answers, and behind them these with a status byte were queued.
pub record Streams (more : List Packet) (s t : State) (puts : List Put) : Type 0 where
  pub sent : List Packet
  pub carried : packets_in (events_of InterruptIn puts) ≡ bytes_of sent
  pub queued : statuses (sent ++ t.packets) ≡ statuses s.packets ++ more

-- none leaves
pub still : (s t : State) (puts : List Put) → packets_in (events_of InterruptIn puts) ≡ [] → statuses t.packets ≡ statuses s.packets → Streams [] s t puts
still s t puts none same = record { sent = []; carried = none; queued = same ∙ sym (append-nil (statuses s.packets)) }

usual-append : (a b : List Put) → AllAnswers IsUsual a → AllAnswers IsUsual b → AllAnswers IsUsual (a ++ b)
usual-append [] b h k = k
usual-append (x ∷ a) b h k = (h.0, usual-append a b h.1 k)

pub brings_more : (more status_packets : List Packet) (downs puts : List Put) (s t : State) → Streams more s t puts → AllAnswers IsUsual puts → Brings status_packets downs s → Brings (status_packets ++ more) (downs ++ puts) t
brings_more more status_packets downs puts s t streams usual b = record {
  sent = b.sent ++ streams.sent;
  carried = ap (λ (l : List Event). packets_in l) (events-append InterruptIn downs puts) ∙ packets-append (events_of InterruptIn downs) (events_of InterruptIn puts)
      ∙ ap (λ (l : List (List ℕ)). l ++ packets_in (events_of InterruptIn puts)) b.carried ∙ ap (λ (l : List (List ℕ)). bytes_of b.sent ++ l) streams.carried ∙ sym (bytes-append b.sent streams.sent);
  queued = ap (λ (l : List Packet). statuses l) (append_assoc b.sent streams.sent t.packets) ∙ statuses-append b.sent (streams.sent ++ t.packets)
      ∙ ap (λ (l : List Packet). statuses b.sent ++ l) streams.queued ∙ sym (append_assoc (statuses b.sent) (statuses s.packets) more)
      ∙ ap (λ (l : List Packet). l ++ more) (sym (statuses-append b.sent s.packets) ∙ b.queued);
  usual = usual-append downs puts b.usual usual;
}

pub brings_same : (status_packets : List Packet) (downs puts : List Put) (s t : State) → Streams [] s t puts → AllAnswers IsUsual puts → Brings status_packets downs s → Brings status_packets (downs ++ puts) t
brings_same status_packets downs puts s t streams usual b =
    subst (λ (l : List Packet). Brings l (downs ++ puts) t) (append-nil status_packets) (brings_more [] status_packets downs puts s t streams usual b)

-- ---- answers

usual_of : (move : Move) (status : ℤ) → move ≢ Unplug → StatusBy move status → (status ≡ success) ⊎ (status ≡ stalled)
usual_of (Comes (up.Submit head transferred)) status plugged h = inr h
usual_of (Comes (up.Unlink head)) status plugged h = inl h
usual_of (Refuses devid bytes f) status plugged h = absurd h
usual_of (Take count) status plugged h = h
usual_of Exec status plugged h = absurd h
usual_of (Begin count) status plugged h = absurd h
usual_of (Fill count) status plugged h = h
usual_of Answer status plugged h = h
usual_of Pend status plugged h = inl h
usual_of Poll status plugged h = absurd h
usual_of Notify status plugged h = h
usual_of (Halt e) status plugged h = inr h
usual_of Unplug status plugged h = absurd (plugged refl)

usual_one : (s t : State) (move : Move) (put : Put) → move ≢ Unplug → IsAnswer s move t put → IsUsual put
usual_one s t move put plugged (ToPending e before submit behind st moved line is within by stall packet) = subst (λ (p : Put). IsUsual p) (sym is) (usual_of move st plugged by)
usual_one s t move put plugged (ToArriving head transferred comes is) = subst (λ (p : Put). IsUsual p) (sym is) (inr refl)
usual_one s t move put plugged (ToUnlink head st comes is what) = subst (λ (p : Put). IsUsual p) (sym is) tt

pub all_usual : (s t : State) (move : Move) (puts : List Put) → move ≢ Unplug → AllAnswers (IsAnswer s move t) puts → AllAnswers IsUsual puts
all_usual s t move [] plugged h = tt
all_usual s t move (put ∷ puts) plugged h = (usual_one s t move put plugged h.0, all_usual s t move puts plugged h.1)

no_packets : (e : Endpoint) (queue : List Pending) → packets_in (events_of e (map (λ submit. answer_of submit.head stalled []) queue)) ≡ []
no_packets e [] = refl
no_packets e (x ∷ queue) = by (eqb x.head.ep (number_of e)) (no_packets e queue)
  where
    by : (b : Bool) → packets_in (events_of e (map (λ submit. answer_of submit.head stalled []) queue)) ≡ []
        → packets_in (cond b (Gives x.head (record { seqnum = x.head.seqnum; status = stalled; actual = 0 }) (returned x.head.dir []) ∷ events_of e (map (λ submit. answer_of submit.head stalled []) queue))
        (events_of e (map (λ submit. answer_of submit.head stalled []) queue))) ≡ []
    by true h = h
    by false h = h

pub no_packets_ended : (e : Endpoint) (queue : List Pending) → packets_in (events_of e (all_ended stalled queue)) ≡ []
no_packets_ended e [] = refl
no_packets_ended e (x ∷ queue) = by (eqb x.head.ep (number_of e)) (no_packets e queue)
  where
    by : (b : Bool) → packets_in (events_of e (map (λ submit. answer_of submit.head stalled []) queue)) ≡ []
        → packets_in (cond b (Gives x.head (record { seqnum = x.head.seqnum; status = stalled; actual = length x.moved }) (returned x.head.dir x.moved) ∷ events_of e (map (λ submit. answer_of submit.head stalled []) queue))
        (events_of e (map (λ submit. answer_of submit.head stalled []) queue))) ≡ []
    by true h = h
    by false h = h

no_packets_away : (e : Endpoint) (head : SubmitHead) → packets_in (events_of e (answer_of head stalled [] ∷ [])) ≡ []
no_packets_away e head = by (eqb head.ep (number_of e))
  where
    by : (b : Bool) → packets_in (cond b (Gives head (record { seqnum = head.seqnum; status = stalled; actual = 0 }) (returned head.dir []) ∷ []) []) ≡ []
    by true = refl
    by false = refl

-- ---- the moves

pub none_out : (s t : State) (puts : List Put) → puts ≡ [] → statuses t.packets ≡ statuses s.packets → Streams [] s t puts
none_out s t puts none same = still s t puts (ap (λ (p : List Put). packets_in (events_of InterruptIn p)) none) same

pub logs_same : (e : _) (s t : State) → Logs e s t → statuses t.packets ≡ statuses s.packets
logs_same e s t logs = ap (λ (x : State). statuses x.packets) logs.is ∙ service_same s.standing logs.standing s.packets

pub arrives : (head : SubmitHead) (transferred : List ℕ) (s t : State) (puts : List Put) → Arrives s head transferred puts t → Streams [] s t puts
arrives head transferred s t puts (Queued Control taken put is) = none_out s t puts put (ap (λ (x : State). statuses x.packets) is)
arrives head transferred s t puts (Queued BulkOut taken put is) = none_out s t puts put (ap (λ (x : State). statuses x.packets) is)
arrives head transferred s t puts (Queued BulkIn taken put is) = none_out s t puts put (ap (λ (x : State). statuses x.packets) is)
arrives head transferred s t puts (Queued InterruptIn taken put is) = none_out s t puts put (ap (λ (x : State). statuses x.packets) is)
arrives head transferred s t puts (TurnedAway none put is) =
    still s t puts (ap (λ (p : List Put). packets_in (events_of InterruptIn p)) put ∙ no_packets_away InterruptIn head) (ap (λ (x : State). statuses x.packets) is)

pub executes : (s t : State) (puts : List Put) → puts ≡ [] → out.Executes s t → Streams [] s t puts
executes s t puts none (out.DoesExecute seq message waits logs) = none_out s t puts none (logs_same _ _ t logs)

pub begins : (s t : State) (count : ℕ) (puts : List Put) → puts ≡ [] → «in».Begins s count t → Streams [] s t puts
begins s t count puts none («in».DoesBegin tag size owes free low high logs) = none_out s t puts none (logs_same _ _ t logs)

pub halts_itself : (s t : State) (e : Endpoint) (puts : List Put) → HaltsItself s e puts t → Streams [] s t puts
halts_itself s t Control puts (DoesHalt other usable put is) = absurd (other refl)
halts_itself s t BulkOut puts (DoesHalt other usable put is) =
    still s t puts (ap (λ (p : List Put). packets_in (events_of InterruptIn p)) put ∙ no_packets_ended InterruptIn s.bulk_out) (ap (λ (x : State). statuses x.packets) is)
halts_itself s t BulkIn puts (DoesHalt other usable put is) =
    still s t puts (ap (λ (p : List Put). packets_in (events_of InterruptIn p)) put ∙ no_packets_ended InterruptIn s.bulk_in) (ap (λ (x : State). statuses x.packets) is)
halts_itself s t InterruptIn puts (DoesHalt other usable put is) =
    still s t puts (ap (λ (p : List Put). packets_in (events_of InterruptIn p)) put ∙ no_packets_ended InterruptIn s.interrupt_in) (ap (λ (x : State). statuses x.packets) is)

given_one : (head : SubmitHead) (packet : Packet) → head.ep ≡ 3 → head.dir ≡ In
    → packets_in (events_of InterruptIn (answer_of head success (packet_bytes packet) ∷ [])) ≡ packet_bytes packet ∷ []
given_one head packet own way = rw (eq-eqb head.ep 3 own) (ap (λ (d : Dir). returned d (packet_bytes packet) ∷ []) way)

first_queued : (packet : Packet) (packets all : List Packet) → all ≡ packet ∷ packets → statuses ((packet ∷ []) ++ packets) ≡ statuses all ++ []
first_queued packet packets all is = ap (λ (l : List Packet). statuses l) (sym is) ∙ sym (append-nil (statuses all))

pub notifies : (s t : State) (puts : List Put) → IsSound s → status.Notifies s puts t → Streams [] s t puts
notifies s t puts sound (status.Gives submit behind packet packets line there long put is) =
    let fit : FitsAt InterruptIn submit = (subst (λ (q : List Pending). AllFit InterruptIn q) line (sound.fits InterruptIn)).0 in
    record {
      sent = packet ∷ [];
      carried = ap (λ (p : List Put). packets_in (events_of InterruptIn p)) put ∙ given_one submit.head packet fit.number fit.way;
      queued = ap (λ (x : State). statuses (packet ∷ x.packets)) is ∙ first_queued packet packets s.packets there;
    }
notifies s t puts sound (status.NoRoom submit behind packet packets line there short put is) =
    still s t puts (ap (λ (p : List Put). packets_in (events_of InterruptIn p)) put ∙ no_packets_ended InterruptIn s.interrupt_in) (ap (λ (x : State). statuses x.packets) is)

-- ---- what is logged meanwhile

-- nothing was logged, or an entry that is no poll
pub data Others (s t : State) : Type 0 where
  NoEntry : t.log ≡ s.log → Others s t
  OneOther : (e : LogEntry) → NoPoll (e ∷ []) → t.log ≡ s.log ++ e ∷ [] → Others s t

-- a move that answers and polls nothing at the control endpoint
abbrev pub IsElsewhere : Move → Type 0
IsElsewhere Answer = ⊥
IsElsewhere Pend = ⊥
IsElsewhere Poll = ⊥
IsElsewhere Unplug = ⊥
IsElsewhere _ = Unit {0}

no_poll : (s : State) (move : Move) (e : LogEntry) → IsElsewhere move → MayLog s move e → NoPoll (e ∷ [])
no_poll s move (entry.Exec seq message) other may = tt
no_poll s move (entry.Took n) other may = tt
no_poll s move entry.Interrupt other may = tt
no_poll s move entry.Bare other may = tt
no_poll s move (entry.Trigger seq) other may = tt
no_poll s move entry.Clear other may = tt
no_poll s move (entry.Remote a) other may = tt
no_poll s (Comes message) (entry.Poll seq) other may = may
no_poll s (Refuses devid bytes f) (entry.Poll seq) other may = may
no_poll s (Take count) (entry.Poll seq) other may = may
no_poll s Exec (entry.Poll seq) other may = may
no_poll s (Begin count) (entry.Poll seq) other may = may
no_poll s (Fill count) (entry.Poll seq) other may = may
no_poll s Answer (entry.Poll seq) other may = other
no_poll s Pend (entry.Poll seq) other may = other
no_poll s Poll (entry.Poll seq) other may = other
no_poll s Notify (entry.Poll seq) other may = may
no_poll s (Halt e) (entry.Poll seq) other may = may
no_poll s Unplug (entry.Poll seq) other may = may

pub others : (s t : State) (move : Move) → IsElsewhere move → Adds (MayLog s move) s t → Others s t
others s t move other (LogsNothing log standing) = NoEntry log
others s t move other (LogsOne e may log after) = OneOther e (no_poll s move e other may) log

pub poll-append : (a b : List LogEntry) → NoPoll a → NoPoll b → NoPoll (a ++ b)
poll-append [] b h k = k
poll-append (entry.Exec seq message ∷ a) b h k = poll-append a b h k
poll-append (entry.Took n ∷ a) b h k = poll-append a b h k
poll-append (entry.Interrupt ∷ a) b h k = poll-append a b h k
poll-append (entry.Bare ∷ a) b h k = poll-append a b h k
poll-append (entry.Trigger seq ∷ a) b h k = poll-append a b h k
poll-append (entry.Poll seq ∷ a) b h k = absurd h
poll-append (entry.Clear ∷ a) b h k = poll-append a b h k
poll-append (entry.Remote x ∷ a) b h k = poll-append a b h k

pub none_goes : (since : List LogEntry) (s t : State) → Others s t → NonePolled since s.log → NonePolled since t.log
none_goes since s t (NoEntry same) h = subst (λ (l : List LogEntry). NonePolled since l) (sym same) h
none_goes since s t (OneOther e other log) h = record {
  more = h.more ++ e ∷ [];
  whole = log ∙ ap (λ (l : List LogEntry). l ++ e ∷ []) h.whole ∙ append_assoc since h.more (e ∷ []);
  none = poll-append h.more (e ∷ []) h.none other;
}

pub one_goes : (n byte : ℕ) (since : List LogEntry) (s t : State) → Others s t → OnePolled n byte since s.log → OnePolled n byte since t.log
one_goes n byte since s t (NoEntry same) h = subst (λ (l : List LogEntry). OnePolled n byte since l) (sym same) h
one_goes n byte since s t (OneOther e other log) h = record {
  before = h.before;
  behind = h.behind ++ e ∷ [];
  whole = log ∙ ap (λ (l : List LogEntry). l ++ e ∷ []) h.whole ∙ append_assoc since (h.before ++ entry.Poll n ∷ h.behind) (e ∷ [])
      ∙ ap (λ (l : List LogEntry). since ++ l) (append_assoc h.before (entry.Poll n ∷ h.behind) (e ∷ []));
  none_before = h.none_before;
  none_behind = poll-append h.behind (e ∷ []) h.none_behind other;
  standing = h.standing;
  stands = h.stands;
  was_read = h.was_read;
}
