-- a step of a lawful device without its Interrupt-IN submits is one of a device that has none, or nothing of it is left
use Rattle.std.proofs.Common.{◌≡◌, ◌≢◌, ◌∙◌, ◌⊎◌, inl, inr, ℕ, ◌<◌, ◌≤◌, Bool, true, false, cond, eqb, ℤ, List, [], ◌∷◌, ◌++◌, length, map, min, None, refl, ap, sym, subst, length-append, arith}
use Rattle.std.proofs.lemmas.Bool.{eq-eqb}
use Rattle.usbip_wire.specs.declared.submit.SubmitHead.{SubmitHead}
use Rattle.usbip_wire.specs.declared.unlink.UnlinkHead.{UnlinkHead}
use Rattle.usbip_wire.specs.Up as up
use Rattle.tmc_wire.specs.declared.class_request.ClassRequest.{ClassRequest}
use Rattle.tmc_wire.specs.declared.class_request.ClassRequest.TheVariants.{AbortOut, CheckOut, AbortIn, CheckIn, Clear, CheckClear, Capabilities, Pulse, ReadStatus, Ren, GoLocal, Lockout}
use Rattle.tmc_wire.specs.ControlTable.{IsRow}
use Rattle.usb_setup.specs.declared.setup.Setup.{Setup}
use Rattle.instr_plain.specs.declared.log.LogEntry.{LogEntry}
use Rattle.instr_plain.specs.declared.remote.RemoteAct.{RemoteAct}
use Rattle.usbip_wire.specs.declared.ret_submit.RetSubmitHead.{RetSubmitHead}
use Rattle.tmc_law.specs.Endpoint.{Endpoint, Control, BulkOut, BulkIn, InterruptIn, number_of, ends}
use Rattle.tmc_law.specs.State.{State, Pending, Packet, Transfer, Owed, Presence, Plugged, Running, Nothing, AbortsOut, AbortsIn, Clears, queue_of, pending, Avoids}
use Rattle.tmc_law.specs.Put.{Put, Submitted, Unlinked, answer_of, ended, returned, unlink_answer, success, stalled}
use Rattle.tmc_law.specs.Logging.{Logs, with_service}
use Rattle.tmc_law.specs.Queues.{IsTaken, Arrives, Queued, TurnedAway, Unlinks, Hits, Polled, Misses, pending_most}
use Rattle.tmc_law.specs.Halts.{all_ended, halts, HaltsItself, DoesHalt}
use Rattle.tmc_law.specs.BulkOut as out
use Rattle.tmc_law.specs.BulkIn as «in»
use Rattle.tmc_law.specs.Standard.{Standard, GetDeviceStatus, GetInterfaceStatus, GetEndpointStatus, ClearHalt, GetDeviceDescriptor, GetConfigurationDescriptor, GetString, GetConfiguration, SetConfiguration, GetInterface, SetInterface, IsStandard, standard_layout, standard_effect}
use Rattle.tmc_law.specs.Aborts as aborts
use Rattle.tmc_law.specs.Aborts.{Served, part_answer}
use Rattle.tmc_law.specs.Status as status
use Rattle.tmc_law.specs.Class as class
use Rattle.tmc_law.specs.Control.{Asks, control_answer, sent_back}
use Rattle.tmc_law.specs.Status.{status_layout}
use Rattle.tmc_wire.specs.ClassStatus.{STATUS_SUCCESS}
use Rattle.tmc_law.specs.Reached.{AllFit}
use Rattle.tmc_law.specs.Step.{Move, Comes, Refuses, Take, Exec, Begin, Fill, Answer, Pend, Poll, Notify, Halt, Unplug, Leads, Steps}
use Rattle.tmc_law.specs.Run.{taken}
use Rattle.host_joint.specs.Lines.{events_of, heads, Fitting, AllFitting, NoneNumbered}
use Rattle.host_joint.specs.StatusReads.{packets_in, statuses}
use Rattle.host_joint.specs.Beside.{messages_beside, answers_beside, device_beside, unclosed}
use Rattle.host_joint.proofs.Queues.{IsSound, avoids_queue}
use Rattle.host_joint.proofs.Packeting.{Streams, still, none_out, logs_same}
use Rattle.host_joint.proofs.Packeting as packets

-- ---- answers that are not to Interrupt-IN

pub answers-append : (a b : List Put) → answers_beside (a ++ b) ≡ answers_beside a ++ answers_beside b
answers-append [] b = refl
answers-append (Submitted asked answer transferred ∷ a) b = by (eqb asked.ep 3) (answers-append a b)
  where
    by : (c : Bool) → answers_beside (a ++ b) ≡ answers_beside a ++ answers_beside b
        → cond c (answers_beside (a ++ b)) (Submitted asked answer transferred ∷ answers_beside (a ++ b)) ≡ cond c (answers_beside a) (Submitted asked answer transferred ∷ answers_beside a) ++ answers_beside b
    by true h = h
    by false h = ap (λ (l : List Put). Submitted asked answer transferred ∷ l) h
answers-append (Unlinked asked answer ∷ a) b = ap (λ (l : List Put). Unlinked asked answer ∷ l) (answers-append a b)

pub messages-append : (a b : List up.Message) → messages_beside (a ++ b) ≡ messages_beside a ++ messages_beside b
messages-append [] b = refl
messages-append (up.Submit head transferred ∷ a) b = by (eqb head.ep 3) (messages-append a b)
  where
    by : (c : Bool) → messages_beside (a ++ b) ≡ messages_beside a ++ messages_beside b
        → cond c (messages_beside (a ++ b)) (up.Submit head transferred ∷ messages_beside (a ++ b)) ≡ cond c (messages_beside a) (up.Submit head transferred ∷ messages_beside a) ++ messages_beside b
    by true h = h
    by false h = ap (λ (l : List up.Message). up.Submit head transferred ∷ l) h
messages-append (up.Unlink head ∷ a) b = ap (λ (l : List up.Message). up.Unlink head ∷ l) (messages-append a b)

pub keep_put : (n : ℕ) (head : SubmitHead) (answer : RetSubmitHead) (transferred : List ℕ) (puts : List Put) → head.ep ≡ n → eqb n 3 ≡ false
    → answers_beside (Submitted head answer transferred ∷ puts) ≡ Submitted head answer transferred ∷ answers_beside puts
keep_put n head answer transferred puts own other = let e : eqb head.ep 3 ≡ false = ap (λ (m : ℕ). eqb m 3) own ∙ other in rw e refl

pub drop_put : (head : SubmitHead) (answer : RetSubmitHead) (transferred : List ℕ) (puts : List Put) → head.ep ≡ 3 → answers_beside (Submitted head answer transferred ∷ puts) ≡ answers_beside puts
drop_put head answer transferred puts own = rw (eq-eqb head.ep 3 own) refl

keep_answer : (n : ℕ) (head : SubmitHead) (st : ℤ) (moved : List ℕ) (puts : List Put) → head.ep ≡ n → eqb n 3 ≡ false → answers_beside (answer_of head st moved ∷ puts) ≡ answer_of head st moved ∷ answers_beside puts
keep_answer n head st moved puts own other = keep_put n head (record { seqnum = head.seqnum; status = st; actual = length moved }) (returned head.dir moved) puts own other

drop_answer : (head : SubmitHead) (st : ℤ) (moved : List ℕ) (puts : List Put) → head.ep ≡ 3 → answers_beside (answer_of head st moved ∷ puts) ≡ answers_beside puts
drop_answer head st moved puts own = drop_put head (record { seqnum = head.seqnum; status = st; actual = length moved }) (returned head.dir moved) puts own

-- the submits of a queue name this endpoint
abbrev At : ℕ → List Pending → Type 0
At n [] = Unit {0}
At n (submit ∷ queue) = (submit.head.ep ≡ n) × At n queue

at_fit : (e : Endpoint) (queue : List Pending) → AllFit e queue → At (number_of e) queue
at_fit e [] h = tt
at_fit e (x ∷ queue) h = (h.0.number, at_fit e queue h.1)

at_line : (e : Endpoint) (s : State) (queue : List Pending) → IsSound s → queue_of e s ≡ queue → At (number_of e) queue
at_line e s queue sound line = subst (λ (q : List Pending). At (number_of e) q) line (at_fit e (queue_of e s) (sound.fits e))

keep_others : (n : ℕ) (queue : List Pending) → At n queue → eqb n 3 ≡ false → answers_beside (map (λ submit. answer_of submit.head stalled []) queue) ≡ map (λ submit. answer_of submit.head stalled []) queue
keep_others n [] at other = refl
keep_others n (x ∷ queue) at other = keep_answer n x.head stalled [] (map (λ submit. answer_of submit.head stalled []) queue) at.0 other ∙ ap (λ (l : List Put). answer_of x.head stalled [] ∷ l) (keep_others n queue at.1 other)

keep_ended : (n : ℕ) (queue : List Pending) → At n queue → eqb n 3 ≡ false → answers_beside (all_ended stalled queue) ≡ all_ended stalled queue
keep_ended n [] at other = refl
keep_ended n (x ∷ queue) at other = keep_answer n x.head stalled x.moved (map (λ submit. answer_of submit.head stalled []) queue) at.0 other ∙ ap (λ (l : List Put). ended stalled x ∷ l) (keep_others n queue at.1 other)

drop_others : (queue : List Pending) → At 3 queue → answers_beside (map (λ submit. answer_of submit.head stalled []) queue) ≡ []
drop_others [] at = refl
drop_others (x ∷ queue) at = drop_answer x.head stalled [] (map (λ submit. answer_of submit.head stalled []) queue) at.0 ∙ drop_others queue at.1

drop_ended : (queue : List Pending) → At 3 queue → answers_beside (all_ended stalled queue) ≡ []
drop_ended [] at = refl
drop_ended (x ∷ queue) at = drop_answer x.head stalled x.moved (map (λ submit. answer_of submit.head stalled []) queue) at.0 ∙ drop_others queue at.1

-- they bring no packets
pub none_brought : (puts : List Put) → packets_in (events_of InterruptIn (answers_beside puts)) ≡ []
none_brought [] = refl
none_brought (Submitted asked answer transferred ∷ puts) = by (eqb asked.ep 3) refl (none_brought puts)
  where
    by : (c : Bool) → eqb asked.ep 3 ≡ c → packets_in (events_of InterruptIn (answers_beside puts)) ≡ []
        → packets_in (events_of InterruptIn (cond c (answers_beside puts) (Submitted asked answer transferred ∷ answers_beside puts))) ≡ []
    by true is h = h
    by false is h = rw is h
none_brought (Unlinked asked answer ∷ puts) = none_brought puts

silent : (s t : State) (puts : List Put) → answers_beside puts ≡ puts → statuses t.packets ≡ statuses s.packets → Streams [] s t puts
silent s t puts own same = still s t puts (ap (λ (l : List Put). packets_in (events_of InterruptIn l)) (sym own) ∙ none_brought puts) same

-- ---- what is left of a step

pub data Left (packets : List Packet) (s : State) (move : Move) (puts : List Put) (t : State) : Type 0 where
  -- nothing; but for a packet that left, the same ones are queued
  Leaves : messages_beside (taken move) ≡ [] → answers_beside puts ≡ [] → device_beside packets t ≡ device_beside packets s → Streams [] s t puts → (t.packets ≡ s.packets) ⊎ (move ≡ Notify) → Left packets s move puts t
  -- the same move; where the same packets were queued, they are
  Goes : (later : List Packet) → messages_beside (taken move) ≡ taken move → Steps (device_beside packets s) move (answers_beside puts) (device_beside later t) → Streams [] s t puts
      → (packets ≡ s.packets → later ≡ t.packets) → Left packets s move puts t

-- what a step does to the packets, where another list of them is queued
pub record Moved (p later : List Packet) (s t : State) : Type 0 where
  pub same : statuses t.packets ≡ statuses s.packets
  pub tracks : p ≡ s.packets → later ≡ t.packets

unmoved : (p : List Packet) (s t : State) → t.packets ≡ s.packets → Moved p p s t
unmoved p s t is = record { same = ap (λ (l : List Packet). statuses l) is; tracks = λ e. e ∙ sym is }

moved_on : (p q r : List Packet) (s m t : State) → Moved p q s m → Moved q r m t → Moved p r s t
moved_on p q r s m t a b = record { same = b.same ∙ a.same; tracks = λ e. b.tracks (a.tracks e) }

-- a move that takes nothing in
goes_on : (p later : List Packet) (s t : State) (move : Move) (puts : List Put) → s.presence ≡ Plugged → messages_beside (taken move) ≡ taken move → answers_beside puts ≡ puts → Moved p later s t
    → Leads (device_beside p s) move (answers_beside puts) (device_beside later t) → Left p s move puts t
goes_on p later s t move puts plugged none own moved leads =
    Goes later none (record { plugged = ap unclosed plugged; leads = leads }) (silent s t puts own moved.same) moved.tracks

-- ---- what is logged

abbrev pub queued_behind : (e : LogEntry) (s t : State) → Logs e s t → List Packet → List Packet
queued_behind e s t logs p = with_service s.standing logs.standing p

pub logged : (e : LogEntry) (p : List Packet) (s t : State) → (logs : Logs e s t) → Moved p (queued_behind e s t logs p) s t
logged e p s t logs = record { same = logs_same e s t logs; tracks = λ is. ap (λ (l : List Packet). with_service s.standing logs.standing l) is ∙ sym (ap (λ (x : State). x.packets) logs.is) }

pub logs_beside : (e : LogEntry) (p : List Packet) (s t : State) → (logs : Logs e s t) → Logs e (device_beside p s) (device_beside (queued_behind e s t logs p) t)
logs_beside e p s t logs = record { standing = logs.standing; after = logs.after; is = ap (λ (x : State). device_beside (with_service s.standing logs.standing p) x) logs.is }

-- ---- Bulk-OUT

refused_to : (p : List Packet) (s : State) (bytes : List ℕ) → out.HeaderRefused s bytes → out.HeaderRefused (device_beside p s) bytes
refused_to p s bytes (out.NoHeader fault is) = out.NoHeader fault is
refused_to p s bytes (out.BulkInBusy busy) = out.BulkInBusy busy
refused_to p s bytes (out.RequestInside tag size header inside) = out.RequestInside tag size header inside
refused_to p s bytes (out.TriggerInside tag header inside) = out.TriggerInside tag header inside
refused_to p s bytes (out.TooLong tag size eom header long) = out.TooLong tag size eom header long

refused_from : (p : List Packet) (s : State) (bytes : List ℕ) → out.HeaderRefused (device_beside p s) bytes → out.HeaderRefused s bytes
refused_from p s bytes (out.NoHeader fault is) = out.NoHeader fault is
refused_from p s bytes (out.BulkInBusy busy) = out.BulkInBusy busy
refused_from p s bytes (out.RequestInside tag size header inside) = out.RequestInside tag size header inside
refused_from p s bytes (out.TriggerInside tag header inside) = out.TriggerInside tag header inside
refused_from p s bytes (out.TooLong tag size eom header long) = out.TooLong tag size eom header long

belongs_to : (p : List Packet) (s : State) (submit : Pending) (transfer : Transfer) → out.Belongs s submit transfer → out.Belongs (device_beside p s) submit transfer
belongs_to p s submit transfer (out.InProgress is) = out.InProgress is
belongs_to p s submit transfer (out.Begun header none unrefused is begun) = out.Begun header none (λ r. unrefused (refused_from p s submit.left r)) is begun

belongs_from : (p : List Packet) (s : State) (submit : Pending) (transfer : Transfer) → out.Belongs (device_beside p s) submit transfer → out.Belongs s submit transfer
belongs_from p s submit transfer (out.InProgress is) = out.InProgress is
belongs_from p s submit transfer (out.Begun header none unrefused is begun) = out.Begun header none (λ r. unrefused (refused_to p s submit.left r)) is begun

spoils_to : (p : List Packet) (s : State) (submit : Pending) → out.Spoils s submit → out.Spoils (device_beside p s) submit
spoils_to p s submit (out.ByHeader none refused) = out.ByHeader none (refused_to p s submit.left refused)
spoils_to p s submit (out.ByLength transfer belongs fresh misfits) = out.ByLength transfer (belongs_to p s submit transfer belongs) fresh misfits

spoils_from : (p : List Packet) (s : State) (submit : Pending) → out.Spoils (device_beside p s) submit → out.Spoils s submit
spoils_from p s submit (out.ByHeader none refused) = out.ByHeader none (refused_from p s submit.left refused)
spoils_from p s submit (out.ByLength transfer belongs fresh misfits) = out.ByLength transfer (belongs_from p s submit transfer belongs) fresh misfits

interrupts_to : (p : List Packet) (s t : State) → out.Interrupts s t → (later : List Packet) × out.Interrupts (device_beside p s) (device_beside later t) × Moved p later s t
interrupts_to p s t (out.Dropped part some logs) = (queued_behind _ s t logs p, out.Dropped part some (logs_beside _ p s t logs), logged _ p s t logs)
interrupts_to p s t (out.NothingUnread none is) = (p, out.NothingUnread none (ap (λ (x : State). device_beside p x) is), unmoved p s t (ap (λ (x : State). x.packets) is))
interrupts_to p s t (out.LaterPart part is) = (p, out.LaterPart part (ap (λ (x : State). device_beside p x) is), unmoved p s t (ap (λ (x : State). x.packets) is))

effect_to : (p : List Packet) (seq : ℕ) (transfer : Transfer) (s t : State) → out.TakesEffect seq transfer s t
    → (later : List Packet) × out.TakesEffect seq transfer (device_beside p s) (device_beside later t) × Moved p later s t
effect_to p seq transfer s t (out.Part tag size message mid header text first is) =
    let go = interrupts_to p s mid first in
    (go.0, out.Part tag size message (device_beside go.0 mid) header text go.1 (ap (λ (x : State). device_beside go.0 x) is), moved_on p go.0 go.0 s mid t go.2 (unmoved go.0 mid t (ap (λ (x : State). x.packets) is)))
effect_to p seq transfer s t (out.Last tag size message mid header text first is) =
    let go = interrupts_to p s mid first in
    (go.0, out.Last tag size message (device_beside go.0 mid) header text go.1 (ap (λ (x : State). device_beside go.0 x) is), moved_on p go.0 go.0 s mid t go.2 (unmoved go.0 mid t (ap (λ (x : State). x.packets) is)))
effect_to p seq transfer s t (out.Requests tag size header some is) =
    (p, out.Requests tag size header some (ap (λ (x : State). device_beside p x) is), unmoved p s t (ap (λ (x : State). x.packets) is))
effect_to p seq transfer s t (out.RequestsNothing tag size header none logs) =
    let moved = logged _ p (record s { side = Owed tag size }) t logs in
    (queued_behind _ _ t logs p, out.RequestsNothing tag size header none (logs_beside _ p _ t logs), record { same = moved.same; tracks = moved.tracks })
effect_to p seq transfer s t (out.Triggers tag header logs) = (queued_behind _ s t logs p, out.Triggers tag header (logs_beside _ p s t logs), logged _ p s t logs)

pub take_left : (p : List Packet) (s t : State) (count : ℕ) (puts : List Put) → s.presence ≡ Plugged → IsSound s → Leads s (Take count) puts t → Left p s (Take count) puts t
take_left p s t count puts plugged sound (free, takes) = by takes
  where
    one_kept : (submit : Pending) (answer : RetSubmitHead) (transferred : List ℕ) (behind : List Pending) → s.bulk_out ≡ submit ∷ behind → answers_beside (Submitted submit.head answer transferred ∷ []) ≡ Submitted submit.head answer transferred ∷ []
    one_kept submit answer transferred behind line = keep_put 1 submit.head answer transferred [] (at_line BulkOut s (submit ∷ behind) sound line).0 refl

    later_kept : (submit later : Pending) (grown : Transfer) (transfer : Transfer) (behind : List Pending) → s.bulk_out ≡ submit ∷ behind → out.Moves count submit transfer later grown → answers_beside (ended success later ∷ []) ≡ ended success later ∷ []
    later_kept submit later grown transfer behind line (out.DoesMove is grew) =
        keep_answer 1 later.head success later.moved [] (ap (λ (x : Pending). x.head.ep) is ∙ (at_line BulkOut s (submit ∷ behind) sound line).0) refl

    by : out.Takes s count puts t → Left p s (Take count) puts t
    by (out.Empty submit behind line none one put is) =
        let own = ap answers_beside put ∙ one_kept submit _ _ behind line in
        goes_on p p s t (Take count) puts plugged refl (own ∙ sym put) (unmoved p s t (ap (λ (x : State). x.packets) is)) (free, out.Empty submit behind line none one own (ap (λ (x : State). device_beside p x) is))
    by (out.Spoiled submit behind line some low high spoils put is) =
        let own : answers_beside puts ≡ all_ended stalled s.bulk_out = ap answers_beside put ∙ keep_ended 1 s.bulk_out (at_line BulkOut s s.bulk_out sound refl) refl in
        goes_on p p s t (Take count) puts plugged refl (own ∙ sym put) (unmoved p s t (ap (λ (x : State). x.packets) is))
        (free, out.Spoiled submit behind line some low high (spoils_to p s submit spoils) own (ap (λ (x : State). device_beside p x) is))
    by (out.Inside submit later behind transfer grown line some low unspoiled belongs moves more put is) =
        let own : answers_beside puts ≡ [] = ap answers_beside put in
        goes_on p p s t (Take count) puts plugged refl (own ∙ sym put) (unmoved p s t (ap (λ (x : State). x.packets) is))
        (free, out.Inside submit later behind transfer grown line some low (λ r. unspoiled (spoils_from p s submit r)) (belongs_to p s submit transfer belongs) moves more own (ap (λ (x : State). device_beside p x) is))
    by (out.SubmitEnds submit later behind transfer grown line some all unspoiled belongs moves more put is) =
        let own = ap answers_beside put ∙ later_kept submit later grown transfer behind line moves in
        goes_on p p s t (Take count) puts plugged refl (own ∙ sym put) (unmoved p s t (ap (λ (x : State). x.packets) is))
        (free, out.SubmitEnds submit later behind transfer grown line some all (λ r. unspoiled (spoils_from p s submit r)) (belongs_to p s submit transfer belongs) moves more own (ap (λ (x : State). device_beside p x) is))
    by (out.TransferEnds submit later behind transfer grown line some all unspoiled belongs moves none effect put) =
        let own = ap answers_beside put ∙ later_kept submit later grown transfer behind line moves in
        let go = effect_to p submit.head.seqnum grown _ t effect in
        goes_on p go.0 s t (Take count) puts plugged refl (own ∙ sym put) (record { same = go.2.same; tracks = go.2.tracks })
        (free, out.TransferEnds submit later behind transfer grown line some all (λ r. unspoiled (spoils_from p s submit r)) (belongs_to p s submit transfer belongs) moves none go.1 own)

pub exec_left : (p : List Packet) (s t : State) (puts : List Put) → s.presence ≡ Plugged → Leads s Exec puts t → Left p s Exec puts t
exec_left p s t puts plugged (out.DoesExecute seq message waits logs, none) =
    let own : answers_beside puts ≡ [] = ap answers_beside none in
    goes_on p (queued_behind _ _ t logs p) s t Exec puts plugged refl (own ∙ sym none) (let moved = logged _ p (record s { waiting = None }) t logs in record { same = moved.same; tracks = moved.tracks }) (out.DoesExecute seq message waits (logs_beside _ p _ t logs), own)

-- ---- Bulk-IN

pub begin_left : (p : List Packet) (s t : State) (count : ℕ) (puts : List Put) → s.presence ≡ Plugged → Leads s (Begin count) puts t → Left p s (Begin count) puts t
begin_left p s t count puts plugged («in».DoesBegin tag size owes free low high logs, none) =
    let own : answers_beside puts ≡ [] = ap answers_beside none in
    goes_on p (queued_behind _ _ t logs p) s t (Begin count) puts plugged refl (own ∙ sym none) (let moved = logged _ p _ t logs in record { same = moved.same; tracks = moved.tracks }) («in».DoesBegin tag size owes free low high (logs_beside _ p _ t logs), own)

pub fill_left : (p : List Packet) (s t : State) (count : ℕ) (puts : List Put) → s.presence ≡ Plugged → IsSound s → Leads s (Fill count) puts t → Left p s (Fill count) puts t
fill_left p s t count puts plugged sound fills = by fills
  where
    one_kept : (submit : Pending) (answer : RetSubmitHead) (transferred : List ℕ) (behind : List Pending) → s.bulk_in ≡ submit ∷ behind → answers_beside (Submitted submit.head answer transferred ∷ []) ≡ Submitted submit.head answer transferred ∷ []
    one_kept submit answer transferred behind line = keep_put 2 submit.head answer transferred [] (at_line BulkIn s (submit ∷ behind) sound line).0 refl

    by : «in».Fills s count puts t → Left p s (Fill count) puts t
    by («in».Ends submit behind given line runs one put is) =
        let own = ap answers_beside put ∙ one_kept submit _ _ behind line in
        goes_on p p s t (Fill count) puts plugged refl (own ∙ sym put) (unmoved p s t (ap (λ (x : State). x.packets) is)) («in».Ends submit behind given line runs one own (ap (λ (x : State). device_beside p x) is))
    by («in».Inside submit behind piece line sends free low within room put is) =
        let own : answers_beside puts ≡ [] = ap answers_beside put in
        goes_on p p s t (Fill count) puts plugged refl (own ∙ sym put) (unmoved p s t (ap (λ (x : State). x.packets) is)) («in».Inside submit behind piece line sends free low within room own (ap (λ (x : State). device_beside p x) is))
    by («in».Full submit behind piece line sends free low within room put is) =
        let own = ap answers_beside put ∙ one_kept submit _ _ behind line in
        goes_on p p s t (Fill count) puts plugged refl (own ∙ sym put) (unmoved p s t (ap (λ (x : State). x.packets) is)) («in».Full submit behind piece line sends free low within room own (ap (λ (x : State). device_beside p x) is))
    by («in».Short submit behind piece full line sends free one leaves within short room put is) =
        let own = ap answers_beside put ∙ one_kept submit _ _ behind line in
        goes_on p p s t (Fill count) puts plugged refl (own ∙ sym put) (unmoved p s t (ap (λ (x : State). x.packets) is)) («in».Short submit behind piece full line sends free one leaves within short room own (ap (λ (x : State). device_beside p x) is))
    by («in».Overflows submit behind piece full line sends free one leaves within over put is) =
        let at = at_line BulkIn s (submit ∷ behind) sound line in
        let own = ap answers_beside put ∙ keep_ended 2 («in».filled _ piece submit ∷ behind) (at.0, at.1) refl in
        goes_on p p s t (Fill count) puts plugged refl (own ∙ sym put) (unmoved p s t (ap (λ (x : State). x.packets) is)) («in».Overflows submit behind piece full line sends free one leaves within over own (ap (λ (x : State). device_beside p x) is))

-- ---- the control endpoint

abbrev served_beside : List Packet → Served → Served
served_beside p served = record { layout = served.layout; behind = answers_beside served.behind; state = device_beside p served.state }

record Serving (p : List Packet) (request : ClassRequest) (submit : Pending) (s : State) (served : Served) : Type 0 where
  later : List Packet
  serves : class.Serves request submit (device_beside p s) (served_beside later served)
  own : answers_beside served.behind ≡ served.behind
  moved : Moved p later s served.state

-- nothing comes behind it, and no packet is queued
serves_alone : (p : List Packet) (request : ClassRequest) (submit : Pending) (s : State) (served : Served) → class.Serves request submit (device_beside p s) (served_beside p served) → served.behind ≡ []
    → served.state.packets ≡ s.packets → Serving p request submit s served
serves_alone p request submit s served serves none same = record { later = p; serves = serves; own = ap answers_beside none ∙ sym none; moved = unmoved p s served.state same }

checks_out : (p : List Packet) (submit : Pending) (s : State) → (r : Running) → Serving p CheckOut submit (record s { running = r }) (aborts.checked_out (record s { running = r }))
checks_out p submit s Nothing = serves_alone p CheckOut submit _ _ refl refl refl
checks_out p submit s AbortsOut = serves_alone p CheckOut submit _ _ refl refl refl
checks_out p submit s (AbortsIn wanting given) = serves_alone p CheckOut submit _ _ refl refl refl
checks_out p submit s Clears = serves_alone p CheckOut submit _ _ refl refl refl

checks_in : (p : List Packet) (submit : Pending) (s : State) → (r : Running) → Serving p CheckIn submit (record s { running = r }) (aborts.checked_in (record s { running = r }))
checks_in p submit s Nothing = serves_alone p CheckIn submit _ _ refl refl refl
checks_in p submit s AbortsOut = serves_alone p CheckIn submit _ _ refl refl refl
checks_in p submit s (AbortsIn true given) = serves_alone p CheckIn submit _ _ refl refl refl
checks_in p submit s (AbortsIn false given) = serves_alone p CheckIn submit _ _ refl refl refl
checks_in p submit s Clears = serves_alone p CheckIn submit _ _ refl refl refl

checks_clear : (p : List Packet) (submit : Pending) (s : State) → (r : Running) → Serving p CheckClear submit (record s { running = r }) (aborts.checked_clear (record s { running = r }))
checks_clear p submit s Nothing = serves_alone p CheckClear submit _ _ refl refl refl
checks_clear p submit s AbortsOut = serves_alone p CheckClear submit _ _ refl refl refl
checks_clear p submit s (AbortsIn wanting given) = serves_alone p CheckClear submit _ _ refl refl refl
checks_clear p submit s Clears = serves_alone p CheckClear submit _ _ refl refl refl

operates : (p : List Packet) (act : RemoteAct) (s : State) (served : Served) → class.Operates act s served
    → (later : List Packet) × class.Operates act (device_beside p s) (served_beside later served) × (served.behind ≡ []) × Moved p later s served.state
operates p act s served (class.DoesOperate t logs is) =
    let later = queued_behind _ s t logs p in
    (later, class.DoesOperate (device_beside later t) (logs_beside _ p s t logs) (ap (λ (x : Served). served_beside later x) is), ap (λ (x : Served). x.behind) is, moved_on p later later s t served.state (logged _ p s t logs) (unmoved later t served.state (ap (λ (x : Served). x.state.packets) is)))

operates_serving : (p : List Packet) (act : RemoteAct) (request : ClassRequest) (submit : Pending) (s : State) (served : Served)
    → ((later : List Packet) → class.Operates act (device_beside p s) (served_beside later served) → class.Serves request submit (device_beside p s) (served_beside later served))
    → class.Operates act s served → Serving p request submit s served
operates_serving p act request submit s served to does =
    let go = operates p act s served does in
    record { later = go.0; serves = to go.0 go.1; own = ap answers_beside go.2 ∙ sym go.2; moved = go.3 }

part_kept : (queue : List Pending) → At 2 queue → answers_beside (part_answer queue) ≡ part_answer queue
part_kept [] at = refl
part_kept (x ∷ queue) at = by x.moved
  where
    by : (moved : List ℕ) → answers_beside (part_answer (record x { moved = moved } ∷ queue)) ≡ part_answer (record x { moved = moved } ∷ queue)
    by [] = refl
    by (byte ∷ moved) = keep_put 2 x.head _ _ [] at.0 refl

serves_to : (p : List Packet) (request : ClassRequest) (submit : Pending) (s : State) (served : Served) → At 1 s.bulk_out → At 2 s.bulk_in → ((tag : ℕ) → request ≡ ReadStatus tag → ⊥)
    → class.Serves request submit s served → Serving p request submit s served
serves_to p (AbortOut tag) submit s served outs ins other (aborts.NotBegun layout declined is) =
    serves_alone p (AbortOut tag) submit s served (aborts.NotBegun layout declined (ap (λ (x : Served). served_beside p x) is)) (ap (λ (x : Served). x.behind) is) (ap (λ (x : Served). x.state.packets) is)
serves_to p (AbortOut tag) submit s served outs ins other (aborts.DoesAbort free some is) =
    let kept = keep_ended 1 s.bulk_out outs refl in
    let line : served.behind ≡ all_ended stalled s.bulk_out = ap (λ (x : Served). x.behind) is in
    record {
      later = p;
      serves = aborts.DoesAbort free some (ap (λ (x : Served). served_beside p x) is ∙ ap (λ (l : List Put). record { layout = STATUS_SUCCESS ∷ tag ∷ []; behind = l; state = device_beside p (record (halts BulkOut s) { running = AbortsOut }) }) kept);
      own = ap answers_beside line ∙ kept ∙ sym line;
      moved = unmoved p s served.state (ap (λ (x : Served). x.state.packets) is);
    }
serves_to p CheckOut submit s served outs ins other is = subst (λ (x : Served). Serving p CheckOut submit s x) (sym is) (checks_out p submit s s.running)
serves_to p (AbortIn tag) submit s served outs ins other (aborts.NotBegun layout declined is) =
    serves_alone p (AbortIn tag) submit s served (aborts.NotBegun layout declined (ap (λ (x : Served). served_beside p x) is)) (ap (λ (x : Served). x.behind) is) (ap (λ (x : Served). x.state.packets) is)
serves_to p (AbortIn tag) submit s served outs ins other (aborts.DoesAbort free some is) =
    serves_alone p (AbortIn tag) submit s served (aborts.DoesAbort free some (ap (λ (x : Served). served_beside p x) is)) (ap (λ (x : Served). x.behind) is) (ap (λ (x : Served). x.state.packets) is)
serves_to p CheckIn submit s served outs ins other is = subst (λ (x : Served). Serving p CheckIn submit s x) (sym is) (checks_in p submit s s.running)
serves_to p Clear submit s served outs ins other (aborts.DoesClear t logs is) =
    let later = queued_behind _ _ t logs p in
    let kept = answers-append (part_answer s.bulk_in) (all_ended stalled s.bulk_out) ∙ ap (λ (l : List Put). l ++ answers_beside (all_ended stalled s.bulk_out)) (part_kept s.bulk_in ins)
    ∙ ap (λ (l : List Put). part_answer s.bulk_in ++ l) (keep_ended 1 s.bulk_out outs refl) in
    let line : served.behind ≡ part_answer s.bulk_in ++ all_ended stalled s.bulk_out = ap (λ (x : Served). x.behind) is in
    record {
      later = later;
      serves = aborts.DoesClear (device_beside later t) (logs_beside _ p _ t logs) (ap (λ (x : Served). served_beside later x) is ∙ ap (λ (l : List Put). record { layout = STATUS_SUCCESS ∷ []; behind = l; state = device_beside later t }) kept);
      own = ap answers_beside line ∙ kept ∙ sym line;
      moved = let moved = logged _ p (aborts.cleared s) t logs in record { same = ap (λ (x : Served). statuses x.state.packets) is ∙ moved.same; tracks = λ e. moved.tracks e ∙ sym (ap (λ (x : Served). x.state.packets) is) };
    }
serves_to p CheckClear submit s served outs ins other is = subst (λ (x : Served). Serving p CheckClear submit s x) (sym is) (checks_clear p submit s s.running)
serves_to p Capabilities submit s served outs ins other is =
    serves_alone p Capabilities submit s served (ap (λ (x : Served). served_beside p x) is) (ap (λ (x : Served). x.behind) is) (ap (λ (x : Served). x.state.packets) is)
serves_to p Pulse submit s served outs ins other is =
    serves_alone p Pulse submit s served (ap (λ (x : Served). served_beside p x) is) (ap (λ (x : Served). x.behind) is) (ap (λ (x : Served). x.state.packets) is)
serves_to p (ReadStatus tag) submit s served outs ins other reads = absurd (other tag refl)
serves_to p (Ren true) submit s served outs ins other does = operates_serving p _ (Ren true) submit s served (λ later o. o) does
serves_to p (Ren false) submit s served outs ins other does = operates_serving p _ (Ren false) submit s served (λ later o. o) does
serves_to p GoLocal submit s served outs ins other does = operates_serving p _ GoLocal submit s served (λ later o. o) does
serves_to p Lockout submit s served outs ins other does = operates_serving p _ Lockout submit s served (λ later o. o) does

layout_same : (p : List Packet) (request : Standard) (s : State) → standard_layout request (device_beside p s) ≡ standard_layout request s
layout_same p GetDeviceStatus s = refl
layout_same p GetInterfaceStatus s = refl
layout_same p (GetEndpointStatus Control) s = refl
layout_same p (GetEndpointStatus BulkOut) s = refl
layout_same p (GetEndpointStatus BulkIn) s = refl
layout_same p (GetEndpointStatus InterruptIn) s = refl
layout_same p (ClearHalt endpoint) s = refl
layout_same p GetDeviceDescriptor s = refl
layout_same p GetConfigurationDescriptor s = refl
layout_same p (GetString index) s = refl
layout_same p GetConfiguration s = refl
layout_same p SetConfiguration s = refl
layout_same p GetInterface s = refl
layout_same p SetInterface s = refl

effect_same : (p : List Packet) (request : Standard) (s : State) → (device_beside p (standard_effect request s) ≡ standard_effect request (device_beside p s)) × ((standard_effect request s).packets ≡ s.packets)
effect_same p GetDeviceStatus s = (refl, refl)
effect_same p GetInterfaceStatus s = (refl, refl)
effect_same p (GetEndpointStatus endpoint) s = (refl, refl)
effect_same p (ClearHalt Control) s = (refl, refl)
effect_same p (ClearHalt BulkOut) s = (refl, refl)
effect_same p (ClearHalt BulkIn) s = (refl, refl)
effect_same p (ClearHalt InterruptIn) s = (refl, refl)
effect_same p GetDeviceDescriptor s = (refl, refl)
effect_same p GetConfigurationDescriptor s = (refl, refl)
effect_same p (GetString index) s = (refl, refl)
effect_same p GetConfiguration s = (refl, refl)
effect_same p SetConfiguration s = (refl, refl)
effect_same p GetInterface s = (refl, refl)
effect_same p SetInterface s = (refl, refl)

-- no control submit that is pending asks for the status byte
abbrev pub ReadsNone : List Pending → Type 0
ReadsNone [] = Unit {0}
ReadsNone (submit ∷ queue) = ((setup : Setup) (tag : ℕ) → Asks submit setup → IsRow ends (ReadStatus tag) setup → ⊥) × ReadsNone queue

first_reads : (submit : Pending) (behind queue : List Pending) → queue ≡ submit ∷ behind → ReadsNone queue → (setup : Setup) (tag : ℕ) → Asks submit setup → IsRow ends (ReadStatus tag) setup → ⊥
first_reads submit behind queue line none = (subst (λ (q : List Pending). ReadsNone q) line none).0

pub class_left : (p : List Packet) (s t : State) (puts : List Put) → s.presence ≡ Plugged → IsSound s → (submit : Pending) (behind : List Pending) (setup : Setup) (request : ClassRequest) (served : Served) → ((tag : ℕ) → request ≡ ReadStatus tag → ⊥)
    → s.control ≡ submit ∷ behind → Asks submit setup → IsRow ends request setup → class.Serves request submit (record s { control = behind }) served
    → puts ≡ control_answer submit setup served.layout ∷ served.behind → t ≡ served.state → Left p s Answer puts t
class_left p s t puts plugged sound submit behind setup request served other line asks row serves put is =
    let at : submit.head.ep ≡ 0 = (at_line Control s (submit ∷ behind) sound line).0 in
    let x = serves_to p request submit (record s { control = behind }) served (at_line BulkOut s s.bulk_out sound refl) (at_line BulkIn s s.bulk_in sound refl) other serves in
    let first : answers_beside puts ≡ control_answer submit setup served.layout ∷ answers_beside served.behind = ap answers_beside put ∙ keep_put 0 submit.head _ _ served.behind at refl in
    let own : answers_beside puts ≡ puts = first ∙ ap (λ (l : List Put). control_answer submit setup served.layout ∷ l) x.own ∙ sym put in
    let step : t.packets ≡ served.state.packets = ap (λ (y : State). y.packets) is in
    goes_on p x.later s t Answer puts plugged refl own (record { same = ap (λ (l : List Packet). statuses l) step ∙ x.moved.same; tracks = λ e. x.moved.tracks e ∙ sym step })
    (class.ByClass submit behind setup request (served_beside x.later served) line asks row x.serves first (ap (λ (y : State). device_beside x.later y) is))

pub standard_left : (p : List Packet) (s t : State) (puts : List Put) → s.presence ≡ Plugged → IsSound s → (submit : Pending) (behind : List Pending) (setup : Setup) (request : Standard)
    → s.control ≡ submit ∷ behind → Asks submit setup → IsStandard request setup → puts ≡ control_answer submit setup (standard_layout request s) ∷ []
    → t ≡ standard_effect request (record s { control = behind }) → Left p s Answer puts t
standard_left p s t puts plugged sound submit behind setup request line asks row put is =
    let at : submit.head.ep ≡ 0 = (at_line Control s (submit ∷ behind) sound line).0 in
    let first : answers_beside puts ≡ control_answer submit setup (standard_layout request s) ∷ [] = ap answers_beside put ∙ keep_put 0 submit.head _ _ [] at refl in
    let effect = effect_same p request (record s { control = behind }) in
    goes_on p p s t Answer puts plugged refl (first ∙ sym put) (unmoved p s t (ap (λ (y : State). y.packets) is ∙ effect.1))
    (class.ByStandard submit behind setup request line asks row (first ∙ ap (λ (l : List ℕ). control_answer submit setup l ∷ []) (sym (layout_same p request s))) (ap (λ (y : State). device_beside p y) is ∙ effect.0))

pub unknown_left : (p : List Packet) (s t : State) (puts : List Put) → s.presence ≡ Plugged → IsSound s → (submit : Pending) (behind : List Pending) (setup : Setup)
    → s.control ≡ submit ∷ behind → Asks submit setup → class.IsUnknown setup → puts ≡ answer_of submit.head stalled [] ∷ [] → t ≡ record s { control = behind } → Left p s Answer puts t
unknown_left p s t puts plugged sound submit behind setup line asks unknown put is =
    let at : submit.head.ep ≡ 0 = (at_line Control s (submit ∷ behind) sound line).0 in
    let first = ap answers_beside put ∙ keep_put 0 submit.head _ _ [] at refl in
    goes_on p p s t Answer puts plugged refl (first ∙ sym put) (unmoved p s t (ap (λ (x : State). x.packets) is)) (class.Unknown submit behind setup line asks unknown first (ap (λ (y : State). device_beside p y) is))

answer_left : (p : List Packet) (s t : State) (puts : List Put) → s.presence ≡ Plugged → IsSound s → ReadsNone s.control → class.Answers s puts t → Left p s Answer puts t
answer_left p s t puts plugged sound none (class.ByClass submit behind setup request served line asks row serves put is) =
    class_left p s t puts plugged sound submit behind setup request served (λ tag same. first_reads submit behind s.control line none setup tag asks (subst (λ (r : ClassRequest). IsRow ends r setup) same row)) line asks row serves put is
answer_left p s t puts plugged sound none (class.ByStandard submit behind setup request line asks row put is) = standard_left p s t puts plugged sound submit behind setup request line asks row put is
answer_left p s t puts plugged sound none (class.Unknown submit behind setup line asks unknown put is) = unknown_left p s t puts plugged sound submit behind setup line asks unknown put is

pub pend_left : (p : List Packet) (s t : State) (puts : List Put) → s.presence ≡ Plugged → IsSound s → class.Postpones s puts t → Left p s Pend puts t
pend_left p s t puts plugged sound (class.DoesPostpone submit behind setup request layout line asks row stays put is) =
    let at : submit.head.ep ≡ 0 = (at_line Control s (submit ∷ behind) sound line).0 in
    let first = ap answers_beside put ∙ keep_put 0 submit.head _ _ [] at refl in
    goes_on p p s t Pend puts plugged refl (first ∙ sym put) (unmoved p s t (ap (λ (x : State). x.packets) is)) (class.DoesPostpone submit behind setup request layout line asks row stays first (ap (λ (y : State). device_beside p y) is))

poll_left : (p : List Packet) (s t : State) (puts : List Put) → ReadsNone s.control → Leads s Poll puts t → Left p s Poll puts t
poll_left p s t puts none (class.DoesPollFirst submit behind setup tag line asks row good fresh free polls, put) = absurd (first_reads submit behind s.control line none setup tag asks row)

-- ---- Interrupt-IN, and halts

-- each pending submit there has room for a packet
abbrev pub AreRoomy : List Pending → Type 0
AreRoomy [] = Unit {0}
AreRoomy (submit ∷ queue) = (2 ≤ submit.head.length) × AreRoomy queue

notify_left : (p : List Packet) (s t : State) (puts : List Put) → IsSound s → AreRoomy s.interrupt_in → status.Notifies s puts t → Left p s Notify puts t
notify_left p s t puts sound roomy (status.Gives submit behind packet others line there long put is) =
    Leaves refl (ap answers_beside put ∙ drop_put submit.head _ _ [] (at_line InterruptIn s (submit ∷ behind) sound line).0) (ap (λ (x : State). device_beside p x) is)
    (packets.notifies s t puts sound (status.Gives submit behind packet others line there long put is)) (inr refl)
notify_left p s t puts sound roomy (status.NoRoom submit behind packet others line there short put is) =
    let room : 2 ≤ submit.head.length = (subst (λ (q : List Pending). AreRoomy q) line roomy).0 in absurd (omega (arith, room, short))

pub halt_left : (p : List Packet) (s t : State) (e : Endpoint) (puts : List Put) → s.presence ≡ Plugged → IsSound s → HaltsItself s e puts t → Left p s (Halt e) puts t
halt_left p s t Control puts plugged sound (DoesHalt other usable put is) = absurd (other refl)
halt_left p s t BulkOut puts plugged sound (DoesHalt other usable put is) =
    let own : answers_beside puts ≡ all_ended stalled s.bulk_out = ap answers_beside put ∙ keep_ended 1 s.bulk_out (at_line BulkOut s s.bulk_out sound refl) refl in
    goes_on p p s t (Halt BulkOut) puts plugged refl (own ∙ sym put) (unmoved p s t (ap (λ (x : State). x.packets) is)) (DoesHalt other usable own (ap (λ (x : State). device_beside p x) is))
halt_left p s t BulkIn puts plugged sound (DoesHalt other usable put is) =
    let own : answers_beside puts ≡ all_ended stalled s.bulk_in = ap answers_beside put ∙ keep_ended 2 s.bulk_in (at_line BulkIn s s.bulk_in sound refl) refl in
    goes_on p p s t (Halt BulkIn) puts plugged refl (own ∙ sym put) (unmoved p s t (ap (λ (x : State). x.packets) is)) (DoesHalt other usable own (ap (λ (x : State). device_beside p x) is))
halt_left p s t InterruptIn puts plugged sound (DoesHalt other usable put is) =
    let own : answers_beside puts ≡ [] = ap answers_beside put ∙ drop_ended s.interrupt_in (at_line InterruptIn s s.interrupt_in sound refl) in
    Goes p refl (record { plugged = ap unclosed plugged; leads = DoesHalt other usable own (ap (λ (x : State). device_beside p x) is) }) (packets.halts_itself s t InterruptIn puts (DoesHalt other usable put is))
    (λ e. e ∙ sym (ap (λ (x : State). x.packets) is))

-- ---- what comes

avoids_beside : (n : ℕ) (p : List Packet) (s : State) → Avoids n (pending s) → Avoids n (pending (device_beside p s))
avoids_beside n p s free = both s.control (s.bulk_out ++ (s.bulk_in ++ [])) (avoids_queue n s free Control) (both s.bulk_out (s.bulk_in ++ []) (avoids_queue n s free BulkOut) (both s.bulk_in [] (avoids_queue n s free BulkIn) tt))
  where
    both : (a b : List Pending) → Avoids n a → Avoids n b → Avoids n (a ++ b)
    both a b h k = pair a h
      where
        pair : (l : List Pending) → Avoids n l → Avoids n (l ++ b)
        pair [] x = k
        pair (y ∷ l) x = (x.0, pair l x.1)

fewer_beside : (p : List Packet) (s : State) → length (pending s) < pending_most → length (pending (device_beside p s)) < pending_most
fewer_beside p s few =
    omega (
      arith,
      few,
      length-append s.control (s.bulk_out ++ (s.bulk_in ++ s.interrupt_in)),
      length-append s.bulk_out (s.bulk_in ++ s.interrupt_in),
      length-append s.bulk_in s.interrupt_in,
      length-append s.control (s.bulk_out ++ (s.bulk_in ++ [])),
      length-append s.bulk_out (s.bulk_in ++ []),
      length-append s.bulk_in [],
    )

taken_from : (p : List Packet) (s : State) (head : SubmitHead) (e : Endpoint) → IsTaken (device_beside p s) head e → IsTaken s head e
taken_from p s head Control h = record { number = h.number; way = h.way; usable = h.usable }
taken_from p s head BulkOut h = record { number = h.number; way = h.way; usable = h.usable }
taken_from p s head BulkIn h = record { number = h.number; way = h.way; usable = h.usable }
taken_from p s head InterruptIn h = record { number = h.number; way = h.way; usable = h.usable }

keep_message : (n : ℕ) (head : SubmitHead) (transferred : List ℕ) → head.ep ≡ n → eqb n 3 ≡ false → messages_beside (up.Submit head transferred ∷ []) ≡ up.Submit head transferred ∷ []
keep_message n head transferred own other = let e : eqb head.ep 3 ≡ false = ap (λ (m : ℕ). eqb m 3) own ∙ other in rw e refl

pub drop_message : (head : SubmitHead) (transferred : List ℕ) → head.ep ≡ 3 → messages_beside (up.Submit head transferred ∷ []) ≡ []
drop_message head transferred own = rw (eq-eqb head.ep 3 own) refl

pub submit_left : (p : List Packet) (s t : State) (head : SubmitHead) (transferred : List ℕ) (puts : List Put) → s.presence ≡ Plugged → Fitting head → Leads s (Comes (up.Submit head transferred)) puts t → Left p s (Comes (up.Submit head transferred)) puts t
submit_left p s t head transferred puts plugged fits (is_one, free, few, arrives) = by arrives
  where
    streams : Streams [] s t puts
    streams = packets.arrives head transferred s t puts arrives

    goes : (n : ℕ) → head.ep ≡ n → eqb n 3 ≡ false → t.packets ≡ s.packets → Arrives (device_beside p s) head transferred (answers_beside puts) (device_beside p t) → Left p s (Comes (up.Submit head transferred)) puts t
    goes n own other same there = Goes p (keep_message n head transferred own other) (record { plugged = ap unclosed plugged; leads = (is_one, avoids_beside head.seqnum p s free, fewer_beside p s few, there) }) streams (λ e. e ∙ sym same)

    away : ((endpoint : Endpoint) → IsTaken s head endpoint → ⊥) → puts ≡ answer_of head stalled [] ∷ [] → t ≡ s → (e : Endpoint) → head.ep ≡ number_of e → Left p s (Comes (up.Submit head transferred)) puts t
    away none put is InterruptIn own = Leaves (drop_message head transferred own) (ap answers_beside put ∙ drop_put head _ _ [] own) (ap (λ (x : State). device_beside p x) is) streams (inl (ap (λ (x : State). x.packets) is))
    away none put is Control own = goes 0 own refl (ap (λ (x : State). x.packets) is) (TurnedAway (λ e h. none e (taken_from p s head e h)) (ap answers_beside put ∙ keep_put 0 head _ _ [] own refl) (ap (λ (x : State). device_beside p x) is))
    away none put is BulkOut own = goes 1 own refl (ap (λ (x : State). x.packets) is) (TurnedAway (λ e h. none e (taken_from p s head e h)) (ap answers_beside put ∙ keep_put 1 head _ _ [] own refl) (ap (λ (x : State). device_beside p x) is))
    away none put is BulkIn own = goes 2 own refl (ap (λ (x : State). x.packets) is) (TurnedAway (λ e h. none e (taken_from p s head e h)) (ap answers_beside put ∙ keep_put 2 head _ _ [] own refl) (ap (λ (x : State). device_beside p x) is))

    by : Arrives s head transferred puts t → Left p s (Comes (up.Submit head transferred)) puts t
    by (Queued Control h put is) = goes 0 h.number refl (ap (λ (x : State). x.packets) is) (Queued Control (record { number = h.number; way = h.way; usable = h.usable }) (ap answers_beside put) (ap (λ (x : State). device_beside p x) is))
    by (Queued BulkOut h put is) = goes 1 h.number refl (ap (λ (x : State). x.packets) is) (Queued BulkOut (record { number = h.number; way = h.way; usable = h.usable }) (ap answers_beside put) (ap (λ (x : State). device_beside p x) is))
    by (Queued BulkIn h put is) = goes 2 h.number refl (ap (λ (x : State). x.packets) is) (Queued BulkIn (record { number = h.number; way = h.way; usable = h.usable }) (ap answers_beside put) (ap (λ (x : State). device_beside p x) is))
    by (Queued InterruptIn h put is) = Leaves (drop_message head transferred h.number) (ap answers_beside put) (ap (λ (x : State). device_beside p x) is) streams (inl (ap (λ (x : State). x.packets) is))
    by (TurnedAway none put is) = away none put is fits.endpoint fits.number

at_middle : (n : ℕ) (before : List Pending) (submit : Pending) (behind : List Pending) → At n (before ++ submit ∷ behind) → submit.head.ep ≡ n
at_middle n [] submit behind h = h.0
at_middle n (x ∷ before) submit behind h = at_middle n before submit behind h.1

-- an unlink hits nothing at Interrupt-IN
abbrev pub HitsOthers : ℕ → State → Type 0
HitsOthers n s = (before : List Pending) (submit : Pending) (behind : List Pending) → s.interrupt_in ≡ before ++ submit ∷ behind → submit.head.seqnum ≡ n → ⊥

pub unlink_left : (p : List Packet) (s t : State) (head : UnlinkHead) (puts : List Put) → s.presence ≡ Plugged → IsSound s → Leads s (Comes (up.Unlink head)) puts t
    → Left p s (Comes (up.Unlink head)) puts t ⊎ ((HitsOthers head.target s → ⊥) × (device_beside p t ≡ device_beside p s) × (t.packets ≡ s.packets))
unlink_left p s t head puts plugged sound (is_one, unlinks) = by unlinks
  where
    Goal : Type 0
    Goal = Left p s (Comes (up.Unlink head)) puts t ⊎ ((HitsOthers head.target s → ⊥) × (device_beside p t ≡ device_beside p s) × (t.packets ≡ s.packets))

    goes : answers_beside puts ≡ puts → t.packets ≡ s.packets → Unlinks (device_beside p s) head (answers_beside puts) (device_beside p t) → Goal
    goes own same there = inl (goes_on p p s t (Comes (up.Unlink head)) puts plugged refl own (unmoved p s t same) (is_one, there))

    polled_kept : (e : Endpoint) (before : List Pending) (submit : Pending) (behind : List Pending) (moved : List ℕ) → eqb (number_of e) 3 ≡ false → queue_of e s ≡ before ++ submit ∷ behind
        → answers_beside (answer_of submit.head success moved ∷ unlink_answer head success ∷ []) ≡ answer_of submit.head success moved ∷ unlink_answer head success ∷ []
    polled_kept e before submit behind moved other line =
        keep_answer (number_of e) submit.head success moved (unlink_answer head success ∷ []) (middle before (at_line e s (before ++ submit ∷ behind) sound line)) other
      where
        middle : (l : List Pending) → At (number_of e) (l ++ submit ∷ behind) → submit.head.ep ≡ number_of e
        middle l at = at_middle (number_of e) l submit behind at

    by : Unlinks s head puts t → Goal
    by (Hits Control before submit behind line target fresh put is) =
        goes (ap answers_beside put ∙ sym put) (ap (λ (x : State). x.packets) is) (Hits Control before submit behind line target fresh (ap answers_beside put) (ap (λ (x : State). device_beside p x) is))
    by (Hits BulkOut before submit behind line target fresh put is) =
        goes (ap answers_beside put ∙ sym put) (ap (λ (x : State). x.packets) is) (Hits BulkOut before submit behind line target fresh (ap answers_beside put) (ap (λ (x : State). device_beside p x) is))
    by (Hits BulkIn before submit behind line target fresh put is) =
        goes (ap answers_beside put ∙ sym put) (ap (λ (x : State). x.packets) is) (Hits BulkIn before submit behind line target fresh (ap answers_beside put) (ap (λ (x : State). device_beside p x) is))
    by (Hits InterruptIn before submit behind line target fresh put is) = inr ((λ none. none before submit behind line target), ap (λ (x : State). device_beside p x) is, ap (λ (x : State). x.packets) is)
    by (Polled Control before submit behind setup tag line target polled asks row put is) =
        let own = ap answers_beside put ∙ polled_kept Control before submit behind (sent_back submit.head.dir (min setup.length submit.head.length) (status_layout STATUS_SUCCESS tag)) refl line in
        goes (own ∙ sym put) (ap (λ (x : State). x.packets) is) (Polled Control before submit behind setup tag line target polled asks row own (ap (λ (x : State). device_beside p x) is))
    by (Polled BulkOut before submit behind setup tag line target polled asks row put is) =
        let own = ap answers_beside put ∙ polled_kept BulkOut before submit behind (sent_back submit.head.dir (min setup.length submit.head.length) (status_layout STATUS_SUCCESS tag)) refl line in
        goes (own ∙ sym put) (ap (λ (x : State). x.packets) is) (Polled BulkOut before submit behind setup tag line target polled asks row own (ap (λ (x : State). device_beside p x) is))
    by (Polled BulkIn before submit behind setup tag line target polled asks row put is) =
        let own = ap answers_beside put ∙ polled_kept BulkIn before submit behind (sent_back submit.head.dir (min setup.length submit.head.length) (status_layout STATUS_SUCCESS tag)) refl line in
        goes (own ∙ sym put) (ap (λ (x : State). x.packets) is) (Polled BulkIn before submit behind setup tag line target polled asks row own (ap (λ (x : State). device_beside p x) is))
    by (Polled InterruptIn before submit behind setup tag line target polled asks row put is) = inr ((λ none. none before submit behind line target), ap (λ (x : State). device_beside p x) is, ap (λ (x : State). x.packets) is)
    by (Misses free put is) =
        goes (ap answers_beside put ∙ sym put) (ap (λ (x : State). x.packets) is) (Misses (avoids_beside head.target p s free) (ap answers_beside put) (ap (λ (x : State). device_beside p x) is))

middle_numbered : (n : ℕ) (before : List Pending) (submit : Pending) (behind : List Pending) → NoneNumbered n (heads (before ++ submit ∷ behind)) → submit.head.seqnum ≡ n → ⊥
middle_numbered n [] submit behind none is = none.0 is
middle_numbered n (x ∷ before) submit behind none is = middle_numbered n before submit behind none.1 is

pub none_hit : (n : ℕ) (s : State) → NoneNumbered n (heads s.interrupt_in) → HitsOthers n s
none_hit n s none before submit behind line target = middle_numbered n before submit behind (subst (λ (q : List Pending). NoneNumbered n (heads q)) line none) target

-- ---- each step

-- the unlinks that a move takes in name nothing that is pending at Interrupt-IN
abbrev pub NamesNone : Move → State → Type 0
NamesNone (Comes (up.Unlink head)) s = NoneNumbered head.target (heads s.interrupt_in)
NamesNone _ s = Unit {0}

pub step_left : (p : List Packet) (s t : State) (move : Move) (puts : List Put) (ups : List up.Message) → s.presence ≡ Plugged → IsSound s → ReadsNone s.control → AreRoomy s.interrupt_in → NamesNone move s → AllFitting (taken move ++ ups)
    → move ≢ Unplug → Leads s move puts t → Left p s move puts t
step_left p s t (Comes (up.Submit head transferred)) puts ups here sound none roomy names fit plugged leads = submit_left p s t head transferred puts here fit.0 leads
step_left p s t (Comes (up.Unlink head)) puts ups here sound none roomy names fit plugged leads = by (unlink_left p s t head puts here sound leads)
  where
    by : Left p s (Comes (up.Unlink head)) puts t ⊎ ((HitsOthers head.target s → ⊥) × (device_beside p t ≡ device_beside p s) × (t.packets ≡ s.packets)) → Left p s (Comes (up.Unlink head)) puts t
    by (inl left) = left
    by (inr hit) = absurd (hit.0 (none_hit head.target s names))
step_left p s t (Refuses devid bytes f) puts ups here sound none roomy names fit plugged (refused, put, is) =
    Leaves refl (ap answers_beside put) (ap (λ (x : State). device_beside p x) is ∙ ap (λ (x : Presence). record s { interrupt_in = []; packets = p; presence = unclosed x }) (sym here))
    (none_out s t puts put (ap (λ (x : State). statuses x.packets) is)) (inl (ap (λ (x : State). x.packets) is))
step_left p s t (Take count) puts ups here sound none roomy names fit plugged leads = take_left p s t count puts here sound leads
step_left p s t Exec puts ups here sound none roomy names fit plugged leads = exec_left p s t puts here leads
step_left p s t (Begin count) puts ups here sound none roomy names fit plugged leads = begin_left p s t count puts here leads
step_left p s t (Fill count) puts ups here sound none roomy names fit plugged leads = fill_left p s t count puts here sound leads
step_left p s t Answer puts ups here sound none roomy names fit plugged leads = answer_left p s t puts here sound none leads
step_left p s t Pend puts ups here sound none roomy names fit plugged leads = pend_left p s t puts here sound leads
step_left p s t Poll puts ups here sound none roomy names fit plugged leads = poll_left p s t puts none leads
step_left p s t Notify puts ups here sound none roomy names fit plugged leads = notify_left p s t puts sound roomy leads
step_left p s t (Halt e) puts ups here sound none roomy names fit plugged leads = halt_left p s t e puts here sound leads
step_left p s t Unplug puts ups here sound none roomy names fit plugged leads = absurd (plugged refl)
