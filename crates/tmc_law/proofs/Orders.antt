-- what is under way on the bulk endpoints in each state that can be reached
use Rattle.std.proofs.Common.{◌≡◌, ◌∙◌, ◌≢◌, ◌⊎◌, inl, inr, ℕ, ◌+◌, ◌-◌, ◌*◌, ◌<◌, ◌≤◌, true, false, List, [], ◌∷◌, ◌++◌, Option, Some, None, length, take, drop, refl, ap, sym, subst, length-append, length-take, length-drop, arith}
use Rattle.std.proofs.lemmas.Bool.{cases_lt}
use Rattle.usbip_wire.specs.declared.submit.SubmitHead.{SubmitHead}
use Rattle.usbip_wire.specs.declared.unlink.UnlinkHead.{UnlinkHead}
use Rattle.usbip_wire.specs.declared.urb.Dir.{Dir}
use Rattle.usbip_wire.specs.Up as up
use Rattle.tmc_wire.specs.declared.class_request.ClassRequest.{ClassRequest}
use Rattle.tmc_wire.specs.declared.class_request.ClassRequest.TheVariants.{AbortOut, CheckOut, AbortIn, CheckIn, Clear, CheckClear, Capabilities, Pulse, ReadStatus, Ren, GoLocal, Lockout}
use Rattle.tmc_wire.specs.declared.header.OutHeader.{OutHeader}
use Rattle.tmc_wire.specs.declared.header.OutHeader.TheVariants.{Message, Request, Trigger}
use Rattle.tmc_wire.specs.Standard.{header_size}
use Rattle.tmc_wire.specs.Header.{IsOutHeader}
use Rattle.instr_plain.specs.declared.log.LogEntry.{LogEntry}
use Rattle.tmc_law.specs.Endpoint.{Endpoint, Control, BulkOut, BulkIn, InterruptIn, packet_size}
use Rattle.tmc_law.specs.State.{State, Pending, Transfer, Waiting, Side, Idle, Owed, Sending, Running, Nothing, AbortsOut, AbortsIn, Clears, start, arrived, queue_of, with_queue}
use Rattle.tmc_law.specs.Put.{Put}
use Rattle.tmc_law.specs.Logging.{Logs}
use Rattle.tmc_law.specs.Halts.{halts, HaltsItself, DoesHalt}
use Rattle.tmc_law.specs.Queues.{Arrives, Queued, TurnedAway, Unlinks, Hits, Polled, Misses}
use Rattle.tmc_law.specs.BulkOut as out
use Rattle.tmc_law.specs.BulkOut.{wants, packets_of}
use Rattle.tmc_law.specs.BulkIn as «in»
use Rattle.tmc_law.specs.Aborts as aborts
use Rattle.tmc_law.specs.Aborts.{Served, cut}
use Rattle.tmc_law.specs.Status as status
use Rattle.tmc_law.specs.Class as class
use Rattle.tmc_law.specs.Standard.{Standard, ClearHalt, SetConfiguration, SetInterface, standard_effect}
use Rattle.tmc_law.specs.Step.{Move, Comes, Refuses, Take, Exec, Begin, Fill, Answer, Pend, Poll, Notify, Halt, Unplug, Leads}
use Rattle.tmc_law.specs.Run.{Entry, Runs}
use Rattle.tmc_law.specs.Reached.{IsFresh, AreFresh, FirstBegins, IsMessage, GoesOn, IsOrderly, IsInOrder}
use Rattle.tmc_law.specs.Acts.{Sized, FitsAt}
use Rattle.tmc_law.specs.Reached.{AllFit}
use Rattle.tmc_law.proofs.Queued.{IsSound}
use Rattle.tmc_law.proofs.Reaching.{IsReached, reached_step, reached_start, AllFirst}

-- ---- states that are alike in this

record Alike (s t : State) : Type 0 where
  queue : t.bulk_out ≡ s.bulk_out
  transfer : t.transfer ≡ s.transfer
  part : t.part ≡ s.part
  waiting : t.waiting ≡ s.waiting
  side : t.side ≡ s.side

alike : (s t : State) → Alike s t → IsInOrder s → IsInOrder t
alike s t a h =
    subst (λ (x : List Pending). IsOrderly x t.transfer t.part t.waiting t.side) (sym a.queue)
    (subst (λ (x : Option Transfer). IsOrderly s.bulk_out x t.part t.waiting t.side) (sym a.transfer)
    (subst (λ (x : List ℕ). IsOrderly s.bulk_out s.transfer x t.waiting t.side) (sym a.part)
    (subst (λ (x : Option Waiting). IsOrderly s.bulk_out s.transfer s.part x t.side) (sym a.waiting)
    (subst (λ (x : Side). IsOrderly s.bulk_out s.transfer s.part s.waiting x) (sym a.side) h))))

same : (s : State) → Alike s s
same s = record { queue = refl; transfer = refl; part = refl; waiting = refl; side = refl }

logged : (entry : LogEntry) (s t : State) → Logs entry s t → Alike s t
logged entry s t logs = record {
  queue = ap (λ (x : State). x.bulk_out) logs.is;
  transfer = ap (λ (x : State). x.transfer) logs.is;
  part = ap (λ (x : State). x.part) logs.is;
  waiting = ap (λ (x : State). x.waiting) logs.is;
  side = ap (λ (x : State). x.side) logs.is;
}

-- the state is known
to : (s t : State) → t ≡ s → IsInOrder s → IsInOrder t
to s t is h = subst (λ (x : State). IsInOrder x) (sym is) h

abbrev from : Option Transfer → Transfer → Transfer
from None other = other
from (Some transfer) other = transfer

some_is : (a b : Transfer) → (let o : Option Transfer = Some a in o) ≡ Some b → a ≡ b
some_is a b e = ap (λ (o : Option Transfer). from o a) e

none_some : {A B : Type 0} (a : A) → (let o : Option A = None in o) ≡ Some a → B
none_some a e = absurd (cc)

-- ---- changes

-- a queue whose first submit has not begun
fresh_goes : (queue : List Pending) (transfer : Option Transfer) → AreFresh queue → GoesOn queue transfer
fresh_goes [] transfer h = tt
fresh_goes (first ∷ queue) transfer h = λ begun. absurd (begun h.0.0)

-- no Bulk-OUT transfer is in progress
settled : (queue : List Pending) (transfer : Option Transfer) (part : List ℕ) (waiting : Option Waiting) (side : Side) → AreFresh queue → transfer ≡ None
    → ((message : Waiting) → waiting ≡ Some message → part ≡ []) → (side ≢ Idle → (part ≡ []) × (waiting ≡ None)) → IsOrderly queue transfer part waiting side
settled queue transfer part waiting side fresh none waits busy = record {
  waits = λ message is. (waits message is, none);
  busy = λ not_idle. let h = busy not_idle in (h.0, none, h.1);
  wanting = λ under_way is. none_some under_way (sym none ∙ is);
  goes_on = fresh_goes queue transfer fresh;
}

-- Bulk-OUT halts
dropped : (queue : List Pending) (transfer : Option Transfer) (part : List ℕ) (waiting : Option Waiting) (side : Side) → IsOrderly queue transfer part waiting side → IsOrderly [] None [] waiting side
dropped queue transfer part waiting side h = settled [] None [] waiting side tt refl (λ message is. refl) (λ not_idle. (refl, (h.busy not_idle).2))

-- the side is idle now, or was not idle before
with_side : (queue : List Pending) (transfer : Option Transfer) (part : List ℕ) (waiting : Option Waiting) (side other : Side) → (other ≢ Idle → side ≢ Idle) → IsOrderly queue transfer part waiting side
    → IsOrderly queue transfer part waiting other
with_side queue transfer part waiting side other was h = record { waits = h.waits; busy = λ not_idle. h.busy (was not_idle); wanting = h.wanting; goes_on = h.goes_on }

goes_queue : (queue : List Pending) (transfer : Option Transfer) (part : List ℕ) (waiting : Option Waiting) (side : Side) (other : List Pending) → GoesOn other transfer → IsOrderly queue transfer part waiting side
    → IsOrderly other transfer part waiting side
goes_queue queue transfer part waiting side other goes h = record { waits = h.waits; busy = h.busy; wanting = h.wanting; goes_on = goes }

idle_not : {A : Type 0} → (let x : Side = Idle in x) ≢ Idle → A
idle_not h = absurd (h refl)

owed_not : (tag size : ℕ) → Owed tag size ≡ Idle → ⊥
owed_not tag size e = cc

sending_not : (piece : _) → Sending piece ≡ Idle → ⊥
sending_not piece e = cc

halted : (e : Endpoint) (s : State) → IsInOrder s → IsInOrder (halts e s)
halted Control s h = h
halted BulkOut s h = dropped s.bulk_out s.transfer s.part s.waiting s.side h
halted BulkIn s h = with_side s.bulk_out s.transfer s.part s.waiting s.side Idle (λ no_idle. idle_not no_idle) h
halted InterruptIn s h = h

-- ---- queues

goes_more : (queue : List Pending) (transfer : Option Transfer) (last : Pending) → IsFresh last → GoesOn queue transfer → GoesOn (queue ++ last ∷ []) transfer
goes_more [] transfer last fresh h = λ begun. absurd (begun fresh.0)
goes_more (first ∷ queue) transfer last fresh h = h

goes_without : (before : List Pending) (submit : Pending) (behind : List Pending) (transfer : Option Transfer) → FirstBegins (before ++ submit ∷ behind) → GoesOn (before ++ submit ∷ behind) transfer
    → GoesOn (before ++ behind) transfer
goes_without [] submit behind transfer first h = fresh_goes behind transfer first
goes_without (x ∷ before) submit behind transfer first h = h

arrives : (s t : State) (head : SubmitHead) (transferred : List ℕ) (puts : List Put) → IsInOrder s → Arrives s head transferred puts t → IsInOrder t
arrives s t head transferred puts h (TurnedAway none put is) = to s t is h
arrives s t head transferred puts h (Queued e taken put is) = to (with_queue e (queue_of e s ++ arrived head transferred ∷ []) s) t is (by e)
  where
    by : (e : Endpoint) → IsInOrder (with_queue e (queue_of e s ++ arrived head transferred ∷ []) s)
    by Control = h
    by BulkOut =
        goes_queue s.bulk_out s.transfer s.part s.waiting s.side (s.bulk_out ++ arrived head transferred ∷ []) (goes_more s.bulk_out s.transfer (arrived head transferred) (refl, refl) h.goes_on) h
    by BulkIn = h
    by InterruptIn = h

leaves : (e : Endpoint) (s : State) (before : List Pending) (submit : Pending) (behind : List Pending) → AllFirst s → queue_of e s ≡ before ++ submit ∷ behind → IsInOrder s
    → IsInOrder (with_queue e (before ++ behind) s)
leaves Control s before submit behind first queue h = h
leaves BulkOut s before submit behind first queue h =
    goes_queue s.bulk_out s.transfer s.part s.waiting s.side (before ++ behind)
    (goes_without before submit behind s.transfer (subst (λ (q : List Pending). FirstBegins q) queue (first BulkOut)) (subst (λ (q : List Pending). GoesOn q s.transfer) queue h.goes_on)) h
leaves BulkIn s before submit behind first queue h = h
leaves InterruptIn s before submit behind first queue h = h

unlinks : (s t : State) (head : UnlinkHead) (puts : List Put) → AllFirst s → IsInOrder s → Unlinks s head puts t → IsInOrder t
unlinks s t head puts first h (Hits e before submit behind queue target fresh put is) = to _ t is (leaves e s before submit behind first queue h)
unlinks s t head puts first h (Polled e before submit behind setup tag queue target polled asks row put is) = to _ t is (leaves e s before submit behind first queue h)
unlinks s t head puts first h (Misses avoids put is) = to s t is h

-- ---- what takes effect

interrupts : (s t : State) → out.Interrupts s t → Alike s t
interrupts s t (out.Dropped part some logs) = logged _ s t logs
interrupts s t (out.NothingUnread none is) = subst (λ (x : State). Alike s x) (sym is) (same s)
interrupts s t (out.LaterPart part is) = subst (λ (x : State). Alike s x) (sym is) (same s)

none_waits : {A : Type 0} (w : Option Waiting) (message : Waiting) → w ≡ None → w ≡ Some message → A
none_waits w message none some = none_some message (sym none ∙ some)

-- no transfer is in progress, and no message waits
effect : (seq : ℕ) (transfer : Transfer) (w t : State) → AreFresh w.bulk_out → w.transfer ≡ None → w.waiting ≡ None → (w.side ≢ Idle → ⊥)
    → ((tag size : ℕ) → transfer.header ≡ Request tag size → w.part ≡ []) → out.TakesEffect seq transfer w t → IsInOrder t
effect seq transfer w t fresh none free idle inside (out.Part tag size message mid header text first is) =
    let a = interrupts w mid first in
    to (record mid { part = mid.part ++ message }) t is
    (settled mid.bulk_out mid.transfer (mid.part ++ message) mid.waiting mid.side (subst (λ (q : List Pending). AreFresh q) (sym a.queue) fresh) (a.transfer ∙ none)
    (λ x some. none_waits mid.waiting x (a.waiting ∙ free) some) (λ not_idle. absurd (idle (subst (λ (x : Side). x ≢ Idle) a.side not_idle))))
effect seq transfer w t fresh none free idle inside (out.Last tag size message mid header text first is) =
    let a = interrupts w mid first in
    to (record mid { part = []; waiting = Some (record { seq = seq; message = mid.part ++ message }) }) t is
    (settled mid.bulk_out mid.transfer [] (Some (record { seq = seq; message = mid.part ++ message })) mid.side (subst (λ (q : List Pending). AreFresh q) (sym a.queue) fresh) (a.transfer ∙ none)
    (λ x some. refl) (λ not_idle. absurd (idle (subst (λ (x : Side). x ≢ Idle) a.side not_idle))))
effect seq transfer w t fresh none free idle inside (out.Requests tag size header some is) =
    to (record w { side = Owed tag size }) t is
    (settled w.bulk_out w.transfer w.part w.waiting (Owed tag size) fresh none (λ x waits. none_waits w.waiting x free waits) (λ not_idle. (inside tag size header, free)))
effect seq transfer w t fresh none free idle inside (out.RequestsNothing tag size header empty logs) =
    alike (record w { side = Owed tag size }) t (logged _ (record w { side = Owed tag size }) t logs)
    (settled w.bulk_out w.transfer w.part w.waiting (Owed tag size) fresh none (λ x waits. none_waits w.waiting x free waits) (λ not_idle. (inside tag size header, free)))
effect seq transfer w t fresh none free idle inside (out.Triggers tag header logs) =
    alike w t (logged _ w t logs)
    (settled w.bulk_out w.transfer w.part w.waiting w.side fresh none (λ x waits. none_waits w.waiting x free waits) (λ not_idle. absurd (idle not_idle)))

-- ---- packets of Bulk-OUT

one_byte : (l : List ℕ) → l ≢ [] → 1 ≤ length l
one_byte [] h = absurd (h refl)
one_byte (x ∷ l) h = omega arith

no_byte : (l : List ℕ) → length l ≡ 0 → l ≡ []
no_byte [] h = refl
no_byte (x ∷ l) h = absurd (omega (arith, h))

head_long : (header : OutHeader) (head : List ℕ) → IsOutHeader header head → length head ≡ 12
head_long (Message tag size eom) head is = ap (λ (l : List ℕ). length l) is.layout
head_long (Request tag size) head is = ap (λ (l : List ℕ). length l) is.layout
head_long (Trigger tag) head is = ap (λ (l : List ℕ). length l) is.layout ∙ omega (arith, is.eight)

-- a Bulk-IN transfer in progress lets no packet in
idle_side : (s : State) (submit : Pending) (transfer : Transfer) → IsInOrder s → out.Belongs s submit transfer → s.side ≢ Idle → ⊥
idle_side s submit transfer h (out.InProgress some) busy = none_some transfer (sym (h.busy busy).1 ∙ some)
idle_side s submit transfer h (out.Begun header none good is begun) busy = good (out.BulkInBusy busy)

-- a request is not inside a message
request_inside : (s : State) (submit : Pending) (transfer : Transfer) (tag size : ℕ) → IsInOrder s → out.Belongs s submit transfer → transfer.header ≡ Request tag size → s.part ≡ []
request_inside s submit transfer tag size h (out.InProgress some) is = absurd (subst (λ (x : OutHeader). IsMessage x) is (h.wanting transfer some).0)
request_inside s submit transfer tag size h (out.Begun header none good heads begun) is = by s.part (λ inside. good (out.RequestInside tag size (subst (λ (x : OutHeader). IsOutHeader x (take header_size submit.left)) own heads) inside))
  where
    own : header ≡ Request tag size
    own = sym (ap (λ (x : Transfer). x.header) begun) ∙ is

    by : (part : List ℕ) → (part ≢ [] → ⊥) → part ≡ []
    by [] never = refl
    by (x ∷ part) never = absurd (never (λ e. clash x part e))
      where
        clash : (x : ℕ) (part : List ℕ) → x ∷ part ≡ [] → ⊥
        clash x part e = cc

-- a submit that is taken has no more bytes than its transfer wants
no_more : (s : State) (submit : Pending) (behind : List Pending) (transfer : Transfer) → IsInOrder s → s.bulk_out ≡ submit ∷ behind → length submit.moved + length submit.left ≡ submit.head.length
    → ¬ out.Spoils s submit → out.Belongs s submit transfer → length submit.left ≤ wants transfer
no_more s submit behind transfer h queue sized fine belongs = by submit.moved refl (subst (λ (q : List Pending). GoesOn q s.transfer) queue h.goes_on)
  where
    go : out.Belongs s submit transfer → (under_way : Transfer) → s.transfer ≡ Some under_way → length submit.left ≤ wants under_way → length submit.left ≤ wants transfer
    go (out.InProgress some) under_way is k = subst (λ (x : Transfer). length submit.left ≤ wants x) (some_is under_way transfer (sym is ∙ some)) k
    go (out.Begun header none good heads begun) under_way is k = none_some under_way (sym none ∙ is)

    fits : (wants transfer < submit.head.length) ⊎ (submit.head.length ≤ wants transfer) → submit.moved ≡ [] → length submit.left ≤ wants transfer
    fits (inl more) none = absurd (fine (out.ByLength transfer belongs none (inl more)))
    fits (inr most) none = omega (arith, most, sized)

    by : (moved : List ℕ) → submit.moved ≡ moved → GoesOn (submit ∷ behind) s.transfer → length submit.left ≤ wants transfer
    by [] none goes = fits (cases_lt (wants transfer) submit.head.length) none
    by (x ∷ moved) some goes = let k = goes (λ e. clash (sym some ∙ e)) in go belongs k.0 k.1 k.2
      where
        clash : x ∷ moved ≡ [] → ⊥
        clash e = cc

-- so many bytes of a submit go into its transfer
abbrev grows : Transfer → ℕ → List ℕ → Transfer
grows transfer n left = record transfer { taken = transfer.taken ++ take n left }

wants_less : (transfer : Transfer) (n : ℕ) (left : List ℕ) → n ≤ length left → length left ≤ wants transfer → wants (grows transfer n left) + n ≡ wants transfer
wants_less transfer n left low high = omega (arith, low, high, length-append transfer.taken (take n left), length-take n left)

-- a transfer that goes on is of a message
message_goes : (header : OutHeader) (n : ℕ) (left : List ℕ) → IsOutHeader header (take 12 left) → 64 ≤ n → length left ≤ wants (record { header = header; taken = [] })
    → (drop n left ≢ []) ⊎ (wants (grows (record { header = header; taken = [] }) n left) ≢ 0) → IsMessage header
message_goes (Message tag size eom) n left is most fits more = tt
message_goes (Request tag size) n left is most fits (inl more) = absurd (more (no_byte (drop n left) (omega (arith, most, fits, length-drop n left))))
message_goes (Request tag size) n left is most fits (inr more) = absurd (more (omega (arith, most, fits, head_long (Request tag size) (take 12 left) is, length-take 12 left, length-take n left)))
message_goes (Trigger tag) n left is most fits (inl more) = absurd (more (no_byte (drop n left) (omega (arith, most, fits, length-drop n left))))
message_goes (Trigger tag) n left is most fits (inr more) = absurd (more (omega (arith, most, fits, head_long (Trigger tag) (take 12 left) is, length-take 12 left, length-take n left)))

is_message : (s : State) (submit : Pending) (transfer : Transfer) (n : ℕ) → IsInOrder s → out.Belongs s submit transfer → 64 ≤ n → length submit.left ≤ wants transfer
    → (drop n submit.left ≢ []) ⊎ (wants (grows transfer n submit.left) ≢ 0) → IsMessage transfer.header
is_message s submit transfer n h (out.InProgress some) most fits more = (h.wanting transfer some).0
is_message s submit transfer n h (out.Begun header none good heads begun) most fits more =
    subst (λ (x : Transfer). IsMessage x.header) (sym begun)
    (message_goes header n submit.left heads most (subst (λ (x : Transfer). length submit.left ≤ wants x) begun fits)
    (subst (λ (x : Transfer). (drop n submit.left ≢ []) ⊎ (wants (grows x n submit.left) ≢ 0)) begun more))

out_sized : (submit : Pending) → FitsAt BulkOut submit → length submit.moved + length submit.left ≡ submit.head.length
out_sized submit h = subst (λ (d : Dir). Sized d submit) h.way h.sized

first_fits : (s : State) (submit : Pending) (behind : List Pending) → IsSound s → s.bulk_out ≡ submit ∷ behind → FitsAt BulkOut submit
first_fits s submit behind whole queue = (subst (λ (q : List Pending). AllFit BulkOut q) queue (whole.fits BulkOut)).0

-- the transfer goes on
goes : (s : State) (queue : List Pending) (grown : Transfer) → s.waiting ≡ None → (s.side ≢ Idle → ⊥) → IsMessage grown.header → wants grown ≢ 0 → GoesOn queue (Some grown) → IsOrderly queue (Some grown) s.part s.waiting s.side
goes s queue grown free idle message more goes_on = record {
  waits = λ x waits. none_waits s.waiting x free waits;
  busy = λ not_idle. absurd (idle not_idle);
  wanting = λ x is. subst (λ (y : Transfer). IsMessage y.header × (wants y ≢ 0)) (some_is grown x is) (message, more);
  goes_on = goes_on;
}

takes : (s t : State) (count : ℕ) (puts : List Put) → IsReached s → IsInOrder s → s.waiting ≡ None → out.Takes s count puts t → IsInOrder t
takes s t count puts r h free (out.Empty submit behind queue none one put is) =
    to (record s { bulk_out = behind }) t is
    (goes_queue s.bulk_out s.transfer s.part s.waiting s.side behind (fresh_goes behind s.transfer (subst (λ (q : List Pending). FirstBegins q) queue (r.first BulkOut))) h)
takes s t count puts r h free (out.Spoiled submit behind queue some low high spoils put is) = to (halts BulkOut s) t is (halted BulkOut s h)
takes s t count puts r h free (out.Inside submit later behind transfer grown queue some low fine belongs (out.DoesMove later_is grown_is) more put is) =
    to (record s { bulk_out = later ∷ behind; transfer = Some grown }) t is
    (subst (λ (x : Pending). IsOrderly (x ∷ behind) (Some grown) s.part s.waiting s.side) (sym later_is)
    (subst (λ (x : Transfer). IsOrderly (moved ∷ behind) (Some x) s.part s.waiting s.side) (sym grown_is)
    (goes s (moved ∷ behind) (grows transfer n submit.left) free (idle_side s submit transfer h belongs)
    (is_message s submit transfer n h belongs (omega (arith, low)) room (inl left)) (λ none. omega (arith, none, wanted, rest, bytes, room))
    (λ begun. (grows transfer n submit.left, refl, omega (arith, wanted, rest, room))))))
  where
    n : ℕ
    n = count * packet_size

    moved : Pending
    moved = record submit { left = drop (count * packet_size) submit.left; moved = submit.moved ++ take (count * packet_size) submit.left }

    left : drop (count * packet_size) submit.left ≢ []
    left = λ e. more (ap (λ (x : Pending). x.left) later_is ∙ e)

    rest : length (drop (count * packet_size) submit.left) ≡ length submit.left - (count * packet_size)
    rest = length-drop (count * packet_size) submit.left

    bytes : 1 ≤ length (drop (count * packet_size) submit.left)
    bytes = one_byte (drop (count * packet_size) submit.left) left

    room : length submit.left ≤ wants transfer
    room = no_more s submit behind transfer h queue (out_sized submit (first_fits s submit behind r.whole queue)) fine belongs

    wanted : wants (grows transfer (count * packet_size) submit.left) + (count * packet_size) ≡ wants transfer
    wanted = wants_less transfer (count * packet_size) submit.left (omega (arith, rest, bytes)) room
takes s t count puts r h free (out.SubmitEnds submit later behind transfer grown queue some all fine belongs (out.DoesMove later_is grown_is) more put is) =
    to (record s { bulk_out = behind; transfer = Some grown }) t is
    (goes s behind grown free (idle_side s submit transfer h belongs)
    (subst (λ (x : Transfer). IsMessage x.header) (sym grown_is)
    (is_message s submit transfer (count * packet_size) h belongs (omega (arith, all)) room (inr (λ none. more (ap (λ (x : Transfer). wants x) grown_is ∙ none)))))
    more (fresh_goes behind (Some grown) (subst (λ (q : List Pending). FirstBegins q) queue (r.first BulkOut))))
  where
    room : length submit.left ≤ wants transfer
    room = no_more s submit behind transfer h queue (out_sized submit (first_fits s submit behind r.whole queue)) fine belongs
takes s t count puts r h free (out.TransferEnds submit later behind transfer grown queue some all fine belongs (out.DoesMove later_is grown_is) done take_effect put) =
    effect submit.head.seqnum grown (record s { bulk_out = behind; transfer = None }) t (subst (λ (q : List Pending). FirstBegins q) queue (r.first BulkOut)) refl free (idle_side s submit transfer h belongs)
    (λ tag size is. request_inside s submit transfer tag size h belongs (sym (ap (λ (x : Transfer). x.header) grown_is) ∙ is)) take_effect

-- ---- the other moves

executes : (s t : State) → IsInOrder s → out.Executes s t → IsInOrder t
executes s t h (out.DoesExecute seq message waits logs) =
    alike (record s { waiting = None }) t (logged _ (record s { waiting = None }) t logs)
    (record { waits = λ x some. none_some x some; busy = λ not_idle. let k = h.busy not_idle in (k.0, k.1, refl); wanting = h.wanting; goes_on = h.goes_on })

begins : (s t : State) (count : ℕ) → IsInOrder s → «in».Begins s count t → IsInOrder t
begins s t count h («in».DoesBegin tag size owes free low high logs) =
    alike (record s { side = _ }) t (logged _ _ t logs)
    (with_side s.bulk_out s.transfer s.part s.waiting s.side _ (λ not_idle e. owed_not tag size (sym owes ∙ e)) h)

fills : (s t : State) (count : ℕ) (puts : List Put) → IsInOrder s → «in».Fills s count puts t → IsInOrder t
fills s t count puts h («in».Ends submit behind n queue runs one put is) = to _ t is (with_side s.bulk_out s.transfer s.part s.waiting s.side Idle (λ no_idle. idle_not no_idle) h)
fills s t count puts h («in».Inside submit behind piece queue sends free low inside fits put is) =
    to _ t is (with_side s.bulk_out s.transfer s.part s.waiting s.side _ (λ not_idle e. sending_not piece (sym sends ∙ e)) h)
fills s t count puts h («in».Full submit behind piece queue sends free low inside fits put is) =
    to _ t is (with_side s.bulk_out s.transfer s.part s.waiting s.side _ (λ not_idle e. sending_not piece (sym sends ∙ e)) h)
fills s t count puts h («in».Short submit behind piece full queue sends free counts leaves inside less fits put is) =
    to _ t is (with_side s.bulk_out s.transfer s.part s.waiting s.side Idle (λ no_idle. idle_not no_idle) h)
fills s t count puts h («in».Overflows submit behind piece full queue sends free counts leaves inside over put is) = to (halts BulkIn s) t is (halted BulkIn s h)

-- ---- control requests

check_out : (s : State) (r : Running) → IsInOrder s → IsInOrder (aborts.checked_out (record s { running = r })).state
check_out s Nothing h = h
check_out s AbortsOut h = h
check_out s (AbortsIn wanting given) h = h
check_out s Clears h = h

check_in : (s : State) (r : Running) → IsInOrder s → IsInOrder (aborts.checked_in (record s { running = r })).state
check_in s Nothing h = h
check_in s AbortsOut h = h
check_in s (AbortsIn true given) h = h
check_in s (AbortsIn false given) h = h
check_in s Clears h = h

check_clear : (s : State) (r : Running) → IsInOrder s → IsInOrder (aborts.checked_clear (record s { running = r })).state
check_clear s Nothing h = h
check_clear s AbortsOut h = h
check_clear s (AbortsIn wanting given) h = h
check_clear s Clears h = h

served : (a b : Served) → a ≡ b → IsInOrder b.state → IsInOrder a.state
served a b is h = subst (λ (v : Served). IsInOrder v.state) (sym is) h

abort_out : (tag : ℕ) (s : State) (v : Served) → IsInOrder s → aborts.AbortsBulkOut tag s v → IsInOrder v.state
abort_out tag s v h (aborts.NotBegun layout declined is) = served v _ is h
abort_out tag s v h (aborts.DoesAbort nothing runs is) = served v _ is (dropped s.bulk_out s.transfer s.part s.waiting s.side h)

cut_not : (side : Side) → cut side ≢ Idle → side ≢ Idle
cut_not Idle h = h
cut_not (Owed tag size) h = owed_not tag size
cut_not (Sending piece) h = sending_not piece

abort_in : (tag : ℕ) (s : State) (v : Served) → IsInOrder s → aborts.AbortsBulkIn tag s v → IsInOrder v.state
abort_in tag s v h (aborts.NotBegun layout declined is) = served v _ is h
abort_in tag s v h (aborts.DoesAbort nothing runs is) = served v _ is (with_side s.bulk_out s.transfer s.part s.waiting s.side (cut s.side) (cut_not s.side) h)

clears : (s : State) (v : Served) → IsInOrder s → aborts.ClearsAll s v → IsInOrder v.state
clears s v h (aborts.DoesClear t logs is) =
    served v _ is (alike (aborts.cleared s) t (logged _ (aborts.cleared s) t logs) (settled [] None [] None Idle tt refl (λ x some. none_some x some) (λ no_idle. idle_not no_idle)))

polls_alike : (seq tag : ℕ) (s t : State) → IsInOrder s → status.Polls seq tag s t → IsInOrder t
polls_alike seq tag s t h (status.DoesPoll mid logs is) = to _ t is (alike s mid (logged _ s mid logs) h)

reads_status : (tag : ℕ) (submit : Pending) (s : State) (v : Served) → IsInOrder s → status.ReadsStatus tag submit s v → IsInOrder v.state
reads_status tag submit s v h (status.BadTag bad is) = served v _ is h
reads_status tag submit s v h (status.PolledBefore good before is) = served v _ is h
reads_status tag submit s v h (status.Busy good fresh queued is) = served v _ is h
reads_status tag submit s v h (status.PolledNow t good fresh free polls is) = served v _ is (polls_alike _ tag s t h polls)

operates : (act : _) (s : State) (v : Served) → IsInOrder s → class.Operates act s v → IsInOrder v.state
operates act s v h (class.DoesOperate t logs is) = served v _ is (alike s t (logged _ s t logs) h)

serves : (request : ClassRequest) (submit : Pending) (s : State) (v : Served) → IsInOrder s → class.Serves request submit s v → IsInOrder v.state
serves (AbortOut tag) submit s v h k = abort_out tag s v h k
serves CheckOut submit s v h k = served v _ k (check_out s s.running h)
serves (AbortIn tag) submit s v h k = abort_in tag s v h k
serves CheckIn submit s v h k = served v _ k (check_in s s.running h)
serves Clear submit s v h k = clears s v h k
serves CheckClear submit s v h k = served v _ k (check_clear s s.running h)
serves Capabilities submit s v h k = served v _ k h
serves Pulse submit s v h k = served v _ k h
serves (ReadStatus tag) submit s v h k = reads_status tag submit s v h k
serves (Ren true) submit s v h k = operates _ s v h k
serves (Ren false) submit s v h k = operates _ s v h k
serves GoLocal submit s v h k = operates _ s v h k
serves Lockout submit s v h k = operates _ s v h k

standard : (request : Standard) (s : State) → IsInOrder s → IsInOrder (standard_effect request s)
standard (ClearHalt Control) s h = h
standard (ClearHalt BulkOut) s h = h
standard (ClearHalt BulkIn) s h = h
standard (ClearHalt InterruptIn) s h = h
standard SetConfiguration s h = h
standard SetInterface s h = h
standard _ s h = h

answers : (s t : State) (puts : List Put) → IsInOrder s → class.Answers s puts t → IsInOrder t
answers s t puts h (class.ByClass submit behind setup request v queue asks row serving put is) = to v.state t is (serves request submit (record s { control = behind }) v h serving)
answers s t puts h (class.ByStandard submit behind setup request queue asks row put is) = to _ t is (standard request (record s { control = behind }) h)
answers s t puts h (class.Unknown submit behind setup queue asks unknown put is) = to _ t is h

-- ---- all moves

pub order_goes : (s t : State) (move : Move) (puts : List Put) → IsReached s → IsInOrder s → Leads s move puts t → IsInOrder t
order_goes s t (Comes (up.Submit head transferred)) puts r h k = arrives s t head transferred puts h k.3
order_goes s t (Comes (up.Unlink head)) puts r h k = unlinks s t head puts r.first h k.1
order_goes s t (Refuses devid bytes f) puts r h k = to _ t k.2 h
order_goes s t (Take count) puts r h k = takes s t count puts r h k.0 k.1
order_goes s t Exec puts r h k = executes s t h k.0
order_goes s t (Begin count) puts r h k = begins s t count h k.0
order_goes s t (Fill count) puts r h k = fills s t count puts h k
order_goes s t Answer puts r h k = answers s t puts h k
order_goes s t Pend puts r h k = pends k
  where
    pends : class.Postpones s puts t → IsInOrder t
    pends (class.DoesPostpone submit behind setup request layout queue asks row stays put is) = to _ t is h
order_goes s t Poll puts r h k = polls k.0
  where
    polls : class.PollsFirst s t → IsInOrder t
    polls (class.DoesPollFirst submit behind setup tag queue asks row good fresh free polling) = polls_alike _ tag _ t h polling
order_goes s t Notify puts r h k = notifies k
  where
    notifies : status.Notifies s puts t → IsInOrder t
    notifies (status.Gives submit behind packet packets queue there long put is) = to _ t is h
    notifies (status.NoRoom submit behind packet packets queue there short put is) = to (halts InterruptIn s) t is (halted InterruptIn s h)
order_goes s t (Halt e) puts r h k = itself k
  where
    itself : HaltsItself s e puts t → IsInOrder t
    itself (DoesHalt other usable put is) = to (halts e s) t is (halted e s h)
order_goes s t Unplug puts r h k = to _ t k.is (goes_queue s.bulk_out s.transfer s.part s.waiting s.side [] tt h)

order_start : IsInOrder start
order_start = settled [] None [] None Idle tt refl (λ x some. none_some x some) (λ no_idle. idle_not no_idle)

order_run : (s : State) (run : List Entry) (t : State) → IsReached s → IsInOrder s → Runs s run t → IsInOrder t
order_run s [] t r h is = to s t is h
order_run s (entry ∷ run) t r h goes = order_run goes.0 run t (reached_step s entry.move entry.puts goes.0 r goes.1) (order_goes s goes.0 entry.move entry.puts r h goes.1.leads) goes.2

pub in_order : (run : List Entry) (s : State) → Runs start run s → IsInOrder s
in_order run s goes = order_run start run s reached_start order_start goes
