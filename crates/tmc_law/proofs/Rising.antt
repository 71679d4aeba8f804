-- the numbers of what took effect, what waits, and what is pending or comes on Bulk-OUT rise, and stay so under each move
use Rattle.std.proofs.Common.{◌≡◌, ◌∙◌, ◌⊎◌, inl, inr, ℕ, Bool, true, false, cond, eqb, List, [], ◌∷◌, ◌++◌, Option, Some, None, refl, ap, sym, subst, append_assoc, append-nil}
use Rattle.std.proofs.lemmas.Bool.{eq-eqb}
use Rattle.usbip_wire.specs.declared.submit.SubmitHead.{SubmitHead}
use Rattle.usbip_wire.specs.Up as up
use Rattle.tmc_wire.specs.declared.class_request.ClassRequest.{ClassRequest}
use Rattle.tmc_wire.specs.declared.class_request.ClassRequest.TheVariants.{AbortOut, CheckOut, AbortIn, CheckIn, Clear, CheckClear, Capabilities, Pulse, ReadStatus, Ren, GoLocal, Lockout}
use Rattle.instr_plain.specs.declared.log.LogEntry.{LogEntry}
use Rattle.instr_plain.specs.declared.log.LogEntry.TheVariants as entry
use Rattle.tmc_law.specs.Endpoint.{Endpoint, Control, BulkOut, BulkIn, InterruptIn, number_of}
use Rattle.tmc_law.specs.State.{State, Pending, Transfer, Waiting, Running, Owed, Nothing, AbortsOut, AbortsIn, Clears, arrived, queue_of, with_queue, with_halt}
use Rattle.tmc_law.specs.Put.{Put}
use Rattle.tmc_law.specs.Halts.{halts, HaltsItself, DoesHalt}
use Rattle.tmc_law.specs.Queues.{Arrives, Queued, TurnedAway, Unlinks, Hits, Polled, Misses}
use Rattle.tmc_law.specs.BulkOut as out
use Rattle.tmc_law.specs.BulkIn as «in»
use Rattle.tmc_law.specs.Aborts as aborts
use Rattle.tmc_law.specs.Aborts.{Served}
use Rattle.tmc_law.specs.Status as status
use Rattle.tmc_law.specs.Class as class
use Rattle.tmc_law.specs.Standard.{Standard, ClearHalt, SetConfiguration, SetInterface, standard_effect}
use Rattle.tmc_law.specs.Logging.{Logs}
use Rattle.tmc_law.specs.Step.{Move, Comes, Refuses, Take, Exec, Begin, Fill, Answer, Pend, Poll, Notify, Halt, Unplug, Leads, Steps}
use Rattle.tmc_law.specs.Run.{Entry, Runs, taken, inputs}
use Rattle.tmc_law.specs.Numbers.{AllAbove, AllBelow, Rises, effect_of, effects, waits, numbers_of, coming_out, numbers}

-- ---- lists of numbers_with

abbrev Sub : List ℕ → List ℕ → Type 0
Sub a [] = a ≡ []
Sub a (y ∷ b) = Sub a b ⊎ ((rest : List ℕ) × (a ≡ y ∷ rest) × Sub rest b)

sub_self : (l : List ℕ) → Sub l l
sub_self [] = refl
sub_self (x ∷ l) = inr (l, refl, sub_self l)

sub_none : (l : List ℕ) → Sub [] l
sub_none [] = refl
sub_none (x ∷ l) = inl (sub_none l)

sub_append : (a b c d : List ℕ) → Sub a b → Sub c d → Sub (a ++ c) (b ++ d)
sub_append a [] c d h k = subst (λ (l : List ℕ). Sub (l ++ c) d) (sym h) k
sub_append a (y ∷ b) c d (inl h) k = inl (sub_append a b c d h k)
sub_append a (y ∷ b) c d (inr h) k = inr (h.0 ++ c, ap (λ (l : List ℕ). l ++ c) h.1, sub_append h.0 b c d h.2 k)

sub_trans : (a b c : List ℕ) → Sub a b → Sub b c → Sub a c
sub_trans a b [] h k = subst (λ (l : List ℕ). Sub a l) k h
sub_trans a b (z ∷ c) h (inl k) = inl (sub_trans a b c h k)
sub_trans a b (z ∷ c) h (inr k) = by (λ x y. sub_trans x k.0 c y k.2) (subst (λ (l : List ℕ). Sub a l) k.1 h)
  where
    by : ((x : List ℕ) → Sub x k.0 → Sub x c) → Sub a (z ∷ k.0) → Sub a (z ∷ c)
    by again (inl g) = inl (again a g)
    by again (inr g) = inr (g.0, g.1, again g.0 g.2)

above_sub : (n : ℕ) (a b : List ℕ) → Sub a b → AllAbove n b → AllAbove n a
above_sub n a [] h k = subst (λ (l : List ℕ). AllAbove n l) (sym h) tt
above_sub n a (y ∷ b) (inl h) k = above_sub n a b h k.1
above_sub n a (y ∷ b) (inr h) k = subst (λ (l : List ℕ). AllAbove n l) (sym h.1) (k.0, above_sub n h.0 b h.2 k.1)

rises_sub : (a b : List ℕ) → Sub a b → Rises b → Rises a
rises_sub a [] h k = subst (λ (l : List ℕ). Rises l) (sym h) tt
rises_sub a (y ∷ b) (inl h) k = rises_sub a b h k.1
rises_sub a (y ∷ b) (inr h) k = subst (λ (l : List ℕ). Rises l) (sym h.1) (above_sub y h.0 b h.2 k.0, rises_sub h.0 b h.2 k.1)

-- ---- the numbers_with of a state

abbrev tail : State → List ℕ → List ℕ
tail s rest = waits s.waiting ++ (numbers_of s.bulk_out ++ rest)

abbrev numbers_with : State → List ℕ → List ℕ
numbers_with s rest = effects s.log ++ tail s rest

abbrev Less : State → State → Type 0
Less s t = (rest : List ℕ) → Sub (numbers_with t rest) (numbers_with s rest)

effects-append : (a b : List LogEntry) → effects (a ++ b) ≡ effects a ++ effects b
effects-append [] b = refl
effects-append (x ∷ a) b = ap (λ (l : List ℕ). effect_of x ++ l) (effects-append a b) ∙ sym (append_assoc (effect_of x) (effects a) (effects b))

numbers-append : (a b : List Pending) → numbers_of (a ++ b) ≡ numbers_of a ++ numbers_of b
numbers-append [] b = refl
numbers-append (x ∷ a) b = ap (λ (l : List ℕ). x.head.seqnum ∷ l) (numbers-append a b)

less : (s t : State) → effects t.log ≡ effects s.log → Sub (waits t.waiting) (waits s.waiting) → Sub (numbers_of t.bulk_out) (numbers_of s.bulk_out) → Less s t
less s t log w q = λ rest. subst (λ (l : List ℕ). Sub (l ++ tail t rest) (numbers_with s rest)) (sym log)
    (sub_append (effects s.log) (effects s.log) (tail t rest) (tail s rest) (sub_self (effects s.log))
    (sub_append (waits t.waiting) (waits s.waiting) (numbers_of t.bulk_out ++ rest) (numbers_of s.bulk_out ++ rest) w (sub_append (numbers_of t.bulk_out) (numbers_of s.bulk_out) rest rest q (sub_self rest))))

then_less : (s m t : State) → Less s m → Less m t → Less s t
then_less s m t h k = λ rest. sub_trans (numbers_with t rest) (numbers_with m rest) (numbers_with s rest) (k rest) (h rest)

is_less : (s w t : State) → t ≡ w → Less s w → Less s t
is_less s w t is h = subst (λ (x : State). Less s x) (sym is) h

kept : (s t : State) → t.log ≡ s.log → t.waiting ≡ s.waiting → t.bulk_out ≡ s.bulk_out → Less s t
kept s t l w q = less s t (ap (λ (x : List LogEntry). effects x) l) (subst (λ (o : Option Waiting). Sub (waits o) (waits s.waiting)) (sym w) (sub_self (waits s.waiting)))
    (subst (λ (o : List Pending). Sub (numbers_of o) (numbers_of s.bulk_out)) (sym q) (sub_self (numbers_of s.bulk_out)))

longer : (l : List LogEntry) (e : LogEntry) → effect_of e ≡ [] → effects (l ++ e ∷ []) ≡ effects l
longer l e none = effects-append l (e ∷ []) ∙ ap (λ (x : List ℕ). effects l ++ (x ++ [])) none ∙ append-nil (effects l)

logs : (e : LogEntry) (s t : State) → effect_of e ≡ [] → Logs e s t → Less s t
logs e s t none l = less s t (ap (λ (x : State). effects x.log) l.is ∙ longer s.log e none)
    (subst (λ (o : Option Waiting). Sub (waits o) (waits s.waiting)) (sym (ap (λ (x : State). x.waiting) l.is)) (sub_self (waits s.waiting)))
    (subst (λ (o : List Pending). Sub (numbers_of o) (numbers_of s.bulk_out)) (sym (ap (λ (x : State). x.bulk_out) l.is)) (sub_self (numbers_of s.bulk_out)))

-- ---- Bulk-OUT

interrupts : (s t : State) → out.Interrupts s t → Less s t
interrupts s t (out.Dropped part some l) = logs entry.Interrupt s t refl l
interrupts s t (out.NothingUnread none is) = is_less s s t is (kept s s refl refl refl)
interrupts s t (out.LaterPart part is) = is_less s s t is (kept s s refl refl refl)

same_wait : (s t : State) → out.Interrupts s t → (t.waiting ≡ s.waiting) × (t.bulk_out ≡ s.bulk_out) × (effects t.log ≡ effects s.log)
same_wait s t (out.Dropped part some l) = (ap (λ (x : State). x.waiting) l.is, ap (λ (x : State). x.bulk_out) l.is, ap (λ (x : State). effects x.log) l.is ∙ longer s.log entry.Interrupt refl)
same_wait s t (out.NothingUnread none is) = (ap (λ (x : State). x.waiting) is, ap (λ (x : State). x.bulk_out) is, ap (λ (x : State). effects x.log) is)
same_wait s t (out.LaterPart part is) = (ap (λ (x : State). x.waiting) is, ap (λ (x : State). x.bulk_out) is, ap (λ (x : State). effects x.log) is)

-- the first submit is gone
gone : (submit : Pending) (behind : List Pending) (s w : State) → s.bulk_out ≡ submit ∷ behind → w.log ≡ s.log → w.waiting ≡ None → w.bulk_out ≡ behind → Less s w
gone submit behind s w line log none queue =
    less s w (ap (λ (x : List LogEntry). effects x) log) (subst (λ (o : Option Waiting). Sub (waits o) (waits s.waiting)) (sym none) (sub_none (waits s.waiting)))
    (subst (λ (q : List Pending). Sub (numbers_of w.bulk_out) (numbers_of q)) (sym line) (subst (λ (q : List Pending). Sub (numbers_of q) (numbers_of (submit ∷ behind))) (sym queue) (inl (sub_self (numbers_of behind)))))

-- what ends a transfer, from the state with its submit
effect : (submit : Pending) (behind : List Pending) (transfer : Transfer) (s w t : State) → s.waiting ≡ None → s.bulk_out ≡ submit ∷ behind → w.log ≡ s.log → w.waiting ≡ None → w.bulk_out ≡ behind
    → out.TakesEffect submit.head.seqnum transfer w t → Less s t
effect submit behind transfer s w t free line log none queue (out.Part tag size message mid header text first is) =
    then_less s w t (gone submit behind s w line log none queue) (then_less w mid t (interrupts w mid first) (is_less mid (record mid { part = mid.part ++ message }) t is (kept mid (record mid { part = mid.part ++ message }) refl refl refl)))
effect submit behind transfer s w t free line log none queue (out.Last tag size message mid header text first is) =
    let m = same_wait w mid first in
    λ rest.
    subst (λ (l : List ℕ). Sub (l ++ tail t rest) (numbers_with s rest)) (sym (ap (λ (x : State). effects x.log) is ∙ m.2 ∙ ap (λ (x : List LogEntry). effects x) log))
    (sub_append (effects s.log) (effects s.log) (tail t rest) (tail s rest) (sub_self (effects s.log))
    (subst (λ (l : List ℕ). Sub l (tail s rest)) (sym (ap (λ (x : State). tail x rest) is ∙ ap (λ (q : List Pending). submit.head.seqnum ∷ (numbers_of q ++ rest)) (m.1 ∙ queue)))
    (subst (λ (o : Option Waiting). Sub (submit.head.seqnum ∷ (numbers_of behind ++ rest)) (waits o ++ (numbers_of s.bulk_out ++ rest))) (sym free)
    (subst (λ (q : List Pending). Sub (submit.head.seqnum ∷ (numbers_of behind ++ rest)) (numbers_of q ++ rest)) (sym line) (sub_self (submit.head.seqnum ∷ (numbers_of behind ++ rest)))))))
effect submit behind transfer s w t free line log none queue (out.Requests tag size header some is) =
    then_less s w t (gone submit behind s w line log none queue) (is_less w (record w { side = Owed tag size }) t is (kept w (record w { side = Owed tag size }) refl refl refl))
effect submit behind transfer s w t free line log none queue (out.RequestsNothing tag size header empty l) =
    then_less s w t (gone submit behind s w line log none queue)
    (then_less w (record w { side = Owed tag size }) t (kept w (record w { side = Owed tag size }) refl refl refl) (logs entry.Bare (record w { side = Owed tag size }) t refl l))
effect submit behind transfer s w t free line log none queue (out.Triggers tag header l) = λ rest.
    let behind_it : tail t rest ≡ numbers_of behind ++ rest =
    ap (λ (x : State). tail x rest) l.is ∙ ap (λ (o : Option Waiting). waits o ++ (numbers_of w.bulk_out ++ rest)) none ∙ ap (λ (q : List Pending). numbers_of q ++ rest) queue in
    subst (λ (l : List ℕ). Sub (l ++ tail t rest) (numbers_with s rest))
    (sym (ap (λ (x : State). effects x.log) l.is ∙ effects-append w.log (entry.Trigger submit.head.seqnum ∷ []) ∙ ap (λ (x : List LogEntry). effects x ++ submit.head.seqnum ∷ []) log))
    (subst (λ (l : List ℕ). Sub l (numbers_with s rest)) (sym (append_assoc (effects s.log) (submit.head.seqnum ∷ []) (tail t rest)))
    (sub_append (effects s.log) (effects s.log) (submit.head.seqnum ∷ tail t rest) (tail s rest) (sub_self (effects s.log))
    (subst (λ (l : List ℕ). Sub (submit.head.seqnum ∷ l) (tail s rest)) (sym behind_it)
    (subst (λ (o : Option Waiting). Sub (submit.head.seqnum ∷ (numbers_of behind ++ rest)) (waits o ++ (numbers_of s.bulk_out ++ rest))) (sym free)
    (subst (λ (q : List Pending). Sub (submit.head.seqnum ∷ (numbers_of behind ++ rest)) (numbers_of q ++ rest)) (sym line) (sub_self (submit.head.seqnum ∷ (numbers_of behind ++ rest))))))))

-- the queue is shorter, all else is the same
shorter : (s t : State) (q : List Pending) → s.bulk_out ≡ q → t.log ≡ s.log → t.waiting ≡ s.waiting → Sub (numbers_of t.bulk_out) (numbers_of q) → Less s t
shorter s t q line l w h = less s t (ap (λ (x : List LogEntry). effects x) l) (subst (λ (o : Option Waiting). Sub (waits o) (waits s.waiting)) (sym w) (sub_self (waits s.waiting)))
    (subst (λ (p : List Pending). Sub (numbers_of t.bulk_out) (numbers_of p)) (sym line) h)

takes : (s t : State) (count : ℕ) (puts : List Put) → s.waiting ≡ None → out.Takes s count puts t → Less s t
takes s t count puts free (out.Empty submit behind line a b c is) = is_less s _ t is (shorter s (record s { bulk_out = behind }) (submit ∷ behind) line refl refl (inl (sub_self (numbers_of behind))))
takes s t count puts free (out.Spoiled submit behind line a b c d put is) = is_less s _ t is (less s (halts BulkOut s) refl (sub_self (waits s.waiting)) (sub_none (numbers_of s.bulk_out)))
takes s t count puts free (out.Inside submit after behind transfer grown line a b c d (out.DoesMove later grows) g h is) =
    is_less s _ t is (shorter s (record s { bulk_out = after ∷ behind; transfer = Some grown }) (submit ∷ behind) line refl refl
    (subst (λ (n : ℕ). Sub (n ∷ numbers_of behind) (numbers_of (submit ∷ behind))) (sym (ap (λ (p : Pending). p.head.seqnum) later)) (sub_self (numbers_of (submit ∷ behind)))))
takes s t count puts free (out.SubmitEnds submit after behind transfer grown line a b c d f g put is) =
    is_less s _ t is (shorter s (record s { bulk_out = behind; transfer = Some grown }) (submit ∷ behind) line refl refl (inl (sub_self (numbers_of behind))))
takes s t count puts free (out.TransferEnds submit after behind transfer grown line a b c d f g eff put) =
    effect submit behind grown s (record s { bulk_out = behind; transfer = None }) t free line refl free refl eff

executes : (s t : State) → out.Executes s t → Less s t
executes s t (out.DoesExecute seq message is l) = λ rest.
    subst (λ (x : State). Sub (numbers_with x rest) (numbers_with s rest)) (sym l.is)
    (subst (λ (n : List ℕ). Sub (n ++ (numbers_of s.bulk_out ++ rest)) (numbers_with s rest)) (sym (effects-append s.log (entry.Exec seq message ∷ [])))
    (subst (λ (n : List ℕ). Sub n (numbers_with s rest)) (sym (append_assoc (effects s.log) (seq ∷ []) (numbers_of s.bulk_out ++ rest)))
    (subst (λ (o : Option Waiting). Sub (effects s.log ++ (seq ∷ (numbers_of s.bulk_out ++ rest))) (effects s.log ++ (waits o ++ (numbers_of s.bulk_out ++ rest)))) (sym is)
    (sub_self (effects s.log ++ (seq ∷ (numbers_of s.bulk_out ++ rest)))))))

-- ---- the other moves

begins : (s t : State) (count : ℕ) → «in».Begins s count t → Less s t
begins s t count («in».DoesBegin tag size owes free low high l) =
    less s t (ap (λ (x : State). effects x.log) l.is ∙ longer s.log (entry.Took count) refl)
    (subst (λ (o : Option Waiting). Sub (waits o) (waits s.waiting)) (sym (ap (λ (x : State). x.waiting) l.is)) (sub_self (waits s.waiting)))
    (subst (λ (o : List Pending). Sub (numbers_of o) (numbers_of s.bulk_out)) (sym (ap (λ (x : State). x.bulk_out) l.is)) (sub_self (numbers_of s.bulk_out)))

-- three fields are the same
alike : (s t w : State) → t ≡ w → w.log ≡ s.log → w.waiting ≡ s.waiting → w.bulk_out ≡ s.bulk_out → Less s t
alike s t w is l o q = is_less s w t is (kept s w l o q)

fills : (s t : State) (count : ℕ) (puts : List Put) → «in».Fills s count puts t → Less s t
fills s t count puts («in».Ends submit behind g line a b c is) = kept s t (ap (λ (x : State). x.log) is) (ap (λ (x : State). x.waiting) is) (ap (λ (x : State). x.bulk_out) is)
fills s t count puts («in».Inside submit behind piece line a b c d f g is) = kept s t (ap (λ (x : State). x.log) is) (ap (λ (x : State). x.waiting) is) (ap (λ (x : State). x.bulk_out) is)
fills s t count puts («in».Full submit behind piece line a b c d f g is) = kept s t (ap (λ (x : State). x.log) is) (ap (λ (x : State). x.waiting) is) (ap (λ (x : State). x.bulk_out) is)
fills s t count puts («in».Short submit behind piece k line a b c d f g i put is) = kept s t (ap (λ (x : State). x.log) is) (ap (λ (x : State). x.waiting) is) (ap (λ (x : State). x.bulk_out) is)
fills s t count puts («in».Overflows submit behind piece k line a b c d f g put is) = kept s t (ap (λ (x : State). x.log) is) (ap (λ (x : State). x.waiting) is) (ap (λ (x : State). x.bulk_out) is)

halted_less : (e : Endpoint) (s : State) → Less s (halts e s)
halted_less Control s = kept s (halts Control s) refl refl refl
halted_less BulkOut s = less s (halts BulkOut s) refl (sub_self (waits s.waiting)) (sub_none (numbers_of s.bulk_out))
halted_less BulkIn s = kept s (halts BulkIn s) refl refl refl
halted_less InterruptIn s = kept s (halts InterruptIn s) refl refl refl

check_out : (s : State) (r : Running) → Less s (aborts.checked_out (record s { running = r })).state
check_out s Nothing = kept s (record s { running = Nothing }) refl refl refl
check_out s AbortsOut = kept s (record s { running = Nothing }) refl refl refl
check_out s (AbortsIn wanting given) = kept s (record s { running = AbortsIn wanting given }) refl refl refl
check_out s Clears = kept s (record s { running = Clears }) refl refl refl

check_in : (s : State) (r : Running) → Less s (aborts.checked_in (record s { running = r })).state
check_in s Nothing = kept s (record s { running = Nothing }) refl refl refl
check_in s AbortsOut = kept s (record s { running = AbortsOut }) refl refl refl
check_in s (AbortsIn true given) = kept s (record s { running = AbortsIn true given }) refl refl refl
check_in s (AbortsIn false given) = kept s (record s { running = Nothing }) refl refl refl
check_in s Clears = kept s (record s { running = Clears }) refl refl refl

check_clear : (s : State) (r : Running) → Less s (aborts.checked_clear (record s { running = r })).state
check_clear s Nothing = kept s (record s { running = Nothing }) refl refl refl
check_clear s AbortsOut = kept s (record s { running = AbortsOut }) refl refl refl
check_clear s (AbortsIn wanting given) = kept s (record s { running = AbortsIn wanting given }) refl refl refl
check_clear s Clears = kept s (record s { running = Nothing }) refl refl refl

served_less : (s : State) (a b : Served) → a ≡ b → Less s b.state → Less s a.state
served_less s a b is h = subst (λ (v : Served). Less s v.state) (sym is) h

polls : (seq tag : ℕ) (s t : State) → status.Polls seq tag s t → Less s t
polls seq tag s t (status.DoesPoll mid l is) =
    then_less s mid t (logs (entry.Poll seq) s mid refl l) (kept mid t (ap (λ (x : State). x.log) is) (ap (λ (x : State). x.waiting) is) (ap (λ (x : State). x.bulk_out) is))

self_less : (s : State) → Less s s
self_less s = kept s s refl refl refl

reads_status : (tag : ℕ) (submit : Pending) (s : State) (served : Served) → status.ReadsStatus tag submit s served → Less s served.state
reads_status tag submit s served (status.BadTag bad is) = served_less s served _ is (self_less s)
reads_status tag submit s served (status.PolledBefore good before is) = served_less s served _ is (self_less s)
reads_status tag submit s served (status.Busy good unpolled queued is) = served_less s served _ is (self_less s)
reads_status tag submit s served (status.PolledNow t good unpolled free poll is) = served_less s served _ is (polls submit.head.seqnum tag s t poll)

operates : (act : _) (s : State) (served : Served) → class.Operates act s served → Less s served.state
operates act s served (class.DoesOperate t l is) = served_less s served _ is (logs (entry.Remote act) s t refl l)

clears : (s : State) (served : Served) → aborts.ClearsAll s served → Less s served.state
clears s served (aborts.DoesClear t l is) = served_less s served _ is
    (then_less s (aborts.cleared s) t (less s (aborts.cleared s) refl (sub_none (waits s.waiting)) (sub_none (numbers_of s.bulk_out))) (logs entry.Clear (aborts.cleared s) t refl l))

serves : (request : ClassRequest) (submit : Pending) (s : State) (served : Served) → class.Serves request submit s served → Less s served.state
serves (AbortOut tag) submit s served (aborts.NotBegun layout declined is) = served_less s served _ is (self_less s)
serves (AbortOut tag) submit s served (aborts.DoesAbort free some is) = served_less s served _ is
    (less s (record (halts BulkOut s) { running = AbortsOut }) refl (sub_self (waits s.waiting)) (sub_none (numbers_of s.bulk_out)))
serves CheckOut submit s served h = served_less s served _ h (check_out s s.running)
serves (AbortIn tag) submit s served (aborts.NotBegun layout declined is) = served_less s served _ is (self_less s)
serves (AbortIn tag) submit s served (aborts.DoesAbort free some is) = served_less s served _ is (kept s (record s { side = aborts.cut s.side; running = AbortsIn true (aborts.given_of s.side) }) refl refl refl)
serves CheckIn submit s served h = served_less s served _ h (check_in s s.running)
serves Clear submit s served h = clears s served h
serves CheckClear submit s served h = served_less s served _ h (check_clear s s.running)
serves Capabilities submit s served h = served_less s served _ h (self_less s)
serves Pulse submit s served h = served_less s served _ h (self_less s)
serves (ReadStatus tag) submit s served h = reads_status tag submit s served h
serves (Ren true) submit s served h = operates _ s served h
serves (Ren false) submit s served h = operates _ s served h
serves GoLocal submit s served h = operates _ s served h
serves Lockout submit s served h = operates _ s served h

usable : (e : Endpoint) (b : Bool) (s : State) → Less s (with_halt e b s)
usable Control b s = self_less s
usable BulkOut b s = kept s (with_halt BulkOut b s) refl refl refl
usable BulkIn b s = kept s (with_halt BulkIn b s) refl refl refl
usable InterruptIn b s = kept s (with_halt InterruptIn b s) refl refl refl

standard : (request : Standard) (s : State) → Less s (standard_effect request s)
standard (ClearHalt e) s = usable e false s
standard SetConfiguration s = kept s (standard_effect SetConfiguration s) refl refl refl
standard SetInterface s = kept s (standard_effect SetInterface s) refl refl refl
standard _ s = self_less s

answers : (s t : State) (puts : List Put) → class.Answers s puts t → Less s t
answers s t puts (class.ByClass submit behind setup request served line asks row serving put is) =
    is_less s served.state t is (then_less s (record s { control = behind }) served.state (kept s (record s { control = behind }) refl refl refl) (serves request submit (record s { control = behind }) served serving))
answers s t puts (class.ByStandard submit behind setup request line asks row put is) =
    is_less s (standard_effect request (record s { control = behind })) t is
    (then_less s (record s { control = behind }) (standard_effect request (record s { control = behind })) (kept s (record s { control = behind }) refl refl refl) (standard request (record s { control = behind })))
answers s t puts (class.Unknown submit behind setup line asks unknown put is) = alike s t (record s { control = behind }) is refl refl refl

-- ---- what arrives

middle : (before : List Pending) (submit : Pending) (behind : List Pending) → Sub (numbers_of (before ++ behind)) (numbers_of (before ++ submit ∷ behind))
middle [] submit behind = inl (sub_self (numbers_of behind))
middle (x ∷ before) submit behind = inr (numbers_of (before ++ behind), refl, middle before submit behind)

hits : (e : Endpoint) (before : List Pending) (submit : Pending) (behind : List Pending) (s : State) → queue_of e s ≡ before ++ submit ∷ behind → Less s (with_queue e (before ++ behind) s)
hits Control before submit behind s line = kept s (with_queue Control (before ++ behind) s) refl refl refl
hits BulkOut before submit behind s line = shorter s (with_queue BulkOut (before ++ behind) s) (before ++ submit ∷ behind) line refl refl (middle before submit behind)
hits BulkIn before submit behind s line = kept s (with_queue BulkIn (before ++ behind) s) refl refl refl
hits InterruptIn before submit behind s line = kept s (with_queue InterruptIn (before ++ behind) s) refl refl refl

unlinks : (s t : State) (head : _) (puts : List Put) → Unlinks s head puts t → Less s t
unlinks s t head puts (Hits e before submit behind line target unpolled put is) = is_less s (with_queue e (before ++ behind) s) t is (hits e before submit behind s line)
unlinks s t head puts (Polled e before submit behind setup tag line target polled asks row put is) = is_less s (with_queue e (before ++ behind) s) t is (hits e before submit behind s line)
unlinks s t head puts (Misses avoids put is) = alike s t s is refl refl refl

-- a submit to Bulk-OUT is one number more on the way, any other none
fewer : (head : SubmitHead) (transferred : List ℕ) (ups : List up.Message) → Sub (coming_out ups) (coming_out (up.Submit head transferred ∷ ups))
fewer head transferred ups = by (eqb head.ep 1)
  where
    by : (b : Bool) → Sub (coming_out ups) ((cond b (head.seqnum ∷ coming_out ups) (coming_out ups)))
    by true = inl (sub_self (coming_out ups))
    by false = sub_self (coming_out ups)

abbrev Fewer : State → List ℕ → State → List ℕ → Type 0
Fewer s before t behind = Sub (numbers_with t behind) (numbers_with s before)

with_rest : (s t : State) (before behind : List ℕ) → Less s t → Sub behind before → Fewer s before t behind
with_rest s t before behind h k =
    sub_trans (numbers_with t behind) (numbers_with s behind) (numbers_with s before) (h behind)
    (sub_append (effects s.log) (effects s.log) (tail s behind) (tail s before) (sub_self (effects s.log))
    (sub_append (waits s.waiting) (waits s.waiting) (numbers_of s.bulk_out ++ behind) (numbers_of s.bulk_out ++ before) (sub_self (waits s.waiting))
    (sub_append (numbers_of s.bulk_out) (numbers_of s.bulk_out) behind before (sub_self (numbers_of s.bulk_out)) k)))

queued : (e : Endpoint) (head : SubmitHead) (transferred : List ℕ) (ups : List up.Message) (s : State) → head.ep ≡ number_of e
    → Fewer s (coming_out (up.Submit head transferred ∷ ups)) (with_queue e (queue_of e s ++ arrived head transferred ∷ []) s) (coming_out ups)
queued Control head transferred ups s own = with_rest s (with_queue Control (s.control ++ arrived head transferred ∷ []) s) _ _ (kept s (with_queue Control (s.control ++ arrived head transferred ∷ []) s) refl refl refl) (fewer head transferred ups)
queued BulkIn head transferred ups s own = with_rest s (with_queue BulkIn (s.bulk_in ++ arrived head transferred ∷ []) s) _ _ (kept s (with_queue BulkIn (s.bulk_in ++ arrived head transferred ∷ []) s) refl refl refl) (fewer head transferred ups)
queued InterruptIn head transferred ups s own = with_rest s (with_queue InterruptIn (s.interrupt_in ++ arrived head transferred ∷ []) s) _ _ (kept s (with_queue InterruptIn (s.interrupt_in ++ arrived head transferred ∷ []) s) refl refl refl) (fewer head transferred ups)
queued BulkOut head transferred ups s own =
    sub_append (effects s.log) (effects s.log) (waits s.waiting ++ (numbers_of (s.bulk_out ++ arrived head transferred ∷ []) ++ coming_out ups)) (tail s (coming_out (up.Submit head transferred ∷ ups))) (sub_self (effects s.log))
    (sub_append (waits s.waiting) (waits s.waiting) (numbers_of (s.bulk_out ++ arrived head transferred ∷ []) ++ coming_out ups) (numbers_of s.bulk_out ++ coming_out (up.Submit head transferred ∷ ups)) (sub_self (waits s.waiting))
    (subst (λ (l : List ℕ). Sub l (numbers_of s.bulk_out ++ coming_out (up.Submit head transferred ∷ ups)))
    (sym (ap (λ (l : List ℕ). l ++ coming_out ups) (numbers-append s.bulk_out (arrived head transferred ∷ [])) ∙ append_assoc (numbers_of s.bulk_out) (head.seqnum ∷ []) (coming_out ups)))
    (subst (λ (b : Bool). Sub (numbers_of s.bulk_out ++ head.seqnum ∷ coming_out ups) (numbers_of s.bulk_out ++ (cond b (head.seqnum ∷ coming_out ups) (coming_out ups))))
    (sym (eq-eqb head.ep 1 own)) (sub_self (numbers_of s.bulk_out ++ head.seqnum ∷ coming_out ups)))))

arrives : (head : SubmitHead) (transferred : List ℕ) (ups : List up.Message) (s t : State) (puts : List Put) → Arrives s head transferred puts t
    → Fewer s (coming_out (up.Submit head transferred ∷ ups)) t (coming_out ups)
arrives head transferred ups s t puts (Queued e is put to) =
    subst (λ (x : State). Fewer s (coming_out (up.Submit head transferred ∷ ups)) x (coming_out ups)) (sym to) (queued e head transferred ups s is.number)
arrives head transferred ups s t puts (TurnedAway away put to) = with_rest s t _ _ (alike s t s to refl refl refl) (fewer head transferred ups)

-- ---- all moves

fewer_now : (s t : State) (move : Move) (puts : List Put) (ups : List up.Message) → Leads s move puts t → Fewer s (coming_out (taken move ++ ups)) t (coming_out ups)
fewer_now s t (Comes (up.Submit head transferred)) puts ups h = arrives head transferred ups s t puts h.3
fewer_now s t (Comes (up.Unlink head)) puts ups h = unlinks s t head puts h.1 (coming_out ups)
fewer_now s t (Refuses devid bytes f) puts ups h = kept s t (ap (λ (x : State). x.log) h.2) (ap (λ (x : State). x.waiting) h.2) (ap (λ (x : State). x.bulk_out) h.2) (coming_out ups)
fewer_now s t (Take count) puts ups h = takes s t count puts h.0 h.1 (coming_out ups)
fewer_now s t Exec puts ups h = executes s t h.0 (coming_out ups)
fewer_now s t (Begin count) puts ups h = begins s t count h.0 (coming_out ups)
fewer_now s t (Fill count) puts ups h = fills s t count puts h (coming_out ups)
fewer_now s t Answer puts ups h = answers s t puts h (coming_out ups)
fewer_now s t Pend puts ups h = pends h (coming_out ups)
  where
    pends : class.Postpones s puts t → Less s t
    pends (class.DoesPostpone submit behind setup request layout line asks row stays put is) = alike s t (record s { control = behind }) is refl refl refl
fewer_now s t Poll puts ups h = polled h.0 (coming_out ups)
  where
    polled : class.PollsFirst s t → Less s t
    polled (class.DoesPollFirst submit behind setup tag line asks row good unpolled free poll) =
        then_less s (record s { control = record submit { polled = true } ∷ behind }) t (kept s (record s { control = record submit { polled = true } ∷ behind }) refl refl refl) (polls submit.head.seqnum tag _ t poll)
fewer_now s t Notify puts ups h = notifies h (coming_out ups)
  where
    notifies : status.Notifies s puts t → Less s t
    notifies (status.Gives submit behind packet packets line there long put is) = alike s t (record s { interrupt_in = behind; packets = packets }) is refl refl refl
    notifies (status.NoRoom submit behind packet packets line there short put is) = is_less s (halts InterruptIn s) t is (halted_less InterruptIn s)
fewer_now s t (Halt e) puts ups h = halted h (coming_out ups)
  where
    halted : HaltsItself s e puts t → Less s t
    halted (DoesHalt other able put is) = is_less s (halts e s) t is (halted_less e s)
fewer_now s t Unplug puts ups h = less s t (ap (λ (x : State). effects x.log) h.is) (subst (λ (o : Option Waiting). Sub (waits o) (waits s.waiting)) (sym (ap (λ (x : State). x.waiting) h.is)) (sub_self (waits s.waiting)))
    (subst (λ (q : List Pending). Sub (numbers_of q) (numbers_of s.bulk_out)) (sym (ap (λ (x : State). x.bulk_out) h.is)) (sub_none (numbers_of s.bulk_out))) (coming_out ups)

-- the laws
pub numbers_rise : (s t : State) (move : Move) (puts : List Put) (ups : List up.Message) → Steps s move puts t → Rises (numbers s (taken move ++ ups)) → Rises (numbers t ups)
numbers_rise s t move puts ups step rises = rises_sub (numbers t ups) (numbers s (taken move ++ ups)) (fewer_now s t move puts ups step.leads) rises

below_sub : (n : ℕ) (a b : List ℕ) → Sub a b → AllBelow n b → AllBelow n a
below_sub n a [] h k = subst (λ (l : List ℕ). AllBelow n l) (sym h) tt
below_sub n a (y ∷ b) (inl h) k = below_sub n a b h k.1
below_sub n a (y ∷ b) (inr h) k = subst (λ (l : List ℕ). AllBelow n l) (sym h.1) (k.0, below_sub n h.0 b h.2 k.1)

pub numbers_below : (n : ℕ) (s t : State) (move : Move) (puts : List Put) (ups : List up.Message) → Steps s move puts t → AllBelow n (numbers s (taken move ++ ups)) → AllBelow n (numbers t ups)
numbers_below n s t move puts ups step below = below_sub n (numbers t ups) (numbers s (taken move ++ ups)) (fewer_now s t move puts ups step.leads) below

-- over a run
pub numbers_run : (run : List Entry) (s t : State) (ups : List up.Message) → Runs s run t → Rises (numbers s (inputs run ++ ups)) → Rises (numbers t ups)
numbers_run [] s t ups is rises = subst (λ (x : State). Rises (numbers x ups)) (sym is) rises
numbers_run (entry ∷ run) s t ups goes rises =
    numbers_run run goes.0 t ups goes.2
    (numbers_rise s goes.0 entry.move entry.puts (inputs run ++ ups) goes.1 (subst (λ (l : List up.Message). Rises (numbers s l)) (append_assoc (taken entry.move) (inputs run) ups) rises))
