-- a queue among the pending submits of a state, and what is tied to what is outstanding
use Rattle.std.proofs.Common.{◌≡◌, ℕ, ◌+◌, ◌≤◌, List, [], ◌∷◌, ◌++◌, length, refl, sym, subst, ◌∙◌, append_assoc}
use Rattle.std.specs.Prelude.{ℤ, Bool}
use Rattle.std.proofs.lemmas.List.{append-nil}
use Rattle.usbip_wire.specs.declared.dirs.Outstanding.{Outstanding}
use Rattle.tmc_law.specs.Endpoint.{Endpoint, Control, BulkOut, BulkIn, InterruptIn}
use Rattle.tmc_law.specs.State.{State, Pending, queue_of, with_queue, pending}
use Rattle.tmc_law.specs.Put.{Put, answer_of, stalled}
use Rattle.tmc_law.specs.Halts.{halts, halt_answers}
use Rattle.tmc_law.proofs.Entries.{AreAccepted, without_answered}
use Rattle.tmc_law.proofs.AnswerBytes.{IsStatus, stalled_is}
use Rattle.tmc_law.proofs.Owing.{IsOwed}
use Rattle.tmc_law.proofs.Owed.{AreOwed, owed_at, owed_replaced}
use Rattle.tmc_law.proofs.Answering.{Settles, one_settles, queue_settles, settles_append}

-- the pending submits of the endpoints before this one, and of those behind it
abbrev pub in_front : Endpoint → State → List Pending
in_front Control s = []
in_front BulkOut s = s.control
in_front BulkIn s = s.control ++ s.bulk_out
in_front InterruptIn s = (s.control ++ s.bulk_out) ++ s.bulk_in

abbrev pub in_back : Endpoint → State → List Pending
in_back Control s = s.bulk_out ++ (s.bulk_in ++ s.interrupt_in)
in_back BulkOut s = s.bulk_in ++ s.interrupt_in
in_back BulkIn s = s.interrupt_in
in_back InterruptIn s = []

pub placed : (endpoint : Endpoint) (queue : List Pending) (s : State)
    → in_front endpoint s ++ (queue ++ in_back endpoint s) ≡ pending (with_queue endpoint queue s)
placed Control queue s = refl
placed BulkOut queue s = refl
placed BulkIn queue s = append_assoc s.control s.bulk_out (queue ++ s.interrupt_in)
placed InterruptIn queue s =
    rw (append-nil queue) (append_assoc (s.control ++ s.bulk_out) s.bulk_in queue ∙ append_assoc s.control s.bulk_out (s.bulk_in ++ queue))

pub placed_now : (endpoint : Endpoint) (s : State) → pending s ≡ in_front endpoint s ++ (queue_of endpoint s ++ in_back endpoint s)
placed_now Control s = sym (placed Control s.control s)
placed_now BulkOut s = sym (placed BulkOut s.bulk_out s)
placed_now BulkIn s = sym (placed BulkIn s.bulk_in s)
placed_now InterruptIn s = sym (placed InterruptIn s.interrupt_in s)

pub owed_in : (entries : List Outstanding) (endpoint : Endpoint) (s : State) → AreOwed entries (pending s)
    → AreOwed entries (in_front endpoint s ++ (queue_of endpoint s ++ in_back endpoint s))
owed_in entries endpoint s owed = subst (λ (l : List Pending). AreOwed entries l) (placed_now endpoint s) owed

pub owed_here : (entries : List Outstanding) (endpoint : Endpoint) (s : State) (queue : List Pending) → queue_of endpoint s ≡ queue
    → AreOwed entries (pending s) → AreOwed entries (in_front endpoint s ++ (queue ++ in_back endpoint s))
owed_here entries endpoint s queue is owed =
    subst (λ (l : List Pending). AreOwed entries (in_front endpoint s ++ (l ++ in_back endpoint s))) is (owed_in entries endpoint s owed)

pub owed_out : (entries : List Outstanding) (endpoint : Endpoint) (queue : List Pending) (s : State)
    → AreOwed entries (in_front endpoint s ++ (queue ++ in_back endpoint s)) → AreOwed entries (pending (with_queue endpoint queue s))
owed_out entries endpoint queue s owed = subst (λ (l : List Pending). AreOwed entries l) (placed endpoint queue s) owed

pub settles_out : (entries : List Outstanding) (puts : List Put) (endpoint : Endpoint) (queue : List Pending) (s : State)
    → Settles entries puts (in_front endpoint s ++ (queue ++ in_back endpoint s)) → Settles entries puts (pending (with_queue endpoint queue s))
settles_out entries puts endpoint queue s settles = subst (λ (l : List Pending). Settles entries puts l) (placed endpoint queue s) settles

-- a submit within a queue
pub amid : (front before : List Pending) (submit : Pending) (behind back : List Pending)
    → front ++ ((before ++ submit ∷ behind) ++ back) ≡ (front ++ before) ++ submit ∷ (behind ++ back)
amid front before submit behind back =
    rw (append_assoc before (submit ∷ behind) back) (sym (append_assoc front before (submit ∷ (behind ++ back))))

pub around : (front before behind back : List Pending) → (front ++ before) ++ (behind ++ back) ≡ front ++ ((before ++ behind) ++ back)
around front before behind back =
    rw (append_assoc before behind back) (append_assoc front before (behind ++ back))

-- ---- what is left of an OUT submit fits it

abbrev pub AreWhole : List Pending → Type 0
AreWhole [] = Unit {0}
AreWhole (submit ∷ submits) = (length submit.moved + length submit.left ≤ submit.head.length) × AreWhole submits

pub whole_more : (submits : List Pending) (submit : Pending) → AreWhole submits → length submit.moved + length submit.left ≤ submit.head.length
    → AreWhole (submits ++ submit ∷ [])
whole_more [] submit whole one = (one, tt)
whole_more (first ∷ submits) submit whole one = (whole.0, whole_more submits submit whole.1 one)

pub whole_without : (before : List Pending) (submit : Pending) (behind : List Pending) → AreWhole (before ++ submit ∷ behind)
    → AreWhole (before ++ behind)
whole_without [] submit behind whole = whole.1
whole_without (first ∷ before) submit behind whole = (whole.0, whole_without before submit behind whole.1)

-- ---- a state and what is outstanding

-- the answers to these pending submits are owed, and those of Bulk-OUT among them are whole
pub record Ties (entries : List Outstanding) (submits out : List Pending) : Type 0 where
  pub owed : AreOwed entries submits
  pub whole : AreWhole out

abbrev pub TiesAt : List Outstanding → State → Type 0
TiesAt entries s = Ties entries (pending s) s.bulk_out

-- the answers are accepted, and the same holds behind them
pub record Lasts (entries : List Outstanding) (puts : List Put) (submits out : List Pending) : Type 0 where
  pub accepted : AreAccepted entries puts
  pub ties : Ties (without_answered entries puts) submits out

abbrev pub LastsAt : List Outstanding → List Put → State → Type 0
LastsAt entries puts t = Lasts entries puts (pending t) t.bulk_out

pub lasts : (entries : List Outstanding) (puts : List Put) (submits out : List Pending) → Settles entries puts submits → AreWhole out
    → Lasts entries puts submits out
lasts entries puts submits out settles whole =
    record { accepted = settles.accepted; ties = record { owed = settles.owed; whole = whole } }

pub settled : (entries : List Outstanding) (puts : List Put) (submits out : List Pending) → Lasts entries puts submits out
    → Settles entries puts submits
settled entries puts submits out last = record { accepted = last.accepted; owed = last.ties.owed }

pub none_lasts : (entries : List Outstanding) (submits out : List Pending) → Ties entries submits out → Lasts entries [] submits out
none_lasts entries submits out ties = record { accepted = tt; ties = ties }

pub lasts_append : (entries : List Outstanding) (puts more : List Put) (submits out rest last : List Pending) → Lasts entries puts submits out
    → ((later : List Outstanding) → Ties later submits out → Lasts later more rest last) → Lasts entries (puts ++ more) rest last
lasts_append entries puts more submits out rest last few then =
    let next = then (without_answered entries puts) few.ties in
    lasts entries (puts ++ more) rest last
    (settles_append entries puts more submits rest (settled entries puts submits out few)
    (λ later owed. settled later more rest last (then later (record { owed = owed; whole = few.ties.whole }))))
    next.ties.whole

pub lasts_at : (entries : List Outstanding) (puts is : List Put) (t u : State) → puts ≡ is → t ≡ u → LastsAt entries is u → LastsAt entries puts t
lasts_at entries puts is t u e f last =
    subst (λ (p : List Put). LastsAt entries p t) (sym e) (subst (λ (v : State). LastsAt entries is v) (sym f) last)

pub ties_at : (entries : List Outstanding) (t u : State) → t ≡ u → TiesAt entries u → TiesAt entries t
ties_at entries t u f ties = subst (λ (v : State). TiesAt entries v) (sym f) ties

-- ---- the first submit of a queue

whole_behind : (endpoint : Endpoint) (s : State) (submit : Pending) (behind : List Pending) → queue_of endpoint s ≡ submit ∷ behind
    → AreWhole s.bulk_out → AreWhole (with_queue endpoint behind s).bulk_out
whole_behind Control s submit behind is whole = whole
whole_behind BulkOut s submit behind is whole = (subst (λ (l : List Pending). AreWhole l) is whole).1
whole_behind BulkIn s submit behind is whole = whole
whole_behind InterruptIn s submit behind is whole = whole

pub is_owed_first : (entries : List Outstanding) (endpoint : Endpoint) (s : State) (submit : Pending) (behind : List Pending)
    → queue_of endpoint s ≡ submit ∷ behind → AreOwed entries (pending s) → IsOwed entries submit
is_owed_first entries endpoint s submit behind is owed =
    owed_at entries (in_front endpoint s) submit (behind ++ in_back endpoint s) (owed_here entries endpoint s (submit ∷ behind) is owed)

-- it is answered
pub first_lasts : (entries : List Outstanding) (endpoint : Endpoint) (s : State) (submit : Pending) (behind : List Pending) (status : ℤ) (moved : List ℕ)
    → queue_of endpoint s ≡ submit ∷ behind → IsStatus status → length moved ≤ submit.head.length → TiesAt entries s
    → LastsAt entries (answer_of submit.head status moved ∷ []) (with_queue endpoint behind s)
first_lasts entries endpoint s submit behind status moved is code fits ties =
    lasts entries (answer_of submit.head status moved ∷ []) (pending (with_queue endpoint behind s)) (with_queue endpoint behind s).bulk_out
    (settles_out entries (answer_of submit.head status moved ∷ []) endpoint behind s
    (one_settles entries (in_front endpoint s) submit (behind ++ in_back endpoint s) status moved code fits
    (owed_here entries endpoint s (submit ∷ behind) is ties.owed)))
    (whole_behind endpoint s submit behind is ties.whole)

-- another with its head stands in its place
pub owed_changed : (entries : List Outstanding) (endpoint : Endpoint) (s : State) (submit : Pending) (behind : List Pending)
    (moved left : List ℕ) (polled : Bool) → queue_of endpoint s ≡ submit ∷ behind → length moved ≤ submit.head.length → AreOwed entries (pending s)
    → AreOwed entries (pending (with_queue endpoint ((record { head = submit.head; left = left; moved = moved; polled = polled }) ∷ behind) s))
owed_changed entries endpoint s submit behind moved left polled is fits owed =
    owed_out entries endpoint ((record { head = submit.head; left = left; moved = moved; polled = polled }) ∷ behind) s
    (owed_replaced entries (in_front endpoint s) submit moved left polled (behind ++ in_back endpoint s) fits
    (owed_here entries endpoint s (submit ∷ behind) is owed))

-- ---- an endpoint halts

halted_pending : (endpoint : Endpoint) (s : State) → pending (halts endpoint s) ≡ pending (with_queue endpoint [] s)
halted_pending Control s = refl
halted_pending BulkOut s = refl
halted_pending BulkIn s = refl
halted_pending InterruptIn s = refl

halted_whole : (endpoint : Endpoint) (s : State) → AreWhole s.bulk_out → AreWhole (halts endpoint s).bulk_out
halted_whole Control s whole = whole
halted_whole BulkOut s whole = tt
halted_whole BulkIn s whole = whole
halted_whole InterruptIn s whole = whole

pub halts_last : (entries : List Outstanding) (endpoint : Endpoint) (s : State) → TiesAt entries s
    → LastsAt entries (halt_answers endpoint s) (halts endpoint s)
halts_last entries endpoint s ties =
    lasts entries (halt_answers endpoint s) (pending (halts endpoint s)) (halts endpoint s).bulk_out
    (subst (λ (l : List Pending). Settles entries (halt_answers endpoint s) l) (sym (halted_pending endpoint s))
    (settles_out entries (halt_answers endpoint s) endpoint [] s
    (queue_settles entries (in_front endpoint s) (queue_of endpoint s) (in_back endpoint s) stalled stalled_is
    (owed_in entries endpoint s ties.owed))))
    (halted_whole endpoint s ties.whole)
