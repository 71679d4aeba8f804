-- what a step does to the queues, one submit at a time
use Rattle.std.proofs.Common.{◌≡◌, ◌∙◌, ◌≤◌, ℤ, List, [], ◌∷◌, ◌++◌, map, length, ap, sym, subst, append-nil, arith}
use Rattle.usbip_wire.specs.declared.urb.Dir.{Dir}
use Rattle.usbip_wire.specs.declared.urb.Dir.TheVariants.{Out, In}
use Rattle.tmc_law.specs.Endpoint.{Endpoint}
use Rattle.tmc_law.specs.State.{State, Pending, queue_of, with_queue}
use Rattle.tmc_law.specs.Put.{Put, answer_of, ended, success}
use Rattle.tmc_law.specs.Halts.{all_ended}
use Rattle.tmc_law.specs.Acts.{SameQueues, Sized, FitsAt, IsStatus, Succeeds, IsLater, Acts, Done, Replies, Changes}
use Rattle.tmc_law.proofs.Queued.{queue-with, with-own, with-twice}

pub silent : (s t : State) (puts : List Put) → puts ≡ [] → SameQueues s t → Acts t s [] puts
silent s t puts none same = subst (λ (p : List Put). Acts t s [] p) (sym none) (Done s same)

-- a queue that is empty already
pub none_left : (t s : State) (e : Endpoint) (puts : List Put) → queue_of e s ≡ [] → Acts t (with_queue e [] s) [] puts → Acts t s [] puts
none_left t s e puts none h =
    subst (λ (x : State). Acts t x [] puts) (ap (λ (q : List Pending). with_queue e q s) (sym none) ∙ with-own e s) h

-- all submits of a queue are answered, without bytes
pub all_none : (t s : State) (e : Endpoint) (status : ℤ) (puts : List Put) (others : List Pending) → IsStatus status → queue_of e s ≡ others
    → Acts t (with_queue e [] s) [] puts → Acts t s [] (map (λ submit. answer_of submit.head status []) others ++ puts)
all_none t s e status puts [] ok is h = none_left t s e puts is h
all_none t s e status puts (first ∷ others) ok is h =
    Replies s [] (map (λ submit. answer_of submit.head status []) others ++ puts) e first others status [] is ok (λ fits. omega arith)
    (all_none t (with_queue e others s) e status puts others ok (queue-with e others s) (subst (λ (x : State). Acts t x [] puts) (sym (with-twice e [] others s)) h))

sized_within : (d : Dir) (submit : Pending) → Sized d submit → length submit.moved ≤ submit.head.length
sized_within Out submit h = omega (arith, h)
sized_within In submit h = h.0

-- a pending submit has no more bytes than it asks for
pub within : (e : Endpoint) (submit : Pending) → FitsAt e submit → length submit.moved ≤ submit.head.length
within e submit fits = sized_within submit.head.dir submit fits.sized

-- all submits of a queue are answered, the first with the bytes that it had
pub all_end : (t s : State) (e : Endpoint) (status : ℤ) (puts : List Put) (queue : List Pending) → IsStatus status → queue_of e s ≡ queue
    → Acts t (with_queue e [] s) [] puts → Acts t s [] (all_ended status queue ++ puts)
all_end t s e status puts [] ok is h = none_left t s e puts is h
all_end t s e status puts (first ∷ others) ok is h =
    Replies s [] (map (λ submit. answer_of submit.head status []) others ++ puts) e first others status first.moved is ok (within e first)
    (all_none t (with_queue e others s) e status puts others ok (queue-with e others s) (subst (λ (x : State). Acts t x [] puts) (sym (with-twice e [] others s)) h))

-- the same, and nothing else
pub all_end_here : (t s : State) (e : Endpoint) (status : ℤ) (queue : List Pending) → IsStatus status → queue_of e s ≡ queue
    → SameQueues (with_queue e [] s) t → Acts t s [] (all_ended status queue)
all_end_here t s e status queue ok is same =
    subst (λ (p : List Put). Acts t s [] p) (append-nil (all_ended status queue)) (all_end t s e status [] queue ok is (Done (with_queue e [] s) same))

-- the first submit is answered with the bytes that it had
pub ends : (s t : State) (puts : List Put) (e : Endpoint) (submit : Pending) (behind : List Pending) → queue_of e s ≡ submit ∷ behind
    → puts ≡ ended success submit ∷ [] → SameQueues (with_queue e behind s) t → Acts t s [] puts
ends s t puts e submit behind is put same =
    subst (λ (p : List Put). Acts t s [] p) (sym put) (Replies s [] [] e submit behind success submit.moved is Succeeds (within e submit) (Done (with_queue e behind s) same))

-- it changes first
pub ends_later : (s t : State) (puts : List Put) (e : Endpoint) (submit later : Pending) (behind : List Pending) → queue_of e s ≡ submit ∷ behind → IsLater e submit later
    → puts ≡ ended success later ∷ [] → SameQueues (with_queue e behind s) t → Acts t s [] puts
ends_later s t puts e submit later behind is changed put same =
    Changes s [] puts e submit later behind is changed
    (ends (with_queue e (later ∷ behind) s) t puts e later behind (queue-with e (later ∷ behind) s) put
    (subst (λ (x : State). SameQueues x t) (sym (with-twice e behind (later ∷ behind) s)) same))
