-- the queues of a state, and what stands in them
use Rattle.std.proofs.Common.{◌≡◌, ◌∙◌, ◌≢◌, ℕ, ◌+◌, ◌≤◌, false, cond, eqb, List, [], ◌∷◌, ◌++◌, refl, sym, subst, arith}
use Rattle.std.proofs.lemmas.Bool.{eq-eqb, ne_eqb}
use Rattle.tmc_law.specs.Endpoint.{Endpoint, Control, BulkOut, BulkIn, InterruptIn}
use Rattle.tmc_law.specs.Acts.{SameQueues, Unpolled}
use Rattle.tmc_law.specs.Reached.{AllFit}
use Rattle.tmc_law.specs.State.{State, Pending, queue_of, with_queue, pending, Avoids}

-- ---- counting numbers

-- how often a number stands in a queue
abbrev pub times : ℕ → List Pending → ℕ
times n [] = 0
times n (submit ∷ submits) = cond (eqb submit.head.seqnum n) 1 0 + times n submits

-- how often it is pending
abbrev pub here : ℕ → State → ℕ
here n s = times n s.control + (times n s.bulk_out + (times n s.bulk_in + times n s.interrupt_in))

pub times-append : (n : ℕ) (a b : List Pending) → times n (a ++ b) ≡ times n a + times n b
times-append n [] b = omega arith
times-append n (submit ∷ a) b = omega (arith, times-append n a b)

pub times-pending : (n : ℕ) (s : State) → times n (pending s) ≡ here n s
times-pending n s =
    omega (arith, times-append n s.control (s.bulk_out ++ (s.bulk_in ++ s.interrupt_in)), times-append n s.bulk_out (s.bulk_in ++ s.interrupt_in), times-append n s.bulk_in s.interrupt_in)

pub times_none : (n : ℕ) (submits : List Pending) → Avoids n submits → times n submits ≡ 0
times_none n [] h = refl
times_none n (submit ∷ submits) h = rw (ne_eqb submit.head.seqnum n h.0) (omega (arith, times_none n submits h.1))

one_more : (m n k : ℕ) → cond (eqb m n) 1 0 + k ≡ 0 → m ≢ n
one_more m n k none same = by (rw (eq-eqb m n same) at none)
  where
    by : 1 + k ≡ 0 → ⊥
    by e = omega arith

pub none_times : (n : ℕ) (submits : List Pending) → times n submits ≡ 0 → Avoids n submits
none_times n [] h = tt
none_times n (submit ∷ submits) h = (one_more submit.head.seqnum n (times n submits) h, none_times n submits (omega arith))

pub times_own : (submit : Pending) (submits : List Pending) → times submit.head.seqnum (submit ∷ submits) ≡ 1 + times submit.head.seqnum submits
times_own submit submits = rw (eq-eqb submit.head.seqnum submit.head.seqnum refl) refl

-- where it is pending nowhere, it is not in a queue
pub not_here : (n : ℕ) (s : State) → Avoids n (pending s) → here n s ≡ 0
not_here n s h = sym (times-pending n s) ∙ times_none n (pending s) h

pub here_not : (n : ℕ) (s : State) → here n s ≡ 0 → Avoids n (pending s)
here_not n s h = none_times n (pending s) (times-pending n s ∙ h)

-- ---- one queue and the others

pub queue-with : (e : Endpoint) (queue : List Pending) (s : State) → queue_of e (with_queue e queue s) ≡ queue
queue-with Control queue s = refl
queue-with BulkOut queue s = refl
queue-with BulkIn queue s = refl
queue-with InterruptIn queue s = refl

pub with-own : (e : Endpoint) (s : State) → with_queue e (queue_of e s) s ≡ s
with-own Control s = refl
with-own BulkOut s = refl
with-own BulkIn s = refl
with-own InterruptIn s = refl

pub with-twice : (e : Endpoint) (a b : List Pending) (s : State) → with_queue e a (with_queue e b s) ≡ with_queue e a s
with-twice Control a b s = refl
with-twice BulkOut a b s = refl
with-twice BulkIn a b s = refl
with-twice InterruptIn a b s = refl

pub here-with : (n : ℕ) (e : Endpoint) (queue : List Pending) (s : State) → here n (with_queue e queue s) + times n (queue_of e s) ≡ here n s + times n queue
here-with n Control queue s = omega arith
here-with n BulkOut queue s = omega arith
here-with n BulkIn queue s = omega arith
here-with n InterruptIn queue s = omega arith

-- what holds of each queue
abbrev pub Each : (Endpoint → List Pending → Type 0) → State → Type 0
Each P s = (d : Endpoint) → P d (queue_of d s)

pub each-with : (P : Endpoint → List Pending → Type 0) (e : Endpoint) (queue : List Pending) (s : State) → Each P s → P e queue → Each P (with_queue e queue s)
each-with P Control queue s h p Control = p
each-with P Control queue s h p BulkOut = h BulkOut
each-with P Control queue s h p BulkIn = h BulkIn
each-with P Control queue s h p InterruptIn = h InterruptIn
each-with P BulkOut queue s h p Control = h Control
each-with P BulkOut queue s h p BulkOut = p
each-with P BulkOut queue s h p BulkIn = h BulkIn
each-with P BulkOut queue s h p InterruptIn = h InterruptIn
each-with P BulkIn queue s h p Control = h Control
each-with P BulkIn queue s h p BulkOut = h BulkOut
each-with P BulkIn queue s h p BulkIn = p
each-with P BulkIn queue s h p InterruptIn = h InterruptIn
each-with P InterruptIn queue s h p Control = h Control
each-with P InterruptIn queue s h p BulkOut = h BulkOut
each-with P InterruptIn queue s h p BulkIn = h BulkIn
each-with P InterruptIn queue s h p InterruptIn = p

pub same_queue : (d : Endpoint) (s t : State) → SameQueues s t → queue_of d t ≡ queue_of d s
same_queue Control s t h = h.control
same_queue BulkOut s t h = h.bulk_out
same_queue BulkIn s t h = h.bulk_in
same_queue InterruptIn s t h = h.interrupt_in

pub each_same : (P : Endpoint → List Pending → Type 0) (s t : State) → SameQueues s t → Each P s → Each P t
each_same P s t same h d = subst (λ (queue : List Pending). P d queue) (sym (same_queue d s t same)) (h d)

pub here_same : (n : ℕ) (s t : State) → SameQueues s t → here n t ≡ here n s
here_same n s t h = rw (h.control, h.bulk_out, h.bulk_in, h.interrupt_in) refl

pub same_refl : (s : State) → SameQueues s s
same_refl s = record { control = refl; bulk_out = refl; bulk_in = refl; interrupt_in = refl }

pub is_same : (w s t : State) → t ≡ s → SameQueues w s → SameQueues w t
is_same w s t is same = subst (λ (x : State). SameQueues w x) (sym is) same

-- ---- the status byte is polled for the first control submit alone

abbrev pub NonePolled : List Pending → Type 0
NonePolled [] = Unit {0}
NonePolled (submit ∷ submits) = (submit.polled ≡ false) × NonePolled submits

abbrev pub FirstPolled : Endpoint → List Pending → Type 0
FirstPolled e [] = Unit {0}
FirstPolled e (first ∷ others) = Unpolled e first × NonePolled others

-- the numbers of the pending submits are distinct, only the first control submit may be polled, and all fit
pub record IsSound (s : State) : Type 0 where
  pub distinct : (n : ℕ) → here n s ≤ 1
  pub polled : Each FirstPolled s
  pub fits : Each AllFit s
