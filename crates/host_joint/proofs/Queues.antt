-- the queues of a state
use Rattle.std.proofs.Common.{◌≡◌, ◌⊎◌, inl, inr, ℕ, true, false, eqb, List, [], ◌∷◌, ◌++◌, refl}
use Rattle.tmc_law.specs.Endpoint.{Endpoint, Control, BulkOut, BulkIn, InterruptIn, number_of}
use Rattle.tmc_law.specs.Acts.{SameQueues}
use Rattle.tmc_law.specs.Reached.{AllFit}
use Rattle.tmc_law.specs.State.{State, Pending, queue_of, with_queue, pending, Avoids}

-- ---- one queue and the others

pub queue-with : (e : Endpoint) (queue : List Pending) (s : State) → queue_of e (with_queue e queue s) ≡ queue
queue-with Control queue s = refl
queue-with BulkOut queue s = refl
queue-with BulkIn queue s = refl
queue-with InterruptIn queue s = refl

pub with-own : (e : Endpoint) (s : State) → with_queue e (queue_of e s) s ≡ s
with-own Control s = refl
with-own BulkOut s = refl
with-own BulkIn s = refl
with-own InterruptIn s = refl

pub with-twice : (e : Endpoint) (a b : List Pending) (s : State) → with_queue e a (with_queue e b s) ≡ with_queue e a s
with-twice Control a b s = refl
with-twice BulkOut a b s = refl
with-twice BulkIn a b s = refl
with-twice InterruptIn a b s = refl

-- what holds of each queue
abbrev pub Each : (Endpoint → List Pending → Type 0) → State → Type 0
Each P s = (d : Endpoint) → P d (queue_of d s)

pub each-with : (P : Endpoint → List Pending → Type 0) (e : Endpoint) (queue : List Pending) (s : State) → Each P s → P e queue → Each P (with_queue e queue s)
each-with P Control queue s h p Control = p
each-with P Control queue s h p BulkOut = h BulkOut
each-with P Control queue s h p BulkIn = h BulkIn
each-with P Control queue s h p InterruptIn = h InterruptIn
each-with P BulkOut queue s h p Control = h Control
each-with P BulkOut queue s h p BulkOut = p
each-with P BulkOut queue s h p BulkIn = h BulkIn
each-with P BulkOut queue s h p InterruptIn = h InterruptIn
each-with P BulkIn queue s h p Control = h Control
each-with P BulkIn queue s h p BulkOut = h BulkOut
each-with P BulkIn queue s h p BulkIn = p
each-with P BulkIn queue s h p InterruptIn = h InterruptIn
each-with P InterruptIn queue s h p Control = h Control
each-with P InterruptIn queue s h p BulkOut = h BulkOut
each-with P InterruptIn queue s h p BulkIn = h BulkIn
each-with P InterruptIn queue s h p InterruptIn = p

pub same_queue : (d : Endpoint) (s t : State) → SameQueues s t → queue_of d t ≡ queue_of d s
same_queue Control s t h = h.control
same_queue BulkOut s t h = h.bulk_out
same_queue BulkIn s t h = h.bulk_in
same_queue InterruptIn s t h = h.interrupt_in

pub same_refl : (s : State) → SameQueues s s
same_refl s = record { control = refl; bulk_out = refl; bulk_in = refl; interrupt_in = refl }

-- ---- two endpoints

pub record Apart (d e : Endpoint) : Type 0 where
  pub number : eqb (number_of d) (number_of e) ≡ false
  pub queue : (q : List Pending) (s : State) → queue_of e (with_queue d q s) ≡ queue_of e s

pub which : (d e : Endpoint) → (d ≡ e) ⊎ Apart d e
which Control Control = inl refl
which BulkOut BulkOut = inl refl
which BulkIn BulkIn = inl refl
which InterruptIn InterruptIn = inl refl
which Control BulkOut = inr (record { number = refl; queue = λ q s. refl })
which Control BulkIn = inr (record { number = refl; queue = λ q s. refl })
which Control InterruptIn = inr (record { number = refl; queue = λ q s. refl })
which BulkOut Control = inr (record { number = refl; queue = λ q s. refl })
which BulkOut BulkIn = inr (record { number = refl; queue = λ q s. refl })
which BulkOut InterruptIn = inr (record { number = refl; queue = λ q s. refl })
which BulkIn Control = inr (record { number = refl; queue = λ q s. refl })
which BulkIn BulkOut = inr (record { number = refl; queue = λ q s. refl })
which BulkIn InterruptIn = inr (record { number = refl; queue = λ q s. refl })
which InterruptIn Control = inr (record { number = refl; queue = λ q s. refl })
which InterruptIn BulkOut = inr (record { number = refl; queue = λ q s. refl })
which InterruptIn BulkIn = inr (record { number = refl; queue = λ q s. refl })

-- ---- what is pending nowhere

pub avoids-front : (n : ℕ) (a b : List Pending) → Avoids n (a ++ b) → Avoids n a
avoids-front n [] b h = tt
avoids-front n (x ∷ a) b h = (h.0, avoids-front n a b h.1)

pub avoids-behind : (n : ℕ) (a b : List Pending) → Avoids n (a ++ b) → Avoids n b
avoids-behind n [] b h = h
avoids-behind n (x ∷ a) b h = avoids-behind n a b h.1

pub avoids_queue : (n : ℕ) (s : State) → Avoids n (pending s) → (e : Endpoint) → Avoids n (queue_of e s)
avoids_queue n s h Control = avoids-front n s.control (s.bulk_out ++ (s.bulk_in ++ s.interrupt_in)) h
avoids_queue n s h BulkOut = avoids-front n s.bulk_out (s.bulk_in ++ s.interrupt_in) (avoids-behind n s.control (s.bulk_out ++ (s.bulk_in ++ s.interrupt_in)) h)
avoids_queue n s h BulkIn = avoids-front n s.bulk_in s.interrupt_in (avoids-behind n s.bulk_out (s.bulk_in ++ s.interrupt_in) (avoids-behind n s.control (s.bulk_out ++ (s.bulk_in ++ s.interrupt_in)) h))
avoids_queue n s h InterruptIn = avoids-behind n s.bulk_in s.interrupt_in (avoids-behind n s.bulk_out (s.bulk_in ++ s.interrupt_in) (avoids-behind n s.control (s.bulk_out ++ (s.bulk_in ++ s.interrupt_in)) h))

-- ---- the queues of a state that can be reached

pub record IsSound (s : State) : Type 0 where
  pub fits : (e : Endpoint) → AllFit e (queue_of e s)
  pub polled : (e : Endpoint) (before : List Pending) (submit : Pending) (behind : List Pending) → queue_of e s ≡ before ++ submit ∷ behind → submit.polled ≡ true
      → (e ≡ Control) × (before ≡ [])
