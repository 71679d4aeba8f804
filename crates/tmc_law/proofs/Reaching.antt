-- what holds of the queues in each state that can be reached
use Rattle.std.proofs.Common.{◌≡◌, ◌∙◌, ◌⊎◌, inl, inr, ℕ, ◌+◌, ◌≤◌, true, false, List, [], ◌∷◌, ◌++◌, length, refl, ap, sym, subst, length-append, arith}
use Rattle.usbip_wire.specs.declared.submit.SubmitHead.{SubmitHead}
use Rattle.usbip_wire.specs.Up as up
use Rattle.tmc_law.specs.Endpoint.{Endpoint, Control, BulkOut, BulkIn, InterruptIn}
use Rattle.tmc_law.specs.State.{State, Pending, start, arrived, queue_of, with_queue, is_halted, pending}
use Rattle.tmc_law.specs.Put.{Put}
use Rattle.tmc_law.specs.Queues.{Arrives, Queued, TurnedAway, pending_most}
use Rattle.tmc_law.specs.Step.{Move, Comes, Leads, Steps}
use Rattle.tmc_law.specs.Run.{Entry, Runs}
use Rattle.tmc_law.specs.HaltCauses.{HaltedBy}
use Rattle.usbip_wire.specs.declared.unlink.UnlinkHead.{UnlinkHead}
use Rattle.tmc_law.specs.Acts.{SameQueues, Acts, Done, Replies, Changes, Hit, Miss, unlinks_of}
use Rattle.tmc_law.specs.Reached.{HaltsAreEmpty, IsFresh, AreFresh, FirstBegins, AllFit, AreDistinct}
use Rattle.tmc_law.proofs.Queued.{times, times-pending, times_own, none_times, Each, each-with, IsSound}
use Rattle.tmc_law.proofs.Sound.{Does, Arriving, Acting, Stays, acts_keep, does, sound, sound_step, sound_start}
use Rattle.tmc_law.proofs.Flags.{flags, halted_now}

-- ---- the first alone has begun

fresh_without : (before : List Pending) (submit : Pending) (behind : List Pending) → AreFresh (before ++ submit ∷ behind) → AreFresh (before ++ behind)
fresh_without [] submit behind h = h.1
fresh_without (x ∷ before) submit behind h = (h.0, fresh_without before submit behind h.1)

first_of_fresh : (queue : List Pending) → AreFresh queue → FirstBegins queue
first_of_fresh [] h = tt
first_of_fresh (x ∷ queue) h = h.1

first_without : (before : List Pending) (submit : Pending) (behind : List Pending) → FirstBegins (before ++ submit ∷ behind) → FirstBegins (before ++ behind)
first_without [] submit behind h = first_of_fresh behind h
first_without (x ∷ before) submit behind h = fresh_without before submit behind h

fresh_more : (queue : List Pending) (last : Pending) → AreFresh queue → IsFresh last → AreFresh (queue ++ last ∷ [])
fresh_more [] last h fresh = (fresh, tt)
fresh_more (x ∷ queue) last h fresh = (h.0, fresh_more queue last h.1 fresh)

first_more : (queue : List Pending) (last : Pending) → FirstBegins queue → IsFresh last → FirstBegins (queue ++ last ∷ [])
first_more [] last h fresh = tt
first_more (x ∷ queue) last h fresh = fresh_more queue last h fresh

abbrev pub AllFirst : State → Type 0
AllFirst s = Each (λ e queue. FirstBegins queue) s

first_stays : Stays (λ e queue. FirstBegins queue)
first_stays = record { without = λ e before submit behind h. first_without before submit behind h; later = λ e submit later behind changed h. h }

pub first_does : (s : State) (move : Move) (puts : List Put) (t : State) → AllFirst s → Does s move puts t → AllFirst t
first_does s move puts t first (Arriving head transferred is came free (TurnedAway none put to)) = subst (λ (x : State). AllFirst x) (sym to) first
first_does s move puts t first (Arriving head transferred is came free (Queued e taken put to)) =
    subst (λ (x : State). AllFirst x) (sym to)
    (each-with (λ d queue. FirstBegins queue) e (queue_of e s ++ arrived head transferred ∷ []) s first (first_more (queue_of e s) (arrived head transferred) (first e) (refl, refl)))
first_does s move puts t first (Acting other a) = acts_keep (λ e queue. FirstBegins queue) first_stays t s (unlinks_of move) puts a first

-- ---- halted endpoints

no_submit : (before : List Pending) (submit : Pending) (behind : List Pending) → before ++ submit ∷ behind ≡ [] → ⊥
no_submit [] submit behind e = cc
no_submit (x ∷ before) submit behind e = cc

-- the queue of this endpoint is empty
abbrev NoneAt : Endpoint → Endpoint → List Pending → Type 0
NoneAt d e queue = e ≡ d → queue ≡ []

none_stays : (d : Endpoint) → Stays (NoneAt d)
none_stays d = record {
  without = λ e before submit behind h same. absurd (no_submit before submit behind (h same));
  later = λ e submit later behind changed h same. absurd (no_submit [] submit behind (h same));
}

stays_empty : (d : Endpoint) (s t : State) (unlinks : List UnlinkHead) (puts : List Put) → Acts t s unlinks puts → queue_of d s ≡ [] → queue_of d t ≡ []
stays_empty d s t unlinks puts a none = acts_keep (NoneAt d) (none_stays d) t s unlinks puts a (λ e same. subst (λ (x : Endpoint). queue_of x s ≡ []) (sym same) none) d refl

false_true : {B : Type 0} → false ≡ true → B
false_true e = absurd (cc)

pub halts_does : (s : State) (move : Move) (puts : List Put) (t : State) → HaltsAreEmpty s → Leads s move puts t → Does s move puts t → HaltsAreEmpty t
halts_does s move puts t empty h d e is = by d (halted_now s t move e (flags s t move puts h) is)
  where
    by : Does s move puts t → (is_halted e s ≡ true) ⊎ (HaltedBy s e move × (queue_of e t ≡ [])) → queue_of e t ≡ []
    by d (inr now) = now.1
    by (Acting other a) (inl was) = stays_empty e s t (unlinks_of move) puts a (empty e was)
    by (Arriving head transferred comes came free (TurnedAway none put to)) (inl was) = ap (λ (x : State). queue_of e x) to ∙ empty e was
    by (Arriving head transferred comes came free (Queued x taken put to)) (inl was) =
        ap (λ (y : State). queue_of e y) to
        ∙ each-with (λ y queue. is_halted y s ≡ true → queue ≡ []) x (queue_of x s ++ arrived head transferred ∷ []) s (λ y halted. empty y halted) (λ halted. false_true (sym taken.usable ∙ halted)) e was

-- ---- how many are pending

abbrev total : State → ℕ
total s = length s.control + (length s.bulk_out + (length s.bulk_in + length s.interrupt_in))

total-pending : (s : State) → length (pending s) ≡ total s
total-pending s =
    omega (arith, length-append s.control (s.bulk_out ++ (s.bulk_in ++ s.interrupt_in)), length-append s.bulk_out (s.bulk_in ++ s.interrupt_in), length-append s.bulk_in s.interrupt_in)

total-with : (e : Endpoint) (queue : List Pending) (s : State) → total (with_queue e queue s) + length (queue_of e s) ≡ total s + length queue
total-with Control queue s = omega arith
total-with BulkOut queue s = omega arith
total-with BulkIn queue s = omega arith
total-with InterruptIn queue s = omega arith

total_same : (s t : State) → SameQueues s t → total t ≡ total s
total_same s t h = rw (h.control, h.bulk_out, h.bulk_in, h.interrupt_in) refl

acts_total : (t s : State) (unlinks : List UnlinkHead) (puts : List Put) → Acts t s unlinks puts → total t ≤ total s
acts_total t s _ _ (Done _ same) = rw (total_same s t same) (omega arith)
acts_total t s unlinks _ (Replies _ _ puts e submit behind status moved queue ok within rest) =
    omega (arith, acts_total t (with_queue e behind s) unlinks puts rest, total-with e behind s, ap (λ (q : List Pending). length q) queue)
acts_total t s _ _ (Hit _ unlinks puts head e before submit behind queue target none rest) =
    omega (arith, acts_total t (with_queue e (before ++ behind) s) unlinks puts rest, total-with e (before ++ behind) s, ap (λ (q : List Pending). length q) queue, length-append before behind, length-append before (submit ∷ behind))
acts_total t s unlinks puts (Changes _ _ _ e submit later behind queue changed rest) =
    omega (arith, acts_total t (with_queue e (later ∷ behind) s) unlinks puts rest, total-with e (later ∷ behind) s, ap (λ (q : List Pending). length q) queue)
acts_total t s _ _ (Miss _ unlinks puts head none rest) = acts_total t s unlinks puts rest

arrives_total : (s t : State) (head : SubmitHead) (transferred : List ℕ) (puts : List Put) → Arrives s head transferred puts t → total t ≤ 1 + total s
arrives_total s t head transferred puts (TurnedAway none put to) = rw to (omega arith)
arrives_total s t head transferred puts (Queued e taken put to) =
    rw to (omega (arith, total-with e (queue_of e s ++ arrived head transferred ∷ []) s, length-append (queue_of e s) (arrived head transferred ∷ [])))

leads_total : (s : State) (move : Move) (puts : List Put) (t : State) → total s ≤ 256 → Leads s move puts t → Does s move puts t → total t ≤ 256
leads_total s move puts t few h (Acting other a) = omega (arith, few, acts_total t s (unlinks_of move) puts a)
leads_total s move puts t few h (Arriving head transferred is came free arrives) = by (subst (λ (m : Move). Leads s m puts t) is h)
  where
    by : Leads s (Comes (up.Submit head transferred)) puts t → total t ≤ 256
    by h = omega (arith, arrives_total s t head transferred puts h.3, h.2, total-pending s)

-- ---- over runs

pub record IsReached (s : State) : Type 0 where
  pub whole : IsSound s
  pub first : AllFirst s
  pub halts : HaltsAreEmpty s
  pub few : total s ≤ 256

pub reached_start : IsReached start
reached_start = record { whole = sound_start; first = first_start; halts = halts_start; few = omega arith }
  where
    first_start : AllFirst start
    first_start Control = tt
    first_start BulkOut = tt
    first_start BulkIn = tt
    first_start InterruptIn = tt

    halts_start : HaltsAreEmpty start
    halts_start Control h = refl
    halts_start BulkOut h = refl
    halts_start BulkIn h = refl
    halts_start InterruptIn h = refl

pub reached_step : (s : State) (move : Move) (puts : List Put) (t : State) → IsReached s → Steps s move puts t → IsReached t
reached_step s move puts t h step =
    let d = does s move puts t h.whole step in
    record {
      whole = sound_step s move puts t h.whole step;
      first = first_does s move puts t h.first d;
      halts = halts_does s move puts t h.halts step.leads d;
      few = leads_total s move puts t h.few step.leads d;
    }

reached_run : (s : State) (run : List Entry) (t : State) → IsReached s → Runs s run t → IsReached t
reached_run s [] t h is = subst (λ (x : State). IsReached x) (sym is) h
reached_run s (entry ∷ run) t h goes = reached_run goes.0 run t (reached_step s entry.move entry.puts goes.0 h goes.1) goes.2

pub reached : (run : List Entry) (s : State) → Runs start run s → IsReached s
reached run s goes = reached_run start run s reached_start goes

-- ---- in the words of the law

are_distinct : (queue : List Pending) → ((n : ℕ) → times n queue ≤ 1) → AreDistinct queue
are_distinct [] h = tt
are_distinct (submit ∷ queue) h = (
  none_times submit.head.seqnum queue (omega (arith, h submit.head.seqnum, times_own submit queue)),
  are_distinct queue (λ n. omega (arith, h n)),
)

pub stand : (run : List Entry) (s : State) (e : Endpoint) → Runs start run s → AllFit e (queue_of e s)
stand run s e goes = (sound run s goes).fits e

pub distinct : (run : List Entry) (s : State) → Runs start run s → AreDistinct (pending s)
distinct run s goes = are_distinct (pending s) (λ n. omega (arith, times-pending n s, (sound run s goes).distinct n))

pub few : (run : List Entry) (s : State) → Runs start run s → length (pending s) ≤ pending_most
few run s goes = omega (arith, total-pending s, (reached run s goes).few)
