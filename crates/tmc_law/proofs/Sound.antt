-- the invariant of a lawful device holds of all reachable states
use Rattle.std.proofs.Common.{◌≡◌, ℕ, ◌+◌, ◌≤◌, Bool, true, false, cond, eqb, List, [], ◌∷◌, ◌++◌, refl, sym, subst, arith}
use Rattle.std.proofs.lemmas.Bool.{eqb-true}
use Rattle.usbip_wire.specs.declared.submit.SubmitHead.{SubmitHead}
use Rattle.usbip_wire.specs.declared.urb.Dir.{Dir}
use Rattle.usbip_wire.specs.declared.urb.Dir.TheVariants.{Out, In}
use Rattle.usbip_wire.specs.Submit.{Carries}
use Rattle.usbip_wire.specs.Up as up
use Rattle.tmc_law.specs.Endpoint.{Endpoint, Control, BulkOut, BulkIn, InterruptIn}
use Rattle.tmc_law.specs.State.{State, Pending, start, arrived, queue_of, with_queue, pending, Avoids}
use Rattle.tmc_law.specs.Put.{Put}
use Rattle.tmc_law.specs.Queues.{IsSubmit, Arrives, Queued, TurnedAway, IsTaken}
use Rattle.tmc_law.specs.Step.{Move, Comes, Refuses, Take, Exec, Begin, Fill, Answer, Pend, Poll, Notify, Halt, Unplug, Leads, Steps}
use Rattle.tmc_law.specs.Run.{Entry, Runs}
use Rattle.tmc_law.proofs.Queued.{here, not_here, Each, each-with, each_same, NonePolled, FirstPolled}
use Rattle.tmc_law.specs.Reached.{AllFit}
pub use Rattle.tmc_law.proofs.Queued.{IsSound}
use Rattle.usbip_wire.specs.declared.unlink.UnlinkHead.{UnlinkHead}
use Rattle.tmc_law.specs.Acts.{Unpolled, Sized, FitsAt, IsLater, Acts, Done, Replies, Changes, Hit, Miss, unlinks_of}
pub use Rattle.tmc_law.specs.Acts.{Does, Arriving, Acting}
use Rattle.tmc_law.proofs.ActsOf.{acts}
use Rattle.tmc_law.proofs.Counted.{acts_count, arrival_count}

pub sound_start : IsSound start
sound_start = record { distinct = λ n. omega arith; polled = all_start; fits = all_fit }
  where
    all_start : Each FirstPolled start
    all_start Control = tt
    all_start BulkOut = tt
    all_start BulkIn = tt
    all_start InterruptIn = tt

    all_fit : Each AllFit start
    all_fit Control = tt
    all_fit BulkOut = tt
    all_fit BulkIn = tt
    all_fit InterruptIn = tt

-- ---- polled

unpolled : (e : Endpoint) (submit : Pending) → submit.polled ≡ false → Unpolled e submit
unpolled Control submit h = tt
unpolled BulkOut submit h = h
unpolled BulkIn submit h = h
unpolled InterruptIn submit h = h

first_of_none : (e : Endpoint) (submits : List Pending) → NonePolled submits → FirstPolled e submits
first_of_none e [] h = tt
first_of_none e (first ∷ others) h = (unpolled e first h.0, h.1)

none_without : (before : List Pending) (submit : Pending) (behind : List Pending) → NonePolled (before ++ submit ∷ behind) → NonePolled (before ++ behind)
none_without [] submit behind h = h.1
none_without (first ∷ before) submit behind h = (h.0, none_without before submit behind h.1)

first_without : (e : Endpoint) (before : List Pending) (submit : Pending) (behind : List Pending) → FirstPolled e (before ++ submit ∷ behind) → FirstPolled e (before ++ behind)
first_without e [] submit behind h = first_of_none e behind h.1
first_without e (first ∷ before) submit behind h = (h.0, none_without before submit behind h.1)

none_more : (submits : List Pending) (last : Pending) → NonePolled submits → last.polled ≡ false → NonePolled (submits ++ last ∷ [])
none_more [] last h fresh = (fresh, tt)
none_more (first ∷ submits) last h fresh = (h.0, none_more submits last h.1 fresh)

first_more : (e : Endpoint) (submits : List Pending) (last : Pending) → FirstPolled e submits → last.polled ≡ false → FirstPolled e (submits ++ last ∷ [])
first_more e [] last h fresh = (unpolled e last fresh, tt)
first_more e (first ∷ submits) last h fresh = (h.0, none_more submits last h.1 fresh)

-- ---- fits

fit_without : (e : Endpoint) (before : List Pending) (submit : Pending) (behind : List Pending) → AllFit e (before ++ submit ∷ behind) → AllFit e (before ++ behind)
fit_without e [] submit behind h = h.1
fit_without e (first ∷ before) submit behind h = (h.0, fit_without e before submit behind h.1)

fit_more : (e : Endpoint) (submits : List Pending) (last : Pending) → AllFit e submits → FitsAt e last → AllFit e (submits ++ last ∷ [])
fit_more e [] last h fits = (fits, tt)
fit_more e (first ∷ submits) last h fits = (h.0, fit_more e submits last h.1 fits)

-- ---- acts

-- what holds of a queue, also without one of its submits, and with its first one changed
pub record Stays (P : Endpoint → List Pending → Type 0) : Type 0 where
  pub without : (e : Endpoint) (before : List Pending) (submit : Pending) (behind : List Pending) → P e (before ++ submit ∷ behind) → P e (before ++ behind)
  pub later : (e : Endpoint) (submit later : Pending) (behind : List Pending) → IsLater e submit later → P e (submit ∷ behind) → P e (later ∷ behind)

pub acts_keep : (P : Endpoint → List Pending → Type 0) → Stays P → (t s : State) (unlinks : List UnlinkHead) (puts : List Put) → Acts t s unlinks puts → Each P s → Each P t
acts_keep P stays t s _ _ (Done _ same) h = each_same P s t same h
acts_keep P stays t s unlinks _ (Replies _ _ puts e submit behind status moved queue ok within rest) h =
    acts_keep P stays t (with_queue e behind s) unlinks puts rest
    (each-with P e behind s h (stays.without e [] submit behind (subst (λ (q : List Pending). P e q) queue (h e))))
acts_keep P stays t s unlinks puts (Changes _ _ _ e submit later behind queue changed rest) h =
    acts_keep P stays t (with_queue e (later ∷ behind) s) unlinks puts rest
    (each-with P e (later ∷ behind) s h (stays.later e submit later behind changed (subst (λ (q : List Pending). P e q) queue (h e))))
acts_keep P stays t s _ _ (Hit _ unlinks puts head e before submit behind queue target none rest) h =
    acts_keep P stays t (with_queue e (before ++ behind) s) unlinks puts rest
    (each-with P e (before ++ behind) s h (stays.without e before submit behind (subst (λ (q : List Pending). P e q) queue (h e))))
acts_keep P stays t s _ _ (Miss _ unlinks puts head none rest) h = acts_keep P stays t s unlinks puts rest h

acts_sound : (t s : State) (unlinks : List UnlinkHead) (puts : List Put) → Acts t s unlinks puts → IsSound s → IsSound t
acts_sound t s unlinks puts a sound = record {
  distinct = λ n. omega (arith, acts_count n t s unlinks puts a, sound.distinct n);
  polled = acts_keep FirstPolled (record { without = first_without; later = λ e submit later behind changed h. (changed.polled h.0, h.1) }) t s unlinks puts a sound.polled;
  fits = acts_keep AllFit (record { without = fit_without; later = λ e submit later behind changed h. (changed.fits h.0, h.1) }) t s unlinks puts a sound.fits;
}

-- ---- arrivals

carried_sized : (d : Dir) (head : SubmitHead) (transferred : List ℕ) → Carries d head.length transferred → Sized d (arrived head transferred)
carried_sized Out head transferred h = omega (arith, h)
carried_sized In head transferred h = (omega arith, h)

arrived_fits : (s : State) (e : Endpoint) (head : SubmitHead) (transferred : List ℕ) → IsTaken s head e → IsSubmit head transferred
    → FitsAt e (arrived head transferred)
arrived_fits s e head transferred is_taken came = record {
  number = is_taken.number;
  way = is_taken.way;
  sized = carried_sized head.dir head transferred came.carried;
  transferred = transferred;
  came = came;
}

one_less : (m n : ℕ) (k : ℕ) → (m ≡ n → k ≡ 0) → k ≤ 1 → cond (eqb m n) 1 0 + k ≤ 1
one_less m n k free few = by (eqb m n) refl
  where
    by : (b : Bool) → eqb m n ≡ b → cond b 1 0 + k ≤ 1
    by true e = omega (arith, free (eqb-true m n e))
    by false e = omega (arith, few)

arrives_sound : (s t : State) (head : SubmitHead) (transferred : List ℕ) (puts : List Put) → IsSubmit head transferred → Avoids head.seqnum (pending s)
    → Arrives s head transferred puts t → IsSound s → IsSound t
arrives_sound s t head transferred puts came free (TurnedAway none put is) sound = subst (λ (x : State). IsSound x) (sym is) sound
arrives_sound s t head transferred puts came free (Queued e is_taken put is) sound = record {
  distinct = λ n. omega (
    arith,
    arrival_count n s t head transferred puts (Queued e is_taken put is),
    one_less head.seqnum n (here n s) (λ same. subst (λ (k : ℕ). here k s ≡ 0) same (not_here head.seqnum s free)) (sound.distinct n),
  );
  polled = subst (λ (x : State). Each FirstPolled x) (sym is)
      (each-with FirstPolled e (queue_of e s ++ arrived head transferred ∷ []) s sound.polled (first_more e (queue_of e s) (arrived head transferred) (sound.polled e) refl));
  fits = subst (λ (x : State). Each AllFit x) (sym is)
      (each-with AllFit e (queue_of e s ++ arrived head transferred ∷ []) s sound.fits
      (fit_more e (queue_of e s) (arrived head transferred) (sound.fits e) (arrived_fits s e head transferred is_taken came)));
}

-- ---- steps and runs

leads_does : (s : State) (move : Move) (puts : List Put) (t : State) → IsSound s → Leads s move puts t → Does s move puts t
leads_does s (Comes (up.Submit head transferred)) puts t sound h = Arriving head transferred refl h.0 h.1 h.3
leads_does s (Comes (up.Unlink head)) puts t sound h = Acting (λ no. absurd no) (acts s (Comes (up.Unlink head)) puts t sound (λ no. absurd no) h)
leads_does s (Refuses devid bytes f) puts t sound h = Acting (λ no. absurd no) (acts s (Refuses devid bytes f) puts t sound (λ no. absurd no) h)
leads_does s (Take count) puts t sound h = Acting (λ no. absurd no) (acts s (Take count) puts t sound (λ no. absurd no) h)
leads_does s Exec puts t sound h = Acting (λ no. absurd no) (acts s Exec puts t sound (λ no. absurd no) h)
leads_does s (Begin count) puts t sound h = Acting (λ no. absurd no) (acts s (Begin count) puts t sound (λ no. absurd no) h)
leads_does s (Fill count) puts t sound h = Acting (λ no. absurd no) (acts s (Fill count) puts t sound (λ no. absurd no) h)
leads_does s Answer puts t sound h = Acting (λ no. absurd no) (acts s Answer puts t sound (λ no. absurd no) h)
leads_does s Pend puts t sound h = Acting (λ no. absurd no) (acts s Pend puts t sound (λ no. absurd no) h)
leads_does s Poll puts t sound h = Acting (λ no. absurd no) (acts s Poll puts t sound (λ no. absurd no) h)
leads_does s Notify puts t sound h = Acting (λ no. absurd no) (acts s Notify puts t sound (λ no. absurd no) h)
leads_does s (Halt e) puts t sound h = Acting (λ no. absurd no) (acts s (Halt e) puts t sound (λ no. absurd no) h)
leads_does s Unplug puts t sound h = Acting (λ no. absurd no) (acts s Unplug puts t sound (λ no. absurd no) h)

pub does : (s : State) (move : Move) (puts : List Put) (t : State) → IsSound s → Steps s move puts t → Does s move puts t
does s move puts t sound step = leads_does s move puts t sound step.leads

does_sound : (s : State) (move : Move) (puts : List Put) (t : State) → IsSound s → Does s move puts t → IsSound t
does_sound s move puts t sound (Arriving head transferred is came free arrives) = arrives_sound s t head transferred puts came free arrives sound
does_sound s move puts t sound (Acting other a) = acts_sound t s (unlinks_of move) puts a sound

pub sound_step : (s : State) (move : Move) (puts : List Put) (t : State) → IsSound s → Steps s move puts t → IsSound t
sound_step s move puts t sound step = does_sound s move puts t sound (does s move puts t sound step)

pub sound_run : (s : State) (run : List Entry) (t : State) → IsSound s → Runs s run t → IsSound t
sound_run s [] t sound h = subst (λ (x : State). IsSound x) (sym h) sound
sound_run s (entry ∷ run) t sound h = sound_run h.0 run t (sound_step s entry.move entry.puts h.0 sound h.1) h.2

-- what was reached from the start
pub sound : (run : List Entry) (s : State) → Runs start run s → IsSound s
sound run s h = sound_run start run s sound_start h
