-- whatever arrives can be taken in
use Rattle.std.proofs.Common.{◌≡◌, ◌∙◌, ◌⊎◌, inl, inr, ℕ, ◌<◌, Bool, true, false, List, [], ◌∷◌, ◌++◌, length, refl, ap, sym}
use Rattle.std.proofs.lemmas.Bool.{cases_eq, cases_Bool}
use Rattle.std.specs.Prelude.{slice_index}
use Rattle.usbip_wire.specs.declared.submit.SubmitHead.{SubmitHead}
use Rattle.usbip_wire.specs.declared.unlink.UnlinkHead.{UnlinkHead}
use Rattle.usbip_wire.specs.declared.urb.Dir.{Dir}
use Rattle.usbip_wire.specs.declared.urb.Dir.TheVariants.{Out, In}
use Rattle.usbip_wire.specs.Up as up
use Rattle.tmc_wire.specs.ClassStatus.{STATUS_SUCCESS}
use Rattle.tmc_law.specs.Endpoint.{Endpoint, Control, BulkOut, BulkIn, InterruptIn, number_of, way_of}
use Rattle.tmc_law.specs.State.{State, Pending, Plugged, start, arrived, queue_of, with_queue, pending, Avoids, is_halted}
use Rattle.tmc_law.specs.Put.{Put, answer_of, unlink_answer, success, stalled, unlinked}
use Rattle.tmc_law.specs.Control.{control_answer}
use Rattle.tmc_law.specs.Status.{status_layout}
use Rattle.tmc_law.specs.Queues.{IsSubmit, IsUnlink, IsTaken, Arrives, Queued, TurnedAway, Unlinks, Hits, Polled, Misses, pending_most}
use Rattle.tmc_law.specs.Step.{Comes, Steps}
use Rattle.tmc_law.specs.Run.{Entry, Runs}
use Rattle.tmc_law.specs.Reached.{AsksStatus}
use Rattle.tmc_law.proofs.PolledFor.{polled_for}

-- ---- submits

same_way : (a b : Dir) → (a ≡ b) ⊎ (a ≡ b → ⊥)
same_way Out Out = inl refl
same_way Out In = inr (λ e. cc)
same_way In Out = inr (λ e. cc)
same_way In In = inl refl

true_false : {A : Type 0} (b : Bool) → b ≡ true → b ≡ false → A
true_false b p q = let e : true ≡ false = sym p ∙ q in absurd (cc)

-- whether an endpoint takes it
takes_or : (s : State) (head : SubmitHead) (e : Endpoint) → IsTaken s head e ⊎ (IsTaken s head e → ⊥)
takes_or s head e = by (cases_eq head.ep (number_of e)) (same_way head.dir (way_of e (slice_index head.setup 0))) (cases_Bool (is_halted e s))
  where
    by : (head.ep ≡ number_of e) ⊎ (head.ep ≡ number_of e → ⊥) → (head.dir ≡ way_of e (slice_index head.setup 0)) ⊎ (head.dir ≡ way_of e (slice_index head.setup 0) → ⊥)
        → (is_halted e s ≡ true) ⊎ (is_halted e s ≡ false) → IsTaken s head e ⊎ (IsTaken s head e → ⊥)
    by (inr other) way halted = inr (λ taken. other taken.number)
    by (inl own) (inr other) halted = inr (λ taken. other taken.way)
    by (inl own) (inl way) (inl halted) = inr (λ taken. true_false (is_halted e s) halted taken.usable)
    by (inl own) (inl way) (inr usable) = inl (record { number = own; way = way; usable = usable })

abbrev Arrived : State → SubmitHead → List ℕ → Type 0
Arrived s head transferred = (puts : List Put) × (t : State) × Arrives s head transferred puts t

queued : (s : State) (head : SubmitHead) (transferred : List ℕ) (e : Endpoint) → IsTaken s head e → Arrived s head transferred
queued s head transferred e taken = ([], with_queue e (queue_of e s ++ arrived head transferred ∷ []) s, Queued e taken refl refl)

arrives : (s : State) (head : SubmitHead) (transferred : List ℕ) → Arrived s head transferred
arrives s head transferred = by (takes_or s head Control) (takes_or s head BulkOut) (takes_or s head BulkIn) (takes_or s head InterruptIn)
  where
    none : (IsTaken s head Control → ⊥) → (IsTaken s head BulkOut → ⊥) → (IsTaken s head BulkIn → ⊥) → (IsTaken s head InterruptIn → ⊥) → (e : Endpoint) → IsTaken s head e → ⊥
    none a b c d Control = a
    none a b c d BulkOut = b
    none a b c d BulkIn = c
    none a b c d InterruptIn = d

    by : IsTaken s head Control ⊎ (IsTaken s head Control → ⊥) → IsTaken s head BulkOut ⊎ (IsTaken s head BulkOut → ⊥) → IsTaken s head BulkIn ⊎ (IsTaken s head BulkIn → ⊥)
        → IsTaken s head InterruptIn ⊎ (IsTaken s head InterruptIn → ⊥) → Arrived s head transferred
    by (inl taken) b c d = queued s head transferred Control taken
    by (inr x) (inl taken) c d = queued s head transferred BulkOut taken
    by (inr x) (inr y) (inl taken) d = queued s head transferred BulkIn taken
    by (inr x) (inr y) (inr z) (inl taken) = queued s head transferred InterruptIn taken
    by (inr x) (inr y) (inr z) (inr w) = (answer_of head stalled [] ∷ [], s, TurnedAway (none x y z w) refl refl)

pub submits_come : (s : State) (head : SubmitHead) (transferred : List ℕ) → s.presence ≡ Plugged → IsSubmit head transferred → Avoids head.seqnum (pending s) → length (pending s) < pending_most
    → (puts : List Put) × (t : State) × Steps s (Comes (up.Submit head transferred)) puts t
submits_come s head transferred plugged is free few =
    let a = arrives s head transferred in (a.0, a.1, record { plugged = plugged; leads = (is, free, few, a.2) })

-- ---- unlinks

-- where a number stands in a queue
record Found (n : ℕ) (queue : List Pending) : Type 0 where
  before : List Pending
  submit : Pending
  behind : List Pending
  holds : queue ≡ before ++ submit ∷ behind
  own : submit.head.seqnum ≡ n

found_or : (n : ℕ) (queue : List Pending) → Found n queue ⊎ Avoids n queue
found_or n [] = inr tt
found_or n (x ∷ queue) = by (cases_eq x.head.seqnum n) (found_or n queue)
  where
    by : (x.head.seqnum ≡ n) ⊎ (x.head.seqnum ≡ n → ⊥) → Found n queue ⊎ Avoids n queue → Found n (x ∷ queue) ⊎ Avoids n (x ∷ queue)
    by (inl own) rest = inl (record { before = []; submit = x; behind = queue; holds = refl; own = own })
    by (inr other) (inl f) = inl (record { before = x ∷ f.before; submit = f.submit; behind = f.behind; holds = ap (λ (q : List Pending). x ∷ q) f.holds; own = f.own })
    by (inr other) (inr none) = inr (other, none)

avoids-append : (n : ℕ) (a b : List Pending) → Avoids n a → Avoids n b → Avoids n (a ++ b)
avoids-append n [] b h k = k
avoids-append n (x ∷ a) b h k = (h.0, avoids-append n a b h.1 k)

abbrev Unlinked : State → UnlinkHead → Type 0
Unlinked s head = (puts : List Put) × (t : State) × Unlinks s head puts t

hits : (run : List Entry) (s : State) (head : UnlinkHead) (e : Endpoint) → Runs start run s → Found head.target (queue_of e s) → Unlinked s head
hits run s head e goes f = by (cases_Bool f.submit.polled)
  where
    asked : f.submit.polled ≡ true → AsksStatus f.submit
    asked polled = (polled_for run s e f.before f.submit f.behind goes f.holds polled).2

    by : (f.submit.polled ≡ true) ⊎ (f.submit.polled ≡ false) → Unlinked s head
    by (inl polled) =
        let a = asked polled in (
          control_answer f.submit a.setup (status_layout STATUS_SUCCESS a.tag) ∷ unlink_answer head success ∷ [],
          with_queue e (f.before ++ f.behind) s,
          Polled e f.before f.submit f.behind a.setup a.tag f.holds f.own polled a.asks a.row refl refl,
        )
    by (inr fresh) = (unlink_answer head unlinked ∷ [], with_queue e (f.before ++ f.behind) s, Hits e f.before f.submit f.behind f.holds f.own fresh refl refl)

unlinks : (run : List Entry) (s : State) (head : UnlinkHead) → Runs start run s → Unlinked s head
unlinks run s head goes = by (found_or head.target s.control) (found_or head.target s.bulk_out) (found_or head.target s.bulk_in) (found_or head.target s.interrupt_in)
  where
    by : Found head.target s.control ⊎ Avoids head.target s.control → Found head.target s.bulk_out ⊎ Avoids head.target s.bulk_out
        → Found head.target s.bulk_in ⊎ Avoids head.target s.bulk_in → Found head.target s.interrupt_in ⊎ Avoids head.target s.interrupt_in → Unlinked s head
    by (inl f) b c d = hits run s head Control goes f
    by (inr x) (inl f) c d = hits run s head BulkOut goes f
    by (inr x) (inr y) (inl f) d = hits run s head BulkIn goes f
    by (inr x) (inr y) (inr z) (inl f) = hits run s head InterruptIn goes f
    by (inr x) (inr y) (inr z) (inr w) = (
      unlink_answer head success ∷ [],
      s,
      Misses (avoids-append head.target s.control (s.bulk_out ++ (s.bulk_in ++ s.interrupt_in)) x
          (avoids-append head.target s.bulk_out (s.bulk_in ++ s.interrupt_in) y (avoids-append head.target s.bulk_in s.interrupt_in z w))) refl refl,
    )

pub unlinks_come : (run : List Entry) (s : State) (head : UnlinkHead) → Runs start run s → s.presence ≡ Plugged → IsUnlink head → (puts : List Put) × (t : State) × Steps s (Comes (up.Unlink head)) puts t
unlinks_come run s head goes plugged is = let u = unlinks run s head goes in (u.0, u.1, record { plugged = plugged; leads = (is, u.2) })
