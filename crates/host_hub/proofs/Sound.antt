-- the laws that a hub keeps, by subject
use Rattle.std.proofs.Common.{◌≡◌, ◌⊎◌, ℕ, ◌||◌, ◌&&◌, not, Bool, true, false, [], ◌∷◌, Option, Some, None, inl, inr, refl, sym, subst, ◌∙◌, arith}
use Rattle.std.specs.Prelude.{◌==◌, is_some, if◌then◌else◌}
use Rattle.std.proofs.lemmas.Bool.{eqb-true, eqb-false}
use Rattle.tmc_wire.specs.declared.class_request.ClassRequest.TheVariants as class
use Rattle.host_hub.specs.declared.outcome.End.{End}
use Rattle.host_hub.specs.Order.{Setting, Order, Part, Request, Trigger, Read, Listen, Class, ClearHalt, Unlink}
use Rattle.host_hub.specs.Record.{Asking, Happening, Past, Wrote, Took, Fell, Stopped, Asked, Cancelled, Cleared, GaveUp, Settled, Recovers, Of, Recovery}
use Rattle.host_hub.specs.Book.{BookLaw, active, asking_of, live, has}
use Rattle.host_hub.specs.Hand.{ended, is_begun}
use Rattle.host_hub.specs.Outstanding.{outstanding, is_listening}
use Rattle.host_hub.specs.Status.{is_status, is_status_kind, status_tag, next_status_tag, tag_in}
use Rattle.host_hub.specs.Causes.{reached}
use Rattle.host_hub.specs.Law.{Lawful, Allowed, Kept, WaitsIn, Planned, WriteLaw, Runs}
use Rattle.host_hub.specs.Facts.{Each, BookOk, CauseLaw, Caused, UnlinkLaw, Unlinked, TrafficLaw, Traffic, RecoveryLaw, Recovered, Waiting}
use Rattle.host_hub.proofs.Lists.{clash, or_cases, first_has, has_added, has_removed}
use Rattle.host_hub.proofs.Pasts.{are_caused, begun_active, begun_known, hand_begun}

each : (s : Setting) (Law : Past → Happening → Type 0) → ((past : Past) (x : Happening) → Allowed s past x → Law past x) → (past : Past) → Lawful s past → Each Law past
each s Law gives [] h = tt
each s Law gives (x ∷ past) h = (each s Law gives past h.0, gives past x h.1)

book_law : (s : Setting) (past : Past) (x : Happening) → Allowed s past x → BookLaw past x
book_law s past (Asked t a) h = h.1
book_law s past (Cancelled t) h = h.1
book_law s past (Cleared w) h = h.1
book_law s past GaveUp h = h.1
book_law s past (Settled t o) h = h.0
book_law s past x h = tt

cause_law : (s : Setting) (past : Past) (x : Happening) → Allowed s past x → CauseLaw s past x
cause_law s past (Took m) h = h.2
cause_law s past (Fell m e) h = h.2
cause_law s past (Stopped e) h = h.1
cause_law s past (Settled t o) h = h.1
cause_law s past x h = tt

unlink_law : (s : Setting) (past : Past) (x : Happening) → Allowed s past x → UnlinkLaw s past x
unlink_law s past (Wrote n (Of t) (Unlink k)) h = h.2
unlink_law s past (Wrote n Recovery (Unlink k)) h = h.2
unlink_law s past x h = tt

traffic_law : (s : Setting) (past : Past) (x : Happening) → Allowed s past x → TrafficLaw s past x
traffic_law s past (Wrote n o k) h = (h.1, h.2)
traffic_law s past x h = tt

recovery_law : (s : Setting) (past : Past) (x : Happening) → Allowed s past x → RecoveryLaw past x
recovery_law s past Recovers h = h.1
recovery_law s past x h = tt

pub book_ok : (s : Setting) (past : Past) → Kept s past → BookOk past
book_ok s past kept = each s BookLaw (book_law s) past kept.lawful

pub caused : (s : Setting) (past : Past) → Kept s past → Caused s past
caused s past kept = record { each = each s (CauseLaw s) (cause_law s) past kept.lawful; all = are_caused s past kept }

pub unlinked : (s : Setting) (past : Past) → Kept s past → Unlinked s past
unlinked s past kept = record { each = each s (UnlinkLaw s) (unlink_law s) past kept.lawful; none = kept.quiet.unlinked }

pub traffic : (s : Setting) (past : Past) → Kept s past → Traffic s past
traffic s past kept = record { each = each s (TrafficLaw s) (traffic_law s) past kept.lawful; none = kept.quiet.written }

waits_now : (s : Setting) (past : Past) → Kept s past → ended past ≡ None → WaitsIn None past
waits_now s past kept running = subst (λ (e : Option End). WaitsIn e past) running kept.quiet.waits

pub recovered : (s : Setting) (past : Past) → Kept s past → Recovered past
recovered s past kept = record { each = each s RecoveryLaw (recovery_law s) past kept.lawful; all = λ running. (waits_now s past kept running).1 }

-- ---- a status read that has begun made its request

-- its next submit is due wherever the request is not made
owes_poll : (s : Setting) (past : Past) (t : ℕ) → active past ≡ Some t → is_some (reached t past) ≡ false → is_begun t past ≡ true → is_status (asking_of t past) ≡ true
    → is_some (status_tag t past) ≡ false → (order : Order) × Planned s past t order
owes_poll s past t turn free begun status none = by (asking_of t past) refl status
  where
    plan : Setting → Bool → Order
    plan s true = Listen
    plan s false = Class (class.ReadStatus (next_status_tag s past))

    kind : (a : Asking) → asking_of t past ≡ Some a → is_status_kind a.kind ≡ true → (b : Bool)
        → (is_some s.ends.notify && not (is_listening (outstanding past))) ≡ b → (order : Order) × Planned s past t order
    kind a is listens true e = (Listen, record { turn = turn; free = free; when = rw begun tt; plan = rw is (rw listens (rw e refl)) })
    kind a is listens false e =
        (Class (class.ReadStatus (next_status_tag s past)), record { turn = turn; free = free; when = rw begun tt; plan = rw is (rw listens (rw e (rw none refl))) })

    by : (o : Option Asking) → asking_of t past ≡ o → is_status o ≡ true → (order : Order) × Planned s past t order
    by None is h = clash h
    by (Some a) is h = kind a is h (is_some s.ends.notify && not (is_listening (outstanding past))) refl

polled_now : (s : Setting) (past : Past) (t : ℕ) → ended past ≡ None → ((u : ℕ) (order : Order) → Planned s past u order → ⊥)
    → active past ≡ Some t → is_some (reached t past) ≡ false → is_begun t past ≡ true → is_status (asking_of t past) ≡ true → is_some (status_tag t past) ≡ true
polled_now s past t running none turn free begun status = step (is_some (status_tag t past)) refl
  where
    step : (b : Bool) → is_some (status_tag t past) ≡ b → is_some (status_tag t past) ≡ true
    step true e = e
    step false e = let due = owes_poll s past t turn free begun status e in absurd (none t due.0 due.1)

-- what is written for a ticket was not stopped, or had begun
goes_on : (s : Setting) (past : Past) (t : ℕ) (order : Order) → WriteLaw s past (Of t) order → (is_some (reached t past) ≡ false) ⊎ (is_begun t past ≡ true)
goes_on s past t (Part tag text eom) law = inl law.0.free
goes_on s past t (Request tag size) law = inl law.0.free
goes_on s past t (Trigger tag) law = inl law.0.free
goes_on s past t Read law = inl law.0.free
goes_on s past t Listen law = inl law.0.free
goes_on s past t (Class request) law = inl law.0.free
goes_on s past t (ClearHalt endpoint) law = inl law.0.free
goes_on s past t (Unlink target) law = inr (hand_begun t past law.0)

abbrev IsPolled : ℕ → Past → Type 0
IsPolled t past = has t (live past) ≡ true → is_begun t past ≡ true → is_status (asking_of t past) ≡ true → is_some (reached t past) ≡ true → is_some (status_tag t past) ≡ true

stays_tagged : (order : Order) (before : Option ℕ) → is_some before ≡ true → is_some (tag_in order before) ≡ true
stays_tagged (Class (class.ReadStatus tag)) before h = refl
stays_tagged order before h = h

wrote_polled : (s : Setting) (past : Past) (t u : ℕ) (order : Order) → WriteLaw s past (Of u) order → IsPolled t past
    → has t (live past) ≡ true → (u == t) || is_begun t past ≡ true → is_status (asking_of t past) ≡ true → is_some (reached t past) ≡ true
    → is_some (if u == t then tag_in order (status_tag t past) else status_tag t past) ≡ true
wrote_polled s past t u order law before lives begun status stopped = step (u == t) refl (or_cases (u == t) (is_begun t past) begun)
  where
    now : u ≡ t → (is_some (reached u past) ≡ false) ⊎ (is_begun u past ≡ true) → is_begun t past ≡ true
    now e (inl free) = clash (sym (subst (λ (v : ℕ). is_some (reached v past) ≡ false) e free) ∙ stopped)
    now e (inr old) = subst (λ (v : ℕ). is_begun v past ≡ true) e old

    had : ((u == t) ≡ true) ⊎ (is_begun t past ≡ true) → is_begun t past ≡ true
    had (inl e) = now (eqb-true u t e) (goes_on s past u order law)
    had (inr old) = old

    step : (b : Bool) → (u == t) ≡ b → ((u == t) ≡ true) ⊎ (is_begun t past ≡ true)
        → is_some (if b then tag_in order (status_tag t past) else status_tag t past) ≡ true
    step true e old = stays_tagged order (status_tag t past) (before lives (had old) status stopped)
    step false e old = before lives (had old) status stopped

-- a stop finds a status read that made its request
stop_polled : (s : Setting) (past : Past) (t : ℕ) → Lawful s past → Runs s past → IsPolled t past → has t (live past) ≡ true → is_begun t past ≡ true
    → is_status (asking_of t past) ≡ true → is_some (status_tag t past) ≡ true
stop_polled s past t h runs before lives begun status = step (is_some (reached t past)) refl
  where
    step : (b : Bool) → is_some (reached t past) ≡ b → is_some (status_tag t past) ≡ true
    step true e = before lives begun status e
    step false e = polled_now s past t runs.running (runs.quiet.written runs.running) (begun_active s past h t lives begun) e begun status

polled_by : (s : Setting) (past : Past) → Lawful s past → (t : ℕ) → IsPolled t past
polled_by s [] h t lives begun status stopped = clash lives
polled_by s (Wrote n (Of u) k ∷ past) h t lives begun status stopped = wrote_polled s past t u k h.1.2 (polled_by s past h.0 t) lives begun status stopped
polled_by s (Cancelled u ∷ past) h t lives begun status stopped = stop_polled s past t h.0 h.1.0 (polled_by s past h.0 t) lives begun status
polled_by s (Cleared w ∷ past) h t lives begun status stopped = stop_polled s past t h.0 h.1.0 (polled_by s past h.0 t) lives begun status
polled_by s (Settled u o ∷ past) h t lives begun status stopped = polled_by s past h.0 t (has_removed t u (live past) lives).0 begun status stopped
polled_by s (Asked u a ∷ past) h t lives begun status stopped = step (λ l k. polled_by s past h.0 t l begun k stopped) (u == t) refl status (has_added t u (live past) lives)
  where
    step : (has t (live past) ≡ true → is_status (asking_of t past) ≡ true → is_some (status_tag t past) ≡ true) → (b : Bool) → (u == t) ≡ b → is_status (if b then Some a else asking_of t past) ≡ true → (has t (live past) ≡ true) ⊎ (u ≡ t) → is_some (status_tag t past) ≡ true
    step again true e k l = absurd (omega (arith, eqb-true u t e, h.1.1, begun_known s past h.0 t begun))
    step again false e k (inl l) = again l k
    step again false e k (inr l) = absurd (eqb-false u t e l)
polled_by s (x ∷ past) h t lives begun status stopped = polled_by s past h.0 t lives begun status stopped

pub waiting : (s : Setting) (past : Past) → Kept s past → Waiting past
waiting s past kept = record {
  ticket = λ running. (waits_now s past kept running).0;
  polled = λ running t turn begun status. by running t turn begun status (is_some (reached t past)) refl;
  recovered = λ running. (waits_now s past kept running).1;
}
  where
    by : ended past ≡ None → (t : ℕ) → active past ≡ Some t → is_begun t past ≡ true → is_status (asking_of t past) ≡ true
        → (b : Bool) → is_some (reached t past) ≡ b → is_some (status_tag t past) ≡ true
    by running t turn begun status true e = polled_by s past kept.lawful t (first_has t (live past) turn) begun status e
    by running t turn begun status false e = polled_now s past t running (kept.quiet.written running) turn e begun status
