-- a ticket that waits is cancelled, and answers race the unlinks of one that was
use Rattle.std.proofs.Common.{◌≡◌, ◌≢◌, ℕ, ◌&&◌, ◌||◌, not, Bool, true, false, List, [], ◌∷◌, Option, Some, None, refl, sym, subst, ◌∙◌, ap, arith}
use Rattle.std.specs.Prelude.{◌==◌, if◌then◌else◌, is_some, MatchBool}
use Rattle.std.proofs.lemmas.Bool.{eqb-true, eqb-false}
use Rattle.usbip_wire.specs.Down as down
use Rattle.usbip_wire.specs.declared.ret_submit.RetSubmitHead.{RetSubmitHead}
use Rattle.host_recover.specs.declared.need.Need.{Need}
use Rattle.host_recover.specs.declared.need.Need.TheVariants as need
use Rattle.host_hub.specs.declared.outcome.Outcome.{Outcome}
use Rattle.host_hub.specs.declared.outcome.Outcome.TheVariants as outcome
use Rattle.host_hub.specs.declared.outcome.End.{End}
use Rattle.tmc_wire.specs.declared.class_request.ClassRequest.TheVariants.{ReadStatus}
use Rattle.host_hub.specs.Order.{Setting, Order, Class, Listen}
use Rattle.host_hub.specs.Record.{Asking, Past, Wrote, Took, Cancelled, Cleared, Settled}
use Rattle.host_hub.specs.Outstanding.{Sent, busy, find, involved, is_listening, outstanding}
use Rattle.host_hub.specs.Book.{is_active, live, has, remove, first_of, active, is_cancelled, asking_of, or_else}
use Rattle.host_hub.specs.Hand.{ended, in_hand, is_begun, is_of}
use Rattle.host_hub.specs.Pieces.{pieces}
use Rattle.host_hub.specs.Plan.{When, follows, last, next_tag, parts, planned}
use Rattle.host_hub.specs.Status.{awaits, grants, is_left, is_said, is_status, is_status_kind, last_status_tag, skipping, stale, status_tag, tag_behind}
use Rattle.host_hub.specs.Made.{made_at}
use Rattle.host_hub.specs.Causes.{AreSettled, cause, reached, stops}
use Rattle.host_hub.specs.Needs.{need_of}
use Rattle.host_hub.specs.Recovery.{AreRecovered, is_called, is_served}
use Rattle.host_hub.specs.Unlinks.{unlinks_due, unlinks_of}
use Rattle.host_hub.specs.Ends.{end_due}
use Rattle.host_hub.specs.Law.{Begins, Kept, Lawful, Planned, Waits, WaitsFor, WaitsIn}
use Rattle.host_hub.specs.Steps.{Comes, Working, took}
use Rattle.host_hub.proofs.Lists.{and_false, clash, differ, first_has, first_removed, has_removed, neither, own, same}
use Rattle.host_hub.proofs.Pasts.{begun_active, free_stop, hand_begun, not_stopped, still_live, unbegun_free, unbegun_waits, unreached}
use Rattle.host_hub.proofs.Quiets.{waits_begun}
use Rattle.host_hub.proofs.Stepping.{answer_settles, idle_kept, none_other, queued_kept, rests}
use Rattle.host_hub.proofs.Stopping.{first_stops, waits_on}

-- ---- the answer makes no outcome

pub races_kept : (s : Setting) (past : Past) (t n : ℕ) (k : Order) (stop : Outcome) (head : RetSubmitHead) (bytes : List ℕ) → Kept s past → ended past ≡ None
    → Comes s past t n k head bytes → reached t past ≡ Some stop → made_at s t past (Took (down.RetSubmit head bytes)) ≡ None → end_due (took past head bytes) ≡ None
    → awaits t (took past head bytes) ≢ [] → busy (outstanding (took past head bytes)) ≢ [] → unlinks_due s (ended past) (took past head bytes) ≡ []
    → Kept s (took past head bytes)
races_kept s past t n k stop head bytes kept running e reach unmade free some more unlinked =
    rests s (took past head bytes) (record {
      lawful = (kept.lawful, (record { running = running; quiet = kept.quiet }, e.may, e.good));
      works = record { running = running; free = free; settled = settled };
      unlinked = unlinked;
    }) unplanned (waits_begun (took past head bytes) t running e.turn begun some more)
  where
    settled : AreSettled s (took past head bytes)
    settled u lives = step (u == t) refl
      where
        step : (b : Bool) → (u == t) ≡ b → cause s u (took past head bytes) ≡ None
        step true h =
            subst (λ (v : ℕ). cause s v (took past head bytes) ≡ None) (sym (eqb-true u t h))
            (still_live s past (Took (down.RetSubmit head bytes)) t (kept.quiet.settled t (first_has t (live past) e.turn)) unmade refl
            (waits_on (reached t past) (awaits t (took past head bytes)) some))
        step false h = none_other s past t n u k head bytes e kept lives (eqb-false u t h)

    unplanned : (u : ℕ) (order : Order) → Planned s (took past head bytes) u order → ⊥
    unplanned u order law =
        let mine : u ≡ t = same u t (sym law.turn ∙ e.turn) in
        clash (sym (subst (λ (v : ℕ). is_some (reached v past) ≡ false) mine law.free) ∙ ap (λ (o : Option Outcome). is_some o) reach)

    begun : is_begun t past ≡ true
    begun = step (is_begun t past) refl
      where
        step : (b : Bool) → is_begun t past ≡ b → is_begun t past ≡ true
        step true h = h
        step false h = absurd (some (unbegun_waits t (took past head bytes) h))

-- ---- it makes an outcome

pub completes_kept : (s : Setting) (past : Past) (t n : ℕ) (k : Order) (o : Outcome) (head : RetSubmitHead) (bytes : List ℕ) → Kept s past → ended past ≡ None
    → Comes s past t n k head bytes → made_at s t past (Took (down.RetSubmit head bytes)) ≡ Some o → end_due (took past head bytes) ≡ None
    → busy (outstanding (took past head bytes)) ≢ [] → unlinks_due s (ended past) (Settled t o ∷ took past head bytes) ≡ []
    → Kept s (Settled t o ∷ took past head bytes)
completes_kept s past t n k o head bytes kept running e made free more unlinked = by (active (Settled t o ∷ took past head bytes)) refl
  where
    w : Working s (Settled t o ∷ took past head bytes)
    w = answer_settles s past t n k o head bytes kept running e made free unlinked

    fresh : (u : ℕ) → has u (remove t (live past)) ≡ true → is_begun u past ≡ false
    fresh u h = step (is_begun u past) refl
      where
        r : (has u (live past) ≡ true) × (u ≢ t)
        r = has_removed u t (live past) h

        step : (b : Bool) → is_begun u past ≡ b → is_begun u past ≡ false
        step false f = f
        step true f = absurd (r.1 (same u t (sym (begun_active s past kept.lawful u r.0 f) ∙ e.turn)))

    by : (x : Option ℕ) → active (Settled t o ∷ took past head bytes) ≡ x → Kept s (Settled t o ∷ took past head bytes)
    by None f = idle_kept s (Settled t o ∷ took past head bytes) w f (λ h. absurd (more h))
    by (Some u) f = queued_kept s (Settled t o ∷ took past head bytes) u w f (fresh u (first_has u (remove t (live past)) f)) more

-- ---- a ticket that has not begun is cancelled

-- it was not cancelled before
none_behind : {P : Type 0} (o : Option Outcome) (x : Outcome) → or_else o (Some x) ≡ None → P
none_behind None x k = absurd (no k)
  where
    no : Some x ≡ None → ⊥
    no h = cc
none_behind (Some y) x k = absurd (no k)
  where
    no : Some y ≡ None → ⊥
    no h = cc

not_cancelled : (t : ℕ) (past : Past) → reached t past ≡ None → is_cancelled t past ≡ false
not_cancelled t [] e = refl
not_cancelled t (Cancelled u ∷ past) e = step (not_cancelled t past) (u == t) e
  where
    step : (reached t past ≡ None → is_cancelled t past ≡ false) → (b : Bool) → (if b then or_else (reached t past) (Some outcome.Cancelled) else reached t past) ≡ None
        → b || is_cancelled t past ≡ false
    step again true k = none_behind (reached t past) outcome.Cancelled k
    step again false k = again k
not_cancelled t (Cleared session ∷ past) e = step (not_cancelled t past) (is_active t (active past)) e
  where
    step : (reached t past ≡ None → is_cancelled t past ≡ false) → (b : Bool)
        → (if b then or_else (reached t past) (Some (outcome.Cleared session)) else reached t past) ≡ None → is_cancelled t past ≡ false
    step again true k = none_behind (reached t past) (outcome.Cleared session) k
    step again false k = again k
not_cancelled t (x ∷ past) e = not_cancelled t past e

-- it said nothing of a status
no_grant : (t n : ℕ) (xs : List Sent) (head : RetSubmitHead) (bytes : List ℕ) → involved t false xs ≡ [] → grants t (find n xs) head bytes ≡ false
no_grant t n [] head bytes none = refl
no_grant t n (x ∷ xs) head bytes none = step (no_grant t n xs head bytes) (is_of t x.owner) refl none
  where
    step : (involved t false xs ≡ [] → grants t (find n xs) head bytes ≡ false) → (b : Bool) → is_of t x.owner ≡ b
        → (if b || false then x ∷ involved t false xs else involved t false xs) ≡ [] → grants t (if x.number == n then Some x else find n xs) head bytes ≡ false
    step again true e k = absurd (no k)
      where
        no : x ∷ involved t false xs ≡ [] → ⊥
        no h = cc
    step again false e k = by (x.number == n)
      where
        by : (c : Bool) → grants t (if c then Some x else find n xs) head bytes ≡ false
        by true = rw e refl
        by false = again k

unsaid : (t : ℕ) (past : Past) → is_begun t past ≡ false → is_said t past ≡ false
unsaid t [] h = refl
unsaid t (Wrote n o k ∷ past) h = unsaid t past (neither (is_of t o) (is_begun t past) h).1
unsaid t (Took (down.RetSubmit head bytes) ∷ past) h =
    rw (no_grant t head.seqnum (outstanding past) head bytes (unbegun_free t past h)) (unsaid t past h)
unsaid t (x ∷ past) h = unsaid t past h

abbrev cancelled : (t : ℕ) → Past → Past
cancelled t past = Settled t outcome.Cancelled ∷ Cancelled t ∷ past

same_stale : (s : Setting) (t : ℕ) (past : Past) → is_begun t past ≡ false → stale s (cancelled t past) ≡ stale s past
same_stale s t past fresh =
    ap (λ (b : Bool). if b then status_tag t past else stale s past) not_left
  where
    not_left : is_left s t (Cancelled t ∷ past) ≡ false
    not_left = rw (unsaid t past fresh) (rw (and_false (is_status (asking_of t past))) (and_false (is_some s.ends.notify)))

-- the others' plans are the same
same_plan : (s : Setting) (t u : ℕ) (a : Option Asking) (past : Past) → is_begun t past ≡ false → planned s u a (cancelled t past) ≡ planned s u a past
same_plan s t u None past fresh = refl
same_plan s t u (Some a) past fresh =
    ap (λ (st : Option ℕ). if is_status_kind a.kind
    then (if is_some s.ends.notify && not (is_listening (outstanding past)) then Some Listen
    else if is_some (status_tag u past) then None
    else Some (Class (ReadStatus (skipping st (tag_behind (last_status_tag past))))))
    else follows a (last u past) (next_tag past) (parts u past) (pieces u past)) (same_stale s t past fresh)

same_need : (t : ℕ) (past : Past) (o : Option ℕ) → need_of o (cancelled t past) ≡ need_of o past
same_need t past None = refl
same_need t past (Some u) = refl

recovered_still : (t : ℕ) (past : Past) → AreRecovered past → AreRecovered (cancelled t past)
recovered_still t past h =
    (h.0, ap (λ (n : Option Need). if is_called past then Some need.Full else if is_served past then None else n) (same_need t past (in_hand past)) ∙ h.1)

-- no other unlink is due
lives_too : (h t : ℕ) (ts : List ℕ) → (t ≡ h → ⊥) → has h (remove t ts) ≡ has h ts
lives_too h t [] other = refl
lives_too h t (x ∷ xs) other = step (lives_too h t xs other) (x == t) refl
  where
    step : has h (remove t xs) ≡ has h xs → (b : Bool) → (x == t) ≡ b → has h (if b then remove t xs else x ∷ remove t xs) ≡ (x == h) || has h xs
    step again true e = again ∙ sym (ap (λ (c : Bool). c || has h xs) (differ x h (λ k. other (sym (eqb-true x t e) ∙ k))))
    step again false e = ap (λ (c : Bool). (x == h) || c) again

same_unlinks : (s : Setting) (t : ℕ) (past : Past) (o : Option ℕ) → in_hand past ≡ o → is_begun t past ≡ false → unlinks_of s o (cancelled t past) ≡ unlinks_of s o past
same_unlinks s t past None hand fresh = refl
same_unlinks s t past (Some h) hand fresh =
    let other : t ≡ h → ⊥ = λ e. clash (sym (subst (λ (v : ℕ). is_begun v past ≡ false) e fresh) ∙ hand_begun h past hand) in
    rw (lives_too h t (live past) other) (rw (differ t h other) refl)

waits_for : (past : Past) → ended past ≡ None → Waits past → WaitsFor (active past) past × (busy (outstanding past) ≡ [] → AreRecovered past)
waits_for past running w = subst (λ (e : Option End). WaitsIn e past) running w

module _ (s : Setting) (past : Past) (t : ℕ) (kept : Kept s past) (running : ended past ≡ None) (lives : has t (live past) ≡ true) (fresh : is_begun t past ≡ false) where
  free : reached t past ≡ None
  free = unreached s t past (kept.quiet.settled t lives) fresh

  waits : WaitsFor (active past) past × (busy (outstanding past) ≡ [] → AreRecovered past)
  waits = waits_for past running kept.quiet.waits

  -- a live ticket other than this one
  other_cause : (u : ℕ) → has u (live past) ≡ true → (t ≡ u → ⊥) → cause s u (Cancelled t ∷ past) ≡ None
  other_cause u h apart =
      still_live s past (Cancelled t) u (kept.quiet.settled u h) refl refl (rw (differ t u apart) (not_stopped s u past (kept.quiet.settled u h)))

  stops_now : stops t (Cancelled t ∷ past) ≡ Some outcome.Cancelled
  stops_now = free_stop (reached t (Cancelled t ∷ past)) (awaits t past) (unbegun_waits t past fresh) ∙ rw (own t) (rw free refl)

  cancel_lawful : Lawful s (cancelled t past)
  cancel_lawful = (
    (kept.lawful, (record { running = running; quiet = kept.quiet }, (lives, not_cancelled t past free))),
    (
      lives,
      record {
        caused = first_stops (cause s t past) (made_at s t past (Cancelled t)) None (stops t (Cancelled t ∷ past)) outcome.Cancelled (kept.quiet.settled t lives) refl refl stops_now;
        order = λ u few h. other_cause u h (λ e. omega (arith, e, few));
      },
    ),
  )

  settled_now : AreSettled s (cancelled t past)
  settled_now u h =
      let r : (has u (live past) ≡ true) × (u ≢ t) = has_removed u t (live past) h in
      let before : cause s u (Cancelled t ∷ past) ≡ None = other_cause u r.0 (λ e. r.1 (sym e)) in
      still_live s (Cancelled t ∷ past) (Settled t outcome.Cancelled) u before refl refl (not_stopped s u (Cancelled t ∷ past) before)

  -- the one that is active then waits as it did, or for what is out
  begun_turn : (u : ℕ) → active (cancelled t past) ≡ Some u → is_begun u past ≡ true → active past ≡ Some u
  begun_turn u turn begun = begun_active s past kept.lawful u (has_removed u t (live past) (first_has u (remove t (live past)) turn)).0 begun

  waits_first : (u : ℕ) → active past ≡ Some u → MatchBool (is_begun u past) (awaits u past ≢ []) (busy (outstanding past) ≢ [])
  waits_first u turn = subst (λ (o : Option ℕ). WaitsFor o past) turn waits.0

  fresh_busy : (u : ℕ) → active (cancelled t past) ≡ Some u → is_begun u past ≡ false → busy (outstanding past) ≢ []
  fresh_busy u turn unbegun = by (active past) refl
    where
      by : (o : Option ℕ) → active past ≡ o → busy (outstanding past) ≢ []
      by None e = absurd (none (live past) e (has_removed u t (live past) (first_has u (remove t (live past)) turn)).0)
        where
          none : (ts : List ℕ) → first_of ts ≡ None → has u ts ≡ true → ⊥
          none [] k h = clash h
          none (x ∷ xs) k h = cc
      by (Some v) e = step (v == t) refl
        where
          step : (b : Bool) → (v == t) ≡ b → busy (outstanding past) ≢ []
          step true f =
              subst (λ (b : Bool). MatchBool b (awaits v past ≢ []) (busy (outstanding past) ≢ [])) (subst (λ (x : ℕ). is_begun x past ≡ false) (sym (eqb-true v t f)) fresh)
              (waits_first v e)
          step false f =
              let now : v ≡ u = same v u (sym (first_removed v t (live past) e (eqb-false v t f)) ∙ turn) in
              subst (λ (b : Bool). MatchBool b (awaits v past ≢ []) (busy (outstanding past) ≢ [])) (subst (λ (x : ℕ). is_begun x past ≡ false) (sym now) unbegun) (waits_first v e)

  unplanned : (u : ℕ) (order : Order) → Planned s (cancelled t past) u order → ⊥
  unplanned u order law = by (is_begun u past) refl
    where
      by : (b : Bool) → is_begun u past ≡ b → ⊥
      by true e =
          kept.quiet.written running u order (record {
            turn = begun_turn u law.turn e;
            free = ap (λ (o : Option Outcome). is_some o) (sym reach) ∙ law.free;
            when = subst (λ (b : Bool). MatchBool b (When s (pieces u past) (awaits u past) order) (Begins past)) (sym e)
                (subst (λ (b : Bool). MatchBool b (When s (pieces u past) (awaits u past) order) (Begins (cancelled t past))) e law.when);
            plan = sym (same_plan s t u (asking_of u past) past fresh) ∙ law.plan;
          })
        where
          apart : t ≡ u → ⊥
          apart k = clash (sym (subst (λ (v : ℕ). is_begun v past ≡ false) k fresh) ∙ e)

          reach : reached u (cancelled t past) ≡ reached u past
          reach = rw (differ t u apart) refl
      by false e =
          fresh_busy u law.turn e (subst (λ (b : Bool). MatchBool b (When s (pieces u past) (awaits u past) order) (Begins (cancelled t past))) e law.when).0

  waiting_now : Waits (cancelled t past)
  waiting_now = subst (λ (e : Option End). WaitsIn e (cancelled t past)) (sym running) (first (active (cancelled t past)) refl, λ none. recovered_still t past (waits.1 none))
    where
      first : (o : Option ℕ) → active (cancelled t past) ≡ o → WaitsFor o (cancelled t past)
      first None e = tt
      first (Some u) e = by (is_begun u past) refl
        where
          by : (b : Bool) → is_begun u past ≡ b → MatchBool (is_begun u past) (awaits u past ≢ []) (busy (outstanding past) ≢ [])
          by true f = waits_first u (begun_turn u e f)
          by false f = subst (λ (b : Bool). MatchBool b (awaits u past ≢ []) (busy (outstanding past) ≢ [])) (sym f) (fresh_busy u e f)

  pub waiting_cancelled : Kept s (cancelled t past)
  waiting_cancelled = record {
    lawful = cancel_lawful;
    quiet = record {
      settled = settled_now;
      unlinked = subst (λ (e : Option End). unlinks_due s e (cancelled t past) ≡ []) (sym running)
          (same_unlinks s t past (in_hand past) refl fresh ∙ subst (λ (e : Option End). unlinks_due s e past ≡ []) running kept.quiet.unlinked);
      written = λ runs. unplanned;
      waits = waiting_now;
      over = λ runs. kept.quiet.over running;
    };
  }
