-- the steps of a call keep the laws
use Rattle.std.proofs.Common.{◌≡◌, ◌≢◌, ◌⊎◌, ℕ, ◌+◌, ◌≤◌, Bool, true, false, List, [], ◌∷◌, Option, Some, None, inl, inr, refl, sym, subst, ◌∙◌, ap, arith}
use Rattle.std.specs.Prelude.{◌==◌, is_some}
use Rattle.std.specs.Bool.{MatchBool}
use Rattle.std.proofs.lemmas.Bool.{eqb-true, eqb-false}
use Rattle.usbip_wire.specs.declared.ret_submit.RetSubmitHead.{RetSubmitHead}
use Rattle.usbip_wire.specs.Down as down
use Rattle.host_hub.specs.declared.outcome.Outcome.{Outcome}
use Rattle.host_hub.specs.declared.outcome.End.{End}
use Rattle.host_hub.specs.Order.{Order, Setting, is_listen, is_unlink}
use Rattle.host_hub.specs.Record.{Asked, Asking, Of, Past, Settled, Took, Wrote, next}
use Rattle.host_hub.specs.Book.{active, asking_of, has, live, or_else, remove, tickets}
use Rattle.host_hub.specs.Hand.{ended, ended_by, in_hand, is_begun, is_of}
use Rattle.host_hub.specs.Outstanding.{Sent, busy, find, not_unlinked, outstanding}
use Rattle.host_hub.specs.Pieces.{pieces}
use Rattle.host_hub.specs.Status.{awaits, is_status_kind}
use Rattle.host_hub.specs.Made.{Standing, judged, made_at, made_by, standing}
use Rattle.host_hub.specs.Causes.{AreSettled, cause, ends_as, reached, stops}
use Rattle.host_hub.specs.Unlinks.{unlinks_due, unlinks_of, unwanted}
use Rattle.host_hub.specs.Plan.{When, first_order, follows, last, next_tag, parts, planned, status_order}
use Rattle.host_hub.specs.Recovery.{AreRecovered}
use Rattle.host_hub.specs.Ends.{end_due}
use Rattle.host_hub.specs.Law.{Begins, Kept, Lawful, Planned, Quiet, Waits}
use Rattle.host_hub.specs.Steps.{Comes, MayWriteNext, Notifies, Speaks, Working, asked, took, wrote}
use Rattle.host_hub.proofs.Lists.{differ, first_has, has_added, has_more, has_removed, neither, own, same}
use Rattle.host_hub.proofs.Pasts.{begun_known, hand_begun, live_known, not_stopped, others_unreached, still, still_live, unasked_cause, unasked_reached, unreached}
use Rattle.host_hub.proofs.Quiets.{as_law, listens_wrote, mine, more, none_planned, none_planned_idle, none_planned_queued, none_reached, not_listen, planned_proper, proper_plain, unlinks_none, unreached_now, waits_begun, waits_idle, waits_queued}

-- ---- a ticket is asked

pub last_unbegun : (t : ℕ) (past : Past) → is_begun t past ≡ false → last t past ≡ None
last_unbegun t [] h = refl
last_unbegun t (Wrote n o k ∷ past) h =
    let e : (is_of t o ≡ false) × (is_begun t past ≡ false) = neither (is_of t o) (is_begun t past) h in
    let other : is_of t o ≡ false = e.0 in
    rw other (last_unbegun t past e.1)
last_unbegun t (x ∷ past) h = last_unbegun t past h

hand_known : (s : Setting) (past : Past) → Lawful s past → (h : ℕ) → in_hand past ≡ Some h → h ≤ tickets past
hand_known s past lawful h e = begun_known s past lawful h (hand_begun h past e)

unwanted_asked : (s : Setting) (past : Past) (t h : ℕ) (a : Asking) → (t ≡ h → ⊥) → unwanted s h (Asked t a ∷ past) ≡ unwanted s h past
unwanted_asked s past t h a other = rw (has_more h t (live past) (differ t h other)) (rw (differ t h other) refl)

unlinks_asked : (s : Setting) (past : Past) (a : Asking) (o : Option ℕ) → Lawful s past → in_hand past ≡ o → unlinks_of s o (asked past a) ≡ unlinks_of s o past
unlinks_asked s past a None lawful e = refl
unlinks_asked s past a (Some h) lawful e =
    ap (λ (xs : List Sent). not_unlinked xs (outstanding past))
    (unwanted_asked s past (tickets past + 1) h a (λ k. omega (arith, k, hand_known s past lawful h e)))

due_asked : (s : Setting) (past : Past) (a : Asking) → Lawful s past → Quiet s past → ended past ≡ None → unlinks_due s (ended past) (asked past a) ≡ []
due_asked s past a lawful quiet running =
    subst (λ (e : Option End). unlinks_due s e (asked past a) ≡ []) (sym running)
    (unlinks_asked s past a (in_hand past) lawful refl ∙ subst (λ (e : Option End). unlinks_due s e past ≡ []) running quiet.unlinked)

stops_asked : (u t : ℕ) (a : Asking) (past : Past) → (t ≡ u → ⊥) → stops u past ≡ None → stops u (Asked t a ∷ past) ≡ None
stops_asked u t a past other h = rw (differ t u other) h

settled_asked : (s : Setting) (past : Past) (a : Asking) → Kept s past → ended past ≡ None → AreSettled s (asked past a)
settled_asked s past a kept running u lives = step (has_added u (tickets past + 1) (live past) lives)
  where
    step : (has u (live past) ≡ true) ⊎ (tickets past + 1 ≡ u) → cause s u (asked past a) ≡ None
    step (inl e) =
        let older : tickets past + 1 ≡ u → ⊥ = λ k. omega (arith, k, live_known s past kept.lawful u e) in
        still_live s past (Asked (tickets past + 1) a) u (kept.quiet.settled u e) refl refl
        (stops_asked u (tickets past + 1) a past older (not_stopped s u past (kept.quiet.settled u e)))
    step (inr e) =
        still s past (Asked (tickets past + 1) a) u (unasked_cause s past kept.lawful running u (omega (arith, e))) refl refl
        (rw (unasked_reached s past kept.lawful u (omega (arith, e))) refl)

pub asked_works : (s : Setting) (past : Past) (a : Asking) → Kept s past → ended past ≡ None → Working s (asked past a)
asked_works s past a kept running = record {
  lawful = (kept.lawful, (record { running = running; quiet = kept.quiet }, refl));
  works = record { running = running; free = kept.quiet.over running; settled = settled_asked s past a kept running };
  unlinked = due_asked s past a kept.lawful kept.quiet running;
}

-- ---- a submit is due

pub begins_planned : (s : Setting) (past : Past) (t : ℕ) (a : Asking) (order : Order) → Working s past → active past ≡ Some t → is_begun t past ≡ false → busy (outstanding past) ≡ []
    → AreRecovered past → Speaks past t a → first_order a.kind a.message (next_tag past) ≡ Some order → Planned s past t order
begins_planned s past t a order w turn fresh free recovered speaks plan = record {
  turn = turn;
  free = ap (λ (o : Option Outcome). is_some o) (unreached s t past (w.works.settled t (first_has t (live past) turn)) fresh);
  when = rw fresh (free, recovered);
  plan = rw speaks.0 (rw speaks.1 (rw (last_unbegun t past fresh) plan));
}

pub goes_on_planned : (s : Setting) (past : Past) (t : ℕ) (a : Asking) (order : Order) → active past ≡ Some t → is_begun t past ≡ true → reached t past ≡ None
    → Speaks past t a → follows a (last t past) (next_tag past) (parts t past) (pieces t past) ≡ Some order → When s (pieces t past) (awaits t past) order → Planned s past t order
goes_on_planned s past t a order turn begun free speaks plan when = record {
  turn = turn;
  free = ap (λ (o : Option Outcome). is_some o) free;
  when = subst (λ (b : Bool). MatchBool b (When s (pieces t past) (awaits t past) order) (Begins past)) (sym begun) when;
  plan = rw speaks.0 (rw speaks.1 plan);
}

-- ---- it is written

pub wrote_works : (s : Setting) (past : Past) (t : ℕ) (order : Order) → Working s past → Planned s past t order → is_unlink order ≡ false → MayWriteNext s past order
    → unlinks_due s (ended past) (wrote s past t order) ≡ [] → Working s (wrote s past t order)
wrote_works s past t order w law plain may none = record {
  lawful = (w.lawful, (w.works, may, as_law s past t order plain law w.unlinked));
  works = record {
    running = w.works.running;
    free = w.works.free;
    settled = λ u lives. still s past (Wrote (next s.first past) (Of t) order) u (w.works.settled u lives) refl refl
        (none_reached s past t u w.lawful law.turn (unreached_now (reached t past) law.free) lives (w.works.settled u lives));
  };
  unlinked = none;
}

-- nothing more is due, and something is waited for
pub rests : (s : Setting) (past : Past) → Working s past → ((t : ℕ) (order : Order) → Planned s past t order → ⊥) → Waits past → Kept s past
rests s past w none waits = record {
  lawful = w.lawful;
  quiet = record { settled = w.works.settled; unlinked = w.unlinked; written = λ runs. none; waits = waits; over = λ runs. w.works.free };
}

-- at depth 1 a hub that has written waits
pub written_kept : (s : Setting) (past : Past) (t : ℕ) (a : Asking) (order : Order) → s.depth ≡ 1 → Working s past → Speaks past t a → Planned s past t order → MayWriteNext s past order
    → Kept s (wrote s past t order)
written_kept s past t a order d w speaks law may =
    rests s (wrote s past t order)
    (wrote_works s past t order w law (proper_plain order (planned_proper s t a past order speaks law.plan)) may (unlinks_none s (wrote s past t order) d w.works.running free))
    (none_planned s (wrote s past t order) t a d law.turn speaks (listens_wrote s past t order) (mine s past t order))
    (waits_begun (wrote s past t order) t w.works.running law.turn (listens_wrote s past t order) (mine s past t order)
    (more s past t order (not_listen order (planned_proper s t a past order speaks law.plan))))
  where
    free : (u : ℕ) → has u (live past) ≡ true → reached u past ≡ None
    free u lives = none_reached s past t u w.lawful law.turn (unreached_now (reached t past) law.free) lives (w.works.settled u lives)

-- where the plan of the active ticket has nothing more, it waits
pub planned_kept : (s : Setting) (past : Past) (t : ℕ) → Working s past → active past ≡ Some t → is_begun t past ≡ true → planned s t (asking_of t past) past ≡ None
    → awaits t past ≢ [] → busy (outstanding past) ≢ [] → Kept s past
planned_kept s past t w turn begun nothing some more = rests s past w none (waits_begun past t w.works.running turn begun some more)
  where
    none : (u : ℕ) (order : Order) → Planned s past u order → ⊥
    none u order law =
        let mine : planned s t (asking_of t past) past ≡ Some order = subst (λ (v : ℕ). planned s v (asking_of v past) past ≡ Some order) (same u t (sym law.turn ∙ turn)) law.plan in
        let e : None ≡ Some order = sym nothing ∙ mine in cc

pub idle_kept : (s : Setting) (past : Past) → Working s past → active past ≡ None → (busy (outstanding past) ≡ [] → AreRecovered past) → Kept s past
idle_kept s past w idle recovered = rests s past w (none_planned_idle s past idle) (waits_idle past w.works.running idle recovered)

pub queued_kept : (s : Setting) (past : Past) (t : ℕ) → Working s past → active past ≡ Some t → is_begun t past ≡ false → busy (outstanding past) ≢ [] → Kept s past
queued_kept s past t w turn fresh some =
    rests s past w (none_planned_queued s past t turn fresh some) (waits_queued past t w.works.running turn fresh some)

pub waiting_kept : (s : Setting) (past : Past) (t : ℕ) (a : Asking) → s.depth ≡ 1 → Working s past → active past ≡ Some t → is_begun t past ≡ true → Speaks past t a
    → awaits t past ≢ [] → busy (outstanding past) ≢ [] → Kept s past
waiting_kept s past t a d w turn begun speaks some more =
    rests s past w (none_planned s past t a d turn speaks begun some) (waits_begun past t w.works.running turn begun some more)

-- ---- an answer comes

come_lawful : (s : Setting) (past : Past) (t n : ℕ) (k : Order) (head : RetSubmitHead) (bytes : List ℕ) → Comes s past t n k head bytes → Kept s past → ended past ≡ None
    → Lawful s (took past head bytes)
come_lawful s past t n k head bytes e kept running = (kept.lawful, (record { running = running; quiet = kept.quiet }, e.may, e.good))

made_other : (s : Setting) (past : Past) (t u n : ℕ) (k : Order) (o : Option Asking) (head : RetSubmitHead) (bytes : List ℕ) (now : Standing) → is_listen k ≡ false → (t ≡ u → ⊥)
    → made_by s u past o (Some (record { number = n; owner = Of t; order = k })) head bytes now ≡ None
made_other s past t u n k None head bytes now plain other = refl
made_other s past t u n k (Some a) head bytes now plain other = rw plain (rw (differ t u other) refl)

pub none_other : (s : Setting) (past : Past) (t n u : ℕ) (k : Order) (head : RetSubmitHead) (bytes : List ℕ) → Comes s past t n k head bytes → Kept s past
    → has u (live past) ≡ true → (u ≡ t → ⊥) → cause s u (took past head bytes) ≡ None
none_other s past t n u k head bytes e kept lives other =
    still s past (Took (down.RetSubmit head bytes)) u (kept.quiet.settled u lives)
    (subst (λ (o : Option Sent). made_by s u past (asking_of u past) o head bytes (standing s u (took past head bytes)) ≡ None) (sym e.found)
    (made_other s past t u n k (asking_of u past) head bytes (standing s u (took past head bytes)) e.plain (λ h. other (sym h))))
    refl
    (others_unreached s past kept.lawful t u e.turn lives (kept.quiet.settled u lives) other)

-- what it makes of its ticket is judged by its order
pub made_of : (s : Setting) (past : Past) (t n : ℕ) (k : Order) (a : Asking) (head : RetSubmitHead) (bytes : List ℕ) → Comes s past t n k head bytes → asking_of t past ≡ Some a
    → made_at s t past (Took (down.RetSubmit head bytes)) ≡ judged s a k head bytes (standing s t (took past head bytes))
made_of s past t n k a head bytes e known =
    subst (λ (o : Option Asking). made_by s t past o (find head.seqnum (outstanding past)) head bytes now ≡ judged s a k head bytes now) (sym known)
    (subst (λ (o : Option Sent). made_by s t past (Some a) o head bytes now ≡ judged s a k head bytes now) (sym e.found) (rw e.plain (rw (own t) refl)))
  where
    now : Standing
    now = standing s t (took past head bytes)

-- it makes nothing
pub answer_works : (s : Setting) (past : Past) (t n : ℕ) (k : Order) (head : RetSubmitHead) (bytes : List ℕ) → Kept s past → ended past ≡ None → Comes s past t n k head bytes
    → made_at s t past (Took (down.RetSubmit head bytes)) ≡ None → reached t past ≡ None → end_due (took past head bytes) ≡ None
    → unlinks_due s (ended past) (took past head bytes) ≡ [] → Working s (took past head bytes)
answer_works s past t n k head bytes kept running e unmade free none unlinked = record {
  lawful = come_lawful s past t n k head bytes e kept running;
  works = record { running = running; free = none; settled = settled };
  unlinked = unlinked;
}
  where
    settled : AreSettled s (took past head bytes)
    settled u lives = step (u == t) refl where
      step : (b : Bool) → (u == t) ≡ b → cause s u (took past head bytes) ≡ None
      step true h =
          subst (λ (v : ℕ). cause s v (took past head bytes) ≡ None) (sym (eqb-true u t h))
          (still s past (Took (down.RetSubmit head bytes)) t (kept.quiet.settled t (first_has t (live past) e.turn)) unmade refl free)
      step false h = none_other s past t n u k head bytes e kept lives (eqb-false u t h)

-- it makes an outcome, and the ticket settles

first_decides : {A : Type 0} (a b c : Option A) (x : A) → a ≡ None → b ≡ Some x → or_else a (or_else b c) ≡ Some x
first_decides a b c x e f = rw e (rw f refl)

pub settles_lawful : (s : Setting) (past : Past) (t n : ℕ) (k : Order) (o : Outcome) (head : RetSubmitHead) (bytes : List ℕ) → Kept s past → ended past ≡ None
    → Comes s past t n k head bytes → made_at s t past (Took (down.RetSubmit head bytes)) ≡ Some o → Lawful s (Settled t o ∷ took past head bytes)
settles_lawful s past t n k o head bytes kept running e made = (
  come_lawful s past t n k head bytes e kept running,
  (
    first_has t (live past) e.turn,
    record {
      caused = first_decides (cause s t past) (made_at s t past (Took (down.RetSubmit head bytes)))
          (or_else (ends_as (ended_by (Took (down.RetSubmit head bytes)) None)) (stops t (took past head bytes))) o
          (kept.quiet.settled t (first_has t (live past) e.turn)) made;
      order = λ u few lives. none_other s past t n u k head bytes e kept lives (λ h. omega (arith, h, few));
    },
  ),
)

pub settles_settled : (s : Setting) (past : Past) (t n : ℕ) (k : Order) (o : Outcome) (head : RetSubmitHead) (bytes : List ℕ) → Kept s past
    → Comes s past t n k head bytes → AreSettled s (Settled t o ∷ took past head bytes)
settles_settled s past t n k o head bytes kept e u h =
    let r : (has u (live past) ≡ true) × (u ≢ t) = has_removed u t (live past) h in
    still s (took past head bytes) (Settled t o) u (none_other s past t n u k head bytes e kept r.0 r.1) refl refl
    (others_unreached s past kept.lawful t u e.turn r.0 (kept.quiet.settled u r.0) r.1)

pub answer_settles : (s : Setting) (past : Past) (t n : ℕ) (k : Order) (o : Outcome) (head : RetSubmitHead) (bytes : List ℕ) → Kept s past → ended past ≡ None
    → Comes s past t n k head bytes → made_at s t past (Took (down.RetSubmit head bytes)) ≡ Some o → end_due (took past head bytes) ≡ None
    → unlinks_due s (ended past) (Settled t o ∷ took past head bytes) ≡ [] → Working s (Settled t o ∷ took past head bytes)
answer_settles s past t n k o head bytes kept running e made none unlinked = record {
  lawful = settles_lawful s past t n k o head bytes kept running e made;
  works = record { running = running; free = none; settled = settles_settled s past t n k o head bytes kept e };
  unlinked = unlinked;
}

-- at depth 1 no unlink is due behind an answer, where the ticket was not reached
free_all : (s : Setting) (past : Past) (t u : ℕ) → Kept s past → active past ≡ Some t → reached t past ≡ None → has u (live past) ≡ true → reached u past ≡ None
free_all s past t u kept turn free lives = none_reached s past t u kept.lawful turn free lives (kept.quiet.settled u lives)

pub no_unlinks_behind : (s : Setting) (past : Past) (t : ℕ) (head : RetSubmitHead) (bytes : List ℕ) → s.depth ≡ 1 → Kept s past → ended past ≡ None → active past ≡ Some t → reached t past ≡ None
    → unlinks_due s (ended past) (took past head bytes) ≡ []
no_unlinks_behind s past t head bytes d kept running turn free = unlinks_none s (took past head bytes) d running (λ u lives. free_all s past t u kept turn free lives)

pub no_unlinks_settled : (s : Setting) (past : Past) (t : ℕ) (o : Outcome) (head : RetSubmitHead) (bytes : List ℕ) → s.depth ≡ 1 → Kept s past → ended past ≡ None → active past ≡ Some t
    → unlinks_due s (ended past) (Settled t o ∷ took past head bytes) ≡ []
no_unlinks_settled s past t o head bytes d kept running turn = unlinks_none s (Settled t o ∷ took past head bytes) d running others
  where
    others : (u : ℕ) → has u (remove t (live past)) ≡ true → reached u past ≡ None
    others u h =
        let r : (has u (live past) ≡ true) × (u ≢ t) = has_removed u t (live past) h in
        others_unreached s past kept.lawful t u turn r.0 (kept.quiet.settled u r.0) r.1

-- ---- a packet comes to a status read

packet_other : (s : Setting) (past : Past) (t u : ℕ) (x : Sent) (o : Option Asking) (head : RetSubmitHead) (bytes : List ℕ) (now : Standing) → active past ≡ Some t
    → is_listen x.order ≡ true → (t ≡ u → ⊥) → made_by s u past o (Some x) head bytes now ≡ None
packet_other s past t u x None head bytes now turn is other = refl
packet_other s past t u x (Some a) head bytes now turn is other = rw is (rw turn (rw (differ t u other) refl))

packet_none : (s : Setting) (past : Past) (t u : ℕ) (x : Sent) (head : RetSubmitHead) (bytes : List ℕ) → Kept s past → Notifies s past t x head bytes
    → has u (live past) ≡ true → (u ≡ t → ⊥) → cause s u (took past head bytes) ≡ None
packet_none s past t u x head bytes kept e lives other =
    still s past (Took (down.RetSubmit head bytes)) u (kept.quiet.settled u lives)
    (subst (λ (o : Option Sent). made_by s u past (asking_of u past) o head bytes (standing s u (took past head bytes)) ≡ None) (sym e.found)
    (packet_other s past t u x (asking_of u past) head bytes (standing s u (took past head bytes)) e.turn e.is (λ h. other (sym h))))
    refl
    (others_unreached s past kept.lawful t u e.turn lives (kept.quiet.settled u lives) other)

pub packet_works : (s : Setting) (past : Past) (t : ℕ) (x : Sent) (head : RetSubmitHead) (bytes : List ℕ) → Kept s past → ended past ≡ None → Notifies s past t x head bytes
    → made_at s t past (Took (down.RetSubmit head bytes)) ≡ None → reached t past ≡ None → end_due (took past head bytes) ≡ None
    → unlinks_due s (ended past) (took past head bytes) ≡ [] → Working s (took past head bytes)
packet_works s past t x head bytes kept running e unmade free none unlinked = record {
  lawful = (kept.lawful, (record { running = running; quiet = kept.quiet }, e.may, e.good));
  works = record { running = running; free = none; settled = settled };
  unlinked = unlinked;
}
  where
    settled : AreSettled s (took past head bytes)
    settled u lives = step (u == t) refl where
      step : (b : Bool) → (u == t) ≡ b → cause s u (took past head bytes) ≡ None
      step true h =
          subst (λ (v : ℕ). cause s v (took past head bytes) ≡ None) (sym (eqb-true u t h))
          (still s past (Took (down.RetSubmit head bytes)) t (kept.quiet.settled t (first_has t (live past) e.turn)) unmade refl free)
      step false h = packet_none s past t u x head bytes kept e lives (eqb-false u t h)

pub packet_settles : (s : Setting) (past : Past) (t : ℕ) (x : Sent) (o : Outcome) (head : RetSubmitHead) (bytes : List ℕ) → Kept s past → ended past ≡ None
    → Notifies s past t x head bytes → made_at s t past (Took (down.RetSubmit head bytes)) ≡ Some o → end_due (took past head bytes) ≡ None
    → unlinks_due s (ended past) (Settled t o ∷ took past head bytes) ≡ [] → Working s (Settled t o ∷ took past head bytes)
packet_settles s past t x o head bytes kept running e made none unlinked = record {
  lawful = (
    (kept.lawful, (record { running = running; quiet = kept.quiet }, e.may, e.good)),
    (
      first_has t (live past) e.turn,
      record {
        caused = first_decides (cause s t past) (made_at s t past (Took (down.RetSubmit head bytes)))
            (or_else (ends_as (ended_by (Took (down.RetSubmit head bytes)) None)) (stops t (took past head bytes))) o
            (kept.quiet.settled t (first_has t (live past) e.turn)) made;
        order = λ u few lives. packet_none s past t u x head bytes kept e lives (λ h. omega (arith, h, few));
      },
    ),
  );
  works = record { running = running; free = none; settled = settled };
  unlinked = unlinked;
}
  where
    settled : AreSettled s (Settled t o ∷ took past head bytes)
    settled u h =
        let r : (has u (live past) ≡ true) × (u ≢ t) = has_removed u t (live past) h in
        still s (took past head bytes) (Settled t o) u (packet_none s past t u x head bytes kept e r.0 r.1) refl refl
        (others_unreached s past kept.lawful t u e.turn r.0 (kept.quiet.settled u r.0) r.1)

-- what is due of a status read
pub status_planned : (s : Setting) (past : Past) (t : ℕ) (a : Asking) (order : Order) → active past ≡ Some t → reached t past ≡ None → asking_of t past ≡ Some a
    → is_status_kind a.kind ≡ true → MatchBool (is_begun t past) (When s (pieces t past) (awaits t past) order) (Begins past) → status_order s t past ≡ Some order
    → Planned s past t order
status_planned s past t a order turn free known is when plan = record {
  turn = turn;
  free = ap (λ (o : Option Outcome). is_some o) free;
  when = when;
  plan = rw known (rw is plan);
}
