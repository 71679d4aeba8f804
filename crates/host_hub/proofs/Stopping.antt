-- cancels with their unlinks keep the laws
use Rattle.std.proofs.Common.{◌≡◌, ◌≢◌, ℕ, ◌+◌, ◌<◌, ◌≤◌, ◌||◌, ◌&&◌, not, Bool, true, false, List, [], ◌∷◌, length, Option, Some, None, refl, sym, subst, ◌∙◌, ap, arith}
use Rattle.std.specs.Prelude.{◌==◌, if◌then◌else◌, is_some}
use Rattle.std.proofs.lemmas.Bool.{eqb-true, eqb-false, eq-eqb}
use Rattle.usbip_wire.specs.Down as down
use Rattle.usbip_wire.specs.declared.dirs.TheConstants.{DIRS_MAX}
use Rattle.host_hub.specs.declared.outcome.Outcome.{Outcome}
use Rattle.host_hub.specs.declared.outcome.Outcome.TheVariants as outcome
use Rattle.host_hub.specs.Order.{Setting, Order, Unlink, is_listen, is_unlink}
use Rattle.host_hub.specs.Record.{Of, Past, Wrote, Took, Cancelled, Cleared, Settled, next}
use Rattle.host_hub.specs.Outstanding.{Sent, busy, involved, outstanding, not_unlinked, is_unlinked, own_bulk}
use Rattle.host_hub.specs.Book.{live, has, remove, first_of, active, is_active, is_live, is_cancelled, asking_of, or_else}
use Rattle.host_hub.specs.Hand.{ended, in_hand, is_begun, is_of}
use Rattle.host_hub.specs.Pieces.{Piece, pieces}
use Rattle.host_hub.specs.Status.{awaits, is_status, listens}
use Rattle.host_hub.specs.Made.{made_at}
use Rattle.host_hub.specs.Causes.{AreSettled, cause, once_free, reached, stops}
use Rattle.host_hub.specs.Unlinks.{is_deep, is_over, unlinks_due, unlinks_of, unwanted}
use Rattle.host_hub.specs.Ends.{end_due}
use Rattle.host_hub.specs.Law.{Lawful, Kept, Planned}
use Rattle.host_hub.specs.Steps.{StopsAt, Working, wrote, write_unlinks}
use Rattle.host_hub.proofs.Lists.{clash, own, differ, or_left, and_false, first_has, same, has_removed}
use Rattle.host_hub.proofs.Pasts.{still, still_live, others_unreached, hand_begun}
use Rattle.host_hub.proofs.Quiets.{waits_begun}
use Rattle.host_hub.proofs.Numbers.{Below, below_up, outstanding_falls}
use Rattle.host_hub.proofs.Entries.{unlink_may}

listens_wrote : (s : Setting) (past : Past) (t : ℕ) (order : Order) → is_begun t past ≡ true → listens t (wrote s past t order) ≡ listens t past
listens_wrote s past t order begun =
    ap (λ (b : Bool). is_status (asking_of t past) && b) (or_left (t == t) (is_begun t past) (own t) ∙ sym begun)

-- what is written for a ticket that has begun is one more that it waits for
pub awaits_wrote : (s : Setting) (past : Past) (t : ℕ) (order : Order) → is_begun t past ≡ true
    → awaits t (wrote s past t order) ≡ record { number = next s.first past; owner = Of t; order = order } ∷ awaits t past
awaits_wrote s past t order begun =
    rw (own t)
    (ap (λ (b : Bool). record { number = next s.first past; owner = Of t; order = order } ∷ involved t b (outstanding past)) (listens_wrote s past t order begun))

-- ---- so have the unlinks that are due

abbrev pub Fall : ℕ → List ℕ → Type 0
Fall n [] = Unit {0}
Fall n (k ∷ ks) = (k < n) × Fall k ks

fall_up : (m n : ℕ) (ks : List ℕ) → m ≤ n → Fall m ks → Fall n ks
fall_up m n [] h f = tt
fall_up m n (k ∷ ks) h f = (omega (arith, h, f.0), f.1)

pub due_falls : (n : ℕ) (xs all : List Sent) → Below n xs → Fall n (not_unlinked xs all)
due_falls n [] all b = tt
due_falls n (x ∷ xs) all b = step (due_falls x.number xs all b.1) (is_unlink x.order || is_unlinked x.number all)
  where
    step : Fall x.number (not_unlinked xs all) → (c : Bool) → Fall n (if c then not_unlinked xs all else x.number ∷ not_unlinked xs all)
    step again true = fall_up x.number n (not_unlinked xs all) (omega (arith, b.0)) again
    step again false = (b.0, again)

not_there : (k n : ℕ) (ks : List ℕ) → Fall n ks → n ≤ k → remove k ks ≡ ks
not_there k n [] f h = refl
not_there k n (j ∷ js) f h =
    rw (differ j k (λ e. omega (arith, e, h, f.0))) (ap (λ (l : List ℕ). j ∷ l) (not_there k j js f.1 (omega (arith, h, f.0))))

first_gone : (k n : ℕ) (ks : List ℕ) → Fall n (k ∷ ks) → remove k (k ∷ ks) ≡ ks
first_gone k n ks f = rw (own k) (not_there k k ks f.1 (omega arith))

-- ---- an unlink that is written is due no more

abbrev pub unlink_sent : ℕ → ℕ → ℕ → Sent
unlink_sent n t k = record { number = n; owner = Of t; order = Unlink k }

due_after : (n t k : ℕ) (xs out : List Sent) → not_unlinked xs (unlink_sent n t k ∷ out) ≡ remove k (not_unlinked xs out)
due_after n t k [] out = refl
due_after n t k (x ∷ xs) out = step (due_after n t k xs out) (is_unlink x.order) (is_unlinked x.number out) (k == x.number) refl
  where
    step : not_unlinked xs (unlink_sent n t k ∷ out) ≡ remove k (not_unlinked xs out) → (a b c : Bool) → (k == x.number) ≡ c
        → (if a || (c || b) then not_unlinked xs (unlink_sent n t k ∷ out) else x.number ∷ not_unlinked xs (unlink_sent n t k ∷ out))
        ≡ remove k (if a || b then not_unlinked xs out else x.number ∷ not_unlinked xs out)
    step again true b c e = again
    step again false true true e = again
    step again false true false e = again
    step again false false true e = rw (eq-eqb x.number k (sym (eqb-true k x.number e))) again
    step again false false false e = rw (differ x.number k (λ h. eqb-false k x.number e (sym h))) (ap (λ (l : List ℕ). x.number ∷ l) again)

-- the submits that are to be unlinked are the same behind an unlink of the ticket in hand
unwanted_after : (s : Setting) (past : Past) (t k : ℕ) (all : List Sent) → is_begun t past ≡ true
    → not_unlinked (unwanted s t (wrote s past t (Unlink k))) all ≡ not_unlinked (unwanted s t past) all
unwanted_after s past t k all begun = step (is_live t past && is_some (reached t past)) (is_deep s && (not (is_live t past) || is_over (pieces t past)))
  where
    bulk : own_bulk t (unlink_sent (next s.first past) t k ∷ outstanding past) ≡ own_bulk t (outstanding past)
    bulk = rw (and_false (t == t)) refl

    same_pieces : pieces t (wrote s past t (Unlink k)) ≡ pieces t past
    same_pieces = rw (own t) refl

    step : (a b : Bool)
        → not_unlinked (if a then awaits t (wrote s past t (Unlink k)) else if is_deep s && (not (is_live t past) || is_over (pieces t (wrote s past t (Unlink k)))) then own_bulk t (outstanding (wrote s past t (Unlink k))) else []) all
        ≡ not_unlinked (if a then awaits t past else if is_deep s && (not (is_live t past) || is_over (pieces t past)) then own_bulk t (outstanding past) else []) all
    step true b = ap (λ (xs : List Sent). not_unlinked xs all) (awaits_wrote s past t (Unlink k) begun)
    step false b =
        subst (λ (ps : List Piece). not_unlinked (if is_deep s && (not (is_live t past) || is_over ps) then own_bulk t (outstanding (wrote s past t (Unlink k))) else []) all
        ≡ not_unlinked (if is_deep s && (not (is_live t past) || is_over (pieces t past)) then own_bulk t (outstanding past) else []) all) (sym same_pieces)
        (subst (λ (xs : List Sent). not_unlinked (if is_deep s && (not (is_live t past) || is_over (pieces t past)) then xs else []) all
        ≡ not_unlinked (if is_deep s && (not (is_live t past) || is_over (pieces t past)) then own_bulk t (outstanding past) else []) all) (sym bulk) refl)

-- of the unlinks that are due the others are left
pub due_rest : (s : Setting) (past : Past) (t k : ℕ) (rest : List ℕ) → Lawful s past → in_hand past ≡ Some t → is_begun t past ≡ true → unlinks_of s (Some t) past ≡ k ∷ rest
    → Fall (next s.first past) (k ∷ rest) → unlinks_of s (Some t) (wrote s past t (Unlink k)) ≡ rest
due_rest s past t k rest h hand begun due falls =
    unwanted_after s past t k (outstanding (wrote s past t (Unlink k))) begun
    ∙ due_after (next s.first past) t k (unwanted s t past) (outstanding past)
    ∙ ap (λ (l : List ℕ). remove k l) due
    ∙ first_gone k (next s.first past) rest falls

-- ---- all that are due are written

-- these unlinks of the ticket in hand are due
pub record Unlinking (s : Setting) (t : ℕ) (ks : List ℕ) (past : Past) : Type 0 where
  pub lawful : Lawful s past
  pub running : ended past ≡ None
  pub going : end_due past ≡ None
  pub hand : in_hand past ≡ Some t
  pub begun : is_begun t past ≡ true
  pub settled : AreSettled s past
  pub free : (u : ℕ) → has u (live past) ≡ true → (u ≡ t → ⊥) → reached u past ≡ None
  pub due : unlinks_of s (Some t) past ≡ ks
  pub falls : Fall (next s.first past) ks
  pub place : length (outstanding past) + length ks ≤ DIRS_MAX

settled_wrote : (s : Setting) (past : Past) (t k : ℕ) → AreSettled s past → ((u : ℕ) → has u (live past) ≡ true → (u ≡ t → ⊥) → reached u past ≡ None)
    → AreSettled s (wrote s past t (Unlink k))
settled_wrote s past t k settled free u lives = step (u == t) refl
  where
    step : (b : Bool) → (u == t) ≡ b → cause s u (wrote s past t (Unlink k)) ≡ None
    step true e =
        subst (λ (v : ℕ). cause s v (wrote s past t (Unlink k)) ≡ None) (sym (eqb-true u t e))
        (still_live s past (Wrote (next s.first past) (Of t) (Unlink k)) t (subst (λ (v : ℕ). cause s v past ≡ None) (eqb-true u t e) (settled u lives)) refl refl (rw (own t) refl))
    step false e =
        still s past (Wrote (next s.first past) (Of t) (Unlink k)) u (settled u lives) refl refl (free u lives (eqb-false u t e))

now_due : (s : Setting) (t : ℕ) (ks : List ℕ) (past : Past) → ended past ≡ None → in_hand past ≡ Some t → unlinks_of s (Some t) past ≡ ks → unlinks_due s (ended past) past ≡ ks
now_due s t ks past running hand due = rw running (rw hand due)

unlink_step : (s : Setting) (t k : ℕ) (ks : List ℕ) (past : Past) → Unlinking s t (k ∷ ks) past → Unlinking s t ks (wrote s past t (Unlink k))
unlink_step s t k ks past h = record {
  lawful = (
    h.lawful,
    (
      record { running = h.running; free = h.going; settled = h.settled },
      unlink_may s past k ks h.lawful (now_due s t (k ∷ ks) past h.running h.hand h.due) (omega (arith, h.place)),
      (h.hand, ks, now_due s t (k ∷ ks) past h.running h.hand h.due),
    ),
  );
  running = h.running;
  going = h.going;
  hand = refl;
  begun = or_left _ _ (own t);
  settled = settled_wrote s past t k h.settled h.free;
  free = h.free;
  due = due_rest s past t k ks h.lawful h.hand h.begun h.due h.falls;
  falls = fall_up k (next s.first past + 1) ks (omega (arith, h.falls.0)) h.falls.1;
  place = omega (arith, h.place);
}

pub unlinks_written : (s : Setting) (t : ℕ) (ks : List ℕ) (past : Past) → Unlinking s t ks past → Unlinking s t [] (write_unlinks s t ks past)
unlinks_written s t [] past h = h
unlinks_written s t (k ∷ ks) past h = unlinks_written s t ks (wrote s past t (Unlink k)) (unlink_step s t k ks past h)

-- ---- what the unlinks leave as it was

pub kept_live : (s : Setting) (t : ℕ) (ks : List ℕ) (past : Past) → live (write_unlinks s t ks past) ≡ live past
kept_live s t [] past = refl
kept_live s t (k ∷ ks) past = kept_live s t ks (wrote s past t (Unlink k))

kept_reached : (s : Setting) (t u : ℕ) (ks : List ℕ) (past : Past) → reached u (write_unlinks s t ks past) ≡ reached u past
kept_reached s t u [] past = refl
kept_reached s t u (k ∷ ks) past = kept_reached s t u ks (wrote s past t (Unlink k))

pub more_awaited : (s : Setting) (t : ℕ) (ks : List ℕ) (past : Past) → awaits t past ≢ [] → awaits t (write_unlinks s t ks past) ≢ []
more_awaited s t [] past some = some
more_awaited s t (k ∷ ks) past some = more_awaited s t ks (wrote s past t (Unlink k)) (rw (own t) (cons _ _))
  where
    cons : (x : Sent) (xs : List Sent) → x ∷ xs ≢ []
    cons x xs e = cc

pub more_busy : (s : Setting) (t : ℕ) (ks : List ℕ) (past : Past) → busy (outstanding past) ≢ [] → busy (outstanding (write_unlinks s t ks past)) ≢ []
more_busy s t [] past some = some
more_busy s t (k ∷ ks) past some = more_busy s t ks (wrote s past t (Unlink k)) (cons _ _)
  where
    cons : (x : Sent) (xs : List Sent) → x ∷ xs ≢ []
    cons x xs e = cc

-- ---- a ticket is stopped, with all its unlinks, at any depth

involved_falls : (n t : ℕ) (b : Bool) (xs : List Sent) → Below n xs → Below n (involved t b xs)
involved_falls n t b [] h = tt
involved_falls n t b (x ∷ xs) h = step (involved_falls x.number t b xs h.1) (is_of t x.owner || (b && is_listen x.order))
  where
    step : Below x.number (involved t b xs) → (c : Bool) → Below n (if c then x ∷ involved t b xs else involved t b xs)
    step again true = (h.0, again)
    step again false = below_up x.number n (involved t b xs) (omega (arith, h.0)) again

pub awaits_falls : (s : Setting) (past : Past) (t : ℕ) → Lawful s past → Below (next s.first past) (awaits t past)
awaits_falls s past t h = involved_falls (next s.first past) t (listens t past) (outstanding past) (outstanding_falls s past h)

-- behind the entry that stopped it, all unlinks are written, and it waits
stopped_waits : (s : Setting) (t : ℕ) (ks : List ℕ) (past : Past) (o : Outcome) → Unlinking s t ks past → active past ≡ Some t → reached t past ≡ Some o
    → awaits t past ≢ [] → busy (outstanding past) ≢ [] → Kept s (write_unlinks s t ks past)
stopped_waits s t ks past o started turn stop some more = record {
  lawful = done.lawful;
  quiet = record {
    settled = done.settled;
    unlinked = now_due s t [] (write_unlinks s t ks past) done.running done.hand done.due;
    written = λ runs u order law. stopped u order law;
    waits = waits_begun (write_unlinks s t ks past) t done.running now done.begun (more_awaited s t ks past some) (more_busy s t ks past more);
    over = λ runs. done.going;
  };
}
  where
    done : Unlinking s t [] (write_unlinks s t ks past)
    done = unlinks_written s t ks past started

    now : active (write_unlinks s t ks past) ≡ Some t
    now = ap first_of (kept_live s t ks past) ∙ turn

    stopped : (u : ℕ) (order : Order) → Planned s (write_unlinks s t ks past) u order → ⊥
    stopped u order law =
        let e : u ≡ t = same u t (sym law.turn ∙ now) in
        clash (sym (subst (λ (v : ℕ). is_some (reached v (write_unlinks s t ks past)) ≡ false) e law.free)
        ∙ ap (λ (o : Option Outcome). is_some o) (kept_reached s t t ks past ∙ stop))

pub waits_on : (o : Option Outcome) (xs : List Sent) → xs ≢ [] → once_free o xs ≡ None
waits_on o [] n = absurd (n refl)
waits_on o (x ∷ xs) n = refl

-- a cancel of the active ticket
cancelled_settled : (s : Setting) (past : Past) (t : ℕ) → Kept s past → active past ≡ Some t → awaits t past ≢ [] → AreSettled s (Cancelled t ∷ past)
cancelled_settled s past t kept turn some u lives = step (u == t) refl
  where
    step : (b : Bool) → (u == t) ≡ b → cause s u (Cancelled t ∷ past) ≡ None
    step true e =
        subst (λ (v : ℕ). cause s v (Cancelled t ∷ past) ≡ None) (sym (eqb-true u t e))
        (still_live s past (Cancelled t) t (kept.quiet.settled t (first_has t (live past) turn)) refl refl (waits_on (reached t (Cancelled t ∷ past)) (awaits t past) some))
    step false e =
        still s past (Cancelled t) u (kept.quiet.settled u lives) refl refl
        (rw (differ t u (λ k. eqb-false u t e (sym k))) (others_unreached s past kept.lawful t u turn lives (kept.quiet.settled u lives) (eqb-false u t e)))

cancelled_free : (s : Setting) (past : Past) (t : ℕ) → Kept s past → active past ≡ Some t → (u : ℕ) → has u (live past) ≡ true → (u ≡ t → ⊥) → reached u (Cancelled t ∷ past) ≡ None
cancelled_free s past t kept turn u lives other =
    rw (differ t u (λ k. other (sym k))) (others_unreached s past kept.lawful t u turn lives (kept.quiet.settled u lives) other)

pub cancel_kept : (s : Setting) (past : Past) (t : ℕ) (ks : List ℕ) → Kept s past → ended past ≡ None → active past ≡ Some t → in_hand past ≡ Some t
    → is_cancelled t past ≡ false → reached t past ≡ None → awaits t past ≢ [] → busy (outstanding past) ≢ [] → not_unlinked (awaits t past) (outstanding past) ≡ ks
    → length (outstanding past) + length ks ≤ DIRS_MAX → Kept s (write_unlinks s t ks (Cancelled t ∷ past))
cancel_kept s past t ks kept running turn hand fresh free some more due place =
    stopped_waits s t ks (Cancelled t ∷ past) outcome.Cancelled started turn stop some more
  where
    lives : has t (live past) ≡ true
    lives = first_has t (live past) turn

    stop : reached t (Cancelled t ∷ past) ≡ Some outcome.Cancelled
    stop = rw (own t) (rw free refl)

    started : Unlinking s t ks (Cancelled t ∷ past)
    started = record {
      lawful = (kept.lawful, (record { running = running; quiet = kept.quiet }, (lives, fresh)));
      running = running;
      going = kept.quiet.over running;
      hand = hand;
      begun = hand_begun t past hand;
      settled = cancelled_settled s past t kept turn some;
      free = cancelled_free s past t kept turn;
      due = rw lives (rw stop due);
      falls = subst (λ (l : List ℕ). Fall (next s.first past) l) due
          (due_falls (next s.first past) (awaits t past) (outstanding past) (awaits_falls s past t kept.lawful));
      place = place;
    }

-- a clear while it is active
pub clear_kept : (s : Setting) (past : Past) (t session : ℕ) (ks : List ℕ) → Kept s past → ended past ≡ None → active past ≡ Some t → in_hand past ≡ Some t
    → reached t past ≡ None → awaits t past ≢ [] → busy (outstanding past) ≢ [] → not_unlinked (awaits t past) (outstanding past) ≡ ks
    → length (outstanding past) + length ks ≤ DIRS_MAX → Kept s (write_unlinks s t ks (Cleared session ∷ past))
clear_kept s past t session ks kept running turn hand free some more due place =
    stopped_waits s t ks (Cleared session ∷ past) (outcome.Cleared session) started turn stop some more
  where
    lives : has t (live past) ≡ true
    lives = first_has t (live past) turn

    mine : is_active t (active past) ≡ true
    mine = rw turn (own t)

    stop : reached t (Cleared session ∷ past) ≡ Some (outcome.Cleared session)
    stop = rw mine (rw free refl)

    other : (u : ℕ) → (u ≡ t → ⊥) → is_active u (active past) ≡ false
    other u e = rw turn (differ t u (λ k. e (sym k)))

    settled : AreSettled s (Cleared session ∷ past)
    settled u h = step (u == t) refl where
      step : (b : Bool) → (u == t) ≡ b → cause s u (Cleared session ∷ past) ≡ None
      step true e =
          subst (λ (v : ℕ). cause s v (Cleared session ∷ past) ≡ None) (sym (eqb-true u t e))
          (still_live s past (Cleared session) t (kept.quiet.settled t lives) refl refl (waits_on (reached t (Cleared session ∷ past)) (awaits t past) some))
      step false e =
          still s past (Cleared session) u (kept.quiet.settled u h) refl refl
          (rw (other u (eqb-false u t e)) (others_unreached s past kept.lawful t u turn h (kept.quiet.settled u h) (eqb-false u t e)))

    started : Unlinking s t ks (Cleared session ∷ past)
    started = record {
      lawful = (kept.lawful, (record { running = running; quiet = kept.quiet }, tt));
      running = running;
      going = kept.quiet.over running;
      hand = hand;
      begun = hand_begun t past hand;
      settled = settled;
      free = λ u h e. rw (other u e) (others_unreached s past kept.lawful t u turn h (kept.quiet.settled u h) e);
      due = rw lives (rw stop due);
      falls = subst (λ (l : List ℕ). Fall (next s.first past) l) due
          (due_falls (next s.first past) (awaits t past) (outstanding past) (awaits_falls s past t kept.lawful));
      place = place;
    }

-- ---- the last message that a stopped ticket waits for is answered

pub first_stops : {A : Type 0} (a b c d : Option A) (x : A) → a ≡ None → b ≡ None → c ≡ None → d ≡ Some x → or_else a (or_else b (or_else c d)) ≡ Some x
first_stops a b c d x e f g h = rw e (rw f (rw g h))

pub stops_lawful : (s : Setting) (past : Past) (t : ℕ) (m : down.Message) (o : Outcome) → Kept s past → ended past ≡ None → StopsAt s past t m o → Lawful s (Settled t o ∷ Took m ∷ past)
stops_lawful s past t m o kept running e = (
  (kept.lawful, (record { running = running; quiet = kept.quiet }, e.may, e.good)),
  (
    lives,
    record {
      caused = first_stops (cause s t past) (made_at s t past (Took m)) None (stops t (Took m ∷ past)) o (kept.quiet.settled t lives) (e.unmade t lives) refl
          (rw e.none_left e.stop);
      order = λ u few h. others u h (λ k. omega (arith, k, few));
    },
  ),
)
  where
    lives : has t (live past) ≡ true
    lives = first_has t (live past) e.turn

    others : (u : ℕ) → has u (live past) ≡ true → (u ≡ t → ⊥) → cause s u (Took m ∷ past) ≡ None
    others u h other = still s past (Took m) u (kept.quiet.settled u h) (e.unmade u h) refl (others_unreached s past kept.lawful t u e.turn h (kept.quiet.settled u h) other)

pub stops_works : (s : Setting) (past : Past) (t : ℕ) (m : down.Message) (o : Outcome) → Kept s past → ended past ≡ None → StopsAt s past t m o
    → unlinks_due s (ended past) (Settled t o ∷ Took m ∷ past) ≡ [] → Working s (Settled t o ∷ Took m ∷ past)
stops_works s past t m o kept running e unlinked = record {
  lawful = stops_lawful s past t m o kept running e;
  works = record { running = running; free = e.free; settled = settled };
  unlinked = unlinked;
}
  where
    settled : AreSettled s (Settled t o ∷ Took m ∷ past)
    settled u h =
        let r : (has u (live past) ≡ true) × (u ≢ t) = has_removed u t (live past) h in
        let free : reached u past ≡ None = others_unreached s past kept.lawful t u e.turn r.0 (kept.quiet.settled u r.0) r.1 in
        still s (Took m ∷ past) (Settled t o) u (still s past (Took m) u (kept.quiet.settled u r.0) (e.unmade u r.0) refl free) refl refl free
