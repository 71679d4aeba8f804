-- the hub's end settles all live tickets in their order, and keeps the laws
use Rattle.std.proofs.Common.{◌≡◌, ◌⊎◌, ℕ, ◌<◌, Bool, true, false, List, [], ◌∷◌, ◌++◌, Option, Some, None, inl, inr, refl, sym, subst, ◌∙◌, ap, arith}
use Rattle.std.specs.Prelude.{◌==◌, is_some, if◌then◌else◌}
use Rattle.std.proofs.lemmas.Bool.{eqb-true}
use Rattle.usbip_wire.specs.Down as down
use Rattle.host_urbs.specs.Law.{MayTake}
use Rattle.host_hub.specs.declared.outcome.End.{End}
use Rattle.host_hub.specs.declared.outcome.End.TheVariants as end
use Rattle.host_hub.specs.Order.{Setting}
use Rattle.host_hub.specs.Record.{Asked, Fell, GaveUp, Past, Settled, Stopped, Took}
use Rattle.host_hub.specs.Crossings.{crossings}
use Rattle.host_hub.specs.Book.{has, is_given_up, live, or_else, remove}
use Rattle.host_hub.specs.Hand.{ended}
use Rattle.host_hub.specs.Outstanding.{find, outstanding}
use Rattle.host_hub.specs.Causes.{AreSettled, cause, causes, named}
use Rattle.host_hub.specs.Ends.{end_due, ends_by, fault_end}
use Rattle.host_hub.specs.Law.{ByBytes, ByClosing, ByFault, ByItself, ByNumbers, Kept, Lawful, StopLaw, WaitsIn}
use Rattle.host_hub.specs.Steps.{settle_all}
use Rattle.host_hub.proofs.Lists.{clash, differ, or_cases, or_left, or_right, own}
use Rattle.host_hub.proofs.Pasts.{lasts, live_known, not_stopped, still_live}

-- ---- live tickets stand in rising order

abbrev pub AreAbove : ℕ → List ℕ → Type 0
AreAbove x [] = Unit {0}
AreAbove x (y ∷ ys) = (x < y) × AreAbove x ys

abbrev pub AreRising : List ℕ → Type 0
AreRising [] = Unit {0}
AreRising (x ∷ xs) = AreAbove x xs × AreRising xs

above_end : (x t : ℕ) (ts : List ℕ) → AreAbove x ts → x < t → AreAbove x (ts ++ t ∷ [])
above_end x t [] h less = (less, tt)
above_end x t (y ∷ ys) h less = (h.0, above_end x t ys h.1 less)

rising_end : (t : ℕ) (ts : List ℕ) → AreRising ts → ((u : ℕ) → has u ts ≡ true → u < t) → AreRising (ts ++ t ∷ [])
rising_end t [] h most = (tt, tt)
rising_end t (x ∷ xs) h most = (above_end x t xs h.0 (most x (or_left _ _ (own x))), rising_end t xs h.1 (λ u e. most u (or_right _ _ e)))

above_removed : (x t : ℕ) (ts : List ℕ) → AreAbove x ts → AreAbove x (remove t ts)
above_removed x t [] h = tt
above_removed x t (y ∷ ys) h = step (above_removed x t ys h.1) (y == t)
  where
    step : AreAbove x (remove t ys) → (b : Bool) → AreAbove x (if b then remove t ys else y ∷ remove t ys)
    step again true = again
    step again false = (h.0, again)

rising_removed : (t : ℕ) (ts : List ℕ) → AreRising ts → AreRising (remove t ts)
rising_removed t [] h = tt
rising_removed t (x ∷ xs) h = step (rising_removed t xs h.1) (x == t)
  where
    step : AreRising (remove t xs) → (b : Bool) → AreRising (if b then remove t xs else x ∷ remove t xs)
    step again true = again
    step again false = (above_removed x t xs h.0, again)

pub live_rising : (s : Setting) (past : Past) → Lawful s past → AreRising (live past)
live_rising s [] h = tt
live_rising s (Asked t a ∷ past) h =
    rising_end t (live past) (live_rising s past h.0) (λ u lives. omega (arith, live_known s past h.0 u lives, h.1.1))
live_rising s (Settled t o ∷ past) h = rising_removed t (live past) (live_rising s past h.0)
live_rising s (x ∷ past) h = live_rising s past h.0

pub above_has : (x u : ℕ) (ts : List ℕ) → AreAbove x ts → has u ts ≡ true → x < u
above_has x u [] h e = clash e
above_has x u (y ∷ ys) h e = step (above_has x u ys h.1) (or_cases (y == u) _ e)
  where
    step : (has u ys ≡ true → x < u) → ((y == u) ≡ true) ⊎ (has u ys ≡ true) → x < u
    step again (inl k) = subst (λ (v : ℕ). x < v) (eqb-true y u k) h.0
    step again (inr k) = again k

absent : (t : ℕ) (ts : List ℕ) → ((u : ℕ) → has u ts ≡ true → t < u) → remove t ts ≡ ts
absent t [] h = refl
absent t (x ∷ xs) h =
    rw (differ x t (λ e. let k : t < x = h x (or_left _ _ (own x)) in omega (arith, k, e)))
    (ap (λ (ys : List ℕ). x ∷ ys) (absent t xs (λ u e. h u (or_right _ _ e))))

pub rest_of : (t : ℕ) (ts : List ℕ) → AreRising (t ∷ ts) → remove t (t ∷ ts) ≡ ts
rest_of t ts h = rw (own t) (absent t ts (λ u e. above_has t u ts h.0 e))

-- ---- they are settled one behind another

-- a past whose end is not settled yet
pub record Ended (s : Setting) (e : End) (ts : List ℕ) (past : Past) : Type 0 where
  pub lawful : Lawful s past
  pub lives : live past ≡ ts
  pub ended : ended past ≡ Some e
  pub due : (u : ℕ) → has u ts ≡ true → cause s u past ≡ Some (named e)

settle_one : (s : Setting) (e : End) (t : ℕ) (ts : List ℕ) (past : Past) → Ended s e (t ∷ ts) past → Ended s e ts (Settled t (named e) ∷ past)
settle_one s e t ts past h = record {
  lawful = (h.lawful, (rw h.lives (or_left _ _ (own t)), record { caused = h.due t (or_left _ _ (own t)); order = first }));
  lives = rw h.lives (rest_of t ts rising);
  ended = h.ended;
  due = λ u lives. lasts (cause s u past) (causes s u past (Settled t (named e))) (named e) (h.due u (or_right _ _ lives));
}
  where
    rising : AreRising (t ∷ ts)
    rising = subst AreRising h.lives (live_rising s past h.lawful)

    first : (u : ℕ) → u < t → has u (live past) ≡ true → cause s u past ≡ None
    first u less lives = step (or_cases (t == u) _ (subst (λ (l : List ℕ). has u l ≡ true) h.lives lives)) where
      step : ((t == u) ≡ true) ⊎ (has u ts ≡ true) → cause s u past ≡ None
      step (inl k) = absurd (omega (arith, less, eqb-true t u k))
      step (inr k) = absurd (let m : t < u = above_has t u ts rising.0 k in omega (arith, less, m))

settles : (s : Setting) (e : End) (ts : List ℕ) (past : Past) → Ended s e ts past → Ended s e [] (settle_all e ts past)
settles s e [] past h = h
settles s e (t ∷ ts) past h = settles s e ts (Settled t (named e) ∷ past) (settle_one s e t ts past h)

ended_kept : (s : Setting) (e : End) (past : Past) → Ended s e [] past → Kept s past
ended_kept s e past h = record {
  lawful = h.lawful;
  quiet = record {
    settled = λ u lives. clash (subst (λ (l : List ℕ). has u l ≡ true) h.lives lives);
    unlinked = rw h.ended refl;
    written = λ running. absurd (over running);
    waits = subst (λ (o : Option End). WaitsIn o past) (sym h.ended) tt;
    over = λ running. absurd (over running);
  };
}
  where
    over : ended past ≡ None → ⊥
    over k = let m : None ≡ Some e = sym k ∙ h.ended in cc

-- an answer ends the hub
pub fell_kept : (s : Setting) (past : Past) (m : down.Message) (e : End) → Kept s past → ended past ≡ None → MayTake (crossings s past) m → ends_by s past m ≡ Some e
    → Kept s (settle_all e (live past) (Fell m e ∷ past))
fell_kept s past m e kept running may ends =
    ended_kept s e (settle_all e (live past) (Fell m e ∷ past)) (settles s e (live past) (Fell m e ∷ past) (record {
      lawful = (kept.lawful, (record { running = running; quiet = kept.quiet }, may, ends));
      lives = refl;
      ended = refl;
      due = λ u lives. rw (kept.quiet.settled u lives) refl;
    }))

-- it ends otherwise

pub stop_settled : (s : Setting) (past : Past) (e : End) → StopLaw s past e → AreSettled s past
stop_settled s past e (ByFault is quiet) = quiet.settled
stop_settled s past e (ByClosing is quiet) = quiet.settled
stop_settled s past e (ByBytes f is quiet) = quiet.settled
stop_settled s past e (ByItself due settled) = settled
stop_settled s past e (ByNumbers is due) = due.works.settled

pub stopped_kept : (s : Setting) (past : Past) (e : End) → Lawful s past → ended past ≡ None → StopLaw s past e → Kept s (settle_all e (live past) (Stopped e ∷ past))
stopped_kept s past e lawful running law =
    ended_kept s e (settle_all e (live past) (Stopped e ∷ past)) (settles s e (live past) (Stopped e ∷ past) (record {
      lawful = (lawful, (running, law));
      lives = refl;
      ended = refl;
      due = λ u lives. rw (stop_settled s past e law u lives) refl;
    }))

-- ---- its user gives it up

some_first : (a b : Option End) → is_some a ≡ true → is_some (or_else a b) ≡ true
some_first (Some x) b h = h
some_first None b h = clash h

some_second : (a : Option End) (x : End) → is_some (or_else a (Some x)) ≡ true
some_second (Some y) x = refl
some_second None x = refl

given_due : (past : Past) → is_given_up past ≡ true → is_some (end_due past) ≡ true
given_due [] h = clash h
given_due (GaveUp ∷ past) h = some_second (end_due past) end.GivenUp
given_due (Took (down.RetSubmit head bytes) ∷ past) h =
    some_first (end_due past) (fault_end (find head.seqnum (outstanding past)) head.status) (given_due past h)
given_due (Took (down.RetUnlink head) ∷ past) h = given_due past h
given_due (x ∷ past) h = given_due past h

pub not_given : (past : Past) → end_due past ≡ None → is_given_up past ≡ false
not_given past none = step (is_given_up past) refl
  where
    step : (b : Bool) → is_given_up past ≡ b → is_given_up past ≡ false
    step true e = clash (sym (ap (λ (o : Option End). is_some o) none) ∙ given_due past e)
    step false e = e

pub gave_up_kept : (s : Setting) (past : Past) → Kept s past → ended past ≡ None → Kept s (settle_all end.GivenUp (live past) (Stopped end.GivenUp ∷ GaveUp ∷ past))
gave_up_kept s past kept running =
    stopped_kept s (GaveUp ∷ past) end.GivenUp
    (kept.lawful, (record { running = running; quiet = kept.quiet }, not_given past (kept.quiet.over running))) running
    (ByItself (rw (kept.quiet.over running) refl)
    (λ u lives. still_live s past GaveUp u (kept.quiet.settled u lives) refl refl (not_stopped s u past (kept.quiet.settled u lives))))
