-- the numbers above the last submit's suffice for unlinks
use Rattle.std.proofs.Common.{◌≡◌, ◌≢◌, ◌⊎◌, ℕ, ◌+◌, ◌<◌, ◌≤◌, suc, Bool, true, false, List, [], ◌∷◌, ◌++◌, length, Option, Some, None, inl, inr, refl, sym, subst, ◌∙◌, ap, arith}
use Rattle.std.specs.Prelude.{◌==◌, is_some, nat_lt, if◌then◌else◌}
use Rattle.std.proofs.lemmas.Bool.{eqb-true, eqb-false, eq-eqb, ltb-true, ltb-false}
use Rattle.usbip_wire.specs.declared.dirs.TheConstants.{DIRS_MAX}
use Rattle.usbip_wire.specs.Awaited.{Awaited, entries_of, entry_of, sent_by}
use Rattle.usbip_wire.specs.declared.dirs.Outstanding.{Outstanding}
use Rattle.usbip_wire.specs.Dirs as dirs
use Rattle.usbip_wire.specs.Down as down
use Rattle.usbip_wire.specs.Up as up
use Rattle.host_urbs.specs.declared.limits.TheConstants.{LAST_SUBMIT}
use Rattle.host_urbs.specs.Law as urbs_law
use Rattle.host_urbs.specs.Law.{is_named}
use Rattle.host_urbs.specs.Record as urbs
use Rattle.host_urbs.specs.Unlinks as unlinks
use Rattle.host_hub.specs.Order.{Class, ClearHalt, Listen, Order, Part, Read, Request, Setting, Trigger, Unlink, is_unlink, message_of}
use Rattle.host_hub.specs.Record.{Asked, Cancelled, Cleared, Fell, GaveUp, Owner, Past, Recovers, Settled, Stopped, Took, Wrote, next, written}
use Rattle.host_hub.specs.Crossings.{crossings}
use Rattle.host_hub.specs.Outstanding.{Sent, find, less, less_unlink, others, outstanding, without_named}
use Rattle.host_hub.specs.Law.{Lawful}
use Rattle.host_hub.proofs.Entries.{IsIn, found_as, found_there}
use Rattle.host_hub.proofs.Exact.{last_unlink, more_unlinks}
use Rattle.host_hub.proofs.Fronts.{found_in}
use Rattle.host_hub.proofs.Lawful.{lawful_crossings}
use Rattle.host_hub.proofs.Lists.{clash}
use Rattle.host_hub.proofs.Messages.{written_same}
use Rattle.host_hub.proofs.Numbers.{length_awaited, may_next, same_outstanding}

-- what host_urbs says of unlinks
abbrev pub NoneYet : Type 0
NoneYet = (first : ℕ) (past : urbs.Past) (n : ℕ) → urbs_law.Lawful first past → is_some (dirs.submit_of (dirs.find n (entries_of (urbs.outstanding past)))) ≡ true
    → is_named n (urbs.outstanding past) ≡ false → unlinks.unlinks_of n (urbs.written past) ≡ 0

-- how many of these numbers no unlink names
abbrev unnamed : List ℕ → List up.Message → ℕ
unnamed [] ms = 0
unnamed (n ∷ ns) ms = if unlinks.unlinks_of n ms == 0 then suc (unnamed ns ms) else unnamed ns ms

abbrev Holds : ℕ → List ℕ → Type 0
Holds n [] = ⊥
Holds n (k ∷ ks) = (k ≡ n) ⊎ Holds n ks

few_unnamed : (ns : List ℕ) (ms : List up.Message) → unnamed ns ms ≤ length ns
few_unnamed [] ms = omega arith
few_unnamed (n ∷ ns) ms = step (unlinks.unlinks_of n ms == 0) (few_unnamed ns ms)
  where
    step : (b : Bool) → unnamed ns ms ≤ length ns → (if b then suc (unnamed ns ms) else unnamed ns ms) ≤ suc (length ns)
    step true h = omega (arith, h)
    step false h = omega (arith, h)

not_zero : (n : ℕ) → (n == 0) ≡ false → 1 ≤ n
not_zero n h = let k : n ≢ 0 = eqb-false n 0 h in omega (arith, k)

fewer : (ns : List ℕ) (ms : List up.Message) (m : up.Message) → unnamed ns (ms ++ m ∷ []) ≤ unnamed ns ms
fewer [] ms m = omega arith
fewer (n ∷ ns) ms m = step (unlinks.unlinks_of n (ms ++ m ∷ []) == 0) refl (unlinks.unlinks_of n ms == 0) refl (fewer ns ms m)
  where
    step : (b : Bool) → (unlinks.unlinks_of n (ms ++ m ∷ []) == 0) ≡ b → (c : Bool) → (unlinks.unlinks_of n ms == 0) ≡ c → unnamed ns (ms ++ m ∷ []) ≤ unnamed ns ms
        → (if b then suc (unnamed ns (ms ++ m ∷ [])) else unnamed ns (ms ++ m ∷ [])) ≤ (if c then suc (unnamed ns ms) else unnamed ns ms)
    step true e true f h = omega (arith, h)
    step true e false f h = absurd (omega (arith, eqb-true (unlinks.unlinks_of n (ms ++ m ∷ [])) 0 e, not_zero (unlinks.unlinks_of n ms) f, more_unlinks n ms m))
    step false e true f h = omega (arith, h)
    step false e false f h = h

-- an unlink that names one of them for the first time leaves one less
one_less : (s : Setting) (n k : ℕ) (ns : List ℕ) (ms : List up.Message) → Holds n ns → unlinks.unlinks_of n ms ≡ 0
    → unnamed ns (ms ++ message_of s k (Unlink n) ∷ []) + 1 ≤ unnamed ns ms
one_less s n k [] ms h none = absurd h
one_less s n k (j ∷ js) ms (inl e) none =
    subst (λ (i : ℕ). (if unlinks.unlinks_of i (ms ++ message_of s k (Unlink n) ∷ []) == 0 then suc (unnamed js (ms ++ message_of s k (Unlink n) ∷ [])) else unnamed js (ms ++ message_of s k (Unlink n) ∷ [])) + 1
    ≤ (if unlinks.unlinks_of i ms == 0 then suc (unnamed js ms) else unnamed js ms)) (sym e)
    (step (unlinks.unlinks_of n (ms ++ message_of s k (Unlink n) ∷ []) == 0) refl (unlinks.unlinks_of n ms == 0) (eq-eqb (unlinks.unlinks_of n ms) 0 none))
  where
    step : (b : Bool) → (unlinks.unlinks_of n (ms ++ message_of s k (Unlink n) ∷ []) == 0) ≡ b → (c : Bool) → c ≡ true
        → (if b then suc (unnamed js (ms ++ message_of s k (Unlink n) ∷ [])) else unnamed js (ms ++ message_of s k (Unlink n) ∷ [])) + 1 ≤ (if c then suc (unnamed js ms) else unnamed js ms)
    step true f c g = absurd (omega (arith, eqb-true (unlinks.unlinks_of n (ms ++ message_of s k (Unlink n) ∷ [])) 0 f, last_unlink s n k ms))
    step false f true g = omega (arith, fewer js ms (message_of s k (Unlink n)))
    step false f false g = clash g
one_less s n k (j ∷ js) ms (inr h) none =
    step (unlinks.unlinks_of j (ms ++ message_of s k (Unlink n) ∷ []) == 0) refl (unlinks.unlinks_of j ms == 0) refl (one_less s n k js ms h none)
  where
    step : (b : Bool) → (unlinks.unlinks_of j (ms ++ message_of s k (Unlink n) ∷ []) == 0) ≡ b → (c : Bool) → (unlinks.unlinks_of j ms == 0) ≡ c
        → unnamed js (ms ++ message_of s k (Unlink n) ∷ []) + 1 ≤ unnamed js ms
        → (if b then suc (unnamed js (ms ++ message_of s k (Unlink n) ∷ [])) else unnamed js (ms ++ message_of s k (Unlink n) ∷ [])) + 1 ≤ (if c then suc (unnamed js ms) else unnamed js ms)
    step true e true f g = omega (arith, g)
    step true e false f g =
        absurd (omega (arith, eqb-true (unlinks.unlinks_of j (ms ++ message_of s k (Unlink n) ∷ [])) 0 e, not_zero (unlinks.unlinks_of j ms) f, more_unlinks j ms (message_of s k (Unlink n))))
    step false e true f g = omega (arith, g)
    step false e false f g = g

-- ---- the submits that are out are among these

abbrev AreHeld : List ℕ → List Sent → Type 0
AreHeld ns xs = (x : Sent) → IsIn x xs → is_unlink x.order ≡ false → Holds x.number ns

held_others : (ns : List ℕ) (n : ℕ) (xs : List Sent) → AreHeld ns xs → AreHeld ns (others n xs)
held_others ns n [] h x k plain = absurd k
held_others ns n (y ∷ ys) h x k plain = step (y.number == n) (held_others ns n ys (λ z i p. h z (inr i) p) x) k
  where
    kept : (IsIn x (others n ys) → is_unlink x.order ≡ false → Holds x.number ns) → (x ≡ y) ⊎ IsIn x (others n ys) → Holds x.number ns
    kept again (inl e) = h x (inl e) plain
    kept again (inr e) = again e plain

    step : (b : Bool) → (IsIn x (others n ys) → is_unlink x.order ≡ false → Holds x.number ns) → IsIn x (if b then others n ys else y ∷ others n ys) → Holds x.number ns
    step true again i = again i plain
    step false again i = kept again i

held_named : (order : Order) (ns : List ℕ) (xs : List Sent) → AreHeld ns xs → AreHeld ns (without_named order xs)
held_named (Unlink target) ns xs h = held_others ns target xs h
held_named order ns xs h = h

held_unlink : (ns : List ℕ) (n : ℕ) (xs : List Sent) → AreHeld ns xs → AreHeld ns (less_unlink n xs)
held_unlink ns n [] h x k plain = absurd k
held_unlink ns n (y ∷ ys) h x k plain = step (y.number == n) (held_unlink ns n ys (λ z i p. h z (inr i) p) x) k
  where
    kept : (IsIn x (less_unlink n ys) → is_unlink x.order ≡ false → Holds x.number ns) → (x ≡ y) ⊎ IsIn x (less_unlink n ys) → Holds x.number ns
    kept again (inl e) = h x (inl e) plain
    kept again (inr e) = again e plain

    step : (b : Bool) → (IsIn x (less_unlink n ys) → is_unlink x.order ≡ false → Holds x.number ns) → IsIn x (if b then without_named y.order ys else y ∷ less_unlink n ys) → Holds x.number ns
    step true again i = held_named y.order ns ys (λ z j p. h z (inr j) p) x i plain
    step false again i = kept again i

held_less : (m : down.Message) (ns : List ℕ) (xs : List Sent) → AreHeld ns xs → AreHeld ns (less m xs)
held_less (down.RetSubmit head bytes) ns xs h = held_others ns head.seqnum xs h
held_less (down.RetUnlink head) ns xs h = held_unlink ns head.seqnum xs h

numbers : List Sent → List ℕ
numbers [] = []
numbers (x ∷ xs) = x.number ∷ numbers xs

numbers_length : (xs : List Sent) → length (numbers xs) ≡ length xs
unfolding numbers
numbers_length [] = refl
numbers_length (x ∷ xs) = omega (arith, numbers_length xs)

all_held : (xs : List Sent) → AreHeld (numbers xs) xs
unfolding numbers
all_held [] x k plain = absurd k
all_held (y ∷ ys) x (inl e) plain = inl (sym (ap (λ (z : Sent). z.number) e))
all_held (y ∷ ys) x (inr e) plain = inr (all_held ys x e plain)

-- ---- so the numbers suffice

is_plain : (s : Setting) (x : Sent) → is_some (dirs.submit_of (found_as s (Some x))) ≡ true → is_unlink x.order ≡ false
is_plain s x h = by x.order h
  where
    by : (order : Order) → is_some (dirs.submit_of (Some (entry_of (sent_by (message_of s x.number order))))) ≡ true → is_unlink order ≡ false
    by (Unlink target) e = clash e
    by order e = refl

pub record Above (s : Setting) (past : Past) : Type 0 where
  pub those : List ℕ
  pub held : AreHeld those (outstanding past)
  pub left : next s.first past + unnamed those (written s past) ≤ LAST_SUBMIT + 1 + DIRS_MAX

abbrev IsNumbered : Setting → Past → Type 0
IsNumbered s past = (next s.first past ≤ LAST_SUBMIT + 1) ⊎ Above s past

pub submit_last : (s : Setting) (past : Past) (n : ℕ) (order : Order) → is_unlink order ≡ false → urbs_law.MayWrite s.first (crossings s past) (message_of s n order) → n ≤ LAST_SUBMIT
submit_last s past n (Unlink target) plain may = clash (sym plain)
submit_last s past n (Part tag text eom) plain may = may.last
submit_last s past n (Request tag size) plain may = may.last
submit_last s past n (Trigger tag) plain may = may.last
submit_last s past n Read plain may = may.last
submit_last s past n Listen plain may = may.last
submit_last s past n (Class request) plain may = may.last
submit_last s past n (ClearHalt endpoint) plain may = may.last

wrote_submit : (s : Setting) (past : Past) (n : ℕ) (o : Owner) (order : Order) → is_unlink order ≡ false → urbs_law.MayWrite s.first (crossings s past) (message_of s n order)
    → IsNumbered s (Wrote n o order ∷ past)
wrote_submit s past n o order plain may = inl (omega (arith, submit_last s past n order plain may, may_next s past n order may))

wrote_unlink : NoneYet → (s : Setting) (past : Past) (n target : ℕ) (o : Owner) → Lawful s past → urbs_law.MayWrite s.first (crossings s past) (message_of s n (Unlink target))
    → IsNumbered s past → IsNumbered s (Wrote n o (Unlink target) ∷ past)
wrote_unlink none_yet s past n target o h may (inr a) = inr (record {
  those = a.those;
  held = held;
  left = omega (arith, a.left, one_less s target n a.those (written s past) (a_target (find target (outstanding past)) refl named) none);
})
  where
    held : AreHeld a.those (outstanding (Wrote n o (Unlink target) ∷ past))
    held x (inl e) plain = clash (sym plain ∙ ap (λ (z : Sent). is_unlink z.order) e)
    held x (inr e) plain = a.held x e plain

    named : is_some (dirs.submit_of (found_as s (find target (outstanding past)))) ≡ true
    named = ap (λ (k : Option Outstanding). is_some (dirs.submit_of k)) (sym (found_there s past target h)) ∙ may.named

    none : unlinks.unlinks_of target (written s past) ≡ 0
    none = ap (λ (l : List up.Message). unlinks.unlinks_of target l) (written_same s past)
        ∙ none_yet s.first (crossings s past) target (lawful_crossings s past h) may.named may.once

    a_target : (k : Option Sent) → find target (outstanding past) ≡ k → is_some (dirs.submit_of (found_as s k)) ≡ true → Holds target a.those
    a_target None e f = clash f
    a_target (Some x) e f =
        let there = found_in target (outstanding past) x e in
        subst (λ (i : ℕ). Holds i a.those) there.1 (a.held x there.0 (is_plain s x f))
wrote_unlink none_yet s past n target o h may (inl few) = step (nat_lt (next s.first past) (LAST_SUBMIT + 1)) refl
  where
    place : length (outstanding past) < DIRS_MAX
    place = omega (arith, may.place, ap (λ (l : List Awaited). length l) (same_outstanding s past h), length_awaited s (outstanding past))

    above : next s.first past ≡ LAST_SUBMIT + 1 → Above s (Wrote n o (Unlink target) ∷ past)
    above e = record {
      those = numbers (outstanding past);
      held = held;
      left = omega (arith, e, place, few_unnamed (numbers (outstanding past)) (written s past ++ message_of s n (Unlink target) ∷ []), numbers_length (outstanding past));
    } where
      held : AreHeld (numbers (outstanding past)) (outstanding (Wrote n o (Unlink target) ∷ past))
      held x (inl i) plain = clash (sym plain ∙ ap (λ (z : Sent). is_unlink z.order) i)
      held x (inr i) plain = all_held (outstanding past) x i plain

    step : (b : Bool) → nat_lt (next s.first past) (LAST_SUBMIT + 1) ≡ b → IsNumbered s (Wrote n o (Unlink target) ∷ past)
    step true e = inl (let l : next s.first past < LAST_SUBMIT + 1 = ltb-true (next s.first past) (LAST_SUBMIT + 1) e in omega (arith, l))
    step false e = inr (above (let l : LAST_SUBMIT + 1 ≤ next s.first past = ltb-false (next s.first past) (LAST_SUBMIT + 1) e in omega (arith, l, few)))

took : (s : Setting) (past q : Past) (m : down.Message) → outstanding q ≡ less m (outstanding past) → next s.first q ≡ next s.first past → written s q ≡ written s past → IsNumbered s past → IsNumbered s q
took s past q m e f g (inl few) = inl (omega (arith, few, f))
took s past q m e f g (inr a) = inr (record {
  those = a.those;
  held = subst (λ (xs : List Sent). AreHeld a.those xs) (sym e) (held_less m a.those (outstanding past) a.held);
  left = omega (arith, a.left, f, ap (λ (l : List up.Message). unnamed a.those l) g);
})

stays : (s : Setting) (past q : Past) → outstanding q ≡ outstanding past → next s.first q ≡ next s.first past → written s q ≡ written s past → IsNumbered s past → IsNumbered s q
stays s past q e f g (inl few) = inl (omega (arith, few, f))
stays s past q e f g (inr a) = inr (record {
  those = a.those;
  held = subst (λ (xs : List Sent). AreHeld a.those xs) (sym e) a.held;
  left = omega (arith, a.left, f, ap (λ (l : List up.Message). unnamed a.those l) g);
})

numbered : NoneYet → (s : Setting) (past : Past) → s.first ≤ LAST_SUBMIT + 1 → Lawful s past → IsNumbered s past
numbered none s [] first h = inl first
numbered none s (Wrote n o (Unlink target) ∷ past) first h = wrote_unlink none s past n target o h.0 h.1.1 (numbered none s past first h.0)
numbered none s (Wrote n o (Part tag text eom) ∷ past) first h = wrote_submit s past n o (Part tag text eom) refl h.1.1
numbered none s (Wrote n o (Request tag size) ∷ past) first h = wrote_submit s past n o (Request tag size) refl h.1.1
numbered none s (Wrote n o (Trigger tag) ∷ past) first h = wrote_submit s past n o (Trigger tag) refl h.1.1
numbered none s (Wrote n o Read ∷ past) first h = wrote_submit s past n o Read refl h.1.1
numbered none s (Wrote n o Listen ∷ past) first h = wrote_submit s past n o Listen refl h.1.1
numbered none s (Wrote n o (Class request) ∷ past) first h = wrote_submit s past n o (Class request) refl h.1.1
numbered none s (Wrote n o (ClearHalt endpoint) ∷ past) first h = wrote_submit s past n o (ClearHalt endpoint) refl h.1.1
numbered none s (Took m ∷ past) first h = took s past (Took m ∷ past) m refl refl refl (numbered none s past first h.0)
numbered none s (Fell m e ∷ past) first h = took s past (Fell m e ∷ past) m refl refl refl (numbered none s past first h.0)
numbered none s (Stopped e ∷ past) first h = stays s past (Stopped e ∷ past) refl refl refl (numbered none s past first h.0)
numbered none s (Recovers ∷ past) first h = stays s past (Recovers ∷ past) refl refl refl (numbered none s past first h.0)
numbered none s (Asked t a ∷ past) first h = stays s past (Asked t a ∷ past) refl refl refl (numbered none s past first h.0)
numbered none s (Cancelled t ∷ past) first h = stays s past (Cancelled t ∷ past) refl refl refl (numbered none s past first h.0)
numbered none s (Cleared w ∷ past) first h = stays s past (Cleared w ∷ past) refl refl refl (numbered none s past first h.0)
numbered none s (GaveUp ∷ past) first h = stays s past (GaveUp ∷ past) refl refl refl (numbered none s past first h.0)
numbered none s (Settled t o ∷ past) first h = stays s past (Settled t o ∷ past) refl refl refl (numbered none s past first h.0)

pub numbers_suffice : NoneYet → (s : Setting) (past : Past) → s.first ≤ LAST_SUBMIT + 1 → Lawful s past → next s.first past ≤ LAST_SUBMIT + 1 + DIRS_MAX
numbers_suffice none s past first h = by (numbered none s past first h)
  where
    by : IsNumbered s past → next s.first past ≤ LAST_SUBMIT + 1 + DIRS_MAX
    by (inl few) = omega (arith, few)
    by (inr a) = omega (arith, a.left)
