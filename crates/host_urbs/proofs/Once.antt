-- what happens once: unlinks, answers; and how much is outstanding
use Rattle.std.proofs.Common.{◌≡◌, ◌⊎◌, ℕ, suc, ◌+◌, ◌≤◌, ◌||◌, ◌&&◌, Bool, true, false, List, [], ◌∷◌, ◌++◌, length, Option, Some, None, inl, inr, refl, sym, subst, ◌∙◌, ap, arith, length-append}
use Rattle.std.specs.Prelude.{◌==◌, if◌then◌else◌, is_some}
use Rattle.std.proofs.lemmas.Bool.{eqb-true, eqb-false}
use Rattle.usbip_wire.specs.declared.dirs.TheConstants.{DIRS_MAX}
use Rattle.usbip_wire.specs.declared.dirs.Outstanding.{Outstanding}
use Rattle.usbip_wire.specs.Awaited.{Awaited, Submit, Unlink, entry_of, entries_of, number_of, sent_by, without, left_by}
use Rattle.usbip_wire.specs.Dirs as dirs
use Rattle.usbip_wire.specs.Dirs.{find, submit_of, is_unlink}
use Rattle.usbip_wire.specs.Down as down
use Rattle.usbip_wire.specs.Up as up
use Rattle.host_urbs.specs.Record.{Past, Wrote, Took, written, taken, next, outstanding}
use Rattle.host_urbs.specs.Law.{is_named, Lawful, MayTake}
use Rattle.host_urbs.specs.Unanswered.{seqnum_of, AreInARow, AreRising, is_returned, is_unlinked, is_taken_back, is_answered, unanswered}
use Rattle.host_urbs.specs.Unlinks.{unlinks_of, answers_of, not_named, removed}
use Rattle.host_urbs.proofs.Basics.{clash, differ, neither, or_assoc, turned}
use Rattle.host_urbs.proofs.Lists.{found, skipped}
use Rattle.host_urbs.proofs.Known.{known, AreBelow, some_submit, unlink_at}

-- ---- unlinks

-- a submit that is outstanding was not taken back
pub not_back : (n : ℕ) (all : List up.Message) (t : List down.Message) (ms : List up.Message) → is_some (submit_of (find n (entries_of (unanswered all t ms)))) ≡ true
    → is_taken_back n all t ≡ false
not_back n all t [] h = clash h
not_back n all t (m ∷ ms) h = step m (is_answered all t m) refl (not_back n all t ms) h
  where
    here : (m : up.Message) → is_answered all t m ≡ false → (is_some (submit_of (find n (entries_of (unanswered all t ms)))) ≡ true → is_taken_back n all t ≡ false)
        → (c : Bool) → (number_of (sent_by m) == n) ≡ c → is_some (submit_of (find n (entries_of (sent_by m ∷ unanswered all t ms)))) ≡ true → is_taken_back n all t ≡ false
    here (up.Submit head x) e again true f k =
        subst (λ (i : ℕ). is_taken_back i all t ≡ false) (eqb-true head.seqnum n f) (neither (is_returned head.seqnum t) (is_taken_back head.seqnum all t) e).1
    here (up.Submit head x) e again false f k = again (subst (λ (o : Option Outstanding). is_some (submit_of o) ≡ true) (skipped n (entry_of (sent_by (up.Submit head x))) (entries_of (unanswered all t ms)) f) k)
    here (up.Unlink head) e again true f k = clash (subst (λ (o : Option Outstanding). is_some (submit_of o) ≡ true) (found n (entry_of (sent_by (up.Unlink head))) (entries_of (unanswered all t ms)) f) k)
    here (up.Unlink head) e again false f k = again (subst (λ (o : Option Outstanding). is_some (submit_of o) ≡ true) (skipped n (entry_of (sent_by (up.Unlink head))) (entries_of (unanswered all t ms)) f) k)

    step : (m : up.Message) (a : Bool) → is_answered all t m ≡ a → (is_some (submit_of (find n (entries_of (unanswered all t ms)))) ≡ true → is_taken_back n all t ≡ false)
        → is_some (submit_of (find n (entries_of (if a then unanswered all t ms else sent_by m ∷ unanswered all t ms)))) ≡ true → is_taken_back n all t ≡ false
    step m true e again k = again k
    step m false e again k = here m e again (number_of (sent_by m) == n) refl k

-- where no unlink of it is outstanding, none was written
named_none : (n : ℕ) (all : List up.Message) (t : List down.Message) (ms : List up.Message) → is_taken_back n ms t ≡ false → is_named n (unanswered all t ms) ≡ false
    → unlinks_of n ms ≡ 0
named_none n all t [] h k = refl
named_none n all t (up.Submit head x ∷ ms) h k = named_none n all t ms h (step (is_answered all t (up.Submit head x)) k)
  where
    step : (a : Bool) → is_named n (if a then unanswered all t ms else sent_by (up.Submit head x) ∷ unanswered all t ms) ≡ false → is_named n (unanswered all t ms) ≡ false
    step true e = e
    step false e = e
named_none n all t (up.Unlink head ∷ ms) h k = step (head.target == n) (is_unlinked head.seqnum t) refl (neither _ _ h).0 (named_none n all t ms (neither _ _ h).1) k
  where
    step : (a b : Bool) → (head.target == n) ≡ a → a && b ≡ false → (is_named n (unanswered all t ms) ≡ false → unlinks_of n ms ≡ 0)
        → is_named n (if b then unanswered all t ms else sent_by (up.Unlink head) ∷ unanswered all t ms) ≡ false → (if a then suc (unlinks_of n ms) else unlinks_of n ms) ≡ 0
    step true true e f again g = clash (sym f)
    step true false e f again g = clash (sym (sym (ap (λ (c : Bool). c || is_named n (unanswered all t ms)) e) ∙ g))
    step false true e f again g = again g
    step false false e f again g = again (neither _ _ g).1

named_some : (n : ℕ) (all : List up.Message) (t : List down.Message) (ms : List up.Message) → is_named n (unanswered all t ms) ≡ true → 1 ≤ unlinks_of n ms
named_some n all t [] h = clash h
named_some n all t (up.Submit head x ∷ ms) h = named_some n all t ms (step (is_answered all t (up.Submit head x)) h)
  where
    step : (a : Bool) → is_named n (if a then unanswered all t ms else sent_by (up.Submit head x) ∷ unanswered all t ms) ≡ true → is_named n (unanswered all t ms) ≡ true
    step true e = e
    step false e = e
named_some n all t (up.Unlink head ∷ ms) h = step (head.target == n) (is_unlinked head.seqnum t) refl (named_some n all t ms) h
  where
    step : (a b : Bool) → (head.target == n) ≡ a → (is_named n (unanswered all t ms) ≡ true → 1 ≤ unlinks_of n ms)
        → is_named n (if b then unanswered all t ms else sent_by (up.Unlink head) ∷ unanswered all t ms) ≡ true → 1 ≤ (if a then suc (unlinks_of n ms) else unlinks_of n ms)
    step true b e again g = omega arith
    step false true e again g = again g
    step false false e again g = again (sym (ap (λ (c : Bool). c || is_named n (unanswered all t ms)) e) ∙ g)

-- a submit that is outstanding, of which no unlink is, was never unlinked
pub never : (first : ℕ) (past : Past) (n : ℕ) → Lawful first past → is_some (submit_of (find n (entries_of (outstanding past)))) ≡ true → is_named n (outstanding past) ≡ false
    → unlinks_of n (written past) ≡ 0
never first past n h there none =
    let k = known first past h in
    named_none n (written past) (taken past) (written past)
    (not_back n (written past) (taken past) (written past) (subst (λ (l : List Awaited). is_some (submit_of (find n (entries_of l))) ≡ true) k.due there))
    (subst (λ (l : List Awaited). is_named n l ≡ false) k.due none)

unlinks_more : (n : ℕ) (ms : List up.Message) (m : up.Message) → unlinks_of n (ms ++ m ∷ []) ≡ unlinks_of n ms + unlinks_of n (m ∷ [])
unlinks_more n [] m = omega arith
unlinks_more n (up.Submit head x ∷ ms) m = unlinks_more n ms m
unlinks_more n (up.Unlink head ∷ ms) m = step (head.target == n) (unlinks_more n ms m)
  where
    step : (a : Bool) → unlinks_of n (ms ++ m ∷ []) ≡ unlinks_of n ms + unlinks_of n (m ∷ [])
        → (if a then suc (unlinks_of n (ms ++ m ∷ [])) else unlinks_of n (ms ++ m ∷ [])) ≡ (if a then suc (unlinks_of n ms) else unlinks_of n ms) + unlinks_of n (m ∷ [])
    step true e = omega (arith, e)
    step false e = e

pub one_unlink : (first : ℕ) (past : Past) (n : ℕ) → Lawful first past → unlinks_of n (written past) ≤ 1
one_unlink first [] n h = omega arith
one_unlink first (Took m ∷ past) n h = one_unlink first past n h.0
one_unlink first (Wrote (up.Submit head x) ∷ past) n h = omega (arith, unlinks_more n (written past) (up.Submit head x), one_unlink first past n h.0)
one_unlink first (Wrote (up.Unlink head) ∷ past) n h = step (head.target == n) refl (one_unlink first past n h.0) (unlinks_more n (written past) (up.Unlink head))
  where
    step : (a : Bool) → (head.target == n) ≡ a → unlinks_of n (written past) ≤ 1
        → unlinks_of n (written past ++ up.Unlink head ∷ []) ≡ unlinks_of n (written past) + (if a then suc 0 else 0) → unlinks_of n (written past ++ up.Unlink head ∷ []) ≤ 1
    step true e again f = omega (arith, f, subst (λ (i : ℕ). unlinks_of i (written past) ≡ 0) (eqb-true head.target n e) (never first past head.target h.0 h.1.named h.1.once))
    step false e again f = omega (arith, f, again)

pub exactly_one : (first : ℕ) (past : Past) (n : ℕ) → Lawful first past → is_named n (outstanding past) ≡ true → unlinks_of n (written past) ≡ 1
exactly_one first past n h named =
    let k = known first past h in
    omega (arith, one_unlink first past n h, named_some n (written past) (taken past) (written past) (subst (λ (l : List Awaited). is_named n l ≡ true) k.due named))

-- ---- submits of which no unlink is outstanding

pub all_named : (n : ℕ) (wanted all : List Awaited) → not_named wanted all ≡ [] → is_some (submit_of (find n (entries_of wanted))) ≡ true → is_named n all ≡ true
all_named n [] all h k = clash k
all_named n (Unlink seqnum target ∷ xs) all h k = all_named n xs all h (step (seqnum == n) refl)
  where
    step : (a : Bool) → (seqnum == n) ≡ a → is_some (submit_of (find n (entries_of xs))) ≡ true
    step true e = clash (subst (λ (o : Option Outstanding). is_some (submit_of o) ≡ true) (found n (entry_of (Unlink seqnum target)) (entries_of xs) e) k)
    step false e = subst (λ (o : Option Outstanding). is_some (submit_of o) ≡ true) (skipped n (entry_of (Unlink seqnum target)) (entries_of xs) e) k
all_named n (Submit seqnum dir size ∷ xs) all h k = step (all_named n xs all) (is_named seqnum all) refl (seqnum == n) refl h
  where
    cons : {P : Type 0} (x : ℕ) (ys : List ℕ) → x ∷ ys ≡ [] → P
    cons x ys e = absurd (no e)
      where
        no : x ∷ ys ≡ [] → ⊥
        no f = cc

    step : (not_named xs all ≡ [] → is_some (submit_of (find n (entries_of xs))) ≡ true → is_named n all ≡ true) → (b : Bool) → is_named seqnum all ≡ b → (a : Bool) → (seqnum == n) ≡ a → (if b then not_named xs all else seqnum ∷ not_named xs all) ≡ [] → is_named n all ≡ true
    step again false f a e g = cons seqnum (not_named xs all) g
    step again true f true e g = subst (λ (i : ℕ). is_named i all ≡ true) (eqb-true seqnum n e) f
    step again true f false e g = again g (subst (λ (o : Option Outstanding). is_some (submit_of o) ≡ true) (skipped n (entry_of (Submit seqnum dir size)) (entries_of xs) e) k)

named_more : (n : ℕ) (xs : List Awaited) (seqnum target : ℕ) → is_named n (xs ++ Unlink seqnum (Some target) ∷ []) ≡ is_named n xs || (target == n)
named_more n [] seqnum target = or_none (target == n)
  where
    or_none : (b : Bool) → b || false ≡ b
    or_none true = refl
    or_none false = refl
named_more n (Submit s dir size ∷ xs) seqnum target = named_more n xs seqnum target
named_more n (Unlink s None ∷ xs) seqnum target = named_more n xs seqnum target
named_more n (Unlink s (Some k) ∷ xs) seqnum target = ap (λ (b : Bool). (k == n) || b) (named_more n xs seqnum target) ∙ sym (or_assoc (k == n) (is_named n xs) (target == n))

pub less_one : (wanted all : List Awaited) (seqnum target : ℕ) → not_named wanted (all ++ Unlink seqnum (Some target) ∷ []) ≡ removed target (not_named wanted all)
less_one [] all seqnum target = refl
less_one (Unlink s k ∷ xs) all seqnum target = less_one xs all seqnum target
less_one (Submit s dir size ∷ xs) all seqnum target = rw (named_more s all seqnum target) (step (is_named s all) (target == s) refl (less_one xs all seqnum target))
  where
    step : (a b : Bool) → (target == s) ≡ b → not_named xs (all ++ Unlink seqnum (Some target) ∷ []) ≡ removed target (not_named xs all)
        → (if a || b then not_named xs (all ++ Unlink seqnum (Some target) ∷ []) else s ∷ not_named xs (all ++ Unlink seqnum (Some target) ∷ []))
        ≡ removed target (if a then not_named xs all else s ∷ not_named xs all)
    step true b e again = again
    step false true e again = rw (turned s target ∙ e) again
    step false false e again = rw (turned s target ∙ e) (ap (λ (l : List ℕ). s ∷ l) again)

-- ---- answers

find_without : (n k : ℕ) (xs : List Awaited) → is_some (find n (entries_of (without k xs))) ≡ true → (n ≡ k → ⊥) × (is_some (find n (entries_of xs)) ≡ true)
find_without n k [] h = clash h
find_without n k (x ∷ xs) h = step x (number_of x == k) refl (number_of x == n) refl (find_without n k xs) h
  where
    is : (x : Awaited) (b : Bool) → (number_of x == n) ≡ b → (dirs.number_of (entry_of x) == n) ≡ b
    is (Submit s dir size) b e = e
    is (Unlink s target) b e = e

    step : (x : Awaited) (a : Bool) → (number_of x == k) ≡ a → (b : Bool) → (number_of x == n) ≡ b
        → (is_some (find n (entries_of (without k xs))) ≡ true → (n ≡ k → ⊥) × (is_some (find n (entries_of xs)) ≡ true))
        → is_some (find n (entries_of (if a then without k xs else x ∷ without k xs))) ≡ true → (n ≡ k → ⊥) × (is_some (find n (entries_of (x ∷ xs))) ≡ true)
    step x a e true f again g = (λ i. other a e g i, subst (λ (o : Option Outstanding). is_some o ≡ true) (sym (found n (entry_of x) (entries_of xs) (is x true f))) refl)
      where
        other : (a : Bool) → (number_of x == k) ≡ a → is_some (find n (entries_of (if a then without k xs else x ∷ without k xs))) ≡ true → n ≡ k → ⊥
        other true e g i = (again g).0 i
        other false e g i = eqb-false (number_of x) k e (eqb-true (number_of x) n f ∙ i)
    step x true e false f again g = let r = again g in (r.0, subst (λ (o : Option Outstanding). is_some o ≡ true) (sym (skipped n (entry_of x) (entries_of xs) (is x false f))) r.1)
    step x false e false f again g =
        let r = again (subst (λ (o : Option Outstanding). is_some o ≡ true) (skipped n (entry_of x) (entries_of (without k xs)) (is x false f)) g) in
        (r.0, subst (λ (o : Option Outstanding). is_some o ≡ true) (sym (skipped n (entry_of x) (entries_of xs) (is x false f))) r.1)

find_added : (n : ℕ) (xs : List Awaited) (y : Awaited) → is_some (find n (entries_of (xs ++ y ∷ []))) ≡ true → (is_some (find n (entries_of xs)) ≡ true) ⊎ (number_of y ≡ n)
find_added n [] y h = step y (number_of y == n) refl h
  where
    step : (y : Awaited) (b : Bool) → (number_of y == n) ≡ b → is_some (find n (entries_of (y ∷ []))) ≡ true → (is_some (find n (entries_of [])) ≡ true) ⊎ (number_of y ≡ n)
    step y true e h = inr (eqb-true (number_of y) n e)
    step (Submit s dir size) false e h = clash (subst (λ (o : Option Outstanding). is_some o ≡ true) (skipped n (entry_of (Submit s dir size)) [] e) h)
    step (Unlink s target) false e h = clash (subst (λ (o : Option Outstanding). is_some o ≡ true) (skipped n (entry_of (Unlink s target)) [] e) h)
find_added n (x ∷ xs) y h = step (find_added n xs y) x (number_of x == n) refl h
  where
    behind : (x : Awaited) → (number_of x == n) ≡ false → (dirs.number_of (entry_of x) == n) ≡ false
    behind (Submit s dir size) e = e
    behind (Unlink s target) e = e

    here : (x : Awaited) → (number_of x == n) ≡ true → (dirs.number_of (entry_of x) == n) ≡ true
    here (Submit s dir size) e = e
    here (Unlink s target) e = e

    more : (x : Awaited) → (number_of x == n) ≡ false → (is_some (find n (entries_of xs)) ≡ true) ⊎ (number_of y ≡ n) → (is_some (find n (entries_of (x ∷ xs))) ≡ true) ⊎ (number_of y ≡ n)
    more x e (inl f) = inl (subst (λ (o : Option Outstanding). is_some o ≡ true) (sym (skipped n (entry_of x) (entries_of xs) (behind x e))) f)
    more x e (inr f) = inr f

    step : (is_some (find n (entries_of (xs ++ y ∷ []))) ≡ true → (is_some (find n (entries_of xs)) ≡ true) ⊎ (number_of y ≡ n)) → (x : Awaited) (b : Bool) → (number_of x == n) ≡ b
        → is_some (find n (entries_of (x ∷ xs ++ y ∷ []))) ≡ true → (is_some (find n (entries_of (x ∷ xs))) ≡ true) ⊎ (number_of y ≡ n)
    step again x true e h = inl (subst (λ (o : Option Outstanding). is_some o ≡ true) (sym (found n (entry_of x) (entries_of xs) (here x e))) refl)
    step again x false e h = more x e (again (subst (λ (o : Option Outstanding). is_some o ≡ true) (skipped n (entry_of x) (entries_of (xs ++ y ∷ [])) (behind x e)) h))

-- what an answer takes out, by its number and, of an unlink, by its target
abbrev number_in : down.Message → ℕ
number_in (down.RetSubmit head x) = head.seqnum
number_in (down.RetUnlink head) = head.seqnum

find_left : (first : ℕ) (past : Past) (m : down.Message) (n : ℕ) → Lawful first past → MayTake past m → is_some (find n (entries_of (left_by (outstanding past) m))) ≡ true
    → (n ≡ number_in m → ⊥) × (is_some (find n (entries_of (outstanding past))) ≡ true)
find_left first past (down.RetSubmit head x) n h may f = find_without n head.seqnum (outstanding past) f
find_left first past (down.RetUnlink head) n h may f =
    let u = unlink_at first past head (known first past h) may in
    let e = find_without n u.0 (without head.seqnum (outstanding past)) (subst (λ (l : List Awaited). is_some (find n (entries_of l)) ≡ true) u.1 f) in
    find_without n head.seqnum (outstanding past) e.1

is_there : (past : Past) (m : down.Message) → MayTake past m → is_some (find (number_in m) (entries_of (outstanding past))) ≡ true
is_there past (down.RetSubmit head x) may = step (find head.seqnum (entries_of (outstanding past))) (some_submit _ _ may.1)
  where
    step : (o : Option Outstanding) → is_some (submit_of o) ≡ true → is_some o ≡ true
    step None e = e
    step (Some y) e = refl
is_there past (down.RetUnlink head) may = step (find head.seqnum (entries_of (outstanding past))) may
  where
    step : (o : Option Outstanding) → is_unlink o ≡ true → is_some o ≡ true
    step None e = e
    step (Some y) e = refl

no_answer : (n : ℕ) (t : List down.Message) → AreBelow n t → answers_of n t ≡ 0
no_answer n [] b = refl
no_answer n (down.RetSubmit head x ∷ t) b = rw (differ head.seqnum n (λ e. omega (arith, e, b.0))) (no_answer n t b.1)
no_answer n (down.RetUnlink head ∷ t) b = rw (differ head.seqnum n (λ e. omega (arith, e, b.0))) (no_answer n t b.1)

answers_more : (n : ℕ) (t : List down.Message) (m : down.Message) → answers_of n (t ++ m ∷ []) ≡ answers_of n t + (if number_in m == n then suc 0 else 0)
answers_more n [] (down.RetSubmit head x) = omega arith
answers_more n [] (down.RetUnlink head) = omega arith
answers_more n (down.RetSubmit head x ∷ t) m = step (head.seqnum == n) (number_in m == n) (answers_more n t m)
  where
    step : (a b : Bool) → answers_of n (t ++ m ∷ []) ≡ answers_of n t + (if b then suc 0 else 0)
        → (if a then suc (answers_of n (t ++ m ∷ [])) else answers_of n (t ++ m ∷ [])) ≡ (if a then suc (answers_of n t) else answers_of n t) + (if b then suc 0 else 0)
    step true b e = omega (arith, e)
    step false b e = e
answers_more n (down.RetUnlink head ∷ t) m = step (head.seqnum == n) (number_in m == n) (answers_more n t m)
  where
    step : (a b : Bool) → answers_of n (t ++ m ∷ []) ≡ answers_of n t + (if b then suc 0 else 0)
        → (if a then suc (answers_of n (t ++ m ∷ [])) else answers_of n (t ++ m ∷ [])) ≡ (if a then suc (answers_of n t) else answers_of n t) + (if b then suc 0 else 0)
    step true b e = omega (arith, e)
    step false b e = e

-- what is outstanding was not answered
pub unanswered_yet : (first : ℕ) (past : Past) (n : ℕ) → Lawful first past → is_some (find n (entries_of (outstanding past))) ≡ true → answers_of n (taken past) ≡ 0
unanswered_yet first [] n h there = clash there
unanswered_yet first (Wrote m ∷ past) n h there = step (unanswered_yet first past n h.0) (find_added n (outstanding past) (sent_by m) there)
  where
    at : (m : up.Message) → Lawful first (Wrote m ∷ past) → number_of (sent_by m) ≡ n → answers_of n (taken past) ≡ 0
    at (up.Submit head x) h e = subst (λ (i : ℕ). answers_of i (taken past) ≡ 0) (sym h.1.next ∙ e) (no_answer (next first past) (taken past) (known first past h.0).below)
    at (up.Unlink head) h e = subst (λ (i : ℕ). answers_of i (taken past) ≡ 0) (sym h.1.next ∙ e) (no_answer (next first past) (taken past) (known first past h.0).below)

    step : (is_some (find n (entries_of (outstanding past))) ≡ true → answers_of n (taken past) ≡ 0) → (is_some (find n (entries_of (outstanding past))) ≡ true) ⊎ (number_of (sent_by m) ≡ n)
        → answers_of n (taken past) ≡ 0
    step again (inl e) = again e
    step again (inr e) = at m h e
unanswered_yet first (Took m ∷ past) n h there =
    let f = find_left first past m n h.0 h.1 there in
    subst (λ (b : Bool). answers_of n (taken past ++ m ∷ []) ≡ answers_of n (taken past) + (if b then suc 0 else 0)) (differ (number_in m) n (λ e. f.0 (sym e))) (answers_more n (taken past) m)
    ∙ omega (arith, unanswered_yet first past n h.0 f.1)

pub one_answer : (first : ℕ) (past : Past) (n : ℕ) → Lawful first past → answers_of n (taken past) ≤ 1
one_answer first [] n h = omega arith
one_answer first (Wrote m ∷ past) n h = one_answer first past n h.0
one_answer first (Took m ∷ past) n h = step (one_answer first past n h.0) (number_in m == n) refl (answers_more n (taken past) m)
  where
    step : answers_of n (taken past) ≤ 1 → (b : Bool) → (number_in m == n) ≡ b → answers_of n (taken past ++ m ∷ []) ≡ answers_of n (taken past) + (if b then suc 0 else 0)
        → answers_of n (taken past ++ m ∷ []) ≤ 1
    step again true e f = omega (arith, f, subst (λ (i : ℕ). answers_of i (taken past) ≡ 0) (eqb-true (number_in m) n e) (unanswered_yet first past (number_in m) h.0 (is_there past m h.1)))
    step again false e f = omega (arith, f, again)

-- ---- how much is outstanding

length_without : (k : ℕ) (xs : List Awaited) → length (without k xs) ≤ length xs
length_without k [] = omega arith
length_without k (x ∷ xs) = step (number_of x == k) (length_without k xs)
  where
    step : (b : Bool) → length (without k xs) ≤ length xs → length (if b then without k xs else x ∷ without k xs) ≤ suc (length xs)
    step true e = omega (arith, e)
    step false e = omega (arith, e)

pub few : (first : ℕ) (past : Past) → Lawful first past → length (outstanding past) ≤ DIRS_MAX
few first [] h = omega arith
few first (Wrote (up.Submit head x) ∷ past) h = omega (arith, h.1.place, length-append (outstanding past) (sent_by (up.Submit head x) ∷ []))
few first (Wrote (up.Unlink head) ∷ past) h = omega (arith, h.1.place, length-append (outstanding past) (sent_by (up.Unlink head) ∷ []))
few first (Took (down.RetSubmit head x) ∷ past) h = omega (arith, few first past h.0, length_without head.seqnum (outstanding past))
few first (Took (down.RetUnlink head) ∷ past) h =
    let u = unlink_at first past head (known first past h.0) h.1 in
    subst (λ (l : List Awaited). length l ≤ DIRS_MAX) (sym u.1)
    (omega (arith, few first past h.0, length_without head.seqnum (outstanding past), length_without u.0 (without head.seqnum (outstanding past))))

pub rising_up : (a b below : ℕ) (xs : List Awaited) → b ≤ a → AreRising a below xs → AreRising b below xs
rising_up a b below [] h r = tt
rising_up a b below (x ∷ xs) h r = (omega (arith, h, r.0), r.1, r.2)

rising : (a : ℕ) (all : List up.Message) (t : List down.Message) (ms : List up.Message) → AreInARow a ms → AreRising a (a + length ms) (unanswered all t ms)
rising a all t [] row = tt
rising a all t (m ∷ ms) row = step m row.0 (is_answered all t m) (subst (λ (n : ℕ). AreRising (a + 1) n (unanswered all t ms)) (omega arith) (rising (a + 1) all t ms row.1))
  where
    number : (m : up.Message) → seqnum_of m ≡ a → number_of (sent_by m) ≡ a
    number (up.Submit head x) e = e
    number (up.Unlink head) e = e

    step : (m : up.Message) → seqnum_of m ≡ a → (b : Bool) → AreRising (a + 1) (a + suc (length ms)) (unanswered all t ms)
        → AreRising a (a + suc (length ms)) (if b then unanswered all t ms else sent_by m ∷ unanswered all t ms)
    step m e true r = rising_up (a + 1) a (a + suc (length ms)) (unanswered all t ms) (omega arith) r
    step m e false r = (omega (arith, number m e), omega (arith, number m e), subst (λ (n : ℕ). AreRising (n + 1) (a + suc (length ms)) (unanswered all t ms)) (sym (number m e)) r)

pub rise : (first : ℕ) (past : Past) → Lawful first past → AreRising first (next first past) (outstanding past)
rise first past h = let k = known first past h in subst (λ (l : List Awaited). AreRising first (next first past) l) (sym k.due) (rising first (written past) (taken past) (written past) k.row)
