-- what may be written and what may come, by what is outstanding at a hub
use Rattle.std.proofs.Common.{◌≡◌, ◌⊎◌, ℕ, ◌<◌, ◌≤◌, ◌||◌, ◌&&◌, not, Bool, true, false, List, [], ◌∷◌, ◌++◌, length, Option, Some, None, inl, inr, refl, sym, subst, ◌∙◌, ap, arith}
use Rattle.std.specs.Prelude.{◌==◌, is_some, if◌then◌else◌}
use Rattle.std.proofs.lemmas.Bool.{eqb-true}
use Rattle.usbip_wire.specs.Awaited as wire
use Rattle.usbip_wire.specs.Awaited.{Awaited, entry_of, entries_of, sent_by}
use Rattle.usbip_wire.specs.Down as down
use Rattle.usbip_wire.specs.Dirs as dirs
use Rattle.usbip_wire.specs.RetSubmit.{Returns}
use Rattle.usbip_wire.specs.declared.dirs.Outstanding.{Outstanding}
use Rattle.usbip_wire.specs.declared.dirs.TheConstants.{DIRS_MAX}
use Rattle.usbip_wire.specs.declared.ret_submit.RetSubmitHead.{RetSubmitHead}
use Rattle.usbip_wire.specs.declared.ret_unlink.RetUnlinkHead.{RetUnlinkHead}
use Rattle.usbip_wire.specs.declared.urb.Dir.{Dir}
use Rattle.host_urbs.specs.declared.limits.TheConstants.{LAST_SUBMIT}
use Rattle.host_urbs.specs.Law.{MayTake, is_named}
use Rattle.host_urbs.specs.Record as urbs
use Rattle.host_hub.specs.declared.outcome.End.{End}
use Rattle.host_hub.specs.Order.{Setting, Order, Part, Request, Trigger, Read, Listen, Class, ClearHalt, Unlink, message_of, is_unlink, is_listen, is_bulk, way_of, size_of}
use Rattle.host_hub.specs.Record.{Past, next}
use Rattle.host_hub.specs.Crossings.{crossings}
use Rattle.host_hub.specs.Book.{or_else}
use Rattle.host_hub.specs.Hand.{ended, in_hand, is_of}
use Rattle.host_hub.specs.Outstanding.{Sent, find, outstanding, awaited_by, involved, own_bulk, names, is_unlinked, not_unlinked}
use Rattle.host_hub.specs.Status.{awaits, listens}
use Rattle.host_hub.specs.Unlinks.{is_deep, is_over, unlinks_due, unlinks_of, unwanted}
use Rattle.host_hub.specs.Book.{is_live}
use Rattle.host_hub.specs.Causes.{reached}
use Rattle.host_hub.specs.Pieces.{pieces}
use Rattle.host_hub.specs.Law.{Lawful}
use Rattle.host_hub.specs.Sentences.{IsAmong}
use Rattle.host_hub.specs.Steps.{MayWriteNext}
use Rattle.host_hub.proofs.Lists.{clash, differ, neither, or_false, own, right_none}
use Rattle.host_hub.proofs.Messages.{next_same}
use Rattle.host_hub.proofs.Numbers.{Below, Lacks, below_lacks, entry_number, length_awaited, outstanding_falls, same_outstanding}

-- ---- an answer finds the same entry

abbrev pub found_as : Setting → Option Sent → Option Outstanding
found_as s None = None
found_as s (Some x) = Some (entry_of (sent_by (message_of s x.number x.order)))

entry_same : (a : Awaited) → dirs.number_of (entry_of a) ≡ wire.number_of a
entry_same (wire.Submit n dir size) = refl
entry_same (wire.Unlink n target) = refl

find_more : (k : ℕ) (xs : List Awaited) (x : Awaited)
    → dirs.find k (entries_of (xs ++ x ∷ [])) ≡ or_else (dirs.find k (entries_of xs)) (if dirs.number_of (entry_of x) == k then Some (entry_of x) else None)
find_more k [] x = refl
find_more k (y ∷ ys) x = step (dirs.number_of (entry_of y) == k) (find_more k ys x)
  where
    step : (b : Bool) → dirs.find k (entries_of (ys ++ x ∷ [])) ≡ or_else (dirs.find k (entries_of ys)) (if dirs.number_of (entry_of x) == k then Some (entry_of x) else None)
        → (if b then Some (entry_of y) else dirs.find k (entries_of (ys ++ x ∷ [])))
        ≡ or_else (if b then Some (entry_of y) else dirs.find k (entries_of ys)) (if dirs.number_of (entry_of x) == k then Some (entry_of x) else None)
    step true again = refl
    step false again = again

lacks_find : (k : ℕ) (xs : List Awaited) → Lacks k xs → dirs.find k (entries_of xs) ≡ None
lacks_find k [] h = refl
lacks_find k (x ∷ xs) h = rw (entry_same x) (rw (differ (wire.number_of x) k h.0) (lacks_find k xs h.1))

pub same_found : (s : Setting) (n k : ℕ) (xs : List Sent) → Below n xs → dirs.find k (entries_of (awaited_by s xs)) ≡ found_as s (find k xs)
same_found s n k [] b = refl
same_found s n k (x ∷ xs) b =
    find_more k (awaited_by s xs) e ∙ rw (entry_same e) (rw (entry_number s x.number x.order) (step (x.number == k) refl (same_found s x.number k xs b.1)))
  where
    e : Awaited
    e = sent_by (message_of s x.number x.order)

    step : (c : Bool) → (x.number == k) ≡ c → dirs.find k (entries_of (awaited_by s xs)) ≡ found_as s (find k xs)
        → or_else (dirs.find k (entries_of (awaited_by s xs))) (if c then Some (entry_of e) else None) ≡ found_as s (if c then Some x else find k xs)
    step true f again =
        rw (lacks_find k (awaited_by s xs) (below_lacks s x.number k xs b.1 (let g : x.number ≡ k = eqb-true x.number k f in omega (arith, g)))) refl
    step false f again = right_none (dirs.find k (entries_of (awaited_by s xs))) ∙ again

pub found_there : (s : Setting) (past : Past) (k : ℕ) → Lawful s past → dirs.find k (entries_of (urbs.outstanding (crossings s past))) ≡ found_as s (find k (outstanding past))
found_there s past k h =
    subst (λ (l : List Awaited). dirs.find k (entries_of l) ≡ found_as s (find k (outstanding past))) (same_outstanding s past h)
    (same_found s (next s.first past) k (outstanding past) (outstanding_falls s past h))

-- ---- which answers may come

pub as_submit : (s : Setting) (n : ℕ) (order : Order) → is_unlink order ≡ false
    → dirs.submit_of (Some (entry_of (sent_by (message_of s n order)))) ≡ Some (way_of order, size_of s.ends order)
as_submit s n (Unlink target) h = clash (sym h)
as_submit s n order h = refl

pub as_unlink : (s : Setting) (n : ℕ) (order : Order) → dirs.is_unlink (Some (entry_of (sent_by (message_of s n order)))) ≡ is_unlink order
as_unlink s n (Unlink target) = refl
as_unlink s n order = refl

no_submit : (s : Setting) (n : ℕ) (order : Order) (dir : Dir) (size : ℕ) → dirs.submit_of (Some (entry_of (sent_by (message_of s n order)))) ≡ Some (dir, size) → is_unlink order ≡ false
no_submit s n (Unlink target) dir size h = cc
no_submit s n order dir size h = refl

pub submit_answer : (s : Setting) (past : Past) (x : Sent) (head : RetSubmitHead) (bytes : List ℕ) → Lawful s past → find head.seqnum (outstanding past) ≡ Some x
    → is_unlink x.order ≡ false → head.actual ≤ size_of s.ends x.order → Returns (way_of x.order) head.actual bytes → MayTake (crossings s past) (down.RetSubmit head bytes)
submit_answer s past x head bytes h found plain within returned = (
  record { dir = way_of x.order; size = size_of s.ends x.order },
  ap dirs.submit_of (found_there s past head.seqnum h ∙ ap (found_as s) found) ∙ as_submit s x.number x.order plain,
  within,
  returned,
)

pub unlink_answer : (s : Setting) (past : Past) (x : Sent) (head : RetUnlinkHead) → Lawful s past → find head.seqnum (outstanding past) ≡ Some x
    → is_unlink x.order ≡ true → MayTake (crossings s past) (down.RetUnlink head)
unlink_answer s past x head h found is =
    ap dirs.is_unlink (found_there s past head.seqnum h ∙ ap (found_as s) found) ∙ (as_unlink s x.number x.order ∙ is)

-- and what they answer
abbrev pub Answers : Setting → Past → (n : ℕ) → (is : Bool) → Type 0
Answers s past n is = (x : Sent) × (find n (outstanding past) ≡ Some x) × (is_unlink x.order ≡ is)

pub answers_submit : (s : Setting) (past : Past) (head : RetSubmitHead) (bytes : List ℕ) → Lawful s past → MayTake (crossings s past) (down.RetSubmit head bytes) → Answers s past head.seqnum false
answers_submit s past head bytes h may =
    by (find head.seqnum (outstanding past)) refl (subst (λ (o : Option Outstanding). dirs.submit_of o ≡ Some (may.0.dir, may.0.size)) (found_there s past head.seqnum h) may.1)
  where
    by : (o : Option Sent) → find head.seqnum (outstanding past) ≡ o → dirs.submit_of (found_as s o) ≡ Some (may.0.dir, may.0.size) → Answers s past head.seqnum false
    by None e k = cc
    by (Some x) e k = (x, e, no_submit s x.number x.order may.0.dir may.0.size k)

pub answers_unlink : (s : Setting) (past : Past) (head : RetUnlinkHead) → Lawful s past → MayTake (crossings s past) (down.RetUnlink head) → Answers s past head.seqnum true
answers_unlink s past head h may =
    by (find head.seqnum (outstanding past)) refl (subst (λ (o : Option Outstanding). dirs.is_unlink o ≡ true) (found_there s past head.seqnum h) may)
  where
    by : (o : Option Sent) → find head.seqnum (outstanding past) ≡ o → dirs.is_unlink (found_as s o) ≡ true → Answers s past head.seqnum true
    by None e k = clash k
    by (Some x) e k = (x, e, sym (as_unlink s x.number x.order) ∙ k)

-- ---- which messages may be written

pub submit_may : (s : Setting) (past : Past) (order : Order) → Lawful s past → is_unlink order ≡ false → next s.first past ≤ LAST_SUBMIT → length (outstanding past) < DIRS_MAX
    → MayWriteNext s past order
submit_may s past order h plain last place = by order plain
  where
    free : length (urbs.outstanding (crossings s past)) < DIRS_MAX
    free = subst (λ (l : List Awaited). length l < DIRS_MAX) (same_outstanding s past h) (omega (arith, length_awaited s (outstanding past), place))

    by : (order : Order) → is_unlink order ≡ false → MayWriteNext s past order
    by (Unlink target) e = clash (sym e)
    by (Part tag text eom) e = record { next = next_same s past; last = last; place = free }
    by (Request tag size) e = record { next = next_same s past; last = last; place = free }
    by (Trigger tag) e = record { next = next_same s past; last = last; place = free }
    by Read e = record { next = next_same s past; last = last; place = free }
    by Listen e = record { next = next_same s past; last = last; place = free }
    by (Class request) e = record { next = next_same s past; last = last; place = free }
    by (ClearHalt endpoint) e = record { next = next_same s past; last = last; place = free }

-- the first submit that an unlink is due for is outstanding, and no unlink names it

abbrev pub IsIn : Sent → List Sent → Type 0
IsIn = IsAmong

in_involved : (t : ℕ) (listens : Bool) (x : Sent) (xs : List Sent) → IsIn x (involved t listens xs) → IsIn x xs
in_involved t listens x [] h = h
in_involved t listens x (y ∷ ys) h = step (is_of t y.owner || (listens && is_listen y.order)) (in_involved t listens x ys) h
  where
    kept : (IsIn x (involved t listens ys) → IsIn x ys) → (x ≡ y) ⊎ IsIn x (involved t listens ys) → (x ≡ y) ⊎ IsIn x ys
    kept again (inl e) = inl e
    kept again (inr e) = inr (again e)

    step : (b : Bool) → (IsIn x (involved t listens ys) → IsIn x ys) → IsIn x (if b then y ∷ involved t listens ys else involved t listens ys) → (x ≡ y) ⊎ IsIn x ys
    step true again k = kept again k
    step false again k = inr (again k)

in_bulk : (t : ℕ) (x : Sent) (xs : List Sent) → IsIn x (own_bulk t xs) → IsIn x xs
in_bulk t x [] h = h
in_bulk t x (y ∷ ys) h = step (is_of t y.owner && is_bulk y.order) (in_bulk t x ys) h
  where
    kept : (IsIn x (own_bulk t ys) → IsIn x ys) → (x ≡ y) ⊎ IsIn x (own_bulk t ys) → (x ≡ y) ⊎ IsIn x ys
    kept again (inl e) = inl e
    kept again (inr e) = inr (again e)

    step : (b : Bool) → (IsIn x (own_bulk t ys) → IsIn x ys) → IsIn x (if b then y ∷ own_bulk t ys else own_bulk t ys) → (x ≡ y) ⊎ IsIn x ys
    step true again k = kept again k
    step false again k = inr (again k)

in_unwanted : (s : Setting) (t : ℕ) (past : Past) (x : Sent) → IsIn x (unwanted s t past) → IsIn x (outstanding past)
in_unwanted s t past x h = step (is_live t past && is_some (reached t past)) (is_deep s && (not (is_live t past) || is_over (pieces t past))) h
  where
    step : (a b : Bool) → IsIn x (if a then awaits t past else if b then own_bulk t (outstanding past) else []) → IsIn x (outstanding past)
    step true b k = in_involved t (listens t past) x (outstanding past) k
    step false true k = in_bulk t x (outstanding past) k
    step false false k = absurd k

pub record FirstDue (n : ℕ) (xs all : List Sent) : Type 0 where
  pub sent : Sent
  pub among : IsIn sent xs
  pub number : sent.number ≡ n
  pub plain : is_unlink sent.order ≡ false
  pub lone : is_unlinked n all ≡ false

first_due : (n : ℕ) (rest : List ℕ) (xs all : List Sent) → not_unlinked xs all ≡ n ∷ rest → FirstDue n xs all
first_due n rest [] all h = cc
first_due n rest (x ∷ xs) all h = step (is_unlink x.order || is_unlinked x.number all) refl (first_due n rest xs all) h
  where
    now : (is_unlink x.order || is_unlinked x.number all) ≡ false → x.number ≡ n → FirstDue n (x ∷ xs) all
    now e same =
        let both : (is_unlink x.order ≡ false) × (is_unlinked x.number all ≡ false) = neither (is_unlink x.order) (is_unlinked x.number all) e in
        record { sent = x; among = inl refl; number = same; plain = both.0; lone = subst (λ (k : ℕ). is_unlinked k all ≡ false) same both.1 }

    later : FirstDue n xs all → FirstDue n (x ∷ xs) all
    later d = record { sent = d.sent; among = inr d.among; number = d.number; plain = d.plain; lone = d.lone }

    step : (b : Bool) → (is_unlink x.order || is_unlinked x.number all) ≡ b → (not_unlinked xs all ≡ n ∷ rest → FirstDue n xs all)
        → (if b then not_unlinked xs all else x.number ∷ not_unlinked xs all) ≡ n ∷ rest → FirstDue n (x ∷ xs) all
    step true e again k = later (again k)
    step false e again k = now e (let same : x.number ≡ n = cc in same)

pub due_first : (s : Setting) (past : Past) (n : ℕ) (rest : List ℕ) → unlinks_due s (ended past) past ≡ n ∷ rest → FirstDue n (outstanding past) (outstanding past)
due_first s past n rest h = by (ended past) (in_hand past) h
  where
    wide : (t : ℕ) → FirstDue n (unwanted s t past) (outstanding past) → FirstDue n (outstanding past) (outstanding past)
    wide t d = record { sent = d.sent; among = in_unwanted s t past d.sent d.among; number = d.number; plain = d.plain; lone = d.lone }

    hand : (o : Option ℕ) → unlinks_of s o past ≡ n ∷ rest → FirstDue n (outstanding past) (outstanding past)
    hand None k = cc
    hand (Some t) k = wide t (first_due n rest (unwanted s t past) (outstanding past) k)

    by : (e : Option End) (o : Option ℕ) → (unlinks_due s e past ≡ n ∷ rest) → FirstDue n (outstanding past) (outstanding past)
    by None o k = hand (in_hand past) k
    by (Some e) o k = cc

-- it is found there

pub in_found : (n : ℕ) (xs : List Sent) (x : Sent) → Below n xs → IsIn x xs → find x.number xs ≡ Some x
in_found n [] x b h = absurd h
in_found n (y ∷ ys) x b (inl e) = rw e (rw (own y.number) refl)
in_found n (y ∷ ys) x b (inr e) =
    rw (differ y.number x.number (λ k. let l : x.number < y.number = in_below y.number ys x b.1 e in omega (arith, k, l))) (in_found y.number ys x b.1 e)
  where
    in_below : (m : ℕ) (zs : List Sent) (x : Sent) → Below m zs → IsIn x zs → x.number < m
    in_below m [] x c g = absurd g
    in_below m (z ∷ zs) x c (inl e) = subst (λ (w : Sent). w.number < m) (sym e) c.0
    in_below m (z ∷ zs) x c (inr e) = let l : x.number < z.number = in_below z.number zs x c.1 e in omega (arith, l, c.0)

named_more : (n : ℕ) (xs : List Awaited) (x : Awaited) → is_named n (xs ++ x ∷ []) ≡ is_named n xs || is_named n (x ∷ [])
named_more n [] x = refl
named_more n (wire.Submit k dir size ∷ xs) x = named_more n xs x
named_more n (wire.Unlink k None ∷ xs) x = named_more n xs x
named_more n (wire.Unlink k (Some target) ∷ xs) x = rw (named_more n xs x) (by (target == n))
  where
    by : (b : Bool) → b || (is_named n xs || is_named n (x ∷ [])) ≡ (b || is_named n xs) || is_named n (x ∷ [])
    by true = refl
    by false = refl

named_one : (s : Setting) (n k : ℕ) (order : Order) → is_named n (sent_by (message_of s k order) ∷ []) ≡ names n order
named_one s n k (Unlink target) = or_false (target == n)
named_one s n k order = refl

swap : (a b : Bool) → a || b ≡ b || a
swap true true = refl
swap true false = refl
swap false true = refl
swap false false = refl

pub same_named : (s : Setting) (n : ℕ) (xs : List Sent) → is_named n (awaited_by s xs) ≡ is_unlinked n xs
same_named s n [] = refl
same_named s n (x ∷ xs) =
    named_more n (awaited_by s xs) (sent_by (message_of s x.number x.order))
    ∙ (rw (named_one s n x.number x.order) (rw (same_named s n xs) (swap (is_unlinked n xs) (names n x.order))))

pub unlink_may : (s : Setting) (past : Past) (n : ℕ) (rest : List ℕ) → Lawful s past → unlinks_due s (ended past) past ≡ n ∷ rest → length (outstanding past) < DIRS_MAX
    → MayWriteNext s past (Unlink n)
unlink_may s past n rest h due place = record {
  next = next_same s past;
  place = subst (λ (l : List Awaited). length l < DIRS_MAX) (same_outstanding s past h) (omega (arith, length_awaited s (outstanding past), place));
  named = ap (λ (o : Option Outstanding). is_some (dirs.submit_of o)) (found_there s past n h ∙ ap (found_as s) there)
      ∙ ap (λ (o : Option (Dir × ℕ)). is_some o) (as_submit s d.sent.number d.sent.order d.plain);
  once = subst (λ (l : List Awaited). is_named n l ≡ false) (same_outstanding s past h) (same_named s n (outstanding past) ∙ d.lone);
}
  where
    d : FirstDue n (outstanding past) (outstanding past)
    d = due_first s past n rest due

    there : find n (outstanding past) ≡ Some d.sent
    there = subst (λ (k : ℕ). find k (outstanding past) ≡ Some d.sent) d.number (in_found (next s.first past) (outstanding past) d.sent (outstanding_falls s past h) d.among)
