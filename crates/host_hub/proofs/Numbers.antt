-- the numbers of what is outstanding, and that it is what host_urbs says
use Rattle.std.proofs.Common.{◌≡◌, ◌≢◌, ℕ, ◌<◌, ◌≤◌, Bool, true, false, List, [], ◌∷◌, ◌++◌, length, Some, None, refl, sym, subst, ◌∙◌, ap, arith, append_assoc, length-append}
use Rattle.std.specs.Prelude.{◌==◌, if◌then◌else◌}
use Rattle.std.proofs.lemmas.Bool.{eqb-true, eqb-false}
use Rattle.std.proofs.lemmas.List.{append-nil}
use Rattle.usbip_wire.specs.Awaited as wire
use Rattle.usbip_wire.specs.Awaited.{Awaited, sent_by, without, before, from, left_by}
use Rattle.usbip_wire.specs.Down as down
use Rattle.usbip_wire.specs.declared.dirs.TheConstants.{DIRS_MAX}
use Rattle.host_urbs.specs.Law.{MayWrite}
use Rattle.host_urbs.specs.Record as urbs
use Rattle.host_hub.specs.Order.{Setting, Order, Part, Request, Trigger, Read, Listen, Class, ClearHalt, Unlink, message_of}
use Rattle.host_hub.specs.Record.{Past, Wrote, Took, Fell, next}
use Rattle.host_hub.specs.Crossings.{crossings}
use Rattle.host_hub.specs.Outstanding.{Sent, others, less, less_unlink, without_named, outstanding, awaited_by}
use Rattle.host_hub.specs.Law.{Lawful}
use Rattle.host_hub.proofs.Lists.{differ}
use Rattle.host_hub.proofs.Messages.{next_same}

-- what may be written has the next number
pub may_next : (s : Setting) (past : Past) (n : ℕ) (order : Order) → MayWrite s.first (crossings s past) (message_of s n order) → n ≡ next s.first past
may_next s past n (Part tag text eom) h = h.next ∙ sym (next_same s past)
may_next s past n (Request tag size) h = h.next ∙ sym (next_same s past)
may_next s past n (Trigger tag) h = h.next ∙ sym (next_same s past)
may_next s past n Read h = h.next ∙ sym (next_same s past)
may_next s past n Listen h = h.next ∙ sym (next_same s past)
may_next s past n (Class request) h = h.next ∙ sym (next_same s past)
may_next s past n (ClearHalt endpoint) h = h.next ∙ sym (next_same s past)
may_next s past n (Unlink target) h = h.next ∙ sym (next_same s past)

-- ---- these numbers fall, and are below this one

abbrev pub Below : ℕ → List Sent → Type 0
Below n [] = Unit {0}
Below n (x ∷ xs) = (x.number < n) × Below x.number xs

pub below_up : (m n : ℕ) (xs : List Sent) → m ≤ n → Below m xs → Below n xs
below_up m n [] h b = tt
below_up m n (x ∷ xs) h b = (omega (arith, h, b.0), b.1)

pub below_others : (n k : ℕ) (xs : List Sent) → Below n xs → Below n (others k xs)
below_others n k [] b = tt
below_others n k (x ∷ xs) b = step (below_others x.number k xs b.1) (x.number == k)
  where
    step : Below x.number (others k xs) → (c : Bool) → Below n (if c then others k xs else x ∷ others k xs)
    step again true = below_up x.number n (others k xs) (omega (arith, b.0)) again
    step again false = (b.0, again)

below_named : (n : ℕ) (order : Order) (xs : List Sent) → Below n xs → Below n (without_named order xs)
below_named n (Unlink target) xs b = below_others n target xs b
below_named n order xs b = b

below_unlink : (n k : ℕ) (xs : List Sent) → Below n xs → Below n (less_unlink k xs)
below_unlink n k [] b = tt
below_unlink n k (x ∷ xs) b = step (below_unlink x.number k xs b.1) (x.number == k)
  where
    step : Below x.number (less_unlink k xs) → (c : Bool) → Below n (if c then without_named x.order xs else x ∷ less_unlink k xs)
    step again true = below_named n x.order xs (below_up x.number n xs (omega (arith, b.0)) b.1)
    step again false = (b.0, again)

below_less : (n : ℕ) (m : down.Message) (xs : List Sent) → Below n xs → Below n (less m xs)
below_less n (down.RetSubmit head bytes) xs b = below_others n head.seqnum xs b
below_less n (down.RetUnlink head) xs b = below_unlink n head.seqnum xs b

pub outstanding_falls : (s : Setting) (past : Past) → Lawful s past → Below (next s.first past) (outstanding past)
outstanding_falls s [] h = tt
outstanding_falls s (Wrote n o k ∷ past) h =
    let e : n ≡ next s.first past = may_next s past n k h.1.1 in
    (omega (arith, e), subst (λ (m : ℕ). Below m (outstanding past)) (sym e) (outstanding_falls s past h.0))
outstanding_falls s (Took m ∷ past) h = below_less (next s.first past) m (outstanding past) (outstanding_falls s past h.0)
outstanding_falls s (Fell m e ∷ past) h = below_less (next s.first past) m (outstanding past) (outstanding_falls s past h.0)
outstanding_falls s (x ∷ past) h = outstanding_falls s past h.0

-- ---- what host_urbs has outstanding

pub entry_number : (s : Setting) (n : ℕ) (order : Order) → wire.number_of (sent_by (message_of s n order)) ≡ n
entry_number s n (Unlink target) = refl
entry_number s n order = refl

without_more : (k : ℕ) (xs ys : List Awaited) → without k (xs ++ ys) ≡ without k xs ++ without k ys
without_more k [] ys = refl
without_more k (x ∷ xs) ys = step (wire.number_of x == k) (without_more k xs ys)
  where
    step : (b : Bool) → without k (xs ++ ys) ≡ without k xs ++ without k ys
        → (if b then without k (xs ++ ys) else x ∷ without k (xs ++ ys)) ≡ (if b then without k xs else x ∷ without k xs) ++ without k ys
    step true e = e
    step false e = ap (λ (l : List Awaited). x ∷ l) e

others_awaited : (s : Setting) (k : ℕ) (xs : List Sent) → awaited_by s (others k xs) ≡ without k (awaited_by s xs)
others_awaited s k [] = refl
others_awaited s k (x ∷ xs) =
    step (x.number == k) refl (others_awaited s k xs) ∙ sym (without_more k (awaited_by s xs) (sent_by (message_of s x.number x.order) ∷ []))
  where
    step : (b : Bool) → (x.number == k) ≡ b → awaited_by s (others k xs) ≡ without k (awaited_by s xs)
        → awaited_by s (if b then others k xs else x ∷ others k xs) ≡ without k (awaited_by s xs) ++ without k (sent_by (message_of s x.number x.order) ∷ [])
    step true e again = rw (entry_number s x.number x.order) (rw e (again ∙ sym (append-nil (without k (awaited_by s xs)))))
    step false e again = rw (entry_number s x.number x.order) (rw e (ap (λ (l : List Awaited). l ++ sent_by (message_of s x.number x.order) ∷ []) again))

-- no number here is this one
abbrev pub Lacks : ℕ → List Awaited → Type 0
Lacks k [] = Unit {0}
Lacks k (x ∷ xs) = (wire.number_of x ≢ k) × Lacks k xs

lacks_more : (k : ℕ) (xs : List Awaited) (x : Awaited) → Lacks k xs → wire.number_of x ≢ k → Lacks k (xs ++ x ∷ [])
lacks_more k [] x h other = (other, tt)
lacks_more k (y ∷ ys) x h other = (h.0, lacks_more k ys x h.1 other)

pub below_lacks : (s : Setting) (n k : ℕ) (xs : List Sent) → Below n xs → n ≤ k → Lacks k (awaited_by s xs)
below_lacks s n k [] b h = tt
below_lacks s n k (x ∷ xs) b h =
    lacks_more k (awaited_by s xs) (sent_by (message_of s x.number x.order)) (below_lacks s x.number k xs b.1 (omega (arith, h, b.0)))
    (λ e. let f : x.number ≡ k = sym (entry_number s x.number x.order) ∙ e in omega (arith, f, h, b.0))

from_lacks : (k : ℕ) (xs : List Awaited) (x : Awaited) → Lacks k xs → wire.number_of x ≡ k → from k (xs ++ x ∷ []) ≡ x ∷ []
from_lacks k [] x h e = rw e (rw (own k) refl)
  where
    own : (n : ℕ) → (n == n) ≡ true
    own n = step (n == n) refl where
      step : (b : Bool) → (n == n) ≡ b → (n == n) ≡ true
      step true e = e
      step false e = absurd (eqb-false n n e refl)
from_lacks k (y ∷ ys) x h e = rw (differ (wire.number_of y) k h.0) (from_lacks k ys x h.1 e)

before_lacks : (k : ℕ) (xs : List Awaited) (x : Awaited) → Lacks k xs → wire.number_of x ≡ k → before k (xs ++ x ∷ []) ≡ xs
before_lacks k [] x h e = step (wire.number_of x == k) refl
  where
    step : (b : Bool) → (wire.number_of x == k) ≡ b → (if b then [] else x ∷ before k []) ≡ []
    step true f = refl
    step false f = absurd (eqb-false (wire.number_of x) k f e)
before_lacks k (y ∷ ys) x h e = rw (differ (wire.number_of y) k h.0) (ap (λ (l : List Awaited). y ∷ l) (before_lacks k ys x h.1 e))

-- the answer to an unlink that is not the last one leaves the last one

abbrev more : List Awaited → Awaited → List Awaited
more [] x = []
more (u ∷ l) x = u ∷ (l ++ x ∷ [])

abbrev rest : List Awaited → List Awaited → Awaited → List Awaited
rest [] b x = b ++ x ∷ []
rest (u ∷ l) b x = b

from_more : (k : ℕ) (xs : List Awaited) (x : Awaited) → (wire.number_of x == k) ≡ false → from k (xs ++ x ∷ []) ≡ more (from k xs) x
from_more k [] x e = rw e refl
from_more k (y ∷ ys) x e = step (wire.number_of y == k) (from_more k ys x e)
  where
    step : (b : Bool) → from k (ys ++ x ∷ []) ≡ more (from k ys) x
        → (if b then y ∷ (ys ++ x ∷ []) else from k (ys ++ x ∷ [])) ≡ more (if b then y ∷ ys else from k ys) x
    step true again = refl
    step false again = again

before_more : (k : ℕ) (xs : List Awaited) (x : Awaited) → (wire.number_of x == k) ≡ false → before k (xs ++ x ∷ []) ≡ rest (from k xs) (before k xs) x
before_more k [] x e = rw e refl
before_more k (y ∷ ys) x e = step (wire.number_of y == k) (before_more k ys x e)
  where
    cons : (f b : List Awaited) → y ∷ rest f b x ≡ rest f (y ∷ b) x
    cons [] b = refl
    cons (u ∷ l) b = refl

    step : (b : Bool) → before k (ys ++ x ∷ []) ≡ rest (from k ys) (before k ys) x
        → (if b then [] else y ∷ before k (ys ++ x ∷ [])) ≡ rest (if b then y ∷ ys else from k ys) (if b then [] else y ∷ before k ys) x
    step true again = refl
    step false again = ap (λ (l : List Awaited). y ∷ l) again ∙ cons (from k ys) (before k ys)

same_target : (u : Awaited) (l : List Awaited) (x : Awaited) (b : List Awaited) → wire.without_target (u ∷ (l ++ x ∷ [])) b ≡ wire.without_target (u ∷ l) b
same_target (wire.Submit n dir size) l x b = refl
same_target (wire.Unlink n None) l x b = refl
same_target (wire.Unlink n (Some target)) l x b = refl

left_more : (k : ℕ) (f b : List Awaited) (x : Awaited) → (wire.number_of x == k) ≡ false
    → wire.without_target (more f x) (rest f b x) ++ without k (more f x) ≡ (wire.without_target f b ++ without k f) ++ x ∷ []
left_more k [] b x e = append-nil (b ++ x ∷ []) ∙ ap (λ (l : List Awaited). l ++ x ∷ []) (sym (append-nil b))
left_more k (u ∷ l) b x e =
    ap (λ (m : List Awaited). m ++ without k (u ∷ (l ++ x ∷ []))) (same_target u l x b)
    ∙ (ap (λ (m : List Awaited). wire.without_target (u ∷ l) b ++ m) (without_more k (u ∷ l) (x ∷ []) ∙ rw e refl)
    ∙ sym (append_assoc (wire.without_target (u ∷ l) b) (without k (u ∷ l)) (x ∷ [])))

left_behind : (k : ℕ) (xs : List Awaited) (x : Awaited) → (wire.number_of x == k) ≡ false
    → wire.without_target (from k (xs ++ x ∷ [])) (before k (xs ++ x ∷ [])) ++ without k (from k (xs ++ x ∷ []))
    ≡ (wire.without_target (from k xs) (before k xs) ++ without k (from k xs)) ++ x ∷ []
left_behind k xs x e = rw (from_more k xs x e) (rw (before_more k xs x e) (left_more k (from k xs) (before k xs) x e))

-- the answer to the last one takes that out, and what it names
left_last : (s : Setting) (k : ℕ) (x : Sent) (xs : List Sent) → Below x.number xs → (x.number == k) ≡ true
    → awaited_by s (without_named x.order xs)
    ≡ wire.without_target (from k (awaited_by s xs ++ sent_by (message_of s x.number x.order) ∷ [])) (before k (awaited_by s xs ++ sent_by (message_of s x.number x.order) ∷ []))
    ++ without k (from k (awaited_by s xs ++ sent_by (message_of s x.number x.order) ∷ []))
left_last s k x xs b e =
    rw (from_lacks k (awaited_by s xs) (sent_by (message_of s x.number x.order)) lacks is)
    (rw (before_lacks k (awaited_by s xs) (sent_by (message_of s x.number x.order)) lacks is) (by x.order refl))
  where
    lacks : Lacks k (awaited_by s xs)
    lacks = below_lacks s x.number k xs b (let f : x.number ≡ k = eqb-true x.number k e in omega (arith, f))

    is : wire.number_of (sent_by (message_of s x.number x.order)) ≡ k
    is = entry_number s x.number x.order ∙ eqb-true x.number k e

    by : (order : Order) → x.order ≡ order
        → awaited_by s (without_named order xs)
        ≡ wire.without_target (sent_by (message_of s x.number order) ∷ []) (awaited_by s xs) ++ without k (sent_by (message_of s x.number order) ∷ [])
    by (Unlink target) o = rw e (others_awaited s target xs ∙ sym (append-nil (without target (awaited_by s xs))))
    by (Part tag text eom) o = rw e (sym (append-nil (awaited_by s xs)))
    by (Request tag size) o = rw e (sym (append-nil (awaited_by s xs)))
    by (Trigger tag) o = rw e (sym (append-nil (awaited_by s xs)))
    by Read o = rw e (sym (append-nil (awaited_by s xs)))
    by Listen o = rw e (sym (append-nil (awaited_by s xs)))
    by (Class request) o = rw e (sym (append-nil (awaited_by s xs)))
    by (ClearHalt endpoint) o = rw e (sym (append-nil (awaited_by s xs)))

unlink_awaited : (s : Setting) (n k : ℕ) (xs : List Sent) → Below n xs
    → awaited_by s (less_unlink k xs) ≡ wire.without_target (from k (awaited_by s xs)) (before k (awaited_by s xs)) ++ without k (from k (awaited_by s xs))
unlink_awaited s n k [] b = refl
unlink_awaited s n k (x ∷ xs) b = step (x.number == k) refl (unlink_awaited s x.number k xs b.1)
  where
    step : (c : Bool) → (x.number == k) ≡ c
        → awaited_by s (less_unlink k xs) ≡ wire.without_target (from k (awaited_by s xs)) (before k (awaited_by s xs)) ++ without k (from k (awaited_by s xs))
        → awaited_by s (if c then without_named x.order xs else x ∷ less_unlink k xs)
        ≡ wire.without_target (from k (awaited_by s xs ++ sent_by (message_of s x.number x.order) ∷ [])) (before k (awaited_by s xs ++ sent_by (message_of s x.number x.order) ∷ []))
        ++ without k (from k (awaited_by s xs ++ sent_by (message_of s x.number x.order) ∷ []))
    step true e again = left_last s k x xs b.1 e
    step false e again =
        ap (λ (l : List Awaited). l ++ sent_by (message_of s x.number x.order) ∷ []) again
        ∙ sym (left_behind k (awaited_by s xs) (sent_by (message_of s x.number x.order)) (ap (λ (m : ℕ). m == k) (entry_number s x.number x.order) ∙ e))

less_awaited : (s : Setting) (n : ℕ) (m : down.Message) (xs : List Sent) → Below n xs → awaited_by s (less m xs) ≡ left_by (awaited_by s xs) m
less_awaited s n (down.RetSubmit head bytes) xs b = others_awaited s head.seqnum xs
less_awaited s n (down.RetUnlink head) xs b = unlink_awaited s n head.seqnum xs b

-- what is outstanding is what host_urbs says
pub same_outstanding : (s : Setting) (past : Past) → Lawful s past → awaited_by s (outstanding past) ≡ urbs.outstanding (crossings s past)
same_outstanding s [] h = refl
same_outstanding s (Wrote n o k ∷ past) h = ap (λ (l : List Awaited). l ++ sent_by (message_of s n k) ∷ []) (same_outstanding s past h.0)
same_outstanding s (Took m ∷ past) h =
    less_awaited s (next s.first past) m (outstanding past) (outstanding_falls s past h.0) ∙ ap (λ (l : List Awaited). left_by l m) (same_outstanding s past h.0)
same_outstanding s (Fell m e ∷ past) h =
    less_awaited s (next s.first past) m (outstanding past) (outstanding_falls s past h.0) ∙ ap (λ (l : List Awaited). left_by l m) (same_outstanding s past h.0)
same_outstanding s (x ∷ past) h = same_outstanding s past h.0

-- there are as many
pub length_awaited : (s : Setting) (xs : List Sent) → length (awaited_by s xs) ≡ length xs
length_awaited s [] = refl
length_awaited s (x ∷ xs) =
    length-append (awaited_by s xs) (sent_by (message_of s x.number x.order) ∷ []) ∙ omega (arith, length_awaited s xs)

pub few : (s : Setting) (past : Past) → Lawful s past → length (urbs.outstanding (crossings s past)) ≤ DIRS_MAX → length (outstanding past) ≤ DIRS_MAX
few s past h most =
    omega (arith, subst (λ (l : List Awaited). length l ≤ DIRS_MAX) (sym (same_outstanding s past h)) most, length_awaited s (outstanding past))
