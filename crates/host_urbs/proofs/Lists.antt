-- what is outstanding, and what is left of it
use Rattle.std.proofs.Common.{◌≡◌, ℕ, ◌+◌, ◌<◌, ◌≤◌, ◌||◌, ◌&&◌, Bool, true, false, List, [], ◌∷◌, ◌++◌, length, Option, Some, refl, sym, subst, ◌∙◌, ap, arith}
use Rattle.std.specs.Prelude.{◌==◌, if◌then◌else◌, is_some}
use Rattle.std.proofs.lemmas.Bool.{eqb-true}
use Rattle.usbip_wire.specs.declared.unlink.UnlinkHead.{UnlinkHead}
use Rattle.usbip_wire.specs.Awaited.{Awaited, Unlink, entry_of, entries_of, number_of, sent_by, without, before, from, without_target}
use Rattle.usbip_wire.specs.declared.dirs.Outstanding.{Outstanding}
use Rattle.usbip_wire.specs.Dirs as dirs
use Rattle.usbip_wire.specs.Dirs.{find, submit_of, is_unlink}
use Rattle.usbip_wire.specs.Down as down
use Rattle.usbip_wire.specs.Up as up
use Rattle.host_urbs.specs.Unanswered.{seqnum_of, AreInARow, is_answered, unanswered}
use Rattle.host_urbs.proofs.Basics.{clash, own, differ, turned, and_false}

-- ---- messages without certain numbers

abbrev pub NoUnlink : ℕ → List up.Message → Type 0
NoUnlink n [] = Unit {0}
NoUnlink n (up.Submit head x ∷ ms) = NoUnlink n ms
NoUnlink n (up.Unlink head ∷ ms) = (head.seqnum ≡ n → ⊥) × NoUnlink n ms

abbrev pub NoSubmit : ℕ → List up.Message → Type 0
NoSubmit n [] = Unit {0}
NoSubmit n (up.Submit head x ∷ ms) = (head.seqnum ≡ n → ⊥) × NoSubmit n ms
NoSubmit n (up.Unlink head ∷ ms) = NoSubmit n ms

-- an unlink of this number names this submit
abbrev pub names : ℕ → ℕ → List up.Message → Bool
names n k [] = false
names n k (up.Submit head x ∷ ms) = names n k ms
names n k (up.Unlink head ∷ ms) = ((head.target == k) && (head.seqnum == n)) || names n k ms

pub no_unlink_above : (n c : ℕ) (ms : List up.Message) → AreInARow c ms → n < c → NoUnlink n ms
no_unlink_above n c [] row h = tt
no_unlink_above n c (up.Submit head x ∷ ms) row h = no_unlink_above n (c + 1) ms row.1 (omega (arith, h))
no_unlink_above n c (up.Unlink head ∷ ms) row h = (λ e. omega (arith, e, row.0, h), no_unlink_above n (c + 1) ms row.1 (omega (arith, h)))

pub no_submit_above : (n c : ℕ) (ms : List up.Message) → AreInARow c ms → n < c → NoSubmit n ms
no_submit_above n c [] row h = tt
no_submit_above n c (up.Submit head x ∷ ms) row h = (λ e. omega (arith, e, row.0, h), no_submit_above n (c + 1) ms row.1 (omega (arith, h)))
no_submit_above n c (up.Unlink head ∷ ms) row h = no_submit_above n (c + 1) ms row.1 (omega (arith, h))

pub names_above : (n c k : ℕ) (ms : List up.Message) → AreInARow c ms → n < c → names n k ms ≡ false
names_above n c k [] row h = refl
names_above n c k (up.Submit head x ∷ ms) row h = names_above n (c + 1) k ms row.1 (omega (arith, h))
names_above n c k (up.Unlink head ∷ ms) row h =
    rw (differ head.seqnum n (λ e. omega (arith, e, row.0, h))) (rw (and_false (head.target == k)) (names_above n (c + 1) k ms row.1 (omega (arith, h))))

pub row_more : (n : ℕ) (ms : List up.Message) (m : up.Message) → AreInARow n ms → seqnum_of m ≡ n + length ms → AreInARow n (ms ++ m ∷ [])
row_more n [] m row e = (omega (arith, e), tt)
row_more n (x ∷ xs) m row e = (row.0, row_more (n + 1) xs m row.1 (omega (arith, e)))

pub no_unlink_more : (n : ℕ) (ms : List up.Message) (m : up.Message) → NoUnlink n ms → (seqnum_of m ≡ n → ⊥) → NoUnlink n (ms ++ m ∷ [])
no_unlink_more n [] (up.Submit head x) h other = tt
no_unlink_more n [] (up.Unlink head) h other = (other, tt)
no_unlink_more n (up.Submit head x ∷ ms) m h other = no_unlink_more n ms m h other
no_unlink_more n (up.Unlink head ∷ ms) m h other = (h.0, no_unlink_more n ms m h.1 other)

-- ---- what is found among the unanswered

pub without_above : (k c : ℕ) (all : List up.Message) (t : List down.Message) (ms : List up.Message) → AreInARow c ms → k < c
    → without k (unanswered all t ms) ≡ unanswered all t ms
without_above k c all t [] row h = refl
without_above k c all t (m ∷ ms) row h = step m row.0 (is_answered all t m) (without_above k (c + 1) all t ms row.1 (omega (arith, h)))
  where
    keep : (m : up.Message) → seqnum_of m ≡ c → (number_of (sent_by m) == k) ≡ false
    keep (up.Submit head x) e = differ head.seqnum k (λ f. omega (arith, f, e, h))
    keep (up.Unlink head) e = differ head.seqnum k (λ f. omega (arith, f, e, h))

    step : (m : up.Message) → seqnum_of m ≡ c → (b : Bool) → without k (unanswered all t ms) ≡ unanswered all t ms
        → without k (if b then unanswered all t ms else sent_by m ∷ unanswered all t ms) ≡ (if b then unanswered all t ms else sent_by m ∷ unanswered all t ms)
    step m e true again = again
    step m e false again = rw (keep m e) (ap (λ (l : List Awaited). sent_by m ∷ l) again)

pub found : (n : ℕ) (x : Outstanding) (xs : List Outstanding) → (dirs.number_of x == n) ≡ true → find n (x ∷ xs) ≡ Some x
found n x xs e = rw e refl

pub skipped : (n : ℕ) (x : Outstanding) (xs : List Outstanding) → (dirs.number_of x == n) ≡ false → find n (x ∷ xs) ≡ find n xs
skipped n x xs e = rw e refl

-- a submit of this number is outstanding
pub record SubmitThere (n b : ℕ) (ms : List up.Message) : Type 0 where
  pub none : NoUnlink n ms
  pub low : b ≤ n
  pub high : n < b + length ms

further_submit : (n b : ℕ) (m : up.Message) (ms : List up.Message) → seqnum_of m ≡ b → SubmitThere n (b + 1) ms → SubmitThere n b (m ∷ ms)
further_submit n b m ms e s = record { none = behind m e; low = omega (arith, s.low); high = omega (arith, s.high) }
  where
    behind : (m : up.Message) → seqnum_of m ≡ b → NoUnlink n (m ∷ ms)
    behind (up.Submit head x) e = s.none
    behind (up.Unlink head) e = (λ f. omega (arith, f, e, s.low), s.none)

pub submit_there : (n b : ℕ) (all : List up.Message) (t : List down.Message) (ms : List up.Message) → AreInARow b ms
    → is_some (submit_of (find n (entries_of (unanswered all t ms)))) ≡ true → SubmitThere n b ms
submit_there n b all t [] row h = clash h
submit_there n b all t (m ∷ ms) row h = step m row.0 (is_answered all t m) (submit_there n (b + 1) all t ms row.1) h
  where
    open_here : (m : up.Message) → seqnum_of m ≡ b → (is_some (submit_of (find n (entries_of (unanswered all t ms)))) ≡ true → SubmitThere n (b + 1) ms) → (c : Bool)
        → (number_of (sent_by m) == n) ≡ c → is_some (submit_of (find n (entries_of (sent_by m ∷ unanswered all t ms)))) ≡ true → SubmitThere n b (m ∷ ms)
    open_here (up.Submit head x) e again true f k =
        let g = eqb-true head.seqnum n f in
        record { none = no_unlink_above n (b + 1) ms row.1 (omega (arith, g, e)); low = omega (arith, g, e); high = omega (arith, g, e) }
    open_here (up.Submit head x) e again false f k = further_submit n b (up.Submit head x) ms e (again (subst (λ (o : Option Outstanding). is_some (submit_of o) ≡ true) (skipped n (entry_of (sent_by (up.Submit head x))) (entries_of (unanswered all t ms)) f) k))
    open_here (up.Unlink head) e again true f k = clash (subst (λ (o : Option Outstanding). is_some (submit_of o) ≡ true) (found n (entry_of (sent_by (up.Unlink head))) (entries_of (unanswered all t ms)) f) k)
    open_here (up.Unlink head) e again false f k = further_submit n b (up.Unlink head) ms e (again (subst (λ (o : Option Outstanding). is_some (submit_of o) ≡ true) (skipped n (entry_of (sent_by (up.Unlink head))) (entries_of (unanswered all t ms)) f) k))

    step : (m : up.Message) → seqnum_of m ≡ b → (a : Bool) → (is_some (submit_of (find n (entries_of (unanswered all t ms)))) ≡ true → SubmitThere n (b + 1) ms)
        → is_some (submit_of (find n (entries_of (if a then unanswered all t ms else sent_by m ∷ unanswered all t ms)))) ≡ true → SubmitThere n b (m ∷ ms)
    step m e true again k = further_submit n b m ms e (again k)
    step m e false again k = open_here m e again (number_of (sent_by m) == n) refl k

-- ---- an unlink that is outstanding, with its target

-- what the answer to the unlink of this number leaves
abbrev pub split : ℕ → List Awaited → List Awaited
split n awaited = without_target (from n awaited) (before n awaited) ++ without n (from n awaited)

pub split_skip : (n target : ℕ) (x : Awaited) (rest later : List Awaited) → (number_of x == n) ≡ false → from n rest ≡ Unlink n (Some target) ∷ later
    → split n rest ≡ without target (without n rest) → split n (x ∷ rest) ≡ without target (without n (x ∷ rest))
split_skip n target x rest later other at same =
    rw other (subst (λ (l : List Awaited). without_target l (x ∷ before n rest) ++ without n l ≡ without target (x ∷ without n rest)) (sym at)
    (step (number_of x == target) (subst (λ (l : List Awaited). without_target l (before n rest) ++ without n l ≡ without target (without n rest)) at same)))
  where
    step : (b : Bool) → without target (before n rest) ++ without n (Unlink n (Some target) ∷ later) ≡ without target (without n rest)
        → (if b then without target (before n rest) else x ∷ without target (before n rest)) ++ without n (Unlink n (Some target) ∷ later)
        ≡ (if b then without target (without n rest) else x ∷ without target (without n rest))
    step true e = e
    step false e = ap (λ (l : List Awaited). x ∷ l) e

-- each of these unlinks names a lower number, which is below this one and that of no unlink
abbrev pub AreTargets : (next : ℕ) (all : List up.Message) → List up.Message → Type 0
AreTargets next all [] = Unit {0}
AreTargets next all (up.Submit head x ∷ ms) = AreTargets next all ms
AreTargets next all (up.Unlink head ∷ ms) = (head.target < head.seqnum) × (head.target < next) × NoUnlink head.target all × AreTargets next all ms

pub record UnlinkThere (n b : ℕ) (all : List up.Message) (t : List down.Message) (ms : List up.Message) : Type 0 where
  pub target : ℕ
  pub older : target < n
  pub kept : NoUnlink target all
  pub none : NoSubmit n ms
  pub named : (k : ℕ) → names n k ms ≡ (k == target)
  pub low : b ≤ n
  pub high : n < b + length ms
  pub later : List Awaited
  pub at : from n (unanswered all t ms) ≡ Unlink n (Some target) ∷ later
  pub left : split n (unanswered all t ms) ≡ without target (without n (unanswered all t ms))

-- it is behind this message
further_unlink : (n b : ℕ) (all : List up.Message) (t : List down.Message) (m : up.Message) (ms : List up.Message) → seqnum_of m ≡ b
    → UnlinkThere n (b + 1) all t ms → UnlinkThere n b all t (m ∷ ms)
further_unlink n b all t m ms e u = record {
  target = u.target;
  older = u.older;
  kept = u.kept;
  none = none m e;
  named = named m e;
  low = omega (arith, u.low);
  high = omega (arith, u.high);
  later = u.later;
  at = at m e (is_answered all t m);
  left = left m e (is_answered all t m);
}
  where
    none : (m : up.Message) → seqnum_of m ≡ b → NoSubmit n (m ∷ ms)
    none (up.Submit head x) e = (λ f. omega (arith, f, e, u.low), u.none)
    none (up.Unlink head) e = u.none

    named : (m : up.Message) → seqnum_of m ≡ b → (k : ℕ) → names n k (m ∷ ms) ≡ (k == u.target)
    named (up.Submit head x) e k = u.named k
    named (up.Unlink head) e k = rw (differ head.seqnum n (λ f. omega (arith, f, e, u.low))) (rw (and_false (head.target == k)) (u.named k))

    other : (m : up.Message) → seqnum_of m ≡ b → (number_of (sent_by m) == n) ≡ false
    other (up.Submit head x) e = differ head.seqnum n (λ f. omega (arith, f, e, u.low))
    other (up.Unlink head) e = differ head.seqnum n (λ f. omega (arith, f, e, u.low))

    at : (m : up.Message) → seqnum_of m ≡ b → (a : Bool) → from n (if a then unanswered all t ms else sent_by m ∷ unanswered all t ms) ≡ Unlink n (Some u.target) ∷ u.later
    at m e true = u.at
    at m e false = rw (other m e) u.at

    left : (m : up.Message) → seqnum_of m ≡ b → (a : Bool)
        → split n (if a then unanswered all t ms else sent_by m ∷ unanswered all t ms) ≡ without u.target (without n (if a then unanswered all t ms else sent_by m ∷ unanswered all t ms))
    left m e true = u.left
    left m e false = split_skip n u.target (sent_by m) (unanswered all t ms) u.later (other m e) u.at u.left

-- all of the rest stays
split_here : (n m target : ℕ) (rest : List Awaited) → m ≡ n → without n rest ≡ rest → without target rest ≡ rest
    → split n (Unlink m (Some target) ∷ rest) ≡ without target (without n (Unlink m (Some target) ∷ rest))
split_here n m target rest e one two = first (m == n) same ∙ (gone ∙ (sym two ∙ sym (ap (λ (l : List Awaited). without target l) gone)))
  where
    same : (m == n) ≡ true
    same = subst (λ (k : ℕ). (k == n) ≡ true) (sym e) (own n)

    gone : without n (Unlink m (Some target) ∷ rest) ≡ rest
    gone = rw same one

    first : (b : Bool) → b ≡ true
        → without_target (if b then Unlink m (Some target) ∷ rest else from n rest) (if b then [] else Unlink m (Some target) ∷ before n rest)
        ++ without n (if b then Unlink m (Some target) ∷ rest else from n rest)
        ≡ without n (Unlink m (Some target) ∷ rest)
    first true f = refl
    first false f = clash f

-- it is this message
this_unlink : (n b : ℕ) (all : List up.Message) (t : List down.Message) (head : UnlinkHead) (ms : List up.Message) → head.seqnum ≡ n → head.seqnum ≡ b → AreInARow (b + 1) ms
    → (head.target < head.seqnum) → NoUnlink head.target all → is_answered all t (up.Unlink head) ≡ false → UnlinkThere n b all t (up.Unlink head ∷ ms)
this_unlink n b all t head ms e f row older kept due = record {
  target = head.target;
  older = omega (arith, older, e);
  kept = kept;
  none = no_submit_above n (b + 1) ms row (omega (arith, e, f));
  named = λ k. rw e (rw (own n) (rw (names_above n (b + 1) k ms row (omega (arith, e, f))) (both (head.target == k) ∙ turned head.target k)));
  low = omega (arith, e, f);
  high = omega (arith, e, f);
  later = unanswered all t ms;
  at = rw due (rw e (rw (own n) refl));
  left = rw due (split_here n head.seqnum head.target (unanswered all t ms) e (without_above n (b + 1) all t ms row (omega (arith, e, f))) (without_above head.target (b + 1) all t ms row (omega (arith, e, f, older))));
}
  where
    both : (c : Bool) → (c && true) || false ≡ c
    both true = refl
    both false = refl

pub unlink_there : (n b next : ℕ) (all : List up.Message) (t : List down.Message) (ms : List up.Message) → AreInARow b ms → AreTargets next all ms
    → is_unlink (find n (entries_of (unanswered all t ms))) ≡ true → UnlinkThere n b all t ms
unlink_there n b next all t [] row targets h = clash h
unlink_there n b next all t (up.Submit head x ∷ ms) row targets h =
    further_unlink n b all t (up.Submit head x) ms row.0 (unlink_there n (b + 1) next all t ms row.1 targets (step (is_answered all t (up.Submit head x)) h))
  where
    at : (c : Bool) → (head.seqnum == n) ≡ c → is_unlink (find n (entries_of (sent_by (up.Submit head x) ∷ unanswered all t ms))) ≡ true → is_unlink (find n (entries_of (unanswered all t ms))) ≡ true
    at true f k = clash (subst (λ (o : Option Outstanding). is_unlink o ≡ true) (found n (entry_of (sent_by (up.Submit head x))) (entries_of (unanswered all t ms)) f) k)
    at false f k = subst (λ (o : Option Outstanding). is_unlink o ≡ true) (skipped n (entry_of (sent_by (up.Submit head x))) (entries_of (unanswered all t ms)) f) k

    step : (a : Bool) → is_unlink (find n (entries_of (if a then unanswered all t ms else sent_by (up.Submit head x) ∷ unanswered all t ms))) ≡ true
        → is_unlink (find n (entries_of (unanswered all t ms))) ≡ true
    step true k = k
    step false k = at (head.seqnum == n) refl k
unlink_there n b next all t (up.Unlink head ∷ ms) row targets h =
    step (is_answered all t (up.Unlink head)) refl (unlink_there n (b + 1) next all t ms row.1 targets.3) h
  where
    at : (is_unlink (find n (entries_of (unanswered all t ms))) ≡ true → UnlinkThere n (b + 1) all t ms) → is_answered all t (up.Unlink head) ≡ false
        → (c : Bool) → (head.seqnum == n) ≡ c → is_unlink (find n (entries_of (sent_by (up.Unlink head) ∷ unanswered all t ms))) ≡ true → UnlinkThere n b all t (up.Unlink head ∷ ms)
    at again due true f k = this_unlink n b all t head ms (eqb-true head.seqnum n f) row.0 row.1 targets.0 targets.2 due
    at again due false f k = further_unlink n b all t (up.Unlink head) ms row.0
        (again (subst (λ (o : Option Outstanding). is_unlink o ≡ true) (skipped n (entry_of (sent_by (up.Unlink head))) (entries_of (unanswered all t ms)) f) k))

    step : (a : Bool) → is_answered all t (up.Unlink head) ≡ a → (is_unlink (find n (entries_of (unanswered all t ms))) ≡ true → UnlinkThere n (b + 1) all t ms)
        → is_unlink (find n (entries_of (if a then unanswered all t ms else sent_by (up.Unlink head) ∷ unanswered all t ms))) ≡ true → UnlinkThere n b all t (up.Unlink head ∷ ms)
    step true due again k = further_unlink n b all t (up.Unlink head) ms row.0 (again k)
    step false due again k = at again due (head.seqnum == n) refl k
