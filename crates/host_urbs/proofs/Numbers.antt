-- how far numbers go: behind the last submit come so many unlinks at most as submits were outstanding
use Rattle.std.proofs.Common.{◌≡◌, ℕ, suc, ◌+◌, ◌<◌, ◌≤◌, ◌^◌, ◌||◌, ◌&&◌, Bool, true, false, List, [], ◌∷◌, ◌++◌, length, Option, Some, refl, sym, subst, ◌∙◌, ap, arith}
use Rattle.std.specs.Prelude.{◌==◌, if◌then◌else◌, is_some}
use Rattle.usbip_wire.specs.declared.dirs.Outstanding.{Outstanding}
use Rattle.usbip_wire.specs.declared.ret_submit.RetSubmitHead.{RetSubmitHead}
use Rattle.usbip_wire.specs.declared.ret_unlink.RetUnlinkHead.{RetUnlinkHead}
use Rattle.usbip_wire.specs.Awaited.{Awaited, Submit, Unlink, entry_of, entries_of, sent_by, without, left_by}
use Rattle.usbip_wire.specs.Dirs.{find, submit_of, is_unlink}
use Rattle.usbip_wire.specs.Down as down
use Rattle.usbip_wire.specs.Up as up
use Rattle.host_urbs.specs.Record.{Past, Wrote, Took, written, taken, next, outstanding}
use Rattle.host_urbs.specs.Law.{is_named, Lawful, MayTake}
use Rattle.host_urbs.specs.Unanswered.{is_answered, unanswered}
use Rattle.host_urbs.specs.Unlinks.{not_named, removed}
use Rattle.host_urbs.proofs.Basics.{clash, differ, neither}
use Rattle.host_urbs.proofs.Lists.{NoUnlink, names, found, skipped, submit_there, unlink_there, UnlinkThere, SubmitThere}
use Rattle.host_urbs.proofs.Known.{known, next_more, some_submit}
use Rattle.host_urbs.proofs.Once.{less_one, few}
use Rattle.std.proofs.lemmas.Bool.{eqb-true}

-- ---- which submits are named

named_without_submit : (n k : ℕ) (all : List up.Message) (t : List down.Message) (ms : List up.Message) → NoUnlink n ms
    → is_named k (without n (unanswered all t ms)) ≡ is_named k (unanswered all t ms)
named_without_submit n k all t [] none = refl
named_without_submit n k all t (up.Submit head x ∷ ms) none = step (is_answered all t (up.Submit head x)) (head.seqnum == n) (named_without_submit n k all t ms none)
  where
    step : (a b : Bool) → is_named k (without n (unanswered all t ms)) ≡ is_named k (unanswered all t ms)
        → is_named k (without n (if a then unanswered all t ms else sent_by (up.Submit head x) ∷ unanswered all t ms)) ≡ is_named k (if a then unanswered all t ms else sent_by (up.Submit head x) ∷ unanswered all t ms)
    step true b e = e
    step false b e = open_it (head.seqnum == n) e
      where
        open_it : (c : Bool) → is_named k (without n (unanswered all t ms)) ≡ is_named k (unanswered all t ms)
            → is_named k (if c then without n (unanswered all t ms) else sent_by (up.Submit head x) ∷ without n (unanswered all t ms)) ≡ is_named k (unanswered all t ms)
        open_it true f = f
        open_it false f = f
named_without_submit n k all t (up.Unlink head ∷ ms) none = step (is_answered all t (up.Unlink head)) (named_without_submit n k all t ms none.1)
  where
    step : (a : Bool) → is_named k (without n (unanswered all t ms)) ≡ is_named k (unanswered all t ms)
        → is_named k (without n (if a then unanswered all t ms else sent_by (up.Unlink head) ∷ unanswered all t ms)) ≡ is_named k (if a then unanswered all t ms else sent_by (up.Unlink head) ∷ unanswered all t ms)
    step true e = e
    step false e = rw (differ head.seqnum n none.0) (ap (λ (b : Bool). (head.target == k) || b) e)

named_without_unlink : (n target k : ℕ) (all : List up.Message) (t : List down.Message) (ms : List up.Message) → NoUnlink target ms → names n k ms ≡ false
    → is_named k (without target (without n (unanswered all t ms))) ≡ is_named k (unanswered all t ms)
named_without_unlink n target k all t [] kept other = refl
named_without_unlink n target k all t (up.Submit head x ∷ ms) kept other = step (is_answered all t (up.Submit head x)) (named_without_unlink n target k all t ms kept other)
  where
    open_it : (c d : Bool) → is_named k (without target (without n (unanswered all t ms))) ≡ is_named k (unanswered all t ms) → (head.seqnum == target) ≡ d
        → is_named k (without target (if c then without n (unanswered all t ms) else sent_by (up.Submit head x) ∷ without n (unanswered all t ms))) ≡ is_named k (unanswered all t ms)
    open_it true d f g = f
    open_it false true f g = rw g f
    open_it false false f g = rw g f

    step : (a : Bool) → is_named k (without target (without n (unanswered all t ms))) ≡ is_named k (unanswered all t ms)
        → is_named k (without target (without n (if a then unanswered all t ms else sent_by (up.Submit head x) ∷ unanswered all t ms))) ≡ is_named k (if a then unanswered all t ms else sent_by (up.Submit head x) ∷ unanswered all t ms)
    step true e = e
    step false e = open_it (head.seqnum == n) (head.seqnum == target) e refl
named_without_unlink n target k all t (up.Unlink head ∷ ms) kept other = step (is_answered all t (up.Unlink head)) (named_without_unlink n target k all t ms kept.1 (neither _ _ other).1)
  where
    apart : (head.target == k) && (head.seqnum == n) ≡ false
    apart = (neither ((head.target == k) && (head.seqnum == n)) (names n k ms) other).0

    open_it : (b c : Bool) → (head.target == k) ≡ b → b && c ≡ false → is_named k (without target (without n (unanswered all t ms))) ≡ is_named k (unanswered all t ms)
        → is_named k (without target (if c then without n (unanswered all t ms) else sent_by (up.Unlink head) ∷ without n (unanswered all t ms))) ≡ b || is_named k (unanswered all t ms)
    open_it true true e g f = clash (sym g)
    open_it false true e g f = f
    open_it true false e g f = rw (differ head.seqnum target kept.0) (rw e refl)
    open_it false false e g f = rw (differ head.seqnum target kept.0) (rw e f)

    step : (a : Bool) → is_named k (without target (without n (unanswered all t ms))) ≡ is_named k (unanswered all t ms)
        → is_named k (without target (without n (if a then unanswered all t ms else sent_by (up.Unlink head) ∷ unanswered all t ms))) ≡ is_named k (if a then unanswered all t ms else sent_by (up.Unlink head) ∷ unanswered all t ms)
    step true e = e
    step false e = open_it (head.target == k) (head.seqnum == n) refl apart e

-- ---- how many are not

fewer : (n : ℕ) (xs all now : List Awaited) → ((k : ℕ) → (k == n) ≡ false → is_named k now ≡ is_named k all) → length (not_named (without n xs) now) ≤ length (not_named xs all)
fewer n [] all now same = omega arith
fewer n (Unlink s target ∷ xs) all now same = step (s == n) (fewer n xs all now same)
  where
    step : (a : Bool) → length (not_named (without n xs) now) ≤ length (not_named xs all)
        → length (not_named (if a then without n xs else Unlink s target ∷ without n xs) now) ≤ length (not_named xs all)
    step true e = e
    step false e = e
fewer n (Submit s dir size ∷ xs) all now same = step (s == n) refl (fewer n xs all now same)
  where
    none : (b : Bool) → length (not_named xs all) ≤ length (if b then not_named xs all else s ∷ not_named xs all)
    none true = omega arith
    none false = omega arith

    both : (b : Bool) → length (not_named (without n xs) now) ≤ length (not_named xs all)
        → length (if b then not_named (without n xs) now else s ∷ not_named (without n xs) now) ≤ length (if b then not_named xs all else s ∷ not_named xs all)
    both true e = e
    both false e = omega (arith, e)

    step : (a : Bool) → (s == n) ≡ a → length (not_named (without n xs) now) ≤ length (not_named xs all)
        → length (not_named (if a then without n xs else Submit s dir size ∷ without n xs) now) ≤ length (if is_named s all then not_named xs all else s ∷ not_named xs all)
    step true f e = omega (arith, e, none (is_named s all))
    step false f e = rw (same s f) (both (is_named s all) e)

length_removed : (t : ℕ) (ns : List ℕ) → length (removed t ns) ≤ length ns
length_removed t [] = omega arith
length_removed t (n ∷ ns) = step (n == t) (length_removed t ns)
  where
    step : (a : Bool) → length (removed t ns) ≤ length ns → length (if a then removed t ns else n ∷ removed t ns) ≤ suc (length ns)
    step true e = omega (arith, e)
    step false e = omega (arith, e)

one_fewer : (t : ℕ) (xs all : List Awaited) → is_some (submit_of (find t (entries_of xs))) ≡ true → is_named t all ≡ false
    → length (removed t (not_named xs all)) + 1 ≤ length (not_named xs all)
one_fewer t [] all there once = clash there
one_fewer t (Unlink s target ∷ xs) all there once = step (s == t) refl (one_fewer t xs all)
  where
    step : (a : Bool) → (s == t) ≡ a → (is_some (submit_of (find t (entries_of xs))) ≡ true → is_named t all ≡ false → length (removed t (not_named xs all)) + 1 ≤ length (not_named xs all))
        → length (removed t (not_named xs all)) + 1 ≤ length (not_named xs all)
    step true e again = clash (subst (λ (o : Option Outstanding). is_some (submit_of o) ≡ true) (found t (entry_of (Unlink s target)) (entries_of xs) e) there)
    step false e again = again (subst (λ (o : Option Outstanding). is_some (submit_of o) ≡ true) (skipped t (entry_of (Unlink s target)) (entries_of xs) e) there) once
one_fewer t (Submit s dir size ∷ xs) all there once = step (s == t) refl (is_named s all) refl (one_fewer t xs all)
  where
    step : (a : Bool) → (s == t) ≡ a → (b : Bool) → is_named s all ≡ b
        → (is_some (submit_of (find t (entries_of xs))) ≡ true → is_named t all ≡ false → length (removed t (not_named xs all)) + 1 ≤ length (not_named xs all))
        → length (removed t (if b then not_named xs all else s ∷ not_named xs all)) + 1 ≤ length (if b then not_named xs all else s ∷ not_named xs all)
    step true e true f again = clash (sym once ∙ subst (λ (i : ℕ). is_named i all ≡ true) (eqb-true s t e) f)
    step true e false f again = rw e (omega (arith, length_removed t (not_named xs all)))
    step false e true f again = again (subst (λ (o : Option Outstanding). is_some (submit_of o) ≡ true) (skipped t (entry_of (Submit s dir size)) (entries_of xs) e) there) once
    step false e false f again = rw e (omega (arith, again (subst (λ (o : Option Outstanding). is_some (submit_of o) ≡ true) (skipped t (entry_of (Submit s dir size)) (entries_of xs) e) there) once))

not_named_more : (xs all : List Awaited) (n target : ℕ) → not_named (xs ++ Unlink n (Some target) ∷ []) all ≡ not_named xs all
not_named_more [] all n target = refl
not_named_more (Unlink s other ∷ xs) all n target = not_named_more xs all n target
not_named_more (Submit s dir size ∷ xs) all n target = rw (not_named_more xs all n target) refl

length_not_named : (xs all : List Awaited) → length (not_named xs all) ≤ length xs
length_not_named [] all = omega arith
length_not_named (Unlink s target ∷ xs) all = omega (arith, length_not_named xs all)
length_not_named (Submit s dir size ∷ xs) all = step (is_named s all) (length_not_named xs all)
  where
    step : (b : Bool) → length (not_named xs all) ≤ length xs → length (if b then not_named xs all else s ∷ not_named xs all) ≤ suc (length xs)
    step true e = omega (arith, e)
    step false e = omega (arith, e)

-- ---- the bound

abbrev pub unnamed : Past → ℕ
unnamed past = length (not_named (outstanding past) (outstanding past))

pub one_less : (xs : List Awaited) (n t : ℕ) → is_some (submit_of (find t (entries_of xs))) ≡ true → is_named t xs ≡ false
    → length (not_named (xs ++ Unlink n (Some t) ∷ []) (xs ++ Unlink n (Some t) ∷ [])) + 1 ≤ length (not_named xs xs)
one_less xs n t there once =
    rw (not_named_more xs (xs ++ Unlink n (Some t) ∷ []) n t) (rw (less_one xs xs n t) (one_fewer t xs xs there once))

answered_submit : (first : ℕ) (past : Past) (head : RetSubmitHead) (x : List ℕ) → Lawful first past → MayTake past (down.RetSubmit head x) → unnamed (Took (down.RetSubmit head x) ∷ past) ≤ unnamed past
answered_submit first past head x h may =
    let k = known first past h in
    let s : SubmitThere head.seqnum first (written past) = submit_there head.seqnum first (written past) (taken past) (written past) k.row
    (subst (λ (l : List Awaited). is_some (submit_of (find head.seqnum (entries_of l))) ≡ true) k.due
    (some_submit (submit_of (find head.seqnum (entries_of (outstanding past)))) (may.0.dir, may.0.size) may.1)) in
    fewer head.seqnum (outstanding past) (outstanding past) (without head.seqnum (outstanding past))
    (λ n other. subst (λ (l : List Awaited). is_named n (without head.seqnum l) ≡ is_named n l) (sym k.due) (named_without_submit head.seqnum n (written past) (taken past) (written past) s.none))

answered_unlink : (first : ℕ) (past : Past) (head : RetUnlinkHead) → Lawful first past → MayTake past (down.RetUnlink head) → unnamed (Took (down.RetUnlink head) ∷ past) ≤ unnamed past
answered_unlink first past head h may =
    let k = known first past h in
    let u : UnlinkThere head.seqnum first (written past) (taken past) (written past) = unlink_there head.seqnum first (next first past) (written past) (taken past) (written past) k.row k.targets
    (subst (λ (l : List Awaited). is_unlink (find head.seqnum (entries_of l)) ≡ true) k.due may) in
    let left : left_by (outstanding past) (down.RetUnlink head) ≡ without u.target (without head.seqnum (outstanding past)) =
    subst (λ (l : List Awaited). left_by l (down.RetUnlink head) ≡ without u.target (without head.seqnum l)) (sym k.due) u.left in
    let one = fewer head.seqnum (outstanding past) (outstanding past) (outstanding past) (λ n other. refl) in
    let two = fewer u.target (without head.seqnum (outstanding past)) (outstanding past) (without u.target (without head.seqnum (outstanding past)))
    (λ n other. subst (λ (l : List Awaited). is_named n (without u.target (without head.seqnum l)) ≡ is_named n l) (sym k.due)
    (named_without_unlink head.seqnum u.target n (written past) (taken past) (written past) u.kept (u.named n ∙ other))) in
    subst (λ (l : List Awaited). length (not_named l l) ≤ unnamed past) (sym left) (omega (arith, one, two))

pub numbered : (first : ℕ) (past : Past) → first < 2 ^ 32 → Lawful first past → next first past + unnamed past < 2 ^ 32
numbered first [] low h = omega arith
numbered first (Wrote (up.Submit head x) ∷ past) low h =
    let last = h.1.last in
    let n = h.1.next in
    omega (
      arith,
      last,
      n,
      next_more first (up.Submit head x) past,
      few first (Wrote (up.Submit head x) ∷ past) h,
      length_not_named (outstanding (Wrote (up.Submit head x) ∷ past)) (outstanding (Wrote (up.Submit head x) ∷ past)),
    )
numbered first (Wrote (up.Unlink head) ∷ past) low h =
    omega (arith, numbered first past low h.0, next_more first (up.Unlink head) past, one_less (outstanding past) head.seqnum head.target h.1.named h.1.once)
numbered first (Took (down.RetSubmit head x) ∷ past) low h = omega (arith, numbered first past low h.0, answered_submit first past head x h.0 h.1)
numbered first (Took (down.RetUnlink head) ∷ past) low h = omega (arith, numbered first past low h.0, answered_unlink first past head h.0 h.1)
