-- how many messages were sent whole, and which of what is outstanding
use Rattle.std.proofs.Common.{◌≡◌, ◌∙◌, ◌≤◌, ◌<◌, ◌+◌, ◌-◌, ℕ, zero, suc, Bool, true, false, List, [], ◌∷◌, ◌++◌, length, take, drop, Some, None, refl, sym, ap, subst, arith, length-append, take-append-drop}
use Rattle.std.specs.Prelude.{◌==◌, is_some, leb, nat_lt, if◌then◌else◌}
use Rattle.std.proofs.lemmas.Bool.{eqb-false, eqb-true, leb-true, ltb-false, ltb-true}
use Rattle.std.proofs.lemmas.List.{length-drop}
use Rattle.usbip_wire.specs.Awaited.{Awaited, entries_of, entry_of, number_of, sent_by}
use Rattle.usbip_wire.specs.Awaited as wire
use Rattle.usbip_wire.specs.Dirs as dirs
use Rattle.usbip_wire.specs.Up as up
use Rattle.host_urbs.specs.declared.entry.Entry.{Entry}
use Rattle.host_urbs.specs.declared.entry.Unanswered.{Unanswered}
use Rattle.host_urbs.specs.declared.entry.Unanswered.TheVariants.{Submit, Unlink}
use Rattle.host_urbs.specs.Entries as entries
use Rattle.host_urbs.specs.Held as held
use Rattle.host_urbs.specs.Record as urbs
use Rattle.host_urbs.specs.Unanswered.{AreInARow, seqnum_of}
use Rattle.host_urbs.specs.Law as urbs_law
use Rattle.host_hub.specs.declared.hub_core.HubCore.{HubCore}
use Rattle.host_hub.specs.Order.{Setting, is_unlink, message_of}
use Rattle.host_hub.specs.Record.{Past, next, written}
use Rattle.host_hub.specs.Crossings.{crossings}
use Rattle.host_hub.specs.Outstanding.{Sent, awaited_by, outstanding}
use Rattle.host_hub.specs.Law.{Lawful}
use Rattle.host_hub.specs.Knows.{Knows}
use Rattle.host_hub.specs.Queued.{Queued, last_unsent}
use Rattle.host_hub.specs.Tied.{AreSent, below, bytes_of, entries_sent, spelled}
use Rattle.host_hub.proofs.Begins.{none_entries}
use Rattle.host_hub.proofs.Entries.{as_unlink}
use Rattle.host_hub.proofs.Lists.{clash}
use Rattle.host_hub.proofs.Heard.{one_entry}
use Rattle.host_hub.proofs.Messages.{next_same, written_same}
use Rattle.host_hub.proofs.Undisturbing.{spelled_join}
use Rattle.host_hub.proofs.Numbers.{Below, entry_number, outstanding_falls, same_outstanding}

-- ---- what was sent whole of what is outstanding

all_spelled : (ms : List up.Message) → held.all_bytes ms ≡ spelled ms
all_spelled [] = refl
all_spelled ((up.Submit head transferred) ∷ ms) = ap (λ (l : List ℕ). bytes_of (up.Submit head transferred) ++ l) (all_spelled ms)
all_spelled ((up.Unlink head) ∷ ms) = ap (λ (l : List ℕ). bytes_of (up.Unlink head) ++ l) (all_spelled ms)

pub stands_so : (s : Setting) (past : Past) (sent : List ℕ) (core : HubCore) → Knows s past sent core → sent ++ core.urbs.outbox ≡ spelled (written s past)
stands_so s past sent core k = k.follows.stands ∙ (all_spelled (urbs.written (crossings s past)) ∙ ap spelled (sym (written_same s past)))

-- where the outbox is empty all of them were
pub all_sent : (s : Setting) (past : Past) (sent : List ℕ) (count : ℕ) → AreSent s past sent count → length sent ≡ length (spelled (written s past)) → count ≡ length (written s past)
all_sent s past sent count a e = by (drop count (written s past)) refl
  where
    by : (left : List up.Message) → drop count (written s past) ≡ left → count ≡ length (written s past)
    by [] f = omega (arith, a.among, length-drop count (written s past), ap length f)
    by (m ∷ more) f =
        let whole : length (spelled (written s past)) ≡ length (spelled (take count (written s past))) + (length (bytes_of m) + length (spelled more)) =
        ap (λ (ms : List up.Message). length (spelled ms)) (sym (take-append-drop count (written s past)))
        ∙ (ap length (spelled_join (take count (written s past)) (drop count (written s past)))
        ∙ (length-append (spelled (take count (written s past))) (spelled (drop count (written s past)))
        ∙ ap (λ (n : ℕ). length (spelled (take count (written s past))) + n) (ap (λ (ms : List up.Message). length (spelled ms)) f ∙ length-append (bytes_of m) (spelled more)))) in
        absurd (omega (arith, e, whole, a.next m more f, ap length a.sent_so_far, length-append (spelled (take count (written s past))) a.part))

-- and where it is not, one that is not sent whole is none of those that were
fewer : (f n c : ℕ) (ms : List up.Message) → AreInARow f ms → n < f + c → length (held.all_bytes (held.up_to n ms)) ≤ length (held.all_bytes (take c ms))
fewer f n c [] row h = omega arith
fewer f n zero (m ∷ ms) row h =
    step (leb (seqnum_of m) n) refl (fewer (f + 1) n zero ms row.1 (omega (arith, h)))
  where
    step : (b : Bool) → leb (seqnum_of m) n ≡ b → length (held.all_bytes (held.up_to n ms)) ≤ length (held.all_bytes (take 0 ms))
        → length (held.all_bytes (if b then m ∷ held.up_to n ms else held.up_to n ms)) ≤ 0
    step true e again = absurd (omega (arith, leb-true (seqnum_of m) n e, row.0, h))
    step false e again = none ms again
      where
        none : (ns : List up.Message) → length (held.all_bytes (held.up_to n ms)) ≤ length (held.all_bytes (take 0 ns)) → length (held.all_bytes (held.up_to n ms)) ≤ 0
        none [] k = k
        none (x ∷ xs) k = k
fewer f n (suc c) (m ∷ ms) row h = step (leb (seqnum_of m) n) (fewer (f + 1) n c ms row.1 (omega (arith, h)))
  where
    step : (b : Bool) → length (held.all_bytes (held.up_to n ms)) ≤ length (held.all_bytes (take c ms))
        → length (held.all_bytes (if b then m ∷ held.up_to n ms else held.up_to n ms)) ≤ length (held.bytes_of m ++ held.all_bytes (take c ms))
    step true again = omega (arith, again, length-append (held.bytes_of m) (held.all_bytes (held.up_to n ms)), length-append (held.bytes_of m) (held.all_bytes (take c ms)))
    step false again = omega (arith, again, length-append (held.bytes_of m) (held.all_bytes (take c ms)))

kept_number : (e : Entry) → entries.number_of e.message ≡ number_of (entries.awaited_of e.message)
kept_number e = by e.message
  where
    by : (m : Unanswered) → entries.number_of m ≡ number_of (entries.awaited_of m)
    by (Submit seqnum dir size) = refl
    by (Unlink seqnum target) = refl

one_same : (x y : Awaited) → x ∷ [] ≡ y ∷ [] → x ≡ y
one_same x y e = cc

-- nothing is out, or one message
pub data AtMost (past : Past) : Type 0 where
  Nothing : outstanding past ≡ [] → AtMost past
  Single : (x : Sent) → is_unlink x.order ≡ false → outstanding past ≡ x ∷ [] → AtMost past

pub entries_here : ((first : ℕ) (past : urbs.Past) → urbs_law.Lawful first past → AreInARow first (urbs.written past)) → (s : Setting) (past : Past) (sent : List ℕ) (core : HubCore) (count : ℕ)
    → Lawful s past → Knows s past sent core → Queued core.urbs → AreSent s past sent count → AtMost past → entries_of (entries.sent core.urbs.entries) ≡ entries_sent s past count
entries_here rows s past sent core count lawful k queue a (Nothing e) =
    ap (λ (es : List Entry). entries_of (entries.sent es)) (none_entries s past sent core lawful k e)
    ∙ ap (λ (xs : List Awaited). entries_of (below (s.first + count) xs)) (sym (ap (awaited_by s) e) ∙ same_outstanding s past lawful)
entries_here rows s past sent core count lawful k queue a (Single x plain e) =
    ap (λ (es : List Entry). entries_of (entries.sent es)) one.1
    ∙ (by (one.0.unsent == 0) refl (nat_lt (number_of b) (s.first + count)) refl
    ∙ ap (λ (xs : List Awaited). entries_of (below (s.first + count) xs)) (sym (ap (awaited_by s) e) ∙ same_outstanding s past lawful))
  where
    one : (y : Entry) × (core.urbs.entries ≡ y ∷ [])
    one = one_entry core.urbs.entries _ (k.follows.awaits ∙ (sym (same_outstanding s past lawful) ∙ ap (awaited_by s) e))

    b : Awaited
    b = sent_by (message_of s x.number x.order)

    same : entries.awaited_of one.0.message ≡ b
    same = one_same (entries.awaited_of one.0.message) b (sym (ap entries.awaited one.1) ∙ (k.follows.awaits ∙ (sym (same_outstanding s past lawful) ∙ ap (awaited_by s) e)))

    number : number_of b ≡ x.number
    number = entry_number s x.number x.order

    out : one.0.unsent ≡ length core.urbs.outbox
    out = sym (ap last_unsent one.1) ∙ queue

    stands : length sent + length core.urbs.outbox ≡ length (spelled (written s past))
    stands = sym (length-append sent core.urbs.outbox) ∙ ap length (stands_so s past sent core k)

    less : x.number < next s.first past
    less = (subst (λ (xs : List Sent). Below (next s.first past) xs) e (outstanding_falls s past lawful)).0

    so_many : next s.first past ≡ s.first + length (written s past)
    so_many = next_same s past ∙ ap (λ (l : List up.Message). s.first + length l) (sym (written_same s past))

    unsent_is : one.0.unsent ≡ length (held.all_bytes (held.up_to (entries.number_of one.0.message) (urbs.written (crossings s past)))) - length sent
    unsent_is = (subst (λ (es : List Entry). held.AreUnsent (urbs.written (crossings s past)) (length sent) es) one.1 k.follows.unsent).0

    by : (c : Bool) → (one.0.unsent == 0) ≡ c → (d : Bool) → nat_lt (number_of b) (s.first + count) ≡ d
        → entries_of (if one.0.unsent == 0 then entries.awaited_of one.0.message ∷ [] else []) ≡ entries_of (if nat_lt (number_of b) (s.first + count) then b ∷ [] else [])
    by true f true g = rw f (rw g (ap (λ (z : Awaited). entry_of z ∷ []) same))
    by true f false g =
        let gone : one.0.unsent ≡ 0 = eqb-true one.0.unsent 0 f in
        let all : count ≡ length (written s past) = all_sent s past sent count a (omega (arith, stands, out, gone)) in
        absurd (omega (arith, ltb-false (number_of b) (s.first + count) g, number, less, so_many, all))
    by false f true g =
        absurd (eqb-false one.0.unsent 0 f
        (let low : entries.number_of one.0.message < s.first + count = omega (arith, kept_number one.0, ap number_of same, ltb-true (number_of b) (s.first + count) g) in
        let few : length (held.all_bytes (held.up_to (entries.number_of one.0.message) (urbs.written (crossings s past)))) ≤ length (held.all_bytes (take count (urbs.written (crossings s past)))) =
        fewer s.first (entries.number_of one.0.message) count (urbs.written (crossings s past)) (rows s.first (crossings s past) k.follows.lawful) low in
        let sent_so : length sent ≡ length (held.all_bytes (take count (urbs.written (crossings s past)))) + length a.part =
        ap length a.sent_so_far ∙ (length-append (spelled (take count (written s past))) a.part
        ∙ ap (λ (n : ℕ). n + length a.part) (ap length (sym (all_spelled (take count (written s past)))) ∙ ap (λ (ms : List up.Message). length (held.all_bytes (take count ms))) (written_same s past))) in
        omega (arith, unsent_is, few, sent_so)))
    by false f false g = rw f (rw g refl)

-- none of them is an unlink
no_unlink : (s : Setting) (k : ℕ) (x : Sent) (n : ℕ) → is_unlink x.order ≡ false → dirs.is_unlink (dirs.find k (entries_of (below n (sent_by (message_of s x.number x.order) ∷ [])))) ≡ false
no_unlink s k x n plain = step (nat_lt (number_of (sent_by (message_of s x.number x.order))) n)
  where
    b : Awaited
    b = sent_by (message_of s x.number x.order)

    step : (c : Bool) → dirs.is_unlink (dirs.find k (entries_of (if c then b ∷ [] else []))) ≡ false
    step true = found (dirs.number_of (entry_of b) == k) where
      found : (d : Bool) → dirs.is_unlink (if d then Some (entry_of b) else None) ≡ false
      found true = as_unlink s x.number x.order ∙ plain
      found false = refl
    step false = refl

pub none_unlinks : (s : Setting) (past : Past) (k count : ℕ) → Lawful s past → AtMost past → dirs.is_unlink (dirs.find k (entries_sent s past count)) ≡ false
none_unlinks s past k count lawful (Nothing e) =
    ap (λ (xs : List Awaited). dirs.is_unlink (dirs.find k (entries_of (below (s.first + count) xs)))) (sym (same_outstanding s past lawful) ∙ ap (awaited_by s) e)
none_unlinks s past k count lawful (Single x plain e) =
    ap (λ (xs : List Awaited). dirs.is_unlink (dirs.find k (entries_of (below (s.first + count) xs)))) (sym (same_outstanding s past lawful) ∙ ap (awaited_by s) e)
    ∙ no_unlink s k x (s.first + count) plain

entry_number_same : (a : Awaited) → dirs.number_of (entry_of a) ≡ number_of a
entry_number_same (wire.Submit m dir size) = refl
entry_number_same (wire.Unlink m target) = refl

-- what is found of them has a number below
pub low_found : (n k : ℕ) (xs : List Awaited) → is_some (dirs.submit_of (dirs.find k (entries_of (below n xs)))) ≡ true → k < n
low_found n k [] h = clash h
low_found n k (x ∷ xs) h = step (low_found n k xs) (nat_lt (number_of x) n) refl h
  where
    found : (is_some (dirs.submit_of (dirs.find k (entries_of (below n xs)))) ≡ true → k < n) → number_of x < n → (d : Bool) → (dirs.number_of (entry_of x) == k) ≡ d
        → is_some (dirs.submit_of (if d then Some (entry_of x) else dirs.find k (entries_of (below n xs)))) ≡ true → k < n
    found again f true p q = omega (arith, f, eqb-true (dirs.number_of (entry_of x)) k p, entry_number_same x)
    found again f false p q = again q

    step : (is_some (dirs.submit_of (dirs.find k (entries_of (below n xs)))) ≡ true → k < n) → (c : Bool) → nat_lt (number_of x) n ≡ c
        → is_some (dirs.submit_of (dirs.find k (entries_of (if c then x ∷ below n xs else below n xs)))) ≡ true → k < n
    step again true f g = found again (ltb-true (number_of x) n f) (dirs.number_of (entry_of x) == k) refl g
    step again false f g = again g
