-- what each call does to what is held, and to the record behind it
use Rattle.std.proofs.Common.{◌≡◌, ℕ, ◌+◌, ◌-◌, ◌<◌, ◌≤◌, ◌^◌, Bool, true, false, List, [], ◌∷◌, ◌++◌, length, take, drop, Option, Some, None, refl, sym, subst, ◌∙◌, ap, arith, append_assoc, length-append}
use Rattle.std.specs.Prelude.{◌==◌, if◌then◌else◌, is_some, leb}
use Rattle.std.proofs.lemmas.Bool.{eqb-true, leb-true, le-leb}
use Rattle.std.proofs.lemmas.List.{append-nil, length-take-le, take-append-drop}
use Rattle.usbip_wire.specs.declared.dirs.Outstanding.{Outstanding}
use Rattle.usbip_wire.specs.declared.ret_submit.RetSubmitHead.{RetSubmitHead}
use Rattle.usbip_wire.specs.declared.ret_unlink.RetUnlinkHead.{RetUnlinkHead}
use Rattle.usbip_wire.specs.Awaited as wire
use Rattle.usbip_wire.specs.Awaited.{Awaited, entry_of, entries_of, sent_by, without, from, left_by}
use Rattle.usbip_wire.specs.Dirs as dirs
use Rattle.usbip_wire.specs.Dirs.{find, submit_of, is_unlink, IsShort, AreShort}
use Rattle.usbip_wire.specs.Down as down
use Rattle.usbip_wire.specs.Down.{SpellsAnswer}
use Rattle.usbip_wire.specs.Up as up
use Rattle.usbip_wire.specs.Up.{Spells, SpellsAll}
use Rattle.host_urbs.specs.declared.entry.Entry.{Entry}
use Rattle.host_urbs.specs.declared.entry.Unanswered.{Unanswered}
use Rattle.host_urbs.specs.declared.entry.Unanswered.TheVariants.{Submit, Unlink}
use Rattle.host_urbs.specs.Record.{Past, Wrote, Took, written, taken, next, outstanding}
use Rattle.host_urbs.specs.Law.{is_named, MayTake, MayWrite}
use Rattle.host_urbs.specs.Unanswered.{seqnum_of, AreInARow, AreRising, unanswered}
use Rattle.host_urbs.specs.Entries.{awaited_of, number_of, unanswered_of, awaited, sent, moved, others, others_of, target_of, named_by, unlinked}
use Rattle.host_urbs.specs.Held.{Held, bytes_of, all_bytes, wrote, up_to, AreUnsent, Follows}
use Rattle.host_urbs.specs.Kept.{IsReached}
use Rattle.host_urbs.proofs.Basics.{clash, differ}
use Rattle.host_urbs.proofs.Lists.{found, skipped, unlink_there, UnlinkThere}
use Rattle.host_urbs.proofs.Known.{known, next_more}
use Rattle.host_urbs.proofs.Numbers.{numbered, one_less}
use Rattle.host_urbs.proofs.Once.{rise, rising_up}
use Rattle.host_urbs.proofs.Sending.{number_is}

-- ---- messages

all_more : (ms : List up.Message) (m : up.Message) → all_bytes (ms ++ m ∷ []) ≡ all_bytes ms ++ bytes_of m
all_more [] m = append-nil (bytes_of m)
all_more (x ∷ ms) m = ap (λ (l : List ℕ). bytes_of x ++ l) (all_more ms m) ∙ sym (append_assoc (bytes_of x) (all_bytes ms) (bytes_of m))

spells_more : (devid : ℕ) (ms : List up.Message) (m : up.Message) (bytes more : List ℕ) → SpellsAll devid ms bytes → Spells devid m more → SpellsAll devid (ms ++ m ∷ []) (bytes ++ more)
spells_more devid [] m bytes more s t = (more, [], rw s (sym (append-nil more)), t, refl)
spells_more devid (x ∷ ms) m bytes more s t =
    (s.0, s.1 ++ more, ap (λ (l : List ℕ). l ++ more) s.2 ∙ append_assoc s.0 s.1 more, s.3, spells_more devid ms m s.1 more s.4 t)

-- ---- the numbers of entries

leb_no : (a b : ℕ) → b < a → leb a b ≡ false
leb_no a b h = step (leb a b) refl
  where
    step : (c : Bool) → leb a b ≡ c → leb a b ≡ false
    step true e = absurd (omega (arith, h, leb-true a b e))
    step false e = e

up_to_same : (n : ℕ) (ms : List up.Message) (m : up.Message) → n < seqnum_of m → up_to n (ms ++ m ∷ []) ≡ up_to n ms
up_to_same n [] m h = rw (leb_no (seqnum_of m) n h) refl
up_to_same n (x ∷ ms) m h = rw (up_to_same n ms m h) refl

up_to_all : (a n : ℕ) (ms : List up.Message) → AreInARow a ms → a + length ms ≤ n + 1 → up_to n ms ≡ ms
up_to_all a n [] row h = refl
up_to_all a n (x ∷ ms) row h = rw (le-leb (seqnum_of x) n (omega (arith, row.0, h))) (ap (λ (l : List up.Message). x ∷ l) (up_to_all (a + 1) n ms row.1 (omega (arith, h))))

unsent_more : (a : ℕ) (ms : List up.Message) (m : up.Message) (count : ℕ) (es : List Entry) → AreRising a (seqnum_of m) (awaited es) → AreUnsent ms count es → AreUnsent (ms ++ m ∷ []) count es
unsent_more a ms m count [] r u = tt
unsent_more a ms m count (e ∷ es) r u =
    (rw (up_to_same (number_of e.message) ms m (omega (arith, number_is e.message, r.1))) u.0, unsent_more (wire.number_of (awaited_of e.message) + 1) ms m count es r.2 u.1)

unsent_last : (ms : List up.Message) (count : ℕ) (es : List Entry) (e : Entry) → AreUnsent ms count es → e.unsent ≡ length (all_bytes (up_to (number_of e.message) ms)) - count → AreUnsent ms count (es ++ e ∷ [])
unsent_last ms count [] e u last = (last, tt)
unsent_last ms count (x ∷ es) e u last = (u.0, unsent_last ms count es e u.1 last)

awaited_more : (es : List Entry) (e : Entry) → awaited (es ++ e ∷ []) ≡ awaited es ++ awaited_of e.message ∷ []
awaited_more [] e = refl
awaited_more (x ∷ es) e = ap (λ (l : List Awaited). awaited_of x.message ∷ l) (awaited_more es e)

pub awaited_of_message : (m : up.Message) → awaited_of (unanswered_of m) ≡ sent_by m
awaited_of_message (up.Submit head x) = refl
awaited_of_message (up.Unlink head) = refl

number_of_message : (m : up.Message) → number_of (unanswered_of m) ≡ seqnum_of m
number_of_message (up.Submit head x) = refl
number_of_message (up.Unlink head) = refl

-- the entries' numbers rise, and are below the next one
pub rising : (first : ℕ) (past : Past) (bytes : List ℕ) (held : Held) → Follows first past bytes held → AreRising 0 held.next (awaited held.entries)
rising first past bytes held f =
    subst (λ (l : List Awaited). AreRising 0 held.next l) (sym f.awaits)
    (subst (λ (n : ℕ). AreRising 0 n (outstanding past)) (sym f.number) (rising_up first 0 (next first past) (outstanding past) (omega arith) (rise first past f.lawful)))

-- ---- a message is written

abbrev pub new_entry : up.Message → Held → Entry
new_entry m held = record { message = unanswered_of m; unsent = length (held.outbox ++ bytes_of m) }

module _ (first : ℕ) (past : Past) (front : List ℕ) (held : Held) (m : up.Message) (f : Follows first past front held) (n : seqnum_of m ≡ held.next) where
  whole : front ++ (held.outbox ++ bytes_of m) ≡ all_bytes (written past ++ m ∷ [])
  whole = sym (append_assoc front held.outbox (bytes_of m)) ∙ (ap (λ (l : List ℕ). l ++ bytes_of m) f.stands ∙ sym (all_more (written past) m))

  all_there : AreInARow first (written past ++ m ∷ []) → up_to (number_of (unanswered_of m)) (written past ++ m ∷ []) ≡ written past ++ m ∷ []
  all_there row =
      up_to_all first (number_of (unanswered_of m)) (written past ++ m ∷ []) row
      (omega (arith, number_of_message m, n, f.number, length-append (written past) (m ∷ [])))

  last_unsent : AreInARow first (written past ++ m ∷ []) → length (held.outbox ++ bytes_of m) ≡ length (all_bytes (up_to (number_of (unanswered_of m)) (written past ++ m ∷ []))) - length front
  last_unsent row =
      rw (all_there row) (omega (arith, ap (λ (l : List ℕ). length l) whole, length-append front (held.outbox ++ bytes_of m)))

pub follows_wrote : (first : ℕ) (past : Past) (front : List ℕ) (held : Held) (m : up.Message) → Follows first past front held → MayWrite first past m → seqnum_of m ≡ held.next
    → Spells held.devid m (bytes_of m) → Follows first (Wrote m ∷ past) front (wrote m held)
follows_wrote first past front held m f may n s = record {
  lawful = (f.lawful, may);
  number = ap (λ (k : ℕ). k + 1) f.number ∙ sym (next_more first m past);
  awaits = awaited_more held.entries (new_entry m held) ∙ (ap (λ (a : Awaited). awaited held.entries ++ a ∷ []) (awaited_of_message m) ∙ ap (λ (l : List Awaited). l ++ sent_by m ∷ []) f.awaits);
  unsent = unsent_last (written past ++ m ∷ []) (length front) held.entries (new_entry m held)
      (unsent_more 0 (written past) m (length front) held.entries (subst (λ (k : ℕ). AreRising 0 k (awaited held.entries)) (sym n) (rising first past front held f)) f.unsent)
      (last_unsent first past front held m f n (known first (Wrote m ∷ past) (f.lawful, may)).row);
  stands = whole first past front held m f n;
  spelled = subst (λ (l : List ℕ). SpellsAll held.devid (written past ++ m ∷ []) l) (append_assoc front held.outbox (bytes_of m))
      (spells_more held.devid (written past) m (front ++ held.outbox) (bytes_of m) f.spelled s);
}

-- ---- bytes are sent

awaited_moved : (n : ℕ) (es : List Entry) → awaited (moved n es) ≡ awaited es
awaited_moved n [] = refl
awaited_moved n (e ∷ es) = ap (λ (l : List Awaited). awaited_of e.message ∷ l) (awaited_moved n es)

unsent_moved : (ms : List up.Message) (n count : ℕ) (es : List Entry) → AreUnsent ms count es → AreUnsent ms (count + n) (moved n es)
unsent_moved ms n count [] u = tt
unsent_moved ms n count (e ∷ es) u = (omega (arith, u.0), unsent_moved ms n count es u.1)

pub follows_sent : (first : ℕ) (past : Past) (front : List ℕ) (held : Held) (n : ℕ) → n ≤ length held.outbox → Follows first past front held
    → Follows first past (front ++ take n held.outbox) (record held { entries = moved n held.entries; outbox = drop n held.outbox })
follows_sent first past front held n h f =
    let same : (front ++ take n held.outbox) ++ drop n held.outbox ≡ front ++ held.outbox =
    append_assoc front (take n held.outbox) (drop n held.outbox) ∙ ap (λ (l : List ℕ). front ++ l) (take-append-drop n held.outbox) in
    let count : length (front ++ take n held.outbox) ≡ length front + n = omega (arith, length-append front (take n held.outbox), length-take-le n held.outbox h) in
    record {
      lawful = f.lawful;
      number = f.number;
      awaits = awaited_moved n held.entries ∙ f.awaits;
      unsent = subst (λ (k : ℕ). AreUnsent (written past) k (moved n held.entries)) (sym count) (unsent_moved (written past) n (length front) held.entries f.unsent);
      stands = same ∙ f.stands;
      spelled = subst (λ (l : List ℕ). SpellsAll held.devid (written past) l) (sym same) f.spelled;
    }

-- ---- answers

pub awaited_others : (n : ℕ) (es : List Entry) → awaited (others n es) ≡ without n (awaited es)
awaited_others n [] = refl
awaited_others n (e ∷ es) = rw (number_is e.message) (step (number_of e.message == n) (awaited_others n es))
  where
    step : (b : Bool) → awaited (others n es) ≡ without n (awaited es)
        → awaited (if b then others n es else e ∷ others n es) ≡ (if b then without n (awaited es) else awaited_of e.message ∷ without n (awaited es))
    step true g = g
    step false g = ap (λ (l : List Awaited). awaited_of e.message ∷ l) g

unsent_others : (ms : List up.Message) (n count : ℕ) (es : List Entry) → AreUnsent ms count es → AreUnsent ms count (others n es)
unsent_others ms n count [] u = tt
unsent_others ms n count (e ∷ es) u = step (number_of e.message == n) (unsent_others ms n count es u.1)
  where
    step : (b : Bool) → AreUnsent ms count (others n es) → AreUnsent ms count (if b then others n es else e ∷ others n es)
    step true g = g
    step false g = (u.0, g)

-- what is found among those sent is what is found among all
find_above : (n a below : ℕ) (es : List Entry) → n < a → AreRising a below (awaited es) → find n (entries_of (sent es)) ≡ None
find_above n a below [] h r = refl
find_above n a below (e ∷ es) h r = step (e.unsent == 0) (find_above n (wire.number_of (awaited_of e.message) + 1) below es (omega (arith, h, r.0)) r.2)
  where
    other : (m : Unanswered) → n < wire.number_of (awaited_of m) → (dirs.number_of (entry_of (awaited_of m)) == n) ≡ false
    other (Submit seqnum dir size) g = differ seqnum n (λ i. omega (arith, i, g))
    other (Unlink seqnum target) g = differ seqnum n (λ i. omega (arith, i, g))

    step : (b : Bool) → find n (entries_of (sent es)) ≡ None → find n (entries_of (if b then awaited_of e.message ∷ sent es else sent es)) ≡ None
    step true g = skipped n (entry_of (awaited_of e.message)) (entries_of (sent es)) (other e.message (omega (arith, h, r.0))) ∙ g
    step false g = g

pub find_sent : (n a below : ℕ) (es : List Entry) → AreRising a below (awaited es) → is_some (find n (entries_of (sent es))) ≡ true
    → find n (entries_of (awaited es)) ≡ find n (entries_of (sent es))
find_sent n a below [] r h = refl
find_sent n a below (e ∷ es) r h =
    step (e.unsent == 0) (dirs.number_of (entry_of (awaited_of e.message)) == n) refl (find_sent n (wire.number_of (awaited_of e.message) + 1) below es r.2) h
  where
    at : (m : Unanswered) → (dirs.number_of (entry_of (awaited_of m)) == n) ≡ true → wire.number_of (awaited_of m) ≡ n
    at (Submit seqnum dir size) g = eqb-true seqnum n g
    at (Unlink seqnum target) g = eqb-true seqnum n g

    none : {P : Type 0} → find n (entries_of (sent es)) ≡ None → is_some (find n (entries_of (sent es))) ≡ true → P
    none {P} g i = clash (sym (ap (λ (o : Option Outstanding). is_some o) g) ∙ i)

    step : (a b : Bool) → (dirs.number_of (entry_of (awaited_of e.message)) == n) ≡ b
        → (is_some (find n (entries_of (sent es))) ≡ true → find n (entries_of (awaited es)) ≡ find n (entries_of (sent es)))
        → is_some (find n (entries_of (if a then awaited_of e.message ∷ sent es else sent es))) ≡ true
        → find n (entries_of (awaited_of e.message ∷ awaited es)) ≡ find n (entries_of (if a then awaited_of e.message ∷ sent es else sent es))
    step true true g again i = found n (entry_of (awaited_of e.message)) (entries_of (awaited es)) g ∙ sym (found n (entry_of (awaited_of e.message)) (entries_of (sent es)) g)
    step true false g again i =
        let rest = subst (λ (o : Option Outstanding). is_some o ≡ true) (skipped n (entry_of (awaited_of e.message)) (entries_of (sent es)) g) i in
        skipped n (entry_of (awaited_of e.message)) (entries_of (awaited es)) g
        ∙ (again rest ∙ sym (skipped n (entry_of (awaited_of e.message)) (entries_of (sent es)) g))
    step false true g again i = none (find_above n (wire.number_of (awaited_of e.message) + 1) below es (omega (arith, at e.message g)) r.2) i
    step false false g again i =
        skipped n (entry_of (awaited_of e.message)) (entries_of (awaited es)) g ∙ again i

some_of : (o : Option Outstanding) → is_some (submit_of o) ≡ true → is_some o ≡ true
some_of None h = h
some_of (Some x) h = refl

some_of_unlink : (o : Option Outstanding) → is_unlink o ≡ true → is_some o ≡ true
some_of_unlink None h = h
some_of_unlink (Some x) h = refl

-- the entry of an answer, among all that is outstanding
pub submit_found : (first : ℕ) (past : Past) (front : List ℕ) (held : Held) (n : ℕ) → Follows first past front held → is_some (submit_of (find n (entries_of (sent held.entries)))) ≡ true
    → find n (entries_of (outstanding past)) ≡ find n (entries_of (sent held.entries))
submit_found first past front held n f h =
    subst (λ (l : List Awaited). find n (entries_of l) ≡ find n (entries_of (sent held.entries))) f.awaits
    (find_sent n 0 held.next held.entries (rising first past front held f) (some_of (find n (entries_of (sent held.entries))) h))

pub unlink_found : (first : ℕ) (past : Past) (front : List ℕ) (held : Held) (n : ℕ) → Follows first past front held → is_unlink (find n (entries_of (sent held.entries))) ≡ true
    → is_unlink (find n (entries_of (outstanding past))) ≡ true
unlink_found first past front held n f h =
    let same = find_sent n 0 held.next held.entries (rising first past front held f) (some_of_unlink (find n (entries_of (sent held.entries))) h) in
    subst (λ (l : List Awaited). is_unlink (find n (entries_of l)) ≡ true) f.awaits (ap is_unlink same ∙ h)

pub follows_answer : (first : ℕ) (past : Past) (front : List ℕ) (held : Held) (head : RetSubmitHead) (x : List ℕ) → Follows first past front held → MayTake past (down.RetSubmit head x)
    → Follows first (Took (down.RetSubmit head x) ∷ past) front (record held { entries = others head.seqnum held.entries })
follows_answer first past front held head x f may = record {
  lawful = (f.lawful, may);
  number = f.number;
  awaits = awaited_others head.seqnum held.entries ∙ ap (λ (l : List Awaited). without head.seqnum l) f.awaits;
  unsent = unsent_others (written past) head.seqnum (length front) held.entries f.unsent;
  stands = f.stands;
  spelled = f.spelled;
}

pub may_answer : (first : ℕ) (past : Past) (front : List ℕ) (held : Held) (head : RetSubmitHead) (x bytes : List ℕ) → Follows first past front held
    → SpellsAnswer (entries_of (sent held.entries)) (down.RetSubmit head x) bytes → MayTake past (down.RetSubmit head x)
may_answer first past front held head x bytes f s =
    let some : is_some (submit_of (find head.seqnum (entries_of (sent held.entries)))) ≡ true = rw s.1 refl in
    (s.0, ap submit_of (submit_found first past front held head.seqnum f some) ∙ s.1, s.2.within, s.2.returned)

target_is : (n t : ℕ) (es : List Entry) (later : List Awaited) → from n (awaited es) ≡ wire.Unlink n (Some t) ∷ later → target_of n es ≡ Some t
target_is n t [] later e = absurd (no e)
  where
    no : [] ≡ wire.Unlink n (Some t) ∷ later → ⊥
    no f = cc
target_is n t (e ∷ es) later h = step (number_of e.message == n) (target_is n t es later) (subst (λ (k : ℕ). (if k == n then awaited_of e.message ∷ awaited es else from n (awaited es)) ≡ wire.Unlink n (Some t) ∷ later) (number_is e.message) h)
  where
    named : (m : Unanswered) → awaited_of m ∷ awaited es ≡ wire.Unlink n (Some t) ∷ later → named_by m ≡ Some t
    named (Submit seqnum dir size) g = absurd (no g)
      where
        no : wire.Submit seqnum dir size ∷ awaited es ≡ wire.Unlink n (Some t) ∷ later → ⊥
        no i = cc
    named (Unlink seqnum target) g = cc

    step : (b : Bool) → (from n (awaited es) ≡ wire.Unlink n (Some t) ∷ later → target_of n es ≡ Some t)
        → (if b then awaited_of e.message ∷ awaited es else from n (awaited es)) ≡ wire.Unlink n (Some t) ∷ later → (if b then named_by e.message else target_of n es) ≡ Some t
    step true again g = named e.message g
    step false again g = again g

pub left_of_unlinked : (first : ℕ) (past : Past) (front : List ℕ) (held : Held) (head : RetUnlinkHead) → Follows first past front held → is_unlink (find head.seqnum (entries_of (sent held.entries))) ≡ true
    → awaited (unlinked head.seqnum held.entries) ≡ left_by (awaited held.entries) (down.RetUnlink head)
left_of_unlinked first past front held head f h =
    let k = known first past f.lawful in
    let due : awaited held.entries ≡ unanswered (written past) (taken past) (written past) = f.awaits ∙ k.due in
    let u : UnlinkThere head.seqnum first (written past) (taken past) (written past) =
    unlink_there head.seqnum first (next first past) (written past) (taken past) (written past) k.row k.targets
    (subst (λ (l : List Awaited). is_unlink (find head.seqnum (entries_of l)) ≡ true) k.due (unlink_found first past front held head.seqnum f h)) in
    let target : target_of head.seqnum held.entries ≡ Some u.target =
    target_is head.seqnum u.target held.entries u.later (subst (λ (l : List Awaited). from head.seqnum l ≡ wire.Unlink head.seqnum (Some u.target) ∷ u.later) (sym due) u.at) in
    rw target
    (awaited_others u.target (others head.seqnum held.entries)
    ∙ (ap (λ (l : List Awaited). without u.target l) (awaited_others head.seqnum held.entries)
    ∙ sym (subst (λ (l : List Awaited). left_by l (down.RetUnlink head) ≡ without u.target (without head.seqnum l)) (sym due) u.left)))

unsent_unlinked : (ms : List up.Message) (n count : ℕ) (es : List Entry) → AreUnsent ms count es → AreUnsent ms count (unlinked n es)
unsent_unlinked ms n count es u = step (target_of n es) (unsent_others ms n count es u)
  where
    step : (o : Option ℕ) → AreUnsent ms count (others n es) → AreUnsent ms count (others_of o (others n es))
    step None v = v
    step (Some t) v = unsent_others ms t count (others n es) v

pub follows_unlinked : (first : ℕ) (past : Past) (front : List ℕ) (held : Held) (head : RetUnlinkHead) → Follows first past front held → is_unlink (find head.seqnum (entries_of (sent held.entries))) ≡ true
    → Follows first (Took (down.RetUnlink head) ∷ past) front (record held { entries = unlinked head.seqnum held.entries })
follows_unlinked first past front held head f h = record {
  lawful = (f.lawful, unlink_found first past front held head.seqnum f h);
  number = f.number;
  awaits = left_of_unlinked first past front held head f h ∙ ap (λ (l : List Awaited). left_by l (down.RetUnlink head)) f.awaits;
  unsent = unsent_unlinked (written past) head.seqnum (length front) held.entries f.unsent;
  stands = f.stands;
  spelled = f.spelled;
}

-- ---- what a reached state has

pub rises : (held : Held) → IsReached held → AreRising 0 held.next (awaited held.entries)
rises held r = rising r.first r.past r.bytes held r.follows

-- an unlink that is due has a number
pub has_number : (held : Held) (t : ℕ) → IsReached held → is_some (submit_of (find t (entries_of (awaited held.entries)))) ≡ true → is_named t (awaited held.entries) ≡ false → held.next + 1 < 2 ^ 32
has_number held t r there once =
    let f = r.follows in
    let low = numbered r.first r.past r.low f.lawful in
    let less = one_less (outstanding r.past) 0 t (subst (λ (l : List Awaited). is_some (submit_of (find t (entries_of l))) ≡ true) f.awaits there)
    (subst (λ (l : List Awaited). is_named t l ≡ false) f.awaits once) in
    omega (arith, low, less, f.number)

-- ---- no submit is longer than a reader accepts

pub short_more : (es : List Entry) (e : Entry) → AreShort (entries_of (awaited es)) → IsShort (entry_of (awaited_of e.message)) → AreShort (entries_of (awaited (es ++ e ∷ [])))
short_more [] e s h = (h, tt)
short_more (x ∷ es) e s h = (s.0, short_more es e s.1 h)

pub short_others : (n : ℕ) (es : List Entry) → AreShort (entries_of (awaited es)) → AreShort (entries_of (awaited (others n es)))
short_others n [] s = tt
short_others n (e ∷ es) s = step (number_of e.message == n) (short_others n es s.1)
  where
    step : (b : Bool) → AreShort (entries_of (awaited (others n es))) → AreShort (entries_of (awaited (if b then others n es else e ∷ others n es)))
    step true g = g
    step false g = (s.0, g)

pub short_unlinked : (n : ℕ) (es : List Entry) → AreShort (entries_of (awaited es)) → AreShort (entries_of (awaited (unlinked n es)))
short_unlinked n es s = step (target_of n es) (short_others n es s)
  where
    step : (o : Option ℕ) → AreShort (entries_of (awaited (others n es))) → AreShort (entries_of (awaited (others_of o (others n es))))
    step None v = v
    step (Some t) v = short_others t (others n es) v

pub short_moved : (n : ℕ) (es : List Entry) → AreShort (entries_of (awaited es)) → AreShort (entries_of (awaited (moved n es)))
short_moved n es s = subst (λ (l : List Awaited). AreShort (entries_of l)) (sym (awaited_moved n es)) s

-- a message that was not sent yet is not among those sent
pub sent_same : (es : List Entry) (e : Entry) → 0 < e.unsent → sent (es ++ e ∷ []) ≡ sent es
sent_same [] e h = rw (differ e.unsent 0 (λ i. omega (arith, i, h))) refl
sent_same (x ∷ es) e h = rw (sent_same es e h) refl
