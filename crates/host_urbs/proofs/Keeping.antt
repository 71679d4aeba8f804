-- what holds of a client at any time still holds behind each call
use Rattle.std.proofs.Common.{◌≡◌, ℕ, ◌+◌, ◌<◌, ◌≤◌, ◌^◌, false, true, List, [], ◌∷◌, ◌++◌, length, take, drop, refl, sym, subst, ◌∙◌, ap, arith, length-append, add-zero, Option, Some, None}
use Rattle.std.specs.Prelude.{is_some}
use Rattle.usbip_wire.specs.declared.dirs.Outstanding.{Outstanding}
use Rattle.usbip_wire.specs.declared.dirs.Outstanding.TheVariants as entry
use Rattle.usbip_wire.specs.declared.ret_submit.RetSubmitHead.{RetSubmitHead}
use Rattle.usbip_wire.specs.declared.ret_unlink.RetUnlinkHead.{RetUnlinkHead}
use Rattle.usbip_wire.specs.declared.urb.Dir.{Dir}
use Rattle.usbip_wire.specs.declared.urb.Dir.TheVariants.{Out, In}
use Rattle.usbip_wire.specs.Awaited.{Awaited, entry_of, entries_of, sent_by}
use Rattle.usbip_wire.specs.Dirs.{find, submit_of, is_unlink, IsShort, AreShort}
use Rattle.usbip_wire.specs.Down as down
use Rattle.usbip_wire.specs.RetSubmit.{Asked, Returns}
use Rattle.usbip_wire.specs.Up as up
use Rattle.usbip_wire.specs.Up.{Spells}
use Rattle.host_urbs.specs.declared.entry.Entry.{Entry}
use Rattle.host_urbs.specs.declared.limits.TheConstants.{LAST_SUBMIT}
use Rattle.host_urbs.specs.Record.{Past, Wrote, Took, outstanding}
use Rattle.host_urbs.specs.Law.{is_named, MayTake, MayWrite}
use Rattle.host_urbs.specs.Unanswered.{seqnum_of}
use Rattle.host_urbs.specs.Entries.{awaited, sent, moved, others, unlinked, unanswered_of, AreKept}
use Rattle.host_urbs.specs.Held.{Held, HasPlace, submit_by, unlink_by, bytes_of, wrote, Follows}
use Rattle.host_urbs.specs.Kept.{IsReached, IsKept}
use Rattle.host_urbs.proofs.Basics.{clash}
use Rattle.host_urbs.proofs.Following.{awaited_of_message, new_entry, follows_wrote, follows_sent, follows_answer, follows_unlinked, submit_found, rises, short_more, short_moved, short_others, short_unlinked, sent_same}

pub follows_none : (first devid : ℕ) → Follows first [] [] (record { devid = devid; next = first; entries = []; outbox = [] })
follows_none first devid = record { lawful = tt; number = sym (add-zero first); awaits = refl; unsent = tt; stands = refl; spelled = refl }

pub kept_none : (first devid : ℕ) → first < 2 ^ 32 → IsKept (record { devid = devid; next = first; entries = []; outbox = [] }) []
kept_none first devid low = record { read_by = refl; short = tt; reached = record { first = first; past = []; bytes = []; low = low; follows = follows_none first devid } }

-- ---- a message is written

pub wrote_is : (m : up.Message) (held : Held) (es : List Entry) (outbox slice : List ℕ) → outbox ≡ held.outbox ++ bytes_of m → slice ≡ outbox
    → es ≡ held.entries ++ record { message = unanswered_of m; unsent = length slice } ∷ [] → record { devid = held.devid; next = held.next + 1; entries = es; outbox = outbox } ≡ wrote m held
wrote_is m held es outbox slice e f g = rw g (rw f (rw e refl))

length_awaited : (es : List Entry) → length (awaited es) ≡ length es
length_awaited [] = refl
length_awaited (e ∷ es) = omega (arith, length_awaited es)

place_is : (first : ℕ) (past : Past) (front : List ℕ) (held : Held) → Follows first past front held → length (outstanding past) ≡ length held.entries
place_is first past front held f = sym (ap (λ (l : List Awaited). length l) f.awaits) ∙ length_awaited held.entries

pub may_submit : (held : Held) (dir : Dir) (ep size : ℕ) (setup transferred : List ℕ) → held.next ≤ LAST_SUBMIT → HasPlace held
    → (first : ℕ) (past : Past) (front : List ℕ) → Follows first past front held → MayWrite first past (submit_by held dir ep size setup transferred)
may_submit held dir ep size setup transferred last place first past front f = record {
  next = f.number;
  last = last;
  place = omega (arith, place_is first past front held f, place);
}

pub may_unlink : (held : Held) (target : ℕ) → HasPlace held → is_some (submit_of (find target (entries_of (awaited held.entries)))) ≡ true → is_named target (awaited held.entries) ≡ false
    → (first : ℕ) (past : Past) (front : List ℕ) → Follows first past front held → MayWrite first past (unlink_by held target)
may_unlink held target place there once first past front f = record {
  next = f.number;
  place = omega (arith, place_is first past front held f, place);
  named = subst (λ (l : List Awaited). is_some (submit_of (find target (entries_of l))) ≡ true) f.awaits there;
  once = subst (λ (l : List Awaited). is_named target l ≡ false) f.awaits once;
}

pub kept_wrote : (m : up.Message) (held : Held) (read_by : List Outstanding) → IsKept held read_by
    → ((first : ℕ) (past : Past) (front : List ℕ) → Follows first past front held → MayWrite first past m) → seqnum_of m ≡ held.next → Spells held.devid m (bytes_of m)
    → 0 < length (bytes_of m) → IsShort (entry_of (sent_by m)) → IsKept (wrote m held) read_by
kept_wrote m held read_by k may n s some short = record {
  read_by = k.read_by ∙ sym (ap entries_of (sent_same held.entries (new_entry m held) (omega (arith, some, length-append held.outbox (bytes_of m)))));
  short = short_more held.entries (new_entry m held) k.short (subst (λ (a : Awaited). IsShort (entry_of a)) (sym (awaited_of_message m)) short);
  reached = record {
    first = k.reached.first;
    past = Wrote m ∷ k.reached.past;
    bytes = k.reached.bytes;
    low = k.reached.low;
    follows = follows_wrote k.reached.first k.reached.past k.reached.bytes held m k.reached.follows (may k.reached.first k.reached.past k.reached.bytes k.reached.follows) n s;
  };
}

-- ---- bytes are sent

pub kept_sent : (held : Held) (n : ℕ) (read_by : List Outstanding) → n ≤ length held.outbox → IsKept held read_by
    → IsKept (record held { entries = moved n held.entries; outbox = drop n held.outbox }) (entries_of (sent (moved n held.entries)))
kept_sent held n read_by h k = record {
  read_by = refl;
  short = short_moved n held.entries k.short;
  reached = record {
    first = k.reached.first;
    past = k.reached.past;
    bytes = k.reached.bytes ++ take n held.outbox;
    low = k.reached.low;
    follows = follows_sent k.reached.first k.reached.past k.reached.bytes held n h k.reached.follows;
  };
}

-- ---- answers

asked_of : (o : Option Outstanding) → is_some (submit_of o) ≡ true → (asked : Asked) × (submit_of o ≡ Some (asked.dir, asked.size))
asked_of None h = clash h
asked_of (Some (entry.Submit seqnum dir size)) h = (record { dir = dir; size = size }, refl)
asked_of (Some (entry.Unlink seqnum)) h = clash h

returns_none : (dir : Dir) → Returns dir 0 []
returns_none Out = refl
returns_none In = refl

-- an answer without data might have come
may_come : (first : ℕ) (past : Past) (front : List ℕ) (held : Held) (head : RetSubmitHead) → Follows first past front held
    → is_some (submit_of (find head.seqnum (entries_of (sent held.entries)))) ≡ true → (answer : RetSubmitHead) × (x : List ℕ) × (answer.seqnum ≡ head.seqnum) × MayTake past (down.RetSubmit answer x)
may_come first past front held head f h =
    let asked = asked_of (find head.seqnum (entries_of (sent held.entries))) h in (
      record { seqnum = head.seqnum; status = head.status; actual = 0 },
      [],
      refl,
      (asked.0, ap submit_of (submit_found first past front held head.seqnum f h) ∙ asked.1, omega arith, returns_none asked.0.dir),
    )

pub kept_answer : (held : Held) (head : RetSubmitHead) (read_by : List Outstanding) → is_some (submit_of (find head.seqnum (entries_of (sent held.entries)))) ≡ true → IsKept held read_by
    → IsKept (record held { entries = others head.seqnum held.entries }) (entries_of (sent (others head.seqnum held.entries)))
kept_answer held head read_by h k =
    let r = k.reached in
    let m = may_come r.first r.past r.bytes held head r.follows h in
    record {
      read_by = refl;
      short = short_others head.seqnum held.entries k.short;
      reached = record {
        first = r.first;
        past = Took (down.RetSubmit m.0 m.1) ∷ r.past;
        bytes = r.bytes;
        low = r.low;
        follows = subst (λ (n : ℕ). Follows r.first (Took (down.RetSubmit m.0 m.1) ∷ r.past) r.bytes (record held { entries = others n held.entries })) m.2
            (follows_answer r.first r.past r.bytes held m.0 m.1 r.follows m.3);
      };
    }

pub kept_unlinked : (held : Held) (head : RetUnlinkHead) (read_by : List Outstanding) → is_unlink (find head.seqnum (entries_of (sent held.entries))) ≡ true → IsKept held read_by
    → IsKept (record held { entries = unlinked head.seqnum held.entries }) (entries_of (sent (unlinked head.seqnum held.entries)))
kept_unlinked held head read_by h k =
    let r = k.reached in
    record {
      read_by = refl;
      short = short_unlinked head.seqnum held.entries k.short;
      reached = record {
        first = r.first;
        past = Took (down.RetUnlink head) ∷ r.past;
        bytes = r.bytes;
        low = r.low;
        follows = follows_unlinked r.first r.past r.bytes held head r.follows h;
      };
    }

-- ---- the entries alone

pub entries_kept : (held : Held) (es : List Entry) → IsReached (record held { entries = es }) → AreShort (entries_of (awaited es)) → (next : ℕ) × AreKept next es
entries_kept held es r s = (held.next, record { rising = rises (record held { entries = es }) r; short = s })
