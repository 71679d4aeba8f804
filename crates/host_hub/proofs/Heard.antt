-- the submit that is out is answered
use Rattle.std.proofs.Common.{◌≡◌, ◌≤◌, ◌<◌, ℕ, ◌+◌, Bool, true, false, List, [], ◌∷◌, ◌++◌, length, Some, None, refl, sym, subst, ◌∙◌, ap, arith}
use Rattle.std.specs.Prelude.{◌==◌, is_some, if◌then◌else◌}
use Rattle.std.proofs.lemmas.Bool.{eqb-true}
use Rattle.usbip_wire.specs.declared.ret_submit.RetSubmitHead.{RetSubmitHead}
use Rattle.usbip_wire.specs.Awaited.{Awaited, entries_of}
use Rattle.usbip_wire.specs.Dirs as dirs
use Rattle.usbip_wire.specs.Down as down
use Rattle.usbip_wire.specs.Up as up
use Rattle.host_urbs.specs.declared.entry.Entry.{Entry}
use Rattle.host_urbs.specs.Entries.{awaited, awaited_of, sent}
use Rattle.host_urbs.specs.Held.{Held, Follows}
use Rattle.host_hub.specs.declared.hub_core.HubCore.{HubCore}
use Rattle.host_hub.specs.Order.{Order, Part, Request, Trigger, Read, Listen, Class, ClearHalt, Unlink, Setting, message_of}
use Rattle.host_hub.specs.Record.{Past, Of, next, Wrote, Took, Fell, Stopped, Recovers, Asked, Cancelled, Cleared, GaveUp, Settled, taken, written}
use Rattle.host_hub.specs.Outstanding as hub
use Rattle.host_hub.specs.Outstanding.{Sent, awaited_by, find, less_unlink, outstanding, without_named}
use Rattle.host_hub.specs.Crossings.{crossings}
use Rattle.host_hub.specs.BookSeen.{Seen}
use Rattle.host_hub.specs.Pieces.{got}
use Rattle.host_hub.specs.Steps.{took}
use Rattle.host_urbs.specs.Record as urbs
use Rattle.host_hub.specs.Law.{Lawful}
use Rattle.host_hub.specs.Knows.{Knows}
use Rattle.host_hub.specs.Hears.{Hears}
use Rattle.host_hub.proofs.Entries.{Answers, answers_submit, answers_unlink}
use Rattle.host_hub.proofs.Lists.{clash}
use Rattle.host_hub.proofs.Messages.{next_same, written_same}
use Rattle.host_hub.proofs.Begins.{same_next}
use Rattle.host_hub.proofs.Taken.{taken_more}
use Rattle.host_hub.specs.Hand.{is_of}
use Rattle.host_hub.specs.Shown.{ShowsTicket}

-- ---- no more answers than messages

fewer_others : (n : ℕ) (xs : List Sent) → length (hub.others n xs) ≤ length xs
fewer_others n [] = omega arith
fewer_others n (x ∷ xs) = step (x.number == n) (fewer_others n xs)
  where
    step : (b : Bool) → length (hub.others n xs) ≤ length xs → length (if b then hub.others n xs else x ∷ hub.others n xs) ≤ length (x ∷ xs)
    step true h = omega (arith, h)
    step false h = omega (arith, h)

no_sent : {P : Type 0} (x : Sent) → None ≡ Some x → P
no_sent x e = absurd (no e)
  where
    no : None ≡ Some x → ⊥
    no h = cc

less_others : (n : ℕ) (xs : List Sent) (y : Sent) → find n xs ≡ Some y → length (hub.others n xs) < length xs
less_others n [] y e = no_sent y e
less_others n (x ∷ xs) y e = step (x.number == n) e (less_others n xs y) (fewer_others n xs)
  where
    step : (b : Bool) → (if b then Some x else find n xs) ≡ Some y → (find n xs ≡ Some y → length (hub.others n xs) < length xs) → length (hub.others n xs) ≤ length xs
        → length (if b then hub.others n xs else x ∷ hub.others n xs) < length (x ∷ xs)
    step true h again f = omega (arith, f)
    step false h again f = omega (arith, again h)

less_named : (n : ℕ) (xs : List Sent) (y : Sent) → find n xs ≡ Some y → length (less_unlink n xs) < length xs
less_named n [] y e = no_sent y e
less_named n (x ∷ xs) y e = step (x.number == n) e (less_named n xs y)
  where
    named : (o : Order) → length (without_named o xs) ≤ length xs
    named (Unlink target) = fewer_others target xs
    named (Part tag text eom) = omega arith
    named (Request tag size) = omega arith
    named (Trigger tag) = omega arith
    named Read = omega arith
    named Listen = omega arith
    named (Class request) = omega arith
    named (ClearHalt endpoint) = omega arith

    step : (b : Bool) → (if b then Some x else find n xs) ≡ Some y → (find n xs ≡ Some y → length (less_unlink n xs) < length xs)
        → length (if b then without_named x.order xs else x ∷ less_unlink n xs) < length (x ∷ xs)
    step true h again = omega (arith, named x.order)
    step false h again = omega (arith, again h)

written_more : (xs : List up.Message) (m : up.Message) → length (xs ++ m ∷ []) ≡ length xs + 1
written_more [] m = refl
written_more (x ∷ xs) m = omega (arith, written_more xs m)

pub few_taken : (s : Setting) (past : Past) → Lawful s past → length (taken past) + length (outstanding past) ≤ length (written s past)
few_taken s [] l = omega arith
few_taken s (Wrote n o k ∷ past) (l, a) = omega (arith, few_taken s past l, written_more (written s past) (message_of s n k))
few_taken s (Took (down.RetSubmit head bytes) ∷ past) (l, a) =
    let x : Answers s past head.seqnum false = answers_submit s past head bytes l a.1 in
    omega (arith, few_taken s past l, taken_more (taken past) (down.RetSubmit head bytes), less_others head.seqnum (outstanding past) x.0 x.1)
few_taken s (Took (down.RetUnlink head) ∷ past) (l, a) =
    let x : Answers s past head.seqnum true = answers_unlink s past head l a.1 in
    omega (arith, few_taken s past l, taken_more (taken past) (down.RetUnlink head), less_named head.seqnum (outstanding past) x.0 x.1)
few_taken s (Fell (down.RetSubmit head bytes) e ∷ past) (l, a) =
    let x : Answers s past head.seqnum false = answers_submit s past head bytes l a.1 in
    omega (arith, few_taken s past l, taken_more (taken past) (down.RetSubmit head bytes), less_others head.seqnum (outstanding past) x.0 x.1)
few_taken s (Fell (down.RetUnlink head) e ∷ past) (l, a) =
    let x : Answers s past head.seqnum true = answers_unlink s past head l a.1 in
    omega (arith, few_taken s past l, taken_more (taken past) (down.RetUnlink head), less_named head.seqnum (outstanding past) x.0 x.1)
few_taken s (Stopped e ∷ past) (l, a) = few_taken s past l
few_taken s (Recovers ∷ past) (l, a) = few_taken s past l
few_taken s (Asked t b ∷ past) (l, a) = few_taken s past l
few_taken s (Cancelled t ∷ past) (l, a) = few_taken s past l
few_taken s (Cleared w ∷ past) (l, a) = few_taken s past l
few_taken s (GaveUp ∷ past) (l, a) = few_taken s past l
few_taken s (Settled t o ∷ past) (l, a) = few_taken s past l

pub taken_fits : (s : Setting) (past : Past) (all : List ℕ) (core : HubCore) (head : RetSubmitHead) (bytes : List ℕ) → Hears s past all core head bytes → core.taken + 1 ≤ core.urbs.next
taken_fits s past all core head bytes h =
    omega (arith, few_taken s past h.lawful, less_others head.seqnum (outstanding past) h.submit h.found, h.knows.answers, same_next s past all core h.knows, written_count s past)
  where
    written_count : (s : Setting) (past : Past) → next s.first past ≡ s.first + length (written s past)
    written_count s past = next_same s past ∙ ap (λ (l : List up.Message). s.first + length l) (sym (written_same s past))

-- ---- the outbox is empty

pub one_entry : (es : List Entry) (x : Awaited) → awaited es ≡ x ∷ [] → (e : Entry) × (es ≡ e ∷ [])
one_entry [] x h = absurd (no h)
  where
    no : [] ≡ x ∷ [] → ⊥
    no k = cc
one_entry (e ∷ []) x h = (e, refl)
one_entry (e ∷ (f ∷ fs)) x h = absurd (no h)
  where
    no : awaited_of e.message ∷ (awaited_of f.message ∷ awaited fs) ≡ x ∷ [] → ⊥
    no k = cc

pub all_gone : (e : Entry) (n : ℕ) → is_some (dirs.submit_of (dirs.find n (entries_of (sent (e ∷ []))))) ≡ true → e.unsent ≡ 0
all_gone e n h = step (e.unsent == 0) refl h
  where
    step : (b : Bool) → (e.unsent == 0) ≡ b → is_some (dirs.submit_of (dirs.find n (entries_of (if b then awaited_of e.message ∷ [] else [])))) ≡ true → e.unsent ≡ 0
    step true k g = eqb-true e.unsent 0 k
    step false k g = clash g

-- ---- what is known then

got_other : (past : Past) (t : ℕ) (x : Sent) (head : RetSubmitHead) (bytes : List ℕ) → find head.seqnum (outstanding past) ≡ Some x → is_of t x.owner ≡ false
    → got t (took past head bytes) ≡ got t past
got_other past t x head bytes found other = rw found (rw other refl)

-- where the ticket of this submit has got no more, none has
pub got_still : (past : Past) (t n : ℕ) (order : Order) (head : RetSubmitHead) (bytes : List ℕ)
    → find head.seqnum (outstanding past) ≡ Some (record { number = n; owner = Of t; order = order }) → got t (took past head bytes) ≡ got t past
    → (u : ℕ) → got u (took past head bytes) ≡ got u past
got_still past t n order head bytes found same u = step (t == u) refl
  where
    step : (b : Bool) → (t == u) ≡ b → got u (took past head bytes) ≡ got u past
    step true e = subst (λ (v : ℕ). got v (took past head bytes) ≡ got v past) (eqb-true t u e) same
    step false e = got_other past u (record { number = n; owner = Of t; order = order }) head bytes found e

pub knows_taken : (s : Setting) (past : Past) (all : List ℕ) (core : HubCore) (head : RetSubmitHead) (bytes : List ℕ) (u : Held) → (h : Hears s past all core head bytes)
    → ((t : ℕ) → got t (took past head bytes) ≡ got t past) → Follows s.first (urbs.Took (down.RetSubmit head bytes) ∷ crossings s past) all u → u.devid ≡ core.urbs.devid
    → Knows s (took past head bytes) all (record core { urbs = u; taken = core.taken + 1 })
knows_taken s past all core head bytes u h same follows device =
    let k : Knows s past all core = h.knows in
    record {
      shallow = k.shallow;
      first_number = k.first_number;
      interface = k.interface;
      device = device ∙ k.device;
      follows = follows;
      shows = record {
        count = k.shows.count;
        each = λ t one e. shown t one (k.shows.each t one e);
        entries = k.shows.entries;
        service = rw h.found (rw h.plain k.shows.service);
      };
      marks = k.marks;
      all_started = k.all_started;
      starts = k.starts;
      all_born = k.all_born;
      limit_sum = k.limit_sum;
      tag = k.tag;
      answers = ap (λ (m : ℕ). m + 1) k.answers ∙ sym (taken_more (taken past) (down.RetSubmit head bytes));
      over = k.over;
      proper = k.proper;
      few = k.few;
      lives = k.lives;
      turn = k.turn;
      room = k.room;
    }
  where
    shown : (t : ℕ) (one : Seen) → ShowsTicket past t one → ShowsTicket (took past head bytes) t one
    shown t one e = record { asking = e.asking; last = e.last; bytes = e.bytes ∙ sym (same t); outcome = e.outcome }
