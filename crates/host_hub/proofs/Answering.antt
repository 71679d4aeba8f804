-- an answer to the one submit that is out: what it answers, and whether it ends the hub
use Rattle.std.proofs.Common.{◌≡◌, ◌≤◌, ℕ, ℤ, pos, ◌&&◌, ◌||◌, Bool, true, false, List, [], ◌∷◌, Option, Some, None, refl, sym, subst, ◌∙◌, ap, arith}
use Rattle.std.specs.Prelude.{◌==◌, is_some, if◌then◌else◌}
use Rattle.std.specs.Ordering.{int_eq}
use Rattle.std.proofs.lemmas.Bool.{eqb-true, le-ltb}
use Rattle.usb_setup.specs.declared.ends.Ends.{Ends}
use Rattle.usbip_wire.specs.declared.urb.Dir.{Dir}
use Rattle.usbip_wire.specs.declared.ret_submit.RetSubmitHead.{RetSubmitHead}
use Rattle.usbip_wire.specs.Awaited.{Awaited, entries_of}
use Rattle.usbip_wire.specs.Dirs as dirs
use Rattle.usbip_wire.specs.Down as down
use Rattle.usbip_wire.specs.Down.{SpellsAnswer}
use Rattle.usbip_wire.specs.RetSubmit.{Returns}
use Rattle.host_urbs.specs.declared.entry.Entry.{Entry}
use Rattle.host_urbs.specs.Entries.{awaited, sent}
use Rattle.host_urbs.specs.Law.{MayTake}
use Rattle.host_urbs.specs.Record as urbs
use Rattle.host_hub.specs.declared.hub_core.HubCore.{HubCore}
use Rattle.host_hub.specs.declared.outcome.End.TheVariants as end
use Rattle.host_hub.specs.Order.{Order, Part, Request, Trigger, Read, Listen, Class, ClearHalt, Unlink, Setting, is_bulk, is_listen, is_unlink, size_of, way_of}
use Rattle.host_hub.specs.Record.{Asking, Past, Of}
use Rattle.host_hub.specs.Crossings.{crossings}
use Rattle.host_hub.specs.Hand.{is_of}
use Rattle.host_hub.specs.Outstanding.{Sent, awaited_by, find, outstanding}
use Rattle.host_hub.specs.Book.{live}
use Rattle.host_hub.specs.Ends.{as_end, comes_early, ends_by, is_before, is_gone, owned_ends, same_endpoint, submit_ends}
use Rattle.host_hub.specs.Faults.{number_field, refused}
use Rattle.host_hub.specs.Joined.{IsPlainOrder}
use Rattle.host_hub.specs.Law.{Lawful}
use Rattle.host_hub.specs.Knows.{Knows}
use Rattle.host_hub.specs.Stands.{IsOut}
use Rattle.host_hub.specs.Hears.{Hears, HearsOut}
use Rattle.host_hub.proofs.Entries.{Answers, answers_submit, as_submit, found_as, found_there}
use Rattle.host_hub.proofs.Heard.{all_gone, one_entry}
use Rattle.host_hub.proofs.Lists.{and_false, first_has}
use Rattle.host_hub.proofs.Numbers.{same_outstanding}
use Rattle.host_hub.proofs.PlainAnswers.{Answered}
use Rattle.host_hub.proofs.Taken.{none_left, one_found}

-- ---- the one submit that is out is not early

before_one : (ends : Ends) (t n : ℕ) (k : Order) → is_before ends t n k (record { number = n; owner = Of t; order = k } ∷ []) ≡ false
before_one ends t n k =
    ap (λ (b : Bool). (is_of t (Of t) && (is_bulk k && (b && same_endpoint ends k k))) || false) (le-ltb n n (omega arith))
    ∙ (ap (λ (b : Bool). (is_of t (Of t) && b) || false) (and_false (is_bulk k)) ∙ ap (λ (b : Bool). b || false) (and_false (is_of t (Of t))))

pub not_early : (s : Setting) (past : Past) (head : RetSubmitHead) (a : Answered past head)
    → comes_early s.ends (record { number = a.number; owner = Of a.ticket; order = a.order }) (Of a.ticket) (outstanding past) ≡ false
not_early s past head a =
    ap (λ (xs : List Sent). is_bulk a.order && is_before s.ends a.ticket a.number a.order xs) a.was
    ∙ (ap (λ (b : Bool). is_bulk a.order && b) (before_one s.ends a.ticket a.number a.order) ∙ and_false (is_bulk a.order))

-- ---- so its status and its fields say whether the hub ends

pub ends_is : (s : Setting) (past : Past) (head : RetSubmitHead) (bytes : List ℕ) (a : Answered past head) → ends_by s past (down.RetSubmit head bytes)
    ≡ (if is_gone head.status then Some end.Unplugged else if int_eq head.status (pos 0) then as_end (refused s a.ticket a.order past head bytes) else None)
ends_is s past head bytes a =
    ap (λ (o : Option Sent). submit_ends s o past head bytes) a.found
    ∙ ap (λ (b : Bool). if b then Some (end.PeerFault number_field) else if is_gone head.status then Some end.Unplugged else owned_ends s (Of a.ticket) a.order past head bytes)
    (not_early s past head a)

pub ends_fine : (s : Setting) (past : Past) (head : RetSubmitHead) (bytes : List ℕ) (a : Answered past head) → head.status ≡ pos 0
    → ends_by s past (down.RetSubmit head bytes) ≡ as_end (refused s a.ticket a.order past head bytes)
ends_fine s past head bytes a fine =
    ends_is s past head bytes a
    ∙ ap (λ (z : ℤ). if is_gone z then Some end.Unplugged else if int_eq z (pos 0) then as_end (refused s a.ticket a.order past head bytes) else None) fine

pub ends_gone : (s : Setting) (past : Past) (head : RetSubmitHead) (bytes : List ℕ) → Answered past head → is_gone head.status ≡ true
    → ends_by s past (down.RetSubmit head bytes) ≡ Some end.Unplugged
ends_gone s past head bytes a gone =
    ends_is s past head bytes a
    ∙ ap (λ (b : Bool). if b then Some end.Unplugged else if int_eq head.status (pos 0) then as_end (refused s a.ticket a.order past head bytes) else None) gone

pub ends_failed : (s : Setting) (past : Past) (head : RetSubmitHead) (bytes : List ℕ) → Answered past head → is_gone head.status ≡ false
    → int_eq head.status (pos 0) ≡ false → ends_by s past (down.RetSubmit head bytes) ≡ None
ends_failed s past head bytes a there failed =
    ends_is s past head bytes a
    ∙ (ap (λ (b : Bool). if b then Some end.Unplugged else if int_eq head.status (pos 0) then as_end (refused s a.ticket a.order past head bytes) else None) there
    ∙ ap (λ (b : Bool). if b then as_end (refused s a.ticket a.order past head bytes) else None) failed)

-- ---- what is out was sent whole where it is answered

sent_gone : (e : Entry) → e.unsent ≡ 0 → sent (e ∷ []) ≡ awaited (e ∷ [])
sent_gone e gone = rw gone refl

pub sent_whole : (s : Setting) (past : Past) (all : List ℕ) (core : HubCore) (x : Sent) (m : ℕ) → Lawful s past → Knows s past all core → outstanding past ≡ x ∷ []
    → is_some (dirs.submit_of (dirs.find m (entries_of (sent core.urbs.entries)))) ≡ true → sent core.urbs.entries ≡ urbs.outstanding (crossings s past)
sent_whole s past all core x m lawful k alone there =
    let one : (e : Entry) × (core.urbs.entries ≡ e ∷ []) =
    one_entry core.urbs.entries _ (k.follows.awaits ∙ (sym (same_outstanding s past lawful) ∙ ap (awaited_by s) alone)) in
    let gone : one.0.unsent ≡ 0 = all_gone one.0 m (subst (λ (l : List Entry). is_some (dirs.submit_of (dirs.find m (entries_of (sent l)))) ≡ true) one.1 there) in
    ap sent one.1 ∙ (sent_gone one.0 gone ∙ (sym (ap awaited one.1) ∙ k.follows.awaits))

pub may_come : (past : urbs.Past) (head : RetSubmitHead) (bytes raw : List ℕ) → SpellsAnswer (entries_of (urbs.outstanding past)) (down.RetSubmit head bytes) raw
    → MayTake past (down.RetSubmit head bytes)
may_come past head bytes raw h = (h.0, h.1, h.2.within, h.2.returned)

-- ---- it answers what is out

pub record HeardOut (s : Setting) (past : Past) (head : RetSubmitHead) (bytes : List ℕ) (number : ℕ) (order : Order) : Type 0 where
  pub same : head.seqnum ≡ number
  pub may : MayTake (crossings s past) (down.RetSubmit head bytes)
  pub within : head.actual ≤ size_of s.ends order
  pub returned : Returns (way_of order) head.actual bytes

pub plain_submit : (order : Order) → IsPlainOrder order → (is_listen order ≡ false) × (is_unlink order ≡ false)
plain_submit (Part tag text eom) p = (refl, refl)
plain_submit (Request tag size) p = (refl, refl)
plain_submit Read p = (refl, refl)
plain_submit (Trigger tag) p = absurd p
plain_submit Listen p = absurd p
plain_submit (Class request) p = absurd p
plain_submit (ClearHalt endpoint) p = absurd p
plain_submit (Unlink target) p = absurd p

same_one : (x y : Sent) (m : ℕ) → find m (x ∷ []) ≡ Some y → x.number ≡ m
same_one x y m e = step (x.number == m) refl e
  where
    step : (b : Bool) → (x.number == m) ≡ b → (if b then Some x else None) ≡ Some y → x.number ≡ m
    step true f g = eqb-true x.number m f
    step false f g = cc

same_asked : (p q : Dir × ℕ) → Some p ≡ Some q → p ≡ q
same_asked p q e = cc

pub heard_out : (s : Setting) (past : Past) (all : List ℕ) (core : HubCore) (head : RetSubmitHead) (bytes : List ℕ) (asking : Asking) (order : Order) (split : Bool)
    → HearsOut s past all core head bytes → (o : IsOut s past core asking order split) → IsPlainOrder order → HeardOut s past head bytes o.number order
heard_out s past all core head bytes asking order split h o plain =
    let lawful : Lawful s past = h.rests.kept.lawful in
    let whole : sent core.urbs.entries ≡ urbs.outstanding (crossings s past) =
    sent_whole s past all core (record { number = o.number; owner = Of core.active; order = order }) head.seqnum lawful h.rests.knows o.alone (ap is_some h.spelled.1) in
    let spelled : SpellsAnswer (entries_of (urbs.outstanding (crossings s past))) (down.RetSubmit head bytes) h.raw =
    subst (λ (l : List Awaited). SpellsAnswer (entries_of l) (down.RetSubmit head bytes) h.raw) whole h.spelled in
    let may : MayTake (crossings s past) (down.RetSubmit head bytes) = may_come (crossings s past) head bytes h.raw spelled in
    let x : Answers s past head.seqnum false = answers_submit s past head bytes lawful may in
    let same : o.number ≡ head.seqnum =
    same_one (record { number = o.number; owner = Of core.active; order = order }) x.0 head.seqnum (subst (λ (l : List Sent). find head.seqnum l ≡ Some x.0) o.alone x.1) in
    let found : find head.seqnum (outstanding past) ≡ Some (record { number = o.number; owner = Of core.active; order = order }) =
    one_found core.active o.number order head.seqnum (outstanding past) o.alone (sym same) in
    let asked : (may.0.dir, may.0.size) ≡ (way_of order, size_of s.ends order) =
    same_asked (may.0.dir, may.0.size) (way_of order, size_of s.ends order)
    (sym may.1 ∙ (ap dirs.submit_of (found_there s past head.seqnum lawful ∙ ap (found_as s) found) ∙ as_submit s o.number order (plain_submit order plain).1)) in
    record {
      same = sym same;
      may = may;
      within = subst (λ (p : Dir × ℕ). head.actual ≤ p.1) asked may.2;
      returned = subst (λ (p : Dir × ℕ). Returns p.0 head.actual bytes) asked may.3;
    }

pub hears_out : (s : Setting) (past : Past) (all : List ℕ) (core : HubCore) (head : RetSubmitHead) (bytes : List ℕ) (asking : Asking) (order : Order) (split : Bool)
    → HearsOut s past all core head bytes → (o : IsOut s past core asking order split) → IsPlainOrder order → Hears s past all core head bytes
hears_out s past all core head bytes asking order split h o plain = record {
  knows = h.rests.knows;
  lawful = h.rests.kept.lawful;
  submit = record { number = o.number; owner = Of core.active; order = order };
  found = one_found core.active o.number order head.seqnum (outstanding past) o.alone (heard_out s past all core head bytes asking order split h o plain).same;
  plain = (plain_submit order plain).0;
  queue = o.queue;
  raw = h.raw;
  spelled = h.spelled;
}

abbrev pub answered_out : (s : Setting) (past : Past) (core : HubCore) (head : RetSubmitHead) (asking : Asking) (order : Order) (split : Bool) → (o : IsOut s past core asking order split)
    → IsPlainOrder order → head.seqnum ≡ o.number → Answered past head
answered_out s past core head asking order split o plain same = record {
  ticket = core.active;
  number = o.number;
  order = order;
  plain = plain;
  is = same;
  found = one_found core.active o.number order head.seqnum (outstanding past) o.alone same;
  was = o.alone;
  none_left = none_left core.active o.number order head.seqnum (outstanding past) o.alone same;
  hand = o.clean.hand;
  lives = first_has core.active (live past) o.turn;
  last_is = o.written_last;
}
