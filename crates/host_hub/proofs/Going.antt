-- no answer ends a hub that nothing disturbs, and it stays joined as its record goes on
use Rattle.std.proofs.Common.{◌≡◌, ◌≢◌, ℕ, pos, ◌+◌, ◌<◌, ◌≤◌, Bool, true, false, List, [], ◌∷◌, ◌++◌, length, Option, Some, None, refl, sym, subst, ◌∙◌, ap, arith, append_assoc}
use Rattle.std.specs.Prelude.{is_some, if◌then◌else◌}
use Rattle.std.proofs.lemmas.Bool.{le-ltb}
use Rattle.std.proofs.lemmas.List.{append-nil}
use Rattle.tmc_base.specs.declared.field.Layer.TheVariants as layer
use Rattle.tmc_base.specs.declared.field.Name.TheVariants as name
use Rattle.tmc_base.specs.declared.run_step.RunStep.{RunStep}
use Rattle.tmc_base.specs.Told.{out_bytes}
use Rattle.usbip_wire.specs.declared.ret_submit.RetSubmitHead.{RetSubmitHead}
use Rattle.usbip_wire.specs.Awaited.{Awaited, entries_of}
use Rattle.usbip_wire.specs.DownFed.{BadAt}
use Rattle.usbip_wire.specs.declared.down.DownPhase.TheVariants.{Urbs}
use Rattle.usbip_wire.specs.declared.dirs.Outstanding.{Outstanding}
use Rattle.usbip_wire.specs.declared.submit.SubmitHead.{SubmitHead}
use Rattle.tmc_base.specs.declared.field.Field.{Field}
use Rattle.usbip_wire.specs.Down as down
use Rattle.usbip_wire.specs.Down.{SpellsAnswer}
use Rattle.usbip_wire.specs.Up as up
use Rattle.tmc_wire.specs.HeaderFault.{TransferSize}
use Rattle.tmc_law.specs.Put.{Put}
use Rattle.tmc_law.specs.State.{State}
use Rattle.host_joint.specs.Hand.{Hand, Reads}
use Rattle.host_joint.specs.Joint.{Joint, entries_for}
use Rattle.host_joint.specs.Pieces.{BeginsPiece, IsFaultless, IsPiece, IsWhole}
use Rattle.host_joint.specs.Tie.{Goes, TakesFull, TakesLast, TakesPiece, TakesTransfer}
use Rattle.host_urbs.specs.Law.{MayTake}
use Rattle.host_urbs.specs.Record as urbs
use Rattle.host_hub.specs.Order.{Order, Part, Read, Request, Setting, Trigger, Listen, Class, ClearHalt, Unlink, endpoint_of, is_bulk, size_of}
use Rattle.host_hub.specs.Order as order
use Rattle.host_hub.specs.Record.{Asked, Asking, Cancelled, Cleared, Fell, GaveUp, Of, Past, Recovers, Recovery, Settled, Stopped, Took, Wrote, next, written}
use Rattle.host_hub.specs.Book.{asking_of}
use Rattle.host_hub.specs.Calls.{All}
use Rattle.host_hub.specs.Crossings.{crossings}
use Rattle.host_hub.specs.Ends.{as_end, ends_by}
use Rattle.host_hub.specs.Faults.{first_fault, number_field, read_fault, refused, transfer_faults}
use Rattle.host_hub.specs.Hand.{ended}
use Rattle.host_hub.specs.Joined.{IsJoined, IsPlain, IsPlainOrder, IsServed, IsSimple, ReadsOn, hand_of, head_in, waits_in, waits_of}
use Rattle.host_hub.specs.Law.{Lawful}
use Rattle.host_hub.specs.Outstanding.{Sent, awaited_by, outstanding}
use Rattle.host_hub.specs.Pieces.{Piece, data_in, does_count, extended}
use Rattle.host_hub.specs.Plan.{message_end}
use Rattle.host_hub.specs.Tied.{bytes_of, spelled}
use Rattle.host_hub.proofs.Answering.{ends_fine}
use Rattle.host_hub.proofs.Assembled.{faultless}
use Rattle.host_hub.proofs.InHand.{head_of, is_submit, reads_is}
use Rattle.host_hub.proofs.JoiningWrites.{Laws, joined_wrote, joint_now}
use Rattle.host_hub.proofs.JoiningAnswers.{Expected, Reading, bytes_in, entries_same, expected, extended_full, extended_short, is_read_of, joined_took, next_answer, not_read_of, reading, unlink_never}
use Rattle.host_hub.proofs.Joining.{joined_asked, joined_given, joined_settles, joined_stopped}
use Rattle.host_hub.proofs.Lists.{clash}
use Rattle.host_hub.proofs.Numbers.{same_outstanding}
use Rattle.host_hub.proofs.Plain.{InHand, NoneOut, OneOut, Out, Stands}
use Rattle.host_hub.proofs.PlainAnswers.{Answered, answered_one}
use Rattle.host_hub.proofs.PlainStands.{stands}
use Rattle.host_hub.proofs.Tying.{spelled_more}

-- what host_joint says of pieces
pub record Faults : Type 0 where
  pub begun : (tag size : ℕ) (bytes : List ℕ) → BeginsPiece tag size bytes → IsFaultless tag size bytes
  pub whole : (tag size : ℕ) (eom : Bool) (carried bytes : List ℕ) → IsPiece tag size eom carried bytes → IsFaultless tag size bytes × IsWhole eom carried bytes

abbrev tag_in : Hand → ℕ
tag_in (Reads last message tag size sofar read) = tag
tag_in hand = 0

abbrev size_in : Hand → ℕ
size_in (Reads last message tag size sofar read) = size
size_in hand = 0

-- ---- the answer to the one submit that is out

module _ (s : Setting) (past : Past) (head : RetSubmitHead) (bytes : List ℕ) (a : Answered past head) where
  out_whole : (k : Order) → IsPlainOrder k → (k ≡ Read → ⊥) → head.actual ≡ size_of s.ends k → refused s a.ticket k past head bytes ≡ None
  out_whole (Part tag text eom) p other e =
      ap (λ (b : Bool). if b then Some (record { layer = layer.Urb; name = name.ActualLength; offset = 24 }) else None)
      (le-ltb head.actual (size_of s.ends (Part tag text eom)) (omega (arith, e)))
  out_whole (Request tag size) p other e =
      ap (λ (b : Bool). if b then Some (record { layer = layer.Urb; name = name.ActualLength; offset = 24 }) else None)
      (le-ltb head.actual (size_of s.ends (Request tag size)) (omega (arith, e)))
  out_whole Read p other e = absurd (other refl)
  out_whole (Trigger tag) p other e = absurd p
  out_whole Listen p other e = absurd p
  out_whole (Class request) p other e = absurd p
  out_whole (ClearHalt endpoint) p other e = absurd p
  out_whole (Unlink target) p other e = absurd p

  -- it is judged by its order, where that is not refused
  by_order : head.status ≡ pos 0 → refused s a.ticket a.order past head bytes ≡ None → ends_by s past (down.RetSubmit head bytes) ≡ None
  by_order e none = ends_fine s past head bytes a e ∙ ap as_end none

  read_whole : (b : Asking) → asking_of a.ticket past ≡ Some b → (r : Reading s past a.ticket b) → first_fault (transfer_faults (extended head bytes r.piece)) ≡ None
      → refused s a.ticket Read past head bytes ≡ None
  read_whole b asked r none =
      ap (λ (ps : List Piece). read_fault head bytes ps) r.has
      ∙ (ap (λ (o : Option ℕ). if is_some o then Some number_field else if does_count head.seqnum r.piece then first_fault (transfer_faults (extended head bytes r.piece)) else None) r.unread
      ∙ (ap (λ (c : Bool). if c then first_fault (transfer_faults (extended head bytes r.piece)) else None) counts ∙ none))
    where
      counts : does_count head.seqnum r.piece ≡ true
      counts = rw r.unshut (rw r.unread refl)

-- the pieces of a hand are those of the record
good_read : (s : Setting) (past : Past) (head : RetSubmitHead) (bytes : List ℕ) (a : Answered past head) (b : Asking) → asking_of a.ticket past ≡ Some b → (r : Reading s past a.ticket b)
    → (last tag size : ℕ) (message sofar read : List ℕ) → hand_of past ≡ Reads last message tag size sofar read → IsFaultless tag size (read ++ bytes)
    → IsFaultless r.piece.tag r.piece.size (r.piece.bytes ++ bytes)
good_read s past head bytes a b asked r last tag size message sofar read was f =
    subst (λ (l : List ℕ). IsFaultless r.piece.tag r.piece.size l) (ap (λ (w : Hand). bytes_in bytes w) both)
    (subst (λ (n : ℕ). IsFaultless r.piece.tag n (read ++ bytes)) (ap (λ (w : Hand). size_in w) both)
    (subst (λ (n : ℕ). IsFaultless n size (read ++ bytes)) (ap (λ (w : Hand). tag_in w) both) f))
  where
    both : Reads last message tag size sofar read ≡ Reads (message_end a.ticket past) b.message r.piece.tag r.piece.size (data_in r.earlier) r.piece.bytes
    both = sym was ∙ reads_is past a.ticket b a.hand a.lives asked r.piece r.earlier r.ended r.has (ap (λ (o : Option ℕ). is_some o) r.unread)

full_fine : (head : RetSubmitHead) (bytes : List ℕ) (piece : Piece) → piece.over ≡ None → head.actual ≡ 4096 → IsFaultless piece.tag piece.size (piece.bytes ++ bytes)
    → first_fault (transfer_faults (extended head bytes piece)) ≡ None
full_fine head bytes piece unread full f =
    ap (λ (p : Piece). first_fault (transfer_faults p)) (extended_full head bytes piece full)
    ∙ faultless (record piece { bytes = piece.bytes ++ bytes; full = piece.full + 1 }) f (λ (o : is_some piece.over ≡ true). clash (sym (ap (λ (w : Option ℕ). is_some w) unread) ∙ o))

short_fine : (head : RetSubmitHead) (bytes : List ℕ) (piece : Piece) → head.actual < 4096 → IsFaultless piece.tag piece.size (piece.bytes ++ bytes)
    → 12 + TransferSize (piece.bytes ++ bytes) ≤ length (piece.bytes ++ bytes) → first_fault (transfer_faults (extended head bytes piece)) ≡ None
short_fine head bytes piece short f whole =
    ap (λ (p : Piece). first_fault (transfer_faults p)) (extended_short head bytes piece short)
    ∙ faultless (record piece { bytes = piece.bytes ++ bytes; over = Some head.seqnum }) f (λ (o : true ≡ true). whole)

goes_good : Faults → (s : Setting) (past : Past) (head : RetSubmitHead) (bytes : List ℕ) (number : ℕ) (ups : List up.Message) (downs : List Put) (state : State) (a : Answered past head)
    → IsSimple s → Stands s past → head.status ≡ pos 0 → Goes (hand_of past) (head_of s a.number a.order) head.actual bytes number ups downs state
    → ends_by s past (down.RetSubmit head bytes) ≡ None
goes_good faults s past head bytes number ups downs state a simple st e g = by g
  where
    i : InHand s past a.ticket
    i = st.hand a.ticket a.hand a.lives

    out : outstanding past ≢ []
    out f = let k : record { number = a.number; owner = Of a.ticket; order = a.order } ∷ [] ≡ [] = sym a.was ∙ f in cc

    is_read : endpoint_of s.ends a.order ≡ 2 → a.order ≡ Read
    is_read f = is_read_of s a.order simple a.plain f

    r : endpoint_of s.ends a.order ≡ 2 → Reading s past a.ticket i.asking
    r f = reading s past a.ticket i.asking (a.last_is ∙ ap (λ (k : Order). Some k) (is_read f)) out i.stage

    judged_read : (f : endpoint_of s.ends a.order ≡ 2) → first_fault (transfer_faults (extended head bytes (r f).piece)) ≡ None → ends_by s past (down.RetSubmit head bytes) ≡ None
    judged_read f none =
        by_order s past head bytes a e
        (subst (λ (k : Order). refused s a.ticket k past head bytes ≡ None) (sym (is_read f)) (read_whole s past head bytes a i.asking i.asked (r f) none))

    ended_good : (eom : Bool) (f : endpoint_of s.ends a.order ≡ 2) (last tag size : ℕ) (message sofar read carried : List ℕ) → hand_of past ≡ Reads last message tag size sofar read
        → head.actual < 4096 → IsPiece tag size eom carried (read ++ bytes) → ends_by s past (down.RetSubmit head bytes) ≡ None
    ended_good eom f last tag size message sofar read carried was short p =
        let w = faults.whole tag size eom carried (read ++ bytes) p in
        let both : Reads last message tag size sofar read ≡ Reads (message_end a.ticket past) i.asking.message (r f).piece.tag (r f).piece.size (data_in (r f).earlier) (r f).piece.bytes =
        sym was ∙ reads_is past a.ticket i.asking a.hand a.lives i.asked (r f).piece (r f).earlier (r f).ended (r f).has (ap (λ (o : Option ℕ). is_some o) (r f).unread) in
        judged_read f
        (short_fine head bytes (r f).piece short (good_read s past head bytes a i.asking i.asked (r f) last tag size message sofar read was w.0)
        (subst (λ (l : List ℕ). 12 + TransferSize l ≤ length l) (ap (λ (z : Hand). bytes_in bytes z) both) w.1.complete))

    by : Goes (hand_of past) (head_of s a.number a.order) head.actual bytes number ups downs state → ends_by s past (down.RetSubmit head bytes) ≡ None
    by (TakesTransfer ep actual none tie) = by_order s past head bytes a e (out_whole s past head bytes a a.order a.plain (not_read_of s a.order simple ep) actual)
    by (TakesFull last tag size message sofar read was ep actual full begins tie) =
        judged_read ep
        (full_fine head bytes (r ep).piece (r ep).unread (actual ∙ full)
        (good_read s past head bytes a i.asking i.asked (r ep) last tag size message sofar read was (faults.begun tag size (read ++ bytes) begins)))
    by (TakesLast last tag size message sofar read carried was ep actual short p x tie) =
        ended_good true ep last tag size message sofar read carried was (omega (arith, actual, short)) p
    by (TakesPiece last tag size message sofar read carried response was ep actual short p x front longer tie) =
        ended_good false ep last tag size message sofar read carried was (omega (arith, actual, short)) p

-- ---- so no answer ends the hub

pub answer_good : Laws → Faults → (s : Setting) (past : Past) (answer : down.Message) (bytes read this more : List ℕ) (steps : List RunStep) (state : State) → IsSimple s → Lawful s past
    → ended past ≡ None → MayTake (crossings s past) answer → IsJoined s past bytes read steps state → out_bytes steps ≡ read ++ (this ++ more)
    → SpellsAnswer (entries_of (urbs.outstanding (crossings s past))) answer this → (ends_by s past answer ≡ None) × IsServed (Took answer)
answer_good laws faults s past (down.RetUnlink head) bytes read this more steps state simple h running may j told spelled_as =
    unlink_never s past head this h (stands s past simple h j.plain j.served running).out spelled_as
answer_good laws faults s past (down.RetSubmit head data_bytes) bytes read this more steps state simple h running may j told spelled_as =
    (goes_good faults s past head data_bytes (next s.first past) x.ups x.downs state a simple st x.status x.goes, x.status)
  where
    st : Stands s past
    st = stands s past simple h j.plain j.served running

    a : Answered past head
    a = answered_one s past head data_bytes h may st.out

    x : Expected s past a.number a.order head data_bytes (next s.first past) bytes (read ++ this) steps state
    x = expected s past a.number a.order head data_bytes (next s.first past) bytes read this steps state
        (next_answer laws s past bytes read this more steps state a.number a.ticket a.order (down.RetSubmit head data_bytes) h a.plain a.was
        (joint_now s past bytes read steps state running j) told spelled_as)

-- ---- nor do bytes

pub bytes_good : (refusal : (devid : ℕ) (hand : Hand) (waits : Option SubmitHead) (next : ℕ) (written read rest more : List ℕ) (steps : List RunStep) (state : State) (f : Field)
    → Joint devid hand waits next written read steps state → out_bytes steps ≡ read ++ (rest ++ more) → BadAt Urbs (entries_for waits) rest f → ⊥)
    → (s : Setting) (past : Past) (bytes read rest more : List ℕ) (steps : List RunStep) (state : State) (f : Field) → IsSimple s → Lawful s past → ended past ≡ None
    → IsJoined s past bytes read steps state → out_bytes steps ≡ read ++ (rest ++ more) → BadAt Urbs (entries_of (urbs.outstanding (crossings s past))) rest f → ⊥
bytes_good refusal s past bytes read rest more steps state f simple h running j told bad = by (stands s past simple h j.plain j.served running).out
  where
    now : Joint s.devid (hand_of past) (waits_of s past) (next s.first past) bytes read steps state
    now = joint_now s past bytes read steps state running j

    by : Out past → ⊥
    by (NoneOut e) =
        let entries : entries_of (urbs.outstanding (crossings s past)) ≡ [] =
        ap (λ (xs : List Awaited). entries_of xs) (sym (same_outstanding s past h)) ∙ ap (λ (xs : List Sent). entries_of (awaited_by s xs)) e in
        refusal s.devid (hand_of past) None (next s.first past) bytes read rest more steps state f
        (subst (λ (xs : List Sent). Joint s.devid (hand_of past) (waits_in s xs) (next s.first past) bytes read steps state) e now) told
        (subst (λ (es : List Outstanding). BadAt Urbs es rest f) entries bad)
    by (OneOut t n k p e hand lives l) =
        refusal s.devid (hand_of past) (Some (head_of s n k)) (next s.first past) bytes read rest more steps state f
        (subst (λ (m : up.Message). Joint s.devid (hand_of past) (head_in m) (next s.first past) bytes read steps state) (is_submit s n k p)
        (subst (λ (xs : List Sent). Joint s.devid (hand_of past) (waits_in s xs) (next s.first past) bytes read steps state) e now)) told
        (subst (λ (es : List Outstanding). BadAt Urbs es rest f) (entries_same s past n t k h p e) bad)

-- ---- the record goes on

pub joined_on : Laws → Faults → (s : Setting) (past more : Past) (bytes read all behind : List ℕ) (steps : List RunStep) (state : State) → IsSimple s → Lawful s (more ++ past) → All IsPlain more
    → IsJoined s past bytes read steps state → ReadsOn s more past read all → out_bytes steps ≡ all ++ behind
    → IsJoined s (more ++ past) (bytes ++ spelled (written s more)) all steps state
joined_on laws faults s past [] bytes read all behind steps state simple h p j r told =
    subst (λ (l : List ℕ). IsJoined s past (bytes ++ []) l steps state) (sym r) (subst (λ (l : List ℕ). IsJoined s past l read steps state) (sym (append-nil bytes)) j)
joined_on laws faults s past (Wrote n (Of t) k ∷ more) bytes read all behind steps state simple h p j r told =
    subst (λ (l : List ℕ). IsJoined s (Wrote n (Of t) k ∷ (more ++ past)) l all steps state)
    (append_assoc bytes (spelled (written s more)) (bytes_of (order.message_of s n k)) ∙ ap (λ (l : List ℕ). bytes ++ l) (sym (spelled_more (written s more) (order.message_of s n k))))
    (joined_wrote laws s (more ++ past) n t k (bytes ++ spelled (written s more)) all steps state simple p.0 h
    (joined_on laws faults s past more bytes read all behind steps state simple h.0 p.1 j r told))
joined_on laws faults s past (Wrote n Recovery k ∷ more) bytes read all behind steps state simple h p j r told = absurd p.0
joined_on laws faults s past (Took (down.RetSubmit head data_bytes) ∷ more) bytes read all behind steps state simple h p j r told =
    let split : out_bytes steps ≡ r.0 ++ (r.1 ++ behind) = told ∙ (ap (λ (l : List ℕ). l ++ behind) r.3 ∙ append_assoc r.0 r.1 behind) in
    subst (λ (l : List ℕ). IsJoined s (Took (down.RetSubmit head data_bytes) ∷ (more ++ past)) (bytes ++ spelled (written s more)) l steps state) (sym r.3)
    (joined_took laws s (more ++ past) head data_bytes (bytes ++ spelled (written s more)) r.0 r.1 behind steps state simple h
    (joined_on laws faults s past more bytes read r.0 (r.1 ++ behind) steps state simple h.0 p.1 j r.2 split) split r.4)
joined_on laws faults s past (Took (down.RetUnlink head) ∷ more) bytes read all behind steps state simple h p j r told =
    let split : out_bytes steps ≡ r.0 ++ (r.1 ++ behind) = told ∙ (ap (λ (l : List ℕ). l ++ behind) r.3 ∙ append_assoc r.0 r.1 behind) in
    let before = joined_on laws faults s past more bytes read r.0 (r.1 ++ behind) steps state simple h.0 p.1 j r.2 split in
    unlink_never s (more ++ past) head r.1 h.0 (stands s (more ++ past) simple h.0 before.plain before.served h.1.0.running).out r.4
joined_on laws faults s past (Fell answer e ∷ more) bytes read all behind steps state simple h p j r told =
    let split : out_bytes steps ≡ r.0 ++ (r.1 ++ behind) = told ∙ (ap (λ (l : List ℕ). l ++ behind) r.3 ∙ append_assoc r.0 r.1 behind) in
    let before = joined_on laws faults s past more bytes read r.0 (r.1 ++ behind) steps state simple h.0 p.1 j r.2 split in
    let good = answer_good laws faults s (more ++ past) answer (bytes ++ spelled (written s more)) r.0 r.1 behind steps state simple h.0 h.1.0.running h.1.1 before split r.4 in
    absurd (no (sym good.0 ∙ h.1.2))
  where
    no : None ≡ Some e → ⊥
    no f = cc
joined_on laws faults s past (Stopped e ∷ more) bytes read all behind steps state simple h p j r told =
    joined_stopped s (more ++ past) e (bytes ++ spelled (written s more)) all steps state (joined_on laws faults s past more bytes read all behind steps state simple h.0 p.1 j r told)
joined_on laws faults s past (Recovers ∷ more) bytes read all behind steps state simple h p j r told = absurd p.0
joined_on laws faults s past (Asked u b ∷ more) bytes read all behind steps state simple h p j r told =
    joined_asked s (more ++ past) u b (bytes ++ spelled (written s more)) all steps state p.0 h (joined_on laws faults s past more bytes read all behind steps state simple h.0 p.1 j r told)
joined_on laws faults s past (Cancelled u ∷ more) bytes read all behind steps state simple h p j r told = absurd p.0
joined_on laws faults s past (Cleared w ∷ more) bytes read all behind steps state simple h p j r told = absurd p.0
joined_on laws faults s past (GaveUp ∷ more) bytes read all behind steps state simple h p j r told =
    joined_given s (more ++ past) (bytes ++ spelled (written s more)) all steps state h.1.0.running (joined_on laws faults s past more bytes read all behind steps state simple h.0 p.1 j r told)
joined_on laws faults s past (Settled t o ∷ more) bytes read all behind steps state simple h p j r told =
    joined_settles laws s (more ++ past) t o (bytes ++ spelled (written s more)) all steps state simple h (joined_on laws faults s past more bytes read all behind steps state simple h.0 p.1 j r told)
