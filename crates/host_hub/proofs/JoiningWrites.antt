-- a hub that is joined to a device writes a message
use Rattle.std.proofs.Common.{◌≡◌, ℕ, ◌+◌, ◌-◌, ◌*◌, ◌<◌, ◌≤◌, min, nat_le, take, drop, Bool, true, false, List, [], ◌∷◌, ◌++◌, length, Option, Some, None, refl, sym, subst, ◌∙◌, ap, arith}
use Rattle.std.specs.Prelude.{◌==◌, ◌%◌, is_some, if◌then◌else◌}
use Rattle.std.proofs.lemmas.Bool.{eqb-true}
use Rattle.std.proofs.lemmas.List.{length-replicate, length-take}
use Rattle.tmc_base.specs.declared.run_step.RunStep.{RunStep}
use Rattle.tmc_base.specs.Told.{out_bytes}
use Rattle.usbip_wire.specs.declared.submit.SubmitHead.{SubmitHead}
use Rattle.usbip_wire.specs.Down as down
use Rattle.usbip_wire.specs.Down.{SpellsAnswer}
use Rattle.usbip_wire.specs.Submit.{submit_bytes, unused}
use Rattle.usbip_wire.specs.Up as up
use Rattle.tmc_wire.specs.declared.header.InHeader.{InHeader}
use Rattle.tmc_wire.specs.Transfer.{InText, alignment_of}
use Rattle.instr_plain.specs.declared.log.LogEntry.{LogEntry}
use Rattle.tmc_law.specs.State.{State}
use Rattle.tmc_law.specs.Put.{Put}
use Rattle.host_transfers.specs.Piece.{data_of, eom_of}
use Rattle.host_joint.specs.Hand.{Hand, Free, Said, Pauses, Writes}
use Rattle.host_joint.specs.Joint.{Joint, IsNextAnswer, entries_for}
use Rattle.host_joint.specs.Stage.{Ran}
use Rattle.host_joint.specs.Tie.{Tie}
use Rattle.host_hub.specs.declared.outcome.End.{End}
use Rattle.host_hub.specs.Order.{Order, Read, Setting, size_of, text_of}
use Rattle.host_hub.specs.Order as order
use Rattle.host_hub.specs.Record.{Asking, Of, Past, Wrote, next}
use Rattle.host_hub.specs.Calls.{All}
use Rattle.host_hub.specs.Hand.{ended}
use Rattle.host_hub.specs.Joined.{IsJoined, IsPlain, IsPlainOrder, IsServed, IsSimple, OwnsPiece, OwnsWhole, hand_of, head_in, ran, waits_in, waits_of}
use Rattle.host_hub.specs.Law.{Lawful}
use Rattle.host_hub.specs.Outstanding.{Sent}
use Rattle.host_hub.specs.Owned.{IsFront}
use Rattle.host_hub.specs.Pieces.{Piece, data_in, got, opened, pieces, requested}
use Rattle.host_hub.specs.Plan.{ended_at, message_end, next_tag, part_of, parts}
use Rattle.host_hub.specs.Tied.{bytes_of}
use Rattle.host_hub.proofs.InHand.{head_of, is_submit, spells, wrote_writes}
use Rattle.host_hub.proofs.Lists.{clash}
use Rattle.host_hub.proofs.Numbered.{submit_last}
use Rattle.host_hub.proofs.Numbers.{may_next}
use Rattle.host_hub.proofs.Plain.{BeginsWith, GoesOnWith, Move, ReadsWith, RequestsFirst, RequestsNext, Stands, plain_proper, planned_of}
use Rattle.host_hub.proofs.PlainWrites.{Moves, later, moves, pieces_wrote}
use Rattle.host_hub.proofs.PlainStands.{stands}
use Rattle.host_hub.proofs.Quiets.{proper_plain}
use Rattle.host_hub.proofs.Within.{none_unbegun}

-- ---- what host_joint and the lower crates say

pub record Laws : Type 0 where
  pub writes : (devid : ℕ) (before after : Hand) (head : SubmitHead) (bytes text : List ℕ) (next : ℕ) (written read : List ℕ) (steps : List RunStep) (s : State)
      → Writes before head bytes after → head.seqnum ≡ next → up.Spells devid (up.Submit head bytes) text
      → Joint devid before None next written read steps s → Joint devid after (Some head) (next + 1) (written ++ text) read steps s
  pub answer : (devid : ℕ) (hand : Hand) (head : SubmitHead) (next : ℕ) (written read this more : List ℕ) (message : down.Message) (steps : List RunStep) (s : State)
      → Joint devid hand (Some head) next written read steps s → out_bytes steps ≡ read ++ (this ++ more)
      → SpellsAnswer (entries_for (Some head)) message this → IsNextAnswer devid hand head message next written read this steps s
  pub told : (last : ℕ) (message : List ℕ) (next : ℕ) (ups : List up.Message) (downs : List Put) (s : State) → Tie (Said last message) None next ups downs s → Tie Free None next ups downs s
  pub read : (last : ℕ) (message sofar : List ℕ) (next : ℕ) (ups : List up.Message) (downs : List Put) (s : State)
      → Tie (Pauses last message sofar) None next ups downs s → Tie Free None next ups downs s
  pub holds : (header : InHeader) (message bytes : List ℕ) → InText header message bytes → data_of bytes ≡ message
  pub eom : (header : InHeader) (message bytes : List ℕ) → InText header message bytes → eom_of bytes ≡ header.eom

-- ---- the record up to the end

pub ran_running : (past : Past) → ended past ≡ None → ran past ≡ past
ran_running [] e = refl
ran_running (x ∷ past) e = ap (λ (o : Option End). if is_some o then ran past else x ∷ past) e

pub joint_now : (s : Setting) (past : Past) (bytes read : List ℕ) (steps : List RunStep) (state : State) → ended past ≡ None → IsJoined s past bytes read steps state
    → Joint s.devid (hand_of past) (waits_of s past) (next s.first past) bytes read steps state
joint_now s past bytes read steps state e j =
    subst (λ (p : Past). Joint s.devid (hand_of p) (waits_of s past) (next s.first past) bytes read steps state) (ran_running past e) j.joint

pub joined_with : (s : Setting) (past : Past) (bytes read : List ℕ) (steps : List RunStep) (state : State) → ended past ≡ None → All IsPlain past → All IsServed past → OwnsWhole past state.log
    → Joint s.devid (hand_of past) (waits_of s past) (next s.first past) bytes read steps state → IsJoined s past bytes read steps state
joined_with s past bytes read steps state e p v o j = record {
  plain = p;
  served = v;
  joint = subst (λ (q : Past). Joint s.devid (hand_of q) (waits_of s past) (next s.first past) bytes read steps state) (sym (ran_running past e)) j;
  owns = o;
}

-- what is the same of a ticket
pub owns_kept : (past new : Past) (t : ℕ) (a : Asking) (piece : Piece) (log : List LogEntry) → message_end t new ≡ message_end t past → got t new ≡ got t past
    → OwnsPiece past t a piece log → OwnsPiece new t a piece log
owns_kept past new t a piece log e f o = record {
  response = o.response;
  ran = subst (λ (n : ℕ). Ran n a.message o.response log) (sym e) o.ran;
  front = subst (λ (l : List ℕ). IsFront l o.response) (sym f) o.front;
  some = subst (λ (l : List ℕ). 1 ≤ length l) (sym f) o.some;
  whole = λ (k : eom_of piece.bytes ≡ true). f ∙ o.whole k;
  more = λ (k : eom_of piece.bytes ≡ false). subst (λ (l : List ℕ). length l < length o.response) (sym f) (o.more k);
}

-- ---- a submit is written

opened_ends : (past : Past) (n t : ℕ) (a : Asking) (k : Order) (s : Setting) (piece : Piece) (earlier : List Piece) → Move s past t a k → opened n k (pieces t past) ≡ piece ∷ earlier
    → is_some piece.over ≡ true → ⊥
opened_ends past n t a k s piece earlier (BeginsWith fresh e) q over =
    let none : pieces t past ≡ [] = none_unbegun t past fresh in
    no (nat_le (length a.message) (1024 * (0 + 1))) (subst (λ (ps : List Piece). opened n (part_of (next_tag past) 0 a.message) ps ≡ piece ∷ earlier) none
    (subst (λ (j : Order). opened n j (pieces t past) ≡ piece ∷ earlier) e q))
  where
    no : (b : Bool) → [] ≡ piece ∷ earlier → ⊥
    no b f = cc
opened_ends past n t a k s piece earlier (GoesOnWith hand m none more e) q over =
    no (subst (λ (ps : List Piece). opened n (part_of (next_tag past) (parts t past) a.message) ps ≡ piece ∷ earlier) none
    (subst (λ (j : Order). opened n j (pieces t past) ≡ piece ∷ earlier) e q))
  where
    no : [] ≡ piece ∷ earlier → ⊥
    no f = cc
opened_ends past n t a k s piece earlier (RequestsFirst hand ask m none e) q over =
    let size : ℕ = min (a.limit - length (data_in (pieces t past))) 16384 in
    let f : requested n (next_tag past) size ∷ pieces t past ≡ piece ∷ earlier = subst (λ (j : Order). opened n j (pieces t past) ≡ piece ∷ earlier) e q in
    let is : requested n (next_tag past) size ≡ piece = cc in
    clash (ap (λ (p : Piece). is_some p.over) is ∙ over)
opened_ends past n t a k s piece earlier (RequestsNext one rest hand ask m some over_one unmade e) q over =
    let size : ℕ = min (a.limit - length (data_in (pieces t past))) 16384 in
    let f : requested n (next_tag past) size ∷ pieces t past ≡ piece ∷ earlier = subst (λ (j : Order). opened n j (pieces t past) ≡ piece ∷ earlier) e q in
    let is : requested n (next_tag past) size ≡ piece = cc in
    clash (ap (λ (p : Piece). is_some p.over) is ∙ over)
opened_ends past n t a k s piece earlier (ReadsWith one rest hand ask m some none shut e) q over =
    let f : record one { reads = one.reads + 1 } ∷ rest ≡ piece ∷ earlier =
    subst (λ (ps : List Piece). opened n Read ps ≡ piece ∷ earlier) some (subst (λ (j : Order). opened n j (pieces t past) ≡ piece ∷ earlier) e q) in
    let is : record one { reads = one.reads + 1 } ≡ piece = cc in
    clash (sym (ap (λ (o : Option ℕ). is_some o) none) ∙ (ap (λ (p : Piece). is_some p.over) is ∙ over))

owns_wrote : (s : Setting) (past : Past) (n t : ℕ) (a : Asking) (k : Order) (log : List LogEntry) → Move s past t a k → OwnsWhole past log → OwnsWhole (Wrote n (Of t) k ∷ past) log
owns_wrote s past n t a k log m owns u b piece earlier asked q over = by (t == u) refl
  where
    new : Past
    new = Wrote n (Of t) k ∷ past

    by : (c : Bool) → (t == u) ≡ c → OwnsPiece new u b piece log
    by true e =
        absurd (opened_ends past n t a k s piece earlier m (sym (pieces_wrote past n t k) ∙ subst (λ (v : ℕ). pieces v new ≡ piece ∷ earlier) (sym (eqb-true t u e)) q) over)
    by false e =
        let there : pieces u new ≡ pieces u past = ap (λ (c : Bool). if c then opened n k (pieces u past) else pieces u past) e in
        owns_kept past new u b piece log (ap (λ (c : Bool). if c then ended_at n k (message_end u past) else message_end u past) e) (ap data_in there)
        (owns u b piece earlier asked (sym there ∙ q) over)

-- no submit is long
alignment_short : (n : ℕ) → length (alignment_of n) ≤ 3
alignment_short n = omega (arith, length-replicate {A = ℕ} ((4 - n % 4) % 4) 0)

part_short : (s : Setting) (tag count : ℕ) (message : List ℕ) → size_of s.ends (part_of tag count message) ≤ 70000
part_short s tag count message =
    omega (arith, length-take 1024 (drop (1024 * count) message), alignment_short (length (take 1024 (drop (1024 * count) message))))

pub sizes : (s : Setting) (past : Past) (t : ℕ) (a : Asking) (k : Order) → Move s past t a k → size_of s.ends k ≤ 70000
sizes s past t a k (BeginsWith fresh e) = subst (λ (j : Order). size_of s.ends j ≤ 70000) (sym e) (part_short s (next_tag past) 0 a.message)
sizes s past t a k (GoesOnWith hand m q more e) = subst (λ (j : Order). size_of s.ends j ≤ 70000) (sym e) (part_short s (next_tag past) (parts t past) a.message)
sizes s past t a k (RequestsFirst hand ask m q e) = subst (λ (j : Order). size_of s.ends j ≤ 70000) (sym e) (omega arith)
sizes s past t a k (RequestsNext piece earlier hand ask m q over unmade e) = subst (λ (j : Order). size_of s.ends j ≤ 70000) (sym e) (omega arith)
sizes s past t a k (ReadsWith piece earlier hand ask m q over shut e) = subst (λ (j : Order). size_of s.ends j ≤ 70000) (sym e) (omega arith)

pub joined_wrote : Laws → (s : Setting) (past : Past) (n t : ℕ) (k : Order) (bytes read : List ℕ) (steps : List RunStep) (state : State) → IsSimple s → IsPlainOrder k
    → Lawful s (Wrote n (Of t) k ∷ past) → IsJoined s past bytes read steps state
    → IsJoined s (Wrote n (Of t) k ∷ past) (bytes ++ bytes_of (order.message_of s n k)) read steps state
joined_wrote laws s past n t k bytes read steps state simple p h j =
    joined_with s new (bytes ++ bytes_of (order.message_of s n k)) read steps state running (p, j.plain) (tt, j.served)
    (owns_wrote s past n t m.asking k state.log m.move j.owns)
    (subst (λ (msg : up.Message). Joint s.devid (hand_of new) (head_in msg) (next s.first past + 1) (bytes ++ bytes_of msg) read steps state) (sym (is_submit s n k p)) wrote)
  where
    new : Past
    new = Wrote n (Of t) k ∷ past

    running : ended past ≡ None
    running = h.1.0.running

    st : Stands s past
    st = stands s past simple h.0 j.plain j.served running

    m : Moves s past t k
    m = moves s past n t k simple j.plain p h st

    numbered : n ≡ next s.first past
    numbered = may_next s past n k h.1.1

    before : Joint s.devid (hand_of past) None (next s.first past) bytes read steps state
    before = subst (λ (xs : List Sent). Joint s.devid (hand_of past) (waits_in s xs) (next s.first past) bytes read steps state) m.free (joint_now s past bytes read steps state running j)

    wrote : Joint s.devid (hand_of new) (Some (head_of s n k)) (next s.first past + 1) (bytes ++ submit_bytes (head_of s n k) unused (text_of k)) read steps state
    wrote =
        laws.writes s.devid (hand_of past) (hand_of new) (head_of s n k) (text_of k) (submit_bytes (head_of s n k) unused (text_of k)) (next s.first past) bytes read steps state
        (wrote_writes s past n t m.asking simple (later s past n t k simple h) m.lives m.asked m.plain k h.0 (planned_of s past t k p h.1.2).turn m.move)
        numbered
        (spells s n k simple p (omega (arith, submit_last s past n k (proper_plain k (plain_proper k p)) h.1.1)) (sizes s past t m.asking k m.move))
        before
