-- a hub that is joined to a device takes an answer
use Rattle.std.proofs.Common.{◌≡◌, ◌≢◌, ℕ, pos, ◌+◌, ◌<◌, ◌≤◌, Bool, true, false, List, [], ◌∷◌, ◌++◌, length, Option, Some, None, refl, sym, subst, ◌∙◌, ap, arith, length-append}
use Rattle.std.specs.Prelude.{◌==◌, is_some, if◌then◌else◌}
use Rattle.std.proofs.lemmas.Bool.{eqb-true, le-ltb, lt-ltb}
use Rattle.std.proofs.lemmas.List.{append-nil}
use Rattle.tmc_base.specs.declared.run_step.RunStep.{RunStep}
use Rattle.tmc_base.specs.Told.{out_bytes}
use Rattle.usbip_wire.specs.declared.dirs.Outstanding.{Outstanding}
use Rattle.usbip_wire.specs.declared.dirs.Outstanding.TheVariants.{Submit}
use Rattle.usbip_wire.specs.declared.ret_unlink.RetUnlinkHead.{RetUnlinkHead}
use Rattle.usbip_wire.specs.Dirs as dirs
use Rattle.usbip_wire.specs.Dirs.{is_unlink}
use Rattle.usbip_wire.specs.declared.ret_submit.RetSubmitHead.{RetSubmitHead}
use Rattle.usbip_wire.specs.Awaited.{Awaited, entries_of, sent_by}
use Rattle.usbip_wire.specs.Down as down
use Rattle.usbip_wire.specs.Down.{SpellsAnswer}
use Rattle.usbip_wire.specs.Up as up
use Rattle.instr_plain.specs.declared.log.LogEntry.{LogEntry}
use Rattle.tmc_law.specs.State.{State}
use Rattle.tmc_law.specs.Put.{Put}
use Rattle.tmc_law.specs.Laws.{message_of}
use Rattle.host_transfers.specs.Piece.{data_of, eom_of}
use Rattle.host_joint.specs.Hand.{Hand, Free, Reads, Pauses}
use Rattle.host_joint.specs.Joint.{Joint, IsNextAnswer, entries_for}
use Rattle.host_joint.specs.Pieces.{IsPiece, header_of}
use Rattle.host_joint.specs.Stage.{Ran}
use Rattle.host_joint.specs.Tie.{Goes, TakesFull, TakesLast, TakesPiece, TakesTransfer, Tie}
use Rattle.host_urbs.specs.Record as urbs
use Rattle.host_hub.specs.Order.{Order, Part, Read, Request, Setting, Trigger, Listen, Class, ClearHalt, Unlink, endpoint_of, size_of}
use Rattle.host_hub.specs.Order as order
use Rattle.host_hub.specs.Record.{Asking, Of, Past, Took, next, written}
use Rattle.host_hub.specs.Book.{asking_of, has, live}
use Rattle.host_hub.specs.Crossings.{crossings}
use Rattle.host_hub.specs.Hand.{ended}
use Rattle.host_hub.specs.Joined.{IsJoined, IsPlainOrder, IsSimple, OwnsPiece, OwnsWhole, hand_in, hand_of, hand_with, head_in, waits_in, waits_of}
use Rattle.host_hub.specs.Law.{Lawful}
use Rattle.host_hub.specs.Outstanding.{Sent, awaited_by, outstanding}
use Rattle.host_hub.specs.Owned.{IsFront}
use Rattle.host_hub.specs.Pieces.{Piece, answered, answered_for, data_in, extended, got, pieces}
use Rattle.host_hub.specs.Plan.{last, message_end, parts}
use Rattle.host_hub.proofs.InHand.{head_of, is_submit, pauses_is, reads_is, whole_is}
use Rattle.host_hub.proofs.Lists.{clash}
use Rattle.host_hub.proofs.Numbers.{same_outstanding}
use Rattle.host_hub.proofs.Plain.{AtEnd, AtPart, AtRead, AtRequest, InHand, NoneOut, OneOut, Out, Stage, Stands}
use Rattle.host_hub.proofs.PlainAnswers.{Answered, answered_one, pieces_out, pieces_read, pieces_took}
use Rattle.host_hub.proofs.PlainStands.{stands}
use Rattle.host_hub.proofs.JoiningWrites.{Laws, joined_with, joint_now, owns_kept}

-- ---- an answer is taken

pub is_read_of : (s : Setting) (k : Order) → IsSimple s → IsPlainOrder k → endpoint_of s.ends k ≡ 2 → k ≡ Read
is_read_of s (Part tag text eom) simple p e = absurd (omega (arith, e, simple.writes_to))
is_read_of s (Request tag size) simple p e = absurd (omega (arith, e, simple.writes_to))
is_read_of s Read simple p e = refl
is_read_of s (Trigger tag) simple p e = absurd p
is_read_of s Listen simple p e = absurd p
is_read_of s (Class request) simple p e = absurd p
is_read_of s (ClearHalt endpoint) simple p e = absurd p
is_read_of s (Unlink target) simple p e = absurd p

pub not_read_of : (s : Setting) (k : Order) → IsSimple s → endpoint_of s.ends k ≡ 1 → k ≡ Read → ⊥
not_read_of s k simple e f = let g : endpoint_of s.ends Read ≡ 1 = subst (λ (j : Order). endpoint_of s.ends j ≡ 1) f e in omega (arith, g, simple.reads_from)

-- the entries that the reader of answers knows
pub entries_same : (s : Setting) (past : Past) (n t : ℕ) (k : Order) → Lawful s past → IsPlainOrder k → outstanding past ≡ record { number = n; owner = Of t; order = k } ∷ []
    → entries_of (urbs.outstanding (crossings s past)) ≡ entries_for (Some (head_of s n k))
entries_same s past n t k h p e =
    ap (λ (xs : List Awaited). entries_of xs) (sym (same_outstanding s past h))
    ∙ (ap (λ (xs : List Sent). entries_of (awaited_by s xs)) e ∙ ap (λ (m : up.Message). entries_of ([] ++ sent_by m ∷ [])) (is_submit s n k p))

-- a piece that is read has these facts
pub record Reading (s : Setting) (past : Past) (t : ℕ) (a : Asking) : Type 0 where
  pub piece : Piece
  pub earlier : List Piece
  pub ended : (message_end t past == 0) ≡ false
  pub has : pieces t past ≡ piece ∷ earlier
  pub unread : piece.over ≡ None
  pub unshut : piece.shut ≡ None

pub reading : (s : Setting) (past : Past) (t : ℕ) (a : Asking) → last t past ≡ Some Read → outstanding past ≢ [] → Stage s past t a → Reading s past t a
reading s past t a l out (AtPart k text m e q more) = let f : Some (Part k text false) ≡ Some Read = sym m ∙ l in cc
reading s past t a l out (AtEnd k text m e q) = let f : Some (Part k text true) ≡ Some Read = sym m ∙ l in cc
reading s past t a l out (AtRequest k size piece earlier ask m e q over shut) = let f : Some (Request k size) ≡ Some Read = sym m ∙ l in cc
reading s past t a l out (AtRead piece earlier ask m e q over shut unmade) = record { piece = piece; earlier = earlier; ended = e; has = q; unread = over out; unshut = shut }

pub extended_full : (head : RetSubmitHead) (bytes : List ℕ) (piece : Piece) → head.actual ≡ 4096 → extended head bytes piece ≡ record piece { bytes = piece.bytes ++ bytes; full = piece.full + 1 }
extended_full head bytes piece e = ap (λ (b : Bool). grown b) (le-ltb head.actual 4096 (omega (arith, e)))
  where
    grown : Bool → Piece
    grown b = if b then record piece { bytes = piece.bytes ++ bytes; over = Some head.seqnum } else record piece { bytes = piece.bytes ++ bytes; full = piece.full + 1 }

pub extended_short : (head : RetSubmitHead) (bytes : List ℕ) (piece : Piece) → head.actual < 4096 → extended head bytes piece ≡ record piece { bytes = piece.bytes ++ bytes; over = Some head.seqnum }
extended_short head bytes piece e = ap (λ (b : Bool). grown b) (lt-ltb head.actual 4096 e)
  where
    grown : Bool → Piece
    grown b = if b then record piece { bytes = piece.bytes ++ bytes; over = Some head.seqnum } else record piece { bytes = piece.bytes ++ bytes; full = piece.full + 1 }

-- what a read makes of a hand
abbrev more_read : List ℕ → Hand → Hand
more_read more (Reads last message tag size sofar read) = Reads last message tag size sofar (read ++ more)
more_read more hand = Free

abbrev paused : List ℕ → Hand → Hand
paused more (Reads last message tag size sofar read) = Pauses last message (sofar ++ data_of (read ++ more))
paused more hand = Free

abbrev pub last_in : Hand → ℕ
last_in (Reads last message tag size sofar read) = last
last_in hand = 0

abbrev pub message_in : Hand → List ℕ
message_in (Reads last message tag size sofar read) = message
message_in hand = []

abbrev held_in : List ℕ → Hand → List ℕ
held_in more (Reads last message tag size sofar read) = sofar ++ data_of (read ++ more)
held_in more hand = []

abbrev pub bytes_in : List ℕ → Hand → List ℕ
bytes_in more (Reads last message tag size sofar read) = read ++ more
bytes_in more hand = []

-- behind an answer: what is in hand, and whose bytes the tickets have
pub record Behind (past : Past) (head : RetSubmitHead) (bytes : List ℕ) (next : ℕ) (ups : List up.Message) (downs : List Put) (state : State) : Type 0 where
  pub tie : Tie (hand_of (Took (down.RetSubmit head bytes) ∷ past)) None next ups downs state
  pub owns : OwnsWhole (Took (down.RetSubmit head bytes) ∷ past) state.log

module _ (s : Setting) (past : Past) (head : RetSubmitHead) (bytes : List ℕ) (a : Answered past head) where
  same_hand : pieces a.ticket (Took (down.RetSubmit head bytes) ∷ past) ≡ pieces a.ticket past → hand_of (Took (down.RetSubmit head bytes) ∷ past) ≡ hand_of past
  same_hand e =
      ap (λ (o : Option ℕ). hand_in o (Took (down.RetSubmit head bytes) ∷ past)) a.hand
      ∙ (ap (λ (ps : List Piece). if has a.ticket (live past) then hand_with (asking_of a.ticket past) (message_end a.ticket past) (parts a.ticket past) ps else Free) e
      ∙ ap (λ (o : Option ℕ). hand_in o past) (sym a.hand))

  -- another ticket keeps what it has
  owns_other : (u : ℕ) (b : Asking) (piece : Piece) (earlier : List Piece) (log : List LogEntry) → (a.ticket == u) ≡ false → OwnsWhole past log → asking_of u past ≡ Some b
      → pieces u (Took (down.RetSubmit head bytes) ∷ past) ≡ piece ∷ earlier → is_some piece.over ≡ true → OwnsPiece (Took (down.RetSubmit head bytes) ∷ past) u b piece log
  owns_other u b piece earlier log e owns asked q over =
      let there : pieces u (Took (down.RetSubmit head bytes) ∷ past) ≡ pieces u past =
      ap (λ (o : Option Sent). answered_for u o head bytes (pieces u past)) a.found ∙ ap (λ (c : Bool). if c then answered a.order head bytes (pieces u past) else pieces u past) e in
      owns_kept past (Took (down.RetSubmit head bytes) ∷ past) u b piece log refl (ap data_in there) (owns u b piece earlier asked (sym there ∙ q) over)

  owns_with : (log : List LogEntry) → OwnsWhole past log
      → ((b : Asking) (piece : Piece) (earlier : List Piece) → asking_of a.ticket past ≡ Some b → pieces a.ticket (Took (down.RetSubmit head bytes) ∷ past) ≡ piece ∷ earlier
      → is_some piece.over ≡ true → OwnsPiece (Took (down.RetSubmit head bytes) ∷ past) a.ticket b piece log)
      → OwnsWhole (Took (down.RetSubmit head bytes) ∷ past) log
  owns_with log owns own_one u b piece earlier asked q over = by (a.ticket == u) refl
    where
      by : (c : Bool) → (a.ticket == u) ≡ c → OwnsPiece (Took (down.RetSubmit head bytes) ∷ past) u b piece log
      by false e = owns_other u b piece earlier log e owns asked q over
      by true e =
          let is : a.ticket ≡ u = eqb-true a.ticket u e in
          subst (λ (v : ℕ). OwnsPiece (Took (down.RetSubmit head bytes) ∷ past) v b piece log) is
          (own_one b piece earlier (subst (λ (v : ℕ). asking_of v past ≡ Some b) (sym is) asked)
          (subst (λ (v : ℕ). pieces v (Took (down.RetSubmit head bytes) ∷ past) ≡ piece ∷ earlier) (sym is) q) over)

  -- a transfer was taken
  behind_transfer : (next : ℕ) (ups : List up.Message) (downs : List Put) (state : State) → (a.order ≡ Read → ⊥) → head.status ≡ pos 0 → OwnsWhole past state.log
      → Tie (hand_of past) None next ups downs state → Behind past head bytes next ups downs state
  behind_transfer next ups downs state other e owns tie = record {
    tie = subst (λ (w : Hand). Tie w None next ups downs state) (sym (same_hand there)) tie;
    owns = owns_with state.log owns (λ b piece earlier asked q over.
        owns_kept past (Took (down.RetSubmit head bytes) ∷ past) a.ticket b piece state.log refl (ap data_in there) (owns a.ticket b piece earlier asked (sym there ∙ q) over));
  }
    where
      there : pieces a.ticket (Took (down.RetSubmit head bytes) ∷ past) ≡ pieces a.ticket past
      there = pieces_took past head bytes a e ∙ pieces_out a.order head bytes (pieces a.ticket past) a.plain other e

  module _ (b : Asking) (asked : asking_of a.ticket past ≡ Some b) (is_read : a.order ≡ Read) (e : head.status ≡ pos 0) (r : Reading s past a.ticket b) where
    was_read : hand_of past ≡ Reads (message_end a.ticket past) b.message r.piece.tag r.piece.size (data_in r.earlier) r.piece.bytes
    was_read = reads_is past a.ticket b a.hand a.lives asked r.piece r.earlier r.ended r.has (ap (λ (o : Option ℕ). is_some o) r.unread)

    has_now : pieces a.ticket (Took (down.RetSubmit head bytes) ∷ past) ≡ extended head bytes r.piece ∷ r.earlier
    has_now = pieces_took past head bytes a e
        ∙ (ap (λ (k : Order). answered k head bytes (pieces a.ticket past)) is_read
        ∙ (ap (λ (ps : List Piece). answered Read head bytes ps) r.has ∙ pieces_read head bytes r.piece r.earlier e r.unread r.unshut))

    -- a read came full
    behind_full : (next : ℕ) (ups : List up.Message) (downs : List Put) (state : State) (last tag size : ℕ) (message sofar read : List ℕ) → head.actual ≡ 4096
        → hand_of past ≡ Reads last message tag size sofar read → OwnsWhole past state.log
        → Tie (Reads last message tag size sofar (read ++ bytes)) None next ups downs state → Behind past head bytes next ups downs state
    behind_full next ups downs state last tag size message sofar read full was owns tie = record {
      tie = subst (λ (w : Hand). Tie w None next ups downs state) now tie;
      owns = owns_with state.log owns (λ d piece earlier ask q over. absurd (no piece earlier q over));
    }
      where
        there : pieces a.ticket (Took (down.RetSubmit head bytes) ∷ past) ≡ record r.piece { bytes = r.piece.bytes ++ bytes; full = r.piece.full + 1 } ∷ r.earlier
        there = has_now ∙ ap (λ (one : Piece). one ∷ r.earlier) (extended_full head bytes r.piece full)

        now : Reads last message tag size sofar (read ++ bytes) ≡ hand_of (Took (down.RetSubmit head bytes) ∷ past)
        now = ap (λ (w : Hand). more_read bytes w) (sym was ∙ was_read)
            ∙ sym (reads_is (Took (down.RetSubmit head bytes) ∷ past) a.ticket b a.hand a.lives asked (record r.piece { bytes = r.piece.bytes ++ bytes; full = r.piece.full + 1 }) r.earlier
            r.ended there (ap (λ (o : Option ℕ). is_some o) r.unread))

        no : (piece : Piece) (earlier : List Piece) → pieces a.ticket (Took (down.RetSubmit head bytes) ∷ past) ≡ piece ∷ earlier → is_some piece.over ≡ true → ⊥
        no piece earlier q over =
            let f : record r.piece { bytes = r.piece.bytes ++ bytes; full = r.piece.full + 1 } ∷ r.earlier ≡ piece ∷ earlier = sym there ∙ q in
            let is : record r.piece { bytes = r.piece.bytes ++ bytes; full = r.piece.full + 1 } ≡ piece = cc in
            clash (sym (ap (λ (o : Option ℕ). is_some o) r.unread) ∙ (ap (λ (one : Piece). is_some one.over) is ∙ over))

    -- a short read ended the piece
    module _ (short : head.actual < 4096) where
      there_now : pieces a.ticket (Took (down.RetSubmit head bytes) ∷ past) ≡ record r.piece { bytes = r.piece.bytes ++ bytes; over = Some head.seqnum } ∷ r.earlier
      there_now = has_now ∙ ap (λ (one : Piece). one ∷ r.earlier) (extended_short head bytes r.piece short)

      got_now : got a.ticket (Took (down.RetSubmit head bytes) ∷ past) ≡ data_in r.earlier ++ data_of (r.piece.bytes ++ bytes)
      got_now = ap data_in there_now

      owns_short : (log : List LogEntry) → OwnsWhole past log
          → OwnsPiece (Took (down.RetSubmit head bytes) ∷ past) a.ticket b (record r.piece { bytes = r.piece.bytes ++ bytes; over = Some head.seqnum }) log
          → OwnsWhole (Took (down.RetSubmit head bytes) ∷ past) log
      owns_short log owns one = owns_with log owns (λ d piece earlier ask q over. by d piece earlier ask q)
        where
          by : (d : Asking) (piece : Piece) (earlier : List Piece) → asking_of a.ticket past ≡ Some d → pieces a.ticket (Took (down.RetSubmit head bytes) ∷ past) ≡ piece ∷ earlier
              → OwnsPiece (Took (down.RetSubmit head bytes) ∷ past) a.ticket d piece log
          by d piece earlier ask q =
              let f : record r.piece { bytes = r.piece.bytes ++ bytes; over = Some head.seqnum } ∷ r.earlier ≡ piece ∷ earlier = sym there_now ∙ q in
              let is : record r.piece { bytes = r.piece.bytes ++ bytes; over = Some head.seqnum } ≡ piece = cc in
              let g : Some b ≡ Some d = sym asked ∙ ask in
              let same_one : b ≡ d = cc in
              subst (λ (w : Asking). OwnsPiece (Took (down.RetSubmit head bytes) ∷ past) a.ticket w piece log) same_one
              (subst (λ (w : Piece). OwnsPiece (Took (down.RetSubmit head bytes) ∷ past) a.ticket b w log) is one)

      module _ (laws : Laws) (last tag size : ℕ) (message sofar read carried : List ℕ) (eom : Bool) (was : hand_of past ≡ Reads last message tag size sofar read)
          (piece_is : IsPiece tag size eom carried (read ++ bytes)) where
        joined_hands : Reads last message tag size sofar read ≡ Reads (message_end a.ticket past) b.message r.piece.tag r.piece.size (data_in r.earlier) r.piece.bytes
        joined_hands = sym was ∙ was_read

        carried_is : carried ≡ data_of (read ++ bytes)
        carried_is = sym (laws.holds (header_of tag (length carried) eom) carried (read ++ bytes) piece_is.text)

        got_is : sofar ++ carried ≡ got a.ticket (Took (down.RetSubmit head bytes) ∷ past)
        got_is = ap (λ (l : List ℕ). sofar ++ l) carried_is ∙ (ap (λ (w : Hand). held_in bytes w) joined_hands ∙ sym got_now)

        eom_is : eom_of (r.piece.bytes ++ bytes) ≡ eom
        eom_is = ap (λ (w : Hand). eom_of (bytes_in bytes w)) (sym joined_hands) ∙ laws.eom (header_of tag (length carried) eom) carried (read ++ bytes) piece_is.text

        some_now : 1 ≤ length (got a.ticket (Took (down.RetSubmit head bytes) ∷ past))
        some_now = subst (λ (l : List ℕ). 1 ≤ length l) got_is (omega (arith, length-append sofar carried, piece_is.some))

        ran_now : (response : List ℕ) (log : List LogEntry) → Ran last message response log → Ran (message_end a.ticket past) b.message response log
        ran_now response log x =
            subst (λ (n : ℕ). Ran n b.message response log) (ap (λ (w : Hand). last_in w) joined_hands)
            (subst (λ (m : List ℕ). Ran last m response log) (ap (λ (w : Hand). message_in w) joined_hands) x)

      -- with EOM the response is whole
      behind_whole : Laws → (next : ℕ) (ups : List up.Message) (downs : List Put) (state : State) (last tag size : ℕ) (message sofar read carried : List ℕ)
          → hand_of past ≡ Reads last message tag size sofar read → IsPiece tag size true carried (read ++ bytes) → Ran last message (sofar ++ carried) state.log
          → OwnsWhole past state.log → Tie Free None next ups downs state → Behind past head bytes next ups downs state
      behind_whole laws next ups downs state last tag size message sofar read carried was piece_is x owns tie = record {
        tie = subst (λ (w : Hand). Tie w None next ups downs state) (sym now) tie;
        owns = owns_short state.log owns (record {
          response = got a.ticket (Took (down.RetSubmit head bytes) ∷ past);
          ran = subst (λ (l : List ℕ). Ran (message_end a.ticket past) b.message l state.log) (got_is laws last tag size message sofar read carried true was piece_is)
              (ran_now laws last tag size message sofar read carried true was piece_is (sofar ++ carried) state.log x);
          front = ([], sym (append-nil (got a.ticket (Took (down.RetSubmit head bytes) ∷ past))));
          some = some_now laws last tag size message sofar read carried true was piece_is;
          whole = λ (f : eom_of (r.piece.bytes ++ bytes) ≡ true). refl;
          more = λ (f : eom_of (r.piece.bytes ++ bytes) ≡ false). clash (sym f ∙ eom_is laws last tag size message sofar read carried true was piece_is);
        });
      }
        where
          now : hand_of (Took (down.RetSubmit head bytes) ∷ past) ≡ Free
          now = whole_is (Took (down.RetSubmit head bytes) ∷ past) a.ticket b a.hand a.lives asked (record r.piece { bytes = r.piece.bytes ++ bytes; over = Some head.seqnum }) r.earlier r.ended there_now refl
              (eom_is laws last tag size message sofar read carried true was piece_is)

      -- without EOM it is longer
      behind_piece : Laws → (next : ℕ) (ups : List up.Message) (downs : List Put) (state : State) (last tag size : ℕ) (message sofar read carried response : List ℕ)
          → hand_of past ≡ Reads last message tag size sofar read → IsPiece tag size false carried (read ++ bytes) → Ran last message response state.log
          → IsFront (sofar ++ carried) response → length (sofar ++ carried) < length response
          → OwnsWhole past state.log → Tie (Pauses last message (sofar ++ carried)) None next ups downs state → Behind past head bytes next ups downs state
      behind_piece laws next ups downs state last tag size message sofar read carried response was piece_is x front longer owns tie = record {
        tie = subst (λ (w : Hand). Tie w None next ups downs state) now tie;
        owns = owns_short state.log owns (record {
          response = response;
          ran = ran_now laws last tag size message sofar read carried false was piece_is response state.log x;
          front = subst (λ (l : List ℕ). IsFront l response) (got_is laws last tag size message sofar read carried false was piece_is) front;
          some = some_now laws last tag size message sofar read carried false was piece_is;
          whole = λ (f : eom_of (r.piece.bytes ++ bytes) ≡ true). clash (sym (eom_is laws last tag size message sofar read carried false was piece_is) ∙ f);
          more = λ (f : eom_of (r.piece.bytes ++ bytes) ≡ false). subst (λ (l : List ℕ). length l < length response) (got_is laws last tag size message sofar read carried false was piece_is) longer;
        });
      }
        where
          now : Pauses last message (sofar ++ carried) ≡ hand_of (Took (down.RetSubmit head bytes) ∷ past)
          now = ap (λ (l : List ℕ). Pauses last message (sofar ++ l)) (carried_is laws last tag size message sofar read carried false was piece_is)
              ∙ (ap (λ (w : Hand). paused bytes w) (joined_hands laws last tag size message sofar read carried false was piece_is)
              ∙ sym (pauses_is (Took (down.RetSubmit head bytes) ∷ past) a.ticket b a.hand a.lives asked (record r.piece { bytes = r.piece.bytes ++ bytes; over = Some head.seqnum }) r.earlier
              r.ended there_now refl (eom_is laws last tag size message sofar read carried false was piece_is)))

-- any answer
pub behind : Laws → (s : Setting) (past : Past) (head : RetSubmitHead) (bytes : List ℕ) (next : ℕ) (ups : List up.Message) (downs : List Put) (state : State) (a : Answered past head)
    → IsSimple s → Stands s past → head.status ≡ pos 0 → OwnsWhole past state.log
    → Goes (hand_of past) (head_of s a.number a.order) head.actual bytes next ups downs state → Behind past head bytes next ups downs state
behind laws s past head bytes next ups downs state a simple st e owns g = by g
  where
    i : InHand s past a.ticket
    i = st.hand a.ticket a.hand a.lives

    out : outstanding past ≢ []
    out f = let k : record { number = a.number; owner = Of a.ticket; order = a.order } ∷ [] ≡ [] = sym a.was ∙ f in cc

    is_read : endpoint_of s.ends a.order ≡ 2 → a.order ≡ Read
    is_read f = is_read_of s a.order simple a.plain f

    r : endpoint_of s.ends a.order ≡ 2 → Reading s past a.ticket i.asking
    r f = reading s past a.ticket i.asking (a.last_is ∙ ap (λ (k : Order). Some k) (is_read f)) out i.stage

    by : Goes (hand_of past) (head_of s a.number a.order) head.actual bytes next ups downs state → Behind past head bytes next ups downs state
    by (TakesTransfer ep actual none tie) = behind_transfer s past head bytes a next ups downs state (not_read_of s a.order simple ep) e owns tie
    by (TakesFull last tag size message sofar read was ep actual full begins tie) =
        behind_full s past head bytes a i.asking i.asked (is_read ep) e (r ep) next ups downs state last tag size message sofar read (actual ∙ full) was owns tie
    by (TakesLast last tag size message sofar read carried was ep actual short piece_is x tie) =
        behind_whole s past head bytes a i.asking i.asked (is_read ep) e (r ep) (omega (arith, actual, short)) laws next ups downs state last tag size message sofar read carried was piece_is x owns tie
    by (TakesPiece last tag size message sofar read carried response was ep actual short piece_is x front longer tie) =
        behind_piece s past head bytes a i.asking i.asked (is_read ep) e (r ep) (omega (arith, actual, short)) laws next ups downs state last tag size message sofar read carried response was piece_is x front longer owns tie

-- ---- the next answer

-- what host_joint says of it, where the record has it
pub next_answer : Laws → (s : Setting) (past : Past) (bytes read this more : List ℕ) (steps : List RunStep) (state : State) (n t : ℕ) (k : Order) (message : down.Message)
    → Lawful s past → IsPlainOrder k → outstanding past ≡ record { number = n; owner = Of t; order = k } ∷ []
    → Joint s.devid (hand_of past) (waits_of s past) (next s.first past) bytes read steps state → out_bytes steps ≡ read ++ (this ++ more)
    → SpellsAnswer (entries_of (urbs.outstanding (crossings s past))) message this
    → IsNextAnswer s.devid (hand_of past) (head_of s n k) message (next s.first past) bytes read this steps state
next_answer laws s past bytes read this more steps state n t k message h p e joint told spelled_as =
    laws.answer s.devid (hand_of past) (head_of s n k) (next s.first past) bytes read this more message steps state
    (subst (λ (m : up.Message). Joint s.devid (hand_of past) (head_in m) (next s.first past) bytes read steps state) (is_submit s n k p)
    (subst (λ (xs : List Sent). Joint s.devid (hand_of past) (waits_in s xs) (next s.first past) bytes read steps state) e joint))
    told (subst (λ (es : List Outstanding). SpellsAnswer es message this) (entries_same s past n t k h p e) spelled_as)

pub record Expected (s : Setting) (past : Past) (n : ℕ) (k : Order) (head : RetSubmitHead) (bytes : List ℕ) (number : ℕ) (written read : List ℕ) (steps : List RunStep) (state : State) : Type 0 where
  pub ups : List up.Message
  pub downs : List Put
  pub status : head.status ≡ pos 0
  pub named : head.seqnum ≡ n
  pub goes : Goes (hand_of past) (head_of s n k) head.actual bytes number ups downs state
  pub later : (after : Hand) → Tie after None number ups downs state → Joint s.devid after None number written read steps state

pub expected : (s : Setting) (past : Past) (n : ℕ) (k : Order) (head : RetSubmitHead) (bytes : List ℕ) (number : ℕ) (written read this : List ℕ) (steps : List RunStep) (state : State)
    → IsNextAnswer s.devid (hand_of past) (head_of s n k) (down.RetSubmit head bytes) number written read this steps state
    → Expected s past n k head bytes number written (read ++ this) steps state
expected s past n k head bytes number written read this steps state x = record {
  ups = x.ups;
  downs = x.downs;
  status = subst (λ (w : RetSubmitHead). w.status ≡ pos 0) same_head x.given.status;
  named = subst (λ (w : RetSubmitHead). w.seqnum ≡ n) same_head x.given.number;
  goes = subst (λ (l : List ℕ). Goes (hand_of past) (head_of s n k) head.actual l number x.ups x.downs state) same_bytes
      (subst (λ (w : RetSubmitHead). Goes (hand_of past) (head_of s n k) w.actual x.given.transferred number x.ups x.downs state) same_head x.given.goes);
  later = x.later;
}
  where
    is : down.RetSubmit x.given.answer x.given.transferred ≡ down.RetSubmit head bytes
    is = ap message_of (sym x.given.is) ∙ x.is

    same_head : x.given.answer ≡ head
    same_head = cc

    same_bytes : x.given.transferred ≡ bytes
    same_bytes = cc

pub joined_took : Laws → (s : Setting) (past : Past) (head : RetSubmitHead) (data_bytes bytes read this more : List ℕ) (steps : List RunStep) (state : State) → IsSimple s
    → Lawful s (Took (down.RetSubmit head data_bytes) ∷ past) → IsJoined s past bytes read steps state → out_bytes steps ≡ read ++ (this ++ more)
    → SpellsAnswer (entries_of (urbs.outstanding (crossings s past))) (down.RetSubmit head data_bytes) this
    → IsJoined s (Took (down.RetSubmit head data_bytes) ∷ past) bytes (read ++ this) steps state
joined_took laws s past head data_bytes bytes read this more steps state simple h j told spelled_as =
    joined_with s new bytes (read ++ this) steps state running (tt, j.plain) (x.status, j.served) b.owns
    (subst (λ (xs : List Sent). Joint s.devid (hand_of new) (waits_in s xs) (next s.first past) bytes (read ++ this) steps state) (sym a.none_left) (x.later (hand_of new) b.tie))
  where
    new : Past
    new = Took (down.RetSubmit head data_bytes) ∷ past

    running : ended past ≡ None
    running = h.1.0.running

    st : Stands s past
    st = stands s past simple h.0 j.plain j.served running

    a : Answered past head
    a = answered_one s past head data_bytes h.0 h.1.1 st.out

    x : Expected s past a.number a.order head data_bytes (next s.first past) bytes (read ++ this) steps state
    x = expected s past a.number a.order head data_bytes (next s.first past) bytes read this steps state
        (next_answer laws s past bytes read this more steps state a.number a.ticket a.order (down.RetSubmit head data_bytes) h.0 a.plain a.was
        (joint_now s past bytes read steps state running j) told spelled_as)

    b : Behind past head data_bytes (next s.first past) x.ups x.downs state
    b = behind laws s past head data_bytes (next s.first past) x.ups x.downs state a simple st x.status j.owns x.goes

-- an answer to an unlink comes to no such hub
pub unlink_never : {P : Type 0} (s : Setting) (past : Past) (head : RetUnlinkHead) (this : List ℕ) → Lawful s past → Out past
    → SpellsAnswer (entries_of (urbs.outstanding (crossings s past))) (down.RetUnlink head) this → P
unlink_never {P} s past head this h (NoneOut e) k = no (subst (λ (es : List Outstanding). is_unlink (dirs.find head.seqnum es) ≡ true) entries k.0)
  where
    entries : entries_of (urbs.outstanding (crossings s past)) ≡ []
    entries = ap (λ (xs : List Awaited). entries_of xs) (sym (same_outstanding s past h)) ∙ ap (λ (xs : List Sent). entries_of (awaited_by s xs)) e

    no : is_unlink (dirs.find head.seqnum []) ≡ true → P
    no f = clash f
unlink_never {P} s past head this h (OneOut t n k p e hand lives l) x =
    by (n == head.seqnum) (subst (λ (es : List Outstanding). is_unlink (dirs.find head.seqnum es) ≡ true) (entries_same s past n t k h p e) x.0)
  where
    by : (b : Bool) → is_unlink (if b then Some (Submit n (order.way_of k) (size_of s.ends k)) else None) ≡ true → P
    by true f = clash f
    by false f = clash f
