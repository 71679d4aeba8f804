-- a hub that is joined to a device stays so, whatever happens at it
use Rattle.std.proofs.Common.{◌≡◌, ◌⊎◌, ℕ, Bool, true, false, List, [], ◌∷◌, ◌++◌, Option, Some, None, inl, inr, refl, sym, subst, ◌∙◌, ap, arith}
use Rattle.std.specs.Prelude.{◌==◌, is_some, if◌then◌else◌}
use Rattle.std.proofs.lemmas.Bool.{eqb-true}
use Rattle.tmc_base.specs.declared.run_step.RunStep.{RunStep}
use Rattle.tmc_law.specs.State.{State}
use Rattle.host_transfers.specs.Piece.{eom_of}
use Rattle.host_joint.specs.Hand.{Hand, Free, Said, Pauses}
use Rattle.host_joint.specs.Joint.{Joint}
use Rattle.host_hub.specs.declared.outcome.End.{End}
use Rattle.host_hub.specs.declared.outcome.Outcome.{Outcome}
use Rattle.host_hub.specs.Order.{Part, Read, Request, Setting}
use Rattle.host_hub.specs.Record.{Asked, Asking, GaveUp, Past, Settled, Stopped, next}
use Rattle.host_hub.specs.Book.{asking_of, has, live, remove}
use Rattle.host_hub.specs.Causes.{cause}
use Rattle.host_hub.specs.Hand.{ended, in_hand}
use Rattle.host_hub.specs.Joined.{IsJoined, IsPlain, IsSimple, OwnsPiece, OwnsWhole, hand_in, hand_of, hand_with, ran, waits_in, waits_of}
use Rattle.host_hub.specs.Law.{Lawful}
use Rattle.host_hub.specs.Outstanding.{Sent, outstanding}
use Rattle.host_hub.specs.Pieces.{Piece, data_in, pieces}
use Rattle.host_hub.specs.Plan.{last, message_end, parts}
use Rattle.host_hub.proofs.InHand.{free_is, pauses_is, said_is, whole_is}
use Rattle.host_hub.proofs.Lists.{clash, differ, has_added, has_front, has_removed}
use Rattle.host_hub.proofs.Pasts.{begun_known, hand_begun, unasked_begun}
use Rattle.host_hub.proofs.Plain.{AtEnd, AtPart, AtRead, AtRequest, HasCome, InHand, IsMade, Stage, Stands, Told, made_free}
use Rattle.host_hub.proofs.PlainStands.{stands}
use Rattle.host_hub.proofs.Within.{none_unbegun}
use Rattle.host_hub.proofs.JoiningWrites.{Laws, joined_with, joint_now, owns_kept}

-- ---- the book

joined_settled : Laws → (s : Setting) (past : Past) (t : ℕ) (o : Outcome) (bytes read : List ℕ) (steps : List RunStep) (state : State) → IsSimple s → Lawful s (Settled t o ∷ past)
    → ended past ≡ None → IsJoined s past bytes read steps state → IsJoined s (Settled t o ∷ past) bytes read steps state
joined_settled laws s past t o bytes read steps state simple h running j =
    joined_with s new bytes read steps state running (tt, j.plain) (tt, j.served) (λ u b piece earlier asked q over. owns_kept past new u b piece state.log refl refl (j.owns u b piece earlier asked q over))
    (subst (λ (w : Hand). Joint s.devid w (waits_of s past) (next s.first past) bytes read steps state) (sym now) freed)
  where
    new : Past
    new = Settled t o ∷ past

    st : Stands s past
    st = stands s past simple h.0 j.plain j.served running

    before : Joint s.devid (hand_of past) (waits_of s past) (next s.first past) bytes read steps state
    before = joint_now s past bytes read steps state running j

    m : IsMade past t
    m = by (st.made t h.1.0)
      where
        by : (cause s t past ≡ None) ⊎ IsMade past t → IsMade past t
        by (inl c) = let k : None ≡ Some o = sym c ∙ h.1.1.caused in cc
        by (inr x) = x

    free : outstanding past ≡ []
    free = (made_free past t m).0

    hand : in_hand past ≡ Some t
    hand = (made_free past t m).1

    dead : has t (remove t (live past)) ≡ false
    dead = by (has t (remove t (live past))) refl
      where
        by : (b : Bool) → has t (remove t (live past)) ≡ b → has t (remove t (live past)) ≡ false
        by false e = e
        by true e = absurd ((has_removed t t (live past) e).1 refl)

    now : hand_of new ≡ Free
    now = free_is new t hand dead

    i : InHand s past t
    i = st.hand t hand h.1.0

    end_told : (last : ℕ) (message : List ℕ) → hand_of past ≡ Said last message → Joint s.devid Free (waits_of s past) (next s.first past) bytes read steps state
    end_told last message e =
        let w : Joint s.devid (Said last message) None (next s.first past) bytes read steps state =
        subst (λ (xs : List Sent). Joint s.devid (Said last message) (waits_in s xs) (next s.first past) bytes read steps state) free
        (subst (λ (z : Hand). Joint s.devid z (waits_of s past) (next s.first past) bytes read steps state) e before) in
        subst (λ (xs : List Sent). Joint s.devid Free (waits_in s xs) (next s.first past) bytes read steps state) (sym free)
        (record {
          coming = w.coming;
          ups = w.ups;
          sent = w.sent;
          spelled = w.spelled;
          behind = w.behind;
          downs = w.downs;
          given = w.given;
          put = w.put;
          accepted = w.accepted;
          tie = laws.told last message (next s.first past) w.ups w.downs state w.tie;
        })

    end_read : (last : ℕ) (message sofar : List ℕ) → hand_of past ≡ Pauses last message sofar → Joint s.devid Free (waits_of s past) (next s.first past) bytes read steps state
    end_read last message sofar e =
        let w : Joint s.devid (Pauses last message sofar) None (next s.first past) bytes read steps state =
        subst (λ (xs : List Sent). Joint s.devid (Pauses last message sofar) (waits_in s xs) (next s.first past) bytes read steps state) free
        (subst (λ (z : Hand). Joint s.devid z (waits_of s past) (next s.first past) bytes read steps state) e before) in
        subst (λ (xs : List Sent). Joint s.devid Free (waits_in s xs) (next s.first past) bytes read steps state) (sym free)
        (record {
          coming = w.coming;
          ups = w.ups;
          sent = w.sent;
          spelled = w.spelled;
          behind = w.behind;
          downs = w.downs;
          given = w.given;
          put = w.put;
          accepted = w.accepted;
          tie = laws.read last message sofar (next s.first past) w.ups w.downs state w.tie;
        })

    end_whole : hand_of past ≡ Free → Joint s.devid Free (waits_of s past) (next s.first past) bytes read steps state
    end_whole e = subst (λ (z : Hand). Joint s.devid z (waits_of s past) (next s.first past) bytes read steps state) e before

    over_hand : (piece : Piece) (earlier : List Piece) → pieces t past ≡ piece ∷ earlier → is_some piece.over ≡ true → Stage s past t i.asking
        → Joint s.devid Free (waits_of s past) (next s.first past) bytes read steps state
    over_hand piece earlier q over (AtPart k text l e none more) = let f : [] ≡ piece ∷ earlier = sym none ∙ q in cc
    over_hand piece earlier q over (AtEnd k text l e none) = let f : [] ≡ piece ∷ earlier = sym none ∙ q in cc
    over_hand piece earlier q over (AtRequest k size one rest ask l e has_one unread shut) =
        let f : one ∷ rest ≡ piece ∷ earlier = sym has_one ∙ q in
        let is : one ≡ piece = cc in
        clash (sym (ap (λ (w : Option ℕ). is_some w) unread) ∙ (ap (λ (w : Piece). is_some w.over) is ∙ over))
    over_hand piece earlier q over (AtRead one rest ask l e has_one unread shut unmade) = by (eom_of piece.bytes) refl
      where
        by : (b : Bool) → eom_of piece.bytes ≡ b → Joint s.devid Free (waits_of s past) (next s.first past) bytes read steps state
        by true f = end_whole (whole_is past t i.asking hand h.1.0 i.asked piece earlier e q over f)
        by false f = end_read (message_end t past) i.asking.message (data_in (piece ∷ earlier)) (pauses_is past t i.asking hand h.1.0 i.asked piece earlier e q over f)

    told_hand : (k : ℕ) (text : List ℕ) → last t past ≡ Some (Part k text true) → Stage s past t i.asking → Joint s.devid Free (waits_of s past) (next s.first past) bytes read steps state
    told_hand k text l (AtPart j other m e none more) = let f : Some (Part j other false) ≡ Some (Part k text true) = sym m ∙ l in cc
    told_hand k text l (AtEnd j other m e none) = end_told (message_end t past) i.asking.message (said_is past t i.asking hand h.1.0 i.asked e none)
    told_hand k text l (AtRequest j size one rest ask m e has_one unread shut) = let f : Some (Request j size) ≡ Some (Part k text true) = sym m ∙ l in cc
    told_hand k text l (AtRead one rest ask m e has_one unread shut unmade) = let f : Some Read ≡ Some (Part k text true) = sym m ∙ l in cc

    freed : Joint s.devid Free (waits_of s past) (next s.first past) bytes read steps state
    freed = by m
      where
        by : IsMade past t → Joint s.devid Free (waits_of s past) (next s.first past) bytes read steps state
        by (Told b k text asked tell l out hand_too) = told_hand k text l i.stage
        by (HasCome piece earlier q over out hand_too) = over_hand piece earlier q over i.stage

-- an ask
asked_hand : (s : Setting) (past : Past) (u : ℕ) (b : Asking) → Lawful s (Asked u b ∷ past) → hand_of (Asked u b ∷ past) ≡ hand_of past
asked_hand s past u b h = by (in_hand past) refl
  where
    new : Past
    new = Asked u b ∷ past

    other : (t : ℕ) → in_hand past ≡ Some t → u ≡ t → ⊥
    other t e f = omega (arith, f, h.1.1, begun_known s past h.0 t (hand_begun t past e))

    lives : (t : ℕ) → (u ≡ t → ⊥) → has t (live past ++ u ∷ []) ≡ has t (live past)
    lives t another = step (has t (live past)) refl (has t (live past ++ u ∷ [])) refl
      where
        step : (c : Bool) → has t (live past) ≡ c → (d : Bool) → has t (live past ++ u ∷ []) ≡ d → has t (live past ++ u ∷ []) ≡ has t (live past)
        step true e d f = has_front t u (live past) e ∙ sym e
        step false e false f = f ∙ sym e
        step false e true f = absurd (gone (has_added t u (live past) f))
          where
            gone : (has t (live past) ≡ true) ⊎ (u ≡ t) → ⊥
            gone (inl g) = clash (sym e ∙ g)
            gone (inr g) = another g

    by : (o : Option ℕ) → in_hand past ≡ o → hand_of new ≡ hand_of past
    by None e = ap (λ (o : Option ℕ). hand_in o new) e ∙ sym (ap (λ (o : Option ℕ). hand_in o past) e)
    by (Some t) e =
        ap (λ (o : Option ℕ). hand_in o new) e
        ∙ (ap (λ (c : Bool). if c then hand_with (asking_of t new) (message_end t past) (parts t past) (pieces t past) else Free) (lives t (other t e))
        ∙ (ap (λ (c : Bool). if has t (live past) then hand_with (if c then Some b else asking_of t past) (message_end t past) (parts t past) (pieces t past) else Free) (differ u t (other t e))
        ∙ sym (ap (λ (o : Option ℕ). hand_in o past) e)))

pub joined_asked : (s : Setting) (past : Past) (u : ℕ) (b : Asking) (bytes read : List ℕ) (steps : List RunStep) (state : State) → IsPlain (Asked u b) → Lawful s (Asked u b ∷ past)
    → IsJoined s past bytes read steps state → IsJoined s (Asked u b ∷ past) bytes read steps state
joined_asked s past u b bytes read steps state p h j =
    joined_with s new bytes read steps state h.1.0.running (p, j.plain) (tt, j.served) owns
    (subst (λ (w : Hand). Joint s.devid w (waits_of s past) (next s.first past) bytes read steps state) (sym (asked_hand s past u b h)) (joint_now s past bytes read steps state h.1.0.running j))
  where
    new : Past
    new = Asked u b ∷ past

    owns : OwnsWhole new state.log
    owns t a piece earlier asked q over = by (u == t) refl asked
      where
        by : (c : Bool) → (u == t) ≡ c → (if c then Some b else asking_of t past) ≡ Some a → OwnsPiece new t a piece state.log
        by false e asked_as = owns_kept past new t a piece state.log refl refl (j.owns t a piece earlier asked_as q over)
        by true e asked_as =
            let none : pieces t past ≡ [] = none_unbegun t past (unasked_begun s past h.0 t (let is : u ≡ t = eqb-true u t e in omega (arith, is, h.1.1))) in
            let f : [] ≡ piece ∷ earlier = sym none ∙ q in cc

-- ---- any happening

-- the end of a hub moves nothing
pub joined_stopped : (s : Setting) (past : Past) (e : End) (bytes read : List ℕ) (steps : List RunStep) (state : State) → IsJoined s past bytes read steps state
    → IsJoined s (Stopped e ∷ past) bytes read steps state
joined_stopped s past e bytes read steps state j = record {
  plain = (tt, j.plain);
  served = (tt, j.served);
  joint = j.joint;
  owns = λ u b piece earlier asked q over. owns_kept past (Stopped e ∷ past) u b piece state.log refl refl (j.owns u b piece earlier asked q over);
}

given_hand : (past : Past) (o : Option ℕ) → hand_in o (GaveUp ∷ past) ≡ hand_in o past
given_hand past None = refl
given_hand past (Some t) = refl

pub joined_given : (s : Setting) (past : Past) (bytes read : List ℕ) (steps : List RunStep) (state : State) → ended past ≡ None → IsJoined s past bytes read steps state
    → IsJoined s (GaveUp ∷ past) bytes read steps state
joined_given s past bytes read steps state running j =
    joined_with s (GaveUp ∷ past) bytes read steps state running (tt, j.plain) (tt, j.served)
    (λ u b piece earlier asked q over. owns_kept past (GaveUp ∷ past) u b piece state.log refl refl (j.owns u b piece earlier asked q over))
    (subst (λ (w : Hand). Joint s.devid w (waits_of s past) (next s.first past) bytes read steps state) (sym (given_hand past (in_hand past))) (joint_now s past bytes read steps state running j))

-- a ticket settles, while the hub runs or behind its end
pub joined_settles : Laws → (s : Setting) (past : Past) (t : ℕ) (o : Outcome) (bytes read : List ℕ) (steps : List RunStep) (state : State) → IsSimple s → Lawful s (Settled t o ∷ past)
    → IsJoined s past bytes read steps state → IsJoined s (Settled t o ∷ past) bytes read steps state
joined_settles laws s past t o bytes read steps state simple h j = by (ended past) refl
  where
    by : (e : Option End) → ended past ≡ e → IsJoined s (Settled t o ∷ past) bytes read steps state
    by None e = joined_settled laws s past t o bytes read steps state simple h e j
    by (Some d) e = record {
      plain = (tt, j.plain);
      served = (tt, j.served);
      joint = subst (λ (q : Past). Joint s.devid (hand_of q) (waits_of s past) (next s.first past) bytes read steps state)
          (sym (ap (λ (w : Option End). if is_some w then ran past else Settled t o ∷ past) e)) j.joint;
      owns = λ u b piece earlier asked q over. owns_kept past (Settled t o ∷ past) u b piece state.log refl refl (j.owns u b piece earlier asked q over);
    }
