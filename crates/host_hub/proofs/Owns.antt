-- the bytes of each ticket are a front of the response to its own message
use Rattle.std.proofs.Common.{◌≡◌, ◌≢◌, ◌⊎◌, ℕ, ◌<◌, ◌≤◌, not, Bool, true, false, List, [], ◌∷◌, ◌++◌, length, take, Option, Some, None, inl, inr, refl, sym, subst, ◌∙◌, ap, arith}
use Rattle.std.specs.Prelude.{◌==◌, is_some, if◌then◌else◌}
use Rattle.std.proofs.lemmas.Bool.{eqb-false, eqb-true}
use Rattle.std.proofs.Math.Seq.{take-append_seam}
use Rattle.usbip_wire.specs.Down as down
use Rattle.usbip_wire.specs.declared.submit.SubmitHead.{SubmitHead}
use Rattle.usbip_wire.specs.Up as up
use Rattle.instr_plain.specs.declared.log.LogEntry.{LogEntry}
use Rattle.instr_plain.specs.declared.log.LogEntry.TheVariants as entry
use Rattle.instr_plain.specs.declared.log.LogEntry.TheVariants.{Exec}
use Rattle.tmc_base.specs.declared.run_step.RunStep.{RunStep}
use Rattle.tmc_law.specs.Put.{Put}
use Rattle.tmc_law.specs.State.{State}
use Rattle.host_joint.specs.Hand.{Hand, Reads}
use Rattle.host_joint.specs.Stage as stage
use Rattle.host_joint.specs.Stage.{Ran}
use Rattle.host_joint.specs.Tie.{IsOwned, Owns, Tie}
use Rattle.host_transfers.specs.Piece.{data_of, eom_of}
use Rattle.host_hub.specs.declared.kind.Kind.{Kind}
use Rattle.host_hub.specs.declared.kind.Kind.TheVariants as kind
use Rattle.host_hub.specs.declared.outcome.End.{End}
use Rattle.host_hub.specs.declared.outcome.End.TheVariants as end
use Rattle.host_hub.specs.declared.outcome.Outcome.{Outcome}
use Rattle.host_hub.specs.declared.outcome.Outcome.TheVariants as outcome
use Rattle.host_hub.specs.BookSeen.{Seen}
use Rattle.host_hub.specs.Order as order
use Rattle.host_hub.specs.Order.{Class, ClearHalt, Listen, Order, Part, Read, Request, Setting, Unlink}
use Rattle.host_hub.specs.Record.{Asked, Asking, Cancelled, Cleared, Fell, GaveUp, Happening, Of, Past, Recovers, Recovery, Settled, Stopped, Took, Wrote, next}
use Rattle.host_hub.specs.Book.{active, asking_of, has, live, or_else, or_live, settled}
use Rattle.host_hub.specs.Calls.{All}
use Rattle.host_hub.specs.Causes.{cause, causes, ends_as, named, once_free, stops}
use Rattle.host_hub.specs.Hand.{ended, ended_by, in_hand}
use Rattle.host_hub.specs.Joined.{IsJoined, IsPlain, IsPlainAsking, IsPlainKind, IsPlainOrder, IsServed, IsSimple, hand_of, ran, waits_of}
use Rattle.host_hub.specs.Law.{Lawful}
use Rattle.host_hub.specs.Made.{Standing, made_at, piece_made, served, standing}
use Rattle.host_hub.specs.Outstanding.{Sent}
use Rattle.host_hub.specs.Owned.{Executed, IsFront, NoExec, Owned, WasExecuted}
use Rattle.host_hub.specs.Pieces.{Piece, answered, answered_for, data_in, got, opened, pieces}
use Rattle.host_hub.specs.Plan.{message_end}
use Rattle.host_hub.specs.Shown.{ShowsTicket}
use Rattle.host_hub.specs.Status.{awaits}
use Rattle.host_hub.proofs.InHand.{reads_is}
use Rattle.host_hub.proofs.JoiningWrites.{ran_running}
use Rattle.host_hub.proofs.Lists.{clash, first_has, has_front, has_other, same}
use Rattle.host_hub.proofs.Pasts.{begun_active, hand_begun, no_stop, settled_cause, unasked_cause}
use Rattle.host_hub.proofs.Plain.{AtEnd, AtPart, AtRead, AtRequest, HasCome, InHand, IsMade, Stage, Stands, Told, none_reached, plain_asking, planned_of}
use Rattle.host_hub.proofs.PlainAnswers.{Answered, answered_one, made_is, made_other}
use Rattle.host_hub.proofs.PlainStands.{stands}
use Rattle.host_hub.proofs.Within.{asks_alone, never_passes}

-- ---- the record up to the end

pub record RanAs (s : Setting) (past q : Past) : Type 0 where
  pub lawful : Lawful s q
  pub plain : All IsPlain q
  pub served : All IsServed q
  pub running : ended q ≡ None
  pub same_pieces : (t : ℕ) → pieces t q ≡ pieces t past
  pub same_end : (t : ℕ) → message_end t q ≡ message_end t past
  pub same_asking : (t : ℕ) → asking_of t q ≡ asking_of t past

ran_on : (s : Setting) (past : Past) (x : Happening) (q : Past) → ((t : ℕ) → pieces t (x ∷ past) ≡ pieces t past) → ((t : ℕ) → message_end t (x ∷ past) ≡ message_end t past)
    → ((t : ℕ) → asking_of t (x ∷ past) ≡ asking_of t past) → RanAs s past q → RanAs s (x ∷ past) q
ran_on s past x q e f g r = record {
  lawful = r.lawful;
  plain = r.plain;
  served = r.served;
  running = r.running;
  same_pieces = λ t. r.same_pieces t ∙ sym (e t);
  same_end = λ t. r.same_end t ∙ sym (f t);
  same_asking = λ t. r.same_asking t ∙ sym (g t);
}

pub ran_as : (s : Setting) (past : Past) → Lawful s past → All IsPlain past → All IsServed past → RanAs s past (ran past)
ran_as s [] h p v = record { lawful = tt; plain = tt; served = tt; running = refl; same_pieces = λ t. refl; same_end = λ t. refl; same_asking = λ t. refl }
ran_as s (x ∷ past) h p v = by (ended (x ∷ past)) refl (ran_as s past h.0 p.1 v.1)
  where
    over : (d : End) (y : Happening) → ended (y ∷ past) ≡ Some d → Lawful s (y ∷ past) → IsServed y → RanAs s past (ran past) → RanAs s (y ∷ past) (ran past)
    over d (Stopped e) f k w r = ran_on s past (Stopped e) (ran past) (λ t. refl) (λ t. refl) (λ t. refl) r
    over d (Settled t o) f k w r = ran_on s past (Settled t o) (ran past) (λ u. refl) (λ u. refl) (λ u. refl) r
    over d (Fell m e) f k w r = absurd w
    over d (Wrote n o j) f k w r = let g : None ≡ Some d = sym k.1.0.running ∙ f in cc
    over d (Took m) f k w r = let g : None ≡ Some d = sym k.1.0.running ∙ f in cc
    over d Recovers f k w r = let g : None ≡ Some d = sym k.1.0.running ∙ f in cc
    over d (Asked t a) f k w r = let g : None ≡ Some d = sym k.1.0.running ∙ f in cc
    over d (Cancelled t) f k w r = let g : None ≡ Some d = sym k.1.0.running ∙ f in cc
    over d (Cleared t) f k w r = let g : None ≡ Some d = sym k.1.0.running ∙ f in cc
    over d GaveUp f k w r = let g : None ≡ Some d = sym k.1.0.running ∙ f in cc

    by : (e : Option End) → ended (x ∷ past) ≡ e → RanAs s past (ran past) → RanAs s (x ∷ past) (ran (x ∷ past))
    by None e r = subst (λ (q : Past). RanAs s (x ∷ past) q) (sym (ran_running (x ∷ past) e))
        (record { lawful = h; plain = p; served = v; running = e; same_pieces = λ t. refl; same_end = λ t. refl; same_asking = λ t. refl })
    by (Some d) e r = subst (λ (q : Past). RanAs s (x ∷ past) q) (sym (ap (λ (w : Option End). if is_some w then ran past else x ∷ past) e)) (over d x e h v.0 r)

-- ---- a piece that goes on is of the ticket in hand

abbrev IsHeld : ℕ → Past → Type 0
IsHeld t past = (in_hand past ≡ Some t) × (has t (live past) ≡ true)

held : (s : Setting) (past : Past) → IsSimple s → Lawful s past → All IsPlain past → All IsServed past → ended past ≡ None → (t : ℕ) (piece : Piece) (earlier : List Piece)
    → pieces t past ≡ piece ∷ earlier → piece.over ≡ None → IsHeld t past
held s [] simple h p v running t piece earlier q unread = cc
held s (Wrote n (Of u) k ∷ past) simple h p v running t piece earlier q unread = by (u == t) refl (held s past simple h.0 p.1 v.1 running t)
  where
    turn : active past ≡ Some u
    turn = (planned_of s past u k p.0 h.1.2).turn

    by : (b : Bool) → (u == t) ≡ b → ((one : Piece) (rest : List Piece) → pieces t past ≡ one ∷ rest → one.over ≡ None → IsHeld t past) → IsHeld t (Wrote n (Of u) k ∷ past)
    by true e again = (ap (λ (v : ℕ). Some v) (eqb-true u t e), subst (λ (v : ℕ). has v (live past) ≡ true) (eqb-true u t e) (first_has u (live past) turn))
    by false e again =
        let there : pieces t past ≡ piece ∷ earlier = sym (ap (λ (c : Bool). if c then opened n k (pieces t past) else pieces t past) e) ∙ q in
        let w = again piece earlier there unread in
        absurd (eqb-false u t e (same u t (sym turn ∙ begun_active s past h.0 t w.1 (hand_begun t past w.0))))
held s (Wrote n Recovery k ∷ past) simple h p v running t piece earlier q unread = absurd p.0
held s (Took (down.RetSubmit head bytes) ∷ past) simple h p v running t piece earlier q unread = by (a.ticket == t) refl (held s past simple h.0 p.1 v.1 running t)
  where
    a : Answered past head
    a = answered_one s past head bytes h.0 h.1.1 (stands s past simple h.0 p.1 v.1 running).out

    by : (b : Bool) → (a.ticket == t) ≡ b → ((one : Piece) (rest : List Piece) → pieces t past ≡ one ∷ rest → one.over ≡ None → IsHeld t past) → IsHeld t (Took (down.RetSubmit head bytes) ∷ past)
    by true e again = (subst (λ (u : ℕ). in_hand past ≡ Some u) (eqb-true a.ticket t e) a.hand, subst (λ (u : ℕ). has u (live past) ≡ true) (eqb-true a.ticket t e) a.lives)
    by false e again =
        let there : pieces t (Took (down.RetSubmit head bytes) ∷ past) ≡ pieces t past =
        ap (λ (o : Option Sent). answered_for t o head bytes (pieces t past)) a.found ∙ ap (λ (c : Bool). if c then answered a.order head bytes (pieces t past) else pieces t past) e in
        again piece earlier (sym there ∙ q) unread
held s (Took (down.RetUnlink head) ∷ past) simple h p v running t piece earlier q unread = absurd v.0
held s (Fell m e ∷ past) simple h p v running t piece earlier q unread = absurd v.0
held s (Stopped e ∷ past) simple h p v running t piece earlier q unread = cc
held s (Recovers ∷ past) simple h p v running t piece earlier q unread = absurd p.0
held s (Asked u b ∷ past) simple h p v running t piece earlier q unread =
    let w = held s past simple h.0 p.1 v.1 running t piece earlier q unread in (w.0, has_front t u (live past) w.1)
held s (Cancelled u ∷ past) simple h p v running t piece earlier q unread = absurd p.0
held s (Cleared u ∷ past) simple h p v running t piece earlier q unread = absurd p.0
held s (GaveUp ∷ past) simple h p v running t piece earlier q unread = held s past simple h.0 p.1 v.1 running t piece earlier q unread
held s (Settled u o ∷ past) simple h p v running t piece earlier q unread = by (u == t) refl (held s past simple h.0 p.1 v.1 running t piece earlier q unread)
  where
    st : Stands s past
    st = stands s past simple h.0 p.1 v.1 running

    over : IsMade past u → pieces u past ≡ piece ∷ earlier → is_some piece.over ≡ true
    over (HasCome one rest e f free hand) g = let k : one ∷ rest ≡ piece ∷ earlier = sym e ∙ g in let is : one ≡ piece = cc in sym (ap (λ (w : Piece). is_some w.over) is) ∙ f
    over (Told a j text asked tell l free hand) g = absurd (none (st.hand u hand h.1.0).stage)
      where
        none : Stage s past u (st.hand u hand h.1.0).asking → ⊥
        none (AtPart m other x e f more) = let k : [] ≡ piece ∷ earlier = sym f ∙ g in cc
        none (AtEnd m other x e f) = let k : [] ≡ piece ∷ earlier = sym f ∙ g in cc
        none (AtRequest m size one rest ask x e f unread_one shut) = let k : Some (Request m size) ≡ Some (Part j text true) = sym x ∙ l in cc
        none (AtRead one rest ask x e f unread_one shut unmade) = let k : Some Read ≡ Some (Part j text true) = sym x ∙ l in cc

    made_now : (cause s u past ≡ None) ⊎ IsMade past u → IsMade past u
    made_now (inl c) = let k : None ≡ Some o = sym c ∙ h.1.1.caused in cc
    made_now (inr m) = m

    by : (b : Bool) → (u == t) ≡ b → IsHeld t past → IsHeld t (Settled u o ∷ past)
    by false e w = (w.0, has_other t u (live past) w.1 e)
    by true e w =
        let there : pieces u past ≡ piece ∷ earlier = subst (λ (z : ℕ). pieces z past ≡ piece ∷ earlier) (sym (eqb-true u t e)) q in
        clash (sym (ap (λ (z : Option ℕ). is_some z) unread) ∙ over (made_now (st.made u h.1.0)) there)

-- ---- what settles an ask by its response

abbrev ReadOut : ℕ → Outcome → List Piece → Type 0
ReadOut limit o ps =
    (piece : Piece) × (earlier : List Piece) × (ps ≡ piece ∷ earlier) × (is_some piece.over ≡ true) × (o ≡ outcome.Complete → eom_of piece.bytes ≡ true)
    × (o ≡ outcome.Limit → (eom_of piece.bytes ≡ false) × (length (data_in (piece ∷ earlier)) ≡ limit))

made_out : (limit : ℕ) (ps : List Piece) (o : Outcome) → piece_made limit ps ≡ Some o → ReadOut limit o ps
made_out limit [] o e = cc
made_out limit (piece ∷ earlier) o e = by (is_some piece.over) refl (eom_of piece.bytes) refl (length (data_in (piece ∷ earlier)) == limit) refl e
  where
    by : (a : Bool) → is_some piece.over ≡ a → (b : Bool) → eom_of piece.bytes ≡ b → (c : Bool) → (length (data_in (piece ∷ earlier)) == limit) ≡ c
        → (if not a then None else if b then Some outcome.Complete else if c then Some outcome.Limit else None) ≡ Some o → ReadOut limit o (piece ∷ earlier)
    by false f b g c k l = cc
    by true f true g c k l =
        let is : outcome.Complete ≡ o = cc in
        (piece, earlier, refl, f, (λ (m : o ≡ outcome.Complete). g), (λ (m : o ≡ outcome.Limit). let n : outcome.Complete ≡ outcome.Limit = is ∙ m in cc))
    by true f false g true k l =
        let is : outcome.Limit ≡ o = cc in
        (piece, earlier, refl, f, (λ (m : o ≡ outcome.Complete). let n : outcome.Limit ≡ outcome.Complete = is ∙ m in cc), (λ (m : o ≡ outcome.Limit). (g, eqb-true (length (data_in (piece ∷ earlier))) limit k)))
    by true f false g false k l = cc

-- the outcomes of a response that was read
abbrev IsOfRead : Outcome → Type 0
IsOfRead o = (o ≡ outcome.Complete) ⊎ (o ≡ outcome.Limit)

not_done : {P : Type 0} (o : Outcome) → IsOfRead o → outcome.Done ≡ o → P
not_done o (inl e) f = let g : outcome.Done ≡ outcome.Complete = f ∙ e in cc
not_done o (inr e) f = let g : outcome.Done ≡ outcome.Limit = f ∙ e in cc

not_named : {P : Type 0} (d : End) (o : Outcome) → IsOfRead o → named d ≡ o → P
not_named end.Unplugged o (inl e) f = let g : outcome.Unplugged ≡ outcome.Complete = f ∙ e in cc
not_named end.Unplugged o (inr e) f = let g : outcome.Unplugged ≡ outcome.Limit = f ∙ e in cc
not_named (end.DeviceFault x) o (inl e) f = let g : outcome.DeviceFault x ≡ outcome.Complete = f ∙ e in cc
not_named (end.DeviceFault x) o (inr e) f = let g : outcome.DeviceFault x ≡ outcome.Limit = f ∙ e in cc
not_named (end.DeviceSays x) o (inl e) f = let g : outcome.DeviceSays x ≡ outcome.Complete = f ∙ e in cc
not_named (end.DeviceSays x) o (inr e) f = let g : outcome.DeviceSays x ≡ outcome.Limit = f ∙ e in cc
not_named (end.PeerFault x) o (inl e) f = let g : outcome.PeerFault x ≡ outcome.Complete = f ∙ e in cc
not_named (end.PeerFault x) o (inr e) f = let g : outcome.PeerFault x ≡ outcome.Limit = f ∙ e in cc
not_named end.LinkFault o (inl e) f = let g : outcome.LinkFault ≡ outcome.Complete = f ∙ e in cc
not_named end.LinkFault o (inr e) f = let g : outcome.LinkFault ≡ outcome.Limit = f ∙ e in cc
not_named end.Exhausted o (inl e) f = let g : outcome.Exhausted ≡ outcome.Complete = f ∙ e in cc
not_named end.Exhausted o (inr e) f = let g : outcome.Exhausted ≡ outcome.Limit = f ∙ e in cc
not_named end.GivenUp o (inl e) f = let g : outcome.GivenUp ≡ outcome.Complete = f ∙ e in cc
not_named end.GivenUp o (inr e) f = let g : outcome.GivenUp ≡ outcome.Limit = f ∙ e in cc

served_out : (b : Asking) (m : Order) (bytes : List ℕ) (now : Standing) (o : Outcome) → IsPlainAsking b → IsPlainOrder m → IsOfRead o → served b.kind b.limit m bytes now ≡ Some o
    → ReadOut b.limit o now.pieces
served_out b m bytes now o p q is e = by b.kind p.kind_is m q e
  where
    by : (k : Kind) → IsPlainKind k b.limit → (j : Order) → IsPlainOrder j → served k b.limit j bytes now ≡ Some o → ReadOut b.limit o now.pieces
    by kind.Ask w Read x g = made_out b.limit now.pieces o g
    by kind.Ask w (Part tag text eom) x g = cc
    by kind.Ask w (Request tag size) x g = cc
    by kind.Ask w (order.Trigger tag) x g = absurd x
    by kind.Ask w Listen x g = absurd x
    by kind.Ask w (Class request) x g = absurd x
    by kind.Ask w (ClearHalt endpoint) x g = absurd x
    by kind.Ask w (Unlink target) x g = absurd x
    by kind.Tell w (Part tag text true) x g = not_done o is (let f : outcome.Done ≡ o = cc in f)
    by kind.Tell w (Part tag text false) x g = cc
    by kind.Tell w Read x g = cc
    by kind.Tell w (Request tag size) x g = cc
    by kind.Tell w (order.Trigger tag) x g = absurd x
    by kind.Tell w Listen x g = absurd x
    by kind.Tell w (Class request) x g = absurd x
    by kind.Tell w (ClearHalt endpoint) x g = absurd x
    by kind.Tell w (Unlink target) x g = absurd x
    by kind.Trigger w j x g = absurd w
    by (kind.Remote act) w j x g = absurd w
    by kind.Status w j x g = absurd w

-- a cause comes with one happening, or was there before
came : (s : Setting) (past : Past) (x : Happening) (t : ℕ) (o : Outcome) → All IsPlain (x ∷ past) → cause s t (x ∷ past) ≡ Some o
    → (cause s t past ≡ Some o) ⊎ ((cause s t past ≡ None) × (or_else (made_at s t past x) (ends_as (ended_by x None)) ≡ Some o))
came s past x t o p e = by (cause s t past) refl e
  where
    none : stops t (x ∷ past) ≡ None
    none = ap (λ (w : Option Outcome). once_free w (awaits t (x ∷ past))) (none_reached t (x ∷ past) p) ∙ no_stop (awaits t (x ∷ past))

    by : (c : Option Outcome) → cause s t past ≡ c → or_else c (causes s t past x) ≡ Some o
        → (cause s t past ≡ Some o) ⊎ ((cause s t past ≡ None) × (or_else (made_at s t past x) (ends_as (ended_by x None)) ≡ Some o))
    by (Some d) f g = inl (f ∙ g)
    by None f g = inr (f, shorter (made_at s t past x) (ends_as (ended_by x None)) (subst (λ (w : Option Outcome). or_else (made_at s t past x) (or_else (ends_as (ended_by x None)) w) ≡ Some o) none g))
      where
        shorter : (a b : Option Outcome) → or_else a (or_else b None) ≡ Some o → or_else a b ≡ Some o
        shorter (Some c) b k = k
        shorter None (Some c) k = k
        shorter None None k = k

cause_out : (s : Setting) (past : Past) → IsSimple s → Lawful s past → All IsPlain past → All IsServed past → (t : ℕ) (a : Asking) (o : Outcome) → asking_of t past ≡ Some a → IsOfRead o
    → cause s t past ≡ Some o → ReadOut a.limit o (pieces t past)
cause_out s [] simple h p v t a o asked is e = cc
cause_out s (Wrote n (Of u) k ∷ past) simple h p v t a o asked is e = by (came s past (Wrote n (Of u) k) t o p e) (cause_out s past simple h.0 p.1 v.1 t a o asked is)
  where
    turn : active past ≡ Some u
    turn = (planned_of s past u k p.0 h.1.2).turn

    by : (cause s t past ≡ Some o) ⊎ ((cause s t past ≡ None) × (None ≡ Some o)) → (cause s t past ≡ Some o → ReadOut a.limit o (pieces t past)) → ReadOut a.limit o (pieces t (Wrote n (Of u) k ∷ past))
    by (inr f) again = let g : None ≡ Some o = f.1 in cc
    by (inl f) again = step (u == t) refl
      where
        step : (b : Bool) → (u == t) ≡ b → ReadOut a.limit o (pieces t (Wrote n (Of u) k ∷ past))
        step false g = subst (λ (ps : List Piece). ReadOut a.limit o ps) (sym (ap (λ (c : Bool). if c then opened n k (pieces t past) else pieces t past) g)) (again f)
        step true g =
            let lives : has t (live past) ≡ true = subst (λ (w : ℕ). has w (live past) ≡ true) (eqb-true u t g) (first_has u (live past) turn) in
            let m : None ≡ Some o = sym (h.1.0.settled t lives) ∙ f in cc
cause_out s (Wrote n Recovery k ∷ past) simple h p v t a o asked is e = absurd p.0
cause_out s (Took (down.RetSubmit head bytes) ∷ past) simple h p v t a o asked is e =
    by (came s past (Took (down.RetSubmit head bytes)) t o p e) (cause_out s past simple h.0 p.1 v.1 t a o asked is)
  where
    b : Answered past head
    b = answered_one s past head bytes h.0 h.1.1 (stands s past simple h.0 p.1 v.1 h.1.0.running).out

    new : Past
    new = Took (down.RetSubmit head bytes) ∷ past

    by : (cause s t past ≡ Some o) ⊎ ((cause s t past ≡ None) × (or_else (made_at s t past (Took (down.RetSubmit head bytes))) None ≡ Some o)) → (cause s t past ≡ Some o → ReadOut a.limit o (pieces t past))
        → ReadOut a.limit o (pieces t new)
    by (inl f) again = step (b.ticket == t) refl
      where
        step : (c : Bool) → (b.ticket == t) ≡ c → ReadOut a.limit o (pieces t new)
        step false g =
            subst (λ (ps : List Piece). ReadOut a.limit o ps)
            (sym (ap (λ (w : Option Sent). answered_for t w head bytes (pieces t past)) b.found ∙ ap (λ (c : Bool). if c then answered b.order head bytes (pieces t past) else pieces t past) g)) (again f)
        step true g =
            let lives : has t (live past) ≡ true = subst (λ (w : ℕ). has w (live past) ≡ true) (eqb-true b.ticket t g) b.lives in
            let m : None ≡ Some o = sym (h.1.0.quiet.settled t lives) ∙ f in cc
    by (inr f) again = step (b.ticket == t) refl
      where
        made_now : made_at s t past (Took (down.RetSubmit head bytes)) ≡ Some o
        made_now = plain_one (made_at s t past (Took (down.RetSubmit head bytes))) f.1
          where
            plain_one : (w : Option Outcome) → or_else w None ≡ Some o → w ≡ Some o
            plain_one (Some c) k = k
            plain_one None k = cc

        step : (c : Bool) → (b.ticket == t) ≡ c → ReadOut a.limit o (pieces t new)
        step false g = let k : None ≡ Some o = sym (made_other s past head bytes b t (eqb-false b.ticket t g)) ∙ made_now in cc
        step true g =
            let same_one : b.ticket ≡ t = eqb-true b.ticket t g in
            let mine : asking_of b.ticket past ≡ Some a = subst (λ (w : ℕ). asking_of w past ≡ Some a) (sym same_one) asked in
            let said : served a.kind a.limit b.order bytes (standing s b.ticket new) ≡ Some o =
            sym (made_is s past head bytes b a mine v.0) ∙ subst (λ (w : ℕ). made_at s w past (Took (down.RetSubmit head bytes)) ≡ Some o) (sym same_one) made_now in
            subst (λ (w : ℕ). ReadOut a.limit o (pieces w new)) same_one
            (served_out a b.order bytes (standing s b.ticket new) o (plain_asking b.ticket a past p.1 mine) b.plain is said)
cause_out s (Took (down.RetUnlink head) ∷ past) simple h p v t a o asked is e = absurd v.0
cause_out s (Fell m d ∷ past) simple h p v t a o asked is e = absurd v.0
cause_out s (Stopped d ∷ past) simple h p v t a o asked is e = by (came s past (Stopped d) t o p e) (cause_out s past simple h.0 p.1 v.1 t a o asked is)
  where
    by : (cause s t past ≡ Some o) ⊎ ((cause s t past ≡ None) × (Some (named d) ≡ Some o)) → (cause s t past ≡ Some o → ReadOut a.limit o (pieces t past)) → ReadOut a.limit o (pieces t past)
    by (inl f) again = again f
    by (inr f) again = not_named d o is (let g : Some (named d) ≡ Some o = f.1 in let k : named d ≡ o = cc in k)
cause_out s (Recovers ∷ past) simple h p v t a o asked is e = absurd p.0
cause_out s (Asked u b ∷ past) simple h p v t a o asked is e =
    by (u == t) refl (came s past (Asked u b) t o p e) (λ asked_before. cause_out s past simple h.0 p.1 v.1 t a o asked_before is)
  where
    by : (c : Bool) → (u == t) ≡ c → (cause s t past ≡ Some o) ⊎ ((cause s t past ≡ None) × (None ≡ Some o)) → (asking_of t past ≡ Some a → cause s t past ≡ Some o → ReadOut a.limit o (pieces t past)) → ReadOut a.limit o (pieces t past)
    by c f (inr g) again = let k : None ≡ Some o = g.1 in cc
    by false f (inl g) again = again (sym (ap (λ (c : Bool). if c then Some b else asking_of t past) f) ∙ asked) g
    by true f (inl g) again =
        let is_new : u ≡ t = eqb-true u t f in
        let k : None ≡ Some o = sym (unasked_cause s past h.0 h.1.0.running t (omega (arith, is_new, h.1.1))) ∙ g in cc
cause_out s (Cancelled u ∷ past) simple h p v t a o asked is e = absurd p.0
cause_out s (Cleared u ∷ past) simple h p v t a o asked is e = absurd p.0
cause_out s (GaveUp ∷ past) simple h p v t a o asked is e = by (came s past GaveUp t o p e) (cause_out s past simple h.0 p.1 v.1 t a o asked is)
  where
    by : (cause s t past ≡ Some o) ⊎ ((cause s t past ≡ None) × (None ≡ Some o)) → (cause s t past ≡ Some o → ReadOut a.limit o (pieces t past)) → ReadOut a.limit o (pieces t past)
    by (inl f) again = again f
    by (inr f) again = let k : None ≡ Some o = f.1 in cc
cause_out s (Settled u w ∷ past) simple h p v t a o asked is e = by (came s past (Settled u w) t o p e) (cause_out s past simple h.0 p.1 v.1 t a o asked is)
  where
    by : (cause s t past ≡ Some o) ⊎ ((cause s t past ≡ None) × (None ≡ Some o)) → (cause s t past ≡ Some o → ReadOut a.limit o (pieces t past)) → ReadOut a.limit o (pieces t past)
    by (inl f) again = again f
    by (inr f) again = let k : None ≡ Some o = f.1 in cc

-- ---- in the terms of a view

none_ran : (n : ℕ) (log : List LogEntry) → stage.NoExec n log → NoExec n log
none_ran n [] h = tt
none_ran n (Exec seq message ∷ log) h = (h.0, none_ran n log h.1)
none_ran n (entry.Took k ∷ log) h = none_ran n log h
none_ran n (entry.Interrupt ∷ log) h = none_ran n log h
none_ran n (entry.Bare ∷ log) h = none_ran n log h
none_ran n (entry.Trigger seq ∷ log) h = none_ran n log h
none_ran n (entry.Poll seq ∷ log) h = none_ran n log h
none_ran n (entry.Clear ∷ log) h = none_ran n log h
none_ran n (entry.Remote act ∷ log) h = none_ran n log h

executed : (n : ℕ) (message response : List ℕ) (log : List LogEntry) → Ran n message response log → Executed n message response log
executed n message response log r = record {
  before = r.before;
  behind = r.behind;
  whole = r.whole;
  none_before = none_ran n r.before r.none_before;
  none_behind = none_ran n r.behind r.none_behind;
  responds = r.responds;
}

pub record Tied : Type 0 where
  pub own : (hand : Hand) (waits : Option SubmitHead) (next : ℕ) (ups : List up.Message) (downs : List Put) (s : State) → Tie hand waits next ups downs s → Owns hand s

-- the response to a ticket that was read, whole or in part
abbrev Front : Past → ℕ → Asking → List LogEntry → Type 0
Front past t a log = (got t past ≡ []) ⊎ ((response : List ℕ) × Executed (message_end t past) a.message response log × IsFront (got t past) response)

front_of : Tied → (s : Setting) (past : Past) (bytes read : List ℕ) (steps : List RunStep) (state : State) → IsSimple s → Lawful s past → IsJoined s past bytes read steps state
    → (t : ℕ) (a : Asking) → asking_of t past ≡ Some a → Front past t a state.log
front_of tied s past bytes read steps state simple h j t a asked = by (pieces t past) refl
  where
    r : RanAs s past (ran past)
    r = ran_as s past h j.plain j.served

    going : (piece : Piece) (earlier : List Piece) → pieces t past ≡ piece ∷ earlier → piece.over ≡ None → Front past t a state.log
    going piece earlier q unread = step (tied.own (hand_of (ran past)) (waits_of s past) (next s.first past) j.joint.ups j.joint.downs state j.joint.tie)
      where
        there : pieces t (ran past) ≡ piece ∷ earlier
        there = r.same_pieces t ∙ q

        w : IsHeld t (ran past)
        w = held s (ran past) simple r.lawful r.plain r.served r.running t piece earlier there unread

        asked_then : asking_of t (ran past) ≡ Some a
        asked_then = r.same_asking t ∙ asked

        i : InHand s (ran past) t
        i = (stands s (ran past) simple r.lawful r.plain r.served r.running).hand t w.0 w.1

        ended_then : (message_end t (ran past) == 0) ≡ false
        ended_then = whole i.stage
          where
            whole : Stage s (ran past) t i.asking → (message_end t (ran past) == 0) ≡ false
            whole (AtPart k text l e f more) = let g : [] ≡ piece ∷ earlier = sym f ∙ there in cc
            whole (AtEnd k text l e f) = e
            whole (AtRequest k size one rest ask l e f unread_one shut) = e
            whole (AtRead one rest ask l e f unread_one shut unmade) = e

        is : hand_of (ran past) ≡ Reads (message_end t (ran past)) a.message piece.tag piece.size (data_in earlier) piece.bytes
        is = reads_is (ran past) t a w.0 w.1 asked_then piece earlier ended_then there (ap (λ (o : Option ℕ). is_some o) unread)

        got_is : data_in earlier ++ data_of piece.bytes ≡ got t past
        got_is = sym (ap data_in q)

        step : Owns (hand_of (ran past)) state → Front past t a state.log
        step o = choose (subst (λ (z : Hand). Owns z state) is o)
          where
            choose : (data_in earlier ++ data_of piece.bytes ≡ []) ⊎ IsOwned (message_end t (ran past)) a.message (data_in earlier ++ data_of piece.bytes) state → Front past t a state.log
            choose (inl e) = inl (sym got_is ∙ e)
            choose (inr x) =
                inr (
                  x.0,
                  subst (λ (n : ℕ). Executed n a.message x.0 state.log) (r.same_end t) (executed (message_end t (ran past)) a.message x.0 state.log x.1),
                  subst (λ (l : List ℕ). IsFront l x.0) got_is x.2,
                )

    by : (ps : List Piece) → pieces t past ≡ ps → Front past t a state.log
    by [] q = inl (ap data_in q)
    by (piece ∷ earlier) q = over piece.over refl
      where
        over : (o : Option ℕ) → piece.over ≡ o → Front past t a state.log
        over None e = going piece earlier q e
        over (Some n) e =
            let x = j.owns t a piece earlier asked q (ap (λ (o : Option ℕ). is_some o) e) in
            inr (x.response, executed (message_end t past) a.message x.response state.log x.ran, x.front)

pub owned : Tied → (s : Setting) (past : Past) (bytes read : List ℕ) (steps : List RunStep) (state : State) → IsSimple s → Lawful s past → IsJoined s past bytes read steps state
    → (t : ℕ) (seen : Seen) → ShowsTicket past t seen → Owned seen state.log
owned tied s past bytes read steps state simple h j t seen shows = record {
  within = subst (λ (l : List ℕ). length l ≤ seen.limit) (sym shows.bytes) (never_passes s past h t a shows.asking);
  front = front (front_of tied s past bytes read steps state simple h j t a shows.asking);
  complete = λ (e : seen.outcome ≡ outcome.Complete). complete e (cause_out s past simple h j.plain j.served t a outcome.Complete shows.asking (inl refl) (caused outcome.Complete e (λ (f : outcome.Live ≡ outcome.Complete). cc)));
  limited = λ (e : seen.outcome ≡ outcome.Limit). limited e (cause_out s past simple h j.plain j.served t a outcome.Limit shows.asking (inr refl) (caused outcome.Limit e (λ (f : outcome.Live ≡ outcome.Limit). cc)));
  others = λ (other : seen.kind ≢ kind.Ask). shows.bytes ∙ asks_alone s past h t a shows.asking other;
}
  where
    a : Asking
    a = record { session = seen.session; kind = seen.kind; limit = seen.limit; message = seen.message }

    caused : (o : Outcome) → seen.outcome ≡ o → (outcome.Live ≡ o → ⊥) → cause s t past ≡ Some o
    caused o e dead = by (settled t past) refl (sym shows.outcome ∙ e)
      where
        by : (w : Option Outcome) → settled t past ≡ w → or_live w ≡ o → cause s t past ≡ Some o
        by None f g = absurd (dead g)
        by (Some c) f g = settled_cause s past h t o (f ∙ ap (λ (z : Outcome). Some z) g)

    named_so : (response : List ℕ) → Executed (message_end t past) seen.message response state.log → Executed seen.last seen.message response state.log
    named_so response x = subst (λ (n : ℕ). Executed n seen.message response state.log) (sym shows.last) x

    front : Front past t a state.log → (seen.bytes ≡ []) ⊎ WasExecuted seen state.log (λ response. IsFront seen.bytes response)
    front (inl e) = inl (shows.bytes ∙ e)
    front (inr x) = inr (x.0, named_so x.0 x.1, subst (λ (l : List ℕ). IsFront l x.0) (sym shows.bytes) x.2)

    complete : seen.outcome ≡ outcome.Complete → ReadOut seen.limit outcome.Complete (pieces t past) → WasExecuted seen state.log (λ response. (response ≢ []) × (seen.bytes ≡ response))
    complete e r =
        let x = j.owns t a r.0 r.1 shows.asking r.2 r.3 in
        let whole : got t past ≡ x.response = x.whole (r.4 refl) in (
          x.response,
          named_so x.response (executed (message_end t past) seen.message x.response state.log x.ran),
          ((λ (none : x.response ≡ []). let n : length (got t past) ≡ 0 = ap (λ (l : List ℕ). length l) (whole ∙ none) in omega (arith, n, x.some)), shows.bytes ∙ whole),
        )

    limited : seen.outcome ≡ outcome.Limit → ReadOut seen.limit outcome.Limit (pieces t past)
        → WasExecuted seen state.log (λ response. (seen.limit < length response) × (seen.bytes ≡ take seen.limit response))
    limited e r =
        let x = j.owns t a r.0 r.1 shows.asking r.2 r.3 in
        let end_of = r.5 refl in
        let full : length (got t past) ≡ seen.limit = ap (λ (ps : List Piece). length (data_in ps)) r.2 ∙ end_of.1 in (
          x.response,
          named_so x.response (executed (message_end t past) seen.message x.response state.log x.ran),
          (
            omega (arith, full, x.more end_of.0),
            shows.bytes
                ∙ (sym (take-append_seam (got t past) x.front.0) ∙ (ap (λ (n : ℕ). take n (got t past ++ x.front.0)) full ∙ ap (λ (l : List ℕ). take seen.limit l) (sym x.front.1))),
          ),
        )
