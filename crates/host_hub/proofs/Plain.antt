-- where a hub stands that nothing disturbs: what is out, how far the ticket in hand has come, and what is made
use Rattle.std.proofs.Common.{◌≡◌, ◌≢◌, ◌⊎◌, ℕ, ◌*◌, ◌<◌, Bool, true, false, List, [], ◌∷◌, length, Some, None, refl, sym, subst, ◌∙◌, ap}
use Rattle.std.specs.Prelude.{◌==◌, is_some, if◌then◌else◌}
use Rattle.host_transfers.specs.Piece.{eom_of}
use Rattle.host_hub.specs.declared.kind.Kind.{Kind}
use Rattle.host_hub.specs.declared.kind.Kind.TheVariants as kind
use Rattle.host_hub.specs.Order.{Order, Part, Read, Request, Setting, Trigger, Listen, Class, ClearHalt, Unlink, is_listen}
use Rattle.host_hub.specs.Record.{Asked, Asking, Cancelled, Cleared, Fell, GaveUp, Happening, Of, Past, Recovers, Settled, Stopped, Took, Wrote}
use Rattle.host_hub.specs.Book.{asking_of, has, live}
use Rattle.host_hub.specs.Calls.{All}
use Rattle.host_hub.specs.Causes.{cause, causes, reached}
use Rattle.host_hub.specs.Hand.{in_hand, is_begun}
use Rattle.host_hub.specs.Joined.{IsPlain, IsPlainAsking, IsPlainKind, IsPlainOrder}
use Rattle.host_hub.specs.Law.{Planned, WriteLaw}
use Rattle.host_hub.specs.Outstanding.{outstanding}
use Rattle.host_hub.specs.Pieces.{Piece, data_in, pieces}
use Rattle.host_hub.specs.Plan.{last, message_end, next_tag, part_of, parts, request_of}
use Rattle.host_hub.specs.Status.{is_status_kind}
use Rattle.host_hub.proofs.Lists.{none_left}
use Rattle.host_hub.proofs.Quiets.{IsProper}

-- ---- what is left out does not happen

pub none_reached : (t : ℕ) (past : Past) → All IsPlain past → reached t past ≡ None
none_reached t [] p = refl
none_reached t (Cancelled u ∷ past) p = absurd p.0
none_reached t (Cleared w ∷ past) p = absurd p.0
none_reached t (Wrote n o k ∷ past) p = none_reached t past p.1
none_reached t (Took m ∷ past) p = none_reached t past p.1
none_reached t (Fell m e ∷ past) p = none_reached t past p.1
none_reached t (Stopped e ∷ past) p = none_reached t past p.1
none_reached t (Recovers ∷ past) p = none_reached t past p.1
none_reached t (Asked u a ∷ past) p = none_reached t past p.1
none_reached t (GaveUp ∷ past) p = none_reached t past p.1
none_reached t (Settled u o ∷ past) p = none_reached t past p.1

pub plain_asking : (t : ℕ) (a : Asking) (past : Past) → All IsPlain past → asking_of t past ≡ Some a → IsPlainAsking a
plain_asking t a [] p e = cc
plain_asking t a (Asked u b ∷ past) p e = by (u == t) e (plain_asking t a past p.1)
  where
    by : (c : Bool) → (if c then Some b else asking_of t past) ≡ Some a → (asking_of t past ≡ Some a → IsPlainAsking a) → IsPlainAsking a
    by true e again = let i : b ≡ a = cc in subst IsPlainAsking i p.0
    by false e again = again e
plain_asking t a (Wrote n o k ∷ past) p e = plain_asking t a past p.1 e
plain_asking t a (Took m ∷ past) p e = plain_asking t a past p.1 e
plain_asking t a (Fell m d ∷ past) p e = plain_asking t a past p.1 e
plain_asking t a (Stopped d ∷ past) p e = plain_asking t a past p.1 e
plain_asking t a (Recovers ∷ past) p e = plain_asking t a past p.1 e
plain_asking t a (Cancelled u ∷ past) p e = plain_asking t a past p.1 e
plain_asking t a (Cleared w ∷ past) p e = plain_asking t a past p.1 e
plain_asking t a (GaveUp ∷ past) p e = plain_asking t a past p.1 e
plain_asking t a (Settled u o ∷ past) p e = plain_asking t a past p.1 e

pub plain_speaks : (k : Kind) (limit : ℕ) → IsPlainKind k limit → is_status_kind k ≡ false
plain_speaks kind.Ask limit p = refl
plain_speaks kind.Tell limit p = refl
plain_speaks kind.Trigger limit p = absurd p
plain_speaks (kind.Remote act) limit p = absurd p
plain_speaks kind.Status limit p = absurd p

pub plain_quiet : (k : Order) → IsPlainOrder k → is_listen k ≡ false
plain_quiet (Part tag text eom) p = refl
plain_quiet (Request tag size) p = refl
plain_quiet Read p = refl
plain_quiet (Trigger tag) p = absurd p
plain_quiet Listen p = absurd p
plain_quiet (Class request) p = absurd p
plain_quiet (ClearHalt endpoint) p = absurd p
plain_quiet (Unlink target) p = absurd p

pub plain_proper : (k : Order) → IsPlainOrder k → IsProper k
plain_proper (Part tag text eom) p = tt
plain_proper (Request tag size) p = tt
plain_proper Read p = tt
plain_proper (Trigger tag) p = absurd p
plain_proper Listen p = absurd p
plain_proper (Class request) p = absurd p
plain_proper (ClearHalt endpoint) p = absurd p
plain_proper (Unlink target) p = absurd p

pub planned_of : (s : Setting) (past : Past) (t : ℕ) (k : Order) → IsPlainOrder k → WriteLaw s past (Of t) k → Planned s past t k
planned_of s past t (Part tag text eom) p law = law.0
planned_of s past t (Request tag size) p law = law.0
planned_of s past t Read p law = law.0
planned_of s past t (Trigger tag) p law = absurd p
planned_of s past t Listen p law = absurd p
planned_of s past t (Class request) p law = absurd p
planned_of s past t (ClearHalt endpoint) p law = absurd p
planned_of s past t (Unlink target) p law = absurd p

-- ---- what is out

pub data Out (past : Past) : Type 0 where
  NoneOut : outstanding past ≡ [] → Out past
  OneOut : (t n : ℕ) (order : Order) → IsPlainOrder order → outstanding past ≡ record { number = n; owner = Of t; order = order } ∷ [] → in_hand past ≡ Some t
      → has t (live past) ≡ true → last t past ≡ Some order → Out past

-- ---- how far the ticket in hand has come

-- the piece makes no outcome yet
abbrev pub IsUnmade : Asking → Piece → List Piece → Type 0
IsUnmade a piece earlier = is_some piece.over ≡ true → (eom_of piece.bytes ≡ false) × ((length (data_in (piece ∷ earlier)) == a.limit) ≡ false)

pub data Stage (s : Setting) (past : Past) (t : ℕ) (a : Asking) : Type 0 where
  -- parts were written, and more follow
  AtPart : (k : ℕ) (text : List ℕ) → last t past ≡ Some (Part k text false) → message_end t past ≡ 0 → pieces t past ≡ [] → 1024 * parts t past < length a.message
      → Stage s past t a
  -- the part with EOM was written
  AtEnd : (k : ℕ) (text : List ℕ) → last t past ≡ Some (Part k text true) → (message_end t past == 0) ≡ false → pieces t past ≡ [] → Stage s past t a
  -- a piece was requested
  AtRequest : (k size : ℕ) (piece : Piece) (earlier : List Piece) → a.kind ≡ kind.Ask → last t past ≡ Some (Request k size) → (message_end t past == 0) ≡ false
      → pieces t past ≡ piece ∷ earlier → piece.over ≡ None → piece.shut ≡ None → Stage s past t a
  -- it is read
  AtRead : (piece : Piece) (earlier : List Piece) → a.kind ≡ kind.Ask → last t past ≡ Some Read → (message_end t past == 0) ≡ false
      → pieces t past ≡ piece ∷ earlier → (outstanding past ≢ [] → piece.over ≡ None) → piece.shut ≡ None → (cause s t past ≡ None → IsUnmade a piece earlier) → Stage s past t a

-- a ticket that begins, and each further step of one
pub data Move (s : Setting) (past : Past) (t : ℕ) (a : Asking) (order : Order) : Type 0 where
  BeginsWith : is_begun t past ≡ false → order ≡ part_of (next_tag past) 0 a.message → Move s past t a order
  GoesOnWith : in_hand past ≡ Some t → message_end t past ≡ 0 → pieces t past ≡ [] → 1024 * parts t past < length a.message
      → order ≡ part_of (next_tag past) (parts t past) a.message → Move s past t a order
  RequestsFirst : in_hand past ≡ Some t → a.kind ≡ kind.Ask → (message_end t past == 0) ≡ false → pieces t past ≡ []
      → order ≡ request_of (next_tag past) a.limit (pieces t past) → Move s past t a order
  RequestsNext : (piece : Piece) (earlier : List Piece) → in_hand past ≡ Some t → a.kind ≡ kind.Ask → (message_end t past == 0) ≡ false → pieces t past ≡ piece ∷ earlier
      → is_some piece.over ≡ true → IsUnmade a piece earlier → order ≡ request_of (next_tag past) a.limit (pieces t past) → Move s past t a order
  ReadsWith : (piece : Piece) (earlier : List Piece) → in_hand past ≡ Some t → a.kind ≡ kind.Ask → (message_end t past == 0) ≡ false → pieces t past ≡ piece ∷ earlier
      → piece.over ≡ None → piece.shut ≡ None → order ≡ Read → Move s past t a order

-- a ticket has what it was asked for: nothing is out, and its message was accepted, or its piece has come
pub data IsMade (past : Past) (t : ℕ) : Type 0 where
  Told : (a : Asking) (k : ℕ) (text : List ℕ) → asking_of t past ≡ Some a → a.kind ≡ kind.Tell → last t past ≡ Some (Part k text true) → outstanding past ≡ []
      → in_hand past ≡ Some t → IsMade past t
  HasCome : (piece : Piece) (earlier : List Piece) → pieces t past ≡ piece ∷ earlier → is_some piece.over ≡ true → outstanding past ≡ [] → in_hand past ≡ Some t → IsMade past t

pub record InHand (s : Setting) (past : Past) (t : ℕ) : Type 0 where
  pub asking : Asking
  pub asked : asking_of t past ≡ Some asking
  pub plain : IsPlainAsking asking
  pub stage : Stage s past t asking

pub record Stands (s : Setting) (past : Past) : Type 0 where
  pub out : Out past
  pub hand : (t : ℕ) → in_hand past ≡ Some t → has t (live past) ≡ true → InHand s past t
  pub made : (t : ℕ) → has t (live past) ≡ true → (cause s t past ≡ None) ⊎ IsMade past t

pub made_free : (past : Past) (t : ℕ) → IsMade past t → (outstanding past ≡ []) × (in_hand past ≡ Some t)
made_free past t (Told a k text asked tell l free hand) = (free, hand)
made_free past t (HasCome piece earlier e over free hand) = (free, hand)

-- ---- where nothing of a ticket happens

pub stage_kept : (s : Setting) (past : Past) (y : Happening) (t : ℕ) (a : Asking) → last t (y ∷ past) ≡ last t past → message_end t (y ∷ past) ≡ message_end t past
    → pieces t (y ∷ past) ≡ pieces t past → parts t (y ∷ past) ≡ parts t past → outstanding (y ∷ past) ≡ outstanding past → Stage s past t a → Stage s (y ∷ past) t a
stage_kept s past y t a e f g h o (AtPart k text l m p more) = AtPart k text (e ∙ l) (f ∙ m) (g ∙ p) (subst (λ (n : ℕ). 1024 * n < length a.message) (sym h) more)
stage_kept s past y t a e f g h o (AtEnd k text l m p) = AtEnd k text (e ∙ l) (ap (λ (n : ℕ). n == 0) f ∙ m) (g ∙ p)
stage_kept s past y t a e f g h o (AtRequest k size piece earlier ask l m p over shut) =
    AtRequest k size piece earlier ask (e ∙ l) (ap (λ (n : ℕ). n == 0) f ∙ m) (g ∙ p) over shut
stage_kept s past y t a e f g h o (AtRead piece earlier ask l m p over shut unmade) =
    AtRead piece earlier ask (e ∙ l) (ap (λ (n : ℕ). n == 0) f ∙ m) (g ∙ p) (λ (some : outstanding (y ∷ past) ≢ []). over (λ (k : outstanding past ≡ []). some (o ∙ k))) shut
    (λ (c : cause s t (y ∷ past) ≡ None). unmade (none_left (cause s t past) (causes s t past y) c))
