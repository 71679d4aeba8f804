-- the bytes of a ticket never pass its limit, and only asks have bytes
use Rattle.std.proofs.Common.{◌≡◌, ℕ, pos, ◌+◌, ◌-◌, ◌<◌, ◌≤◌, ◌&&◌, not, Bool, true, false, List, [], ◌∷◌, ◌++◌, length, take, drop, min, Option, Some, None, refl, sym, subst, ◌∙◌, ap, arith, length-append}
use Rattle.std.specs.Prelude.{◌==◌, nat_lt, is_some, if◌then◌else◌}
use Rattle.std.specs.Ordering.{int_eq}
use Rattle.std.proofs.lemmas.Bool.{eqb-true, ltb-true, ltb-false}
use Rattle.std.proofs.lemmas.List.{length-take}
use Rattle.std.proofs.Math.Nat.{min-le_left, min-le_right}
use Rattle.tmc_base.specs.declared.limits.TheConstants.{BULK_IN_SUBMIT}
use Rattle.tmc_wire.specs.declared.class_request.ClassRequest.TheVariants.{ReadStatus}
use Rattle.tmc_base.specs.declared.field.Field.{Field}
use Rattle.usbip_wire.specs.declared.ret_submit.RetSubmitHead.{RetSubmitHead}
use Rattle.usbip_wire.specs.Down as down
use Rattle.tmc_wire.specs.Standard.{header_size}
use Rattle.tmc_wire.specs.HeaderFault.{TransferSize}
use Rattle.host_transfers.specs.declared.limits.TheConstants.{REQUEST_MAX}
use Rattle.host_transfers.specs.Piece.{data_of}
use Rattle.host_hub.specs.declared.kind.Kind.{Kind}
use Rattle.host_hub.specs.declared.kind.Kind.TheVariants as kind
use Rattle.host_hub.specs.declared.outcome.End.TheVariants as end
use Rattle.host_hub.specs.Order.{Class, ClearHalt, Listen, Order, Part, Read, Request, Setting, Trigger, Unlink}
use Rattle.host_hub.specs.Record.{Asked, Asking, Happening, Of, Owner, Past, Recovery, Took, Wrote}
use Rattle.host_hub.specs.Book.{asking_of, tickets}
use Rattle.host_hub.specs.Hand.{is_begun, is_of}
use Rattle.host_hub.specs.Outstanding.{Sent, find, is_listening, lost_with, outstanding}
use Rattle.host_hub.specs.Pieces.{Piece, answered, answered_for, data_in, does_count, extended, got, least, lost, lost_for, opened, pieces, read_by, shut_at}
use Rattle.host_hub.specs.Status.{is_status_kind, next_status_tag, status_tag}
use Rattle.host_hub.specs.Plan.{behind_message, behind_read, first_order, follows, last, next_tag, parts, planned, request_of, status_order}
use Rattle.host_hub.specs.Faults.{Fault, first_fault, number_field, read_fault, transfer_faults}
use Rattle.host_hub.specs.Ends.{as_end, comes_early, is_gone, owned_ends, submit_ends}
use Rattle.host_hub.specs.Law.{Lawful, WriteLaw}
use Rattle.host_hub.proofs.Clean.{found_free}
use Rattle.host_hub.proofs.Lists.{clash, differ, neither}
use Rattle.host_hub.proofs.Pasts.{unasked_asking, unasked_begun, unbegun_free}

-- ---- lists

take_most : (n : ℕ) (xs : List ℕ) → length (take n xs) ≤ n
take_most n xs = subst (λ (k : ℕ). k ≤ n) (sym (length-take n xs)) (min-le_left n (length xs))

take_none : (n : ℕ) → length {A = ℕ} (take n []) ≤ 0
take_none n = subst (λ (k : ℕ). k ≤ 0) (sym (length-take {A = ℕ} n [])) (min-le_right n 0)

-- ---- what a ticket asks for stays

pub asking_known : (s : Setting) (past : Past) → Lawful s past → (t : ℕ) (a : Asking) → asking_of t past ≡ Some a → t ≤ tickets past
asking_known s past h t a e = step (nat_lt (tickets past) t) refl
  where
    step : (b : Bool) → nat_lt (tickets past) t ≡ b → t ≤ tickets past
    step true f = let none : asking_of t past ≡ None = unasked_asking s past h t (ltb-true (tickets past) t f) in let k : None ≡ Some a = sym none ∙ e in cc
    step false f = ltb-false (tickets past) t f

pub asked_before : (s : Setting) (past : Past) (x : Happening) → Lawful s (x ∷ past) → (t : ℕ) (a : Asking) → t ≤ tickets past → asking_of t (x ∷ past) ≡ Some a → asking_of t past ≡ Some a
asked_before s past (Asked u b) h t a low e =
    subst (λ (c : Bool). (if c then Some b else asking_of t past) ≡ Some a) (differ u t (λ k. omega (arith, k, low, h.1.1))) e
asked_before s past x h t a low e = e

asked_still : (s : Setting) (past : Past) (x : Happening) → Lawful s (x ∷ past) → (t : ℕ) (a : Asking) → asking_of t past ≡ Some a → asking_of t (x ∷ past) ≡ Some a
asked_still s past (Asked u b) h t a e =
    let low : t ≤ tickets past = asking_known s past h.0 t a e in
    subst (λ (c : Bool). (if c then Some b else asking_of t past) ≡ Some a) (sym (differ u t (λ k. omega (arith, k, low, h.1.1)))) e
asked_still s past x h t a e = e

pub asking_stays : (s : Setting) (past more : Past) (t : ℕ) (a : Asking) → Lawful s (more ++ past) → asking_of t past ≡ Some a → asking_of t (more ++ past) ≡ Some a
asking_stays s past [] t a h e = e
asking_stays s past (x ∷ more) t a h e = asked_still s (more ++ past) x h t a (asking_stays s past more t a h.0 e)

-- ---- a ticket that has not begun has no pieces

none_answered : (t : ℕ) (o : Option Sent) (head : RetSubmitHead) (bytes : List ℕ) → ((x : Sent) → o ≡ Some x → is_of t x.owner ≡ false) → answered_for t o head bytes [] ≡ []
none_answered t None head bytes h = refl
none_answered t (Some x) head bytes h = rw (h x refl) refl

none_lost : (t : ℕ) (o : Option Sent) → lost_for t o [] ≡ []
none_lost t None = refl
none_lost t (Some x) = step (is_of t x.owner)
  where
    by : (order : Order) → lost order x.number [] ≡ []
    by Read = refl
    by order = refl

    step : (b : Bool) → (if b then lost x.order x.number [] else []) ≡ []
    step true = by x.order
    step false = refl

pub none_unbegun : (t : ℕ) (past : Past) → is_begun t past ≡ false → pieces t past ≡ []
none_unbegun t [] fresh = refl
none_unbegun t (Wrote n o k ∷ past) fresh =
    let both : (is_of t o ≡ false) × (is_begun t past ≡ false) = neither (is_of t o) (is_begun t past) fresh in
    let other : is_of t o ≡ false = both.0 in
    rw other (none_unbegun t past both.1)
none_unbegun t (Took (down.RetSubmit head bytes) ∷ past) fresh =
    rw (none_unbegun t past fresh) (none_answered t (find head.seqnum (outstanding past)) head bytes (λ x e. found_free t head.seqnum (outstanding past) x (unbegun_free t past fresh) e))
none_unbegun t (Took (down.RetUnlink head) ∷ past) fresh = rw (none_unbegun t past fresh) (none_lost t (lost_with head.seqnum (outstanding past)))
none_unbegun t (x ∷ past) fresh = none_unbegun t past fresh

-- ---- the pieces fit the limit, and only an ask has any

abbrev Fits : (limit : ℕ) → List Piece → Type 0
Fits limit [] = Unit {0}
Fits limit (piece ∷ earlier) = (length (data_in earlier) + piece.size ≤ limit) × (length (data_of piece.bytes) ≤ piece.size) × Fits limit earlier

abbrev pub OfAsk : Kind → List Piece → Type 0
OfAsk which [] = Unit {0}
OfAsk which (piece ∷ earlier) = which ≡ kind.Ask

fits_within : (limit : ℕ) (ps : List Piece) → Fits limit ps → length (data_in ps) ≤ limit
fits_within limit [] h = omega arith
fits_within limit (piece ∷ earlier) h = omega (arith, length-append (data_in earlier) (data_of piece.bytes), h.0, h.1)

-- a request asks for what the limit leaves
pub record AsksLeft (a : Asking) (now : List Piece) (size : ℕ) : Type 0 where
  pub left : size ≤ a.limit - length (data_in now)
  pub ask : a.kind ≡ kind.Ask

request_left : (a : Asking) (tag k size : ℕ) (now : List Piece) → a.kind ≡ kind.Ask → Some (request_of tag a.limit now) ≡ Some (Request k size) → AsksLeft a now size
request_left a tag k size now ask e = record { left = subst (λ (n : ℕ). n ≤ a.limit - length (data_in now)) same (min-le_left (a.limit - length (data_in now)) REQUEST_MAX); ask = ask }
  where
    same : min (a.limit - length (data_in now)) REQUEST_MAX ≡ size
    same = cc

behind_left : (a : Asking) (kd : Kind) (tag k size : ℕ) (now : List Piece) → a.kind ≡ kd → behind_message kd tag a.limit now ≡ Some (Request k size) → AsksLeft a now size
behind_left a kind.Ask tag k size now is e = request_left a tag k size now is e
behind_left a kind.Tell tag k size now is e = cc
behind_left a kind.Trigger tag k size now is e = cc
behind_left a (kind.Remote act) tag k size now is e = cc
behind_left a kind.Status tag k size now is e = cc

first_left : (a : Asking) (kd : Kind) (message : List ℕ) (tag k size : ℕ) (now : List Piece) → first_order kd message tag ≡ Some (Request k size) → AsksLeft a now size
first_left a kind.Ask message tag k size now e = cc
first_left a kind.Tell message tag k size now e = cc
first_left a kind.Trigger message tag k size now e = cc
first_left a (kind.Remote act) message tag k size now e = cc
first_left a kind.Status message tag k size now e = cc

read_left : (a : Asking) (tag k size : ℕ) (now : List Piece) → OfAsk a.kind now → behind_read tag a.limit now ≡ Some (Request k size) → AsksLeft a now size
read_left a tag k size [] of e = cc
read_left a tag k size (piece ∷ earlier) of e = step (is_some piece.over) e
  where
    step : (b : Bool) → (if b then Some (request_of tag a.limit (piece ∷ earlier)) else Some Read) ≡ Some (Request k size) → AsksLeft a (piece ∷ earlier) size
    step true f = request_left a tag k size (piece ∷ earlier) of f
    step false f = cc

follows_left : (a : Asking) (o : Option Order) (tag count k size : ℕ) (now : List Piece) → OfAsk a.kind now → follows a o tag count now ≡ Some (Request k size) → AsksLeft a now size
follows_left a None tag count k size now of e = first_left a a.kind a.message tag k size now e
follows_left a (Some (Part j text true)) tag count k size now of e = behind_left a a.kind tag k size now refl e
follows_left a (Some (Part j text false)) tag count k size now of e = cc
follows_left a (Some (Request j n)) tag count k size now of e = cc
follows_left a (Some (Trigger j)) tag count k size now of e = cc
follows_left a (Some Read) tag count k size now of e = read_left a tag k size now of e
follows_left a (Some Listen) tag count k size now of e = cc
follows_left a (Some (Class request)) tag count k size now of e = cc
follows_left a (Some (ClearHalt endpoint)) tag count k size now of e = cc
follows_left a (Some (Unlink target)) tag count k size now of e = cc

status_left : (s : Setting) (t : ℕ) (past : Past) (a : Asking) (k size : ℕ) (now : List Piece) → status_order s t past ≡ Some (Request k size) → AsksLeft a now size
status_left s t past a k size now e = step (is_some s.ends.notify && not (is_listening (outstanding past))) (is_some (status_tag t past)) e
  where
    step : (b c : Bool) → (if b then Some Listen else if c then None else Some (Class (ReadStatus (next_status_tag s past)))) ≡ Some (Request k size) → AsksLeft a now size
    step true c f = cc
    step false true f = cc
    step false false f = cc

planned_left : (s : Setting) (t : ℕ) (past : Past) (a : Asking) (k size : ℕ) → asking_of t past ≡ Some a → OfAsk a.kind (pieces t past)
    → planned s t (asking_of t past) past ≡ Some (Request k size) → AsksLeft a (pieces t past) size
planned_left s t past a k size known of e =
    step (is_status_kind a.kind) (subst (λ (o : Option Asking). planned s t o past ≡ Some (Request k size)) known e)
  where
    step : (b : Bool) → (if b then status_order s t past else follows a (last t past) (next_tag past) (parts t past) (pieces t past)) ≡ Some (Request k size)
        → AsksLeft a (pieces t past) size
    step true f = status_left s t past a k size (pieces t past) f
    step false f = follows_left a (last t past) (next_tag past) (parts t past) k size (pieces t past) of f

-- ---- an answer that counts has no more data than was asked for

abbrev NoneHas : List Fault → Type 0
NoneHas [] = Unit {0}
NoneHas (x ∷ xs) = (x.has ≡ false) × NoneHas xs

none_has : (xs : List Fault) → first_fault xs ≡ None → NoneHas xs
none_has [] h = tt
none_has (x ∷ xs) h = step x.has refl h (none_has xs)
  where
    step : (b : Bool) → x.has ≡ b → (if b then Some x.field else first_fault xs) ≡ None → (first_fault xs ≡ None → NoneHas xs) → (x.has ≡ false) × NoneHas xs
    step true e k again = cc
    step false e k again = (e, again k)

sized_within : (piece : Piece) → first_fault (transfer_faults piece) ≡ None → length (data_of piece.bytes) ≤ piece.size
sized_within piece h = omega (arith, least, take_most (TransferSize piece.bytes) (drop header_size piece.bytes))
  where
    least : TransferSize piece.bytes ≤ piece.size
    least = ltb-false piece.size (TransferSize piece.bytes) (none_has (transfer_faults piece) h).1.1.1.1.1.1.0

same_size : (head : RetSubmitHead) (bytes : List ℕ) (piece : Piece) → (extended head bytes piece).size ≡ piece.size
same_size head bytes piece = step (nat_lt head.actual BULK_IN_SUBMIT)
  where
    step : (b : Bool) → (if b then record piece { bytes = piece.bytes ++ bytes; over = Some head.seqnum } else record piece { bytes = piece.bytes ++ bytes; full = piece.full + 1 }).size ≡ piece.size
    step true = refl
    step false = refl

read_within : (head : RetSubmitHead) (bytes : List ℕ) (piece : Piece) (earlier : List Piece) → read_fault head bytes (piece ∷ earlier) ≡ None → does_count head.seqnum piece ≡ true
    → length (data_of (extended head bytes piece).bytes) ≤ piece.size
read_within head bytes piece earlier h counts =
    subst (λ (n : ℕ). length (data_of (extended head bytes piece).bytes) ≤ n) (same_size head bytes piece) (sized_within (extended head bytes piece) (step (is_some piece.over) refl h))
  where
    step : (b : Bool) → is_some piece.over ≡ b
        → (if b then Some number_field else if does_count head.seqnum piece then first_fault (transfer_faults (extended head bytes piece)) else None) ≡ None
        → first_fault (transfer_faults (extended head bytes piece)) ≡ None
    step true e k = cc
    step false e k = subst (λ (c : Bool). (if c then first_fault (transfer_faults (extended head bytes piece)) else None) ≡ None) counts k

-- an answer that does not end the hub has no refused field
pub not_refused : (s : Setting) (past : Past) (x : Sent) (head : RetSubmitHead) (bytes : List ℕ) → submit_ends s (Some x) past head bytes ≡ None → owned_ends s x.owner x.order past head bytes ≡ None
not_refused s past x head bytes h = step (comes_early s.ends x x.owner (outstanding past)) (is_gone head.status) h
  where
    step : (b c : Bool) → (if b then Some (end.PeerFault number_field) else if c then Some end.Unplugged else owned_ends s x.owner x.order past head bytes) ≡ None
        → owned_ends s x.owner x.order past head bytes ≡ None
    step true c k = cc
    step false true k = cc
    step false false k = k

no_field : (o : Option Field) → as_end o ≡ None → o ≡ None
no_field None h = refl
no_field (Some f) h = cc

read_fine : (s : Setting) (past : Past) (t : ℕ) (owner : Owner) (head : RetSubmitHead) (bytes : List ℕ) → is_of t owner ≡ true → int_eq head.status (pos 0) ≡ true
    → owned_ends s owner Read past head bytes ≡ None → read_fault head bytes (pieces t past) ≡ None
read_fine s past t Recovery head bytes mine fine h = clash mine
read_fine s past t (Of u) head bytes mine fine h =
    subst (λ (v : ℕ). read_fault head bytes (pieces v past) ≡ None) (eqb-true u t mine)
    (no_field (read_fault head bytes (pieces u past)) (subst (λ (b : Bool). (if b then as_end (read_fault head bytes (pieces u past)) else None) ≡ None) fine h))

-- ---- the invariant

abbrev IsWithin : Asking → List Piece → Type 0
IsWithin a ps = Fits a.limit ps × OfAsk a.kind ps

shut_within : (a : Asking) (n : ℕ) (ps : List Piece) → IsWithin a ps → IsWithin a (shut_at n ps)
shut_within a n [] h = h
shut_within a n (piece ∷ earlier) h = step (is_some piece.over)
  where
    step : (b : Bool) → IsWithin a ((if b then piece else record piece { shut = least n piece.shut }) ∷ earlier)
    step true = h
    step false = h

opened_within : (a : Asking) (n : ℕ) (order : Order) (ps : List Piece) → IsWithin a ps → ((k size : ℕ) → order ≡ Request k size → AsksLeft a ps size) → IsWithin a (opened n order ps)
opened_within a n (Request k size) ps h left =
    let l = left k size refl in
    ((omega (arith, l.left, fits_within a.limit ps h.0), omega (arith, take_none (TransferSize [])), h.0), l.ask)
opened_within a n Read [] h left = h
opened_within a n Read (piece ∷ earlier) h left = h
opened_within a n (Part tag text eom) ps h left = h
opened_within a n (Trigger tag) ps h left = h
opened_within a n Listen ps h left = h
opened_within a n (Class request) ps h left = h
opened_within a n (ClearHalt endpoint) ps h left = h
opened_within a n (Unlink target) ps h left = h

read_by_within : (a : Asking) (head : RetSubmitHead) (bytes : List ℕ) (ps : List Piece) → IsWithin a ps → read_fault head bytes ps ≡ None → IsWithin a (read_by head bytes ps)
read_by_within a head bytes [] h fine = h
read_by_within a head bytes (piece ∷ earlier) h fine = step (does_count head.seqnum piece) refl
  where
    step : (b : Bool) → does_count head.seqnum piece ≡ b → IsWithin a ((if b then extended head bytes piece else piece) ∷ earlier)
    step true e = (
      (
        subst (λ (n : ℕ). length (data_in earlier) + n ≤ a.limit) (sym (same_size head bytes piece)) h.0.0,
        subst (λ (n : ℕ). length (data_of (extended head bytes piece).bytes) ≤ n) (sym (same_size head bytes piece)) (read_within head bytes piece earlier fine e),
        h.0.2,
      ),
      h.1,
    )
    step false e = h

answered_within : (s : Setting) (past : Past) (t : ℕ) (a : Asking) (x : Sent) (head : RetSubmitHead) (bytes : List ℕ) → is_of t x.owner ≡ true → owned_ends s x.owner x.order past head bytes ≡ None
    → IsWithin a (pieces t past) → IsWithin a (answered x.order head bytes (pieces t past))
answered_within s past t a x head bytes mine good h = by x.order good
  where
    other : (b : Bool) → IsWithin a (if b then pieces t past else shut_at 0 (pieces t past))
    other true = h
    other false = shut_within a 0 (pieces t past) h

    read : (b : Bool) → int_eq head.status (pos 0) ≡ b → owned_ends s x.owner Read past head bytes ≡ None → IsWithin a (if b then read_by head bytes (pieces t past) else shut_at 0 (pieces t past))
    read true e k = read_by_within a head bytes (pieces t past) h (read_fine s past t x.owner head bytes mine e k)
    read false e k = shut_within a 0 (pieces t past) h

    by : (order : Order) → owned_ends s x.owner order past head bytes ≡ None → IsWithin a (answered order head bytes (pieces t past))
    by Read k = read (int_eq head.status (pos 0)) refl k
    by (Part tag text eom) k = other (int_eq head.status (pos 0))
    by (Request tag size) k = other (int_eq head.status (pos 0))
    by (Trigger tag) k = other (int_eq head.status (pos 0))
    by Listen k = other (int_eq head.status (pos 0))
    by (Class request) k = other (int_eq head.status (pos 0))
    by (ClearHalt endpoint) k = other (int_eq head.status (pos 0))
    by (Unlink target) k = other (int_eq head.status (pos 0))

answer_within : (s : Setting) (past : Past) (t : ℕ) (a : Asking) (o : Option Sent) (head : RetSubmitHead) (bytes : List ℕ) → submit_ends s o past head bytes ≡ None
    → IsWithin a (pieces t past) → IsWithin a (answered_for t o head bytes (pieces t past))
answer_within s past t a None head bytes good h = h
answer_within s past t a (Some x) head bytes good h = step (is_of t x.owner) refl
  where
    step : (b : Bool) → is_of t x.owner ≡ b → IsWithin a (if b then answered x.order head bytes (pieces t past) else pieces t past)
    step true e = answered_within s past t a x head bytes e (not_refused s past x head bytes good) h
    step false e = h

lost_within : (a : Asking) (t : ℕ) (o : Option Sent) (ps : List Piece) → IsWithin a ps → IsWithin a (lost_for t o ps)
lost_within a t None ps h = h
lost_within a t (Some x) ps h = step (is_of t x.owner)
  where
    by : (order : Order) → IsWithin a (lost order x.number ps)
    by Read = shut_within a x.number ps h
    by order = h

    step : (b : Bool) → IsWithin a (if b then lost x.order x.number ps else ps)
    step true = by x.order
    step false = h

order_left : (s : Setting) (past : Past) (t : ℕ) (a : Asking) (order : Order) → WriteLaw s past (Of t) order → asking_of t past ≡ Some a → OfAsk a.kind (pieces t past)
    → (k size : ℕ) → order ≡ Request k size → AsksLeft a (pieces t past) size
order_left s past t a (Request j n) law known of k size e =
    planned_left s t past a k size known of (law.0.plan ∙ ap Some e)
order_left s past t a (Part tag text eom) law known of k size e = cc
order_left s past t a (Trigger tag) law known of k size e = cc
order_left s past t a Read law known of k size e = cc
order_left s past t a Listen law known of k size e = cc
order_left s past t a (Class request) law known of k size e = cc
order_left s past t a (ClearHalt endpoint) law known of k size e = cc
order_left s past t a (Unlink target) law known of k size e = cc

wrote_within : (s : Setting) (past : Past) (t : ℕ) (a : Asking) (n : ℕ) (u : ℕ) (order : Order) → WriteLaw s past (Of u) order → asking_of t past ≡ Some a → IsWithin a (pieces t past)
    → IsWithin a (if u == t then opened n order (pieces t past) else pieces t past)
wrote_within s past t a n u order law known h = step (u == t) refl
  where
    step : (b : Bool) → (u == t) ≡ b → IsWithin a (if b then opened n order (pieces t past) else pieces t past)
    step true e = opened_within a n order (pieces t past) h (order_left s past t a order (subst (λ (v : ℕ). WriteLaw s past (Of v) order) (eqb-true u t e) law) known h.1)
    step false e = h

none_unasked : (s : Setting) (past : Past) → Lawful s past → (t : ℕ) → tickets past < t → pieces t past ≡ []
none_unasked s past h t far = none_unbegun t past (unasked_begun s past h t far)

pub within : (s : Setting) (past : Past) → Lawful s past → (t : ℕ) (a : Asking) → asking_of t past ≡ Some a → IsWithin a (pieces t past)
within s [] h t a e = (tt, tt)
within s (Wrote n (Of u) order ∷ past) h t a e = wrote_within s past t a n u order h.1.2 e (within s past h.0 t a e)
within s (Wrote n Recovery order ∷ past) h t a e = within s past h.0 t a e
within s (Took (down.RetSubmit head bytes) ∷ past) h t a e = answer_within s past t a (find head.seqnum (outstanding past)) head bytes h.1.2 (within s past h.0 t a e)
within s (Took (down.RetUnlink head) ∷ past) h t a e = lost_within a t (lost_with head.seqnum (outstanding past)) (pieces t past) (within s past h.0 t a e)
within s (Asked u b ∷ past) h t a e = step (nat_lt (tickets past) t) refl (within s past h.0 t a)
  where
    step : (c : Bool) → nat_lt (tickets past) t ≡ c → (asking_of t past ≡ Some a → IsWithin a (pieces t past)) → IsWithin a (pieces t past)
    step true f again = subst (λ (ps : List Piece). IsWithin a ps) (sym (none_unasked s past h.0 t (ltb-true (tickets past) t f))) (tt, tt)
    step false f again = again (asked_before s past (Asked u b) h t a (ltb-false (tickets past) t f) e)
within s (x ∷ past) h t a e = within s past h.0 t a e

pub never_passes : (s : Setting) (past : Past) → Lawful s past → (t : ℕ) (a : Asking) → asking_of t past ≡ Some a → length (got t past) ≤ a.limit
never_passes s past h t a e = fits_within a.limit (pieces t past) (within s past h t a e).0

pub asks_alone : (s : Setting) (past : Past) → Lawful s past → (t : ℕ) (a : Asking) → asking_of t past ≡ Some a → (a.kind ≡ kind.Ask → ⊥) → got t past ≡ []
asks_alone s past h t a e other = by (pieces t past) (within s past h t a e).1
  where
    by : (ps : List Piece) → OfAsk a.kind ps → data_in ps ≡ []
    by [] of = refl
    by (piece ∷ earlier) of = absurd (other of)
