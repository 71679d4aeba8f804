-- a settled view never changes
use Rattle.std.proofs.Common.{◌≡◌, ◌≢◌, ◌⊎◌, ℕ, pos, ◌≤◌, ◌||◌, ◌&&◌, not, Bool, true, false, List, [], ◌∷◌, ◌++◌, length, min, Option, Some, None, inl, inr, refl, sym, subst, ◌∙◌, ap, arith}
use Rattle.std.specs.Prelude.{◌==◌, is_some, if◌then◌else◌}
use Rattle.std.specs.Ordering.{int_eq}
use Rattle.std.proofs.lemmas.Bool.{eqb-true, le-ltb}
use Rattle.std.proofs.Math.Nat.{min-le_left, min-le_right}
use Rattle.usbip_wire.specs.declared.ret_submit.RetSubmitHead.{RetSubmitHead}
use Rattle.usbip_wire.specs.Down as down
use Rattle.host_transfers.specs.Piece.{eom_of}
use Rattle.host_hub.specs.declared.kind.Kind.{Kind}
use Rattle.host_hub.specs.declared.kind.Kind.TheVariants as kind
use Rattle.host_hub.specs.declared.outcome.End.{End}
use Rattle.host_hub.specs.declared.outcome.Outcome.{Outcome}
use Rattle.host_hub.specs.declared.outcome.Outcome.TheVariants as outcome
use Rattle.host_hub.specs.Order.{Class, ClearHalt, Listen, Order, Part, Read, Request, Setting, Trigger, Unlink, endpoint_of, is_listen, is_read}
use Rattle.host_hub.specs.Record.{Asked, Asking, Cancelled, Cleared, Fell, GaveUp, Happening, Of, Past, Recovers, Recovery, Settled, Stopped, Took, Wrote, next}
use Rattle.host_hub.specs.Book.{active, asking_of, is_active, live, or_else, settled}
use Rattle.host_hub.specs.Hand.{ended, ended_by, is_of}
use Rattle.host_hub.specs.Outstanding.{Sent, find, involved, less, less_unlink, lost_with, others, outstanding, without_named}
use Rattle.host_hub.specs.Pieces.{Piece, answered, answered_for, data_in, does_count, got, is_below, least, lost, lost_for, opened, pieces, read_by, shut_at}
use Rattle.host_hub.specs.Status.{awaits, concerns, listens}
use Rattle.host_hub.specs.Made.{Standing, judged, made_at, made_by, piece_made, served, stalled, standing}
use Rattle.host_hub.specs.Causes.{cause, causes, ends_as, once_free, reached, stops}
use Rattle.host_hub.specs.Plan.{ended_at, message_end}
use Rattle.host_hub.specs.Law.{Lawful, Planned, Works, WriteLaw}
use Rattle.host_hub.proofs.Entries.{IsIn}
use Rattle.host_hub.proofs.Fronts.{found_in}
use Rattle.host_hub.proofs.Lists.{clash, first_has}
use Rattle.host_hub.proofs.Lawful.{lawful_book}
use Rattle.host_hub.proofs.Numbers.{may_next}
use Rattle.host_hub.proofs.Pasts.{settled_cause}
use Rattle.host_hub.proofs.Starts.{first_next}
use Rattle.host_hub.proofs.Tickets.{stays}
use Rattle.host_hub.specs.Steps.{took}
use Rattle.host_hub.proofs.Within.{OfAsk, within}

-- ---- what is frozen: no read of the ticket is out, or none that is out counts

abbrev own_reads : ℕ → List Sent → List Sent
own_reads t [] = []
own_reads t (x ∷ xs) = if is_of t x.owner && is_read x.order then x ∷ own_reads t xs else own_reads t xs

abbrev IsShut : List Piece → Type 0
IsShut [] = Unit {0}
IsShut (piece ∷ earlier) = (is_some piece.over ≡ true) ⊎ (piece.shut ≡ Some 0)

abbrev IsFrozen : ℕ → Past → Type 0
IsFrozen t past = (own_reads t (outstanding past) ≡ []) ⊎ IsShut (pieces t past)

-- the data of pieces that are shut
shut_data : (n : ℕ) (ps : List Piece) → data_in (shut_at n ps) ≡ data_in ps
shut_data n [] = refl
shut_data n (piece ∷ earlier) = step (is_some piece.over)
  where
    step : (b : Bool) → data_in ((if b then piece else record piece { shut = least n piece.shut }) ∷ earlier) ≡ data_in (piece ∷ earlier)
    step true = refl
    step false = refl

none_below : (n : ℕ) → n ≤ 0 → n ≡ 0
none_below n h = omega (arith, h)

least_zero : (n : ℕ) (o : Option ℕ) → o ≡ Some 0 → least n o ≡ Some 0
least_zero n o e = rw e (ap Some (none_below (min n 0) (min-le_right n 0)))

zero_least : (o : Option ℕ) → least 0 o ≡ Some 0
zero_least None = refl
zero_least (Some k) = ap Some (none_below (min 0 k) (min-le_left 0 k))

shut_stays : (n : ℕ) (ps : List Piece) → IsShut ps → IsShut (shut_at n ps)
shut_stays n [] h = tt
shut_stays n (piece ∷ earlier) h = step (is_some piece.over) refl h
  where
    step : (b : Bool) → is_some piece.over ≡ b → (is_some piece.over ≡ true) ⊎ (piece.shut ≡ Some 0)
        → IsShut ((if b then piece else record piece { shut = least n piece.shut }) ∷ earlier)
    step true e k = inl e
    step false e (inl k) = clash (sym e ∙ k)
    step false e (inr k) = inr (least_zero n piece.shut k)

shut_now : (ps : List Piece) → IsShut (shut_at 0 ps)
shut_now [] = tt
shut_now (piece ∷ earlier) = step (is_some piece.over) refl
  where
    step : (b : Bool) → is_some piece.over ≡ b → IsShut ((if b then piece else record piece { shut = least 0 piece.shut }) ∷ earlier)
    step true e = inl e
    step false e = inr (zero_least piece.shut)

-- a read of a piece that is shut does not count
not_counted : (n : ℕ) (piece : Piece) → 1 ≤ n → (is_some piece.over ≡ true) ⊎ (piece.shut ≡ Some 0) → does_count n piece ≡ false
not_counted n piece low (inl e) = rw e (and_no (is_below n piece.shut))
  where
    and_no : (b : Bool) → b && false ≡ false
    and_no true = refl
    and_no false = refl
not_counted n piece low (inr e) = rw e (rw (le-ltb n 1 low) refl)

read_same : (head : RetSubmitHead) (bytes : List ℕ) (ps : List Piece) → 1 ≤ head.seqnum → IsShut ps → read_by head bytes ps ≡ ps
read_same head bytes [] low h = refl
read_same head bytes (piece ∷ earlier) low h = rw (not_counted head.seqnum piece low h) refl

-- ---- an answer to it gives nothing

abbrev Same : List Piece → List Piece → Type 0
Same ps qs = (data_in qs ≡ data_in ps) × (IsShut ps → IsShut qs)

same_by : (ps : List Piece) (b : Bool) → Same ps (if b then ps else shut_at 0 ps)
same_by ps true = (refl, λ k. k)
same_by ps false = (shut_data 0 ps, λ k. shut_now ps)

answer_same : (order : Order) (head : RetSubmitHead) (bytes : List ℕ) (ps : List Piece) → 1 ≤ head.seqnum → (is_read order ≡ true → IsShut ps) → Same ps (answered order head bytes ps)
answer_same Read head bytes ps low shut = step (int_eq head.status (pos 0))
  where
    step : (b : Bool) → Same ps (if b then read_by head bytes ps else shut_at 0 ps)
    step true = (ap data_in (read_same head bytes ps low (shut refl)), λ k. subst IsShut (sym (read_same head bytes ps low (shut refl))) k)
    step false = (shut_data 0 ps, λ k. shut_now ps)
answer_same (Part tag text eom) head bytes ps low shut = same_by ps (int_eq head.status (pos 0))
answer_same (Request tag size) head bytes ps low shut = same_by ps (int_eq head.status (pos 0))
answer_same (Trigger tag) head bytes ps low shut = same_by ps (int_eq head.status (pos 0))
answer_same Listen head bytes ps low shut = same_by ps (int_eq head.status (pos 0))
answer_same (Class request) head bytes ps low shut = same_by ps (int_eq head.status (pos 0))
answer_same (ClearHalt endpoint) head bytes ps low shut = same_by ps (int_eq head.status (pos 0))
answer_same (Unlink target) head bytes ps low shut = same_by ps (int_eq head.status (pos 0))

in_reads : (t : ℕ) (x : Sent) (xs : List Sent) → IsIn x xs → is_of t x.owner ≡ true → is_read x.order ≡ true → own_reads t xs ≢ []
in_reads t x [] h of is = absurd h
in_reads t x (y ∷ ys) (inl e) of is =
    rw (sym (ap (λ (z : Sent). is_of t z.owner) e) ∙ of) (rw (sym (ap (λ (z : Sent). is_read z.order) e) ∙ is) (some _ _))
  where
    some : (z : Sent) (zs : List Sent) → z ∷ zs ≢ []
    some z zs k = cc
in_reads t x (y ∷ ys) (inr m) of is = step (is_of t y.owner && is_read y.order) (in_reads t x ys m of is)
  where
    step : (b : Bool) → own_reads t ys ≢ [] → (if b then y ∷ own_reads t ys else own_reads t ys) ≢ []
    step true again k = cc
    step false again k = again k

-- where it is frozen, an answer leaves its bytes, and it stays frozen
took_same : (s : Setting) (past : Past) (t : ℕ) (head : RetSubmitHead) (bytes : List ℕ) → IsFrozen t past → ((x : Sent) → IsIn x (outstanding past) → 1 ≤ x.number)
    → Same (pieces t past) (answered_for t (find head.seqnum (outstanding past)) head bytes (pieces t past))
took_same s past t head bytes frozen low = by (find head.seqnum (outstanding past)) refl
  where
    one : (x : Sent) → find head.seqnum (outstanding past) ≡ Some x → is_of t x.owner ≡ true → IsFrozen t past → Same (pieces t past) (answered x.order head bytes (pieces t past))
    one x e of (inr shut) =
        let there = found_in head.seqnum (outstanding past) x e in
        answer_same x.order head bytes (pieces t past) (subst (λ (n : ℕ). 1 ≤ n) there.1 (low x there.0)) (λ k. shut)
    one x e of (inl none) =
        let there = found_in head.seqnum (outstanding past) x e in
        answer_same x.order head bytes (pieces t past) (subst (λ (n : ℕ). 1 ≤ n) there.1 (low x there.0)) (λ k. absurd (in_reads t x (outstanding past) there.0 of k none))

    by : (o : Option Sent) → find head.seqnum (outstanding past) ≡ o → Same (pieces t past) (answered_for t o head bytes (pieces t past))
    by None e = (refl, λ k. k)
    by (Some x) e = step (is_of t x.owner) refl where
      step : (b : Bool) → is_of t x.owner ≡ b → Same (pieces t past) (if b then answered x.order head bytes (pieces t past) else pieces t past)
      step true of = one x e of frozen
      step false of = (refl, λ k. k)

lost_same : (t : ℕ) (o : Option Sent) (ps : List Piece) → Same ps (lost_for t o ps)
lost_same t None ps = (refl, λ k. k)
lost_same t (Some x) ps = step (is_of t x.owner)
  where
    by : (order : Order) → Same ps (lost order x.number ps)
    by Read = (shut_data x.number ps, shut_stays x.number ps)
    by order = (refl, λ k. k)

    step : (b : Bool) → Same ps (if b then lost x.order x.number ps else ps)
    step true = by x.order
    step false = (refl, λ k. k)

-- no read comes where none was
reads_others : (t n : ℕ) (xs : List Sent) → own_reads t xs ≡ [] → own_reads t (others n xs) ≡ []
reads_others t n [] h = refl
reads_others t n (x ∷ xs) h = step (is_of t x.owner && is_read x.order) refl (x.number == n) h (reads_others t n xs)
  where
    step : (b : Bool) → (is_of t x.owner && is_read x.order) ≡ b → (c : Bool) → (if b then x ∷ own_reads t xs else own_reads t xs) ≡ [] → (own_reads t xs ≡ [] → own_reads t (others n xs) ≡ [])
        → own_reads t (if c then others n xs else x ∷ others n xs) ≡ []
    step true e c k again = cc
    step false e true k again = again k
    step false e false k again = rw e (again k)

reads_named : (t : ℕ) (order : Order) (xs : List Sent) → own_reads t xs ≡ [] → own_reads t (without_named order xs) ≡ []
reads_named t (Unlink target) xs h = reads_others t target xs h
reads_named t order xs h = h

reads_unlink : (t n : ℕ) (xs : List Sent) → own_reads t xs ≡ [] → own_reads t (less_unlink n xs) ≡ []
reads_unlink t n [] h = refl
reads_unlink t n (x ∷ xs) h = step (is_of t x.owner && is_read x.order) refl (x.number == n) h (reads_unlink t n xs)
  where
    step : (b : Bool) → (is_of t x.owner && is_read x.order) ≡ b → (c : Bool) → (if b then x ∷ own_reads t xs else own_reads t xs) ≡ [] → (own_reads t xs ≡ [] → own_reads t (less_unlink n xs) ≡ [])
        → own_reads t (if c then without_named x.order xs else x ∷ less_unlink n xs) ≡ []
    step true e c k again = cc
    step false e true k again = reads_named t x.order xs k
    step false e false k again = rw e (again k)

reads_less : (t : ℕ) (m : down.Message) (xs : List Sent) → own_reads t xs ≡ [] → own_reads t (less m xs) ≡ []
reads_less t (down.RetSubmit head bytes) xs h = reads_others t head.seqnum xs h
reads_less t (down.RetUnlink head) xs h = reads_unlink t head.seqnum xs h

reads_free : (t : ℕ) (b : Bool) (xs : List Sent) → involved t b xs ≡ [] → own_reads t xs ≡ []
reads_free t b [] h = refl
reads_free t b (x ∷ xs) h = step (is_of t x.owner) refl (b && is_listen x.order) h (reads_free t b xs)
  where
    step : (c : Bool) → is_of t x.owner ≡ c → (d : Bool) → (if c || d then x ∷ involved t b xs else involved t b xs) ≡ [] → (involved t b xs ≡ [] → own_reads t xs ≡ [])
        → (if is_of t x.owner && is_read x.order then x ∷ own_reads t xs else own_reads t xs) ≡ []
    step true e d k again = cc
    step false e true k again = cc
    step false e false k again = rw e (again k)

-- ---- numbers are at least the first one

lows_others : (n m : ℕ) (xs : List Sent) → ((x : Sent) → IsIn x xs → m ≤ x.number) → (x : Sent) → IsIn x (others n xs) → m ≤ x.number
lows_others n m [] h x k = absurd k
lows_others n m (y ∷ ys) h x k = step (y.number == n) (lows_others n m ys (λ z i. h z (inr i)) x) k
  where
    kept : (IsIn x (others n ys) → m ≤ x.number) → (x ≡ y) ⊎ IsIn x (others n ys) → m ≤ x.number
    kept again (inl e) = h x (inl e)
    kept again (inr e) = again e

    step : (b : Bool) → (IsIn x (others n ys) → m ≤ x.number) → IsIn x (if b then others n ys else y ∷ others n ys) → m ≤ x.number
    step true again i = again i
    step false again i = kept again i

lows_named : (order : Order) (m : ℕ) (xs : List Sent) → ((x : Sent) → IsIn x xs → m ≤ x.number) → (x : Sent) → IsIn x (without_named order xs) → m ≤ x.number
lows_named (Unlink target) m xs h = lows_others target m xs h
lows_named order m xs h = h

lows_unlink : (n m : ℕ) (xs : List Sent) → ((x : Sent) → IsIn x xs → m ≤ x.number) → (x : Sent) → IsIn x (less_unlink n xs) → m ≤ x.number
lows_unlink n m [] h x k = absurd k
lows_unlink n m (y ∷ ys) h x k = step (y.number == n) (lows_unlink n m ys (λ z i. h z (inr i)) x) k
  where
    kept : (IsIn x (less_unlink n ys) → m ≤ x.number) → (x ≡ y) ⊎ IsIn x (less_unlink n ys) → m ≤ x.number
    kept again (inl e) = h x (inl e)
    kept again (inr e) = again e

    step : (b : Bool) → (IsIn x (less_unlink n ys) → m ≤ x.number) → IsIn x (if b then without_named y.order ys else y ∷ less_unlink n ys) → m ≤ x.number
    step true again i = lows_named y.order m ys (λ z j. h z (inr j)) x i
    step false again i = kept again i

lows_less : (a : down.Message) (m : ℕ) (xs : List Sent) → ((x : Sent) → IsIn x xs → m ≤ x.number) → (x : Sent) → IsIn x (less a xs) → m ≤ x.number
lows_less (down.RetSubmit head bytes) m xs h = lows_others head.seqnum m xs h
lows_less (down.RetUnlink head) m xs h = lows_unlink head.seqnum m xs h

lows : (s : Setting) (past : Past) → Lawful s past → (x : Sent) → IsIn x (outstanding past) → s.first ≤ x.number
lows s [] h x k = absurd k
lows s (Wrote n o k ∷ past) h x (inl e) =
    let is : x.number ≡ next s.first past = ap (λ (z : Sent). z.number) e ∙ may_next s past n k h.1.1 in omega (arith, is, first_next s past)
lows s (Wrote n o k ∷ past) h x (inr e) = lows s past h.0 x e
lows s (Took m ∷ past) h x k = lows_less m s.first (outstanding past) (lows s past h.0) x k
lows s (Fell m e ∷ past) h x k = lows_less m s.first (outstanding past) (lows s past h.0) x k
lows s (y ∷ past) h x k = lows s past h.0 x k

-- ---- a ticket that has a cause is frozen, or the hub has ended

and_false : (b : Bool) → b && false ≡ false
and_false true = refl
and_false false = refl

planned_none : (s : Setting) (past : Past) (t : ℕ) (o : Outcome) (order : Order) → Works s past → cause s t past ≡ Some o → Planned s past t order → ⊥
planned_none s past t o order works e law = let none : cause s t past ≡ None = works.settled t (first_has t (live past) law.turn) in by (sym none ∙ e)
  where
    by : None ≡ Some o → ⊥
    by k = cc

abbrev IsOver : ℕ → Past → Type 0
IsOver t past = (ended past ≢ None) ⊎ IsFrozen t past

-- nothing is written for a ticket that has a cause but unlinks
caused_law : (s : Setting) (past : Past) (t : ℕ) (o : Outcome) (order : Order) → Works s past → cause s t past ≡ Some o → WriteLaw s past (Of t) order → (target : ℕ) × (order ≡ Unlink target)
caused_law s past t o (Unlink target) works e law = (target, refl)
caused_law s past t o (Part tag text eom) works e law = absurd (planned_none s past t o (Part tag text eom) works e law.0)
caused_law s past t o (Request tag size) works e law = absurd (planned_none s past t o (Request tag size) works e law.0)
caused_law s past t o (Trigger tag) works e law = absurd (planned_none s past t o (Trigger tag) works e law.0)
caused_law s past t o Read works e law = absurd (planned_none s past t o Read works e law.0)
caused_law s past t o Listen works e law = absurd (planned_none s past t o Listen works e law.0)
caused_law s past t o (Class request) works e law = absurd (planned_none s past t o (Class request) works e law.0)
caused_law s past t o (ClearHalt endpoint) works e law = absurd (planned_none s past t o (ClearHalt endpoint) works e law.0)

wrote_frozen : (s : Setting) (past : Past) (n t u : ℕ) (o : Outcome) (order : Order) → Works s past → cause s t past ≡ Some o → WriteLaw s past (Of u) order → IsFrozen t past
    → IsFrozen t (Wrote n (Of u) order ∷ past)
wrote_frozen s past n t u o order works e law frozen = step (u == t) refl
  where
    mine : (order : Order) → (target : ℕ) × (order ≡ Unlink target) → IsFrozen t past
        → ((if true && is_read order then record { number = n; owner = Of u; order = order } ∷ own_reads t (outstanding past) else own_reads t (outstanding past)) ≡ [])
        ⊎ IsShut (opened n order (pieces t past))
    mine (Unlink k) is fr = fr
    mine (Part tag text eom) is fr = cc
    mine (Request tag size) is fr = cc
    mine (Trigger tag) is fr = cc
    mine Read is fr = cc
    mine Listen is fr = cc
    mine (Class request) is fr = cc
    mine (ClearHalt endpoint) is fr = cc

    step : (b : Bool) → (u == t) ≡ b
        → ((if b && is_read order then record { number = n; owner = Of u; order = order } ∷ own_reads t (outstanding past) else own_reads t (outstanding past)) ≡ [])
        ⊎ IsShut (if b then opened n order (pieces t past) else pieces t past)
    step true f = mine order (caused_law s past t o order works e (subst (λ (v : ℕ). WriteLaw s past (Of v) order) (eqb-true u t f) law)) frozen
    step false f = frozen

took_frozen : (s : Setting) (past : Past) (t : ℕ) (m : down.Message) → 1 ≤ s.first → Lawful s past → IsFrozen t past → IsFrozen t (Took m ∷ past)
took_frozen s past t (down.RetSubmit head bytes) one h (inl none) = inl (reads_less t (down.RetSubmit head bytes) (outstanding past) none)
took_frozen s past t (down.RetUnlink head) one h (inl none) = inl (reads_less t (down.RetUnlink head) (outstanding past) none)
took_frozen s past t (down.RetSubmit head bytes) one h (inr shut) =
    inr ((took_same s past t head bytes (inr shut) (λ x i. let low : s.first ≤ x.number = lows s past h x i in omega (arith, one, low))).1 shut)
took_frozen s past t (down.RetUnlink head) one h (inr shut) = inr ((lost_same t (lost_with head.seqnum (outstanding past)) (pieces t past)).1 shut)

-- an answer that makes an outcome freezes its ticket

piece_shut : (limit : ℕ) (ps : List Piece) (o : Outcome) → piece_made limit ps ≡ Some o → IsShut ps
piece_shut limit [] o e = cc
piece_shut limit (piece ∷ earlier) o e = step (is_some piece.over) refl e
  where
    step : (b : Bool) → is_some piece.over ≡ b
        → (if not b then None else if eom_of piece.bytes then Some outcome.Complete else if length (data_in (piece ∷ earlier)) == limit then Some outcome.Limit else None) ≡ Some o
        → IsShut (piece ∷ earlier)
    step true f k = inl f
    step false f k = cc

kind_shut : (a : Asking) (ps : List Piece) → OfAsk a.kind ps → (a.kind ≡ kind.Ask → ⊥) → IsShut ps
kind_shut a [] of other = tt
kind_shut a (piece ∷ earlier) of other = absurd (other of)

served_shut : (which : Kind) (limit : ℕ) (order : Order) (bytes : List ℕ) (now : Standing) (o : Outcome) → which ≡ kind.Ask → served which limit order bytes now ≡ Some o → IsShut now.pieces
served_shut kind.Ask limit Read bytes now o is e = piece_shut limit now.pieces o e
served_shut kind.Ask limit (Part tag text eom) bytes now o is e = cc
served_shut kind.Ask limit (Request tag size) bytes now o is e = cc
served_shut kind.Ask limit (Trigger tag) bytes now o is e = cc
served_shut kind.Ask limit Listen bytes now o is e = cc
served_shut kind.Ask limit (Class request) bytes now o is e = cc
served_shut kind.Ask limit (ClearHalt endpoint) bytes now o is e = cc
served_shut kind.Ask limit (Unlink target) bytes now o is e = cc
served_shut kind.Tell limit order bytes now o is e = cc
served_shut kind.Trigger limit order bytes now o is e = cc
served_shut kind.Status limit order bytes now o is e = cc
served_shut (kind.Remote act) limit order bytes now o is e = cc

is_ask : (which : Kind) → (which ≡ kind.Ask) ⊎ (which ≡ kind.Ask → ⊥)
is_ask kind.Ask = inl refl
is_ask kind.Tell = inr (λ e. cc)
is_ask kind.Trigger = inr (λ e. cc)
is_ask kind.Status = inr (λ e. cc)
is_ask (kind.Remote act) = inr (λ e. cc)

fault_shut : (order : Order) (head : RetSubmitHead) (bytes : List ℕ) (ps : List Piece) → int_eq head.status (pos 0) ≡ false → IsShut (answered order head bytes ps)
fault_shut Read head bytes ps e = rw e (shut_now ps)
fault_shut (Part tag text eom) head bytes ps e = rw e (shut_now ps)
fault_shut (Request tag size) head bytes ps e = rw e (shut_now ps)
fault_shut (Trigger tag) head bytes ps e = rw e (shut_now ps)
fault_shut Listen head bytes ps e = rw e (shut_now ps)
fault_shut (Class request) head bytes ps e = rw e (shut_now ps)
fault_shut (ClearHalt endpoint) head bytes ps e = rw e (shut_now ps)
fault_shut (Unlink target) head bytes ps e = rw e (shut_now ps)

-- what concerns an ask is its own
concerns_ask : (t : ℕ) (past : Past) (a : Asking) (x : Sent) → asking_of t past ≡ Some a → a.kind ≡ kind.Ask → concerns t past x ≡ true → is_of t x.owner ≡ true
concerns_ask t past a x known ask e = step (is_listen x.order) e
  where
    deaf : listens t past ≡ false
    deaf = rw known (rw ask refl)

    step : (b : Bool) → (if b then is_active t (active past) && listens t past else is_of t x.owner) ≡ true → is_of t x.owner ≡ true
    step true k = clash (sym (rw deaf (and_false (is_active t (active past)))) ∙ k)
    step false k = k

made_shut : (s : Setting) (past : Past) (t : ℕ) (a : Asking) (o : Outcome) (head : RetSubmitHead) (bytes : List ℕ) → Lawful s (took past head bytes) → asking_of t past ≡ Some a
    → made_at s t past (Took (down.RetSubmit head bytes)) ≡ Some o → IsShut (pieces t (took past head bytes))
made_shut s past t a o head bytes h known e = which (is_ask a.kind)
  where
    now : Standing
    now = standing s t (took past head bytes)

    judged_shut : (x : Sent) → find head.seqnum (outstanding past) ≡ Some x → a.kind ≡ kind.Ask → is_of t x.owner ≡ true
        → judged s a x.order head bytes now ≡ Some o → IsShut (pieces t (took past head bytes))
    judged_shut x found ask of k = step (int_eq head.status (pos 0)) refl k where
      step : (b : Bool) → int_eq head.status (pos 0) ≡ b
          → (if b then served a.kind a.limit x.order bytes now else if int_eq head.status stalled then Some (outcome.Halted (endpoint_of s.ends x.order)) else Some (outcome.DeviceFault head.status)) ≡ Some o
          → IsShut (pieces t (took past head bytes))
      step true f j = served_shut a.kind a.limit x.order bytes now o ask j
      step false f j =
          subst IsShut (sym (ap (λ (q : Option Sent). answered_for t q head bytes (pieces t past)) found
          ∙ ap (λ (b : Bool). if b then answered x.order head bytes (pieces t past) else pieces t past) of)) (fault_shut x.order head bytes (pieces t past) f)

    one : (x : Sent) → find head.seqnum (outstanding past) ≡ Some x → a.kind ≡ kind.Ask → made_by s t past (Some a) (Some x) head bytes now ≡ Some o → IsShut (pieces t (took past head bytes))
    one x found ask k = step (concerns t past x) refl k where
      step : (b : Bool) → concerns t past x ≡ b → (if b then judged s a x.order head bytes now else None) ≡ Some o → IsShut (pieces t (took past head bytes))
      step true f j = judged_shut x found ask (concerns_ask t past a x known ask f) j
      step false f j = cc

    by : (q : Option Sent) → find head.seqnum (outstanding past) ≡ q → a.kind ≡ kind.Ask → made_by s t past (Some a) q head bytes now ≡ Some o → IsShut (pieces t (took past head bytes))
    by None found ask k = cc
    by (Some x) found ask k = one x found ask k

    which : (a.kind ≡ kind.Ask) ⊎ (a.kind ≡ kind.Ask → ⊥) → IsShut (pieces t (took past head bytes))
    which (inl ask) =
        by (find head.seqnum (outstanding past)) refl ask
        (subst (λ (k : Option Asking). made_by s t past k (find head.seqnum (outstanding past)) head bytes now ≡ Some o) known e)
    which (inr other) = kind_shut a (pieces t (took past head bytes)) (within s (took past head bytes) h t a known).1 other

made_frozen : (s : Setting) (past : Past) (t : ℕ) (o : Outcome) (x : Happening) → Lawful s (x ∷ past) → made_at s t past x ≡ Some o → IsFrozen t (x ∷ past)
made_frozen s past t o (Took (down.RetSubmit head bytes)) h e = by (asking_of t past) refl e
  where
    by : (k : Option Asking) → asking_of t past ≡ k → made_by s t past k (find head.seqnum (outstanding past)) head bytes (standing s t (took past head bytes)) ≡ Some o → IsFrozen t (took past head bytes)
    by None known j = cc
    by (Some a) known j = inr (made_shut s past t a o head bytes h known (subst (λ (k : Option Asking). made_by s t past k (find head.seqnum (outstanding past)) head bytes (standing s t (took past head bytes)) ≡ Some o) (sym known) j))
made_frozen s past t o (Took (down.RetUnlink head)) h e = cc
made_frozen s past t o (Wrote n w k) h e = cc
made_frozen s past t o (Fell m d) h e = cc
made_frozen s past t o (Stopped d) h e = cc
made_frozen s past t o Recovers h e = cc
made_frozen s past t o (Asked u a) h e = cc
made_frozen s past t o (Cancelled u) h e = cc
made_frozen s past t o (Cleared w) h e = cc
made_frozen s past t o GaveUp h e = cc
made_frozen s past t o (Settled u p) h e = cc

-- ---- the cause of a ticket freezes it, or ended the hub

still_over : (t : ℕ) (past : Past) (x : Happening) → IsOver t past → (IsFrozen t past → IsFrozen t (x ∷ past)) → (ended past ≢ None → ended (x ∷ past) ≢ None) → IsOver t (x ∷ past)
still_over t past x (inl e) frozen over = inl (over e)
still_over t past x (inr f) frozen over = inr (frozen f)

ends_more : (x : Happening) (o : Option End) → o ≢ None → ended_by x o ≢ None
ends_more (Fell m e) o h = λ k. by k
  where
    by : Some e ≡ None → ⊥
    by k = cc
ends_more (Stopped e) o h = λ k. by k
  where
    by : Some e ≡ None → ⊥
    by k = cc
ends_more x o h = h

frozen_by : (s : Setting) (past : Past) (t : ℕ) (o : Outcome) (x : Happening) → 1 ≤ s.first → Lawful s (x ∷ past) → cause s t past ≡ Some o → IsFrozen t past → IsFrozen t (x ∷ past)
frozen_by s past t o (Wrote n (Of u) k) one h e f = wrote_frozen s past n t u o k h.1.0 e h.1.2 f
frozen_by s past t o (Wrote n Recovery k) one h e f = f
frozen_by s past t o (Took m) one h e f = took_frozen s past t m one h.0 f
frozen_by s past t o (Fell m d) one h e (inl none) = inl (reads_less t m (outstanding past) none)
frozen_by s past t o (Fell m d) one h e (inr shut) = inr shut
frozen_by s past t o (Stopped d) one h e f = f
frozen_by s past t o Recovers one h e f = f
frozen_by s past t o (Asked u a) one h e f = f
frozen_by s past t o (Cancelled u) one h e f = f
frozen_by s past t o (Cleared w) one h e f = f
frozen_by s past t o GaveUp one h e f = f
frozen_by s past t o (Settled u p) one h e f = f

ends_over : (o : Outcome) (x : Happening) (q : Option End) → ends_as (ended_by x None) ≡ Some o → ended_by x q ≢ None
ends_over o (Fell m e) q h = λ k. by k
  where
    by : Some e ≡ None → ⊥
    by k = cc
ends_over o (Stopped e) q h = λ k. by k
  where
    by : Some e ≡ None → ⊥
    by k = cc
ends_over o (Wrote n w k) q h = cc
ends_over o (Took m) q h = cc
ends_over o Recovers q h = cc
ends_over o (Asked u a) q h = cc
ends_over o (Cancelled u) q h = cc
ends_over o (Cleared w) q h = cc
ends_over o GaveUp q h = cc
ends_over o (Settled u p) q h = cc

stop_free : (o : Outcome) (r : Option Outcome) (xs : List Sent) → once_free r xs ≡ Some o → xs ≡ []
stop_free o r [] h = refl
stop_free o r (x ∷ xs) h = cc

causes_over : (s : Setting) (past : Past) (t : ℕ) (o : Outcome) (x : Happening) → Lawful s (x ∷ past) → causes s t past x ≡ Some o → IsOver t (x ∷ past)
causes_over s past t o x h e = by (made_at s t past x) refl e
  where
    ends : (k : Option Outcome) → ends_as (ended_by x None) ≡ k → or_else k (stops t (x ∷ past)) ≡ Some o → IsOver t (x ∷ past)
    ends None f g = inr (inl (reads_free t (listens t (x ∷ past)) (outstanding (x ∷ past)) (stop_free o (reached t (x ∷ past)) (awaits t (x ∷ past)) g)))
    ends (Some p) f g = inl (ends_over p x (ended past) f)

    by : (k : Option Outcome) → made_at s t past x ≡ k → or_else k (or_else (ends_as (ended_by x None)) (stops t (x ∷ past))) ≡ Some o → IsOver t (x ∷ past)
    by None f g = ends (ends_as (ended_by x None)) refl g
    by (Some p) f g = inr (made_frozen s past t p x h f)

cause_over : (s : Setting) (past : Past) → 1 ≤ s.first → Lawful s past → (t : ℕ) (o : Outcome) → cause s t past ≡ Some o → IsOver t past
cause_over s [] one h t o e = cc
cause_over s (x ∷ past) one h t o e = by (cause s t past) refl (cause_over s past one h.0 t) e
  where
    by : (k : Option Outcome) → cause s t past ≡ k → ((p : Outcome) → cause s t past ≡ Some p → IsOver t past) → or_else k (causes s t past x) ≡ Some o → IsOver t (x ∷ past)
    by None f again g = causes_over s past t o x h g
    by (Some p) f again g = still_over t past x (again p f) (frozen_by s past t p x one h f) (ends_more x (ended past))

-- ---- so a settled view stays

abbrev IsSameView : ℕ → Past → Past → Type 0
IsSameView t past q = (got t q ≡ got t past) × (message_end t q ≡ message_end t past)

same_view : (t : ℕ) (past : Past) → IsSameView t past past
same_view t past = (refl, refl)

settled_unlinks : (s : Setting) (past : Past) (t : ℕ) (o : Outcome) (order : Order) → Lawful s past → Works s past → settled t past ≡ Some o → WriteLaw s past (Of t) order
    → (target : ℕ) × (order ≡ Unlink target)
settled_unlinks s past t o order h works e law = caused_law s past t o order works (settled_cause s past h t o e) law

wrote_view : (s : Setting) (past : Past) (n t u : ℕ) (o : Outcome) (order : Order) → Lawful s past → Works s past → settled t past ≡ Some o → WriteLaw s past (Of u) order
    → IsSameView t past (Wrote n (Of u) order ∷ past)
wrote_view s past n t u o order h works e law = step (u == t) refl
  where
    mine : (order : Order) → (target : ℕ) × (order ≡ Unlink target)
        → (data_in (opened n order (pieces t past)) ≡ got t past) × (ended_at n order (message_end t past) ≡ message_end t past)
    mine (Unlink k) is = (refl, refl)
    mine (Part tag text eom) is = cc
    mine (Request tag size) is = cc
    mine (Trigger tag) is = cc
    mine Read is = cc
    mine Listen is = cc
    mine (Class request) is = cc
    mine (ClearHalt endpoint) is = cc

    step : (b : Bool) → (u == t) ≡ b
        → (data_in (if b then opened n order (pieces t past) else pieces t past) ≡ got t past) × ((if b then ended_at n order (message_end t past) else message_end t past) ≡ message_end t past)
    step true f = mine order (settled_unlinks s past t o order h works e (subst (λ (v : ℕ). WriteLaw s past (Of v) order) (eqb-true u t f) law))
    step false f = (refl, refl)

took_view : (s : Setting) (past : Past) (t : ℕ) (o : Outcome) (m : down.Message) → 1 ≤ s.first → Lawful s past → ended past ≡ None → settled t past ≡ Some o → IsSameView t past (Took m ∷ past)
took_view s past t o (down.RetUnlink head) one h runs e = ((lost_same t (lost_with head.seqnum (outstanding past)) (pieces t past)).0, refl)
took_view s past t o (down.RetSubmit head bytes) one h runs e = by (cause_over s past one h t o (settled_cause s past h t o e))
  where
    by : IsOver t past → IsSameView t past (took past head bytes)
    by (inl over) = absurd (over runs)
    by (inr frozen) = ((took_same s past t head bytes frozen (λ x i. let low : s.first ≤ x.number = lows s past h x i in omega (arith, one, low))).0, refl)

view_by : (s : Setting) (past : Past) (t : ℕ) (o : Outcome) (x : Happening) → 1 ≤ s.first → Lawful s (x ∷ past) → settled t past ≡ Some o → IsSameView t past (x ∷ past)
view_by s past t o (Wrote n (Of u) k) one h e = wrote_view s past n t u o k h.0 h.1.0 e h.1.2
view_by s past t o (Took m) one h e = took_view s past t o m one h.0 h.1.0.running e
view_by s past t o (Wrote n Recovery k) one h e = (refl, refl)
view_by s past t o (Fell m d) one h e = (refl, refl)
view_by s past t o (Stopped d) one h e = (refl, refl)
view_by s past t o Recovers one h e = (refl, refl)
view_by s past t o (Asked u a) one h e = (refl, refl)
view_by s past t o (Cancelled u) one h e = (refl, refl)
view_by s past t o (Cleared w) one h e = (refl, refl)
view_by s past t o GaveUp one h e = (refl, refl)
view_by s past t o (Settled u p) one h e = (refl, refl)

pub views_stay : (s : Setting) (more past : Past) → 1 ≤ s.first → Lawful s (more ++ past) → (t : ℕ) (o : Outcome) → settled t past ≡ Some o → IsSameView t past (more ++ past)
views_stay s [] past one h t o e = same_view t past
views_stay s (x ∷ more) past one h t o e =
    let before : IsSameView t past (more ++ past) = views_stay s more past one h.0 t o e in
    let now : IsSameView t (more ++ past) (x ∷ (more ++ past)) = view_by s (more ++ past) t o x one h (stays past more t o (lawful_book s (more ++ past) h.0) e) in
    (now.0 ∙ before.0, now.1 ∙ before.1)
