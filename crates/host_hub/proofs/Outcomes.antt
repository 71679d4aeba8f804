-- which outcomes come of which kind
use Rattle.std.proofs.Common.{◌≡◌, ℕ, ℤ, pos, not, Bool, true, false, List, [], ◌∷◌, length, Option, Some, None, refl, sym, subst}
use Rattle.std.specs.Prelude.{◌==◌, nat_lt, is_some, slice_index, if◌then◌else◌}
use Rattle.std.specs.Ordering.{int_eq}
use Rattle.std.proofs.lemmas.Bool.{ltb-true, ltb-false}
use Rattle.usbip_wire.specs.declared.ret_submit.RetSubmitHead.{RetSubmitHead}
use Rattle.usbip_wire.specs.Down as down
use Rattle.tmc_wire.specs.ClassStatus.{STATUS_SUCCESS}
use Rattle.host_transfers.specs.Piece.{eom_of}
use Rattle.host_hub.specs.declared.kind.Kind.{Kind}
use Rattle.host_hub.specs.declared.kind.Kind.TheVariants as kind
use Rattle.host_hub.specs.declared.outcome.End.{End}
use Rattle.host_hub.specs.declared.outcome.End.TheVariants as end
use Rattle.host_hub.specs.declared.outcome.Outcome.{Outcome}
use Rattle.host_hub.specs.declared.outcome.Outcome.TheVariants as outcome
use Rattle.host_hub.specs.Order.{Class, ClearHalt, Listen, Order, Part, Read, Request, Setting, Trigger, Unlink, endpoint_of}
use Rattle.host_hub.specs.Record.{Asked, Asking, Cancelled, Cleared, Happening, Past, Took}
use Rattle.host_hub.specs.Book.{active, asking_of, is_active, or_else, settled, tickets}
use Rattle.host_hub.specs.Hand.{ended_by}
use Rattle.host_hub.specs.Outstanding.{Sent, find, outstanding}
use Rattle.host_hub.specs.Pieces.{Piece, data_in}
use Rattle.host_hub.specs.Status.{awaits, concerns}
use Rattle.host_hub.specs.Made.{Standing, judged, made_at, made_by, piece_made, served, stalled, standing, status_made}
use Rattle.host_hub.specs.Causes.{cause, causes, ends_as, named, once_free, reached, stops}
use Rattle.host_hub.specs.Law.{Lawful}
use Rattle.host_hub.specs.Sentences.{MaySettleAs}
use Rattle.host_hub.proofs.Pasts.{settled_cause, unasked_cause}
use Rattle.host_hub.proofs.Within.{asked_before}

abbrev As : Kind → Option Outcome → Type 0
As which o = (p : Outcome) → o ≡ Some p → MaySettleAs which p

none_as : (which : Kind) → As which None
none_as which p e = cc

some_as : (which : Kind) (o : Outcome) → MaySettleAs which o → As which (Some o)
some_as which o may p e = subst (λ (q : Outcome). MaySettleAs which q) same may
  where
    same : o ≡ p
    same = cc

if_as : (which : Kind) (b : Bool) (x y : Option Outcome) → As which x → As which y → As which (if b then x else y)
if_as which true x y f g = f
if_as which false x y f g = g

or_as : (which : Kind) (x y : Option Outcome) → As which x → As which y → As which (or_else x y)
or_as which None y f g = g
or_as which (Some o) y f g = f

-- ---- these come to any

halted_as : (which : Kind) (ep : ℕ) → MaySettleAs which (outcome.Halted ep)
halted_as kind.Ask ep = tt
halted_as kind.Tell ep = tt
halted_as kind.Trigger ep = tt
halted_as kind.Status ep = tt
halted_as (kind.Remote act) ep = tt

fault_as : (which : Kind) (x : ℤ) → MaySettleAs which (outcome.DeviceFault x)
fault_as kind.Ask x = tt
fault_as kind.Tell x = tt
fault_as kind.Trigger x = tt
fault_as kind.Status x = tt
fault_as (kind.Remote act) x = tt

cancelled_as : (which : Kind) → MaySettleAs which outcome.Cancelled
cancelled_as kind.Ask = tt
cancelled_as kind.Tell = tt
cancelled_as kind.Trigger = tt
cancelled_as kind.Status = tt
cancelled_as (kind.Remote act) = tt

cleared_as : (which : Kind) (session : ℕ) → MaySettleAs which (outcome.Cleared session)
cleared_as kind.Ask session = tt
cleared_as kind.Tell session = tt
cleared_as kind.Trigger session = tt
cleared_as kind.Status session = tt
cleared_as (kind.Remote act) session = tt

named_as : (which : Kind) (e : End) → MaySettleAs which (named e)
named_as kind.Ask end.Unplugged = tt
named_as kind.Ask (end.DeviceFault x) = tt
named_as kind.Ask (end.DeviceSays x) = tt
named_as kind.Ask (end.PeerFault f) = tt
named_as kind.Ask end.LinkFault = tt
named_as kind.Ask end.Exhausted = tt
named_as kind.Ask end.GivenUp = tt
named_as kind.Tell end.Unplugged = tt
named_as kind.Tell (end.DeviceFault x) = tt
named_as kind.Tell (end.DeviceSays x) = tt
named_as kind.Tell (end.PeerFault f) = tt
named_as kind.Tell end.LinkFault = tt
named_as kind.Tell end.Exhausted = tt
named_as kind.Tell end.GivenUp = tt
named_as kind.Trigger end.Unplugged = tt
named_as kind.Trigger (end.DeviceFault x) = tt
named_as kind.Trigger (end.DeviceSays x) = tt
named_as kind.Trigger (end.PeerFault f) = tt
named_as kind.Trigger end.LinkFault = tt
named_as kind.Trigger end.Exhausted = tt
named_as kind.Trigger end.GivenUp = tt
named_as kind.Status end.Unplugged = tt
named_as kind.Status (end.DeviceFault x) = tt
named_as kind.Status (end.DeviceSays x) = tt
named_as kind.Status (end.PeerFault f) = tt
named_as kind.Status end.LinkFault = tt
named_as kind.Status end.Exhausted = tt
named_as kind.Status end.GivenUp = tt
named_as (kind.Remote act) end.Unplugged = tt
named_as (kind.Remote act) (end.DeviceFault x) = tt
named_as (kind.Remote act) (end.DeviceSays x) = tt
named_as (kind.Remote act) (end.PeerFault f) = tt
named_as (kind.Remote act) end.LinkFault = tt
named_as (kind.Remote act) end.Exhausted = tt
named_as (kind.Remote act) end.GivenUp = tt

-- ---- what the answers make

piece_as : (limit : ℕ) (ps : List Piece) → As kind.Ask (piece_made limit ps)
piece_as limit [] = none_as kind.Ask
piece_as limit (piece ∷ earlier) =
    if_as kind.Ask (not (is_some piece.over)) None (if eom_of piece.bytes then Some outcome.Complete else if length (data_in (piece ∷ earlier)) == limit then Some outcome.Limit else None)
    (none_as kind.Ask)
    (if_as kind.Ask (eom_of piece.bytes) (Some outcome.Complete) (if length (data_in (piece ∷ earlier)) == limit then Some outcome.Limit else None)
    (some_as kind.Ask outcome.Complete tt)
    (if_as kind.Ask (length (data_in (piece ∷ earlier)) == limit) (Some outcome.Limit) None (some_as kind.Ask outcome.Limit tt) (none_as kind.Ask)))

status_as : (b : Bool) (packet : Option ℕ) → As kind.Status (status_made b packet)
status_as true None = none_as kind.Status
status_as true (Some byte) = some_as kind.Status (outcome.Status byte) tt
status_as false packet = none_as kind.Status

served_as : (which : Kind) (limit : ℕ) (order : Order) (bytes : List ℕ) (now : Standing) → As which (served which limit order bytes now)
served_as kind.Ask limit Read bytes now = piece_as limit now.pieces
served_as kind.Ask limit (Part tag text eom) bytes now = none_as kind.Ask
served_as kind.Ask limit (Request tag size) bytes now = none_as kind.Ask
served_as kind.Ask limit (Trigger tag) bytes now = none_as kind.Ask
served_as kind.Ask limit Listen bytes now = none_as kind.Ask
served_as kind.Ask limit (Class request) bytes now = none_as kind.Ask
served_as kind.Ask limit (ClearHalt endpoint) bytes now = none_as kind.Ask
served_as kind.Ask limit (Unlink target) bytes now = none_as kind.Ask
served_as kind.Tell limit (Part tag text true) bytes now = some_as kind.Tell outcome.Done tt
served_as kind.Tell limit (Part tag text false) bytes now = none_as kind.Tell
served_as kind.Tell limit (Request tag size) bytes now = none_as kind.Tell
served_as kind.Tell limit (Trigger tag) bytes now = none_as kind.Tell
served_as kind.Tell limit Read bytes now = none_as kind.Tell
served_as kind.Tell limit Listen bytes now = none_as kind.Tell
served_as kind.Tell limit (Class request) bytes now = none_as kind.Tell
served_as kind.Tell limit (ClearHalt endpoint) bytes now = none_as kind.Tell
served_as kind.Tell limit (Unlink target) bytes now = none_as kind.Tell
served_as kind.Trigger limit (Trigger tag) bytes now = some_as kind.Trigger outcome.Done tt
served_as kind.Trigger limit (Part tag text eom) bytes now = none_as kind.Trigger
served_as kind.Trigger limit (Request tag size) bytes now = none_as kind.Trigger
served_as kind.Trigger limit Read bytes now = none_as kind.Trigger
served_as kind.Trigger limit Listen bytes now = none_as kind.Trigger
served_as kind.Trigger limit (Class request) bytes now = none_as kind.Trigger
served_as kind.Trigger limit (ClearHalt endpoint) bytes now = none_as kind.Trigger
served_as kind.Trigger limit (Unlink target) bytes now = none_as kind.Trigger
served_as (kind.Remote act) limit (Class request) bytes now =
    if_as (kind.Remote act) (slice_index bytes 0 == STATUS_SUCCESS) (Some outcome.Done) (Some (outcome.DeviceSays (slice_index bytes 0)))
    (some_as (kind.Remote act) outcome.Done tt) (some_as (kind.Remote act) (outcome.DeviceSays (slice_index bytes 0)) tt)
served_as (kind.Remote act) limit (Part tag text eom) bytes now = none_as (kind.Remote act)
served_as (kind.Remote act) limit (Request tag size) bytes now = none_as (kind.Remote act)
served_as (kind.Remote act) limit (Trigger tag) bytes now = none_as (kind.Remote act)
served_as (kind.Remote act) limit Read bytes now = none_as (kind.Remote act)
served_as (kind.Remote act) limit Listen bytes now = none_as (kind.Remote act)
served_as (kind.Remote act) limit (ClearHalt endpoint) bytes now = none_as (kind.Remote act)
served_as (kind.Remote act) limit (Unlink target) bytes now = none_as (kind.Remote act)
served_as kind.Status limit Listen bytes now = status_as now.is_said now.packet
served_as kind.Status limit (Class request) bytes now =
    if_as kind.Status (slice_index bytes 0 == STATUS_SUCCESS) (status_made now.is_said now.packet) (Some (outcome.DeviceSays (slice_index bytes 0)))
    (status_as now.is_said now.packet) (some_as kind.Status (outcome.DeviceSays (slice_index bytes 0)) tt)
served_as kind.Status limit (Part tag text eom) bytes now = none_as kind.Status
served_as kind.Status limit (Request tag size) bytes now = none_as kind.Status
served_as kind.Status limit (Trigger tag) bytes now = none_as kind.Status
served_as kind.Status limit Read bytes now = none_as kind.Status
served_as kind.Status limit (ClearHalt endpoint) bytes now = none_as kind.Status
served_as kind.Status limit (Unlink target) bytes now = none_as kind.Status

judged_as : (s : Setting) (a : Asking) (order : Order) (head : RetSubmitHead) (bytes : List ℕ) (now : Standing) → As a.kind (judged s a order head bytes now)
judged_as s a order head bytes now =
    if_as a.kind (int_eq head.status (pos 0)) (served a.kind a.limit order bytes now)
    (if int_eq head.status stalled then Some (outcome.Halted (endpoint_of s.ends order)) else Some (outcome.DeviceFault head.status))
    (served_as a.kind a.limit order bytes now)
    (if_as a.kind (int_eq head.status stalled) (Some (outcome.Halted (endpoint_of s.ends order))) (Some (outcome.DeviceFault head.status))
    (some_as a.kind (outcome.Halted (endpoint_of s.ends order)) (halted_as a.kind (endpoint_of s.ends order)))
    (some_as a.kind (outcome.DeviceFault head.status) (fault_as a.kind head.status)))

made_as : (s : Setting) (t : ℕ) (past : Past) (x : Happening) (a : Asking) → asking_of t past ≡ Some a → As a.kind (made_at s t past x)
made_as s t past (Took (down.RetSubmit head bytes)) a known =
    by (find head.seqnum (outstanding past))
  where
    now : Standing
    now = standing s t (Took (down.RetSubmit head bytes) ∷ past)

    one : (x : Sent) → As a.kind (if concerns t past x then judged s a x.order head bytes now else None)
    one x = if_as a.kind (concerns t past x) (judged s a x.order head bytes now) None (judged_as s a x.order head bytes now) (none_as a.kind)

    by : (o : Option Sent) → As a.kind (made_by s t past (asking_of t past) o head bytes now)
    by None = subst (λ (k : Option Asking). As a.kind (made_by s t past k None head bytes now)) (sym known) (none_as a.kind)
    by (Some x) = subst (λ (k : Option Asking). As a.kind (made_by s t past k (Some x) head bytes now)) (sym known) (one x)
made_as s t past (Took (down.RetUnlink head)) a known = none_as a.kind
made_as s t past x a known = none_as a.kind

ends_named : (which : Kind) (o : Option End) → As which (ends_as o)
ends_named which None = none_as which
ends_named which (Some e) = some_as which (named e) (named_as which e)

free_as : (which : Kind) (o : Option Outcome) (xs : List Sent) → As which o → As which (once_free o xs)
free_as which o [] f = f
free_as which o (x ∷ xs) f = none_as which

reached_as : (which : Kind) (t : ℕ) (past : Past) → As which (reached t past)
reached_as which t [] = none_as which
reached_as which t (Cancelled u ∷ past) =
    if_as which (u == t) (or_else (reached t past) (Some outcome.Cancelled)) (reached t past)
    (or_as which (reached t past) (Some outcome.Cancelled) (reached_as which t past) (some_as which outcome.Cancelled (cancelled_as which))) (reached_as which t past)
reached_as which t (Cleared session ∷ past) =
    if_as which (is_active t (active past)) (or_else (reached t past) (Some (outcome.Cleared session))) (reached t past)
    (or_as which (reached t past) (Some (outcome.Cleared session)) (reached_as which t past) (some_as which (outcome.Cleared session) (cleared_as which session))) (reached_as which t past)
reached_as which t (x ∷ past) = reached_as which t past

causes_as : (s : Setting) (t : ℕ) (past : Past) (x : Happening) (which : Kind) → As which (made_at s t past x) → As which (causes s t past x)
causes_as s t past x which made =
    or_as which (made_at s t past x) (or_else (ends_as (ended_by x None)) (stops t (x ∷ past))) made
    (or_as which (ends_as (ended_by x None)) (stops t (x ∷ past)) (ends_named which (ended_by x None))
    (free_as which (reached t (x ∷ past)) (awaits t (x ∷ past)) (reached_as which t (x ∷ past))))

empty_as : (which : Kind) (o : Option Outcome) → o ≡ None → As which o
empty_as which o e = subst (As which) (sym e) (none_as which)

cause_as : (s : Setting) (past : Past) → Lawful s past → (t : ℕ) (a : Asking) → asking_of t past ≡ Some a → As a.kind (cause s t past)
cause_as s [] h t a known = none_as a.kind
cause_as s (Asked u b ∷ past) h t a known = step (nat_lt (tickets past) t) refl (cause_as s past h.0 t a)
  where
    both : As a.kind (cause s t past) → As a.kind (cause s t (Asked u b ∷ past))
    both before = or_as a.kind (cause s t past) (causes s t past (Asked u b)) before (causes_as s t past (Asked u b) a.kind (none_as a.kind))

    step : (c : Bool) → nat_lt (tickets past) t ≡ c → (asking_of t past ≡ Some a → As a.kind (cause s t past)) → As a.kind (cause s t (Asked u b ∷ past))
    step true f again = both (empty_as a.kind (cause s t past) (unasked_cause s past h.0 h.1.0.running t (ltb-true (tickets past) t f)))
    step false f again = both (again (asked_before s past (Asked u b) h t a (ltb-false (tickets past) t f) known))
cause_as s (x ∷ past) h t a known =
    or_as a.kind (cause s t past) (causes s t past x) (cause_as s past h.0 t a known) (causes_as s t past x a.kind (made_as s t past x a known))

pub settles_as : (s : Setting) (past : Past) → Lawful s past → (t : ℕ) (a : Asking) (o : Outcome) → asking_of t past ≡ Some a → settled t past ≡ Some o → MaySettleAs a.kind o
settles_as s past h t a o known e = cause_as s past h t a known o (settled_cause s past h t o e)
