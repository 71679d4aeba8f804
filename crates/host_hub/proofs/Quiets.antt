-- when nothing is owed, from what a hub knows of itself
use Rattle.std.proofs.Common.{◌≡◌, ◌≢◌, ℕ, ◌&&◌, Bool, true, false, List, [], ◌∷◌, Option, Some, None, refl, sym, subst, ◌∙◌}
use Rattle.std.specs.Prelude.{◌==◌, nat_lt, if◌then◌else◌, is_some}
use Rattle.std.specs.Bool.{MatchBool}
use Rattle.std.proofs.lemmas.Bool.{eqb-true, eqb-false}
use Rattle.host_hub.specs.declared.kind.Kind.{Kind}
use Rattle.host_hub.specs.declared.kind.Kind.TheVariants as kind
use Rattle.host_hub.specs.declared.outcome.Outcome.{Outcome}
use Rattle.host_hub.specs.declared.outcome.End.{End}
use Rattle.host_hub.specs.Order.{Class, ClearHalt, Listen, Order, Part, Read, Request, Setting, Trigger, Unlink, is_listen, is_unlink}
use Rattle.host_hub.specs.Record.{Asking, Of, Past}
use Rattle.host_hub.specs.Book.{active, asking_of, has, is_live, live}
use Rattle.host_hub.specs.Hand.{ended, in_hand, is_begun}
use Rattle.host_hub.specs.Outstanding.{Sent, busy, outstanding}
use Rattle.host_hub.specs.Pieces.{Piece, pieces}
use Rattle.host_hub.specs.Status.{awaits}
use Rattle.host_hub.specs.Causes.{cause, reached}
use Rattle.host_hub.specs.Unlinks.{is_deep, unlinks_due, unlinks_of}
use Rattle.host_hub.specs.Plan.{HasRoom, When, behind_message, behind_read, first_order, follows, is_empty, last, next_tag, parts, planned, remote_request, status_order}
use Rattle.host_hub.specs.Recovery.{AreRecovered}
use Rattle.host_hub.specs.Law.{Begins, Lawful, Planned, Waits, WaitsFor, WaitsIn, WriteLaw}
use Rattle.host_hub.specs.Steps.{Speaks, wrote}
use Rattle.host_hub.proofs.Lists.{clash, or_left, own, same}
use Rattle.host_hub.proofs.Pasts.{others_unreached}
use Rattle.tmc_wire.specs.declared.class_request.ClassRequest.TheVariants as class
use Rattle.tmc_wire.specs.declared.class_request.ClassRequest.TheVariants.{ReadStatus}
use Rattle.instr_plain.specs.declared.remote.RemoteAct.{RemoteAct}
use Rattle.instr_plain.specs.declared.remote.RemoteAct.TheVariants as act

-- ---- unlinks, at depth 1

shallow : (s : Setting) → s.depth ≡ 1 → is_deep s ≡ false
shallow s d = rw d refl

unlinks_hand : (s : Setting) (past : Past) (o : Option ℕ) → s.depth ≡ 1 → ((t : ℕ) → o ≡ Some t → is_live t past && is_some (reached t past) ≡ false) → unlinks_of s o past ≡ []
unlinks_hand s past None d h = refl
unlinks_hand s past (Some t) d h = rw (h t refl) (rw (shallow s d) refl)

pub unlinks_none : (s : Setting) (past : Past) → s.depth ≡ 1 → ended past ≡ None → ((t : ℕ) → is_live t past ≡ true → reached t past ≡ None) → unlinks_due s (ended past) past ≡ []
unlinks_none s past d running free =
    subst (λ (e : Option End). unlinks_due s e past ≡ []) (sym running)
    (unlinks_hand s past (in_hand past) d (λ t e. off t (is_live t past) refl (free t)))
  where
    off : (t : ℕ) (b : Bool) → is_live t past ≡ b → (is_live t past ≡ true → reached t past ≡ None) → is_live t past && is_some (reached t past) ≡ false
    off t true e h = rw e (rw (h e) refl)
    off t false e h = rw e refl

-- ---- what is waited for

pub waits_begun : (past : Past) (t : ℕ) → ended past ≡ None → active past ≡ Some t → is_begun t past ≡ true → awaits t past ≢ []
    → busy (outstanding past) ≢ [] → Waits past
waits_begun past t running turn begun some more =
    subst (λ (e : Option End). WaitsIn e past) (sym running) (
      subst (λ (o : Option ℕ). WaitsFor o past) (sym turn)
          (subst (λ (b : Bool). MatchBool b (awaits t past ≢ []) (busy (outstanding past) ≢ [])) (sym begun) some),
      λ none. absurd (more none),
    )

pub waits_queued : (past : Past) (t : ℕ) → ended past ≡ None → active past ≡ Some t → is_begun t past ≡ false → busy (outstanding past) ≢ []
    → Waits past
waits_queued past t running turn fresh more =
    subst (λ (e : Option End). WaitsIn e past) (sym running) (
      subst (λ (o : Option ℕ). WaitsFor o past) (sym turn)
          (subst (λ (b : Bool). MatchBool b (awaits t past ≢ []) (busy (outstanding past) ≢ [])) (sym fresh) more),
      λ none. absurd (more none),
    )

pub waits_idle : (past : Past) → ended past ≡ None → active past ≡ None → (busy (outstanding past) ≡ [] → AreRecovered past) → Waits past
waits_idle past running idle whole =
    subst (λ (e : Option End). WaitsIn e past) (sym running) (subst (λ (o : Option ℕ). WaitsFor o past) (sym idle) tt, whole)

-- ---- a plan has no unlink, and that of no status read has no Interrupt-IN submit and no status request

abbrev pub IsProper : Order → Type 0
IsProper (Unlink target) = ⊥
IsProper Listen = ⊥
IsProper (Class (ReadStatus tag)) = ⊥
IsProper order = Unit {0}

abbrev AreProper : Option Order → Type 0
AreProper None = Unit {0}
AreProper (Some order) = IsProper order

remote_proper : (act : RemoteAct) → IsProper (Class (remote_request act))
remote_proper act.On = tt
remote_proper act.Off = tt
remote_proper act.GoLocal = tt
remote_proper act.Lockout = tt

first_proper : (k : Kind) (message : List ℕ) (tag : ℕ) → AreProper (first_order k message tag)
first_proper kind.Ask message tag = tt
first_proper kind.Tell message tag = tt
first_proper kind.Trigger message tag = tt
first_proper (kind.Remote which) message tag = remote_proper which
first_proper kind.Status message tag = tt

message_proper : (k : Kind) (tag limit : ℕ) (now : List Piece) → AreProper (behind_message k tag limit now)
message_proper kind.Ask tag limit now = tt
message_proper kind.Tell tag limit now = tt
message_proper kind.Trigger tag limit now = tt
message_proper (kind.Remote act) tag limit now = tt
message_proper kind.Status tag limit now = tt

read_proper : (tag limit : ℕ) (now : List Piece) → AreProper (behind_read tag limit now)
read_proper tag limit [] = tt
read_proper tag limit (piece ∷ earlier) = step (is_some piece.over) refl
  where
    step : (b : Bool) → is_some piece.over ≡ b → AreProper (behind_read tag limit (piece ∷ earlier))
    step true e = rw e tt
    step false e = rw e tt

follows_proper : (a : Asking) (o : Option Order) (tag count : ℕ) (now : List Piece) → AreProper (follows a o tag count now)
follows_proper a None tag count now = first_proper a.kind a.message tag
follows_proper a (Some (Part k text false)) tag count now = tt
follows_proper a (Some (Part k text true)) tag count now = message_proper a.kind tag a.limit now
follows_proper a (Some (Request k size)) tag count now = tt
follows_proper a (Some (Trigger k)) tag count now = tt
follows_proper a (Some Read) tag count now = read_proper tag a.limit now
follows_proper a (Some Listen) tag count now = tt
follows_proper a (Some (Class request)) tag count now = tt
follows_proper a (Some (ClearHalt endpoint)) tag count now = tt
follows_proper a (Some (Unlink target)) tag count now = tt

pub planned_proper : (s : Setting) (t : ℕ) (a : Asking) (past : Past) (order : Order) → Speaks past t a → planned s t (asking_of t past) past ≡ Some order → IsProper order
planned_proper s t a past order speaks e =
    subst AreProper
    (subst (λ (b : Bool). (if b then status_order s t past else follows a (last t past) (next_tag past) (parts t past) (pieces t past)) ≡ Some order) speaks.1
    (subst (λ (o : Option Asking). planned s t o past ≡ Some order) speaks.0 e))
    (follows_proper a (last t past) (next_tag past) (parts t past) (pieces t past))

pub proper_plain : (order : Order) → IsProper order → is_unlink order ≡ false
proper_plain (Unlink target) proper = absurd proper
proper_plain order proper = refl

pub as_law : (s : Setting) (past : Past) (t : ℕ) (order : Order) → is_unlink order ≡ false → Planned s past t order → unlinks_due s (ended past) past ≡ [] → WriteLaw s past (Of t) order
as_law s past t (Unlink target) plain law none = clash (sym plain)
as_law s past t order plain law none = (law, none)

pub not_listen : (order : Order) → IsProper order → is_listen order ≡ false
not_listen (Part tag text eom) proper = refl
not_listen (Request tag size) proper = refl
not_listen (Trigger tag) proper = refl
not_listen Read proper = refl
not_listen Listen proper = absurd proper
not_listen (Class request) proper = refl
not_listen (ClearHalt endpoint) proper = refl
not_listen (Unlink target) proper = refl

-- at depth 1 a ticket that has begun and waits for something has nothing to write
pub waits_first : (s : Setting) (now : List Piece) (waits : List Sent) (order : Order) → s.depth ≡ 1 → IsProper order → When s now waits order → waits ≡ []
waits_first s now waits (Part tag text eom) d proper h = h
waits_first s now waits (Request tag size) d proper h =
    subst (λ (n : ℕ). MatchBool (nat_lt 1 n && is_empty now) (Unit {0}) (waits ≡ [])) d h
waits_first s now waits (Trigger tag) d proper h = h
waits_first s now waits Read d proper h =
    subst (λ (n : ℕ). MatchBool (nat_lt 1 n) (HasRoom n now) (waits ≡ [])) d h
waits_first s now waits Listen d proper h = absurd proper
waits_first s now waits (Class (ReadStatus tag)) d proper h = absurd proper
waits_first s now waits (Class (class.AbortOut tag)) d proper h = h
waits_first s now waits (Class class.CheckOut) d proper h = h
waits_first s now waits (Class (class.AbortIn tag)) d proper h = h
waits_first s now waits (Class class.CheckIn) d proper h = h
waits_first s now waits (Class class.Clear) d proper h = h
waits_first s now waits (Class class.CheckClear) d proper h = h
waits_first s now waits (Class class.Capabilities) d proper h = h
waits_first s now waits (Class class.Pulse) d proper h = h
waits_first s now waits (Class (class.Ren on)) d proper h = h
waits_first s now waits (Class class.GoLocal) d proper h = h
waits_first s now waits (Class class.Lockout) d proper h = h
waits_first s now waits (ClearHalt endpoint) d proper h = h
waits_first s now waits (Unlink target) d proper h = h

pub none_planned : (s : Setting) (past : Past) (t : ℕ) (a : Asking) → s.depth ≡ 1 → active past ≡ Some t → Speaks past t a → is_begun t past ≡ true → awaits t past ≢ []
    → (u : ℕ) (order : Order) → Planned s past u order → ⊥
none_planned s past t a d turn speaks begun some u order law =
    some (waits_first s (pieces t past) (awaits t past) order d (planned_proper s t a past order speaks own_plan.plan)
    (subst (λ (b : Bool). MatchBool b (When s (pieces t past) (awaits t past) order) (Begins past)) begun own_plan.when))
  where
    own_plan : Planned s past t order
    own_plan = subst (λ (v : ℕ). Planned s past v order) (same u t (sym law.turn ∙ turn)) law

pub none_planned_queued : (s : Setting) (past : Past) (t : ℕ) → active past ≡ Some t → is_begun t past ≡ false → busy (outstanding past) ≢ []
    → (u : ℕ) (order : Order) → Planned s past u order → ⊥
none_planned_queued s past t turn fresh some u order law =
    some (subst (λ (b : Bool). MatchBool b (When s (pieces t past) (awaits t past) order) (Begins past)) fresh own_plan.when).0
  where
    own_plan : Planned s past t order
    own_plan = subst (λ (v : ℕ). Planned s past v order) (same u t (sym law.turn ∙ turn)) law

pub none_planned_idle : (s : Setting) (past : Past) → active past ≡ None → (u : ℕ) (order : Order) → Planned s past u order → ⊥
none_planned_idle s past idle u order law = let e : None ≡ Some u = sym idle ∙ law.turn in cc

-- ---- a submit of the plan is written, and nothing is owed

some : {A : Type 0} (x : A) (xs : List A) → x ∷ xs ≢ []
some x xs e = cc

pub unreached_now : (o : Option Outcome) → is_some o ≡ false → o ≡ None
unreached_now None h = refl
unreached_now (Some x) h = clash (sym h)

-- a live ticket but the one that writes was not reached, nor was that one
pub none_reached : (s : Setting) (past : Past) (t u : ℕ) → Lawful s past → active past ≡ Some t → reached t past ≡ None → has u (live past) ≡ true → cause s u past ≡ None
    → reached u past ≡ None
none_reached s past t u h turn free lives none = step (u == t) refl
  where
    step : (b : Bool) → (u == t) ≡ b → reached u past ≡ None
    step true e = subst (λ (v : ℕ). reached v past ≡ None) (sym (eqb-true u t e)) free
    step false e = others_unreached s past h t u turn lives none (eqb-false u t e)

pub mine : (s : Setting) (past : Past) (t : ℕ) (order : Order) → awaits t (wrote s past t order) ≢ []
mine s past t order = rw (own t) (some _ _)

pub more : (s : Setting) (past : Past) (t : ℕ) (order : Order) → is_listen order ≡ false → busy (outstanding (wrote s past t order)) ≢ []
more s past t order e = rw e (some _ _)

pub listens_wrote : (s : Setting) (past : Past) (t : ℕ) (order : Order) → is_begun t (wrote s past t order) ≡ true
listens_wrote s past t order = or_left _ _ (own t)
