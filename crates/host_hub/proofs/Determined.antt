-- at each moment the laws allow one happening of the hub's own
use Rattle.std.proofs.Common.{◌≡◌, ◌⊎◌, ℕ, ◌<◌, ◌≤◌, Bool, true, false, List, [], ◌∷◌, ◌++◌, Option, Some, None, inl, inr, refl, sym, subst, ◌∙◌, ap, arith}
use Rattle.std.specs.Prelude.{is_some, nat_lt}
use Rattle.std.specs.Bool.{MatchBool}
use Rattle.std.proofs.lemmas.Bool.{ltb-true, ltb-false}
use Rattle.host_recover.specs.declared.need.Need.{Need}
use Rattle.host_recover.specs.Letter.{Letter, Submit}
use Rattle.host_recover.specs.Next.{IsNext}
use Rattle.host_recover.specs.Words.{Begins, Has, words_of}
use Rattle.host_urbs.specs.declared.limits.TheConstants.{LAST_SUBMIT}
use Rattle.host_hub.specs.declared.outcome.End.{End}
use Rattle.host_hub.specs.declared.outcome.End.TheVariants as end
use Rattle.host_hub.specs.declared.outcome.Outcome.{Outcome}
use Rattle.host_hub.specs.Order.{Class, ClearHalt, Listen, Order, Part, Read, Request, Setting, Trigger, Unlink, is_unlink}
use Rattle.host_hub.specs.Record.{Asked, Cancelled, Cleared, Fell, GaveUp, Happening, Of, Owner, Past, Recovers, Recovery, Settled, Stopped, Took, Wrote, next}
use Rattle.host_hub.specs.Book.{asking_of, has, live}
use Rattle.host_hub.specs.Hand.{ended, in_hand}
use Rattle.host_hub.specs.Outstanding.{busy, outstanding}
use Rattle.host_hub.specs.Pieces.{pieces}
use Rattle.host_hub.specs.Status.{awaits}
use Rattle.host_hub.specs.Causes.{AreSettled, SettleLaw, cause}
use Rattle.host_hub.specs.Unlinks.{unlinks_due}
use Rattle.host_hub.specs.Plan.{When, planned}
use Rattle.host_hub.specs.Letters.{letters, order_of}
use Rattle.host_hub.specs.Recovery.{IsWhole, IsWholeFor, MayComeFor, in_halted, notify_halted, running}
use Rattle.host_hub.specs.Ends.{end_due}
use Rattle.host_hub.specs.Law as law
use Rattle.host_hub.specs.Law.{Allowed, ByBytes, ByClosing, ByFault, ByItself, ByNumbers, IsDue, IsHandOver, Lawful, MayRecover, Planned, Quiet, Recovering, StopLaw, Works, WriteLaw, Kept}
use Rattle.host_hub.specs.Sentences.{IsItsOwn}
use Rattle.host_hub.proofs.Endings.{stop_settled}
use Rattle.host_hub.proofs.Fronts.{running_over}
use Rattle.host_hub.proofs.Lists.{clash, first_has, same}
use Rattle.host_hub.proofs.Numbered.{submit_last}
use Rattle.host_hub.proofs.Numbers.{may_next}
use Rattle.host_hub.proofs.Recovering.{no_unlinks_due, none_begun, out_busy}

-- what host_recover says of words
pub record Words : Type 0 where
  pub ends : (called : Need) (letters : List Letter) (l : Letter) → Has (words_of called) letters → Begins (words_of called) (letters ++ l ∷ []) → ⊥
  pub one : (called : Need) (letters : List Letter) (a b : Bool) (submit other : Submit) → IsNext called letters a b submit → IsNext called letters a b other → submit ≡ other

-- ---- what is due in place of another

some_is : {A : Type 0} (x y : A) → Some x ≡ Some y → x ≡ y
some_is x y e = cc

-- a recovery that has a next submit is not whole
not_whole : Words → (past : Past) (submit : Submit) → MayComeFor (running past) past submit → IsWhole past → ⊥
not_whole words past submit = by (running past)
  where
    by : (o : Option Need) → MayComeFor o past submit → IsWholeFor o (letters past) → ⊥
    by None next whole = next
    by (Some need) next whole = words.ends need (letters past) next.letter whole next.begins

runs_over : (s : Setting) (past : Past) (submit : Submit) → Lawful s past → MayComeFor (running past) past submit → IsHandOver (in_hand past) past
runs_over s past submit h next = by (running past) refl next
  where
    by : (o : Option Need) → running past ≡ o → MayComeFor o past submit → IsHandOver (in_hand past) past
    by None e k = absurd k
    by (Some need) e k = running_over s past h need e

-- a ticket begins where the one in hand is settled
begins_only : (s : Setting) (past : Past) (t : ℕ) (order : Order) → Lawful s past → IsHandOver (in_hand past) past → Planned s past t order → law.Begins past
begins_only s past t order h over due =
    subst (λ (b : Bool). MatchBool b (When s (pieces t past) (awaits t past) order) (law.Begins past)) (none_begun s past h over t (first_has t (live past) due.turn)) due.when

no_unlink : {P : Type 0} (s : Setting) (past : Past) (target : ℕ) (rest : List ℕ) → ended past ≡ None → IsHandOver (in_hand past) past → busy (outstanding past) ≡ []
    → unlinks_due s (ended past) past ≡ target ∷ rest → P
no_unlink s past target rest runs over free due =
    let e : [] ≡ target ∷ rest = sym (no_unlinks_due s past runs over (out_busy (in_hand past) (outstanding past) free)) ∙ due in cc

-- ---- one message

-- a message that is due is one of these
pub data Kinds (s : Setting) (past : Past) (owner : Owner) (order : Order) : Type 0 where
  Unlinks : (t target : ℕ) (rest : List ℕ) → owner ≡ Of t → order ≡ Unlink target → in_hand past ≡ Some t → unlinks_due s (ended past) past ≡ target ∷ rest → Kinds s past owner order
  Plans : (t : ℕ) → owner ≡ Of t → Planned s past t order → unlinks_due s (ended past) past ≡ [] → Kinds s past owner order
  Goes : owner ≡ Recovery → Recovering past order → Kinds s past owner order

kind : (s : Setting) (past : Past) (owner : Owner) (order : Order) → WriteLaw s past owner order → Kinds s past owner order
kind s past (Of t) (Unlink target) w = Unlinks t target w.1 refl refl w.0 w.2
kind s past (Of t) (Part tag text eom) w = Plans t refl w.0 w.1
kind s past (Of t) (Request tag size) w = Plans t refl w.0 w.1
kind s past (Of t) (Trigger tag) w = Plans t refl w.0 w.1
kind s past (Of t) Read w = Plans t refl w.0 w.1
kind s past (Of t) Listen w = Plans t refl w.0 w.1
kind s past (Of t) (Class request) w = Plans t refl w.0 w.1
kind s past (Of t) (ClearHalt endpoint) w = Plans t refl w.0 w.1
kind s past Recovery (Unlink target) w = absurd w
kind s past Recovery (Part tag text eom) w = Goes refl w
kind s past Recovery (Request tag size) w = Goes refl w
kind s past Recovery (Trigger tag) w = Goes refl w
kind s past Recovery Read w = Goes refl w
kind s past Recovery Listen w = Goes refl w
kind s past Recovery (Class request) w = Goes refl w
kind s past Recovery (ClearHalt endpoint) w = Goes refl w

same_next : Words → (past : Past) (a b : Submit) → MayComeFor (running past) past a → MayComeFor (running past) past b → a ≡ b
same_next words past a b = by (running past)
  where
    by : (o : Option Need) → MayComeFor o past a → MayComeFor o past b → a ≡ b
    by None x y = absurd x
    by (Some need) x y = words.one need (letters past) (in_halted past) (notify_halted past) a b x y

plan_goes : {P : Type 0} → Words → (s : Setting) (past : Past) (t : ℕ) (order k : Order) → Lawful s past → Planned s past t order → Recovering past k → P
plan_goes words s past t order k h p g =
    absurd (not_whole words past g.next.submit g.next.next (begins_only s past t order h (runs_over s past g.next.submit h g.next.next) p).1.0)

unlink_goes : {P : Type 0} (s : Setting) (past : Past) (target : ℕ) (rest : List ℕ) (k : Order) → Lawful s past → ended past ≡ None → unlinks_due s (ended past) past ≡ target ∷ rest → Recovering past k → P
unlink_goes s past target rest k h runs due g = no_unlink s past target rest runs (runs_over s past g.next.submit h g.next.next) g.free due

abbrev IsSame : Owner → Order → Owner → Order → Type 0
IsSame o k p m = (o ≡ p) × (k ≡ m)

one_message : Words → (s : Setting) (past : Past) (o p : Owner) (k m : Order) → Lawful s past → ended past ≡ None → Kinds s past o k → Kinds s past p m → IsSame o k p m
one_message words s past o p k m h runs (Unlinks t a r eo ek hand due) (Unlinks u b q fo fk hand2 due2) =
    let l : a ∷ r ≡ b ∷ q = sym due ∙ due2 in
    (eo ∙ (ap Of (same t u (sym hand ∙ hand2)) ∙ sym fo), ek ∙ (ap Unlink (heads a b r q l) ∙ sym fk))
  where
    heads : (x y : ℕ) (xs ys : List ℕ) → x ∷ xs ≡ y ∷ ys → x ≡ y
    heads x y xs ys e = cc
one_message words s past o p k m h runs (Unlinks t a r eo ek hand due) (Plans u fo pl none) = let l : a ∷ r ≡ [] = sym due ∙ none in cc
one_message words s past o p k m h runs (Plans u fo pl none) (Unlinks t a r eo ek hand due) = let l : a ∷ r ≡ [] = sym due ∙ none in cc
one_message words s past o p k m h runs (Unlinks t a r eo ek hand due) (Goes fo g) = unlink_goes s past a r m h runs due g
one_message words s past o p k m h runs (Goes fo g) (Unlinks t a r eo ek hand due) = unlink_goes s past a r k h runs due g
one_message words s past o p k m h runs (Plans t eo x none) (Plans u fo y none2) =
    let e : t ≡ u = same t u (sym x.turn ∙ y.turn) in
    (eo ∙ (ap Of e ∙ sym fo), some_is k m (sym x.plan ∙ (ap (λ (v : ℕ). planned s v (asking_of v past) past) e ∙ y.plan)))
one_message words s past o p k m h runs (Plans t eo x none) (Goes fo g) = plan_goes words s past t k m h x g
one_message words s past o p k m h runs (Goes eo g) (Plans t fo y none) = plan_goes words s past t m k h y g
one_message words s past o p k m h runs (Goes eo g) (Goes fo j) =
    (eo ∙ sym fo, g.next.is ∙ (ap order_of (same_next words past g.next.submit j.next.submit g.next.next j.next.next) ∙ sym j.next.is))

-- a recovery that begins leaves no message due
no_message : Words → (s : Setting) (past : Past) (o : Owner) (k : Order) → Lawful s past → ended past ≡ None → MayRecover past → Kinds s past o k → ⊥
no_message words s past o k h runs may (Unlinks t a r eo ek hand due) = no_unlink s past a r runs may.hand may.free due
no_message words s past o k h runs may (Plans t eo x none) =
    clash (sym (ap (λ (n : Option Need). is_some n) (begins_only s past t k h may.hand x).1.1) ∙ may.need)
no_message words s past o k h runs may (Goes eo g) = not_whole words past g.next.submit g.next.next may.whole

-- ---- a ticket that is to settle is settled first

settle_first : {P : Type 0} (s : Setting) (past : Past) (t : ℕ) (o : Outcome) → AreSettled s past → has t (live past) ≡ true → SettleLaw s past t o → P
settle_first s past t o settled lives l = let e : None ≡ Some o = sym (settled t lives) ∙ l.caused in cc

one_settles : (s : Setting) (past : Past) (t u : ℕ) (o p : Outcome) → has t (live past) ≡ true → has u (live past) ≡ true → SettleLaw s past t o → SettleLaw s past u p → (t ≡ u) × (o ≡ p)
one_settles s past t u o p a b x y = by (nat_lt t u) refl (nat_lt u t) refl
  where
    early : (v w : ℕ) (q r : Outcome) → has v (live past) ≡ true → SettleLaw s past v q → SettleLaw s past w r → v < w → (t ≡ u) × (o ≡ p)
    early v w q r lives one two less = let e : None ≡ Some q = sym (two.order v less lives) ∙ one.caused in cc

    by : (c : Bool) → nat_lt t u ≡ c → (d : Bool) → nat_lt u t ≡ d → (t ≡ u) × (o ≡ p)
    by true e d f = early t u o p a x y (ltb-true t u e)
    by false e true f = early u t p o b y x (ltb-true u t f)
    by false e false f =
        let k : t ≡ u = (let l : u ≤ t = ltb-false t u e in let m : t ≤ u = ltb-false u t f in omega (arith, l, m)) in
        (k, some_is o p (sym x.caused ∙ (ap (λ (v : ℕ). cause s v past) k ∙ y.caused)))

-- ---- one happening

-- why the hub does something of its own
pub data Why (s : Setting) (past : Past) (x : Happening) : Type 0 where
  Writes : (n : ℕ) (o : Owner) (k : Order) → x ≡ Wrote n o k → Works s past → n ≡ next s.first past → (is_unlink k ≡ false → n ≤ LAST_SUBMIT) → Kinds s past o k → Why s past x
  Recovering_ : x ≡ Recovers → Works s past → MayRecover past → Why s past x
  Settles : (t : ℕ) (o : Outcome) → x ≡ Settled t o → has t (live past) ≡ true → SettleLaw s past t o → Why s past x
  Ends : (e : End) → x ≡ Stopped e → end_due past ≡ Some e → AreSettled s past → Why s past x
  Exhausts : x ≡ Stopped end.Exhausted → (due : IsDue s past) → Why s past x

why_stop : (s : Setting) (past : Past) (e : End) → (end_due past ≡ Some e) ⊎ (e ≡ end.Exhausted) → StopLaw s past e → Why s past (Stopped e)
why_stop s past e (inl due) l = Ends e refl due (stop_settled s past e l)
why_stop s past e (inr is) (ByFault f quiet) = let k : end.LinkFault ≡ end.Exhausted = sym f ∙ is in cc
why_stop s past e (inr is) (ByClosing f quiet) = let k : end.Unplugged ≡ end.Exhausted = sym f ∙ is in cc
why_stop s past e (inr is) (ByBytes g f quiet) = let k : end.PeerFault g ≡ end.Exhausted = sym f ∙ is in cc
why_stop s past e (inr is) (ByItself due settled) = Ends e refl due settled
why_stop s past e (inr is) (ByNumbers f due) = Exhausts (ap Stopped f) due

why : (s : Setting) (past : Past) (x : Happening) → Allowed s past x → IsItsOwn past x → Why s past x
why s past (Wrote n o k) a own = Writes n o k refl a.0 (may_next s past n k a.1) (λ plain. submit_last s past n k plain a.1) (kind s past o k a.2)
why s past Recovers a own = Recovering_ refl a.0 a.1
why s past (Settled t o) a own = Settles t o refl a.0 a.1
why s past (Stopped e) a own = why_stop s past e own a.1
why s past (Took m) a own = absurd own
why s past (Fell m e) a own = absurd own
why s past (Asked t q) a own = absurd own
why s past (Cancelled t) a own = absurd own
why s past (Cleared w) a own = absurd own
why s past GaveUp a own = absurd own

no_end : {P : Type 0} (past : Past) (e : End) → end_due past ≡ None → end_due past ≡ Some e → P
no_end past e none due = let k : None ≡ Some e = sym none ∙ due in cc

no_number : {P : Type 0} → Words → (s : Setting) (past : Past) (n : ℕ) (o : Owner) (k : Order) → Lawful s past → n ≡ next s.first past → (is_unlink k ≡ false → n ≤ LAST_SUBMIT)
    → Works s past → Kinds s past o k → IsDue s past → P
no_number words s past n o k h is few works kd due =
    let r : IsSame o k due.owner due.order = one_message words s past o due.owner k due.order h works.running kd (kind s past due.owner due.order due.law) in
    let l : n ≤ LAST_SUBMIT = few (ap is_unlink r.1 ∙ due.submit) in
    absurd (omega (arith, l, is, due.none_left))

same_write : (n m : ℕ) (o p : Owner) (k j : Order) → n ≡ m → o ≡ p → k ≡ j → Wrote n o k ≡ Wrote m p j
same_write n m o p k j e f g = ap (λ (a : ℕ). Wrote a o k) e ∙ (ap (λ (b : Owner). Wrote m b k) f ∙ ap (λ (c : Order). Wrote m p c) g)

same_settle : (t u : ℕ) (o p : Outcome) → t ≡ u → o ≡ p → Settled t o ≡ Settled u p
same_settle t u o p e f = ap (λ (a : ℕ). Settled a o) e ∙ ap (λ (b : Outcome). Settled u b) f

one : Words → (s : Setting) (past : Past) (x y : Happening) → Lawful s past → Why s past x → Why s past y → x ≡ y
one words s past x y h (Writes n o k ex w is few kd) (Writes m p j ey v js gew ld) =
    let r : IsSame o k p j = one_message words s past o p k j h w.running kd ld in ex ∙ (same_write n m o p k j (is ∙ sym js) r.0 r.1 ∙ sym ey)
one words s past x y h (Writes n o k ex w is few kd) (Recovering_ ey v may) = absurd (no_message words s past o k h w.running may kd)
one words s past x y h (Recovering_ ey v may) (Writes n o k ex w is few kd) = absurd (no_message words s past o k h w.running may kd)
one words s past x y h (Writes n o k ex w is few kd) (Settles t q ey lives l) = settle_first s past t q w.settled lives l
one words s past x y h (Settles t q ey lives l) (Writes n o k ex w is few kd) = settle_first s past t q w.settled lives l
one words s past x y h (Writes n o k ex w is few kd) (Ends e ey due settled) = no_end past e w.free due
one words s past x y h (Ends e ey due settled) (Writes n o k ex w is few kd) = no_end past e w.free due
one words s past x y h (Writes n o k ex w is few kd) (Exhausts ey due) = no_number words s past n o k h is few w kd due
one words s past x y h (Exhausts ey due) (Writes n o k ex w is few kd) = no_number words s past n o k h is few w kd due
one words s past x y h (Recovering_ ex w may) (Recovering_ ey v might) = ex ∙ sym ey
one words s past x y h (Recovering_ ex w may) (Settles t q ey lives l) = settle_first s past t q w.settled lives l
one words s past x y h (Settles t q ey lives l) (Recovering_ ex w may) = settle_first s past t q w.settled lives l
one words s past x y h (Recovering_ ex w may) (Ends e ey due settled) = no_end past e w.free due
one words s past x y h (Ends e ey due settled) (Recovering_ ex w may) = no_end past e w.free due
one words s past x y h (Recovering_ ex w may) (Exhausts ey due) = absurd (no_message words s past due.owner due.order h w.running may (kind s past due.owner due.order due.law))
one words s past x y h (Exhausts ey due) (Recovering_ ex w may) = absurd (no_message words s past due.owner due.order h w.running may (kind s past due.owner due.order due.law))
one words s past x y h (Settles t o ex a l) (Settles u p ey b m) = let r = one_settles s past t u o p a b l m in ex ∙ (same_settle t u o p r.0 r.1 ∙ sym ey)
one words s past x y h (Settles t o ex a l) (Ends e ey due settled) = settle_first s past t o settled a l
one words s past x y h (Ends e ey due settled) (Settles t o ex a l) = settle_first s past t o settled a l
one words s past x y h (Settles t o ex a l) (Exhausts ey due) = settle_first s past t o due.works.settled a l
one words s past x y h (Exhausts ey due) (Settles t o ex a l) = settle_first s past t o due.works.settled a l
one words s past x y h (Ends e ex due settled) (Ends f ey also done) = ex ∙ (ap Stopped (some_is e f (sym due ∙ also)) ∙ sym ey)
one words s past x y h (Ends e ex due settled) (Exhausts ey d) = no_end past e d.works.free due
one words s past x y h (Exhausts ey d) (Ends e ex due settled) = no_end past e d.works.free due
one words s past x y h (Exhausts ex d) (Exhausts ey c) = ex ∙ sym ey

pub one_of_its_own : Words → (s : Setting) (past : Past) (x y : Happening) → Lawful s past → Allowed s past x → Allowed s past y → IsItsOwn past x → IsItsOwn past y → x ≡ y
one_of_its_own words s past x y h a b own also = one words s past x y h (why s past x a own) (why s past y b also)

-- ---- and none where nothing is owed

no_kind : Words → (s : Setting) (past : Past) (o : Owner) (k : Order) → Quiet s past → ended past ≡ None → Kinds s past o k → ⊥
no_kind words s past o k quiet runs (Unlinks t a r eo ek hand due) = let l : a ∷ r ≡ [] = sym due ∙ quiet.unlinked in cc
no_kind words s past o k quiet runs (Plans t eo p none) = quiet.written runs t k p
no_kind words s past o k quiet runs (Goes eo g) =
    not_whole words past g.next.submit g.next.next ((subst (λ (e : Option End). law.WaitsIn e past) runs quiet.waits).1 g.free).0

quiet_none : Words → (s : Setting) (past : Past) (x : Happening) → Lawful s past → Quiet s past → ended past ≡ None → Why s past x → ⊥
quiet_none words s past x h quiet runs (Writes n o k ex w is few kd) = no_kind words s past o k quiet runs kd
quiet_none words s past x h quiet runs (Recovering_ ex w may) =
    clash (sym (ap (λ (n : Option Need). is_some n) ((subst (λ (e : Option End). law.WaitsIn e past) runs quiet.waits).1 may.free).1) ∙ may.need)
quiet_none words s past x h quiet runs (Settles t o ex lives l) = settle_first s past t o quiet.settled lives l
quiet_none words s past x h quiet runs (Ends e ex due settled) = no_end past e (quiet.over runs) due
quiet_none words s past x h quiet runs (Exhausts ex due) = no_kind words s past due.owner due.order quiet runs (kind s past due.owner due.order due.law)

pub nothing_owed : Words → (s : Setting) (past : Past) (x : Happening) → Kept s past → ended past ≡ None → Allowed s past x → IsItsOwn past x → ⊥
nothing_owed words s past x kept runs a own = quiet_none words s past x kept.lawful kept.quiet runs (why s past x a own)
