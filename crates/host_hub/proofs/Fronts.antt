-- the letters of a recovery begin its word, whatever is answered
use Rattle.std.proofs.Common.{◌≡◌, ◌⊎◌, ℕ, pos, ◌+◌, ◌≤◌, Bool, true, false, List, [], ◌∷◌, ◌++◌, ◌&&◌, ◌||◌, Option, Some, None, inl, inr, refl, sym, subst, ◌∙◌, ap, arith}
use Rattle.std.specs.Prelude.{◌==◌, slice_index, if◌then◌else◌}
use Rattle.std.specs.Ordering.{int_eq}
use Rattle.std.proofs.lemmas.Bool.{eqb-true}
use Rattle.std.proofs.lemmas.List.{append-nil}
use Rattle.tmc_base.specs.declared.field.Field.{Field}
use Rattle.usbip_wire.specs.declared.ret_submit.RetSubmitHead.{RetSubmitHead}
use Rattle.usbip_wire.specs.declared.ret_unlink.RetUnlinkHead.{RetUnlinkHead}
use Rattle.usbip_wire.specs.Down as down
use Rattle.tmc_wire.specs.declared.class_request.ClassRequest.{ClassRequest}
use Rattle.host_recover.specs.declared.need.Need.{Need}
use Rattle.host_recover.specs.Goes.{GoesOn, is_stuck}
use Rattle.host_recover.specs.Letter.{Letter, Says, Submit, says_of, submit_of}
use Rattle.host_recover.specs.Letter as letter
use Rattle.host_recover.specs.Words.{Begins, words_of}
use Rattle.host_hub.specs.declared.outcome.End.{End}
use Rattle.host_hub.specs.declared.outcome.End.TheVariants as end
use Rattle.host_hub.specs.Order.{Class, ClearHalt, Listen, Order, Part, Read, Request, Setting, Trigger, Unlink, is_bulk, is_listen, is_unlink}
use Rattle.host_hub.specs.Record.{Asked, Asking, Cancelled, Cleared, Fell, GaveUp, Happening, Of, Owner, Past, Recovers, Recovery, Settled, Stopped, Took, Wrote, next}
use Rattle.host_hub.specs.Book.{has, live, remove, tickets}
use Rattle.host_hub.specs.Hand.{ended, in_hand, is_begun, is_of}
use Rattle.host_hub.specs.Outstanding.{Sent, busy, find, less_unlink, others, outstanding, own_bulk, without_named}
use Rattle.host_hub.specs.Letters.{ending_of, is_recovery, letter_in, letter_of, letters, order_of}
use Rattle.host_hub.specs.Recovery.{MayComeFor, running}
use Rattle.host_hub.specs.Faults.{answer_fault}
use Rattle.host_hub.specs.Ends.{class_ends, ends_by, owned_ends, recovery_ends, submit_ends}
use Rattle.host_hub.specs.Law as law
use Rattle.host_hub.specs.Law.{IsHandOver, Lawful, Planned, Recovering}
use Rattle.host_hub.specs.Unlinks.{unlinks_due}
use Rattle.host_hub.specs.Plan.{When}
use Rattle.host_hub.specs.Pieces.{pieces}
use Rattle.host_hub.specs.Status.{awaits}
use Rattle.host_hub.specs.Crossings.{crossings}
use Rattle.host_hub.specs.Steps.{took}
use Rattle.host_urbs.specs.Law.{MayTake}
use Rattle.std.specs.Bool.{MatchBool}
use Rattle.host_hub.specs.declared.outcome.Outcome.{Outcome}
use Rattle.host_hub.proofs.Clean.{submits}
use Rattle.host_hub.proofs.Entries.{Answers, IsIn, answers_submit, answers_unlink, in_found}
use Rattle.host_hub.proofs.Lists.{clash, differ, first_has, has_more, own}
use Rattle.host_hub.proofs.Numbers.{outstanding_falls}
use Rattle.host_hub.proofs.Pasts.{begun_known, hand_begun}
use Rattle.host_hub.proofs.Recovering.{OutOf, no_unlinks_due, none_begun}
use Rattle.host_hub.proofs.Within.{not_refused}

-- ---- while a recovery runs, the ticket in hand is settled

pub removed_too : (t u : ℕ) (ts : List ℕ) → has t ts ≡ false → has t (remove u ts) ≡ false
removed_too t u [] h = refl
removed_too t u (x ∷ xs) h = step (x == u) (x == t) refl (removed_too t u xs) h
  where
    step : (b c : Bool) → (x == t) ≡ c → (has t xs ≡ false → has t (remove u xs) ≡ false) → c || has t xs ≡ false → has t (if b then remove u xs else x ∷ remove u xs) ≡ false
    step b true e again k = clash (sym k)
    step true false e again k = again k
    step false false e again k = rw e (again k)

over_settled : (o : Option ℕ) (past : Past) (u : ℕ) (p : Outcome) → IsHandOver o past → IsHandOver o (Settled u p ∷ past)
over_settled None past u p h = tt
over_settled (Some t) past u p h = removed_too t u (live past) h

over_asked : (s : Setting) (past : Past) (o : Option ℕ) (a : Asking) → Lawful s past → in_hand past ≡ o → IsHandOver o past → IsHandOver o (Asked (tickets past + 1) a ∷ past)
over_asked s past None a h e over = tt
over_asked s past (Some t) a h e over =
    has_more t (tickets past + 1) (live past) (differ (tickets past + 1) t (λ k. let low : t ≤ tickets past = begun_known s past h t (hand_begun t past e) in omega (arith, k, low))) ∙ over

over_same : (o : Option ℕ) (x : Happening) (past : Past) → live (x ∷ past) ≡ live past → IsHandOver o past → IsHandOver o (x ∷ past)
over_same None x past e h = tt
over_same (Some t) x past e h = subst (λ (ts : List ℕ). has t ts ≡ false) (sym e) h

pub none_runs : {A : Type 0} (need : Need) → None ≡ Some need → A
none_runs need e = cc

pub running_over : (s : Setting) (past : Past) → Lawful s past → (need : Need) → running past ≡ Some need → IsHandOver (in_hand past) past
running_over s [] h need e = none_runs need e
running_over s (Recovers ∷ past) h need e = over_same (in_hand past) Recovers past refl h.1.1.hand
running_over s (Wrote n Recovery k ∷ past) h need e = over_same (in_hand past) (Wrote n Recovery k) past refl (running_over s past h.0 need e)
running_over s (Wrote n (Of t) (Unlink target) ∷ past) h need e =
    subst (λ (o : Option ℕ). IsHandOver o (Wrote n (Of t) (Unlink target) ∷ past)) h.1.2.0
    (over_same (in_hand past) (Wrote n (Of t) (Unlink target)) past refl (running_over s past h.0 need e))
running_over s (Wrote n (Of t) (Part tag text eom) ∷ past) h need e = none_runs need e
running_over s (Wrote n (Of t) (Request tag size) ∷ past) h need e = none_runs need e
running_over s (Wrote n (Of t) (Trigger tag) ∷ past) h need e = none_runs need e
running_over s (Wrote n (Of t) Read ∷ past) h need e = none_runs need e
running_over s (Wrote n (Of t) Listen ∷ past) h need e = none_runs need e
running_over s (Wrote n (Of t) (Class request) ∷ past) h need e = none_runs need e
running_over s (Wrote n (Of t) (ClearHalt endpoint) ∷ past) h need e = none_runs need e
running_over s (Settled u p ∷ past) h need e = over_settled (in_hand past) past u p (running_over s past h.0 need e)
running_over s (Asked u a ∷ past) h need e =
    subst (λ (v : ℕ). IsHandOver (in_hand past) (Asked v a ∷ past)) (sym h.1.1) (over_asked s past (in_hand past) a h.0 refl (running_over s past h.0 need e))
running_over s (Took m ∷ past) h need e = over_same (in_hand past) (Took m) past refl (running_over s past h.0 need e)
running_over s (Fell m f ∷ past) h need e = over_same (in_hand past) (Fell m f) past refl (running_over s past h.0 need e)
running_over s (Stopped f ∷ past) h need e = over_same (in_hand past) (Stopped f) past refl (running_over s past h.0 need e)
running_over s (Cancelled u ∷ past) h need e = over_same (in_hand past) (Cancelled u) past refl (running_over s past h.0 need e)
running_over s (Cleared w ∷ past) h need e = over_same (in_hand past) (Cleared w) past refl (running_over s past h.0 need e)
running_over s (GaveUp ∷ past) h need e = over_same (in_hand past) GaveUp past refl (running_over s past h.0 need e)

-- ---- the submits of recoveries that are not answered

abbrev pub recoverers : List Sent → List Sent
recoverers [] = []
recoverers (x ∷ xs) = if is_recovery x.owner then x ∷ recoverers xs else recoverers xs

recoverers_others : (n : ℕ) (xs : List Sent) → recoverers (others n xs) ≡ others n (recoverers xs)
recoverers_others n [] = refl
recoverers_others n (x ∷ xs) = step (x.number == n) refl (is_recovery x.owner) refl (recoverers_others n xs)
  where
    step : (b : Bool) → (x.number == n) ≡ b → (c : Bool) → is_recovery x.owner ≡ c → recoverers (others n xs) ≡ others n (recoverers xs)
        → recoverers (if b then others n xs else x ∷ others n xs) ≡ others n (if c then x ∷ recoverers xs else recoverers xs)
    step true e true f again = rw e again
    step true e false f again = again
    step false e true f again = rw e (rw f (ap (λ (l : List Sent). x ∷ l) again))
    step false e false f again = rw f again

busy_others : (n : ℕ) (xs : List Sent) → busy (others n xs) ≡ others n (busy xs)
busy_others n [] = refl
busy_others n (x ∷ xs) = step (x.number == n) refl (is_listen x.order) refl (busy_others n xs)
  where
    step : (b : Bool) → (x.number == n) ≡ b → (c : Bool) → is_listen x.order ≡ c → busy (others n xs) ≡ others n (busy xs)
        → busy (if b then others n xs else x ∷ others n xs) ≡ others n (if c then busy xs else x ∷ busy xs)
    step true e true f again = again
    step true e false f again = rw e again
    step false e true f again = rw f again
    step false e false f again = rw e (rw f (ap (λ (l : List Sent). x ∷ l) again))

-- none is left where there was none
pub none_others : (n : ℕ) (xs : List Sent) → recoverers xs ≡ [] → recoverers (others n xs) ≡ []
none_others n xs h = recoverers_others n xs ∙ rw h refl

none_named : (order : Order) (xs : List Sent) → recoverers xs ≡ [] → recoverers (without_named order xs) ≡ []
none_named (Unlink target) xs h = none_others target xs h
none_named order xs h = h

pub none_unlink : (n : ℕ) (xs : List Sent) → recoverers xs ≡ [] → recoverers (less_unlink n xs) ≡ []
none_unlink n [] h = refl
none_unlink n (x ∷ xs) h = step (is_recovery x.owner) refl (x.number == n) h (none_unlink n xs)
  where
    step : (b : Bool) → is_recovery x.owner ≡ b → (c : Bool) → (if b then x ∷ recoverers xs else recoverers xs) ≡ [] → (recoverers xs ≡ [] → recoverers (less_unlink n xs) ≡ [])
        → recoverers (if c then without_named x.order xs else x ∷ less_unlink n xs) ≡ []
    step true e c k again = cc
    step false e true k again = none_named x.order xs k
    step false e false k again = rw e (again k)

pub in_recoverers : (x : Sent) (xs : List Sent) → IsIn x xs → is_recovery x.owner ≡ true → IsIn x (recoverers xs)
in_recoverers x [] h e = h
in_recoverers x (y ∷ ys) (inl h) e = rw (sym (ap (λ (z : Sent). is_recovery z.owner) h) ∙ e) (inl h)
in_recoverers x (y ∷ ys) (inr h) e = step (is_recovery y.owner) (in_recoverers x ys h e)
  where
    step : (b : Bool) → IsIn x (recoverers ys) → IsIn x (if b then y ∷ recoverers ys else recoverers ys)
    step true again = inr again
    step false again = again

in_busy : (x : Sent) (xs : List Sent) → IsIn x xs → is_listen x.order ≡ false → IsIn x (busy xs)
in_busy x [] h e = h
in_busy x (y ∷ ys) (inl h) e = rw (sym (ap (λ (z : Sent). is_listen z.order) h) ∙ e) (inl h)
in_busy x (y ∷ ys) (inr h) e = step (is_listen y.order) (in_busy x ys h e)
  where
    step : (b : Bool) → IsIn x (busy ys) → IsIn x (if b then busy ys else y ∷ busy ys)
    step true again = again
    step false again = inr again

from_busy : (x : Sent) (xs : List Sent) → IsIn x (busy xs) → IsIn x xs
from_busy x [] h = h
from_busy x (y ∷ ys) h = step (is_listen y.order) (from_busy x ys) h
  where
    kept : (IsIn x (busy ys) → IsIn x ys) → (x ≡ y) ⊎ IsIn x (busy ys) → (x ≡ y) ⊎ IsIn x ys
    kept again (inl e) = inl e
    kept again (inr e) = inr (again e)

    step : (b : Bool) → (IsIn x (busy ys) → IsIn x ys) → IsIn x (if b then busy ys else y ∷ busy ys) → (x ≡ y) ⊎ IsIn x ys
    step true again k = inr (again k)
    step false again k = kept again k

pub found_in : (n : ℕ) (xs : List Sent) (x : Sent) → find n xs ≡ Some x → IsIn x xs × (x.number ≡ n)
found_in n [] x e = cc
found_in n (y ∷ ys) x e = step (y.number == n) refl e (found_in n ys x)
  where
    step : (b : Bool) → (y.number == n) ≡ b → (if b then Some y else find n ys) ≡ Some x → (find n ys ≡ Some x → IsIn x ys × (x.number ≡ n)) → ((x ≡ y) ⊎ IsIn x ys) × (x.number ≡ n)
    step true f k again = let g : y ≡ x = cc in (inl (sym g), subst (λ (z : Sent). z.number ≡ n) g (eqb-true y.number n f))
    step false f k again = let r = again k in (inr r.0, r.1)

pub one_in : (x y : Sent) (xs : List Sent) → xs ≡ y ∷ [] → IsIn x xs → x ≡ y
one_in x y xs e h = by (subst (λ (l : List Sent). IsIn x l) e h)
  where
    by : (x ≡ y) ⊎ ⊥ → x ≡ y
    by (inl k) = k
    by (inr k) = absurd k

pub none_in : {P : Type 0} (x : Sent) (xs : List Sent) → xs ≡ [] → IsIn x xs → P
none_in x xs e h = absurd (subst (λ (l : List Sent). IsIn x l) e h)

-- ---- what is known of the one that is out

pub record Out (past : Past) : Type 0 where
  pub sent : Sent
  pub only : recoverers (outstanding past) ≡ sent ∷ []
  pub alone : busy (outstanding past) ≡ sent ∷ []
  pub submit : Submit
  pub is : sent.order ≡ order_of submit
  pub need : Need
  pub now : running past ≡ Some need
  pub letter : Letter
  pub of : submit_of letter ≡ submit
  pub begins : Begins (words_of need) (letters past ++ letter ∷ [])

abbrev pub IsOut : Past → Type 0
IsOut past = (recoverers (outstanding past) ≡ []) ⊎ Out past

abbrev pub AreFronts : Past → Type 0
AreFronts past = (need : Need) → running past ≡ Some need → Begins (words_of need) (letters past)

pub record Fronts (past : Past) : Type 0 where
  pub front : AreFronts past
  pub out : ended past ≡ None → IsOut past

some_same : (a b : Need) → Some a ≡ Some b → a ≡ b
some_same a b e = cc

sent_same : (a b : Sent) → Some a ≡ Some b → a ≡ b
sent_same a b e = cc

-- ---- the one that is out is no ticket's

bulk_plain : (order : Order) → is_bulk order ≡ true → is_listen order ≡ false
bulk_plain Listen h = clash h
bulk_plain order h = refl

own_none : (t : ℕ) (xs : List Sent) → ((x : Sent) → IsIn x xs → is_of t x.owner ≡ true → is_bulk x.order ≡ true → ⊥) → own_bulk t xs ≡ []
own_none t [] h = refl
own_none t (x ∷ xs) h = step (is_of t x.owner) refl (is_bulk x.order) refl (own_none t xs (λ y m. h y (inr m)))
  where
    step : (b : Bool) → is_of t x.owner ≡ b → (c : Bool) → is_bulk x.order ≡ c → own_bulk t xs ≡ [] → (if b && c then x ∷ own_bulk t xs else own_bulk t xs) ≡ []
    step true e true f again = absurd (h x (inl refl) e f)
    step true e false f again = again
    step false e c f again = again

recovery_in : (x : Sent) (xs : List Sent) → IsIn x (recoverers xs) → is_recovery x.owner ≡ true
recovery_in x [] h = absurd h
recovery_in x (y ∷ ys) h = step (is_recovery y.owner) refl (recovery_in x ys) h
  where
    kept : is_recovery y.owner ≡ true → (IsIn x (recoverers ys) → is_recovery x.owner ≡ true) → (x ≡ y) ⊎ IsIn x (recoverers ys) → is_recovery x.owner ≡ true
    kept e again (inl k) = ap (λ (z : Sent). is_recovery z.owner) k ∙ e
    kept e again (inr k) = again k

    step : (b : Bool) → is_recovery y.owner ≡ b → (IsIn x (recoverers ys) → is_recovery x.owner ≡ true) → IsIn x (if b then y ∷ recoverers ys else recoverers ys) → is_recovery x.owner ≡ true
    step true e again k = kept e again k
    step false e again k = again k

no_ticket : (t : ℕ) (owner : Owner) → is_recovery owner ≡ true → is_of t owner ≡ true → ⊥
no_ticket t Recovery h e = clash e
no_ticket t (Of u) h e = clash h

sent_recovery : (past : Past) (o : Out past) → is_recovery o.sent.owner ≡ true
sent_recovery past o = recovery_in o.sent (outstanding past) (subst (λ (l : List Sent). IsIn o.sent l) (sym o.only) (inl refl))

order_plain : (submit : Submit) → is_listen (order_of submit) ≡ false
order_plain (letter.Ask request) = refl
order_plain (letter.Clear endpoint) = refl
order_plain letter.Read = refl

order_submits : (submit : Submit) → is_unlink (order_of submit) ≡ false
order_submits (letter.Ask request) = refl
order_submits (letter.Clear endpoint) = refl
order_submits letter.Read = refl

-- nothing else is written while it is out

pub out_ends : {P : Type 0} (past : Past) → Out past → busy (outstanding past) ≡ [] → P
out_ends past o e = let k : o.sent ∷ [] ≡ [] = sym o.alone ∙ e in cc

no_submit : (s : Setting) (past : Past) (t : ℕ) (order : Order) → Lawful s past → Out past → Planned s past t order → ⊥
no_submit s past t order h o due =
    out_ends past o (subst (λ (b : Bool). MatchBool b (When s (pieces t past) (awaits t past) order) (law.Begins past)) fresh due.when).0
  where
    fresh : is_begun t past ≡ false
    fresh = none_begun s past h (running_over s past h o.need o.now) t (first_has t (live past) due.turn)

no_unlink : (s : Setting) (past : Past) (target : ℕ) (rest : List ℕ) → Lawful s past → ended past ≡ None → Out past → unlinks_due s (ended past) past ≡ target ∷ rest → ⊥
no_unlink s past target rest h runs o due = by (sym (no_unlinks_due s past runs (running_over s past h o.need o.now) (out (in_hand past))) ∙ due)
  where
    mine : (t : ℕ) (x : Sent) → IsIn x (outstanding past) → is_of t x.owner ≡ true → is_bulk x.order ≡ true → ⊥
    mine t x m of bulk =
        let e : x ≡ o.sent = one_in x o.sent (busy (outstanding past)) o.alone (in_busy x (outstanding past) m (bulk_plain x.order bulk)) in
        no_ticket t o.sent.owner (sent_recovery past o) (subst (λ (z : Sent). is_of t z.owner ≡ true) e of)

    out : (k : Option ℕ) → OutOf k (outstanding past)
    out None = tt
    out (Some t) = own_none t (outstanding past) (mine t)

    by : [] ≡ target ∷ rest → ⊥
    by e = cc

-- ---- a message is written

pub still_none : (past : Past) → IsOut past → (Out past → ⊥) → recoverers (outstanding past) ≡ []
still_none past (inl e) never = e
still_none past (inr o) never = absurd (never o)

vacuous : (past : Past) → running past ≡ None → AreFronts past
vacuous past none need e = let k : None ≡ Some need = sym none ∙ e in cc

wrote_submit : (s : Setting) (past : Past) (n t : ℕ) (order : Order) → Lawful s past → ended past ≡ None → Fronts past → Planned s past t order → is_unlink order ≡ false
    → Fronts (Wrote n (Of t) order ∷ past)
wrote_submit s past n t order h runs f law plain = record {
  front = vacuous (Wrote n (Of t) order ∷ past) (rw (submits t order plain) refl);
  out = λ e. inl (still_none past (f.out runs) (λ o. no_submit s past t order h o law));
}

wrote_unlink : (s : Setting) (past : Past) (n t target : ℕ) (rest : List ℕ) → Lawful s past → ended past ≡ None → Fronts past → unlinks_due s (ended past) past ≡ target ∷ rest
    → Fronts (Wrote n (Of t) (Unlink target) ∷ past)
wrote_unlink s past n t target rest h runs f due = record {
  front = f.front;
  out = λ e. inl (still_none past (f.out runs) (λ o. no_unlink s past target rest h runs o due));
}

wrote_recovery : (past : Past) (n : ℕ) (order : Order) → ended past ≡ None → Fronts past → Recovering past order → Fronts (Wrote n Recovery order ∷ past)
wrote_recovery past n order runs f law = record { front = f.front; out = λ e. inr (by (running past) refl law.next.next) }
  where
    plain : is_listen order ≡ false
    plain = rw law.next.is (order_plain law.next.submit)

    by : (k : Option Need) → running past ≡ k → MayComeFor k past law.next.submit → Out (Wrote n Recovery order ∷ past)
    by None e next = absurd next
    by (Some need) e next = record {
      sent = record { number = n; owner = Recovery; order = order };
      only = ap (λ (l : List Sent). record { number = n; owner = Recovery; order = order } ∷ l) (still_none past (f.out runs) (λ o. out_ends past o law.free));
      alone = rw plain (ap (λ (l : List Sent). record { number = n; owner = Recovery; order = order } ∷ l) law.free);
      submit = law.next.submit;
      is = law.next.is;
      need = need;
      now = e;
      letter = next.letter;
      of = next.is;
      begins = next.begins;
    }

-- ---- an answer comes

abbrev answer_of : Submit → RetSubmitHead → List ℕ → Letter
answer_of (letter.Ask request) head bytes = letter.Asked request (says_of request (slice_index bytes 0) (slice_index bytes 1))
answer_of (letter.Clear endpoint) head bytes = letter.Cleared endpoint
answer_of letter.Read head bytes = letter.Drained (ending_of head)

answer_is : (submit : Submit) (head : RetSubmitHead) (bytes : List ℕ) → letter_of (order_of submit) head bytes ≡ answer_of submit head bytes ∷ []
answer_is (letter.Ask request) head bytes = refl
answer_is (letter.Clear endpoint) head bytes = refl
answer_is letter.Read head bytes = refl

answer_same : (submit : Submit) (head : RetSubmitHead) (bytes : List ℕ) → submit_of (answer_of submit head bytes) ≡ submit
answer_same (letter.Ask request) head bytes = refl
answer_same (letter.Clear endpoint) head bytes = refl
answer_same letter.Read head bytes = refl

not_stuck : (request : ClassRequest) (bytes : List ℕ) (o : Option Field) → class_ends request bytes o ≡ None
    → is_stuck request (says_of request (slice_index bytes 0) (slice_index bytes 1)) ≡ false
not_stuck request bytes (Some f) h = cc
not_stuck request bytes None h = step (is_stuck request (says_of request (slice_index bytes 0) (slice_index bytes 1))) refl h
  where
    step : (b : Bool) → is_stuck request (says_of request (slice_index bytes 0) (slice_index bytes 1)) ≡ b
        → (if b then Some (end.DeviceSays (slice_index bytes 0)) else None) ≡ None → is_stuck request (says_of request (slice_index bytes 0) (slice_index bytes 1)) ≡ false
    step true e k = cc
    step false e k = e

answer_goes : (submit : Submit) (head : RetSubmitHead) (bytes : List ℕ) → recovery_ends (order_of submit) head bytes ≡ None → GoesOn (answer_of submit head bytes)
answer_goes (letter.Ask request) head bytes h = (slice_index bytes 0, slice_index bytes 1, refl, step (int_eq head.status (pos 0)) h)
  where
    step : (b : Bool) → (if b then class_ends request bytes (answer_fault request bytes) else Some (end.DeviceFault head.status)) ≡ None
        → is_stuck request (says_of request (slice_index bytes 0) (slice_index bytes 1)) ≡ false
    step true k = not_stuck request bytes (answer_fault request bytes) k
    step false k = cc
answer_goes (letter.Clear endpoint) head bytes h = tt
answer_goes letter.Read head bytes h = tt

recovery_good : (s : Setting) (past : Past) (x : Sent) (head : RetSubmitHead) (bytes : List ℕ) → is_recovery x.owner ≡ true → submit_ends s (Some x) past head bytes ≡ None
    → recovery_ends x.order head bytes ≡ None
recovery_good s past x head bytes mine h = by x.owner mine (not_refused s past x head bytes h)
  where
    by : (owner : Owner) → is_recovery owner ≡ true → owned_ends s owner x.order past head bytes ≡ None → recovery_ends x.order head bytes ≡ None
    by Recovery e k = k
    by (Of t) e k = clash e

abbrev pub GoesAlways : Type 0
GoesAlways = (called : Need) (letters : List Letter) (l answer : Letter) → Begins (words_of called) (letters ++ l ∷ []) → submit_of answer ≡ submit_of l → GoesOn answer
    → Begins (words_of called) (letters ++ answer ∷ [])

not_here : (k n : ℕ) (x : Sent) → (x.number ≡ n → ⊥) → others n (x ∷ []) ≡ x ∷ []
not_here k n x h = rw (differ x.number n h) refl

gone : (n : ℕ) (x : Sent) → x.number ≡ n → others n (x ∷ []) ≡ []
gone n x e = rw e (rw (own n) refl)

took_submit : GoesAlways → (s : Setting) (past : Past) (head : RetSubmitHead) (bytes : List ℕ) → Lawful s past → ended past ≡ None → Fronts past
    → MayTake (crossings s past) (down.RetSubmit head bytes) → ends_by s past (down.RetSubmit head bytes) ≡ None → Fronts (took past head bytes)
took_submit goes s past head bytes h runs f may good = by (f.out runs)
  where
    at : Answers s past head.seqnum false
    at = answers_submit s past head bytes h may

    y : Sent
    y = at.0

    there : IsIn y (outstanding past) × (y.number ≡ head.seqnum)
    there = found_in head.seqnum (outstanding past) y at.1

    now : letters (took past head bytes) ≡ letters past ++ letter_in (Some y) head bytes
    now = ap (λ (o : Option Sent). letters past ++ letter_in o head bytes) at.1

    quiet : is_recovery y.owner ≡ false → letters (took past head bytes) ≡ letters past
    quiet e = now ∙ rw e (append-nil (letters past))

    same_front : letters (took past head bytes) ≡ letters past → AreFronts (took past head bytes)
    same_front e need k = subst (λ (ls : List Letter). Begins (words_of need) ls) (sym e) (f.front need k)

    nothing : recoverers (outstanding past) ≡ [] → is_recovery y.owner ≡ false
    nothing e = step (is_recovery y.owner) refl where
      step : (b : Bool) → is_recovery y.owner ≡ b → is_recovery y.owner ≡ false
      step true k = none_in y (recoverers (outstanding past)) e (in_recoverers y (outstanding past) there.0 k)
      step false k = k

    fine : submit_ends s (Some y) past head bytes ≡ None
    fine = subst (λ (o : Option Sent). submit_ends s o past head bytes ≡ None) at.1 good

    heard : (o : Out past) → is_recovery y.owner ≡ true → Fronts (took past head bytes)
    heard o mine = record { front = fronts; out = λ e. inl (recoverers_others head.seqnum (outstanding past) ∙ rw o.only (gone head.seqnum o.sent (ap (λ (z : Sent). z.number) (sym is) ∙ there.1))) } where
      is : y ≡ o.sent
      is = one_in y o.sent (recoverers (outstanding past)) o.only (in_recoverers y (outstanding past) there.0 mine)

      order_is : y.order ≡ order_of o.submit
      order_is = ap (λ (z : Sent). z.order) is ∙ o.is

      letters_are : letters (took past head bytes) ≡ letters past ++ answer_of o.submit head bytes ∷ []
      letters_are = now ∙ rw mine (ap (λ (k : Order). letters past ++ letter_of k head bytes) order_is ∙ ap (λ (ls : List Letter). letters past ++ ls) (answer_is o.submit head bytes))

      fronts : AreFronts (took past head bytes)
      fronts need k =
          subst (λ (ls : List Letter). Begins (words_of need) ls) (sym letters_are)
          (subst (λ (m : Need). Begins (words_of m) (letters past ++ answer_of o.submit head bytes ∷ [])) (the_need need k)
          (goes o.need (letters past) o.letter (answer_of o.submit head bytes) o.begins (answer_same o.submit head bytes ∙ sym o.of)
          (answer_goes o.submit head bytes (subst (λ (w : Order). recovery_ends w head bytes ≡ None) order_is (recovery_good s past y head bytes mine fine)))))
        where
          the_need : (need : Need) → running past ≡ Some need → o.need ≡ need
          the_need need k = let e : Some o.need ≡ Some need = sym o.now ∙ k in some_same o.need need e

    passed : (o : Out past) → is_recovery y.owner ≡ false → Fronts (took past head bytes)
    passed o other = record {
      front = same_front (quiet other);
      out = λ e. inr (record {
        sent = o.sent;
        only = recoverers_others head.seqnum (outstanding past) ∙ rw o.only (not_here 0 head.seqnum o.sent elsewhere);
        alone = busy_others head.seqnum (outstanding past) ∙ rw o.alone (not_here 0 head.seqnum o.sent elsewhere);
        submit = o.submit;
        is = o.is;
        need = o.need;
        now = o.now;
        letter = o.letter;
        of = o.of;
        begins = subst (λ (ls : List Letter). Begins (words_of o.need) (ls ++ o.letter ∷ [])) (sym (quiet other)) o.begins;
      });
    } where
      sent_in : IsIn o.sent (outstanding past)
      sent_in = from_busy o.sent (outstanding past) (subst (λ (l : List Sent). IsIn o.sent l) (sym o.alone) (inl refl))

      elsewhere : o.sent.number ≡ head.seqnum → ⊥
      elsewhere e =
          let f : Some y ≡ Some o.sent = sym at.1 ∙ subst (λ (n : ℕ). find n (outstanding past) ≡ Some o.sent) e (in_found (next s.first past) (outstanding past) o.sent (outstanding_falls s past h) sent_in) in
          let g : y ≡ o.sent = sent_same y o.sent f in
          clash (sym other ∙ (ap (λ (z : Sent). is_recovery z.owner) g ∙ sent_recovery past o))

    by : IsOut past → Fronts (took past head bytes)
    by (inl none) = record { front = same_front (quiet (nothing none)); out = λ e. inl (none_others head.seqnum (outstanding past) none) }
    by (inr o) = which (is_recovery y.owner) refl o where
      which : (b : Bool) → is_recovery y.owner ≡ b → Out past → Fronts (took past head bytes)
      which true e o = heard o e
      which false e o = passed o e

unlink_plain : (order : Order) → is_unlink order ≡ true → is_listen order ≡ false
unlink_plain (Unlink target) h = refl
unlink_plain (Part tag text eom) h = clash h
unlink_plain (Request tag size) h = clash h
unlink_plain (Trigger tag) h = clash h
unlink_plain Read h = clash h
unlink_plain Listen h = clash h
unlink_plain (Class request) h = clash h
unlink_plain (ClearHalt endpoint) h = clash h

took_unlink : (s : Setting) (past : Past) (head : RetUnlinkHead) → Lawful s past → ended past ≡ None → Fronts past → MayTake (crossings s past) (down.RetUnlink head)
    → Fronts (Took (down.RetUnlink head) ∷ past)
took_unlink s past head h runs f may = record { front = f.front; out = λ e. inl (none_unlink head.seqnum (outstanding past) (still_none past (f.out runs) none)) }
  where
    at : Answers s past head.seqnum true
    at = answers_unlink s past head h may

    none : Out past → ⊥
    none o =
        let there : IsIn at.0 (outstanding past) × (at.0.number ≡ head.seqnum) = found_in head.seqnum (outstanding past) at.0 at.1 in
        let e : at.0 ≡ o.sent = one_in at.0 o.sent (busy (outstanding past)) o.alone (in_busy at.0 (outstanding past) there.0 (unlink_plain at.0.order at.2)) in
        clash (sym (subst (λ (k : Order). is_unlink k ≡ false) (sym (ap (λ (z : Sent). z.order) e ∙ o.is)) (order_submits o.submit)) ∙ at.2)

-- ---- and whatever else happens

moved : (past q : Past) → outstanding q ≡ outstanding past → running q ≡ running past → letters q ≡ letters past → Out past → Out q
moved past q e f g o = record {
  sent = o.sent;
  only = ap recoverers e ∙ o.only;
  alone = ap busy e ∙ o.alone;
  submit = o.submit;
  is = o.is;
  need = o.need;
  now = f ∙ o.now;
  letter = o.letter;
  of = o.of;
  begins = subst (λ (ls : List Letter). Begins (words_of o.need) (ls ++ o.letter ∷ [])) (sym g) o.begins;
}

stays : (past q : Past) → outstanding q ≡ outstanding past → running q ≡ running past → letters q ≡ letters past → ended q ≡ ended past → Fronts past → Fronts q
stays past q e f g k fr = record {
  front = λ need r. subst (λ (ls : List Letter). Begins (words_of need) ls) (sym g) (fr.front need (sym f ∙ r));
  out = λ r. by (fr.out (sym k ∙ r));
}
  where
    by : IsOut past → IsOut q
    by (inl none) = inl (ap recoverers e ∙ none)
    by (inr o) = inr (moved past q e f g o)

pub over : {P : Type 0} (e : End) → Some e ≡ None → P
over e h = cc

pub fronts : GoesAlways → ((called : Need) → Begins (words_of called) []) → (s : Setting) (past : Past) → Lawful s past → Fronts past
fronts goes some s [] h = record { front = vacuous [] refl; out = λ e. inl refl }
fronts goes some s (Wrote n (Of t) (Unlink target) ∷ past) h = wrote_unlink s past n t target h.1.2.1 h.0 h.1.0.running (fronts goes some s past h.0) h.1.2.2
fronts goes some s (Wrote n (Of t) (Part tag text eom) ∷ past) h = wrote_submit s past n t (Part tag text eom) h.0 h.1.0.running (fronts goes some s past h.0) h.1.2.0 refl
fronts goes some s (Wrote n (Of t) (Request tag size) ∷ past) h = wrote_submit s past n t (Request tag size) h.0 h.1.0.running (fronts goes some s past h.0) h.1.2.0 refl
fronts goes some s (Wrote n (Of t) (Trigger tag) ∷ past) h = wrote_submit s past n t (Trigger tag) h.0 h.1.0.running (fronts goes some s past h.0) h.1.2.0 refl
fronts goes some s (Wrote n (Of t) Read ∷ past) h = wrote_submit s past n t Read h.0 h.1.0.running (fronts goes some s past h.0) h.1.2.0 refl
fronts goes some s (Wrote n (Of t) Listen ∷ past) h = wrote_submit s past n t Listen h.0 h.1.0.running (fronts goes some s past h.0) h.1.2.0 refl
fronts goes some s (Wrote n (Of t) (Class request) ∷ past) h = wrote_submit s past n t (Class request) h.0 h.1.0.running (fronts goes some s past h.0) h.1.2.0 refl
fronts goes some s (Wrote n (Of t) (ClearHalt endpoint) ∷ past) h = wrote_submit s past n t (ClearHalt endpoint) h.0 h.1.0.running (fronts goes some s past h.0) h.1.2.0 refl
fronts goes some s (Wrote n Recovery (Unlink target) ∷ past) h = absurd h.1.2
fronts goes some s (Wrote n Recovery (Part tag text eom) ∷ past) h = wrote_recovery past n (Part tag text eom) h.1.0.running (fronts goes some s past h.0) h.1.2
fronts goes some s (Wrote n Recovery (Request tag size) ∷ past) h = wrote_recovery past n (Request tag size) h.1.0.running (fronts goes some s past h.0) h.1.2
fronts goes some s (Wrote n Recovery (Trigger tag) ∷ past) h = wrote_recovery past n (Trigger tag) h.1.0.running (fronts goes some s past h.0) h.1.2
fronts goes some s (Wrote n Recovery Read ∷ past) h = wrote_recovery past n Read h.1.0.running (fronts goes some s past h.0) h.1.2
fronts goes some s (Wrote n Recovery Listen ∷ past) h = wrote_recovery past n Listen h.1.0.running (fronts goes some s past h.0) h.1.2
fronts goes some s (Wrote n Recovery (Class request) ∷ past) h = wrote_recovery past n (Class request) h.1.0.running (fronts goes some s past h.0) h.1.2
fronts goes some s (Wrote n Recovery (ClearHalt endpoint) ∷ past) h = wrote_recovery past n (ClearHalt endpoint) h.1.0.running (fronts goes some s past h.0) h.1.2
fronts goes some s (Took (down.RetSubmit head bytes) ∷ past) h = took_submit goes s past head bytes h.0 h.1.0.running (fronts goes some s past h.0) h.1.1 h.1.2
fronts goes some s (Took (down.RetUnlink head) ∷ past) h = took_unlink s past head h.0 h.1.0.running (fronts goes some s past h.0) h.1.1
fronts goes some s (Recovers ∷ past) h = record {
  front = λ need e. some need;
  out = λ e. inl (still_none past ((fronts goes some s past h.0).out h.1.0.running) (λ o. out_ends past o h.1.1.free));
}
fronts goes some s (Fell m e ∷ past) h = record { front = (fronts goes some s past h.0).front; out = λ k. over e k }
fronts goes some s (Stopped e ∷ past) h = record { front = (fronts goes some s past h.0).front; out = λ k. over e k }
fronts goes some s (Settled t o ∷ past) h = stays past (Settled t o ∷ past) refl refl refl refl (fronts goes some s past h.0)
fronts goes some s (Asked t a ∷ past) h = stays past (Asked t a ∷ past) refl refl refl refl (fronts goes some s past h.0)
fronts goes some s (Cancelled t ∷ past) h = stays past (Cancelled t ∷ past) refl refl refl refl (fronts goes some s past h.0)
fronts goes some s (Cleared w ∷ past) h = stays past (Cleared w ∷ past) refl refl refl refl (fronts goes some s past h.0)
fronts goes some s (GaveUp ∷ past) h = stays past (GaveUp ∷ past) refl refl refl refl (fronts goes some s past h.0)
