-- each submit that a stopped ticket waits for is unlinked exactly once, and so is each that was made ahead and is of no use
use Rattle.std.proofs.Common.{◌≡◌, ◌⊎◌, ℕ, ◌≤◌, suc, ◌||◌, ◌&&◌, not, Bool, true, false, List, [], ◌∷◌, ◌++◌, Option, Some, None, inl, inr, refl, sym, subst, ◌∙◌, ap, arith}
use Rattle.std.specs.Prelude.{◌==◌, is_some, if◌then◌else◌}
use Rattle.std.proofs.lemmas.Bool.{eqb-true}
use Rattle.usbip_wire.specs.Awaited.{Awaited}
use Rattle.usbip_wire.specs.Up as up
use Rattle.host_urbs.specs.Law as urbs_law
use Rattle.host_urbs.specs.Law.{is_named}
use Rattle.host_urbs.specs.Record as urbs
use Rattle.host_urbs.specs.Unlinks as unlinks
use Rattle.host_hub.specs.declared.outcome.End.{End}
use Rattle.host_hub.specs.declared.outcome.Outcome.{Outcome}
use Rattle.host_hub.specs.declared.outcome.Outcome.TheVariants as outcome
use Rattle.host_recover.specs.declared.need.Need.{Need}
use Rattle.host_hub.specs.Order.{Class, ClearHalt, Listen, Order, Part, Read, Request, Setting, Trigger, Unlink, is_bulk, is_listen, is_unlink, message_of}
use Rattle.host_hub.specs.Record.{Asked, Cancelled, Cleared, Fell, GaveUp, Happening, Of, Owner, Past, Recovers, Recovery, Settled, Stopped, Took, Wrote, next, written}
use Rattle.host_hub.specs.Crossings.{crossings}
use Rattle.host_hub.specs.Book.{active, has, is_live, live, or_else}
use Rattle.host_hub.specs.Hand.{ended, in_hand, is_begun, is_of}
use Rattle.host_hub.specs.Outstanding.{Sent, busy, is_unlinked, not_unlinked, outstanding, own_bulk}
use Rattle.host_hub.specs.Pieces.{pieces}
use Rattle.host_hub.specs.Status.{awaits}
use Rattle.host_hub.specs.Causes.{cause, once_free, reached}
use Rattle.host_hub.specs.Unlinks.{is_deep, is_over, unlinks_due, unlinks_of}
use Rattle.host_hub.specs.Sentences.{IsLeft}
use Rattle.host_hub.specs.Ends.{end_due}
use Rattle.host_hub.specs.Recovery.{MayComeFor, running}
use Rattle.host_hub.specs.Law.{ByBytes, ByClosing, ByFault, ByItself, ByNumbers, IsHandOver, Kept, Lawful, Recovering, Runs, StopLaw, WriteLaw}
use Rattle.host_hub.proofs.Entries.{IsIn, same_named}
use Rattle.host_hub.proofs.Fronts.{running_over}
use Rattle.host_hub.proofs.Lawful.{lawful_crossings}
use Rattle.host_hub.proofs.Lists.{and_false, clash, first_has, has_other, has_removed, own, same}
use Rattle.host_hub.proofs.Messages.{written_same}
use Rattle.host_hub.proofs.Numbers.{may_next, same_outstanding}
use Rattle.host_hub.proofs.Pasts.{hand_begun, still_live}
use Rattle.host_hub.proofs.Recovering.{begun_in_hand}
use Rattle.host_hub.proofs.Stopping.{awaits_wrote}

-- what host_urbs says of unlinks
pub record Counts : Type 0 where
  pub once : (first : ℕ) (past : urbs.Past) (n : ℕ) → urbs_law.Lawful first past → unlinks.unlinks_of n (urbs.written past) ≤ 1
  pub one : (first : ℕ) (past : urbs.Past) (n : ℕ) → urbs_law.Lawful first past → is_named n (urbs.outstanding past) ≡ true → unlinks.unlinks_of n (urbs.written past) ≡ 1

-- ---- where no unlink is due, one is out

named_all : (xs all : List Sent) (x : Sent) → not_unlinked xs all ≡ [] → IsIn x xs → is_unlink x.order ≡ false → is_unlinked x.number all ≡ true
named_all [] all x h m plain = absurd m
named_all (y ∷ ys) all x h m plain = step (is_unlink y.order) refl (is_unlinked y.number all) refl h m (named_all ys all x)
  where
    step : (b : Bool) → is_unlink y.order ≡ b → (c : Bool) → is_unlinked y.number all ≡ c → (if b || c then not_unlinked ys all else y.number ∷ not_unlinked ys all) ≡ []
        → (x ≡ y) ⊎ IsIn x ys → (not_unlinked ys all ≡ [] → IsIn x ys → is_unlink x.order ≡ false → is_unlinked x.number all ≡ true) → is_unlinked x.number all ≡ true
    step true e c f k (inl i) again = clash (sym plain ∙ (ap (λ (z : Sent). is_unlink z.order) i ∙ e))
    step false e true f k (inl i) again = ap (λ (z : Sent). is_unlinked z.number all) i ∙ f
    step false e false f k i again = cc
    step true e c f k (inr i) again = again k i plain
    step false e true f k (inr i) again = again k i plain

-- ---- a bulk submit

bulk_speaks : (k : Order) → is_bulk k ≡ true → is_listen k ≡ false
bulk_speaks (Part tag text eom) h = refl
bulk_speaks (Request tag size) h = refl
bulk_speaks (Trigger tag) h = refl
bulk_speaks Read h = refl
bulk_speaks Listen h = clash h
bulk_speaks (Class request) h = clash h
bulk_speaks (ClearHalt endpoint) h = clash h
bulk_speaks (Unlink target) h = clash h

bulk_plain : (k : Order) → is_bulk k ≡ true → is_unlink k ≡ false
bulk_plain (Part tag text eom) h = refl
bulk_plain (Request tag size) h = refl
bulk_plain (Trigger tag) h = refl
bulk_plain Read h = refl
bulk_plain Listen h = clash h
bulk_plain (Class request) h = clash h
bulk_plain (ClearHalt endpoint) h = clash h
bulk_plain (Unlink target) h = clash h

own_is_bulk : (t : ℕ) (xs : List Sent) (x : Sent) → IsIn x (own_bulk t xs) → is_bulk x.order ≡ true
own_is_bulk t [] x m = absurd m
own_is_bulk t (y ∷ ys) x m = step (is_of t y.owner) refl (is_bulk y.order) refl m (own_is_bulk t ys x)
  where
    step : (a : Bool) → is_of t y.owner ≡ a → (b : Bool) → is_bulk y.order ≡ b → IsIn x (if a && b then y ∷ own_bulk t ys else own_bulk t ys)
        → (IsIn x (own_bulk t ys) → is_bulk x.order ≡ true) → is_bulk x.order ≡ true
    step true e true f (inl i) again = ap (λ (z : Sent). is_bulk z.order) i ∙ f
    step true e true f (inr i) again = again i
    step true e false f i again = again i
    step false e b f i again = again i

own_is_busy : {P : Type 0} (t : ℕ) (xs : List Sent) (x : Sent) → IsIn x (own_bulk t xs) → busy xs ≡ [] → P
own_is_busy t [] x m none = absurd m
own_is_busy {P} t (y ∷ ys) x m none = step (is_listen y.order) refl none (is_bulk y.order) refl m (own_is_busy t ys x)
  where
    step : (l : Bool) → is_listen y.order ≡ l → (if l then busy ys else y ∷ busy ys) ≡ [] → (b : Bool) → is_bulk y.order ≡ b
        → IsIn x (if is_of t y.owner && b then y ∷ own_bulk t ys else own_bulk t ys) → (IsIn x (own_bulk t ys) → busy ys ≡ [] → P) → P
    step false e k b f i again = cc
    step true e k true f i again = clash (sym (bulk_speaks y.order f) ∙ e)
    step true e k false f i again = again (subst (λ (c : Bool). IsIn x (if c then y ∷ own_bulk t ys else own_bulk t ys)) (and_false (is_of t y.owner)) i) k

-- ---- what is true until its unlink is written

-- why a submit is to be unlinked
pub data Why (s : Setting) (t : ℕ) (x : Sent) (q : Past) : Type 0 where
  -- its ticket was stopped, and waits for it
  Stops : (lives : has t (live q) ≡ true) → (stopped : is_some (reached t q) ≡ true) → (waits : IsIn x (awaits t q)) → (uncaused : cause s t q ≡ None) → Why s t x q
  -- it was made ahead, and its ticket is settled or has read its piece to the end
  Left : (deep : is_deep s ≡ true) → (free : (is_live t q && is_some (reached t q)) ≡ false) → (over : (not (is_live t q) || is_over (pieces t q)) ≡ true)
      → (out : IsIn x (own_bulk t (outstanding q))) → Why s t x q

pub record Owed (s : Setting) (t : ℕ) (x : Sent) (q : Past) : Type 0 where
  pub running : ended q ≡ None
  pub going : end_due q ≡ None
  pub hand : in_hand q ≡ Some t
  pub why : Why s t x q

abbrev IsDone : Setting → ℕ → Past → Type 0
IsDone s n q = 1 ≤ unlinks.unlinks_of n (written s q)

abbrev Either : Setting → ℕ → Sent → Past → Type 0
Either s t x q = IsDone s x.number q ⊎ Owed s t x q

named_now : (s : Setting) (t : ℕ) (x : Sent) (q : Past) → is_unlink x.order ≡ false → Owed s t x q → unlinks_due s (ended q) q ≡ [] → is_unlinked x.number (outstanding q) ≡ true
named_now s t x q plain o none = by o.why
  where
    ahead : Bool → Bool → List Sent
    ahead a b = if a then awaits t q else if b then own_bulk t (outstanding q) else []

    now : unlinks_of s (Some t) q ≡ []
    now = subst (λ (k : Option ℕ). unlinks_of s k q ≡ []) o.hand (subst (λ (e : Option End). unlinks_due s e q ≡ []) o.running none)

    none_of : Bool → Bool → Type 0
    none_of a b = not_unlinked (ahead a b) (outstanding q) ≡ []

    left : Bool
    left = is_deep s && (not (is_live t q) || is_over (pieces t q))

    chosen : none_of (is_live t q && is_some (reached t q)) left
    chosen = now

    by : Why s t x q → is_unlinked x.number (outstanding q) ≡ true
    by (Stops lives stopped waits uncaused) =
        let both : (is_live t q && is_some (reached t q)) ≡ true = rw lives stopped in
        let due : not_unlinked (awaits t q) (outstanding q) ≡ [] = subst (λ (b : Bool). none_of b left) both chosen in
        named_all (awaits t q) (outstanding q) x due waits plain
    by (Left deep free over out) =
        let both : left ≡ true = rw deep over in
        let due : not_unlinked (own_bulk t (outstanding q)) (outstanding q) ≡ [] = subst (λ (b : Bool). none_of false b) both (subst (λ (b : Bool). none_of b left) free chosen) in
        named_all (own_bulk t (outstanding q)) (outstanding q) x due out plain

done_now : Counts → (s : Setting) (t : ℕ) (x : Sent) (q : Past) → Lawful s q → is_unlink x.order ≡ false → Owed s t x q → unlinks_due s (ended q) q ≡ [] → IsDone s x.number q
done_now counts s t x q h plain o none =
    omega (
      arith,
      ap (λ (l : List up.Message). unlinks.unlinks_of x.number l) (written_same s q)
          ∙ counts.one s.first (crossings s q) x.number (lawful_crossings s q h)
          (subst (λ (l : List Awaited). is_named x.number l ≡ true) (same_outstanding s q h)
          (same_named s x.number (outstanding q) ∙ named_now s t x q plain o none)),
    )

-- what was written stays
pub more_unlinks : (n : ℕ) (ms : List up.Message) (m : up.Message) → unlinks.unlinks_of n ms ≤ unlinks.unlinks_of n (ms ++ m ∷ [])
more_unlinks n [] m = omega arith
more_unlinks n (up.Submit head x ∷ ms) m = more_unlinks n ms m
more_unlinks n (up.Unlink head ∷ ms) m = step (head.target == n) (more_unlinks n ms m)
  where
    step : (b : Bool) → unlinks.unlinks_of n ms ≤ unlinks.unlinks_of n (ms ++ m ∷ [])
        → (if b then suc (unlinks.unlinks_of n ms) else unlinks.unlinks_of n ms) ≤ (if b then suc (unlinks.unlinks_of n (ms ++ m ∷ [])) else unlinks.unlinks_of n (ms ++ m ∷ []))
    step true h = omega (arith, h)
    step false h = h

pub last_unlink : (s : Setting) (n k : ℕ) (ms : List up.Message) → 1 ≤ unlinks.unlinks_of n (ms ++ message_of s k (Unlink n) ∷ [])
last_unlink s n k [] = rw (own n) (omega arith)
last_unlink s n k (up.Submit head x ∷ ms) = last_unlink s n k ms
last_unlink s n k (up.Unlink head ∷ ms) = step (head.target == n) (last_unlink s n k ms)
  where
    step : (b : Bool) → 1 ≤ unlinks.unlinks_of n (ms ++ message_of s k (Unlink n) ∷ [])
        → 1 ≤ (if b then suc (unlinks.unlinks_of n (ms ++ message_of s k (Unlink n) ∷ [])) else unlinks.unlinks_of n (ms ++ message_of s k (Unlink n) ∷ []))
    step true h = omega arith
    step false h = h

done_more : (s : Setting) (n : ℕ) (y : Happening) (q : Past) → IsDone s n q → IsDone s n (y ∷ q)
done_more s n (Wrote k o order) q h = omega (arith, h, more_unlinks n (written s q) (message_of s k order))
done_more s n y q h = h

-- ---- each happening

no_hand : {P : Type 0} (s : Setting) (t : ℕ) (x : Sent) (q : Past) → Owed s t x q → IsHandOver (in_hand q) q → busy (outstanding q) ≡ [] → P
no_hand {P} s t x q o over free = by o.why
  where
    settled : is_live t q ≡ false
    settled = subst (λ (k : Option ℕ). IsHandOver k q) o.hand over

    by : Why s t x q → P
    by (Stops lives stopped waits uncaused) = clash (sym settled ∙ lives)
    by (Left deep free_now over_now out) = own_is_busy t (outstanding q) x out free

waits_on : (o : Option Outcome) (x : Sent) (xs : List Sent) → IsIn x xs → once_free o xs ≡ None
waits_on o x [] m = absurd m
waits_on o x (y ∷ ys) m = refl

no_recovery : {P : Type 0} (s : Setting) (t : ℕ) (x : Sent) (q : Past) → Lawful s q → Owed s t x q → (order : Order) → Recovering q order → P
no_recovery {P} s t x q h o order law = by (running q) refl law.next.next
  where
    by : (k : Option Need) → running q ≡ k → MayComeFor k q law.next.submit → P
    by None e next = absurd next
    by (Some need) e next = no_hand s t x q o (running_over s q h need e) law.free

reached_some : (o : Option Outcome) (p : Outcome) → is_some (or_else o (Some p)) ≡ true
reached_some None p = refl
reached_some (Some q) p = refl

pub before : (s : Setting) (more past : Past) → Lawful s (more ++ past) → Lawful s past
before s [] past h = h
before s (y ∷ more) past h = before s more past h.0

-- an unlink of another submit
wrote_owed : (s : Setting) (t : ℕ) (x : Sent) (n target : ℕ) (q : Past) → Owed s t x q → n ≡ next s.first q → Owed s t x (Wrote n (Of t) (Unlink target) ∷ q)
wrote_owed s t x n target q o e = record { running = o.running; going = o.going; hand = refl; why = by o.why }
  where
    begun : is_begun t q ≡ true
    begun = hand_begun t q o.hand

    again : IsIn x (awaits t q) → IsIn x (awaits t (Wrote n (Of t) (Unlink target) ∷ q))
    again waits =
        subst (λ (m : ℕ). IsIn x (awaits t (Wrote m (Of t) (Unlink target) ∷ q))) (sym e)
        (subst (λ (xs : List Sent). IsIn x xs) (sym (awaits_wrote s q t (Unlink target) begun)) (inr waits))

    by : Why s t x q → Why s t x (Wrote n (Of t) (Unlink target) ∷ q)
    by (Stops lives stopped waits uncaused) =
        Stops lives stopped (again waits)
        (still_live s q (Wrote n (Of t) (Unlink target)) t uncaused refl refl (waits_on (reached t q) x (awaits t (Wrote n (Of t) (Unlink target) ∷ q)) (again waits)))
    by (Left deep free over out) = Left deep free (rw (own t) over) (rw (own t) out)

wrote_unlink : (s : Setting) (t : ℕ) (x : Sent) (n u target : ℕ) (q : Past) → Lawful s (Wrote n (Of u) (Unlink target) ∷ q) → Owed s t x q → Either s t x (Wrote n (Of u) (Unlink target) ∷ q)
wrote_unlink s t x n u target q h o =
    subst (λ (v : ℕ). Either s t x (Wrote n (Of v) (Unlink target) ∷ q)) (same t u (sym o.hand ∙ h.1.2.0)) (step (target == x.number) refl)
  where
    step : (b : Bool) → (target == x.number) ≡ b → Either s t x (Wrote n (Of t) (Unlink target) ∷ q)
    step true e = inl (subst (λ (k : ℕ). 1 ≤ unlinks.unlinks_of x.number (written s q ++ message_of s n (Unlink k) ∷ [])) (sym (eqb-true target x.number e)) (last_unlink s x.number n (written s q)))
    step false e = inr (wrote_owed s t x n target q o (may_next s q n (Unlink target) h.1.1))

stop_done : Counts → (s : Setting) (t : ℕ) (x : Sent) (e : End) (q : Past) → Lawful s q → is_unlink x.order ≡ false → Owed s t x q → StopLaw s q e → IsDone s x.number q
stop_done counts s t x e q h plain o (ByFault is quiet) = done_now counts s t x q h plain o quiet.unlinked
stop_done counts s t x e q h plain o (ByClosing is quiet) = done_now counts s t x q h plain o quiet.unlinked
stop_done counts s t x e q h plain o (ByBytes f is quiet) = done_now counts s t x q h plain o quiet.unlinked
stop_done counts s t x e q h plain o (ByItself due settled) = let k : None ≡ Some e = sym o.going ∙ due in cc
stop_done counts s t x e q h plain o (ByNumbers is due) = by due.owner due.order due.submit due.law
  where
    by : (owner : Owner) (order : Order) → is_unlink order ≡ false → WriteLaw s q owner order → IsDone s x.number q
    by (Of u) (Unlink k) p law = clash (sym p)
    by (Of u) (Part tag text eom) p law = done_now counts s t x q h plain o law.1
    by (Of u) (Request tag size) p law = done_now counts s t x q h plain o law.1
    by (Of u) (Trigger tag) p law = done_now counts s t x q h plain o law.1
    by (Of u) Read p law = done_now counts s t x q h plain o law.1
    by (Of u) Listen p law = done_now counts s t x q h plain o law.1
    by (Of u) (Class request) p law = done_now counts s t x q h plain o law.1
    by (Of u) (ClearHalt endpoint) p law = done_now counts s t x q h plain o law.1
    by Recovery (Unlink k) p law = absurd law
    by Recovery (Part tag text eom) p law = no_recovery s t x q h o (Part tag text eom) law
    by Recovery (Request tag size) p law = no_recovery s t x q h o (Request tag size) law
    by Recovery (Trigger tag) p law = no_recovery s t x q h o (Trigger tag) law
    by Recovery Read p law = no_recovery s t x q h o Read law
    by Recovery Listen p law = no_recovery s t x q h o Listen law
    by Recovery (Class request) p law = no_recovery s t x q h o (Class request) law
    by Recovery (ClearHalt endpoint) p law = no_recovery s t x q h o (ClearHalt endpoint) law

step : Counts → (s : Setting) (t : ℕ) (x : Sent) (y : Happening) (q : Past) → Lawful s (y ∷ q) → is_unlink x.order ≡ false → Owed s t x q → Either s t x (y ∷ q)
step counts s t x (Wrote n (Of u) (Unlink target)) q h plain o = wrote_unlink s t x n u target q h o
step counts s t x (Wrote n (Of u) (Part tag text eom)) q h plain o = inl (done_more s x.number (Wrote n (Of u) (Part tag text eom)) q (done_now counts s t x q h.0 plain o h.1.2.1))
step counts s t x (Wrote n (Of u) (Request tag size)) q h plain o = inl (done_more s x.number (Wrote n (Of u) (Request tag size)) q (done_now counts s t x q h.0 plain o h.1.2.1))
step counts s t x (Wrote n (Of u) (Trigger tag)) q h plain o = inl (done_more s x.number (Wrote n (Of u) (Trigger tag)) q (done_now counts s t x q h.0 plain o h.1.2.1))
step counts s t x (Wrote n (Of u) Read) q h plain o = inl (done_more s x.number (Wrote n (Of u) Read) q (done_now counts s t x q h.0 plain o h.1.2.1))
step counts s t x (Wrote n (Of u) Listen) q h plain o = inl (done_more s x.number (Wrote n (Of u) Listen) q (done_now counts s t x q h.0 plain o h.1.2.1))
step counts s t x (Wrote n (Of u) (Class request)) q h plain o = inl (done_more s x.number (Wrote n (Of u) (Class request)) q (done_now counts s t x q h.0 plain o h.1.2.1))
step counts s t x (Wrote n (Of u) (ClearHalt endpoint)) q h plain o = inl (done_more s x.number (Wrote n (Of u) (ClearHalt endpoint)) q (done_now counts s t x q h.0 plain o h.1.2.1))
step counts s t x (Wrote n Recovery (Unlink target)) q h plain o = absurd h.1.2
step counts s t x (Wrote n Recovery (Part tag text eom)) q h plain o = no_recovery s t x q h.0 o (Part tag text eom) h.1.2
step counts s t x (Wrote n Recovery (Request tag size)) q h plain o = no_recovery s t x q h.0 o (Request tag size) h.1.2
step counts s t x (Wrote n Recovery (Trigger tag)) q h plain o = no_recovery s t x q h.0 o (Trigger tag) h.1.2
step counts s t x (Wrote n Recovery Read) q h plain o = no_recovery s t x q h.0 o Read h.1.2
step counts s t x (Wrote n Recovery Listen) q h plain o = no_recovery s t x q h.0 o Listen h.1.2
step counts s t x (Wrote n Recovery (Class request)) q h plain o = no_recovery s t x q h.0 o (Class request) h.1.2
step counts s t x (Wrote n Recovery (ClearHalt endpoint)) q h plain o = no_recovery s t x q h.0 o (ClearHalt endpoint) h.1.2
step counts s t x Recovers q h plain o = no_hand s t x q o h.1.1.hand h.1.1.free
step counts s t x (Took m) q h plain o = inl (done_now counts s t x q h.0 plain o h.1.0.quiet.unlinked)
step counts s t x (Fell m e) q h plain o = inl (done_now counts s t x q h.0 plain o h.1.0.quiet.unlinked)
step counts s t x (Stopped e) q h plain o = inl (stop_done counts s t x e q h.0 plain o h.1.1)
step counts s t x (Asked u a) q h plain o = inl (done_now counts s t x q h.0 plain o h.1.0.quiet.unlinked)
step counts s t x (Cancelled u) q h plain o = inl (done_now counts s t x q h.0 plain o h.1.0.quiet.unlinked)
step counts s t x (Cleared w) q h plain o = inl (done_now counts s t x q h.0 plain o h.1.0.quiet.unlinked)
step counts s t x GaveUp q h plain o = inl (done_now counts s t x q h.0 plain o h.1.0.quiet.unlinked)
step counts s t x (Settled u p) q h plain o = inr (record { running = o.running; going = o.going; hand = o.hand; why = by o.why })
  where
    left : (deep : is_deep s ≡ true) → (is_live t q && is_some (reached t q)) ≡ false → (not (is_live t q) || is_over (pieces t q)) ≡ true → IsIn x (own_bulk t (outstanding q))
        → (b : Bool) → is_live t (Settled u p ∷ q) ≡ b → Why s t x (Settled u p ∷ q)
    left deep free over out false e = Left deep (rw e refl) (rw e refl) out
    left deep free over out true e =
        let lives : is_live t q ≡ true = (has_removed t u (live q) e).0 in
        Left deep (rw e (subst (λ (b : Bool). (b && is_some (reached t q)) ≡ false) lives free)) (rw e (subst (λ (b : Bool). (not b || is_over (pieces t q)) ≡ true) lives over)) out

    stops : has t (live q) ≡ true → is_some (reached t q) ≡ true → IsIn x (awaits t q) → cause s t q ≡ None → (b : Bool) → (u == t) ≡ b → Why s t x (Settled u p ∷ q)
    stops lives stopped waits uncaused true e =
        let c : cause s t q ≡ Some p = subst (λ (v : ℕ). cause s v q ≡ Some p) (eqb-true u t e) h.1.1.caused in
        let k : None ≡ Some p = sym uncaused ∙ c in cc
    stops lives stopped waits uncaused false e =
        Stops (has_other t u (live q) lives e) stopped waits
        (still_live s q (Settled u p) t uncaused refl refl (waits_on (reached t q) x (awaits t q) waits))

    by : Why s t x q → Why s t x (Settled u p ∷ q)
    by (Stops lives stopped waits uncaused) = stops lives stopped waits uncaused (u == t) refl
    by (Left deep free over out) = left deep free over out (is_live t (Settled u p ∷ q)) refl

pub follow : Counts → (s : Setting) (t : ℕ) (x : Sent) (more q : Past) → Lawful s (more ++ q) → is_unlink x.order ≡ false → Owed s t x q → Either s t x (more ++ q)
follow counts s t x [] q h plain o = inr o
follow counts s t x (y ∷ more) q h plain o = by (follow counts s t x more q h.0 plain o)
  where
    by : Either s t x (more ++ q) → Either s t x (y ∷ (more ++ q))
    by (inl done) = inl (done_more s x.number y (more ++ q) done)
    by (inr owed) = step counts s t x y (more ++ q) h plain owed

-- ---- exactly one

exactly : Counts → (s : Setting) (t : ℕ) (x : Sent) (more q : Past) → Kept s (more ++ q) → is_unlink x.order ≡ false → Owed s t x q
    → unlinks.unlinks_of x.number (written s (more ++ q)) ≡ 1
exactly counts s t x more q kept plain o = by (follow counts s t x more q kept.lawful plain o)
  where
    most : unlinks.unlinks_of x.number (written s (more ++ q)) ≤ 1
    most = subst (λ (l : List up.Message). unlinks.unlinks_of x.number l ≤ 1) (sym (written_same s (more ++ q)))
        (counts.once s.first (crossings s (more ++ q)) x.number (lawful_crossings s (more ++ q) kept.lawful))

    by : Either s t x (more ++ q) → unlinks.unlinks_of x.number (written s (more ++ q)) ≡ 1
    by (inl done) = omega (arith, done, most)
    by (inr owed) = let done : IsDone s x.number (more ++ q) = done_now counts s t x (more ++ q) kept.lawful plain owed kept.quiet.unlinked in omega (arith, done, most)

-- a ticket that waits is stopped by an entry of the book
stop_owes : (s : Setting) (t : ℕ) (x : Sent) (y : Happening) (past : Past) → Runs s past → Lawful s past → has t (live past) ≡ true → is_begun t past ≡ true → IsIn x (awaits t past)
    → live (y ∷ past) ≡ live past → in_hand (y ∷ past) ≡ in_hand past → awaits t (y ∷ past) ≡ awaits t past → ended (y ∷ past) ≡ ended past → end_due (y ∷ past) ≡ end_due past
    → cause s t (y ∷ past) ≡ None → is_some (reached t (y ∷ past)) ≡ true → Owed s t x (y ∷ past)
stop_owes s t x y past runs h lives begun waits e f g k l none stop = record {
  running = k ∙ runs.running;
  going = l ∙ runs.quiet.over runs.running;
  hand = f ∙ begun_in_hand s past h t lives begun;
  why = Stops (ap (λ (ts : List ℕ). has t ts) e ∙ lives) stop (subst (λ (xs : List Sent). IsIn x xs) (sym g) waits) none;
}

pub cancelled_once : Counts → (s : Setting) (more past : Past) (t : ℕ) (x : Sent) → Kept s (more ++ Cancelled t ∷ past) → is_begun t past ≡ true → IsIn x (awaits t past)
    → is_unlink x.order ≡ false → unlinks.unlinks_of x.number (written s (more ++ Cancelled t ∷ past)) ≡ 1
cancelled_once counts s more past t x kept begun waits plain =
    exactly counts s t x more (Cancelled t ∷ past) kept plain
    (stop_owes s t x (Cancelled t) past h.1.0 h.0 h.1.1.0 begun waits refl refl refl refl refl
    (still_live s past (Cancelled t) t (h.1.0.quiet.settled t h.1.1.0) refl refl (waits_on (reached t (Cancelled t ∷ past)) x (awaits t past) waits))
    (rw (own t) (reached_some (reached t past) outcome.Cancelled)))
  where
    h : Lawful s (Cancelled t ∷ past)
    h = before s more (Cancelled t ∷ past) kept.lawful

pub cleared_once : Counts → (s : Setting) (more past : Past) (t w : ℕ) (x : Sent) → Kept s (more ++ Cleared w ∷ past) → active past ≡ Some t → is_begun t past ≡ true → IsIn x (awaits t past)
    → is_unlink x.order ≡ false → unlinks.unlinks_of x.number (written s (more ++ Cleared w ∷ past)) ≡ 1
cleared_once counts s more past t w x kept turn begun waits plain =
    exactly counts s t x more (Cleared w ∷ past) kept plain
    (stop_owes s t x (Cleared w) past h.1.0 h.0 lives begun waits refl refl refl refl refl
    (still_live s past (Cleared w) t (h.1.0.quiet.settled t lives) refl refl (waits_on (reached t (Cleared w ∷ past)) x (awaits t past) waits))
    (rw turn (rw (own t) (reached_some (reached t past) (outcome.Cleared w)))))
  where
    h : Lawful s (Cleared w ∷ past)
    h = before s more (Cleared w ∷ past) kept.lawful

    lives : has t (live past) ≡ true
    lives = first_has t (live past) turn

pub left_once : Counts → (s : Setting) (more past : Past) (t : ℕ) (x : Sent) → Kept s (more ++ past) → IsLeft s past t x → unlinks.unlinks_of x.number (written s (more ++ past)) ≡ 1
left_once counts s more past t x kept left =
    exactly counts s t x more past kept (bulk_plain x.order (own_is_bulk t (outstanding past) x left.among))
    (record { running = left.running; going = left.going; hand = left.hand; why = Left left.deep left.unstopped left.over left.among })
