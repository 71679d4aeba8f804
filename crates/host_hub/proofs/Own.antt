-- a recovery writes a message, or something else happens: each ticket owns the numbers from its start
use Rattle.std.proofs.Common.{◌≡◌, ◌⊎◌, ℕ, ◌<◌, ◌≤◌, Bool, true, false, List, [], ◌∷◌, ◌++◌, Option, Some, None, inl, inr, refl, sym, subst, ◌∙◌, ap, arith}
use Rattle.std.specs.Prelude.{nat_lt}
use Rattle.std.proofs.lemmas.Bool.{ltb-true, ltb-false}
use Rattle.usbip_wire.specs.Down as down
use Rattle.usbip_wire.specs.declared.ret_submit.RetSubmitHead.{RetSubmitHead}
use Rattle.host_recover.specs.declared.need.Need.{Need}
use Rattle.host_recover.specs.Letter.{Submit}
use Rattle.host_recover.specs.Words.{Begins, words_of}
use Rattle.host_hub.specs.Order.{Class, ClearHalt, Listen, Order, Part, Read, Request, Setting, Trigger, Unlink, is_unlink}
use Rattle.host_hub.specs.Record.{Asked, Cancelled, Cleared, Fell, GaveUp, Of, Owner, Past, Recovers, Recovery, Settled, Stopped, Took, Wrote, next}
use Rattle.host_hub.specs.Book.{has, live, tickets}
use Rattle.host_hub.specs.Hand.{in_hand, is_begun, start}
use Rattle.host_hub.specs.Outstanding.{Sent, less, outstanding}
use Rattle.host_hub.specs.Letters.{is_recovery, letter_in, letters}
use Rattle.host_hub.specs.Recovery.{MayComeFor, running}
use Rattle.host_hub.specs.Law.{IsHandOver, Lawful, Recovering, WriteLaw}
use Rattle.host_hub.specs.Sentences.{IsNumberedFor, is_initiate, wrote_at}
use Rattle.host_hub.proofs.Fronts.{GoesAlways, found_in, fronts, in_recoverers, none_in, none_others, none_runs, none_unlink, out_ends, recoverers, removed_too, running_over, still_none}
use Rattle.host_hub.proofs.Clean.{submits}
use Rattle.host_hub.proofs.Entries.{Answers, answers_submit}
use Rattle.host_hub.proofs.Lists.{clash, differ, has_more, own}
use Rattle.host_hub.proofs.Numbers.{may_next}
use Rattle.host_hub.proofs.Pasts.{begun_known, hand_begun}
use Rattle.host_hub.proofs.Recovering.{none_begun}
use Rattle.host_hub.proofs.Starts.{start_below, starts_rise}
use Rattle.host_hub.proofs.OwnNumbers.{Determines, Inv, IsOpened, IsRunning, Now, initiates_first, kept_at, now, wrote_begun, wrote_low}
use Rattle.host_hub.proofs.OwnTickets.{old_or_new, ticket_inv}

-- ---- a message of a recovery

recovers_by : (s : Setting) (past : Past) (order : Order) → WriteLaw s past Recovery order → Recovering past order
recovers_by s past (Unlink target) w = absurd w
recovers_by s past (Part tag text eom) w = w
recovers_by s past (Request tag size) w = w
recovers_by s past (Trigger tag) w = w
recovers_by s past Read w = w
recovers_by s past Listen w = w
recovers_by s past (Class request) w = w
recovers_by s past (ClearHalt endpoint) w = w

-- one runs
runs_now : (past : Past) (submit : Submit) → MayComeFor (running past) past submit → (n : Need) × (running past ≡ Some n)
runs_now past submit next = by (running past) refl next
  where
    by : (o : Option Need) → running past ≡ o → MayComeFor o past submit → (n : Need) × (running past ≡ Some n)
    by None e next = absurd next
    by (Some n) e next = (n, e)

recovery_inv : Determines → (s : Setting) (past : Past) (m : ℕ) (k : Order) → Lawful s (Wrote m Recovery k ∷ past) → Inv past → Inv (Wrote m Recovery k ∷ past)
recovery_inv determines s past m k h i = record { from = from; starts = starts; initiates = initiates; dead = dead; opened = opened; runs = runs }
  where
    is : m ≡ next s.first past
    is = may_next s past m k h.1.1

    law : Recovering past k
    law = recovers_by s past k h.1.2

    low : (n : ℕ) (x : Sent) → wrote_at n past ≡ Some x → n < m
    low n x e = let l = wrote_low s past h.0 n x e in omega (arith, l, is)

    mine : Sent
    mine = record { number = m; owner = Recovery; order = k }

    here : wrote_at m (Wrote m Recovery k ∷ past) ≡ Some mine
    here = rw (own m) refl

    not_mine : {P : Type 0} (t : ℕ) (x : Sent) → x.owner ≡ Of t → x ≡ mine → P
    not_mine t x of g = let j : Recovery ≡ Of t = sym (ap (λ (z : Sent). z.owner) g) ∙ of in cc

    from : (n t : ℕ) (x : Sent) → wrote_at n (Wrote m Recovery k ∷ past) ≡ Some x → x.owner ≡ Of t → start t past ≤ n
    from n t x e of = by (now m Recovery k n x past e) where
      by : Now m Recovery k n x past → start t past ≤ n
      by (inl (f, g)) = not_mine t x of g
      by (inr f) = i.from n t x f of

    starts : (n t u : ℕ) (x : Sent) → wrote_at n (Wrote m Recovery k ∷ past) ≡ Some x → x.owner ≡ Of t → is_unlink x.order ≡ false → start t past < start u past → n < start u past
    starts n t u x e of submit less = by (now m Recovery k n x past e) where
      by : Now m Recovery k n x past → n < start u past
      by (inl (f, g)) = not_mine t x of g
      by (inr f) = i.starts n t u x f of submit less

    initiates : (n t r : ℕ) (x y : Sent) → wrote_at n (Wrote m Recovery k ∷ past) ≡ Some x → x.owner ≡ Of t → is_unlink x.order ≡ false
        → wrote_at r (Wrote m Recovery k ∷ past) ≡ Some y → is_initiate y.order ≡ true → start t past ≤ r → n < r
    initiates n t r x y e of submit f init least = by (now m Recovery k n x past e) (now m Recovery k r y past f) where
      by : Now m Recovery k n x past → Now m Recovery k r y past → n < r
      by (inl (j, g)) a = not_mine t x of g
      by (inr p) (inl (j, g)) = let l = low n x p in omega (arith, l, j)
      by (inr p) (inr a) = i.initiates n t r x y p of submit a init least

    over : IsHandOver (in_hand past) past
    over = let r = runs_now past law.next.submit law.next.next in running_over s past h.0 r.0 r.1

    dead : (r t : ℕ) (y : Sent) → wrote_at r (Wrote m Recovery k ∷ past) ≡ Some y → is_initiate y.order ≡ true → is_begun t past ≡ true → start t past ≤ r → has t (live past) ≡ false
    dead r t y f init begun least = by (now m Recovery k r y past f) where
      which : (b : Bool) → has t (live past) ≡ b → has t (live past) ≡ false
      which true e = clash (sym (none_begun s past h.0 over t e) ∙ begun)
      which false e = e

      by : Now m Recovery k r y past → has t (live past) ≡ false
      by (inl a) = which (has t (live past)) refl
      by (inr p) = i.dead r t y p init begun least

    first : letters past ≡ [] → is_initiate k ≡ true
    first none = ap is_initiate law.next.is ∙ initiates_first determines past law.next.submit none law.next.next

    still : (n : ℕ) (x : Sent) → wrote_at n past ≡ Some x → wrote_at n (Wrote m Recovery k ∷ past) ≡ Some x
    still n x e = kept_at s past m Recovery k n x h e

    opened : (n : ℕ) (x : Sent) → wrote_at n (Wrote m Recovery k ∷ past) ≡ Some x → x.owner ≡ Recovery → IsOpened (Wrote m Recovery k ∷ past) n
    opened n x e of = by (now m Recovery k n x past e) where
      newest : m ≡ n → IsRunning past → IsOpened (Wrote m Recovery k ∷ past) n
      newest f (inl none) = (m, mine, here, first none.0, omega (arith, f), λ t begun least. omega (arith, f, least))
      newest f (inr o) = (o.0, o.1, still o.0 o.1 o.2, o.3, (let l = low o.0 o.1 o.2 in omega (arith, l, f)), λ t begun least. o.4 t begun)

      by : Now m Recovery k n x past → IsOpened (Wrote m Recovery k ∷ past) n
      by (inl (f, g)) = let r = runs_now past law.next.submit law.next.next in newest f (i.runs r.0 r.1)
      by (inr f) = let o = i.opened n x f of in (o.0, o.1, still o.0 o.1 o.2, o.3, o.4, o.5)

    runs : (n : Need) → running past ≡ Some n → IsRunning (Wrote m Recovery k ∷ past)
    runs n e = by (i.runs n e) where
      by : IsRunning past → IsRunning (Wrote m Recovery k ∷ past)
      by (inl none) = inr (m, mine, here, first none.0, λ t begun. (let l = start_below s past h.0 t begun in omega (arith, l.1, is)))
      by (inr o) = inr (o.0, o.1, still o.0 o.1 o.2, o.3, o.4)

-- ---- whatever else happens

carried : (past q : Past) → ((n : ℕ) → wrote_at n q ≡ wrote_at n past) → ((t : ℕ) → is_begun t q ≡ is_begun t past) → ((t : ℕ) → start t q ≡ start t past)
    → (letters past ≡ [] → recoverers (outstanding past) ≡ [] → (letters q ≡ []) × (recoverers (outstanding q) ≡ [])) → IsRunning past → IsRunning q
carried past q w b st none (inl e) = inl (none e.0 e.1)
carried past q w b st none (inr o) = inr (o.0, o.1, w o.0 ∙ o.2, o.3, λ t begun. (let l = o.4 t (sym (b t) ∙ begun) in omega (arith, l, st t)))

same_inv : (past q : Past) → ((n : ℕ) → wrote_at n q ≡ wrote_at n past) → ((t : ℕ) → is_begun t q ≡ is_begun t past) → ((t : ℕ) → start t q ≡ start t past)
    → ((t : ℕ) → is_begun t past ≡ true → has t (live past) ≡ false → has t (live q) ≡ false) → ((n : Need) → running q ≡ Some n → IsRunning q) → Inv past → Inv q
same_inv past q w b st lives runs i = record {
  from = λ n t x e of. (let l = i.from n t x (sym (w n) ∙ e) of in omega (arith, l, st t));
  starts = λ n t u x e of submit less. (let l = i.starts n t u x (sym (w n) ∙ e) of submit (omega (arith, less, st t, st u)) in omega (arith, l, st u));
  initiates = λ n t m x y e of submit f init least. i.initiates n t m x y (sym (w n) ∙ e) of submit (sym (w m) ∙ f) init (omega (arith, least, st t));
  dead = λ m t y f init begun least. lives t (sym (b t) ∙ begun) (i.dead m t y (sym (w m) ∙ f) init (sym (b t) ∙ begun) (omega (arith, least, st t)));
  opened = opened;
  runs = runs;
}
  where
    opened : (n : ℕ) (x : Sent) → wrote_at n q ≡ Some x → x.owner ≡ Recovery → IsOpened q n
    opened n x e of = let o = i.opened n x (sym (w n) ∙ e) of in
        (o.0, o.1, w o.0 ∙ o.2, o.3, o.4, λ t begun least. (let l = o.5 t (sym (b t) ∙ begun) (omega (arith, least, st t)) in omega (arith, l, st t)))

-- no submit of a recovery is answered where none is out
none_answered : (s : Setting) (past : Past) (head : RetSubmitHead) (bytes : List ℕ) → Answers s past head.seqnum false → letters past ≡ [] → recoverers (outstanding past) ≡ []
    → letters (Took (down.RetSubmit head bytes) ∷ past) ≡ []
none_answered s past head bytes at none out = ap (λ (o : Option Sent). letters past ++ letter_in o head bytes) at.1 ∙ by (is_recovery at.0.owner) refl
  where
    by : (b : Bool) → is_recovery at.0.owner ≡ b → letters past ++ letter_in (Some at.0) head bytes ≡ []
    by true e = none_in at.0 (recoverers (outstanding past)) out (in_recoverers at.0 (outstanding past) (found_in head.seqnum (outstanding past) at.0 at.1).0 e)
    by false e = rw e (rw none refl)

none_less : (m : down.Message) (xs : List Sent) → recoverers xs ≡ [] → recoverers (less m xs) ≡ []
none_less (down.RetSubmit head bytes) xs h = none_others head.seqnum xs h
none_less (down.RetUnlink head) xs h = none_unlink head.seqnum xs h

-- an unlink leaves what runs
unlink_runs : (s : Setting) (past : Past) (m v target : ℕ) → Lawful s (Wrote m (Of v) (Unlink target) ∷ past) → Inv past
    → (n : Need) → running (Wrote m (Of v) (Unlink target) ∷ past) ≡ Some n → IsRunning (Wrote m (Of v) (Unlink target) ∷ past)
unlink_runs s past m v target h i n e = by (i.runs n e)
  where
    begun_v : is_begun v past ≡ true
    begun_v = hand_begun v past h.1.2.0

    behind : (t r : ℕ) → is_begun t (Wrote m (Of v) (Unlink target) ∷ past) ≡ true → (is_begun t past ≡ true → start t past ≤ r) → start t (Wrote m (Of v) (Unlink target) ∷ past) ≤ r
    behind t r begun old = which (old_or_new past m v t (Unlink target) begun) where
      which : ((is_begun t past ≡ true) × (start t (Wrote m (Of v) (Unlink target) ∷ past) ≡ start t past)) ⊎ ((v ≡ t) × (is_begun t past ≡ false) × (start t (Wrote m (Of v) (Unlink target) ∷ past) ≡ m))
          → start t (Wrote m (Of v) (Unlink target) ∷ past) ≤ r
      which (inl (b, f)) = let l = old b in omega (arith, l, f)
      which (inr (f, fresh, g)) = clash (sym fresh ∙ subst (λ (w : ℕ). is_begun w past ≡ true) f begun_v)

    by : IsRunning past → IsRunning (Wrote m (Of v) (Unlink target) ∷ past)
    by (inl none) = inl none
    by (inr o) = inr (o.0, o.1, kept_at s past m (Of v) (Unlink target) o.0 o.1 h o.2, o.3, λ t begun. behind t o.0 begun (o.4 t))

submit_runs : (past : Past) (m v : ℕ) (k : Order) → is_unlink k ≡ false → (n : Need) → running (Wrote m (Of v) k ∷ past) ≡ Some n → IsRunning (Wrote m (Of v) k ∷ past)
submit_runs past m v k plain n e =
    let none : running (Wrote m (Of v) k ∷ past) ≡ None = rw (submits v k plain) refl in
    none_runs n (sym none ∙ e)

pub inv : Determines → GoesAlways → ((called : Need) → Begins (words_of called) []) → (s : Setting) (past : Past) → Lawful s past → Inv past
inv d g w s [] h = record {
  from = λ n t x e of. (let k : None ≡ Some x = e in cc);
  starts = λ n t u x e of submit less. (let k : None ≡ Some x = e in cc);
  initiates = λ n t m x y e of submit f init least. (let k : None ≡ Some x = e in cc);
  dead = λ m t y f init begun least. refl;
  opened = λ n x e of. (let k : None ≡ Some x = e in cc);
  runs = λ n e. none_runs n e;
}
inv d g w s (Wrote m Recovery k ∷ past) h = recovery_inv d s past m k h (inv d g w s past h.0)
inv d g w s (Wrote m (Of v) (Unlink target) ∷ past) h = let i = inv d g w s past h.0 in ticket_inv s past m v (Unlink target) h i (unlink_runs s past m v target h i)
inv d g w s (Wrote m (Of v) (Part tag text eom) ∷ past) h = ticket_inv s past m v (Part tag text eom) h (inv d g w s past h.0) (submit_runs past m v (Part tag text eom) refl)
inv d g w s (Wrote m (Of v) (Request tag size) ∷ past) h = ticket_inv s past m v (Request tag size) h (inv d g w s past h.0) (submit_runs past m v (Request tag size) refl)
inv d g w s (Wrote m (Of v) (Trigger tag) ∷ past) h = ticket_inv s past m v (Trigger tag) h (inv d g w s past h.0) (submit_runs past m v (Trigger tag) refl)
inv d g w s (Wrote m (Of v) Read ∷ past) h = ticket_inv s past m v Read h (inv d g w s past h.0) (submit_runs past m v Read refl)
inv d g w s (Wrote m (Of v) Listen ∷ past) h = ticket_inv s past m v Listen h (inv d g w s past h.0) (submit_runs past m v Listen refl)
inv d g w s (Wrote m (Of v) (Class request) ∷ past) h = ticket_inv s past m v (Class request) h (inv d g w s past h.0) (submit_runs past m v (Class request) refl)
inv d g w s (Wrote m (Of v) (ClearHalt endpoint) ∷ past) h = ticket_inv s past m v (ClearHalt endpoint) h (inv d g w s past h.0) (submit_runs past m v (ClearHalt endpoint) refl)
inv d g w s (Took (down.RetSubmit head bytes) ∷ past) h =
    let i = inv d g w s past h.0 in
    let q : Past = Took (down.RetSubmit head bytes) ∷ past in
    same_inv past q (λ n. refl) (λ t. refl) (λ t. refl) (λ t begun e. e)
    (λ n e. carried past q (λ n. refl) (λ t. refl) (λ t. refl)
    (λ none out. (none_answered s past head bytes (answers_submit s past head bytes h.0 h.1.1) none out, none_others head.seqnum (outstanding past) out)) (i.runs n e)) i
inv d g w s (Took (down.RetUnlink head) ∷ past) h =
    let i = inv d g w s past h.0 in
    let q : Past = Took (down.RetUnlink head) ∷ past in
    same_inv past q (λ n. refl) (λ t. refl) (λ t. refl) (λ t begun e. e)
    (λ n e. carried past q (λ n. refl) (λ t. refl) (λ t. refl) (λ none out. (none, none_unlink head.seqnum (outstanding past) out)) (i.runs n e)) i
inv d g w s (Fell m f ∷ past) h =
    let i = inv d g w s past h.0 in
    let q : Past = Fell m f ∷ past in
    same_inv past q (λ n. refl) (λ t. refl) (λ t. refl) (λ t begun e. e)
    (λ n e. carried past q (λ n. refl) (λ t. refl) (λ t. refl) (λ none out. (none, none_less m (outstanding past) out)) (i.runs n e)) i
inv d g w s (Recovers ∷ past) h =
    same_inv past (Recovers ∷ past) (λ n. refl) (λ t. refl) (λ t. refl) (λ t begun e. e)
    (λ n e. inl (refl, still_none past ((fronts g w s past h.0).out h.1.0.running) (λ o. out_ends past o h.1.1.free))) (inv d g w s past h.0)
inv d g w s (Settled u p ∷ past) h =
    let i = inv d g w s past h.0 in
    let q : Past = Settled u p ∷ past in
    same_inv past q (λ n. refl) (λ t. refl) (λ t. refl) (λ t begun e. removed_too t u (live past) e)
    (λ n e. carried past q (λ n. refl) (λ t. refl) (λ t. refl) (λ none out. (none, out)) (i.runs n e)) i
inv d g w s (Asked u a ∷ past) h =
    let i = inv d g w s past h.0 in
    let q : Past = Asked u a ∷ past in
    same_inv past q (λ n. refl) (λ t. refl) (λ t. refl)
    (λ t begun e. has_more t u (live past) (differ u t (λ k. (let low : t ≤ tickets past = begun_known s past h.0 t begun in omega (arith, k, low, h.1.1)))) ∙ e)
    (λ n e. carried past q (λ n. refl) (λ t. refl) (λ t. refl) (λ none out. (none, out)) (i.runs n e)) i
inv d g w s (Stopped f ∷ past) h =
    let i = inv d g w s past h.0 in
    let q : Past = Stopped f ∷ past in
    same_inv past q (λ n. refl) (λ t. refl) (λ t. refl) (λ t begun e. e)
    (λ n e. carried past q (λ n. refl) (λ t. refl) (λ t. refl) (λ none out. (none, out)) (i.runs n e)) i
inv d g w s (Cancelled u ∷ past) h =
    let i = inv d g w s past h.0 in
    let q : Past = Cancelled u ∷ past in
    same_inv past q (λ n. refl) (λ t. refl) (λ t. refl) (λ t begun e. e)
    (λ n e. carried past q (λ n. refl) (λ t. refl) (λ t. refl) (λ none out. (none, out)) (i.runs n e)) i
inv d g w s (Cleared u ∷ past) h =
    let i = inv d g w s past h.0 in
    let q : Past = Cleared u ∷ past in
    same_inv past q (λ n. refl) (λ t. refl) (λ t. refl) (λ t begun e. e)
    (λ n e. carried past q (λ n. refl) (λ t. refl) (λ t. refl) (λ none out. (none, out)) (i.runs n e)) i
inv d g w s (GaveUp ∷ past) h =
    let i = inv d g w s past h.0 in
    let q : Past = GaveUp ∷ past in
    same_inv past q (λ n. refl) (λ t. refl) (λ t. refl) (λ t begun e. e)
    (λ n e. carried past q (λ n. refl) (λ t. refl) (λ t. refl) (λ none out. (none, out)) (i.runs n e)) i

-- ---- so a ticket's submits go by number

pub numbered_own : (past : Past) → Inv past → (t n : ℕ) (x : Sent) → wrote_at n past ≡ Some x → is_unlink x.order ≡ false → x.owner ≡ Of t → IsNumberedFor past t n
numbered_own past i t n x e submit of = record {
  from = i.from n t x e of;
  starts = λ u less. i.starts n t u x e of submit less;
  initiates = λ m y f init least. i.initiates n t m x y e of submit f init least;
}

pub own_numbered : (s : Setting) (past : Past) → Lawful s past → Inv past → (t n : ℕ) (x : Sent) → wrote_at n past ≡ Some x → is_unlink x.order ≡ false → is_begun t past ≡ true
    → IsNumberedFor past t n → x.owner ≡ Of t
own_numbered s past h i t n x e submit begun num = by x.owner refl
  where
    by : (o : Owner) → x.owner ≡ o → x.owner ≡ Of t
    by Recovery of = absurd (let o = i.opened n x e of in let l = num.initiates o.0 o.1 o.2 o.3 (o.5 t begun num.from) in omega (arith, l, o.4))
    by (Of u) of = which (nat_lt u t) refl (nat_lt t u) refl where
      old : is_begun u past ≡ true
      old = wrote_begun past n u x e of

      which : (b : Bool) → nat_lt u t ≡ b → (c : Bool) → nat_lt t u ≡ c → x.owner ≡ Of t
      which true f c g = absurd (
          let r = starts_rise s past h u t (ltb-true u t f) old begun in
          let l = i.starts n u t x e of submit r in
          omega (arith, l, num.from)
          )
      which false f true g = absurd (
          let r = starts_rise s past h t u (ltb-true t u g) begun old in
          let l = num.starts u r in
          omega (arith, l, i.from n u x e of)
          )
      which false f false g =
          let a : t ≤ u = ltb-false u t f in
          let b : u ≤ t = ltb-false t u g in
          let same_ : u ≡ t = omega (arith, a, b) in
          of ∙ ap Of same_
