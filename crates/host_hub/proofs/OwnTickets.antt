-- a ticket writes a message: it owns the numbers from its start
use Rattle.std.proofs.Common.{◌≡◌, ◌⊎◌, ℕ, ◌<◌, ◌≤◌, ◌||◌, Bool, true, false, ◌∷◌, Some, inl, inr, refl, sym, subst, ◌∙◌, ap, arith}
use Rattle.std.specs.Prelude.{◌==◌, nat_lt}
use Rattle.std.proofs.lemmas.Bool.{eqb-true, ltb-true, ltb-false}
use Rattle.host_recover.specs.declared.need.Need.{Need}
use Rattle.host_hub.specs.Order.{Order, Setting, is_unlink}
use Rattle.host_hub.specs.Record.{Of, Owner, Past, Recovery, Wrote, next}
use Rattle.host_hub.specs.Book.{has, live}
use Rattle.host_hub.specs.Hand.{is_begun, start}
use Rattle.host_hub.specs.Outstanding.{Sent, less}
use Rattle.host_hub.specs.Recovery.{running}
use Rattle.host_hub.specs.Law.{Lawful}
use Rattle.host_hub.specs.Sentences.{is_initiate, wrote_at}
use Rattle.host_hub.proofs.Lists.{clash, or_false, or_left, own}
use Rattle.host_hub.proofs.Numbers.{may_next}
use Rattle.host_hub.proofs.Starts.{begun_low, start_below, starts_rise, unbegun_start}
use Rattle.host_hub.proofs.OwnNumbers.{Inv, IsOpened, IsRunning, Now, begun_start, kept_at, law_active, law_plain, new_start, now, wrote_begun, wrote_low}

-- ---- a message of a ticket

-- a ticket that had begun has its start; one that begins now has this number
pub old_or_new : (past : Past) (m v t : ℕ) (k : Order) → is_begun t (Wrote m (Of v) k ∷ past) ≡ true
    → ((is_begun t past ≡ true) × (start t (Wrote m (Of v) k ∷ past) ≡ start t past)) ⊎ ((v ≡ t) × (is_begun t past ≡ false) × (start t (Wrote m (Of v) k ∷ past) ≡ m))
old_or_new past m v t k begun = by (is_begun t past) refl
  where
    by : (b : Bool) → is_begun t past ≡ b
        → ((is_begun t past ≡ true) × (start t (Wrote m (Of v) k ∷ past) ≡ start t past)) ⊎ ((v ≡ t) × (is_begun t past ≡ false) × (start t (Wrote m (Of v) k ∷ past) ≡ m))
    by true e = inl (e, begun_start past m v t k e)
    by false e =
        let f : v ≡ t = eqb-true v t (sym (ap (λ (b : Bool). (v == t) || b) e ∙ or_false (v == t)) ∙ begun) in
        inr (f, e, subst (λ (w : ℕ). start w (Wrote m (Of v) k ∷ past) ≡ m) f (new_start past m v k (subst (λ (w : ℕ). is_begun w past ≡ false) (sym f) e)))

owner_is : (m v n t : ℕ) (k : Order) (x : Sent) → x ≡ record { number = m; owner = Of v; order = k } → x.owner ≡ Of t → v ≡ t
owner_is m v n t k x g of = by (sym (ap (λ (z : Sent). z.owner) g) ∙ of)
  where
    by : Of v ≡ Of t → v ≡ t
    by e = cc

pub order_is : (m : ℕ) (o : Owner) (k : Order) (x : Sent) → x ≡ record { number = m; owner = o; order = k } → x.order ≡ k
order_is m o k x g = ap (λ (z : Sent). z.order) g

-- its start is at most its number
new_from : (s : Setting) (past : Past) (m v : ℕ) (k : Order) → Lawful s (Wrote m (Of v) k ∷ past) → start v (Wrote m (Of v) k ∷ past) ≤ m
new_from s past m v k h = by (old_or_new past m v v k (or_left _ _ (own v)))
  where
    by : ((is_begun v past ≡ true) × (start v (Wrote m (Of v) k ∷ past) ≡ start v past)) ⊎ ((v ≡ v) × (is_begun v past ≡ false) × (start v (Wrote m (Of v) k ∷ past) ≡ m))
        → start v (Wrote m (Of v) k ∷ past) ≤ m
    by (inl (old, e)) = let l = start_below s past h.0 v old in omega (arith, e, l.1, may_next s past m k h.1.1)
    by (inr (f, fresh, e)) = omega (arith, e)

-- no ticket that began later was there
no_later : (s : Setting) (past : Past) (m v u : ℕ) (k : Order) → Lawful s (Wrote m (Of v) k ∷ past) → is_unlink k ≡ false
    → start v (Wrote m (Of v) k ∷ past) < start u (Wrote m (Of v) k ∷ past) → m < start u (Wrote m (Of v) k ∷ past)
no_later s past m v u k h plain less = by (is_begun u (Wrote m (Of v) k ∷ past)) refl
  where
    is : m ≡ next s.first past
    is = may_next s past m k h.1.1

    lives : has v (live past) ≡ true
    lives = law_active s past v k h.1.2 plain

    late : is_begun v past ≡ true → is_begun u past ≡ true → start v past < start u past → ⊥
    late old begun l = which (nat_lt u v) refl where
      which : (b : Bool) → nat_lt u v ≡ b → ⊥
      which true e = let r : start u past < start v past = starts_rise s past h.0 u v (ltb-true u v e) begun old in omega (arith, r, l)
      which false e =
          let low : u ≤ v = begun_low s past h.0 u v begun lives in
          let high : v ≤ u = ltb-false u v e in
          let same_ : u ≡ v = omega (arith, low, high) in
          omega (arith, ap (λ (w : ℕ). start w past) same_, l)

    begun_by : ((is_begun u past ≡ true) × (start u (Wrote m (Of v) k ∷ past) ≡ start u past)) ⊎ ((v ≡ u) × (is_begun u past ≡ false) × (start u (Wrote m (Of v) k ∷ past) ≡ m))
        → ((is_begun v past ≡ true) × (start v (Wrote m (Of v) k ∷ past) ≡ start v past)) ⊎ ((v ≡ v) × (is_begun v past ≡ false) × (start v (Wrote m (Of v) k ∷ past) ≡ m))
        → m < start u (Wrote m (Of v) k ∷ past)
    begun_by (inl (begun, e)) (inl (old, f)) = absurd (late old begun (omega (arith, e, f, less)))
    begun_by (inl (begun, e)) (inr (g, fresh, f)) = absurd (let l = start_below s past h.0 u begun in omega (arith, e, f, less, l.1, is))
    begun_by (inr (i, fresh, e)) mine = absurd (omega (arith, less, ap (λ (w : ℕ). start w (Wrote m (Of v) k ∷ past)) i))

    by : (b : Bool) → is_begun u (Wrote m (Of v) k ∷ past) ≡ b → m < start u (Wrote m (Of v) k ∷ past)
    by true e = begun_by (old_or_new past m v u k e) (old_or_new past m v v k (or_left _ _ (own v)))
    by false e = absurd (omega (arith, less, unbegun_start u (Wrote m (Of v) k ∷ past) e))

pub ticket_inv : (s : Setting) (past : Past) (m v : ℕ) (k : Order) → Lawful s (Wrote m (Of v) k ∷ past) → Inv past
    → ((n : Need) → running (Wrote m (Of v) k ∷ past) ≡ Some n → IsRunning (Wrote m (Of v) k ∷ past)) → Inv (Wrote m (Of v) k ∷ past)
ticket_inv s past m v k h i runs = record { from = from; starts = starts; initiates = initiates; dead = dead; opened = opened; runs = runs }
  where
    is : m ≡ next s.first past
    is = may_next s past m k h.1.1

    plain : is_initiate k ≡ false
    plain = law_plain s past v k h.1.2

    low : (n : ℕ) (x : Sent) → wrote_at n past ≡ Some x → n < m
    low n x e = let l = wrote_low s past h.0 n x e in omega (arith, l, is)

    same_start : (n t : ℕ) (x : Sent) → wrote_at n past ≡ Some x → x.owner ≡ Of t → start t (Wrote m (Of v) k ∷ past) ≡ start t past
    same_start n t x e of = begun_start past m v t k (wrote_begun past n t x e of)

    from : (n t : ℕ) (x : Sent) → wrote_at n (Wrote m (Of v) k ∷ past) ≡ Some x → x.owner ≡ Of t → start t (Wrote m (Of v) k ∷ past) ≤ n
    from n t x e of = by (now m (Of v) k n x past e) where
      by : Now m (Of v) k n x past → start t (Wrote m (Of v) k ∷ past) ≤ n
      by (inl (f, g)) = let j : v ≡ t = owner_is m v n t k x g of in let l = new_from s past m v k h in omega (arith, l, f, ap (λ (w : ℕ). start w (Wrote m (Of v) k ∷ past)) j)
      by (inr f) = let l = i.from n t x f of in omega (arith, l, same_start n t x f of)

    starts : (n t u : ℕ) (x : Sent) → wrote_at n (Wrote m (Of v) k ∷ past) ≡ Some x → x.owner ≡ Of t → is_unlink x.order ≡ false
        → start t (Wrote m (Of v) k ∷ past) < start u (Wrote m (Of v) k ∷ past) → n < start u (Wrote m (Of v) k ∷ past)
    starts n t u x e of submit less = by (now m (Of v) k n x past e) where
      older : wrote_at n past ≡ Some x → n < start u (Wrote m (Of v) k ∷ past)
      older f = which (is_begun u (Wrote m (Of v) k ∷ past)) refl where
        begun_by : ((is_begun u past ≡ true) × (start u (Wrote m (Of v) k ∷ past) ≡ start u past)) ⊎ ((v ≡ u) × (is_begun u past ≡ false) × (start u (Wrote m (Of v) k ∷ past) ≡ m))
            → n < start u (Wrote m (Of v) k ∷ past)
        begun_by (inl (b, g)) = let l = i.starts n t u x f of submit (omega (arith, less, g, same_start n t x f of)) in omega (arith, l, g)
        begun_by (inr (b, fresh, g)) = omega (arith, g, low n x f)

        which : (b : Bool) → is_begun u (Wrote m (Of v) k ∷ past) ≡ b → n < start u (Wrote m (Of v) k ∷ past)
        which true b = begun_by (old_or_new past m v u k b)
        which false b = absurd (omega (arith, less, unbegun_start u (Wrote m (Of v) k ∷ past) b))

      by : Now m (Of v) k n x past → n < start u (Wrote m (Of v) k ∷ past)
      by (inl (f, g)) =
          let j : v ≡ t = owner_is m v n t k x g of in
          let l = no_later s past m v u k h (sym (ap is_unlink (order_is m (Of v) k x g)) ∙ submit) (omega (arith, less, ap (λ (w : ℕ). start w (Wrote m (Of v) k ∷ past)) j)) in
          omega (arith, l, f)
      by (inr f) = older f

    not_now : {P : Type 0} (y : Sent) → is_initiate y.order ≡ true → y ≡ record { number = m; owner = Of v; order = k } → P
    not_now y init g = clash (sym plain ∙ (sym (ap is_initiate (order_is m (Of v) k y g)) ∙ init))

    initiates : (n t r : ℕ) (x y : Sent) → wrote_at n (Wrote m (Of v) k ∷ past) ≡ Some x → x.owner ≡ Of t → is_unlink x.order ≡ false
        → wrote_at r (Wrote m (Of v) k ∷ past) ≡ Some y → is_initiate y.order ≡ true → start t (Wrote m (Of v) k ∷ past) ≤ r → n < r
    initiates n t r x y e of submit f init least = by (now m (Of v) k n x past e) (now m (Of v) k r y past f) where
      lives : x ≡ record { number = m; owner = Of v; order = k } → has v (live past) ≡ true
      lives g = law_active s past v k h.1.2 (sym (ap is_unlink (order_is m (Of v) k x g)) ∙ submit)

      newer : (m ≡ n) × (x ≡ record { number = m; owner = Of v; order = k }) → wrote_at r past ≡ Some y → n < r
      newer (j, g) p = which (old_or_new past m v v k (or_left _ _ (own v))) where
        mine : v ≡ t
        mine = owner_is m v n t k x g of

        which : ((is_begun v past ≡ true) × (start v (Wrote m (Of v) k ∷ past) ≡ start v past)) ⊎ ((v ≡ v) × (is_begun v past ≡ false) × (start v (Wrote m (Of v) k ∷ past) ≡ m)) → n < r
        which (inl (old, b)) =
            let gone : has v (live past) ≡ false = i.dead r v y p init old (omega (arith, least, b, ap (λ (w : ℕ). start w (Wrote m (Of v) k ∷ past)) mine)) in
            clash (sym gone ∙ lives g)
        which (inr (c, fresh, b)) = absurd (omega (arith, least, b, ap (λ (w : ℕ). start w (Wrote m (Of v) k ∷ past)) mine, low r y p))

      by : Now m (Of v) k n x past → Now m (Of v) k r y past → n < r
      by a (inl (j, g)) = not_now y init g
      by (inl a) (inr p) = newer a p
      by (inr a) (inr p) = i.initiates n t r x y a of submit p init (omega (arith, least, same_start n t x a of))

    dead : (r t : ℕ) (y : Sent) → wrote_at r (Wrote m (Of v) k ∷ past) ≡ Some y → is_initiate y.order ≡ true → is_begun t (Wrote m (Of v) k ∷ past) ≡ true
        → start t (Wrote m (Of v) k ∷ past) ≤ r → has t (live past) ≡ false
    dead r t y f init begun least = by (now m (Of v) k r y past f) where
      older : wrote_at r past ≡ Some y → has t (live past) ≡ false
      older p = which (old_or_new past m v t k begun) where
        which : ((is_begun t past ≡ true) × (start t (Wrote m (Of v) k ∷ past) ≡ start t past)) ⊎ ((v ≡ t) × (is_begun t past ≡ false) × (start t (Wrote m (Of v) k ∷ past) ≡ m)) → has t (live past) ≡ false
        which (inl (old, b)) = i.dead r t y p init old (omega (arith, least, b))
        which (inr (c, fresh, b)) = absurd (omega (arith, least, b, low r y p))

      by : Now m (Of v) k r y past → has t (live past) ≡ false
      by (inl (j, g)) = not_now y init g
      by (inr p) = older p

    opened : (n : ℕ) (x : Sent) → wrote_at n (Wrote m (Of v) k ∷ past) ≡ Some x → x.owner ≡ Recovery → IsOpened (Wrote m (Of v) k ∷ past) n
    opened n x e of = by (now m (Of v) k n x past e) where
      by : Now m (Of v) k n x past → IsOpened (Wrote m (Of v) k ∷ past) n
      by (inl (f, g)) = let j : Of v ≡ Recovery = sym (ap (λ (z : Sent). z.owner) g) ∙ of in cc
      by (inr f) = let o = i.opened n x f of in (o.0, o.1, kept_at s past m (Of v) k o.0 o.1 h o.2, o.3, o.4, behind o f) where
        behind : IsOpened past n → wrote_at n past ≡ Some x → (t : ℕ) → is_begun t (Wrote m (Of v) k ∷ past) ≡ true → start t (Wrote m (Of v) k ∷ past) ≤ n → start t (Wrote m (Of v) k ∷ past) ≤ (i.opened n x f of).0
        behind o g t begun least = which (old_or_new past m v t k begun) where
          which : ((is_begun t past ≡ true) × (start t (Wrote m (Of v) k ∷ past) ≡ start t past)) ⊎ ((v ≡ t) × (is_begun t past ≡ false) × (start t (Wrote m (Of v) k ∷ past) ≡ m))
              → start t (Wrote m (Of v) k ∷ past) ≤ (i.opened n x f of).0
          which (inl (old, b)) = let l = (i.opened n x f of).5 t old (omega (arith, least, b)) in omega (arith, l, b)
          which (inr (c, fresh, b)) = absurd (omega (arith, least, b, low n x f))
