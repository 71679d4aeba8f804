-- the request of a status read
use Rattle.std.proofs.Common.{◌≡◌, ◌≢◌, ◌⊎◌, ℕ, Bool, true, false, List, [], ◌∷◌, ◌++◌, Option, Some, None, inl, inr, refl, sym, subst, ◌∙◌, ap}
use Rattle.std.specs.Prelude.{◌==◌, is_some, if◌then◌else◌}
use Rattle.std.proofs.lemmas.Bool.{eqb-true}
use Rattle.tmc_wire.specs.declared.class_request.ClassRequest.{ClassRequest}
use Rattle.tmc_wire.specs.declared.class_request.ClassRequest.TheVariants as class
use Rattle.tmc_wire.specs.declared.class_request.ClassRequest.TheVariants.{ReadStatus}
use Rattle.host_hub.specs.Order.{Class, Order, Setting, message_of}
use Rattle.host_hub.specs.Record.{Of, Past, Recovery, Wrote, written}
use Rattle.host_hub.specs.Book.{active, asking_of, has, live}
use Rattle.host_hub.specs.Hand.{ended, is_begun, start}
use Rattle.host_hub.specs.Outstanding.{Sent}
use Rattle.host_hub.specs.Status.{is_read_status, is_status, poll, polled_at, status_tag, tag_in}
use Rattle.host_hub.specs.Law.{Kept, Lawful}
use Rattle.host_hub.specs.Sentences.{IsAmong, wrote_at}
use Rattle.host_hub.proofs.Lists.{own}
use Rattle.host_hub.proofs.OwnNumbers.{Now, kept_at, now}
use Rattle.host_hub.proofs.OwnTickets.{order_is}
use Rattle.host_hub.proofs.Pasts.{begun_active}
use Rattle.host_hub.proofs.Sound.{waiting}
use Rattle.host_hub.proofs.Starts.{started_begun}

-- an order is a status request, or leaves the last one
abbrev Asks : Order → Type 0
Asks k = ((tag : ℕ) × (k ≡ Class (ReadStatus tag))) ⊎ ((is_read_status k ≡ false) × ((o : Option ℕ) → tag_in k o ≡ o))

class_asks : (r : ClassRequest) → Asks (Class r)
class_asks (class.ReadStatus tag) = inl (tag, refl)
class_asks r = inr (refl, λ o. refl)

asks : (k : Order) → Asks k
asks (Class r) = class_asks r
asks k = inr (refl, λ o. refl)

abbrev At : Past → ℕ → ℕ → ℕ → Type 0
At past n t tag = wrote_at n past ≡ Some (record { number = n; owner = Of t; order = Class (ReadStatus tag) })

poll_written : (s : Setting) (past : Past) → Lawful s past → (t tag : ℕ) → status_tag t past ≡ Some tag → At past (poll t past) t tag
poll_written s [] h t tag e = cc
poll_written s (Wrote m Recovery k ∷ past) h t tag e =
    kept_at s past m Recovery k (poll t past) (record { number = poll t past; owner = Of t; order = Class (ReadStatus tag) }) h (poll_written s past h.0 t tag e)
poll_written s (Wrote m (Of v) k ∷ past) h t tag e = step (v == t) refl (asks k) (poll_written s past h.0 t tag) e
  where
    stays : At past (poll t past) t tag → At (Wrote m (Of v) k ∷ past) (poll t past) t tag
    stays a = kept_at s past m (Of v) k (poll t past) (record { number = poll t past; owner = Of t; order = Class (ReadStatus tag) }) h a

    newest : (g : ℕ) → v ≡ t → k ≡ Class (ReadStatus g) → tag_in k (status_tag t past) ≡ Some tag → At (Wrote m (Of v) k ∷ past) (polled_at m k (poll t past)) t tag
    newest g i j f =
        let same : g ≡ tag = (let l : Some g ≡ Some tag = sym (ap (λ (w : Order). tag_in w (status_tag t past)) j) ∙ f in cc) in
        subst (λ (w : Order). At (Wrote m (Of v) w ∷ past) (polled_at m w (poll t past)) t tag) (sym j)
        (subst (λ (w : ℕ). At (Wrote m (Of v) (Class (ReadStatus g)) ∷ past) m w tag) i
        (subst (λ (w : ℕ). At (Wrote m (Of v) (Class (ReadStatus g)) ∷ past) m v w) same (rw (own m) refl)))

    older : (is_read_status k ≡ false) × ((o : Option ℕ) → tag_in k o ≡ o) → (status_tag t past ≡ Some tag → At past (poll t past) t tag) → tag_in k (status_tag t past) ≡ Some tag
        → At (Wrote m (Of v) k ∷ past) (polled_at m k (poll t past)) t tag
    older (plain, keeps) again f =
        subst (λ (w : ℕ). At (Wrote m (Of v) k ∷ past) w t tag) (sym (kept plain)) (stays (again (sym (keeps (status_tag t past)) ∙ f)))
      where
        kept : is_read_status k ≡ false → polled_at m k (poll t past) ≡ poll t past
        kept e = rw e refl

    step : (b : Bool) → (v == t) ≡ b → Asks k → (status_tag t past ≡ Some tag → At past (poll t past) t tag) → (if b then tag_in k (status_tag t past) else status_tag t past) ≡ Some tag
        → At (Wrote m (Of v) k ∷ past) (if b then polled_at m k (poll t past) else poll t past) t tag
    step false i a again f = stays (again f)
    step true i (inl (g, j)) again f = newest g (eqb-true v t i) j f
    step true i (inr a) again f = older a again f
poll_written s (x ∷ past) h t tag e = poll_written s past h.0 t tag e

there_is : {A : Type 0} (o : Option A) → is_some o ≡ true → (a : A) × (o ≡ Some a)
there_is None h = cc
there_is (Some a) h = (a, refl)

pub polled_written : (s : Setting) (past : Past) (t : ℕ) → Kept s past → ended past ≡ None → has t (live past) ≡ true → start t past ≢ 0 → is_status (asking_of t past) ≡ true
    → (tag : ℕ) × At past (poll t past) t tag
polled_written s past t kept runs lives started status =
    let begun : is_begun t past ≡ true = started_begun t past started in
    let turn : active past ≡ Some t = begun_active s past kept.lawful t lives begun in
    let r = there_is (status_tag t past) ((waiting s past kept).polled runs t turn begun status) in
    (r.0, poll_written s past kept.lawful t r.0 r.1)

-- what was written is among what was written
among_front : {A : Type 0} (x : A) (xs ys : List A) → IsAmong x xs → IsAmong x (xs ++ ys)
among_front x [] ys h = absurd h
among_front x (z ∷ zs) ys (inl e) = inl e
among_front x (z ∷ zs) ys (inr e) = inr (among_front x zs ys e)

among_end : {A : Type 0} (x y : A) (xs : List A) → x ≡ y → IsAmong x (xs ++ y ∷ [])
among_end x y [] e = inl e
among_end x y (z ∷ zs) e = inr (among_end x y zs e)

pub is_written : (s : Setting) (past : Past) (n : ℕ) (x : Sent) → wrote_at n past ≡ Some x → IsAmong (message_of s n x.order) (written s past)
is_written s [] n x e = cc
is_written s (Wrote m o k ∷ past) n x e = by (is_written s past n x) (now m o k n x past e)
  where
    by : (wrote_at n past ≡ Some x → IsAmong (message_of s n x.order) (written s past)) → Now m o k n x past → IsAmong (message_of s n x.order) (written s past ++ message_of s m k ∷ [])
    by again (inl (f, g)) =
        among_end (message_of s n x.order) (message_of s m k) (written s past)
        (ap (λ (w : ℕ). message_of s w x.order) (sym f) ∙ ap (λ (w : Order). message_of s m w) (order_is m o k x g))
    by again (inr f) = among_front (message_of s n x.order) (written s past) (message_of s m k ∷ []) (again f)
is_written s (x ∷ past) n y e = is_written s past n y e
