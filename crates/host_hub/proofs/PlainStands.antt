-- where a hub stands that nothing disturbs, by any record of it
use Rattle.std.proofs.Common.{◌≡◌, ◌⊎◌, ℕ, Bool, true, [], ◌∷◌, ◌++◌, Some, None, inl, inr, refl, sym, ◌∙◌, ap, arith}
use Rattle.std.specs.Prelude.{if◌then◌else◌}
use Rattle.usbip_wire.specs.Down as down
use Rattle.host_hub.specs.declared.outcome.Outcome.{Outcome}
use Rattle.host_hub.specs.Order.{Setting}
use Rattle.host_hub.specs.Record.{Asked, Asking, Cancelled, Cleared, Fell, GaveUp, Of, Past, Recovers, Recovery, Settled, Stopped, Took, Wrote}
use Rattle.host_hub.specs.Book.{asking_of, has, live, remove}
use Rattle.host_hub.specs.Calls.{All}
use Rattle.host_hub.specs.Causes.{cause}
use Rattle.host_hub.specs.Hand.{ended, in_hand, is_begun}
use Rattle.host_hub.specs.Joined.{IsPlain, IsServed, IsSimple}
use Rattle.host_hub.specs.Law.{Lawful}
use Rattle.host_hub.specs.Outstanding.{outstanding}
use Rattle.host_hub.proofs.Lists.{clash, differ, has_added, has_front, has_removed, same}
use Rattle.host_hub.proofs.Pasts.{begun_known, hand_begun, unasked_cause}
use Rattle.host_hub.proofs.Plain.{InHand, IsMade, NoneOut, OneOut, Out, Stands, made_free, stage_kept}
use Rattle.host_hub.proofs.PlainWrites.{stands_wrote, still_plain}
use Rattle.host_hub.proofs.PlainAnswers.{stands_took}

-- ---- the book

stands_asked : (s : Setting) (past : Past) (u : ℕ) (b : Asking) → All IsPlain (Asked u b ∷ past) → Lawful s (Asked u b ∷ past) → ended past ≡ None → Stands s past → Stands s (Asked u b ∷ past)
stands_asked s past u b p h running st = record { out = out st.out; hand = hand; made = made }
  where
    new : Past
    new = Asked u b ∷ past

    out : Out past → Out new
    out (NoneOut e) = NoneOut e
    out (OneOut t n k q e hand lives l) = OneOut t n k q e hand (has_front t u (live past) lives) l

    old : (t : ℕ) → is_begun t past ≡ true → u ≡ t → ⊥
    old t begun e = omega (arith, e, h.1.1, begun_known s past h.0 t begun)

    hand : (t : ℕ) → in_hand past ≡ Some t → has t (live past ++ u ∷ []) ≡ true → InHand s new t
    hand t e lives = by (has_added t u (live past) lives)
      where
        by : (has t (live past) ≡ true) ⊎ (u ≡ t) → InHand s new t
        by (inr f) = absurd (old t (hand_begun t past e) f)
        by (inl f) =
            let i = st.hand t e f in
            record {
              asking = i.asking;
              asked = ap (λ (c : Bool). if c then Some b else asking_of t past) (differ u t (old t (hand_begun t past e))) ∙ i.asked;
              plain = i.plain;
              stage = stage_kept s past (Asked u b) t i.asking refl refl refl refl refl i.stage;
            }

    made : (t : ℕ) → has t (live past ++ u ∷ []) ≡ true → (cause s t new ≡ None) ⊎ IsMade new t
    made t lives = inl (still_plain s past (Asked u b) t p (by (has_added t u (live past) lives)) refl refl)
      where
        by : (has t (live past) ≡ true) ⊎ (u ≡ t) → cause s t past ≡ None
        by (inl f) = h.1.0.quiet.settled t f
        by (inr f) = unasked_cause s past h.0 running t (omega (arith, f, h.1.1))

stands_settled : (s : Setting) (past : Past) (u : ℕ) (o : Outcome) → All IsPlain (Settled u o ∷ past) → Lawful s (Settled u o ∷ past) → Stands s past → Stands s (Settled u o ∷ past)
stands_settled s past u o p h st = record { out = NoneOut settled.0; hand = hand; made = made }
  where
    new : Past
    new = Settled u o ∷ past

    settled : (outstanding past ≡ []) × (in_hand past ≡ Some u)
    settled = by (st.made u h.1.0)
      where
        by : (cause s u past ≡ None) ⊎ IsMade past u → (outstanding past ≡ []) × (in_hand past ≡ Some u)
        by (inl c) = let k : None ≡ Some o = sym c ∙ h.1.1.caused in cc
        by (inr m) = made_free past u m

    hand : (t : ℕ) → in_hand past ≡ Some t → has t (remove u (live past)) ≡ true → InHand s new t
    hand t e lives = absurd ((has_removed t u (live past) lives).1 (same t u (sym e ∙ settled.1)))

    made : (t : ℕ) → has t (remove u (live past)) ≡ true → (cause s t new ≡ None) ⊎ IsMade new t
    made t lives = by (st.made t (has_removed t u (live past) lives).0)
      where
        by : (cause s t past ≡ None) ⊎ IsMade past t → (cause s t new ≡ None) ⊎ IsMade new t
        by (inl c) = inl (still_plain s past (Settled u o) t p c refl refl)
        by (inr m) = absurd ((has_removed t u (live past) lives).1 (same t u (sym (made_free past t m).1 ∙ settled.1)))

stands_given : (s : Setting) (past : Past) → All IsPlain (GaveUp ∷ past) → Lawful s (GaveUp ∷ past) → Stands s past → Stands s (GaveUp ∷ past)
stands_given s past p h st = record { out = out st.out; hand = hand; made = made }
  where
    out : Out past → Out (GaveUp ∷ past)
    out (NoneOut e) = NoneOut e
    out (OneOut t n k q e hand lives l) = OneOut t n k q e hand lives l

    hand : (t : ℕ) → in_hand past ≡ Some t → has t (live past) ≡ true → InHand s (GaveUp ∷ past) t
    hand t e lives = let i = st.hand t e lives in record { asking = i.asking; asked = i.asked; plain = i.plain; stage = stage_kept s past GaveUp t i.asking refl refl refl refl refl i.stage }

    made : (t : ℕ) → has t (live past) ≡ true → (cause s t (GaveUp ∷ past) ≡ None) ⊎ IsMade (GaveUp ∷ past) t
    made t lives = inl (still_plain s past GaveUp t p (h.1.0.quiet.settled t lives) refl refl)

-- ---- any record of a running hub

pub stands : (s : Setting) (past : Past) → IsSimple s → Lawful s past → All IsPlain past → All IsServed past → ended past ≡ None → Stands s past
stands s [] simple h p v running = record { out = NoneOut refl; hand = λ t e lives. cc; made = λ t lives. clash lives }
stands s (Wrote n (Of t) k ∷ past) simple h p v running = stands_wrote s past n t k simple p h (stands s past simple h.0 p.1 v.1 running)
stands s (Wrote n Recovery k ∷ past) simple h p v running = absurd p.0
stands s (Took (down.RetSubmit head bytes) ∷ past) simple h p v running = stands_took s past head bytes simple p.1 v.0 h (stands s past simple h.0 p.1 v.1 running)
stands s (Took (down.RetUnlink head) ∷ past) simple h p v running = absurd v.0
stands s (Fell m e ∷ past) simple h p v running = absurd v.0
stands s (Stopped e ∷ past) simple h p v running = cc
stands s (Recovers ∷ past) simple h p v running = absurd p.0
stands s (Asked u a ∷ past) simple h p v running = stands_asked s past u a p h running (stands s past simple h.0 p.1 v.1 running)
stands s (Cancelled u ∷ past) simple h p v running = absurd p.0
stands s (Cleared w ∷ past) simple h p v running = absurd p.0
stands s (GaveUp ∷ past) simple h p v running = stands_given s past p h (stands s past simple h.0 p.1 v.1 running)
stands s (Settled u o ∷ past) simple h p v running = stands_settled s past u o p h (stands s past simple h.0 p.1 v.1 running)
