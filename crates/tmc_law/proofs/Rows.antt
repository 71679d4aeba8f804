-- messages in a row: rows join, come apart, and the bytes say which messages are a front
use Rattle.std.proofs.Common.{◌≡◌, ℕ, List, [], ◌∷◌, ◌++◌, refl, sym, ap, subst, ◌∙◌, append_assoc}
use Rattle.usbip_wire.specs.Stream.{InRow, NoneWhole}
use Rattle.usbip_wire.specs.Laws.{ArePrefixFree}
use Rattle.tmc_law.specs.Run.{IsFront}

pub together : {M : Type 0} (S : M → List ℕ → Type 0) (ms ns : List M) (a b : List ℕ) → InRow S ms a [] → InRow S ns b []
    → InRow S (ms ++ ns) (a ++ b) []
together {M} S [] ns a b p q = subst (λ (l : List ℕ). InRow S ns (l ++ b) []) (sym p) q
together {M} S (m ∷ ms) ns a b (front, after, e, s, p) q =
    (front, after ++ b, ap (λ (l : List ℕ). l ++ b) e ∙ append_assoc front after b, s, together S ms ns after b p q)

pub apart : {M : Type 0} (S : M → List ℕ → Type 0) (ms ns : List M) (bytes rest : List ℕ) → InRow S (ms ++ ns) bytes rest
    → (a : List ℕ) × (b : List ℕ) × (bytes ≡ a ++ b) × InRow S ms a [] × InRow S ns b rest
apart {M} S [] ns bytes rest p = ([], bytes, refl, refl, p)
apart {M} S (m ∷ ms) ns bytes rest (front, after, e, s, p) =
    let r = apart S ms ns after rest p in
    (front ++ r.0, r.1, e ∙ (ap (λ (l : List ℕ). front ++ l) r.2 ∙ sym (append_assoc front r.0 r.1)), (front, r.0, refl, s, r.3), r.4)

-- messages that stand in front of the bytes are the first of those that are read from them
pub front : {M : Type 0} (S : M → List ℕ → Type 0) → ArePrefixFree S → (ms ns : List M) (bytes more rest : List ℕ)
    → InRow S ms bytes [] → InRow S ns (bytes ++ more) rest → NoneWhole S rest → IsFront ms ns
front {M} S free [] ns bytes more rest p q none = (ns, refl)
front {M} S free (m ∷ ms) [] bytes more rest (head, after, e, s, p) q none =
    absurd (none m head (after ++ more) s (sym q ∙ (ap (λ (l : List ℕ). l ++ more) e ∙ append_assoc head after more)))
front {M} S free (m ∷ ms) (n ∷ ns) bytes more rest (head, after, e, s, p) (other, behind, d, t, q) none =
    let same = free m n head other (after ++ more) behind s t (sym (append_assoc head after more) ∙ (ap (λ (l : List ℕ). l ++ more) (sym e) ∙ d)) in
    let next = front S free ms ns after more rest p (subst (λ (l : List ℕ). InRow S ns l rest) (sym same.2) q) none in
    (next.0, ap (λ (x : M). x ∷ ns) (sym same.0) ∙ ap (λ (l : List M). m ∷ l) next.1)
