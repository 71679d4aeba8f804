-- where no field is bad some message goes on, and a bad field is the first that is refused
use Rattle.std.proofs.Common.{◌≡◌, ℕ, zero, suc, ◌+◌, ◌<◌, ◌≤◌, List, [], ◌∷◌, ◌++◌, length, sym, ap, subst, ◌∙◌, arith, inl, inr, ◌⊎◌}
use Rattle.std.specs.Prelude.{Contains, get_or}
use Rattle.std.proofs.lemmas.List.{length-append}
use Rattle.tmc_base.specs.declared.field.Field.{Field}
use Rattle.usbip_wire.specs.Form.{Form, Spelled, BadAt}
use Rattle.usbip_wire.specs.Given.{IsBytes}
use Rattle.usbip_wire.specs.JudgedFields.{field_size}
use Rattle.usbip_wire.specs.Laws.{GoesOn}
use Rattle.usbip_wire.specs.Stream.{NoneWhole}
use Rattle.usbip_wire.proofs.Determined.{Placed}
use Rattle.usbip_wire.proofs.Going.{Completable, frontier, Ending, Whole, Used, Begun, Bad}

-- ---- fields of a list

abbrev pub Among : List Field → Field → Type 0
Among [] f = ⊥
Among (g ∷ gs) f = (g ≡ f) ⊎ Among gs f

in_at : (fs : List Field) (k : ℕ) (f : Field) → k < length fs → get_or fs k f ≡ f → Among fs f
in_at [] k f lt e = absurd (omega (arith, lt))
in_at (g ∷ gs) zero f lt e = inl e
in_at (g ∷ gs) (suc k) f lt e = inr (in_at gs k f (omega (arith, lt)) e)

pub in_list : (fs : List Field) (f : Field) → Contains fs f → Among fs f
in_list fs f (k, lt, e) = in_at fs k f lt e

pub listed : (fs : List Field) (f : Field) → Among fs f → Contains fs f
listed [] f h = absurd h
listed (g ∷ gs) f (inl e) = (0, omega arith, e)
listed (g ∷ gs) f (inr h) = let r = listed gs f h in (suc r.0, omega (arith, r.1), r.2)

-- each field of the list ends before the next begins
abbrev pub Chain : ℕ → List Field → ℕ → Type 0
Chain at [] end = at ≤ end
Chain at (f ∷ fs) end = (at ≤ f.offset) × Chain (f.offset + field_size f) fs end

chain_least : (at : ℕ) (fs : List Field) (end : ℕ) → Chain at fs end → at ≤ end
chain_least at [] end c = c
chain_least at (f ∷ fs) end c = let r = chain_least (f.offset + field_size f) fs end c.1 in omega (arith, r, c.0)

pub chain_within : (at : ℕ) (fs : List Field) (end : ℕ) (f : Field) → Chain at fs end → Among fs f → (at ≤ f.offset) × (f.offset + field_size f ≤ end)
chain_within at [] end f c h = absurd h
chain_within at (g ∷ gs) end f c (inl e) =
    subst (λ (z : Field). (at ≤ z.offset) × (z.offset + field_size z ≤ end)) e (c.0, chain_least (g.offset + field_size g) gs end c.1)
chain_within at (g ∷ gs) end f c (inr h) = let r = chain_within (g.offset + field_size g) gs end f c.1 h in (omega (arith, r.0, c.0), r.1)

abbrev pub Before : Field → Field → Type 0
Before f g = f.offset + field_size f ≤ g.offset

-- two of them are one, or do not overlap
pub apart : (at : ℕ) (fs : List Field) (end : ℕ) (f g : Field) → Chain at fs end → Among fs f → Among fs g → (f ≡ g) ⊎ (Before f g ⊎ Before g f)
apart at [] end f g c h i = absurd h
apart at (x ∷ xs) end f g c (inl e) (inl d) = inl (sym e ∙ d)
apart at (x ∷ xs) end f g c (inl e) (inr i) = inr (inl (subst (λ (z : Field). Before z g) e (chain_within (x.offset + field_size x) xs end g c.1 i).0))
apart at (x ∷ xs) end f g c (inr h) (inl d) = inr (inr (subst (λ (z : Field). Before z f) d (chain_within (x.offset + field_size x) xs end f c.1 h).0))
apart at (x ∷ xs) end f g c (inr h) (inr i) = apart (x.offset + field_size x) xs end f g c.1 h i

-- ---- going on

by_ending : {M N : Type 0} (fields : List Field) (form : Form N) (S : M → List ℕ → Type 0) (have : ℕ)
    → ((n : N) (bytes : List ℕ) → Spelled form n bytes → (m : M) × S m bytes)
    → ((f : Field) → Contains fields f → have < f.offset + field_size f → have ≤ f.offset)
    → (rest front part : List ℕ) → have ≤ length rest → NoneWhole S rest → ((f : Field) → BadAt form rest f → ⊥)
    → rest ≡ front ++ part → (have ≤ length front → (n : N) × (more : List ℕ) × Spelled form n (front ++ more))
    → Ending fields form 0 rest front part → GoesOn S fields rest
by_ending {M} {N} fields form S have back edge rest front part enough none good parts goes (Whole n spelled) =
    let r = back n front spelled in absurd (none r.0 front part r.1 parts)
by_ending {M} {N} fields form S have back edge rest front part enough none good parts goes (Used n short over) =
    let same : length part ≡ 0 = ap (λ (l : List ℕ). length l) over in
    let len : length rest ≡ length (front ++ part) = ap (λ (l : List ℕ). length l) parts in
    let g = goes (omega (arith, len, same, enough, length-append front part)) in
    let r = back g.0 (front ++ g.1) g.2 in
    record { front = front; part = part; holds = parts; can = (r.0, g.1, r.1); within = inl over }
by_ending {M} {N} fields form S have back edge rest front part enough none good parts goes (Begun n f short known place within) =
    let len : length rest ≡ length (front ++ part) = ap (λ (l : List ℕ). length l) parts in
    let le : have ≤ f.offset = edge f known (omega (arith, len, enough, place, within, length-append front part)) in
    let g = goes (omega (arith, le, place)) in
    let r = back g.0 (front ++ g.1) g.2 in
    record { front = front; part = part; holds = parts; can = (r.0, g.1, r.1); within = inr (f, known, omega (arith, place), within) }
by_ending {M} {N} fields form S have back edge rest front part enough none good parts goes (Bad f bad known place) = absurd (good f bad)

-- bytes that hold no whole message and no bad field go on to a message
pub goes_on : {M N : Type 0} (fields : List Field) (form : Form N) (S : M → List ℕ → Type 0) (have : ℕ)
    → ((n : N) (bytes : List ℕ) → Spelled form n bytes → (m : M) × S m bytes) → Completable form have → Placed fields form 0
    → ((f : Field) → Contains fields f → have < f.offset + field_size f → have ≤ f.offset)
    → (rest : List ℕ) → have ≤ length rest → IsBytes rest → NoneWhole S rest → ((f : Field) → BadAt form rest f → ⊥) → GoesOn S fields rest
goes_on {M} {N} fields form S have back c p edge rest enough fits none good =
    let q = frontier fields form have 0 rest fits c p in
    by_ending fields form S have back edge rest q.front q.part enough none good q.holds q.goes q.ends

pub first_dropped : (g : Field) (fields : List Field) (f : Field) → Among (g ∷ fields) f → (g ≡ f → ⊥) → Contains fields f
first_dropped g fields f (inl e) other = absurd (other e)
first_dropped g fields f (inr h) other = listed fields f h

-- the first field is whole where there are as many bytes
pub goes_behind : {M : Type 0} (S : M → List ℕ → Type 0) (g : Field) (fields : List Field) (rest : List ℕ) → g.offset + field_size g ≤ length rest
    → GoesOn S (g ∷ fields) rest → GoesOn S fields rest
goes_behind {M} S g fields rest enough q =
    record {
      front = q.front;
      part = q.part;
      holds = q.holds;
      can = q.can;
      within = elim q.within [
        | inl none ↦ inl none
        | inr h ↦
            let len : length rest ≡ length (q.front ++ q.part) = ap (λ (l : List ℕ). length l) q.holds in
            let other : g ≡ h.0 → ⊥ = λ e.
            let least : h.0.offset + field_size h.0 ≤ length rest = subst (λ (z : Field). z.offset + field_size z ≤ length rest) e enough in
            absurd (omega (arith, least, len, h.2, h.3, length-append q.front q.part)) in
            inr (h.0, first_dropped g fields h.0 (in_list (g ∷ fields) h.0 h.1) other, h.2, h.3)
      ];
    }
