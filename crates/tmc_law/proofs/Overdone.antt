-- a device that is sent messages alone closes at a submit that it cannot take, and at nothing else
use Rattle.std.proofs.Common.{◌≡◌, ◌∙◌, ◌≢◌, ◌⊎◌, inl, inr, ℕ, List, [], ◌∷◌, ◌++◌, length, refl, sym, ap, subst, append_assoc}
use Rattle.tmc_base.specs.declared.field.Field.{Field}
use Rattle.tmc_base.specs.declared.field.Layer.{Layer}
use Rattle.tmc_base.specs.declared.field.Layer.TheVariants.{Op}
use Rattle.usbip_wire.specs.declared.up.UpPhase.TheVariants.{Urbs}
use Rattle.usbip_wire.specs.JudgedFields.{bytes_in}
use Rattle.usbip_wire.specs.Urb.{fields}
use Rattle.usbip_wire.specs.Submit.{submit_bytes}
use Rattle.usbip_wire.specs.Unlink.{unlink_bytes}
use Rattle.usbip_wire.specs.Up as up
use Rattle.usbip_wire.specs.UpFed.{BadAt}
use Rattle.usbip_wire.specs.Stream.{InRow}
use Rattle.usbip_wire.specs.Laws.{ArePrefixFree, RefusedAt, AreAlone}
use Rattle.tmc_law.specs.State.{State, Plugged, Closed}
use Rattle.tmc_law.specs.Step.{IsRefused, ByField, ByPending}
use Rattle.tmc_law.specs.Run.{Entry, Runs, Fits, inputs, SpellAll}
use Rattle.tmc_law.specs.Laws.{EndsRefused, EndsOver}
use Rattle.tmc_law.proofs.Refused.{plugged_open, ends}

-- ---- bytes

none_front : (a b : List ℕ) → a ++ b ≡ [] → a ≡ []
none_front [] b e = refl
none_front (byte ∷ a) b e = absurd (cc)

none_behind : (a b : List ℕ) → a ++ b ≡ [] → b ≡ []
none_behind [] b e = e
none_behind (byte ∷ a) b e = absurd (cc)

-- of two fronts of the same bytes one begins with the other
abbrev Fronts : (a b : List ℕ) → Type 0
Fronts a b = ((more : List ℕ) × (b ≡ a ++ more)) ⊎ ((more : List ℕ) × (a ≡ b ++ more))

longer : (byte other : ℕ) (a b : List ℕ) → byte ≡ other → Fronts a b → Fronts (byte ∷ a) (other ∷ b)
longer byte other a b same (inl (more, is)) = inl (more, ap (λ (n : ℕ). n ∷ b) (sym same) ∙ ap (λ (l : List ℕ). byte ∷ l) is)
longer byte other a b same (inr (more, is)) = inr (more, ap (λ (n : ℕ). n ∷ a) same ∙ ap (λ (l : List ℕ). other ∷ l) is)

fronts : (a b x y : List ℕ) → a ++ x ≡ b ++ y → Fronts a b
fronts [] b x y e = inl (b, refl)
fronts (byte ∷ a) [] x y e = inr (byte ∷ a, refl)
fronts (byte ∷ a) (other ∷ b) x y e =
    let same : byte ≡ other = cc in
    let rest : a ++ x ≡ b ++ y = cc in
    longer byte other a b same (fronts a b x y rest)

-- ---- messages

not_empty : (devid : ℕ) (message : up.Message) → up.Spells devid message [] → ⊥
unfolding submit_bytes unlink_bytes fields
not_empty devid (up.Submit head transferred) spelled = let e = spelled.layout in cc
not_empty devid (up.Unlink head) spelled = let e = spelled.layout in cc

-- what stands behind some messages of a row
rest_of : (devid : ℕ) → ArePrefixFree (up.Spells devid) → (ms ns : List up.Message) (bytes more : List ℕ) → InRow (up.Spells devid) ms bytes []
    → InRow (up.Spells devid) ns (bytes ++ more) [] → (left : List up.Message) × (ns ≡ ms ++ left) × InRow (up.Spells devid) left more []
rest_of devid free [] ns bytes more p q = (ns, refl, subst (λ (l : List ℕ). InRow (up.Spells devid) ns (l ++ more) []) p q)
rest_of devid free (m ∷ ms) [] bytes more (head, after, e, s, p) q =
    absurd (not_empty devid m (subst (λ (l : List ℕ). up.Spells devid m l) (none_front head after (sym e ∙ none_front bytes more q)) s))
rest_of devid free (m ∷ ms) (n ∷ ns) bytes more (head, after, e, s, p) (other, behind, d, t, q) =
    let same = free m n head other (after ++ more) behind s t (sym (append_assoc head after more) ∙ (ap (λ (l : List ℕ). l ++ more) (sym e) ∙ d)) in
    let next = rest_of devid free ms ns after more p (subst (λ (l : List ℕ). InRow (up.Spells devid) ns l []) (sym same.2) q) in
    (next.0, ap (λ (x : up.Message). x ∷ ns) (sym same.0) ∙ ap (λ (l : List up.Message). m ∷ l) next.1, next.2)

-- ---- refused bytes

some_bytes : (layer : Layer) → bytes_in layer ≢ 0
some_bytes Op e = cc
some_bytes _ e = cc

-- bytes that a bad field is in begin no row of messages
no_row : (devid : ℕ) (refused more : List ℕ) (f : Field) (messages : List up.Message) → RefusedAt (up.Spells devid) refused f
    → ((m : up.Message) (front tail : List ℕ) → up.Spells devid m front → refused ≢ front ++ tail) → SpellAll (up.Spells devid) messages (refused ++ more) → ⊥
no_row devid refused more f [] at none row =
    let value_none : at.value ≡ [] = none_front at.value at.tail (none_behind at.front (at.value ++ at.tail) (sym at.holds ∙ none_front refused more row)) in
    some_bytes f.layer (sym at.whole ∙ ap (λ (l : List ℕ). length l) value_none)
no_row devid refused more f (m ∷ ms) at none (text, after, is, spelled, row) = by (fronts refused text more after is)
  where
    by : Fronts refused text → ⊥
    by (inl (behind, long)) =
        at.refused m text (at.tail ++ behind) spelled
        (long ∙ (ap (λ (l : List ℕ). l ++ behind) at.holds ∙ (append_assoc at.front (at.value ++ at.tail) behind
        ∙ ap (λ (l : List ℕ). at.front ++ l) (append_assoc at.value at.tail behind))))
    by (inr (behind, short)) = none m text behind spelled short

-- bytes that begin with a submit begin a row whose first message it is
is_next : (devid : ℕ) → ArePrefixFree (up.Spells devid) → (message : up.Message) (front rest more refused : List ℕ) (messages : List up.Message)
    → refused ≡ front ++ rest → up.Spells devid message front → SpellAll (up.Spells devid) messages (refused ++ more)
    → (behind : List up.Message) × (messages ≡ message ∷ behind)
is_next devid free message front rest more refused [] is spelled row =
    absurd (not_empty devid message (subst (λ (l : List ℕ). up.Spells devid message l) (none_front front rest (sym is ∙ none_front refused more row)) spelled))
is_next devid free message front rest more refused (m ∷ ms) is spelled (text, after, begins, other, row) =
    let same = free m message text front after (rest ++ more) other spelled (sym begins ∙ (ap (λ (l : List ℕ). l ++ more) is ∙ append_assoc front rest more)) in
    (ms, ap (λ (x : up.Message). x ∷ ms) same.0)

pub ends_over : (devid : ℕ) → ArePrefixFree (up.Spells devid)
    → ((rest : List ℕ) (f : Field) → BadAt (Urbs devid) rest f → RefusedAt (up.Spells devid) rest f) → AreAlone (up.Spells devid) (BadAt (Urbs devid))
    → (run : List Entry) (s t : State) (sent received later : List ℕ) (messages : List up.Message) (f : Field) → s.presence ≡ Plugged → Runs s run t
    → Fits devid run sent received → t.presence ≡ Closed f → SpellAll (up.Spells devid) messages (sent ++ later) → EndsOver devid s run messages f
ends_over devid free bad alone run s t sent received later messages f plugged goes fit closed row =
    let end : EndsRefused devid s run t fit.taken_in f = ends devid run s t fit.taken_in f (plugged_open s plugged) goes fit.takes closed in
    let whole : sent ++ later ≡ end.front ++ (end.refused ++ (fit.sent_first.0 ++ later)) =
    ap (λ (l : List ℕ). l ++ later) (fit.sent_first.1 ∙ ap (λ (l : List ℕ). l ++ fit.sent_first.0) end.took)
    ∙ (append_assoc (end.front ++ end.refused) fit.sent_first.0 later ∙ append_assoc end.front end.refused (fit.sent_first.0 ++ later)) in
    let left = rest_of devid free (inputs run) messages end.front (end.refused ++ (fit.sent_first.0 ++ later)) end.spelled (subst (λ (l : List ℕ). SpellAll (up.Spells devid) messages l) whole row) in
    by end (fit.sent_first.0 ++ later) left.0 left.1 left.2 end.refuses
  where
    by : (end : EndsRefused devid s run t fit.taken_in f) (more : List ℕ) (left : List up.Message) → messages ≡ inputs run ++ left
        → SpellAll (up.Spells devid) left (end.refused ++ more) → IsRefused devid end.mid end.refused f → EndsOver devid s run messages f
    by end more left is row (ByField refuses) = absurd (no_row devid end.refused more f left (bad end.refused f refuses) (alone end.refused f refuses).0 row)
    by end more left is row (ByPending head transferred front rest holds spelled over) =
        let next = is_next devid free (up.Submit head transferred) front rest more end.refused left holds spelled row in
        record {
          before = end.before;
          mid = end.mid;
          refused = end.refused;
          head = head;
          transferred = transferred;
          behind = next.0;
          goes = end.goes;
          last = end.last;
          next = is ∙ ap (λ (l : List up.Message). inputs run ++ l) next.1;
          over = over;
        }
