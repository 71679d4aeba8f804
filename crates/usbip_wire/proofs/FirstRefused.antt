-- a bad field is the first that is refused
use Rattle.std.proofs.Common.{◌≡◌, ℕ, ◌+◌, ◌-◌, ◌<◌, ◌≤◌, List, [], ◌++◌, length, take, drop, Ok, refl, sym, ap, subst, ◌∙◌, append_assoc, arith, inl, inr, ◌↔◌, lit<}
use Rattle.std.specs.Prelude.{Contains}
use Rattle.std.specs.Int.{to_be_bytes}
use Rattle.std.proofs.lemmas.List.{take_at, take-append-le, take-append-drop, length-append, append-nil}
use Rattle.tmc_base.specs.declared.field.Field.{Field}
use Rattle.tmc_base.specs.declared.field.Layer.{Layer}
use Rattle.tmc_base.specs.declared.field.Layer.TheVariants.{Op, Urb, Bulk, Control, Notify}
use Rattle.usbip_wire.specs.Form.{Form, Number, Judged, Block, Done, width, Spelled, BadAt, read}
use Rattle.usbip_wire.specs.Given.{IsBytes}
use Rattle.usbip_wire.specs.JudgedFields.{bytes_in, field_size}
use Rattle.usbip_wire.specs.Laws.{RefusedAt, IsFirstRefused}
use Rattle.usbip_wire.proofs.Determined.{Placed, bad_place, refused_at}
use Rattle.usbip_wire.proofs.Forms.{complete, bad_refused}
use Rattle.usbip_wire.proofs.Fronts.{size_of, put_len}
use Rattle.usbip_wire.proofs.Going.{Completable, frontier, Ending, Whole, Used, Begun, Bad}
use Rattle.usbip_wire.proofs.Good.{Chain, chain_within, apart, in_list}

-- ---- lengths

bytes_some : (layer : Layer) → 0 < bytes_in layer
bytes_some Op = lit< tt
bytes_some Urb = lit< tt
bytes_some Bulk = lit< tt
bytes_some Control = lit< tt
bytes_some Notify = lit< tt

-- a form's messages are no shorter than this
abbrev pub AtLeast : {M : Type 0} → Form M → ℕ → Type 0
AtLeast (Number size next) least = (n : ℕ) → AtLeast (next n) (least - size_of size)
AtLeast (Judged size field accepts next) least = (n : ℕ) → AtLeast (next n) (least - size_of size)
AtLeast (Block count next) least = (block : List ℕ) → AtLeast (next block) (least - count)
AtLeast (Done message) least = least ≡ 0

pub at_least : {M : Type 0} (form : Form M) (least : ℕ) (m : M) (bytes : List ℕ) → AtLeast form least → Spelled form m bytes → least ≤ length bytes
at_least {M} (Number size next) least m bytes a (n, rest, below, parts, s) =
    let r = at_least (next n) (least - size_of size) m rest (a n) s in
    rw parts (omega (arith, r, length-append (to_be_bytes (width size) n) rest, put_len size n))
at_least {M} (Judged size field accepts next) least m bytes a (n, rest, below, accepted, parts, s) =
    let r = at_least (next n) (least - size_of size) m rest (a n) s in
    rw parts (omega (arith, r, length-append (to_be_bytes (width size) n) rest, put_len size n))
at_least {M} (Block count next) least m bytes a (block, rest, len, parts, s) =
    let r = at_least (next block) (least - count) m rest (a block) s in
    rw parts (omega (arith, r, length-append block rest, len))
at_least {M} (Done message) least m bytes a s = omega (arith, a)

-- ---- what goes on is not refused

pub longer : (a b x y : List ℕ) → a ++ x ≡ b ++ y → length b ≤ length a → a ≡ b ++ drop (length b) a
longer a b x y e le =
    let front : take (length b) a ≡ b = sym (take-append-le (length b) a x le) ∙ (ap (λ (l : List ℕ). take (length b) l) e ∙ take_at b y (length b) refl) in
    sym (take-append-drop (length b) a) ∙ ap (λ (l : List ℕ). l ++ drop (length b) a) front

-- bytes with which a message begins hold no refused field
pub goes_not_refused : {M : Type 0} (S : M → List ℕ → Type 0) (rest front part more : List ℕ) (m : M) (f : Field) → rest ≡ front ++ part → f.offset + field_size f ≤ length front
    → S m (front ++ more) → RefusedAt S rest f → ⊥
goes_not_refused {M} S rest front part more m f parts le s r =
    let held : List ℕ = r.front ++ r.value in
    let same : front ++ part ≡ held ++ r.tail = sym parts ∙ (r.holds ∙ sym (append_assoc r.front r.value r.tail)) in
    let x : List ℕ = drop (length held) front in
    let split : front ≡ held ++ x = longer front held part r.tail same (omega (arith, le, length-append r.front r.value, r.placed, r.whole)) in
    r.refused m (front ++ more) (x ++ more) s
    (ap (λ (l : List ℕ). l ++ more) split ∙ (append_assoc held x more ∙ append_assoc r.front r.value (x ++ more)))

-- bytes that hold a field are as long
pub whole_length : {M : Type 0} (S : M → List ℕ → Type 0) (rest : List ℕ) (f : Field) → RefusedAt S rest f → f.offset + field_size f ≤ length rest
whole_length {M} S rest f r =
    let len : length rest ≡ length (r.front ++ (r.value ++ r.tail)) = ap (λ (l : List ℕ). length l) r.holds in
    omega (arith, len, length-append r.front (r.value ++ r.tail), length-append r.value r.tail, r.placed, r.whole)

-- ---- the first that is refused

-- what the lemmas below take of a kind of messages: some fields are judged by it, the others before
pub record Kind {M N : Type 0} (fields judged : List Field) (form : Form N) (S : M → List ℕ → Type 0) (have end : ℕ) : Type 0 where
  pub head : M → N
  pub spelled : (m : M) (bytes : List ℕ) → S m bytes → Spelled form (head m) bytes
  pub back : (n : N) (bytes : List ℕ) → Spelled form n bytes → (m : M) × S m bytes
  pub lasts : Completable form have
  pub placed : Placed fields form 0
  pub chain : Chain 0 fields end
  pub long : (n : N) (bytes : List ℕ) → Spelled form n bytes → end ≤ length bytes
  pub within : (f : Field) → Contains judged f → Contains fields f
  pub late : (f : Field) → Contains judged f → have ≤ f.offset + field_size f

-- bytes that go on through a field do not hold it refused
passed_not_refused : {M N : Type 0} (fields judged : List Field) (form : Form N) (S : M → List ℕ → Type 0) (have end : ℕ) (kind : Kind fields judged form S have end)
    (rest front part : List ℕ) (f : Field) → Contains judged f → rest ≡ front ++ part
    → (have ≤ length front → (n : N) × (more : List ℕ) × Spelled form n (front ++ more)) → f.offset + field_size f ≤ length front → RefusedAt S rest f → ⊥
passed_not_refused {M} {N} fields judged form S have end kind rest front part f known parts goes le r =
    let late = kind.late f known in
    let g = goes (omega (arith, late, le)) in
    let b = kind.back g.0 (front ++ g.1) g.2 in
    goes_not_refused S rest front part g.1 b.0 f parts le b.1 r

-- none before a bad field is refused
none_before : {M N : Type 0} (fields judged : List Field) (form : Form N) (S : M → List ℕ → Type 0) (have end : ℕ) (kind : Kind fields judged form S have end)
    (rest front part : List ℕ) (f g : Field) → BadAt form rest f → Contains judged g → g.offset < f.offset → RefusedAt S rest g
    → rest ≡ front ++ part → (have ≤ length front → (n : N) × (more : List ℕ) × Spelled form n (front ++ more)) → Ending fields form 0 rest front part → ⊥
none_before {M} {N} fields judged form S have end kind rest front part f g bad known lt r parts goes (Whole n s) =
    let x : read form rest ≡ Ok (n, part) = subst (λ (l : List ℕ). read form l ≡ Ok (n, part)) (sym parts) (complete form n front part s) in
    let y = bad_refused form rest f bad in cc
none_before {M} {N} fields judged form S have end kind rest front part f g bad known lt r parts goes (Used k short over) =
    let y = bad_refused form rest f bad in cc
none_before {M} {N} fields judged form S have end kind rest front part f g bad known lt r parts goes (Begun k h short there place short_of) =
    let y = bad_refused form rest f bad in cc
none_before {M} {N} fields judged form S have end kind rest front part f g bad known lt r parts goes (Bad h worse there place) =
    let x = bad_refused form rest f bad in
    let y = bad_refused form rest h worse in
    let same : h ≡ f = cc in
    let at : h.offset ≡ f.offset = ap (λ (z : Field). z.offset) same in
    let some = bytes_some h.layer in
    elim (apart 0 fields end g h kind.chain (in_list fields g (kind.within g known)) (in_list fields h there)) [
      | inl e ↦ let one : g.offset ≡ h.offset = ap (λ (z : Field). z.offset) e in absurd (omega (arith, one, at, lt))
      | inr (inl before) ↦ passed_not_refused fields judged form S have end kind rest front part g known parts goes (omega (arith, before, place)) r
      | inr (inr behind) ↦ absurd (omega (arith, behind, at, lt))
    ]

-- the first refused field is bad
first_bad : {M N : Type 0} (fields judged : List Field) (form : Form N) (S : M → List ℕ → Type 0) (have end : ℕ) (kind : Kind fields judged form S have end)
    (rest front part : List ℕ) (f : Field) → IsFirstRefused S judged rest f → ((g : Field) → BadAt form rest g → Contains fields g → Contains judged g)
    → rest ≡ front ++ part → (have ≤ length front → (n : N) × (more : List ℕ) × Spelled form n (front ++ more)) → Ending fields form 0 rest front part → BadAt form rest f
first_bad {M} {N} fields judged form S have end kind rest front part f first split parts goes (Whole n s) =
    let b = kind.back n front s in
    let long = kind.long n front s in
    let in_end = chain_within 0 fields end f kind.chain (in_list fields f (kind.within f first.listed)) in
    absurd (goes_not_refused S rest front part [] b.0 f parts (omega (arith, long, in_end.1)) (subst (λ (l : List ℕ). S b.0 l) (sym (append-nil front)) b.1) first.refused)
first_bad {M} {N} fields judged form S have end kind rest front part f first split parts goes (Used k short over) =
    let len : length rest ≡ length (front ++ part) = ap (λ (l : List ℕ). length l) parts in
    let none : length part ≡ 0 = ap (λ (l : List ℕ). length l) over in
    let whole = whole_length S rest f first.refused in
    absurd (passed_not_refused fields judged form S have end kind rest front part f first.listed parts goes (omega (arith, len, none, whole, length-append front part)) first.refused)
first_bad {M} {N} fields judged form S have end kind rest front part f first split parts goes (Begun k g short there place short_of) =
    let len : length rest ≡ length (front ++ part) = ap (λ (l : List ℕ). length l) parts in
    let whole = whole_length S rest f first.refused in
    elim (apart 0 fields end f g kind.chain (in_list fields f (kind.within f first.listed)) (in_list fields g there)) [
      | inl e ↦
          let again : g.offset + field_size g ≤ length rest = subst (λ (z : Field). z.offset + field_size z ≤ length rest) e whole in
          absurd (omega (arith, again, len, place, short_of, length-append front part))
      | inr (inl before) ↦ absurd (passed_not_refused fields judged form S have end kind rest front part f first.listed parts goes (omega (arith, before, place)) first.refused)
      | inr (inr behind) ↦ absurd (omega (arith, behind, whole, len, place, short_of, length-append front part))
    ]
first_bad {M} {N} fields judged form S have end kind rest front part f first split parts goes (Bad g bad there place) =
    let some = bytes_some g.layer in
    elim (apart 0 fields end f g kind.chain (in_list fields f (kind.within f first.listed)) (in_list fields g there)) [
      | inl e ↦ subst (λ (z : Field). BadAt form rest z) (sym e) bad
      | inr (inl before) ↦ absurd (passed_not_refused fields judged form S have end kind rest front part f first.listed parts goes (omega (arith, before, place)) first.refused)
      | inr (inr behind) ↦ absurd (first.first g (split g bad there) (omega (arith, behind, some)) (refused_at fields form S kind.head kind.spelled kind.placed rest g bad))
    ]

pub bad_is_first : {M N : Type 0} (fields judged : List Field) (form : Form N) (S : M → List ℕ → Type 0) (have end : ℕ) (kind : Kind fields judged form S have end)
    (rest : List ℕ) (f : Field) → IsBytes rest → ((g : Field) → BadAt form rest g → Contains fields g → Contains judged g) → BadAt form rest f ↔ IsFirstRefused S judged rest f
bad_is_first {M} {N} fields judged form S have end kind rest f fits split =
    let q = frontier fields form have 0 rest fits kind.lasts kind.placed in (
      λ bad. record {
        listed = split f bad (bad_place fields form 0 rest f kind.placed bad).listed;
        refused = refused_at fields form S kind.head kind.spelled kind.placed rest f bad;
        first = λ g known lt r. none_before fields judged form S have end kind rest q.front q.part f g bad known lt r q.holds q.goes q.ends;
      },
      λ first. first_bad fields judged form S have end kind rest q.front q.part f first split q.holds q.goes q.ends,
    )
