-- how far some bytes go in a form, and how they can go on
use Rattle.std.proofs.Common.{◌≡◌, ℕ, ◌+◌, ◌-◌, ◌<◌, ◌≤◌, Bool, true, false, List, [], ◌++◌, length, take, drop, replicate, Err, refl, sym, ap, subst, ◌∙◌, append_assoc, arith, inl, inr, ◌⊎◌, lit<}
use Rattle.std.specs.Prelude.{Contains, get_or}
use Rattle.std.specs.Int.{to_be_bytes, from_be_bytes}
use Rattle.std.proofs.lemmas.Bool.{cases_lt}
use Rattle.std.proofs.lemmas.List.{take-append-drop, append-nil, length-append, length-take, length-replicate, get_or_append_left, get_or-append_right, get_or-replicate, get_or_past}
use Rattle.tmc_base.specs.declared.field.Field.{Field}
use Rattle.usbip_wire.specs.declared.stop.Stop.TheVariants.{Short}
use Rattle.usbip_wire.specs.Form.{Form, Number, Judged, Block, Done, Size, Two, Four, width, limit, Spelled, BadAt, read}
use Rattle.usbip_wire.specs.Given.{IsBytes}
use Rattle.usbip_wire.specs.JudgedFields.{field_size}
use Rattle.usbip_wire.proofs.Determined.{Placed}
use Rattle.usbip_wire.proofs.Fronts.{IsBytes-drop, cut, size_of, value_of, number_parts, number_below, put_len, put_back, value_below}

-- each row of fields that begins a message's has a message: behind so many bytes, each judged field has an accepted value
abbrev pub Completable : {M : Type 0} → Form M → ℕ → Type 0
Completable (Number size next) have = (n : ℕ) → n < limit size → Completable (next n) (have - size_of size)
Completable (Judged size field accepts next) have =
    (have ≡ 0 → (n : ℕ) × (n < limit size) × (accepts n ≡ true))
    × ((n : ℕ) → n < limit size → accepts n ≡ true → Completable (next n) (have - size_of size))
Completable (Block count next) have = (block : List ℕ) → length block ≡ count → Completable (next block) (have - count)
Completable (Done message) have = Unit {0}

zero_below : (size : Size) → 0 < limit size
zero_below Two = lit< tt
zero_below Four = lit< tt

-- such a form has a message
pub some_message : {M : Type 0} (form : Form M) (have : ℕ) → Completable form have → have ≡ 0 → (m : M) × (bytes : List ℕ) × Spelled form m bytes
some_message {M} (Number size next) have c none =
    let r = some_message (next 0) (have - size_of size) (c 0 (zero_below size)) (omega (arith, none)) in
    (r.0, to_be_bytes (width size) 0 ++ r.1, (0, r.1, zero_below size, refl, r.2))
some_message {M} (Judged size field accepts next) have c none =
    let v = c.0 none in
    let r = some_message (next v.0) (have - size_of size) (c.1 v.0 v.1 v.2) (omega (arith, none)) in
    (r.0, to_be_bytes (width size) v.0 ++ r.1, (v.0, r.1, v.1, v.2, refl, r.2))
some_message {M} (Block count next) have c none =
    let block : List ℕ = replicate count 0 in
    let r = some_message (next block) (have - count) (c block (length-replicate {A = ℕ} count 0)) (omega (arith, none)) in
    (r.0, block ++ r.1, (block, r.1, length-replicate {A = ℕ} count 0, refl, r.2))
some_message {M} (Done message) have c none = (message, [], (refl, refl))

zeros : (n i : ℕ) → get_or (replicate n 0) i 0 < 256
zeros n i =
    elim (cases_lt i n) [
      | inl lt ↦ rw (get_or-replicate {A = ℕ} n i 0 0 lt) (lit< tt)
      | inr le ↦ rw (get_or_past {X = ℕ} (replicate n 0) i 0 (omega (arith, le, length-replicate {A = ℕ} n 0))) (lit< tt)
    ]

pub IsBytes-padded : (bytes : List ℕ) (n : ℕ) → IsBytes bytes → IsBytes (bytes ++ replicate n 0)
IsBytes-padded bytes n fits i =
    elim (cases_lt i (length bytes)) [
      | inl lt ↦ rw (get_or_append_left bytes (replicate n 0) 0 i lt) (fits i)
      | inr le ↦ rw (get_or-append_right bytes (replicate n 0) (length bytes) i 0 refl le) (zeros n (i - length bytes))
    ]

-- where the bytes end within a field, with zeros behind them they are this number
abbrev pub padding : ℕ → List ℕ → List ℕ
padding count bytes = replicate (count - length bytes) 0

pub padded_len : (count : ℕ) (bytes : List ℕ) → length bytes < count → length (bytes ++ padding count bytes) ≡ count
padded_len count bytes lt = omega (arith, lt, length-append bytes (padding count bytes), length-replicate {A = ℕ} (count - length bytes) 0)

abbrev pub padded_value : Size → List ℕ → ℕ
padded_value size bytes = from_be_bytes (width size) (bytes ++ padding (size_of size) bytes)

pub padded_below : (size : Size) (bytes : List ℕ) → IsBytes bytes → padded_value size bytes < limit size
padded_below size bytes fits = value_below size (bytes ++ padding (size_of size) bytes) (IsBytes-padded bytes (size_of size - length bytes) fits)

pub padded_back : (size : Size) (bytes : List ℕ) → IsBytes bytes → length bytes < size_of size → to_be_bytes (width size) (padded_value size bytes) ≡ bytes ++ padding (size_of size) bytes
padded_back size bytes fits lt =
    put_back size (bytes ++ padding (size_of size) bytes) (padded_len (size_of size) bytes lt) (IsBytes-padded bytes (size_of size - length bytes) fits)

-- where bytes stop in a form
pub data Ending {M : Type 0} (fields : List Field) (form : Form M) (at : ℕ) (bytes front part : List ℕ) : Type 0 where
  Whole : (m : M) (spelled : Spelled form m front) → Ending fields form at bytes front part
  Used : (n : ℕ) (short : read form bytes ≡ Err (Short n)) (none : part ≡ []) → Ending fields form at bytes front part
  Begun : (n : ℕ) (f : Field) (short : read form bytes ≡ Err (Short n)) (listed : Contains fields f) (place : f.offset ≡ at + length front) (within : length part < field_size f)
      → Ending fields form at bytes front part
  Bad : (f : Field) (bad : BadAt form bytes f) (listed : Contains fields f) (place : f.offset ≡ at + length front) → Ending fields form at bytes front part

-- a message begins with the front, where that has enough bytes
pub record Frontier {M : Type 0} (fields : List Field) (form : Form M) (have at : ℕ) (bytes : List ℕ) : Type 0 where
  pub front : List ℕ
  pub part : List ℕ
  pub holds : bytes ≡ front ++ part
  pub goes : have ≤ length front → (m : M) × (more : List ℕ) × Spelled form m (front ++ more)
  pub ends : Ending fields form at bytes front part

lift : {M : Type 0} (fields : List Field) (form inner : Form M) (at size : ℕ) (bytes after put front part : List ℕ) → length put ≡ size
    → ((m : M) (l : List ℕ) → Spelled inner m l → Spelled form m (put ++ l))
    → ((n : ℕ) → read inner after ≡ Err (Short n) → read form bytes ≡ Err (Short n))
    → ((f : Field) → BadAt inner after f → BadAt form bytes f)
    → Ending fields inner (at + size) after front part → Ending fields form at bytes (put ++ front) part
lift {M} fields form inner at size bytes after put front part len s r b (Whole m spelled) = Whole m (s m front spelled)
lift {M} fields form inner at size bytes after put front part len s r b (Used n short none) = Used n (r n short) none
lift {M} fields form inner at size bytes after put front part len s r b (Begun n f short listed place within) =
    Begun n f (r n short) listed (omega (arith, place, length-append put front, len)) within
lift {M} fields form inner at size bytes after put front part len s r b (Bad f bad listed place) =
    Bad f (b f bad) listed (omega (arith, place, length-append put front, len))

onward : {M : Type 0} (fields : List Field) (form inner : Form M) (have at size : ℕ) (bytes after put : List ℕ) → length put ≡ size → bytes ≡ put ++ after
    → ((m : M) (l : List ℕ) → Spelled inner m l → Spelled form m (put ++ l))
    → ((n : ℕ) → read inner after ≡ Err (Short n) → read form bytes ≡ Err (Short n))
    → ((f : Field) → BadAt inner after f → BadAt form bytes f)
    → Frontier fields inner (have - size) (at + size) after → Frontier fields form have at bytes
onward {M} fields form inner have at size bytes after put len parts s r b q =
    record {
      front = put ++ q.front;
      part = q.part;
      holds = parts ∙ (ap (λ (l : List ℕ). put ++ l) q.holds ∙ sym (append_assoc put q.front q.part));
      goes = λ le. let g = q.goes (omega (arith, le, length-append put q.front, len)) in
          (g.0, g.1, subst (λ (l : List ℕ). Spelled form g.0 l) (sym (append_assoc put q.front g.1)) (s g.0 (q.front ++ g.1) g.2));
      ends = lift fields form inner at size bytes after put q.front q.part len s r b q.ends;
    }

pub either_is : (b : Bool) → (b ≡ true) ⊎ (b ≡ false)
either_is true = inl refl
either_is false = inr refl

pub frontier : {M : Type 0} (fields : List Field) (form : Form M) (have at : ℕ) (bytes : List ℕ) → IsBytes bytes → Completable form have → Placed fields form at → Frontier fields form have at bytes
frontier {M} fields (Number size next) have at bytes fits c p =
    elim (cut (size_of size) bytes) [
      | inl h ↦
          let v : ℕ = padded_value size bytes in
          record {
            front = bytes;
            part = [];
            holds = sym (append-nil bytes);
            goes = λ le.
                let r = some_message (next v) (have - size_of size) (c v (padded_below size bytes fits)) (omega (arith, le, h.1)) in (
                  r.0,
                  padding (size_of size) bytes ++ r.1,
                  (v, r.1, padded_below size bytes fits, sym (append_assoc bytes (padding (size_of size) bytes) r.1) ∙ ap (λ (l : List ℕ). l ++ r.1) (sym (padded_back size bytes fits h.1)), r.2),
                );
            ends = Used (size_of size - length bytes) (rw h.0 refl) refl;
          }
      | inr h ↦
          let v : ℕ = value_of size bytes in
          let after : List ℕ = drop (size_of size) bytes in
          let below = number_below size bytes fits in
          let parts = number_parts size bytes fits h.1 in
          onward fields (Number size next) (next v) have at (size_of size) bytes after (to_be_bytes (width size) v) (put_len size v) parts
          (λ m l t. (v, l, below, refl, t)) (λ n e. rw h.0 e) (λ f b. (v, after, below, parts, b))
          (frontier fields (next v) (have - size_of size) (at + size_of size) after (IsBytes-drop (size_of size) bytes fits) (c v below) (p v))
    ]
frontier {M} fields (Judged size field accepts next) have at bytes fits c p =
    let goes : have ≤ 0 → (m : M) × (more : List ℕ) × Spelled (Judged size field accepts next) m more = λ le. some_message (Judged size field accepts next) have c (omega (arith, le)) in
    elim (cut (size_of size) bytes) [
      | inl h ↦
          record {
            front = [];
            part = bytes;
            holds = refl;
            goes = goes;
            ends = Begun (size_of size - length bytes) field (rw h.0 refl) p.0 (omega (arith, p.1)) (omega (arith, h.1, p.2));
          }
      | inr h ↦
          let v : ℕ = value_of size bytes in
          let after : List ℕ = drop (size_of size) bytes in
          let below = number_below size bytes fits in
          let parts = number_parts size bytes fits h.1 in
          elim (either_is (accepts v)) [
            | inl good ↦
                onward fields (Judged size field accepts next) (next v) have at (size_of size) bytes after (to_be_bytes (width size) v) (put_len size v) parts
                (λ m l t. (v, l, below, good, refl, t)) (λ n e. rw (h.0, good) e) (λ f b. (v, after, below, parts, rw good b))
                (frontier fields (next v) (have - size_of size) (at + size_of size) after (IsBytes-drop (size_of size) bytes fits) (c.1 v below good) (p.3 v))
            | inr bad ↦
                record {
                  front = [];
                  part = bytes;
                  holds = refl;
                  goes = goes;
                  ends = Bad field (v, after, below, parts, rw bad refl) p.0 (omega (arith, p.1));
                }
          ]
    ]
frontier {M} fields (Block count next) have at bytes fits c p =
    elim (cut count bytes) [
      | inl h ↦
          let block : List ℕ = bytes ++ padding count bytes in
          let len = padded_len count bytes h.1 in
          record {
            front = bytes;
            part = [];
            holds = sym (append-nil bytes);
            goes = λ le.
                let r = some_message (next block) (have - count) (c block len) (omega (arith, le, h.1)) in
                (r.0, padding count bytes ++ r.1, (block, r.1, len, sym (append_assoc bytes (padding count bytes) r.1), r.2));
            ends = Used (count - length bytes) (rw h.0 refl) refl;
          }
      | inr h ↦
          let block : List ℕ = take count bytes in
          let after : List ℕ = drop count bytes in
          let len : length block ≡ count = omega (arith, length-take count bytes, h.1) in
          let parts : bytes ≡ block ++ after = sym (take-append-drop count bytes) in
          onward fields (Block count next) (next block) have at count bytes after block len parts
          (λ m l t. (block, l, len, refl, t)) (λ n e. rw h.0 e) (λ f b. (block, after, len, parts, b))
          (frontier fields (next block) (have - count) (at + count) after (IsBytes-drop count bytes fits) (c block len) (p block))
    ]
frontier {M} fields (Done message) have at bytes fits c p =
    record { front = []; part = bytes; holds = refl; goes = λ le. (message, [], (refl, refl)); ends = Whole message (refl, refl) }
