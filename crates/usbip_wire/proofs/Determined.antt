-- prefix-free spellings determine their messages
use Rattle.std.proofs.Common.{◌≡◌, ℕ, ◌+◌, ◌<◌, Bool, true, false, List, [], ◌∷◌, ◌++◌, length, Ok, refl, sym, ap, subst, ◌∙◌, append_assoc, arith}
use Rattle.std.specs.Prelude.{Contains}
use Rattle.std.specs.Bool.{MatchBool}
use Rattle.std.specs.Int.{to_be_bytes}
use Rattle.std.proofs.lemmas.List.{append_cancel_right, append-nil, length-append}
use Rattle.tmc_base.specs.declared.field.Field.{Field}
use Rattle.usbip_wire.specs.Form.{Form, Number, Judged, Block, Done, Size, width, limit, Spelled, BadAt, read}
use Rattle.usbip_wire.specs.JudgedFields.{field_size}
use Rattle.usbip_wire.specs.Laws.{ArePrefixFree, AreDetermined, AreReadAgain, RefusedAt}
use Rattle.usbip_wire.specs.Stream.{InRow, NoneWhole, Reads}
use Rattle.usbip_wire.proofs.Forms.{complete, ok_is, bad_refused}
use Rattle.usbip_wire.proofs.Fronts.{size_of, put_len}

-- two spellings of a form that begin one text are one
pub form_free : {M : Type 0} (form : Form M) (m n : M) (a b x y : List ℕ) → Spelled form m a → Spelled form n b → a ++ x ≡ b ++ y → (m ≡ n) × (a ≡ b) × (x ≡ y)
form_free {M} form m n a b x y s t e =
    let p : read form (a ++ x) ≡ Ok (m, x) = complete form m a x s in
    let q : read form (b ++ y) ≡ Ok (n, y) = complete form n b y t in
    let same : (m, x) ≡ (n, y) = ok_is (m, x) (n, y) (sym p ∙ (ap (λ (l : List ℕ). read form l) e ∙ q)) in
    let rest : x ≡ y = ap (λ (z : M × List ℕ). z.1) same in
    (ap (λ (z : M × List ℕ). z.0) same, append_cancel_right a b y (ap (λ (l : List ℕ). a ++ l) (sym rest) ∙ e), rest)

determined_rows : {M : Type 0} (S : M → List ℕ → Type 0) → ArePrefixFree S → (bytes : List ℕ) (ms ns : List M) (rest other : List ℕ)
    → InRow S ms bytes rest → NoneWhole S rest → InRow S ns bytes other → NoneWhole S other → (ms ≡ ns) × (rest ≡ other)
determined_rows {M} S free bytes [] [] rest other p u q v = (refl, sym p ∙ q)
determined_rows {M} S free bytes [] (n ∷ ns) rest other p u (front, after, e, s, q) v = absurd (u n front after s (sym p ∙ e))
determined_rows {M} S free bytes (m ∷ ms) [] rest other (front, after, e, s, p) u q v = absurd (v m front after s (sym q ∙ e))
determined_rows {M} S free bytes (m ∷ ms) (n ∷ ns) rest other (front, after, e, s, p) u (front2, after2, f, t, q) v =
    let same = free m n front front2 after after2 s t (sym e ∙ f) in
    let q2 : InRow S ns after other = subst (λ (l : List ℕ). InRow S ns l other) (sym same.2) q in
    let r = determined_rows S free after ms ns rest other p u q2 v in
    (ap (λ (z : M). z ∷ ms) same.0 ∙ ap (λ (l : List M). n ∷ l) r.0, r.1)

pub determined : {M : Type 0} (S : M → List ℕ → Type 0) → ArePrefixFree S → AreDetermined S
determined {M} S free bytes ms ns rest other p q = determined_rows S free bytes ms ns rest other p.row p.none_whole q.row q.none_whole

again_rows : {M : Type 0} (S : M → List ℕ → Type 0) → ArePrefixFree S → (m : M) (front tail : List ℕ) (ms : List M) (rest : List ℕ) → S m front
    → InRow S ms (front ++ tail) rest → NoneWhole S rest → (others : List M) × (ms ≡ m ∷ others) × Reads S tail others rest
again_rows {M} S free m front tail [] rest s p u = absurd (u m front tail s (sym p))
again_rows {M} S free m front tail (n ∷ ns) rest s (front2, after, e, t, p) u =
    let same = free m n front front2 tail after s t e in
    (ns, ap (λ (z : M). z ∷ ns) (sym same.0), record { row = subst (λ (l : List ℕ). InRow S ns l rest) (sym same.2) p; none_whole = u })

pub read_again : {M : Type 0} (S : M → List ℕ → Type 0) → ArePrefixFree S → AreReadAgain S
read_again {M} S free m front tail ms rest s p = again_rows S free m front tail ms rest s p.row p.none_whole

-- the judged fields of a form are of these, and each has its place, counted from here, and its size
abbrev pub Placed : {M : Type 0} → List Field → Form M → ℕ → Type 0
Placed fields (Number size next) at = (x : ℕ) → Placed fields (next x) (at + size_of size)
Placed fields (Judged size field accepts next) at =
    Contains fields field × (field.offset ≡ at) × (field_size field ≡ size_of size) × ((x : ℕ) → Placed fields (next x) (at + size_of size))
Placed fields (Block count next) at = (xs : List ℕ) → Placed fields (next xs) (at + count)
Placed fields (Done message) at = Unit {0}

-- where a bad field stands
pub record Place {M : Type 0} (fields : List Field) (form : Form M) (at : ℕ) (rest : List ℕ) (f : Field) : Type 0 where
  pub front : List ℕ
  pub value : List ℕ
  pub tail : List ℕ
  pub listed : Contains fields f
  pub holds : rest ≡ front ++ (value ++ tail)
  pub placed : at + length front ≡ f.offset
  pub whole : length value ≡ field_size f
  pub stays : (more : List ℕ) → BadAt form (front ++ (value ++ more)) f

judged_place : {M : Type 0} (b : Bool) (fields : List Field) (size : Size) (field : Field) (accepts : ℕ → Bool) (next : ℕ → Form M) (at : ℕ) (rest : List ℕ) (f : Field) (n : ℕ) (after : List ℕ)
    → accepts n ≡ b → n < limit size → rest ≡ to_be_bytes (width size) n ++ after → Contains fields field → field.offset ≡ at → field_size field ≡ size_of size
    → (BadAt (next n) after f → Place fields (next n) (at + size_of size) after f) → MatchBool b (BadAt (next n) after f) (f ≡ field)
    → Place fields (Judged size field accepts next) at rest f
judged_place {M} true fields size field accepts next at rest f n after e below parts listed o sized h bad =
    let q = h bad in
    let put : List ℕ = to_be_bytes (width size) n in
    record {
      front = put ++ q.front;
      value = q.value;
      tail = q.tail;
      listed = q.listed;
      holds = parts ∙ (ap (λ (l : List ℕ). put ++ l) q.holds ∙ sym (append_assoc put q.front (q.value ++ q.tail)));
      placed = omega (arith, q.placed, length-append put q.front, put_len size n);
      whole = q.whole;
      stays = λ more. (n, q.front ++ (q.value ++ more), below, append_assoc put q.front (q.value ++ more), rw e (q.stays more));
    }
judged_place {M} false fields size field accepts next at rest f n after e below parts listed o sized h bad =
    let same : f.offset ≡ field.offset = ap (λ (g : Field). g.offset) bad in
    record {
      front = [];
      value = to_be_bytes (width size) n;
      tail = after;
      listed = subst (λ (g : Field). Contains fields g) (sym bad) listed;
      holds = parts;
      placed = omega (arith, same, o);
      whole = put_len size n ∙ (sym sized ∙ ap (λ (g : Field). field_size g) (sym bad));
      stays = λ more. (n, more, below, refl, rw e bad);
    }

-- a spelling has no bad field
pub clash : {N : Type 0} (form : Form N) (m : N) (bytes : List ℕ) (f : Field) → Spelled form m bytes → BadAt form bytes f → ⊥
clash {N} form m bytes f s b =
    let x : read form (bytes ++ []) ≡ Ok (m, []) = complete form m bytes [] s in
    let y : read form bytes ≡ Ok (m, []) = subst (λ (l : List ℕ). read form l ≡ Ok (m, [])) (append-nil bytes) x in
    let z = bad_refused form bytes f b in cc

pub bad_place : {M : Type 0} (fields : List Field) (form : Form M) (at : ℕ) (rest : List ℕ) (f : Field) → Placed fields form at → BadAt form rest f → Place fields form at rest f
bad_place {M} fields (Number size next) at rest f p (n, after, below, parts, bad) =
    let q = bad_place fields (next n) (at + size_of size) after f (p n) bad in
    let put : List ℕ = to_be_bytes (width size) n in
    record {
      front = put ++ q.front;
      value = q.value;
      tail = q.tail;
      listed = q.listed;
      holds = parts ∙ (ap (λ (l : List ℕ). put ++ l) q.holds ∙ sym (append_assoc put q.front (q.value ++ q.tail)));
      placed = omega (arith, q.placed, length-append put q.front, put_len size n);
      whole = q.whole;
      stays = λ more. (n, q.front ++ (q.value ++ more), below, append_assoc put q.front (q.value ++ more), q.stays more);
    }
bad_place {M} fields (Judged size field accepts next) at rest f p (n, after, below, parts, bad) =
    judged_place (accepts n) fields size field accepts next at rest f n after refl below parts p.0 p.1 p.2 (λ b. bad_place fields (next n) (at + size_of size) after f (p.3 n) b) bad
bad_place {M} fields (Block count next) at rest f p (block, after, len, parts, bad) =
    let q = bad_place fields (next block) (at + count) after f (p block) bad in
    record {
      front = block ++ q.front;
      value = q.value;
      tail = q.tail;
      listed = q.listed;
      holds = parts ∙ (ap (λ (l : List ℕ). block ++ l) q.holds ∙ sym (append_assoc block q.front (q.value ++ q.tail)));
      placed = omega (arith, q.placed, length-append block q.front, len);
      whole = q.whole;
      stays = λ more. (block, q.front ++ (q.value ++ more), len, append_assoc block q.front (q.value ++ more), q.stays more);
    }
bad_place {M} fields (Done message) at rest f p bad = absurd bad

-- a bad field stands at its place, and no spelling has its value there
pub refused_at : {M N : Type 0} (fields : List Field) (form : Form N) (S : M → List ℕ → Type 0) (head : M → N) → ((m : M) (bytes : List ℕ) → S m bytes → Spelled form (head m) bytes)
    → Placed fields form 0 → (rest : List ℕ) (f : Field) → BadAt form rest f → RefusedAt S rest f
refused_at {M} {N} fields form S head spelled p rest f bad =
    let q = bad_place fields form 0 rest f p bad in
    record {
      front = q.front;
      value = q.value;
      tail = q.tail;
      holds = q.holds;
      placed = omega (arith, q.placed);
      whole = q.whole;
      refused = λ m bytes more s e. clash form (head m) bytes f (spelled m bytes s) (subst (λ (l : List ℕ). BadAt form l f) (sym e) (q.stays more));
    }
