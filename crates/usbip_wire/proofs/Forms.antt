-- what reading says of a form's messages
use Rattle.std.proofs.Common.{◌≡◌, ℕ, zero, suc, ◌+◌, ◌-◌, ◌<◌, ◌≤◌, Bool, true, false, cond, List, [], ◌∷◌, ◌++◌, length, take, drop, Result, Ok, Err, refl, sym, ap, ◌∙◌, append_assoc, arith, inl, inr, ◌⊎◌}
use Rattle.std.specs.Bool.{MatchBool}
use Rattle.std.specs.Int.{to_be_bytes}
use Rattle.std.proofs.lemmas.Bool.{lt-ltb}
use Rattle.std.proofs.lemmas.List.{take_at, drop_at, take-append-drop, take-append-le, drop-append-le, length-append, length-take, length-drop}
use Rattle.tmc_base.specs.declared.field.Field.{Field}
use Rattle.usbip_wire.specs.declared.stop.Stop.{Stop}
use Rattle.usbip_wire.specs.declared.stop.Stop.TheVariants.{Short, Refused}
use Rattle.usbip_wire.specs.Form.{Form, Number, Judged, Block, Done, Two, Four, width, Spelled, BadAt, read}
use Rattle.usbip_wire.specs.Given.{IsBytes}
use Rattle.usbip_wire.proofs.Fronts.{IsBytes-drop, cut, size_of, value_of, number_parts, number_below, put_value, put_rest, put_long, front_long, more_long}

-- what a test that was passed chose
pub passed : {A : Type 0} (b : Bool) (r : Result A Stop) (f : Field) (x : A) → cond b r (Err (Refused f)) ≡ Ok x → (b ≡ true) × (r ≡ Ok x)
passed true r f x e = (refl, e)
passed false r f x e = absurd cc

abbrev ok : {A : Type 0} → A → Result A Stop
ok x = Ok x

abbrev err : {A : Type 0} → Stop → Result A Stop
err e = Err e

pub ok_is : {A : Type 0} (x y : A) → ok x ≡ ok y → x ≡ y
ok_is x y e = cc

pub short_is : {A : Type 0} (x y : ℕ) → err {A = A} (Short x) ≡ err (Short y) → x ≡ y
short_is x y e = cc

pub short_by : {A : Type 0} (b : Bool) (r : Result A Stop) (field : Field) (n : ℕ) → cond b r (Err (Refused field)) ≡ Err (Short n) → r ≡ Err (Short n)
short_by true r field n e = e
short_by false r field n e = absurd cc

more_choice : (b : Bool) (P Q R : Type 0) → (P → Q) → MatchBool b P R → MatchBool b Q R
more_choice true P Q R h x = h x
more_choice false P Q R h x = x

-- a message that was read is spelled by the bytes in front of the rest
pub sound : {M : Type 0} (form : Form M) (bytes : List ℕ) (m : M) (rest : List ℕ) → IsBytes bytes → read form bytes ≡ Ok (m, rest)
    → (front : List ℕ) × (bytes ≡ front ++ rest) × Spelled form m front
sound {M} (Number size next) bytes m rest fits e =
    elim (cut (size_of size) bytes) [
      | inl h ↦ let x = rw h.0 at e in absurd (cc x)
      | inr h ↦
          let x = rw h.0 at e in
          let s = sound (next (value_of size bytes)) (drop (size_of size) bytes) m rest (IsBytes-drop (size_of size) bytes fits) x in
          let n : ℕ = value_of size bytes in (
            to_be_bytes (width size) n ++ s.0,
            number_parts size bytes fits h.1 ∙ (ap (λ (t : List ℕ). to_be_bytes (width size) n ++ t) s.1 ∙ sym (append_assoc (to_be_bytes (width size) n) s.0 rest)),
            (n, s.0, number_below size bytes fits, refl, s.2),
          )
    ]
sound {M} (Judged size field accepts next) bytes m rest fits e =
    elim (cut (size_of size) bytes) [
      | inl h ↦ let x = rw h.0 at e in absurd (cc x)
      | inr h ↦
          let n : ℕ = value_of size bytes in
          let x = passed (accepts (value_of size bytes)) (read (next (value_of size bytes)) (drop (size_of size) bytes)) field (m, rest) (rw h.0 at e) in
          let s = sound (next (value_of size bytes)) (drop (size_of size) bytes) m rest (IsBytes-drop (size_of size) bytes fits) x.1 in (
            to_be_bytes (width size) n ++ s.0,
            number_parts size bytes fits h.1 ∙ (ap (λ (t : List ℕ). to_be_bytes (width size) n ++ t) s.1 ∙ sym (append_assoc (to_be_bytes (width size) n) s.0 rest)),
            (n, s.0, number_below size bytes fits, x.0, refl, s.2),
          )
    ]
sound {M} (Block count next) bytes m rest fits e =
    elim (cut count bytes) [
      | inl h ↦ let x = rw h.0 at e in absurd (cc x)
      | inr h ↦
          let x = rw h.0 at e in
          let s = sound (next (take count bytes)) (drop count bytes) m rest (IsBytes-drop count bytes fits) x in (
            take count bytes ++ s.0,
            sym (take-append-drop count bytes) ∙ (ap (λ (t : List ℕ). take count bytes ++ t) s.1 ∙ sym (append_assoc (take count bytes) s.0 rest)),
            (take count bytes, s.0, omega (arith, length-take count bytes, h.1), refl, s.2),
          )
    ]
sound {M} (Done message) bytes m rest fits e =
    let x : (message, bytes) ≡ (m, rest) = ok_is (message, bytes) (m, rest) e in
    ([], ap (λ (p : M × List ℕ). p.1) x, (ap (λ (p : M × List ℕ). p.0) x, refl))

-- a spelling is read again, whatever follows it
pub complete : {M : Type 0} (form : Form M) (m : M) (front rest : List ℕ) → Spelled form m front → read form (front ++ rest) ≡ Ok (m, rest)
complete {M} (Number size next) m front rest (n, after, below, parts, s) =
    rw (parts, append_assoc (to_be_bytes (width size) n) after rest, put_long size n (after ++ rest), put_value size n (after ++ rest) below, put_rest size n (after ++ rest))
    (complete (next n) m after rest s)
complete {M} (Judged size field accepts next) m front rest (n, after, below, accepted, parts, s) =
    rw (parts, append_assoc (to_be_bytes (width size) n) after rest, put_long size n (after ++ rest), put_value size n (after ++ rest) below, put_rest size n (after ++ rest), accepted)
    (complete (next n) m after rest s)
complete {M} (Block count next) m front rest (block, after, len, parts, s) =
    rw (parts, append_assoc block after rest, front_long block (after ++ rest) count len, take_at block (after ++ rest) count len, drop_at block (after ++ rest) count len)
    (complete (next block) m after rest s)
complete {M} (Done message) m front rest (same, parts) = rw (parts, same) refl

-- what was read stays read when more follows
pub more_whole : {M : Type 0} (form : Form M) (bytes more : List ℕ) (m : M) (rest : List ℕ) → read form bytes ≡ Ok (m, rest)
    → read form (bytes ++ more) ≡ Ok (m, rest ++ more)
more_whole {M} (Number size next) bytes more m rest e =
    elim (cut (size_of size) bytes) [
      | inl h ↦ let x = rw h.0 at e in absurd (cc x)
      | inr h ↦
          rw (more_long bytes more (size_of size) h.1, take-append-le (size_of size) bytes more h.1, drop-append-le (size_of size) bytes more h.1)
          (more_whole (next (value_of size bytes)) (drop (size_of size) bytes) more m rest (rw h.0 at e))
    ]
more_whole {M} (Judged size field accepts next) bytes more m rest e =
    elim (cut (size_of size) bytes) [
      | inl h ↦ let x = rw h.0 at e in absurd (cc x)
      | inr h ↦
          let x = passed (accepts (value_of size bytes)) (read (next (value_of size bytes)) (drop (size_of size) bytes)) field (m, rest) (rw h.0 at e) in
          rw (more_long bytes more (size_of size) h.1, take-append-le (size_of size) bytes more h.1, drop-append-le (size_of size) bytes more h.1, x.0)
          (more_whole (next (value_of size bytes)) (drop (size_of size) bytes) more m rest x.1)
    ]
more_whole {M} (Block count next) bytes more m rest e =
    elim (cut count bytes) [
      | inl h ↦ let x = rw h.0 at e in absurd (cc x)
      | inr h ↦
          rw (more_long bytes more count h.1, take-append-le count bytes more h.1, drop-append-le count bytes more h.1)
          (more_whole (next (take count bytes)) (drop count bytes) more m rest (rw h.0 at e))
    ]
more_whole {M} (Done message) bytes more m rest e =
    let x : (message, bytes) ≡ (m, rest) = ok_is (message, bytes) (m, rest) e in
    ap (λ (p : M × List ℕ). ok (p.0, p.1 ++ more)) x

-- a test of a field that was refused: this one, or a later one
pub refused_by : {A : Type 0} (b : Bool) (r : Result A Stop) (field f : Field) → cond b r (Err (Refused field)) ≡ Err (Refused f)
    → ((b ≡ true) × (r ≡ Err (Refused f))) ⊎ ((b ≡ false) × (f ≡ field))
refused_by true r field f e = inl (refl, e)
refused_by false r field f e = inr (refl, cc)

-- a refused field is bad
pub refused_bad : {M : Type 0} (form : Form M) (bytes : List ℕ) (f : Field) → IsBytes bytes → read form bytes ≡ Err (Refused f) → BadAt form bytes f
refused_bad {M} (Number size next) bytes f fits e =
    elim (cut (size_of size) bytes) [
      | inl h ↦ let x = rw h.0 at e in absurd (cc x)
      | inr h ↦ (
        value_of size bytes,
        drop (size_of size) bytes,
        number_below size bytes fits,
        number_parts size bytes fits h.1,
        refused_bad (next (value_of size bytes)) (drop (size_of size) bytes) f (IsBytes-drop (size_of size) bytes fits) (rw h.0 at e),
      )
    ]
refused_bad {M} (Judged size field accepts next) bytes f fits e =
    elim (cut (size_of size) bytes) [
      | inl h ↦ let x = rw h.0 at e in absurd (cc x)
      | inr h ↦ (
        value_of size bytes,
        drop (size_of size) bytes,
        number_below size bytes fits,
        number_parts size bytes fits h.1,
        elim (refused_by (accepts (value_of size bytes)) (read (next (value_of size bytes)) (drop (size_of size) bytes)) field f (rw h.0 at e)) [
          | inl x ↦ rw x.0 (refused_bad (next (value_of size bytes)) (drop (size_of size) bytes) f (IsBytes-drop (size_of size) bytes fits) x.1)
          | inr x ↦ rw x.0 x.1
        ],
      )
    ]
refused_bad {M} (Block count next) bytes f fits e =
    elim (cut count bytes) [
      | inl h ↦ let x = rw h.0 at e in absurd (cc x)
      | inr h ↦ (
        take count bytes,
        drop count bytes,
        omega (arith, length-take count bytes, h.1),
        sym (take-append-drop count bytes),
        refused_bad (next (take count bytes)) (drop count bytes) f (IsBytes-drop count bytes fits) (rw h.0 at e),
      )
    ]
refused_bad {M} (Done message) bytes f fits e = absurd cc

bad_choice : {M : Type 0} (b : Bool) (form : Form M) (rest : List ℕ) (field f : Field)
    → (BadAt form rest f → read form rest ≡ Err (Refused f)) → MatchBool b (BadAt form rest f) (f ≡ field)
    → cond b (read form rest) (Err (Refused field)) ≡ Err (Refused f)
bad_choice true form rest field f h x = h x
bad_choice false form rest field f h x = ap (λ (g : Field). err (Refused g)) (sym x)

-- a bad field is refused, whatever follows
pub bad_refused : {M : Type 0} (form : Form M) (bytes : List ℕ) (f : Field) → BadAt form bytes f → read form bytes ≡ Err (Refused f)
bad_refused {M} (Number size next) bytes f (n, after, below, parts, bad) =
    rw (parts, put_long size n after, put_value size n after below, put_rest size n after) (bad_refused (next n) after f bad)
bad_refused {M} (Judged size field accepts next) bytes f (n, after, below, parts, bad) =
    rw (parts, put_long size n after, put_value size n after below, put_rest size n after)
    (bad_choice (accepts n) (next n) after field f (bad_refused (next n) after f) bad)
bad_refused {M} (Block count next) bytes f (block, after, len, parts, bad) =
    rw (parts, front_long block after count len, take_at block after count len, drop_at block after count len) (bad_refused (next block) after f bad)
bad_refused {M} (Done message) bytes f bad = absurd bad

-- a bad field stays bad when more follows
pub more_bad : {M : Type 0} (form : Form M) (bytes more : List ℕ) (f : Field) → BadAt form bytes f → BadAt form (bytes ++ more) f
more_bad {M} (Number size next) bytes more f (n, after, below, parts, bad) =
    (n, after ++ more, below, ap (λ (t : List ℕ). t ++ more) parts ∙ append_assoc (to_be_bytes (width size) n) after more, more_bad (next n) after more f bad)
more_bad {M} (Judged size field accepts next) bytes more f (n, after, below, parts, bad) = (
  n,
  after ++ more,
  below,
  ap (λ (t : List ℕ). t ++ more) parts ∙ append_assoc (to_be_bytes (width size) n) after more,
  more_choice (accepts n) (BadAt (next n) after f) (BadAt (next n) (after ++ more) f) (f ≡ field) (more_bad (next n) after more f) bad,
)
more_bad {M} (Block count next) bytes more f (block, after, len, parts, bad) =
    (block, after ++ more, len, ap (λ (t : List ℕ). t ++ more) parts ∙ append_assoc block after more, more_bad (next block) after more f bad)
more_bad {M} (Done message) bytes more f bad = absurd bad

-- bytes are missing: more than none
pub missing : {M : Type 0} (form : Form M) (bytes : List ℕ) (n : ℕ) → read form bytes ≡ Err (Short n) → 0 < n
missing {M} (Number size next) bytes n e =
    elim (cut (size_of size) bytes) [
      | inl h ↦ let x = short_is (size_of size - length bytes) n (rw h.0 at e) in omega (arith, h.1, x)
      | inr h ↦ missing (next (value_of size bytes)) (drop (size_of size) bytes) n (rw h.0 at e)
    ]
missing {M} (Judged size field accepts next) bytes n e =
    elim (cut (size_of size) bytes) [
      | inl h ↦ let x = short_is (size_of size - length bytes) n (rw h.0 at e) in omega (arith, h.1, x)
      | inr h ↦ missing (next (value_of size bytes)) (drop (size_of size) bytes) n (short_by (accepts (value_of size bytes)) _ field n (rw h.0 at e))
    ]
missing {M} (Block count next) bytes n e =
    elim (cut count bytes) [
      | inl h ↦ let x = short_is (count - length bytes) n (rw h.0 at e) in omega (arith, h.1, x)
      | inr h ↦ missing (next (take count bytes)) (drop count bytes) n (rw h.0 at e)
    ]
missing {M} (Done message) bytes n e = absurd cc

pub none_left : {M : Type 0} (form : Form M) (m : M) (rest : List ℕ) → read form [] ≡ Ok (m, rest) → rest ≡ []
none_left {M} (Number Two next) m rest e = absurd cc
none_left {M} (Number Four next) m rest e = absurd cc
none_left {M} (Judged Two field accepts next) m rest e = absurd cc
none_left {M} (Judged Four field accepts next) m rest e = absurd cc
none_left {M} (Block zero next) m rest e = none_left (next []) m rest e
none_left {M} (Block (suc count) next) m rest e = let x = rw (lt-ltb 0 (suc count) (omega arith)) at e in absurd (cc x)
none_left {M} (Done message) m rest e = sym (ap (λ (p : M × List ℕ). p.1) (ok_is (message, []) (m, rest) e))

pub nothing : (bytes : List ℕ) → length bytes ≡ 0 → bytes ≡ []
nothing [] e = refl
nothing (x ∷ xs) e = absurd (omega (arith, e))

-- what follows a field that the next bytes just fill
filled : {M : Type 0} (form : Form M) (m : M) (n : ℕ) (bytes rest : List ℕ) → length bytes ≤ n → n ≤ length bytes → read form (drop n bytes) ≡ Ok (m, rest) → rest ≡ []
filled form m n bytes rest below above e =
    let none : drop n bytes ≡ [] = nothing (drop n bytes) (omega (arith, length-drop n bytes)) in
    none_left form m rest (rw none at e)

-- no more bytes than are missing: then a message that is whole ends with them
pub exact : {M : Type 0} (form : Form M) (bytes more : List ℕ) (n : ℕ) (m : M) (rest : List ℕ) → read form bytes ≡ Err (Short n) → length more ≤ n
    → read form (bytes ++ more) ≡ Ok (m, rest) → rest ≡ []
exact {M} (Number size next) bytes more n m rest e le w =
    elim (cut (size_of size) bytes) [
      | inl h ↦
          let x = short_is (size_of size - length bytes) n (rw h.0 at e) in
          elim (cut (size_of size) (bytes ++ more)) [
            | inl g ↦ let y = rw g.0 at w in absurd (cc y)
            | inr g ↦ filled (next (value_of size (bytes ++ more))) m (size_of size) (bytes ++ more) rest (omega (arith, length-append bytes more, x, h.1, le)) g.1 (rw g.0 at w)
          ]
      | inr h ↦
          exact (next (value_of size bytes)) (drop (size_of size) bytes) more n m rest (rw h.0 at e) le
          (rw (more_long bytes more (size_of size) h.1, take-append-le (size_of size) bytes more h.1, drop-append-le (size_of size) bytes more h.1) at w)
    ]
exact {M} (Judged size field accepts next) bytes more n m rest e le w =
    elim (cut (size_of size) bytes) [
      | inl h ↦
          let x = short_is (size_of size - length bytes) n (rw h.0 at e) in
          elim (cut (size_of size) (bytes ++ more)) [
            | inl g ↦ let y = rw g.0 at w in absurd (cc y)
            | inr g ↦
                let y = passed (accepts (value_of size (bytes ++ more))) (read (next (value_of size (bytes ++ more))) (drop (size_of size) (bytes ++ more))) field (m, rest) (rw g.0 at w) in
                filled (next (value_of size (bytes ++ more))) m (size_of size) (bytes ++ more) rest (omega (arith, length-append bytes more, x, h.1, le)) g.1 y.1
          ]
      | inr h ↦
          let y = passed (accepts (value_of size bytes)) (read (next (value_of size bytes)) (drop (size_of size) bytes ++ more)) field (m, rest)
          (rw (more_long bytes more (size_of size) h.1, take-append-le (size_of size) bytes more h.1, drop-append-le (size_of size) bytes more h.1) at w) in
          exact (next (value_of size bytes)) (drop (size_of size) bytes) more n m rest (short_by (accepts (value_of size bytes)) _ field n (rw h.0 at e)) le y.1
    ]
exact {M} (Block count next) bytes more n m rest e le w =
    elim (cut count bytes) [
      | inl h ↦
          let x = short_is (count - length bytes) n (rw h.0 at e) in
          elim (cut count (bytes ++ more)) [
            | inl g ↦ let y = rw g.0 at w in absurd (cc y)
            | inr g ↦ filled (next (take count (bytes ++ more))) m count (bytes ++ more) rest (omega (arith, length-append bytes more, x, h.1, le)) g.1 (rw g.0 at w)
          ]
      | inr h ↦
          exact (next (take count bytes)) (drop count bytes) more n m rest (rw h.0 at e) le
          (rw (more_long bytes more count h.1, take-append-le count bytes more h.1, drop-append-le count bytes more h.1) at w)
    ]
exact {M} (Done message) bytes more n m rest e le w = absurd cc

-- a form's messages are no longer than this
abbrev pub Within : {M : Type 0} → Form M → ℕ → Type 0
Within (Number size next) most = (size_of size ≤ most) × ((x : ℕ) → Within (next x) (most - size_of size))
Within (Judged size field accepts next) most = (size_of size ≤ most) × ((x : ℕ) → accepts x ≡ true → Within (next x) (most - size_of size))
Within (Block count next) most = (count ≤ most) × ((xs : List ℕ) → Within (next xs) (most - count))
Within (Done message) most = Unit {0}

pub short_accepted : {A : Type 0} (b : Bool) (r : Result A Stop) (field : Field) (n : ℕ) → cond b r (Err (Refused field)) ≡ Err (Short n) → (b ≡ true) × (r ≡ Err (Short n))
short_accepted true r field n e = (refl, e)
short_accepted false r field n e = absurd cc

-- fewer bytes than are missing: then the others still are
pub still_short : {M : Type 0} (form : Form M) (bytes more : List ℕ) (n : ℕ) → read form bytes ≡ Err (Short n) → length more < n
    → read form (bytes ++ more) ≡ Err (Short (n - length more))
still_short {M} (Number size next) bytes more n e lt =
    elim (cut (size_of size) bytes) [
      | inl h ↦
          let x = short_is (size_of size - length bytes) n (rw h.0 at e) in
          rw (lt-ltb (length (bytes ++ more)) (size_of size) (omega (arith, h.1, x, lt, length-append bytes more)))
          (ap (λ (k : ℕ). err {A = M × List ℕ} (Short k)) (omega (arith, h.1, x, length-append bytes more)))
      | inr h ↦
          rw (more_long bytes more (size_of size) h.1, take-append-le (size_of size) bytes more h.1, drop-append-le (size_of size) bytes more h.1)
          (still_short (next (value_of size bytes)) (drop (size_of size) bytes) more n (rw h.0 at e) lt)
    ]
still_short {M} (Judged size field accepts next) bytes more n e lt =
    elim (cut (size_of size) bytes) [
      | inl h ↦
          let x = short_is (size_of size - length bytes) n (rw h.0 at e) in
          rw (lt-ltb (length (bytes ++ more)) (size_of size) (omega (arith, h.1, x, lt, length-append bytes more)))
          (ap (λ (k : ℕ). err {A = M × List ℕ} (Short k)) (omega (arith, h.1, x, length-append bytes more)))
      | inr h ↦
          let y = short_accepted (accepts (value_of size bytes)) _ field n (rw h.0 at e) in
          rw (more_long bytes more (size_of size) h.1, take-append-le (size_of size) bytes more h.1, drop-append-le (size_of size) bytes more h.1, y.0)
          (still_short (next (value_of size bytes)) (drop (size_of size) bytes) more n y.1 lt)
    ]
still_short {M} (Block count next) bytes more n e lt =
    elim (cut count bytes) [
      | inl h ↦
          let x = short_is (count - length bytes) n (rw h.0 at e) in
          rw (lt-ltb (length (bytes ++ more)) count (omega (arith, h.1, x, lt, length-append bytes more)))
          (ap (λ (k : ℕ). err {A = M × List ℕ} (Short k)) (omega (arith, h.1, x, length-append bytes more)))
      | inr h ↦
          rw (more_long bytes more count h.1, take-append-le count bytes more h.1, drop-append-le count bytes more h.1)
          (still_short (next (take count bytes)) (drop count bytes) more n (rw h.0 at e) lt)
    ]
still_short {M} (Done message) bytes more n e lt = absurd cc

-- bytes and what is missing behind them are no longer
pub within_most : {M : Type 0} (form : Form M) (most : ℕ) (bytes : List ℕ) (n : ℕ) → Within form most → read form bytes ≡ Err (Short n) → length bytes + n ≤ most
within_most {M} (Number size next) most bytes n w e =
    elim (cut (size_of size) bytes) [
      | inl h ↦ let x = short_is (size_of size - length bytes) n (rw h.0 at e) in omega (arith, h.1, x, w.0)
      | inr h ↦ let x = within_most (next (value_of size bytes)) (most - size_of size) (drop (size_of size) bytes) n (w.1 (value_of size bytes)) (rw h.0 at e) in omega (arith, h.1, x, w.0, length-drop (size_of size) bytes)
    ]
within_most {M} (Judged size field accepts next) most bytes n w e =
    elim (cut (size_of size) bytes) [
      | inl h ↦ let x = short_is (size_of size - length bytes) n (rw h.0 at e) in omega (arith, h.1, x, w.0)
      | inr h ↦
          let y = short_accepted (accepts (value_of size bytes)) _ field n (rw h.0 at e) in
          let x = within_most (next (value_of size bytes)) (most - size_of size) (drop (size_of size) bytes) n (w.1 (value_of size bytes) y.0) y.1 in omega (arith, h.1, x, w.0, length-drop (size_of size) bytes)
    ]
within_most {M} (Block count next) most bytes n w e =
    elim (cut count bytes) [
      | inl h ↦ let x = short_is (count - length bytes) n (rw h.0 at e) in omega (arith, h.1, x, w.0)
      | inr h ↦ let x = within_most (next (take count bytes)) (most - count) (drop count bytes) n (w.1 (take count bytes)) (rw h.0 at e) in omega (arith, h.1, x, w.0, length-drop count bytes)
    ]
within_most {M} (Done message) most bytes n w e = absurd cc
