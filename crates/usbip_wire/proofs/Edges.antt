-- where a bad field ends
use Rattle.std.proofs.Common.{◌≡◌, ℕ, zero, suc, ◌+◌, ◌-◌, ◌≤◌, List, [], ◌++◌, length, take, drop, Err, ap, arith, inl, inr}
use Rattle.std.proofs.lemmas.Bool.{lt-ltb}
use Rattle.std.proofs.lemmas.List.{length-append, length-drop, take-append-le, drop-append-le}
use Rattle.tmc_base.specs.declared.field.Field.{Field}
use Rattle.usbip_wire.specs.declared.stop.Stop.TheVariants.{Short, Refused}
use Rattle.usbip_wire.specs.Form.{Form, Number, Judged, Block, Done, Two, Four, BadAt, read}
use Rattle.usbip_wire.specs.JudgedFields.{field_size}
use Rattle.usbip_wire.proofs.Determined.{Placed, bad_place}
use Rattle.usbip_wire.proofs.Forms.{short_is, short_accepted, refused_by, nothing}
use Rattle.usbip_wire.proofs.Fronts.{cut, size_of, value_of, more_long}

-- nothing holds no refused field
none_refused : {M : Type 0} (form : Form M) (f : Field) → read form [] ≡ Err (Refused f) → ⊥
none_refused {M} (Number Two next) f e = cc
none_refused {M} (Number Four next) f e = cc
none_refused {M} (Judged Two field accepts next) f e = cc
none_refused {M} (Judged Four field accepts next) f e = cc
none_refused {M} (Block zero next) f e = none_refused (next []) f e
none_refused {M} (Block (suc count) next) f e = let x = rw (lt-ltb 0 (suc count) (omega arith)) at e in cc x
none_refused {M} (Done message) f e = cc

-- nor does what follows a field that the bytes just fill
none_behind : {M : Type 0} (form : Form M) (n : ℕ) (bytes : List ℕ) (f : Field) → length bytes ≤ n → read form (drop n bytes) ≡ Err (Refused f) → ⊥
none_behind form n bytes f below e =
    let none : drop n bytes ≡ [] = nothing (drop n bytes) (omega (arith, length-drop n bytes)) in
    none_refused form f (rw none at e)

-- no more bytes than are missing: then a field that is refused with them ends with them
pub exact_refused : {M : Type 0} (fields : List Field) (form : Form M) (at : ℕ) (bytes more : List ℕ) (n : ℕ) (f : Field) → Placed fields form at
    → read form bytes ≡ Err (Short n) → length more ≤ n → read form (bytes ++ more) ≡ Err (Refused f) → at + length (bytes ++ more) ≡ f.offset + field_size f
exact_refused {M} fields (Number size next) at bytes more n f p e le w =
    elim (cut (size_of size) bytes) [
      | inl h ↦
          let x = short_is (size_of size - length bytes) n (rw h.0 at e) in
          elim (cut (size_of size) (bytes ++ more)) [
            | inl g ↦ let y = rw g.0 at w in absurd (cc y)
            | inr g ↦ absurd (none_behind (next (value_of size (bytes ++ more))) (size_of size) (bytes ++ more) f (omega (arith, length-append bytes more, x, h.1, le)) (rw g.0 at w))
          ]
      | inr h ↦
          let y = exact_refused fields (next (value_of size bytes)) (at + size_of size) (drop (size_of size) bytes) more n f (p (value_of size bytes)) (rw h.0 at e) le
          (rw (more_long bytes more (size_of size) h.1, take-append-le (size_of size) bytes more h.1, drop-append-le (size_of size) bytes more h.1) at w) in
          omega (arith, y, h.1, length-append bytes more, length-append (drop (size_of size) bytes) more, length-drop (size_of size) bytes)
    ]
exact_refused {M} fields (Judged size field accepts next) at bytes more n f p e le w =
    elim (cut (size_of size) bytes) [
      | inl h ↦
          let x = short_is (size_of size - length bytes) n (rw h.0 at e) in
          elim (cut (size_of size) (bytes ++ more)) [
            | inl g ↦ let y = rw g.0 at w in absurd (cc y)
            | inr g ↦
                let long : length (bytes ++ more) ≤ size_of size = omega (arith, length-append bytes more, x, h.1, le) in
                elim (refused_by (accepts (value_of size (bytes ++ more))) (read (next (value_of size (bytes ++ more))) (drop (size_of size) (bytes ++ more))) field f (rw g.0 at w)) [
                  | inl y ↦ absurd (none_behind (next (value_of size (bytes ++ more))) (size_of size) (bytes ++ more) f long y.1)
                  | inr y ↦
                      let ends : f.offset + field_size f ≡ field.offset + field_size field = ap (λ (z : Field). z.offset + field_size z) y.1 in
                      omega (arith, ends, p.1, p.2, long, g.1)
                ]
          ]
      | inr h ↦
          let z = short_accepted (accepts (value_of size bytes)) _ field n (rw h.0 at e) in
          let y = exact_refused fields (next (value_of size bytes)) (at + size_of size) (drop (size_of size) bytes) more n f (p.3 (value_of size bytes)) z.1 le
          (rw (more_long bytes more (size_of size) h.1, take-append-le (size_of size) bytes more h.1, drop-append-le (size_of size) bytes more h.1, z.0) at w) in
          omega (arith, y, h.1, length-append bytes more, length-append (drop (size_of size) bytes) more, length-drop (size_of size) bytes)
    ]
exact_refused {M} fields (Block count next) at bytes more n f p e le w =
    elim (cut count bytes) [
      | inl h ↦
          let x = short_is (count - length bytes) n (rw h.0 at e) in
          elim (cut count (bytes ++ more)) [
            | inl g ↦ let y = rw g.0 at w in absurd (cc y)
            | inr g ↦ absurd (none_behind (next (take count (bytes ++ more))) count (bytes ++ more) f (omega (arith, length-append bytes more, x, h.1, le)) (rw g.0 at w))
          ]
      | inr h ↦
          let y = exact_refused fields (next (take count bytes)) (at + count) (drop count bytes) more n f (p (take count bytes)) (rw h.0 at e) le
          (rw (more_long bytes more count h.1, take-append-le count bytes more h.1, drop-append-le count bytes more h.1) at w) in
          omega (arith, y, h.1, length-append bytes more, length-append (drop count bytes) more, length-drop count bytes)
    ]
exact_refused {M} fields (Done message) at bytes more n f p e le w = absurd cc

-- the bytes hold a bad field whole
pub bad_within : {M : Type 0} (fields : List Field) (form : Form M) (rest : List ℕ) (f : Field) → Placed fields form 0 → BadAt form rest f → f.offset + field_size f ≤ length rest
bad_within {M} fields form rest f p bad =
    let q = bad_place fields form 0 rest f p bad in
    let long : length rest ≡ length (q.front ++ (q.value ++ q.tail)) = ap (λ (l : List ℕ). length l) q.holds in
    omega (arith, long, q.placed, q.whole, length-append q.front (q.value ++ q.tail), length-append q.value q.tail)
