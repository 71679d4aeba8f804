-- a message that is whole at the front of a piece
use Rattle.std.proofs.Common.{◌≡◌, ℕ, ◌+◌, ◌-◌, ◌≤◌, List, [], ◌++◌, length, take, Ok, sym, subst, ap, ◌∙◌, arith}
use Rattle.std.specs.Int.{to_be_bytes}
use Rattle.std.proofs.lemmas.List.{take_at, append-nil, length-append}
use Rattle.usbip_wire.specs.Form.{Form, Number, Judged, Block, Done, width, Spelled, read}
use Rattle.usbip_wire.specs.Given.{IsBytes}
use Rattle.usbip_wire.proofs.Forms.{Within, complete, sound}
use Rattle.usbip_wire.proofs.Fronts.{put_len, size_of}

-- the bytes of a piece before those that a message leaves
abbrev pub front : (piece left : List ℕ) → List ℕ
front piece left = take (length piece - length left) piece

-- a spelling is no longer than its form's messages
pub spelled_within : {M : Type 0} (form : Form M) (most : ℕ) (m : M) (bytes : List ℕ) → Within form most → Spelled form m bytes → length bytes ≤ most
spelled_within {M} (Number size next) most m bytes w (n, rest, below, parts, s) =
    let x = spelled_within (next n) (most - size_of size) m rest (w.1 n) s in
    omega (arith, x, w.0, ap length parts, length-append (to_be_bytes (width size) n) rest, put_len size n)
spelled_within {M} (Judged size field accepts next) most m bytes w (n, rest, below, accepted, parts, s) =
    let x = spelled_within (next n) (most - size_of size) m rest (w.1 n accepted) s in
    omega (arith, x, w.0, ap length parts, length-append (to_be_bytes (width size) n) rest, put_len size n)
spelled_within {M} (Block count next) most m bytes w (block, rest, len, parts, s) =
    let x = spelled_within (next block) (most - count) m rest (w.1 block) s in
    omega (arith, x, w.0, ap length parts, length-append block rest, len)
spelled_within {M} (Done message) most m bytes w s = omega (arith, ap length s.1)

module _ {M : Type 0} (form : Form M) (piece left : List ℕ) (m : M) (fits : IsBytes piece) (e : read form piece ≡ Ok (m, left)) where
  parted : (first : List ℕ) × (piece ≡ first ++ left) × Spelled form m first
  parted = sound form piece m left fits e

  long : length piece ≡ length parted.0 + length left
  long = ap length parted.1 ∙ length-append parted.0 left

  is_front : front piece left ≡ parted.0
  is_front = ap (take (length piece - length left)) parted.1 ∙ take_at parted.0 left (length piece - length left) (omega (arith, long))

  pub front_used : length left ≤ length piece
  front_used = omega (arith, long)

  -- the message is read of the front alone, and nothing is left
  pub front_read : read form (front piece left) ≡ Ok (m, [])
  front_read =
      subst (λ (l : List ℕ). read form l ≡ Ok (m, [])) (sym is_front)
      (subst (λ (l : List ℕ). read form l ≡ Ok (m, [])) (append-nil parted.0) (complete form m parted.0 [] parted.2))

  pub front_within : (most : ℕ) → Within form most → length (front piece left) ≤ most
  front_within most w = omega (arith, ap length is_front, spelled_within form most m parted.0 w parted.2)
