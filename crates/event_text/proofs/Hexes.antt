-- a word is HEX of bytes exactly where it is what is written of them
use Rattle.std.proofs.Common.{◌≡◌, ℕ, Bool, true, false, cond, Some, None, Result, Ok, Err, List, [], ◌∷◌, length, codes, refl, sym, ap, ◌∙◌, arith}
use Rattle.std.proofs.lemmas.Slice.Eq.{bytes_eq-Decides}
use Rattle.std.specs.Str.{bytes_eq}
use Rattle.hex.proofs.HexLemmas.{decode_of-encode_lower}
use Rattle.hex.specs.Hex.{IsBytes, decode_of, encode_lower, encode_with}
use Rattle.hex.specs.declared.error.FromHexError.{FromHexError}
use Rattle.event_text.specs.Words.{bytes_of, if_written, hex_word}

written_by : (word bytes other : List ℕ) (b : Bool) → bytes_eq (hex_word other) word ≡ b → cond b (Some other) None ≡ Some bytes → word ≡ hex_word bytes
written_by word bytes other true e same =
    let one : other ≡ bytes = cc in
    sym ((bytes_eq-Decides (hex_word other) word).0 e) ∙ ap hex_word one
written_by word bytes other false e same = absurd (cc same)

decoded_by : (word bytes : List ℕ) (r : Result (List ℕ) FromHexError) → if_written word r ≡ Some bytes → word ≡ hex_word bytes
decoded_by word bytes (Ok other) same = written_by word bytes other _ refl same
decoded_by word bytes (Err fault) same = absurd (cc same)

none_by : (word bytes : List ℕ) (b : Bool) → bytes_eq word (codes "-") ≡ b → cond b (Some []) (if_written word (decode_of word)) ≡ Some bytes → word ≡ hex_word bytes
none_by word bytes true e same =
    let one : [] ≡ bytes = cc in
    (bytes_eq-Decides word (codes "-")).0 e ∙ ap hex_word one
none_by word bytes false e same = decoded_by word bytes (decode_of word) same

pub bytes_was : (word bytes : List ℕ) → bytes_of word ≡ Some bytes → word ≡ hex_word bytes
bytes_was word bytes same = none_by word bytes _ refl same

-- two digits are no dash
no_dash : (byte : ℕ) (bytes : List ℕ) → bytes_eq (encode_lower (byte ∷ bytes)) (codes "-") ≡ true → ⊥
unfolding encode_with
no_dash byte bytes e =
    let same : encode_lower (byte ∷ bytes) ≡ codes "-" = (bytes_eq-Decides (encode_lower (byte ∷ bytes)) (codes "-")).0 e in
    omega (arith, ap length same)

dash_by : (word bytes : List ℕ) (b : Bool) → bytes_eq word (codes "-") ≡ b → (b ≡ true → ⊥) → if_written word (decode_of word) ≡ Some bytes
    → cond b (Some []) (if_written word (decode_of word)) ≡ Some bytes
dash_by word bytes true e never same = absurd (never refl)
dash_by word bytes false e never same = same

written : (word bytes : List ℕ) → word ≡ hex_word bytes → cond (bytes_eq (hex_word bytes) word) (Some bytes) None ≡ Some bytes
written word bytes e = ap (λ b. cond b (Some bytes) None) ((bytes_eq-Decides (hex_word bytes) word).1 (sym e))

pub bytes_is : (bytes : List ℕ) → IsBytes bytes → bytes_of (hex_word bytes) ≡ Some bytes
bytes_is [] fits = refl
bytes_is (byte ∷ bytes) fits =
    let word : List ℕ = encode_lower (byte ∷ bytes) in
    dash_by word (byte ∷ bytes) _ refl (λ e. no_dash byte bytes e)
    (ap (if_written word) (decode_of-encode_lower (byte ∷ bytes) fits) ∙ written word (byte ∷ bytes) refl)
