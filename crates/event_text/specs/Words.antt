-- lines, words, numbers and HEX
use Rattle.std.specs.Prelude.{ℕ, ◌^◌, ◌≡◌, ◌==◌, ◌&&◌, false, nat_lt, Option, Some, None, Result, Ok, Err, List, [], ◌∷◌, if◌then◌else◌, codes}
use Rattle.std.specs.Fmt.{decimal}
use Rattle.std.specs.List.{slice_split, onto_first}
use Rattle.std.specs.Str.{bytes_eq}
use Rattle.std.specs.Str.Parse.{digits_value}
use Rattle.hex.specs.Hex.{encode_lower, decode_of}
use Rattle.hex.specs.declared.error.FromHexError.{FromHexError}

-- a byte that ends no line
abbrev pub IsInside : ℕ → Type 0
IsInside byte = (byte == 10) ≡ false

-- the lines of a text, each without its NL, which the last may lack
abbrev pub lines_of : List ℕ → List (List ℕ)
lines_of [] = []
lines_of (byte ∷ bytes) = if byte == 10 then [] ∷ lines_of bytes else onto_first byte (lines_of bytes)

-- the words of a line, parted by one space each
abbrev pub words_of : List ℕ → List (List ℕ)
words_of line = slice_split (λ byte. byte == 32) line

-- the number that a word is. It is decimal without sign or leading zero, so the word is what is written of the number.
abbrev pub number_of : List ℕ → Option ℕ
number_of word =
    if nat_lt (digits_value 10 word) (2 ^ 32) && bytes_eq (decimal (digits_value 10 word)) word then Some (digits_value 10 word)
    else None

-- bytes as one word: two lower-case digits each, and `-` where there are none
abbrev pub hex_word : List ℕ → List ℕ
hex_word [] = codes "-"
hex_word (byte ∷ bytes) = encode_lower (byte ∷ bytes)

-- these bytes, where this word is what is written of them
abbrev pub if_written : List ℕ → Result (List ℕ) FromHexError → Option (List ℕ)
if_written word (Ok bytes) = if bytes_eq (hex_word bytes) word then Some bytes else None
if_written word (Err fault) = None

-- the bytes that a word is
abbrev pub bytes_of : List ℕ → Option (List ℕ)
bytes_of word = if bytes_eq word (codes "-") then Some [] else if_written word (decode_of word)
