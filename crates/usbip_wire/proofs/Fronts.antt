-- a number or a block at the front of some bytes
use Rattle.std.proofs.Common.{◌≡◌, ℕ, ◌+◌, ◌<◌, ◌≤◌, true, false, ltb, List, ◌++◌, length, take, drop, refl, sym, arith, inl, inr, ◌⊎◌}
use Rattle.std.specs.Int.{byte_len, from_be_bytes, to_be_bytes}
use Rattle.std.proofs.lemmas.Bool.{cases_lt, lt-ltb, le-ltb}
use Rattle.std.proofs.lemmas.List.{take_at, drop_at, take-append-drop, length-append, length-take, get_or-drop, get_or-take, get_or_past}
use Rattle.std.proofs.lemmas.Nat.{be_bytes_2, be_bytes_4, from_be_bytes-to_be_bytes_2, from_be_bytes-to_be_bytes_4}
use Rattle.usbip_wire.specs.Form.{Size, Two, Four, width, limit}
use Rattle.usbip_wire.specs.Given.{IsBytes}

pub IsBytes-drop : (n : ℕ) (bytes : List ℕ) → IsBytes bytes → IsBytes (drop n bytes)
IsBytes-drop n bytes h i = rw get_or-drop (h (n + i))

pub IsBytes-take : (n : ℕ) (bytes : List ℕ) → IsBytes bytes → IsBytes (take n bytes)
IsBytes-take n bytes h i =
    elim (cases_lt i n) [
      | inl lt ↦ rw (get_or-take n bytes i 0 lt) (h i)
      | inr le ↦ rw (get_or_past (take n bytes) i 0 (omega (arith, length-take n bytes))) (omega arith)
    ]

-- there are fewer than n bytes, or so many
pub cut : (n : ℕ) (bytes : List ℕ)
    → ((ltb (length bytes) n ≡ true) × (length bytes < n)) ⊎ ((ltb (length bytes) n ≡ false) × (n ≤ length bytes))
cut n bytes = elim (cases_lt (length bytes) n) [ inl lt ↦ inl (lt-ltb _ _ lt, lt) | inr le ↦ inr (le-ltb _ _ le, le) ]

abbrev pub size_of : Size → ℕ
size_of size = byte_len (width size)

abbrev pub value_of : Size → List ℕ → ℕ
value_of size bytes = from_be_bytes (width size) (take (byte_len (width size)) bytes)

pub put_len : (size : Size) (n : ℕ) → length (to_be_bytes (width size) n) ≡ size_of size
put_len Two n = refl
put_len Four n = refl

pub put_back : (size : Size) (bytes : List ℕ) → length bytes ≡ size_of size → IsBytes bytes → to_be_bytes (width size) (from_be_bytes (width size) bytes) ≡ bytes
put_back Two bytes len fits = be_bytes_2 bytes _ len fits refl
put_back Four bytes len fits = be_bytes_4 bytes _ len fits refl

pub put_again : (size : Size) (n : ℕ) → n < limit size → from_be_bytes (width size) (to_be_bytes (width size) n) ≡ n
put_again Two n lt = from_be_bytes-to_be_bytes_2 n lt
put_again Four n lt = from_be_bytes-to_be_bytes_4 n lt

pub value_below : (size : Size) (bytes : List ℕ) → IsBytes bytes → from_be_bytes (width size) bytes < limit size
value_below Two bytes fits = omega (arith, fits 0, fits 1)
value_below Four bytes fits = omega (arith, fits 0, fits 1, fits 2, fits 3)

-- enough bytes are a number and what follows it
pub number_parts : (size : Size) (bytes : List ℕ) → IsBytes bytes → size_of size ≤ length bytes
    → bytes ≡ to_be_bytes (width size) (value_of size bytes) ++ drop (size_of size) bytes
number_parts size bytes fits le =
    rw (put_back size (take (size_of size) bytes) (omega (arith, length-take (size_of size) bytes)) (IsBytes-take (size_of size) bytes fits))
    (sym (take-append-drop (size_of size) bytes))

pub number_below : (size : Size) (bytes : List ℕ) → IsBytes bytes → value_of size bytes < limit size
number_below size bytes fits = value_below size (take (size_of size) bytes) (IsBytes-take (size_of size) bytes fits)

-- a number that was put is there
pub put_value : (size : Size) (n : ℕ) (rest : List ℕ) → n < limit size → value_of size (to_be_bytes (width size) n ++ rest) ≡ n
put_value size n rest lt = rw (take_at (to_be_bytes (width size) n) rest (size_of size) (put_len size n)) (put_again size n lt)

pub put_rest : (size : Size) (n : ℕ) (rest : List ℕ) → drop (size_of size) (to_be_bytes (width size) n ++ rest) ≡ rest
put_rest size n rest = drop_at (to_be_bytes (width size) n) rest (size_of size) (put_len size n)

pub put_long : (size : Size) (n : ℕ) (rest : List ℕ) → ltb (length (to_be_bytes (width size) n ++ rest)) (size_of size) ≡ false
put_long size n rest = le-ltb _ _ (omega (arith, length-append (to_be_bytes (width size) n) rest, put_len size n))

pub front_long : (front rest : List ℕ) (n : ℕ) → length front ≡ n → ltb (length (front ++ rest)) n ≡ false
front_long front rest n len = le-ltb _ _ (omega (arith, length-append front rest))

pub more_long : (bytes more : List ℕ) (n : ℕ) → n ≤ length bytes → ltb (length (bytes ++ more)) n ≡ false
more_long bytes more n le = le-ltb _ _ (omega (arith, length-append bytes more))
