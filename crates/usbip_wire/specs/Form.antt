-- A message as a row of fields, which is proved equal to the layouts: what is judged, and how far some bytes go.
use Rattle.std.specs.Prelude.{◌≡◌, ℕ, ◌-◌, ◌<◌, ◌^◌, Bool, true, List, [], ◌++◌, length, take, drop, Result, Ok, Err, nat_lt, if◌then◌else◌}
use Rattle.std.specs.Bool.{MatchBool}
use Rattle.std.specs.Int.{Width, w16, w32, byte_len, from_be_bytes, to_be_bytes}
use Rattle.tmc_base.specs.declared.field.Field.{Field}
use Rattle.usbip_wire.specs.declared.stop.Stop.{Stop}
use Rattle.usbip_wire.specs.declared.stop.Stop.TheVariants.{Short, Refused}

-- a number of two bytes or of four, the highest byte first
pub data Size : Type 0 where
  Two : Size
  Four : Size

abbrev pub width : Size → Width
width Two = w16
width Four = w32

abbrev pub limit : Size → ℕ
limit Two = 2 ^ 16
limit Four = 2 ^ 32

-- The fields of a message in order. What follows a field may depend on its value. A judged field has an
-- accepted value, any other may hold anything.
pub data Form (M : Type 0) : Type 0 where
  Number : (size : Size) (next : ℕ → Form M) → Form M
  Judged : (size : Size) (field : Field) (accepts : ℕ → Bool) (next : ℕ → Form M) → Form M
  Block : (count : ℕ) (next : List ℕ → Form M) → Form M
  Done : (message : M) → Form M

-- these bytes are this message
abbrev pub Spelled : {M : Type 0} → Form M → M → List ℕ → Type 0
Spelled (Number size next) m bytes =
    (value : ℕ) × (rest : List ℕ) × (value < limit size) × (bytes ≡ to_be_bytes (width size) value ++ rest) × Spelled (next value) m rest
Spelled (Judged size field accepts next) m bytes =
    (value : ℕ) × (rest : List ℕ) × (value < limit size) × (accepts value ≡ true) × (bytes ≡ to_be_bytes (width size) value ++ rest) × Spelled (next value) m rest
Spelled (Block count next) m bytes =
    (front : List ℕ) × (rest : List ℕ) × (length front ≡ count) × (bytes ≡ front ++ rest) × Spelled (next front) m rest
Spelled (Done message) m bytes = (message ≡ m) × (bytes ≡ [])

-- the bytes hold this field whole, each judged field before it has an accepted value, and its own value is none
abbrev pub BadAt : {M : Type 0} → Form M → List ℕ → Field → Type 0
BadAt (Number size next) bytes f =
    (value : ℕ) × (rest : List ℕ) × (value < limit size) × (bytes ≡ to_be_bytes (width size) value ++ rest) × BadAt (next value) rest f
BadAt (Judged size field accepts next) bytes f =
    (value : ℕ) × (rest : List ℕ) × (value < limit size) × (bytes ≡ to_be_bytes (width size) value ++ rest)
    × MatchBool (accepts value) (BadAt (next value) rest f) (f ≡ field)
BadAt (Block count next) bytes f =
    (front : List ℕ) × (rest : List ℕ) × (length front ≡ count) × (bytes ≡ front ++ rest) × BadAt (next front) rest f
BadAt (Done message) bytes f = ⊥

-- a number at the front, and what follows it
abbrev pub number_at : Size → List ℕ → Result (ℕ × List ℕ) Stop
number_at size bytes =
    if nat_lt (length bytes) (byte_len (width size)) then Err (Short (byte_len (width size) - length bytes))
    else Ok (from_be_bytes (width size) (take (byte_len (width size)) bytes), drop (byte_len (width size)) bytes)

-- so many bytes at the front, and what follows them
abbrev pub block_at : ℕ → List ℕ → Result (List ℕ × List ℕ) Stop
block_at count bytes = if nat_lt (length bytes) count then Err (Short (count - length bytes)) else Ok (take count bytes, drop count bytes)

infixl 10 ◌>>=◌
abbrev pub ◌>>=◌ : {A B : Type 0} → Result A Stop → (A → Result B Stop) → Result B Stop
(Ok x) >>= f = f x
(Err e) >>= f = Err e

-- the message at the front and what follows it, or why there is none: bytes are missing, or a field is refused
abbrev pub read : {M : Type 0} → Form M → List ℕ → Result (M × List ℕ) Stop
read (Number size next) bytes = number_at size bytes >>= λ x. read (next x.0) x.1
read (Judged size field accepts next) bytes = number_at size bytes >>= λ x. if accepts x.0 then read (next x.0) x.1 else Err (Refused field)
read (Block count next) bytes = block_at count bytes >>= λ x. read (next x.0) x.1
read (Done message) bytes = Ok (message, bytes)
