-- a piece of a response, assembled from its reads
use Rattle.std.specs.Prelude.{◌≡◌, ◌⊎◌, ℕ, ◌+◌, ◌<◌, ◌≤◌, Bool, true, false, List, [], ◌∷◌, ◌++◌, length, take, slice_range}
use Rattle.host_transfers.specs.declared.piece.Piece.{Piece}
use Rattle.host_transfers.specs.declared.piece.Piece.TheVariants.{Data, Ended, Bad}
use Rattle.host_transfers.specs.Answer.{Answers, GoesOn, Refuses}
use Rattle.host_transfers.specs.Piece.{data_of}
use Rattle.tmc_wire.specs.declared.header.InHeader.{InHeader}
use Rattle.tmc_wire.specs.Standard.{header_size}

-- what is kept: of the transfer's bytes, those of its header, and how many came
pub record Held : Type 0 where
  pub tag : ℕ
  pub size : ℕ
  pub head : List ℕ
  pub count : ℕ
  -- the transfer has ended, or is refused
  pub over : Bool

-- it is kept of these bytes
pub record Holds (bytes : List ℕ) (held : Held) : Type 0 where
  pub header : held.head ≡ take header_size bytes
  pub counted : held.count ≡ length bytes

-- it is kept of some bytes, of which there are few while it goes on
pub record IsKept (held : Held) : Type 0 where
  pub bytes : List ℕ
  pub holds : Holds bytes held
  pub few : held.over ≡ false → held.count ≤ held.size + 15

-- behind all that came before, these bytes of the read are the data that it adds
pub record Gives (all read : List ℕ) (from to : ℕ) : Type 0 where
  pub ordered : from ≤ to
  pub within : to ≤ length read
  pub added : data_of (all ++ read) ≡ data_of all ++ slice_range read from to

-- the bytes may be an answer's first ones: the header is not whole yet, or a transfer goes on
abbrev pub IsOpen : (tag size : ℕ) (bytes : List ℕ) → Type 0
IsOpen tag size bytes = (length bytes < header_size) ⊎ GoesOn tag size bytes

-- what is said of a read behind all that came before, by whether it ends the transfer
abbrev pub Says : (tag size : ℕ) (all read : List ℕ) (short : Bool) → Piece → Type 0
Says tag size all read short (Data from to) = (short ≡ false) × Gives all read from to × IsOpen tag size (all ++ read)
Says tag size all read short (Ended from to eom) =
    (short ≡ true) × Gives all read from to × (header : InHeader) × Answers tag size header (data_of (all ++ read)) (all ++ read) × (header.eom ≡ eom)
Says tag size all read short (Bad field) = Refuses tag size (all ++ read) short field

-- nothing is read behind it
abbrev pub is_over : Piece → Bool
is_over (Data from to) = false
is_over (Ended from to eom) = true
is_over (Bad field) = true

-- ---- all reads of a transfer

pub record Read : Type 0 where
  pub read : List ℕ
  pub short : Bool
  pub said : Piece

-- these were said of reads in a row
abbrev pub AreSaid : (tag size : ℕ) (all : List ℕ) → List Read → Type 0
AreSaid tag size all [] = Unit {0}
AreSaid tag size all (one ∷ reads) = Says tag size all one.read one.short one.said × AreSaid tag size (all ++ one.read) reads

-- all bytes of these reads
abbrev pub bytes_of : List Read → List ℕ
bytes_of [] = []
bytes_of (one ∷ reads) = one.read ++ bytes_of reads

-- the data that was given of them
abbrev pub given_by : Piece → List ℕ → List ℕ
given_by (Data from to) read = slice_range read from to
given_by (Ended from to eom) read = slice_range read from to
given_by (Bad field) read = []

abbrev pub given : List Read → List ℕ
given [] = []
given (one ∷ reads) = given_by one.said one.read ++ given reads

-- none was refused
abbrev pub IsGood : Piece → Type 0
IsGood (Data from to) = Unit {0}
IsGood (Ended from to eom) = Unit {0}
IsGood (Bad field) = ⊥

abbrev pub AreGood : List Read → Type 0
AreGood [] = Unit {0}
AreGood (one ∷ reads) = IsGood one.said × AreGood reads
