-- bulk headers (USBTMC 1.0, section 3.2 and table 1; USB488 1.0, section 3.2.1 for TRIGGER)
use Rattle.std.specs.Prelude.{◌≡◌, ℕ, ◌-◌, ◌%◌, ◌^◌, ◌<◌, Bool, true, false, List, [], ◌∷◌, ◌++◌, length}
use Rattle.std.specs.Int.{w32, to_le_bytes}
use Rattle.tmc_wire.specs.declared.header.OutHeader.{OutHeader}
use Rattle.tmc_wire.specs.declared.header.OutHeader.TheVariants.{Message, Request, Trigger}
use Rattle.tmc_wire.specs.declared.header.InHeader.{InHeader}
use Rattle.tmc_wire.specs.Standard.{dev_dep_msg_out, request_dev_dep_msg_in, dev_dep_msg_in, trigger}

-- MsgID, bTag, bTagInverse, which is the one's complement of bTag, and a reserved byte
abbrev pub prefix : (msg_id tag reserved : ℕ) → List ℕ
prefix msg_id tag reserved = msg_id ∷ tag ∷ (255 - tag) ∷ reserved ∷ []

-- bytes 4 to 11 of a header with a size: TransferSize, the lowest byte first, the attributes, and three bytes
abbrev pub sized : (size attributes ninth tenth eleventh : ℕ) → List ℕ
sized size attributes ninth tenth eleventh = to_le_bytes w32 size ++ (attributes ∷ ninth ∷ tenth ∷ eleventh ∷ [])

-- bit 0 of the attributes: the last byte of the transfer ends the message
abbrev pub eom_bit : Bool → ℕ
eom_bit true = 1
eom_bit false = 0

-- bTag is 1 to 255
abbrev pub IsTag : ℕ → Type 0
IsTag tag = (0 < tag) × (tag < 256)

-- TransferSize is above 0
abbrev pub IsSize : ℕ → Type 0
IsSize size = (0 < size) × (size < 2 ^ 32)

-- a header with a size, a tag and attributes; the reserved bytes may hold anything
pub record IsSized (msg_id tag size : ℕ) (Accepts : ℕ → Type 0) (bytes : List ℕ) : Type 0 where
  pub reserved : ℕ
  pub attributes : ℕ
  pub ninth : ℕ
  pub tenth : ℕ
  pub eleventh : ℕ
  pub tagged : IsTag tag
  pub counted : IsSize size
  pub accepted : Accepts attributes
  pub layout : bytes ≡ prefix msg_id tag reserved ++ sized size attributes ninth tenth eleventh

-- a header with a tag alone
pub record IsTagged (msg_id tag : ℕ) (bytes : List ℕ) : Type 0 where
  pub reserved : ℕ
  pub ignored : List ℕ
  pub tagged : IsTag tag
  pub eight : length ignored ≡ 8
  pub layout : bytes ≡ prefix msg_id tag reserved ++ ignored

-- the attributes whose bit 0 says this
abbrev pub HasEom : Bool → ℕ → Type 0
HasEom eom attributes = attributes % 2 ≡ eom_bit eom

-- any attributes
abbrev pub Whatever : ℕ → Type 0
Whatever attributes = Unit {0}

-- these 12 bytes are this header of a Bulk-OUT transfer
abbrev pub IsOutHeader : OutHeader → List ℕ → Type 0
IsOutHeader (Message tag size eom) bytes = IsSized dev_dep_msg_out tag size (HasEom eom) bytes
IsOutHeader (Request tag size) bytes = IsSized request_dev_dep_msg_in tag size Whatever bytes
IsOutHeader (Trigger tag) bytes = IsTagged trigger tag bytes

-- these 12 bytes are this header of a Bulk-IN transfer
abbrev pub IsInHeader : InHeader → List ℕ → Type 0
IsInHeader header bytes = IsSized dev_dep_msg_in header.tag header.size (HasEom header.eom) bytes

-- a header that can be written: its tag is not 0, and its size, where it has one, is above 0
abbrev pub IsOutProper : OutHeader → Type 0
IsOutProper (Message tag size eom) = (0 < tag) × (0 < size)
IsOutProper (Request tag size) = (0 < tag) × (0 < size)
IsOutProper (Trigger tag) = 0 < tag

abbrev pub IsInProper : InHeader → Type 0
IsInProper header = (0 < header.tag) × (0 < header.size)

-- the numbers of a header fit their fields
abbrev pub OutFits : OutHeader → Type 0
OutFits (Message tag size eom) = (tag < 256) × (size < 2 ^ 32)
OutFits (Request tag size) = (tag < 256) × (size < 2 ^ 32)
OutFits (Trigger tag) = tag < 256

abbrev pub InFits : InHeader → Type 0
InFits header = (header.tag < 256) × (header.size < 2 ^ 32)

-- the headers as this product writes them, with 0 in what they do not use
unfoldable pub out_header_bytes : OutHeader → List ℕ
out_header_bytes (Message tag size eom) = prefix dev_dep_msg_out tag 0 ++ sized size (eom_bit eom) 0 0 0
out_header_bytes (Request tag size) = prefix request_dev_dep_msg_in tag 0 ++ sized size 0 0 0 0
out_header_bytes (Trigger tag) = prefix trigger tag 0 ++ (0 ∷ 0 ∷ 0 ∷ 0 ∷ 0 ∷ 0 ∷ 0 ∷ 0 ∷ [])

unfoldable pub in_header_bytes : InHeader → List ℕ
in_header_bytes header = prefix dev_dep_msg_in header.tag 0 ++ sized header.size (eom_bit header.eom) 0 0 0
