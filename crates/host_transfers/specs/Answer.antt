-- the Bulk-IN transfer that answers a request, as far as its bytes came (USBTMC 1.0, section 3.3)
use Rattle.std.specs.Prelude.{◌≡◌, ◌≢◌, ◌⊎◌, ℕ, ◌+◌, ◌<◌, ◌≤◌, Bool, true, List, ◌++◌, length, take}
use Rattle.tmc_base.specs.declared.field.Field.{Field}
use Rattle.tmc_base.specs.declared.field.Layer.TheVariants.{Bulk}
use Rattle.tmc_base.specs.declared.field.Name.{Name}
use Rattle.tmc_base.specs.declared.field.Name.TheVariants as name
use Rattle.tmc_wire.specs.declared.header.InHeader.{InHeader}
use Rattle.tmc_wire.specs.declared.header_fault.HeaderFault.{HeaderFault}
use Rattle.tmc_wire.specs.declared.header_fault.HeaderFault.TheVariants as fault
use Rattle.tmc_wire.specs.Header.{IsInHeader}
use Rattle.tmc_wire.specs.HeaderFault.{IsInFault}
use Rattle.tmc_wire.specs.Standard.{header_size}
use Rattle.tmc_wire.specs.Transfer.{InText}

-- these bytes are a transfer that answers a request with this tag, of at most so many bytes of data
pub record Answers (tag size : ℕ) (header : InHeader) (message bytes : List ℕ) : Type 0 where
  pub tagged : header.tag ≡ tag
  pub few : header.size ≤ size
  pub text : InText header message bytes

-- such a transfer begins with these bytes
pub record GoesOn (tag size : ℕ) (bytes : List ℕ) : Type 0 where
  pub header : InHeader
  pub message : List ℕ
  pub more : List ℕ
  pub answers : Answers tag size header message (bytes ++ more)

-- ---- the refused field

abbrev pub bulk : Name → (offset : ℕ) → Field
bulk name offset = record { layer = Bulk; name = name; offset = offset }

-- that of a header's fault; a transfer that is too short is refused at the length of a header
abbrev pub field_of : HeaderFault → Field
field_of fault.Length = bulk name.Length 12
field_of fault.MsgId = bulk name.MsgId 0
field_of fault.Tag = bulk name.Tag 1
field_of fault.Inverse = bulk name.Inverse 2
field_of fault.Size = bulk name.Size 4

-- the bytes begin with this header, which answers the request
pub record Fits (tag size : ℕ) (bytes : List ℕ) (header : InHeader) : Type 0 where
  pub headed : IsInHeader header (take header_size bytes)
  pub tagged : header.tag ≡ tag
  pub few : header.size ≤ size

-- The first field at which these bytes are refused. A header is judged when it is whole, or the transfer has ended: all of
-- its own faults in their order, then its tag, then its size, and then the length of the transfer.
pub data Refuses (tag size : ℕ) (bytes : List ℕ) (ended : Bool) (field : Field) : Type 0 where
  -- the header has this fault
  Faulty : (fault : HeaderFault) → (ended ≡ true) ⊎ (header_size ≤ length bytes) → IsInFault (take header_size bytes) fault → field ≡ field_of fault
      → Refuses tag size bytes ended field
  -- the header answers a request with another tag
  OtherTag : (header : InHeader) → IsInHeader header (take header_size bytes) → header.tag ≢ tag → field ≡ bulk name.Tag 1
      → Refuses tag size bytes ended field
  -- the header tells of more data than was requested
  TooMuch : (header : InHeader) → IsInHeader header (take header_size bytes) → header.tag ≡ tag → size < header.size → field ≡ bulk name.Size 4
      → Refuses tag size bytes ended field
  -- the transfer ended before its data did
  EndsEarly : (header : InHeader) → Fits tag size bytes header → ended ≡ true → length bytes < header_size + header.size → field ≡ bulk name.Length 12
      → Refuses tag size bytes ended field
  -- more than 3 bytes follow the data
  GoesFurther : (header : InHeader) → Fits tag size bytes header → header_size + header.size + 3 < length bytes → field ≡ bulk name.Length 12
      → Refuses tag size bytes ended field
