-- the Bulk-IN transfers that answer a request: nothing of them is refused (USBTMC 1.0, section 3.3)
use Rattle.std.specs.Prelude.{◌≡◌, ◌≢◌, ℕ, ◌+◌, ◌-◌, ◌%◌, ◌≤◌, Bool, List, ◌++◌, length, take, drop, slice_index}
use Rattle.tmc_wire.specs.declared.header.InHeader.{InHeader}
use Rattle.tmc_wire.specs.Standard.{header_size, dev_dep_msg_in}
use Rattle.tmc_wire.specs.Header.{IsInHeader, IsTag, eom_bit}
use Rattle.tmc_wire.specs.HeaderFault.{MsgID, bTag, bTagInverse, TransferSize}
use Rattle.tmc_wire.specs.Transfer.{InText}

-- the header of a piece of so many bytes
abbrev pub header_of : (tag size : ℕ) → Bool → InHeader
header_of tag size eom = record { tag = tag; size = size; eom = eom }

-- a whole transfer that answers a request with this tag, of at most so many bytes, with this EOM and this data
pub record IsPiece (tag size : ℕ) (eom : Bool) (carried bytes : List ℕ) : Type 0 where
  pub tagged : IsTag tag
  pub some : 1 ≤ length carried
  pub few : length carried ≤ size
  pub text : InText (header_of tag (length carried) eom) carried bytes

-- such a transfer begins with these bytes, among them its header
pub record BeginsPiece (tag size : ℕ) (bytes : List ℕ) : Type 0 where
  pub eom : Bool
  pub carried : List ℕ
  pub more : List ℕ
  pub long : header_size ≤ length bytes
  pub piece : IsPiece tag size eom carried (bytes ++ more)

-- What a host that judges these bytes of a transfer finds: a header of the right kind with the tag of the request, whose size is at
-- most what was asked for, and at most 3 bytes behind the data.
pub record IsFaultless (tag size : ℕ) (bytes : List ℕ) : Type 0 where
  pub long : header_size ≤ length bytes
  pub kind : MsgID bytes ≡ dev_dep_msg_in
  pub tagged : bTag bytes ≡ tag
  pub named : tag ≢ 0
  pub inverse : bTagInverse bytes ≡ 255 - tag
  pub some : 1 ≤ TransferSize bytes
  pub few : TransferSize bytes ≤ size
  pub within : length bytes ≤ header_size + TransferSize bytes + 3
  pub eom : Bool
  pub headed : IsInHeader (header_of tag (TransferSize bytes) eom) (take header_size bytes)

-- What it finds in a whole one besides: the data ended before the transfer did, EOM is bit 0 of byte 8, and the data is this.
pub record IsWhole (eom : Bool) (carried bytes : List ℕ) : Type 0 where
  pub complete : header_size + TransferSize bytes ≤ length bytes
  pub last : slice_index bytes 8 % 2 ≡ eom_bit eom
  pub data_is : take (TransferSize bytes) (drop header_size bytes) ≡ carried
