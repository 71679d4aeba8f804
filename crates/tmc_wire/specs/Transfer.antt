-- bulk transfers: a header, the data, and the bytes behind it (USBTMC 1.0, sections 3.2 and 3.3)
use Rattle.std.specs.Prelude.{◌≡◌, ℕ, ◌-◌, ◌%◌, ◌<◌, List, ◌++◌, length, replicate}
use Rattle.tmc_wire.specs.declared.header.OutHeader.{OutHeader}
use Rattle.tmc_wire.specs.declared.header.OutHeader.TheVariants.{Message, Request, Trigger}
use Rattle.tmc_wire.specs.declared.header.InHeader.{InHeader}
use Rattle.tmc_wire.specs.Header.{IsOutHeader, IsInHeader}

-- how many bytes of data follow the header of a Bulk-OUT transfer
abbrev pub data_size : OutHeader → ℕ
data_size (Message tag size eom) = size
data_size (Request tag size) = 0
data_size (Trigger tag) = 0

-- these bytes are a Bulk-OUT transfer: its header, its data, and alignment bytes of any value up to a multiple of 4
pub record OutText (header : OutHeader) (message bytes : List ℕ) : Type 0 where
  pub head : List ℕ
  pub alignment : List ℕ
  pub headed : IsOutHeader header head
  pub counted : length message ≡ data_size header
  pub least : length alignment < 4
  pub aligned : length bytes % 4 ≡ 0
  pub layout : bytes ≡ head ++ (message ++ alignment)

-- these bytes are a Bulk-IN transfer: its header, its data, and at most 3 further bytes of any value
pub record InText (header : InHeader) (message bytes : List ℕ) : Type 0 where
  pub head : List ℕ
  pub alignment : List ℕ
  pub headed : IsInHeader header head
  pub counted : length message ≡ header.size
  pub least : length alignment < 4
  pub layout : bytes ≡ head ++ (message ++ alignment)

-- the zeros behind data of this length up to a multiple of 4; a header has 12 bytes
abbrev pub alignment_of : ℕ → List ℕ
alignment_of size = replicate ((4 - size % 4) % 4) 0
