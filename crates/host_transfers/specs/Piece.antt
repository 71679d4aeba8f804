-- a piece of a response: what the bytes of its transfer, as far as they came, hold (USBTMC 1.0, section 3.3)
use Rattle.std.specs.Prelude.{ℕ, ◌==◌, ◌%◌, Bool, List, take, drop, slice_index}
use Rattle.tmc_wire.specs.HeaderFault.{TransferSize}
use Rattle.tmc_wire.specs.Standard.{header_size}

-- the data behind the header, without alignment bytes
abbrev pub data_of : List ℕ → List ℕ
data_of bytes = take (TransferSize bytes) (drop header_size bytes)

-- EOM is bit 0 of bmTransferAttributes: the response ends with this piece
abbrev pub eom_of : List ℕ → Bool
eom_of bytes = (slice_index bytes 8) % 2 == 1
