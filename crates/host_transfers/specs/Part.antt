-- a message on its way out: its parts, each in a transfer of its own (USBTMC 1.0, section 3.2.1.1)
use Rattle.std.specs.Prelude.{◌≡◌, ℕ, ◌+◌, ◌==◌, Bool, Some, List, ◌++◌, length, slice_get}
use Rattle.tmc_wire.specs.declared.header.OutHeader.{OutHeader}
use Rattle.tmc_wire.specs.Header.{out_header_bytes}
use Rattle.tmc_wire.specs.Transfer.{alignment_of}

-- this is the part of this number, counted from 0, and it has EOM where it is the last one
pub record IsPart (parts : List (List ℕ)) (count : ℕ) (text : List ℕ) (eom : Bool) : Type 0 where
  pub here : slice_get parts count ≡ Some text
  pub last : eom ≡ (length parts == count + 1)

-- a Bulk-OUT transfer as it is written: its header, its data, and zeros up to a multiple of 4
abbrev pub transfer : OutHeader → List ℕ → List ℕ
transfer header text = out_header_bytes header ++ (text ++ alignment_of (length text))
