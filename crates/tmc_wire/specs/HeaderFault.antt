-- why bytes are no bulk header (USBTMC 1.0, section 3.2 and table 1)
use Rattle.std.specs.Prelude.{◌≡◌, ◌≢◌, ℕ, ◌-◌, ◌<◌, Bool, false, ◌||◌, ◌==◌, List, length, slice_index, slice_range}
use Rattle.std.specs.Int.{w32, from_le_bytes}
use Rattle.tmc_wire.specs.declared.header_fault.HeaderFault.{HeaderFault}
use Rattle.tmc_wire.specs.declared.header_fault.HeaderFault.TheVariants.{Length, MsgId, Tag, Inverse, Size}
use Rattle.tmc_wire.specs.Standard.{header_size, dev_dep_msg_out, request_dev_dep_msg_in, dev_dep_msg_in, trigger}

-- the fields of a header at their offsets
abbrev pub MsgID : List ℕ → ℕ
MsgID bytes = slice_index bytes 0

abbrev pub bTag : List ℕ → ℕ
bTag bytes = slice_index bytes 1

abbrev pub bTagInverse : List ℕ → ℕ
bTagInverse bytes = slice_index bytes 2

-- in each header but a trigger's, the lowest byte first
abbrev pub TransferSize : List ℕ → ℕ
TransferSize bytes = from_le_bytes w32 (slice_range bytes 4 8)

-- the messages of a Bulk-OUT transfer, and that of a Bulk-IN transfer
abbrev pub is_out_message : ℕ → Bool
is_out_message msg_id = msg_id == dev_dep_msg_out || (msg_id == request_dev_dep_msg_in || msg_id == trigger)

abbrev pub is_in_message : ℕ → Bool
is_in_message msg_id = msg_id == dev_dep_msg_in

-- the bytes have this fault, whether or not they have others too
abbrev pub HasFault : (is_message : ℕ → Bool) (bytes : List ℕ) → HeaderFault → Type 0
HasFault is_message bytes Length = length bytes < header_size
HasFault is_message bytes MsgId = is_message (MsgID bytes) ≡ false
HasFault is_message bytes Tag = bTag bytes ≡ 0
HasFault is_message bytes Inverse = bTagInverse bytes ≢ 255 - bTag bytes
HasFault is_message bytes Size = (MsgID bytes ≢ trigger) × (TransferSize bytes ≡ 0)

-- the order in which faults are tried
abbrev pub place_of : HeaderFault → ℕ
place_of Length = 0
place_of MsgId = 1
place_of Tag = 2
place_of Inverse = 3
place_of Size = 4

-- the first fault that the bytes have
pub record IsFirstFault (is_message : ℕ → Bool) (bytes : List ℕ) (fault : HeaderFault) : Type 0 where
  pub here : HasFault is_message bytes fault
  pub first : (other : HeaderFault) → place_of other < place_of fault → HasFault is_message bytes other → ⊥

abbrev pub IsOutFault : List ℕ → HeaderFault → Type 0
IsOutFault = IsFirstFault is_out_message

abbrev pub IsInFault : List ℕ → HeaderFault → Type 0
IsInFault = IsFirstFault is_in_message
