-- the fields of a header as they were read: for the contracts of the readers' own functions, no public one
use Rattle.std.specs.Prelude.{◌≡◌, ◌≢◌, ℕ, Bool, true, List, ◌++◌, take}
use Rattle.tmc_wire.specs.declared.fields.Direction.{Direction}
use Rattle.tmc_wire.specs.declared.fields.Direction.TheVariants.{Out, In}
use Rattle.tmc_wire.specs.declared.fields.Fields.{Fields}
use Rattle.tmc_wire.specs.Standard.{header_size, trigger}
use Rattle.tmc_wire.specs.Header.{prefix, sized, IsTag, IsSize}
use Rattle.tmc_wire.specs.HeaderFault.{is_out_message, is_in_message}

abbrev pub is_known : Direction → ℕ → Bool
is_known Out = is_out_message
is_known In = is_in_message

-- the bytes begin with a header of this direction that has these fields
pub record AreProper (direction : Direction) (bytes : List ℕ) (fields : Fields) : Type 0 where
  pub reserved : ℕ
  pub ninth : ℕ
  pub tenth : ℕ
  pub eleventh : ℕ
  pub known : is_known direction fields.msg_id ≡ true
  pub tagged : IsTag fields.tag
  pub counted : fields.msg_id ≢ trigger → IsSize fields.size
  pub layout : take header_size bytes ≡ prefix fields.msg_id fields.tag reserved ++ sized fields.size fields.attributes ninth tenth eleventh
