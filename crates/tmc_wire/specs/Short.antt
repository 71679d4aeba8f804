-- the fault of a text that is shorter than its layout: how many bytes came
use Rattle.std.specs.Prelude.{ℕ, List, length}
use Rattle.tmc_base.specs.declared.field.Field.{Field}
use Rattle.tmc_base.specs.declared.field.Layer.TheVariants.{Control, Notify}
use Rattle.tmc_base.specs.declared.field.Name.TheVariants.{Length}

abbrev pub short_answer : List ℕ → Field
short_answer bytes = record { layer = Control; name = Length; offset = length bytes }

abbrev pub short_packet : List ℕ → Field
short_packet bytes = record { layer = Notify; name = Length; offset = length bytes }
