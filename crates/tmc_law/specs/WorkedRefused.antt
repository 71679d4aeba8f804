-- bytes at which the device closes
use Rattle.std.specs.Prelude.{ℕ, List, [], ◌∷◌, ◌++◌, map}
use Rattle.std.specs.List.{range_with_len}
use Rattle.tmc_base.specs.declared.field.Field.{Field}
use Rattle.tmc_base.specs.declared.field.Layer.TheVariants.{Urb}
use Rattle.tmc_base.specs.declared.field.Name.TheVariants as name
use Rattle.tmc_law.specs.State.{Pending, arrived}
use Rattle.tmc_law.specs.Step.{Refuses}
use Rattle.tmc_law.specs.Run.{Entry}
use Rattle.tmc_law.specs.WorkedSession.{devid, in_submit, submits, step}

-- a submit of 4096 bytes on Bulk-IN, with number 1
abbrev pub again_text : List ℕ
again_text =
    0x00 ∷ 0x00 ∷ 0x00 ∷ 0x01 ∷ 0x00 ∷ 0x00 ∷ 0x00 ∷ 0x01 ∷ 0x00 ∷ 0x01 ∷ 0x00 ∷ 0x02 ∷ 0x00 ∷ 0x00 ∷ 0x00 ∷ 0x01
    ∷ 0x00 ∷ 0x00 ∷ 0x00 ∷ 0x02 ∷ 0x00 ∷ 0x00 ∷ 0x00 ∷ 0x00 ∷ 0x00 ∷ 0x00 ∷ 0x10 ∷ 0x00 ∷ 0x00 ∷ 0x00 ∷ 0x00 ∷ 0x00
    ∷ 0xff ∷ 0xff ∷ 0xff ∷ 0xff ∷ 0x00 ∷ 0x00 ∷ 0x00 ∷ 0x00 ∷ 0x00 ∷ 0x00 ∷ 0x00 ∷ 0x00 ∷ 0x00 ∷ 0x00 ∷ 0x00 ∷ 0x00
    ∷ []

-- a field of a URB message
abbrev pub number_field : Field
number_field = record { layer = Urb; name = name.Seqnum; offset = 4 }

abbrev pub pending_field : Field
pending_field = record { layer = Urb; name = name.Pending; offset = 4 }

abbrev pub command_field : Field
command_field = record { layer = Urb; name = name.Command; offset = 0 }

-- the number is that of a pending submit
abbrev pub coming_twice : List Entry
coming_twice = submits (in_submit 1 4096) [] ∷ step (Refuses devid again_text number_field) [] ∷ []

-- there is no message 7
abbrev pub coming_wrong : List Entry
coming_wrong = step (Refuses devid (0x00 ∷ 0x00 ∷ 0x00 ∷ 0x07 ∷ []) command_field) [] ∷ []

-- a submit of 4096 bytes on Bulk-IN, with number 257
abbrev pub many_text : List ℕ
many_text =
    0x00 ∷ 0x00 ∷ 0x00 ∷ 0x01 ∷ 0x00 ∷ 0x00 ∷ 0x01 ∷ 0x01 ∷ 0x00 ∷ 0x01 ∷ 0x00 ∷ 0x02 ∷ 0x00 ∷ 0x00 ∷ 0x00 ∷ 0x01
    ∷ 0x00 ∷ 0x00 ∷ 0x00 ∷ 0x02 ∷ 0x00 ∷ 0x00 ∷ 0x00 ∷ 0x00 ∷ 0x00 ∷ 0x00 ∷ 0x10 ∷ 0x00 ∷ 0x00 ∷ 0x00 ∷ 0x00 ∷ 0x00
    ∷ 0xff ∷ 0xff ∷ 0xff ∷ 0xff ∷ 0x00 ∷ 0x00 ∷ 0x00 ∷ 0x00 ∷ 0x00 ∷ 0x00 ∷ 0x00 ∷ 0x00 ∷ 0x00 ∷ 0x00 ∷ 0x00 ∷ 0x00
    ∷ []

-- a submit with this number comes, and is pending
abbrev pub one_comes : (seqnum : ℕ) → Entry
one_comes seqnum = submits (in_submit seqnum 4096) []

abbrev pub one_came : (seqnum : ℕ) → Pending
one_came seqnum = arrived (in_submit seqnum 4096) []

-- 256 submits are as many as may be pending
abbrev pub coming_many : List Entry
coming_many = map one_comes (range_with_len 1 256) ++ step (Refuses devid many_text pending_field) [] ∷ []
