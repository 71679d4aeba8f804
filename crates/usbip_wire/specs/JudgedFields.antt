-- which fields of a message a reader judges, in their order
use Rattle.std.specs.Prelude.{ℕ, zero, ◌+◌, ◌-◌, List, [], ◌∷◌, length}
use Rattle.tmc_base.specs.declared.field.Field.{Field}
use Rattle.tmc_base.specs.declared.field.Layer.{Layer}
use Rattle.tmc_base.specs.declared.field.Layer.TheVariants.{Op}
use Rattle.usbip_wire.specs.declared.fields.TheConstants.{VERSION, CODE, COMMAND, SEQNUM, DEVID, DIRECTION, ENDPOINT, BUFFER_LENGTH, ACTUAL_LENGTH, PACKETS}

-- the bytes of a judged field: a version and a code have two, each field of a URB message has four
abbrev pub bytes_in : Layer → ℕ
bytes_in Op = 2
bytes_in layer = 4

abbrev pub field_size : Field → ℕ
field_size f = bytes_in f.layer

-- so many bytes more end with this field's last byte
abbrev pub missing_for : Field → List ℕ → ℕ
missing_for f bytes = f.offset + field_size f - length bytes

-- of an operation
abbrev pub op_fields : List Field
op_fields = VERSION ∷ CODE ∷ []

-- of a part of an operation's answer, where so many devices and interfaces are awaited: its head alone is judged
abbrev pub part_fields : ℕ → ℕ → List Field
part_fields zero zero = op_fields
part_fields devices interfaces = []

-- of a submit or an unlink
abbrev pub urb_fields : List Field
urb_fields = COMMAND ∷ DEVID ∷ DIRECTION ∷ ENDPOINT ∷ BUFFER_LENGTH ∷ PACKETS ∷ []

-- of an answer to one, behind its command
abbrev pub answer_fields : List Field
answer_fields = SEQNUM ∷ ACTUAL_LENGTH ∷ PACKETS ∷ []
