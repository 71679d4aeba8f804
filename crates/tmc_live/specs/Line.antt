-- the lines that are printed of connections
use Rattle.std.specs.Prelude.{ℕ, ◌+◌, List, [], ◌∷◌, ◌++◌, codes}
use Rattle.std.specs.Fmt.{decimal}
use Rattle.tmc_base.specs.declared.field.Field.{Field}
use Rattle.tmc_base.specs.declared.field.Layer.{Layer}
use Rattle.tmc_base.specs.declared.field.Layer.TheVariants as layer
use Rattle.tmc_base.specs.declared.field.Name.{Name}
use Rattle.tmc_base.specs.declared.field.Name.TheVariants as name
use Rattle.usbip_export.specs.declared.serving.ServeEnd.{ServeEnd}
use Rattle.usbip_export.specs.declared.serving.ServeEnd.TheVariants.{Closed, Refused, LinkFault, Spent, Memory}

abbrev pub layer_word : Layer → List ℕ
layer_word layer.Op = codes "op"
layer_word layer.Urb = codes "urb"
layer_word layer.Bulk = codes "bulk"
layer_word layer.Control = codes "control"
layer_word layer.Notify = codes "notify"

abbrev pub name_word : Name → List ℕ
name_word name.Version = codes "version"
name_word name.Code = codes "code"
name_word name.Command = codes "command"
name_word name.Seqnum = codes "seqnum"
name_word name.Devid = codes "devid"
name_word name.Direction = codes "direction"
name_word name.Endpoint = codes "endpoint"
name_word name.BufferLength = codes "buffer_length"
name_word name.Packets = codes "packets"
name_word name.ActualLength = codes "actual_length"
name_word name.Pending = codes "pending"
name_word name.MsgId = codes "msg_id"
name_word name.Tag = codes "tag"
name_word name.Inverse = codes "inverse"
name_word name.Size = codes "size"
name_word name.Length = codes "length"

-- a field: its layer, its name, and its offset
abbrev pub field_words : Field → List ℕ
field_words f = layer_word f.layer ++ (codes " " ++ (name_word f.name ++ (codes " " ++ decimal f.offset)))

-- how the serving ended: its name, and its field where one was refused
abbrev pub end_words : ServeEnd → List ℕ
end_words Closed = codes "Closed"
end_words (Refused f) = codes "Refused " ++ field_words f
end_words LinkFault = codes "LinkFault"
end_words Spent = codes "Spent"
end_words Memory = codes "Memory"

-- a connection, counted from 1
abbrev pub connection_line : ℕ → ServeEnd → List ℕ
connection_line number end = codes "connection " ++ (decimal number ++ (codes " " ++ (end_words end ++ codes "\n")))

-- a line each, the first with this number
abbrev pub lines_from : ℕ → List ServeEnd → List ℕ
lines_from number [] = []
lines_from number (end ∷ ends) = connection_line number end ++ lines_from (number + 1) ends
