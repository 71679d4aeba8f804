-- the line of each message, of a bad field, and of a rest
use Rattle.std.specs.Prelude.{ℕ, ◌==◌, Option, Some, None, List, [], ◌++◌, codes}
use Rattle.std.specs.Fmt.{decimal, signed_decimal}
use Rattle.std.specs.List.{before_first}
use Rattle.hex.specs.Hex.{encode_lower}
use Rattle.tmc_base.specs.declared.field.Field.{Field}
use Rattle.tmc_base.specs.declared.field.Layer.{Layer}
use Rattle.tmc_base.specs.declared.field.Layer.TheVariants as layer
use Rattle.tmc_base.specs.declared.field.Name.{Name}
use Rattle.tmc_base.specs.declared.field.Name.TheVariants as name
use Rattle.usbip_wire.specs.declared.device.DeviceRecord.{DeviceRecord}
use Rattle.usbip_wire.specs.declared.down.Down.{Down}
use Rattle.usbip_wire.specs.declared.down.Down.TheVariants.{Count, Device, Interface, Import, RetSubmit, RetUnlink, More, Bad}
use Rattle.usbip_wire.specs.declared.op_request.OpRequest.{OpRequest}
use Rattle.usbip_wire.specs.declared.op_request.OpRequest.TheVariants as request
use Rattle.usbip_wire.specs.declared.ret_submit.RetSubmitHead.{RetSubmitHead}
use Rattle.usbip_wire.specs.declared.ret_unlink.RetUnlinkHead.{RetUnlinkHead}
use Rattle.usbip_wire.specs.declared.submit.SubmitHead.{SubmitHead}
use Rattle.usbip_wire.specs.declared.unlink.UnlinkHead.{UnlinkHead}
use Rattle.usbip_wire.specs.declared.urb.Dir.{Dir}
use Rattle.usbip_wire.specs.declared.urb.Dir.TheVariants.{Out, In}
use Rattle.usbip_wire.specs.Down as down
use Rattle.usbip_wire.specs.Up as up
use Rattle.event_text.specs.Message.{Message, Request, FromClient, Part, Answer}
use Rattle.event_text.specs.Words.{hex_word}

-- a bus id: its bytes before the first zero
abbrev pub busid_word : List ℕ → List ℕ
busid_word busid = hex_word (before_first (λ byte. byte == 0) busid)

abbrev pub device_word : Option DeviceRecord → List ℕ
device_word None = codes "-"
device_word (Some device) = busid_word device.busid

abbrev pub dir_word : Dir → List ℕ
dir_word Out = codes "out"
dir_word In = codes "in"

abbrev pub request_line : OpRequest → List ℕ
request_line request.DevList = codes "devlist\n"
request_line (request.Import busid) = codes "import " ++ (busid_word busid ++ codes "\n")

-- what a submit asks for
abbrev pub asked_words : SubmitHead → List ℕ
asked_words head =
    codes "submit " ++ (decimal head.seqnum
    ++ (codes " " ++ (dir_word head.dir
    ++ (codes " " ++ (decimal head.ep
    ++ (codes " " ++ decimal head.length))))))

abbrev pub submit_line : SubmitHead → List ℕ → List ℕ
submit_line head transferred =
    asked_words head ++ (codes " " ++ (encode_lower head.setup ++ (codes " " ++ (hex_word transferred ++ codes "\n"))))

abbrev pub unlink_line : UnlinkHead → List ℕ
unlink_line head = codes "unlink " ++ (decimal head.seqnum ++ (codes " " ++ (decimal head.target ++ codes "\n")))

abbrev pub client_line : up.Message → List ℕ
client_line (up.Submit head transferred) = submit_line head transferred
client_line (up.Unlink head) = unlink_line head

abbrev pub count_line : ℕ → ℕ → List ℕ
count_line status number = codes "count " ++ (decimal status ++ (codes " " ++ (decimal number ++ codes "\n")))

abbrev pub interface_line : ℕ → ℕ → ℕ → List ℕ
interface_line class subclass protocol =
    codes "interface " ++ (decimal class
    ++ (codes " " ++ (decimal subclass
    ++ (codes " " ++ (decimal protocol
    ++ codes "\n")))))

abbrev pub device_line : DeviceRecord → List ℕ
device_line device = codes "device " ++ (busid_word device.busid ++ codes "\n")

abbrev pub reply_line : ℕ → Option DeviceRecord → List ℕ
reply_line status device = codes "reply " ++ (decimal status ++ (codes " " ++ (device_word device ++ codes "\n")))

-- no other answer is a part of the operations
abbrev pub part_line : Down → List ℕ
part_line (Count status number) = count_line status number
part_line (Device device) = device_line device
part_line (Interface class subclass protocol) = interface_line class subclass protocol
part_line (Import status device) = reply_line status device
part_line (RetSubmit head) = []
part_line (RetUnlink head) = []
part_line More = []
part_line (Bad f) = []

abbrev pub ret_submit_line : RetSubmitHead → List ℕ → List ℕ
ret_submit_line head transferred =
    codes "ret_submit " ++ (decimal head.seqnum
    ++ (codes " " ++ (signed_decimal head.status
    ++ (codes " " ++ (decimal head.actual
    ++ (codes " " ++ (hex_word transferred
    ++ codes "\n")))))))

abbrev pub ret_unlink_line : RetUnlinkHead → List ℕ
ret_unlink_line head = codes "ret_unlink " ++ (decimal head.seqnum ++ (codes " " ++ (signed_decimal head.status ++ codes "\n")))

abbrev pub answer_line : down.Message → List ℕ
answer_line (down.RetSubmit head transferred) = ret_submit_line head transferred
answer_line (down.RetUnlink head) = ret_unlink_line head

abbrev pub message_line : Message → List ℕ
message_line (Request request) = request_line request
message_line (FromClient message) = client_line message
message_line (Part what) = part_line what
message_line (Answer message) = answer_line message

abbrev pub layer_word : Layer → List ℕ
layer_word layer.Op = codes "op"
layer_word layer.Urb = codes "urb"
layer_word layer.Bulk = codes "bulk"
layer_word layer.Control = codes "control"
layer_word layer.Notify = codes "notify"

abbrev pub name_word : Name → List ℕ
name_word name.Version = codes "version"
name_word name.Code = codes "code"
name_word name.Command = codes "command"
name_word name.Seqnum = codes "seqnum"
name_word name.Devid = codes "devid"
name_word name.Direction = codes "direction"
name_word name.Endpoint = codes "endpoint"
name_word name.BufferLength = codes "buffer_length"
name_word name.Packets = codes "packets"
name_word name.ActualLength = codes "actual_length"
name_word name.Pending = codes "pending"
name_word name.MsgId = codes "msg_id"
name_word name.Tag = codes "tag"
name_word name.Inverse = codes "inverse"
name_word name.Size = codes "size"
name_word name.Length = codes "length"

-- a field: its layer, its name, and its offset
abbrev pub field_words : Field → List ℕ
field_words f = layer_word f.layer ++ (codes " " ++ (name_word f.name ++ (codes " " ++ decimal f.offset)))

abbrev pub bad_line : Field → List ℕ
bad_line f = codes "bad " ++ (field_words f ++ codes "\n")

-- so many bytes are no whole message
abbrev pub more_line : ℕ → List ℕ
more_line count = codes "more " ++ (decimal count ++ codes "\n")
