-- the messages from the device to the client, field by field, as a reader judges them
use Rattle.std.specs.Prelude.{ℕ, ◌-◌, ◌==◌, ◌||◌, nat_le, Option, Some, None, is_some, List, slice_index, if◌then◌else◌}
use Rattle.std.specs.Int.{w32, cast_signed}
use Rattle.usbip_wire.specs.declared.device.DeviceRecord.{DeviceRecord}
use Rattle.usbip_wire.specs.declared.dirs.Outstanding.{Outstanding}
use Rattle.usbip_wire.specs.declared.down.Down.{Down}
use Rattle.usbip_wire.specs.declared.down.Down.TheVariants.{Count, Device, Interface, Import, RetSubmit, RetUnlink, More, Bad}
use Rattle.usbip_wire.specs.declared.down.DownPhase.{DownPhase}
use Rattle.usbip_wire.specs.declared.down.DownPhase.TheVariants.{Ops, Urbs}
use Rattle.usbip_wire.specs.declared.down.RecordOf.{RecordOf}
use Rattle.usbip_wire.specs.declared.down.RecordOf.TheVariants as part
use Rattle.usbip_wire.specs.declared.fields.TheConstants.{VERSION, CODE, COMMAND, SEQNUM, ACTUAL_LENGTH, PACKETS}
use Rattle.usbip_wire.specs.declared.op.TheConstants.{USBIP_VERSION, REP_DEVLIST, REP_IMPORT}
use Rattle.usbip_wire.specs.declared.urb.Dir.{Dir}
use Rattle.usbip_wire.specs.declared.urb.Dir.TheVariants.{In}
use Rattle.usbip_wire.specs.declared.urb.TheConstants.{RET_SUBMIT, RET_UNLINK}
use Rattle.usbip_wire.specs.Dirs.{find, submit_of, is_unlink}
use Rattle.usbip_wire.specs.Form.{Form, Number, Judged, Block, Done, Two, Four}
use Rattle.usbip_wire.specs.Urb.{is_no_packet_count, returned}

abbrev pub record_told : RecordOf → DeviceRecord → Down
record_told part.List device = Device device
record_told part.Import device = Import 0 (Some device)

-- what is awaited behind a part of the operations
abbrev pub after : DownPhase → Down → DownPhase
after Urbs what = Urbs
after (Ops devices interfaces) (Count status number) = Ops number 0
after (Ops devices interfaces) (Device device) = Ops (devices - 1) device.interfaces
after (Ops devices interfaces) (Interface class subclass protocol) = Ops devices (interfaces - 1)
after (Ops devices interfaces) (Import status device) = Ops devices interfaces
after (Ops devices interfaces) (RetSubmit head) = Ops devices interfaces
after (Ops devices interfaces) (RetUnlink head) = Ops devices interfaces
after (Ops devices interfaces) More = Ops devices interfaces
after (Ops devices interfaces) (Bad f) = Ops devices interfaces

-- a device record
unfoldable pub record_form : RecordOf → Form Down
record_form of =
    Block 256 (λ path.
    Block 32 (λ busid.
    Number Four (λ busnum.
    Number Four (λ devnum.
    Number Four (λ speed.
    Number Two (λ id_vendor.
    Number Two (λ id_product.
    Number Two (λ bcd_device.
    Block 6 (λ last.
    Done (record_told of (record {
      path = path;
      busid = busid;
      busnum = busnum;
      devnum = devnum;
      speed = speed;
      id_vendor = id_vendor;
      id_product = id_product;
      bcd_device = bcd_device;
      device_class = slice_index last 0;
      device_subclass = slice_index last 1;
      device_protocol = slice_index last 2;
      configuration_value = slice_index last 3;
      configurations = slice_index last 4;
      interfaces = slice_index last 5;
    })))))))))))

-- an interface of a device list: class, subclass, protocol, and a byte of padding
abbrev pub interface_form : Form Down
interface_form = Block 4 (λ last. Done (Interface (slice_index last 0) (slice_index last 1) (slice_index last 2)))

-- the head of a device list, or the answer to an import
abbrev pub reply_form : Form Down
reply_form =
    Judged Two VERSION (λ version. version == USBIP_VERSION) (λ version.
    Judged Two CODE (λ code. (code == REP_DEVLIST) || (code == REP_IMPORT)) (λ code.
    Number Four (λ status.
    if code == REP_DEVLIST then Number Four (λ devices. Done (Count status devices))
    else (if status == 0 then record_form part.Import else Done (Import status None)))))

-- the direction and the length of an outstanding submit
abbrev pub dir_asked : Option (Dir × ℕ) → Dir
dir_asked None = In
dir_asked (Some asked) = asked.0

abbrev pub size_asked : Option (Dir × ℕ) → ℕ
size_asked None = 0
size_asked (Some asked) = asked.1

-- the answer to a submit, from its number on, where this was asked
unfoldable pub ret_submit_form : ℕ → Option (Dir × ℕ) → Form Down
ret_submit_form seqnum asked =
    Number Four (λ devid.
    Number Four (λ direction.
    Number Four (λ ep.
    Number Four (λ status.
    Judged Four ACTUAL_LENGTH (λ actual. nat_le actual (size_asked asked)) (λ actual.
    Number Four (λ start_frame.
    Judged Four PACKETS is_no_packet_count (λ packets.
    Number Four (λ error_count.
    Number Four (λ padding_high.
    Number Four (λ padding_low.
    Block (returned (dir_asked asked) actual) (λ transferred.
    Done (RetSubmit (record { seqnum = seqnum; status = cast_signed w32 status; actual = actual })))))))))))))

-- the answer to an unlink, from its number on
unfoldable pub ret_unlink_form : ℕ → Form Down
ret_unlink_form seqnum =
    Number Four (λ devid.
    Number Four (λ direction.
    Number Four (λ ep.
    Number Four (λ status.
    Block 24 (λ padding.
    Done (RetUnlink (record { seqnum = seqnum; status = cast_signed w32 status })))))))

-- the answer to a submit or an unlink that is outstanding
abbrev pub answer_form : List Outstanding → Form Down
answer_form entries =
    Judged Four COMMAND (λ command. (command == RET_SUBMIT) || (command == RET_UNLINK)) (λ command.
    if command == RET_SUBMIT then
    Judged Four SEQNUM (λ seqnum. is_some (submit_of (find seqnum entries))) (λ seqnum. ret_submit_form seqnum (submit_of (find seqnum entries)))
    else Judged Four SEQNUM (λ seqnum. is_unlink (find seqnum entries)) (λ seqnum. ret_unlink_form seqnum))

abbrev pub ops_form : ℕ → ℕ → Form Down
ops_form devices interfaces =
    if interfaces == 0 then (if devices == 0 then reply_form else record_form part.List) else interface_form

abbrev pub down_form : DownPhase → List Outstanding → Form Down
down_form (Ops devices interfaces) entries = ops_form devices interfaces
down_form Urbs entries = answer_form entries
