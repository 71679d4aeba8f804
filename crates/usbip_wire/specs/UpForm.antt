-- the messages from the client to the device, field by field, as a reader judges them
use Rattle.std.specs.Prelude.{ℕ, ◌==◌, ◌||◌, nat_le, nat_lt, if◌then◌else◌}
use Rattle.tmc_base.specs.declared.limits.TheConstants.{SUBMIT_MAX}
use Rattle.usbip_wire.specs.declared.fields.TheConstants.{VERSION, CODE, COMMAND, DEVID, DIRECTION, ENDPOINT, BUFFER_LENGTH, PACKETS}
use Rattle.usbip_wire.specs.declared.op.TheConstants.{USBIP_VERSION, REQ_DEVLIST, REQ_IMPORT}
use Rattle.usbip_wire.specs.declared.op_request.OpRequest.TheVariants.{DevList, Import}
use Rattle.usbip_wire.specs.declared.urb.TheConstants.{CMD_SUBMIT, CMD_UNLINK, ENDPOINT_MAX}
use Rattle.usbip_wire.specs.declared.up.Up.{Up}
use Rattle.usbip_wire.specs.declared.up.Up.TheVariants.{Op, Submit, Unlink}
use Rattle.usbip_wire.specs.declared.up.UpPhase.{UpPhase}
use Rattle.usbip_wire.specs.declared.up.UpPhase.TheVariants.{Ops, Urbs}
use Rattle.usbip_wire.specs.Form.{Form, Number, Judged, Block, Done, Two, Four}
use Rattle.usbip_wire.specs.Urb.{dir_of, carried, is_no_packet_count}

-- an operation's request
abbrev pub request_form : Form Up
request_form =
    Judged Two VERSION (λ version. version == USBIP_VERSION) (λ version.
    Judged Two CODE (λ code. (code == REQ_DEVLIST) || (code == REQ_IMPORT)) (λ code.
    Number Four (λ status.
    if code == REQ_IMPORT then Block 32 (λ busid. Done (Op (Import busid))) else Done (Op DevList))))

-- a submit, from its direction on
unfoldable pub submit_form : ℕ → ℕ → Form Up
submit_form seqnum devid =
    Judged Four DIRECTION (λ direction. nat_lt direction 2) (λ direction.
    Judged Four ENDPOINT (λ ep. nat_le ep ENDPOINT_MAX) (λ ep.
    Number Four (λ transfer_flags.
    Judged Four BUFFER_LENGTH (λ size. nat_le size SUBMIT_MAX) (λ size.
    Number Four (λ start_frame.
    Judged Four PACKETS is_no_packet_count (λ packets.
    Number Four (λ interval.
    Block 8 (λ setup.
    Block (carried (dir_of direction) size) (λ transferred.
    Done (Submit (record { seqnum = seqnum; devid = devid; dir = dir_of direction; ep = ep; length = size; setup = setup })))))))))))

-- an unlink, from its direction on
unfoldable pub unlink_form : ℕ → ℕ → Form Up
unlink_form seqnum devid =
    Number Four (λ direction.
    Number Four (λ ep.
    Number Four (λ target.
    Block 24 (λ padding.
    Done (Unlink (record { seqnum = seqnum; devid = devid; target = target }))))))

-- a URB message to the device with this devid
abbrev pub urb_form : ℕ → Form Up
urb_form devid =
    Judged Four COMMAND (λ command. (command == CMD_SUBMIT) || (command == CMD_UNLINK)) (λ command.
    Number Four (λ seqnum.
    Judged Four DEVID (λ number. number == devid) (λ number.
    if command == CMD_UNLINK then unlink_form seqnum number else submit_form seqnum number)))

abbrev pub up_form : UpPhase → Form Up
up_form Ops = request_form
up_form (Urbs devid) = urb_form devid
