-- which messages have a spelling, and of how many bytes: each field has its width, and its value is one that it may have
use Rattle.std.specs.Prelude.{◌≡◌, ℕ, ℤ, ◌+◌, ◌<◌, ◌≤◌, ◌^◌, List, [], ◌∷◌, length}
use Rattle.std.specs.Int.{w32, cast_unsigned}
use Rattle.tmc_base.specs.declared.limits.TheConstants.{SUBMIT_MAX}
use Rattle.usbip_wire.specs.declared.down.Down.{Down}
use Rattle.usbip_wire.specs.declared.down.Down.TheVariants as part
use Rattle.usbip_wire.specs.declared.device.TheConstants.{DEVICE_RECORD}
use Rattle.usbip_wire.specs.declared.op_request.OpRequest.{OpRequest}
use Rattle.usbip_wire.specs.declared.ret_submit.RetSubmitHead.{RetSubmitHead}
use Rattle.usbip_wire.specs.declared.ret_unlink.RetUnlinkHead.{RetUnlinkHead}
use Rattle.usbip_wire.specs.declared.submit.SubmitHead.{SubmitHead}
use Rattle.usbip_wire.specs.declared.unlink.UnlinkHead.{UnlinkHead}
use Rattle.usbip_wire.specs.declared.urb.TheConstants.{ENDPOINT_MAX, URB_HEADER}
use Rattle.usbip_wire.specs.Device.{IsRecord, record_bytes}
use Rattle.usbip_wire.specs.DevList.{count_bytes}
use Rattle.usbip_wire.specs.Down as down
use Rattle.usbip_wire.specs.ImportReply.{IsImported, import_bytes, import_size}
use Rattle.usbip_wire.specs.OpRequest.{request_bytes}
use Rattle.usbip_wire.specs.RetSubmit as ret_submit
use Rattle.usbip_wire.specs.RetSubmit.{Asked, Returns, ret_submit_bytes}
use Rattle.usbip_wire.specs.RetUnlink as ret_unlink
use Rattle.usbip_wire.specs.RetUnlink.{ret_unlink_bytes}
use Rattle.usbip_wire.specs.Submit as submit
use Rattle.usbip_wire.specs.Submit.{Carries, submit_bytes}
use Rattle.usbip_wire.specs.Unlink as unlink
use Rattle.usbip_wire.specs.Unlink.{unlink_bytes}
use Rattle.usbip_wire.specs.Up as up
use Rattle.usbip_wire.specs.Urb.{Fits32}

-- a status has four bytes, and is what they are read as
abbrev pub IsStatus : ℤ → Type 0
IsStatus status = (cast_unsigned w32 status < 2 ^ 32) × Fits32 status

-- a submit to the device with this devid
pub record IsSubmit (devid : ℕ) (head : SubmitHead) (transferred : List ℕ) : Type 0 where
  pub imported : head.devid ≡ devid
  pub wide : devid < 2 ^ 32
  pub number : head.seqnum < 2 ^ 32
  pub endpoint : head.ep ≤ ENDPOINT_MAX
  pub short : head.length ≤ SUBMIT_MAX
  pub setup : length head.setup ≡ 8
  pub carried : Carries head.dir head.length transferred

-- an unlink
pub record IsUnlink (devid : ℕ) (head : UnlinkHead) : Type 0 where
  pub imported : head.devid ≡ devid
  pub wide : devid < 2 ^ 32
  pub number : head.seqnum < 2 ^ 32
  pub target : head.target < 2 ^ 32

-- an answer to a submit that asked for this
pub record IsRetSubmit (asked : Asked) (head : RetSubmitHead) (transferred : List ℕ) : Type 0 where
  pub number : head.seqnum < 2 ^ 32
  pub status : IsStatus head.status
  pub wide : head.actual < 2 ^ 32
  pub within : head.actual ≤ asked.size
  pub returned : Returns asked.dir head.actual transferred

-- an answer to an unlink
pub record IsRetUnlink (head : RetUnlinkHead) : Type 0 where
  pub number : head.seqnum < 2 ^ 32
  pub status : IsStatus head.status

-- ---- a client's messages

abbrev pub IsSent : ℕ → up.Message → Type 0
IsSent devid (up.Submit head transferred) = IsSubmit devid head transferred
IsSent devid (up.Unlink head) = IsUnlink devid head

-- the spelling that this product writes
abbrev pub sent_bytes : up.Message → List ℕ
sent_bytes (up.Submit head transferred) = submit_bytes head submit.unused transferred
sent_bytes (up.Unlink head) = unlink_bytes head unlink.unused

-- the number of bytes of each spelling
abbrev pub sent_size : up.Message → ℕ
sent_size (up.Submit head transferred) = URB_HEADER + length transferred
sent_size (up.Unlink head) = URB_HEADER

-- ---- answers

abbrev pub IsAnswer : Asked → down.Message → Type 0
IsAnswer asked (down.RetSubmit head transferred) = IsRetSubmit asked head transferred
IsAnswer asked (down.RetUnlink head) = IsRetUnlink head

abbrev pub answer_bytes : down.Message → List ℕ
answer_bytes (down.RetSubmit head transferred) = ret_submit_bytes head ret_submit.unused transferred
answer_bytes (down.RetUnlink head) = ret_unlink_bytes head ret_unlink.unused

abbrev pub answer_size : down.Message → ℕ
answer_size (down.RetSubmit head transferred) = URB_HEADER + length transferred
answer_size (down.RetUnlink head) = URB_HEADER

-- ---- requests of operations

abbrev pub written_request : OpRequest → List ℕ
written_request request = request_bytes request 0

-- ---- parts of an operation's answer, where so many devices and interfaces are awaited

abbrev pub IsPart : ℕ → ℕ → Down → Type 0
IsPart devices interfaces (part.Count status number) = (devices ≡ 0) × (interfaces ≡ 0) × (status < 2 ^ 32) × (number < 2 ^ 32)
IsPart devices interfaces (part.Device device) = (0 < devices) × (interfaces ≡ 0) × IsRecord device
IsPart devices interfaces (part.Interface class subclass protocol) = 0 < interfaces
IsPart devices interfaces (part.Import status device) = (devices ≡ 0) × (interfaces ≡ 0) × (status < 2 ^ 32) × IsImported status device
IsPart devices interfaces what = ⊥

abbrev pub part_bytes : Down → List ℕ
part_bytes (part.Count status number) = count_bytes status number
part_bytes (part.Device device) = record_bytes device
part_bytes (part.Interface class subclass protocol) = class ∷ subclass ∷ protocol ∷ 0 ∷ []
part_bytes (part.Import status device) = import_bytes status device
part_bytes what = []

abbrev pub part_size : Down → ℕ
part_size (part.Count status number) = 12
part_size (part.Device device) = DEVICE_RECORD
part_size (part.Interface class subclass protocol) = 4
part_size (part.Import status device) = import_size device
part_size what = 0
