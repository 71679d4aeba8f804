-- how a client attaches: it imports a device, reads its configuration descriptor and sets that configuration (Linux kernel
-- documentation, "USB/IP protocol": OP_REQ_IMPORT; USB 2.0, sections 9.4.3 and 9.4.7)
use Rattle.std.specs.Prelude.{◌≡◌, ◌≢◌, ◌⊎◌, ℕ, pos, ◌+◌, ◌-◌, ◌*◌, ◌%◌, ◌^◌, ◌<◌, ◌≤◌, Some, None, List, [], ◌∷◌, ◌++◌, length, take, drop, replicate, bit_or}
use Rattle.std.specs.Int.{w16, to_be_bytes}
use Rattle.tmc_base.specs.declared.field.Field.{Field}
use Rattle.tmc_base.specs.declared.field.Layer.TheVariants.{Op}
use Rattle.tmc_base.specs.declared.field.Name.TheVariants.{Code}
use Rattle.tmc_base.specs.declared.link.SendStep.{SendStep}
use Rattle.tmc_base.specs.declared.link.SendStep.TheVariants as send
use Rattle.tmc_base.specs.declared.link.PollStep.{PollStep}
use Rattle.tmc_base.specs.declared.link.PollStep.TheVariants as poll
use Rattle.tmc_base.specs.Link.{Counts, SendCounts, PollCounts, took_count}
use Rattle.tmc_base.specs.Told.{Told, WentOut, CameIn}
use Rattle.usb_setup.specs.declared.desc_fault.DescFault.{DescFault}
use Rattle.usb_setup.specs.declared.ends.Ends.{Ends}
use Rattle.usb_setup.specs.declared.setup.Setup.{Setup}
use Rattle.usb_setup.specs.Interface.{Finds, FaultIs}
use Rattle.usb_setup.specs.Setup.{setup_layout}
use Rattle.usbip_wire.specs.declared.device.DeviceRecord.{DeviceRecord}
use Rattle.usbip_wire.specs.declared.dirs.Outstanding.{Outstanding}
use Rattle.usbip_wire.specs.declared.dirs.Outstanding.TheVariants as entry
use Rattle.usbip_wire.specs.declared.down.Down.{Down}
use Rattle.usbip_wire.specs.declared.down.Down.TheVariants as down
use Rattle.usbip_wire.specs.declared.down.DownPhase.{DownPhase}
use Rattle.usbip_wire.specs.declared.down.DownPhase.TheVariants.{Ops, Urbs}
use Rattle.usbip_wire.specs.declared.op_request.OpRequest.TheVariants.{Import}
use Rattle.usbip_wire.specs.declared.ret_submit.RetSubmitHead.{RetSubmitHead}
use Rattle.usbip_wire.specs.declared.urb.Dir.TheVariants.{Out, In}
use Rattle.usbip_wire.specs.declared.urb.TheConstants.{URB_HEADER}
use Rattle.usbip_wire.specs.DownFed.{Means, NoneWhole, BadAt}
use Rattle.usbip_wire.specs.ImportReply.{SpellsImport}
use Rattle.usbip_wire.specs.OpRequest.{request_bytes}
use Rattle.usbip_wire.specs.Up as up
use Rattle.host_urbs.specs.declared.attached.AttachFault.{AttachFault}
use Rattle.host_urbs.specs.declared.attached.AttachFault.TheVariants as fault
use Rattle.host_urbs.specs.declared.attached.Attached.{Attached}
use Rattle.host_urbs.specs.Held.{bytes_of}

-- ---- the three requests

-- the device's devid, of which the low 32 bits are taken
abbrev pub devid_of : DeviceRecord → ℕ
devid_of device = bit_or (device.busnum * 2 ^ 16 % 2 ^ 32) device.devnum

-- a bus id as it goes in a request, padded with zeros
abbrev pub padded : List ℕ → List ℕ
padded busid = busid ++ replicate (32 - length busid) 0

-- GET_DESCRIPTOR of the first configuration, of at most 4,096 bytes
abbrev pub descriptor_size : ℕ
descriptor_size = 4096

abbrev pub get_configuration : Setup
get_configuration = record { request_type = 0x80; request = 6; value = 0x0200; index = 0; length = descriptor_size }

-- SET_CONFIGURATION
abbrev pub set_configuration : ℕ → Setup
set_configuration configuration = record { request_type = 0x00; request = 9; value = configuration; index = 0; length = 0 }

-- which answer is awaited
pub data Stage : Type 0 where
  Importing : Stage
  Describing : (devid : ℕ) → Stage
  Configuring : (devid : ℕ) (ends : Ends) → Stage

abbrev pub request_of : List ℕ → Stage → List ℕ
request_of busid Importing = request_bytes (Import (padded busid)) 0
request_of busid (Describing devid) =
    bytes_of (up.Submit (record { seqnum = 1; devid = devid; dir = In; ep = 0; length = descriptor_size; setup = setup_layout get_configuration }) [])
request_of busid (Configuring devid ends) =
    bytes_of (up.Submit (record { seqnum = 2; devid = devid; dir = Out; ep = 0; length = 0; setup = setup_layout (set_configuration ends.configuration) }) [])

-- ---- the three answers

abbrev pub phase_of : Stage → DownPhase
phase_of Importing = Ops 0 0
phase_of (Describing devid) = Urbs
phase_of (Configuring devid ends) = Urbs

abbrev pub entries_at : Stage → List Outstanding
entries_at Importing = []
entries_at (Describing devid) = entry.Submit 1 In descriptor_size ∷ []
entries_at (Configuring devid ends) = entry.Submit 2 Out 0 ∷ []

-- a device list stands in place of the answer to an import: version 0x0111, code 0x0005 (OP_REP_DEVLIST)
abbrev pub list_head : List ℕ
list_head = to_be_bytes w16 0x0111 ++ to_be_bytes w16 0x0005

-- the code of an operation's answer
abbrev pub code : Field
code = record { layer = Op; name = Code; offset = 2 }

abbrev pub IsList : List ℕ → Type 0
IsList bytes = take 4 bytes ≡ list_head

-- the answer is refused at this field
abbrev pub IsBad : Stage → List ℕ → Field → Type 0
IsBad Importing bytes f = BadAt (Ops 0 0) [] bytes f ⊎ (IsList bytes × (f ≡ code))
IsBad (Describing devid) bytes f = BadAt Urbs (entries_at (Describing devid)) bytes f
IsBad (Configuring devid ends) bytes f = BadAt Urbs (entries_at (Configuring devid ends)) bytes f

-- no answer is whole, and no field is refused
pub record Undecided (stage : Stage) (bytes : List ℕ) : Type 0 where
  pub none_whole : NoneWhole (phase_of stage) (entries_at stage) bytes
  pub none_bad : (f : Field) → IsBad stage bytes f → ⊥

-- so many bytes may be taken, and none of them is behind the answer that these begin
pub record Awaits (stage : Stage) (bytes : List ℕ) (room : ℕ) : Type 0 where
  pub undecided : Undecided stage bytes
  pub some : 0 < room
  pub within : (what : Down) (more : List ℕ) → Means (phase_of stage) (entries_at stage) what (bytes ++ more) → room ≤ length more

-- the answer to the stage's submit
abbrev pub IsAnswer : Stage → RetSubmitHead → List ℕ → Type 0
IsAnswer stage head bytes = Means (phase_of stage) (entries_at stage) (down.RetSubmit head) bytes

-- ---- how the calls on the link go

pub record At : Type 0 where
  pub stage : Stage
  -- what is left of its request
  pub unsent : List ℕ
  -- what came of its answer
  pub rest : List ℕ
  -- all bytes sent and taken, and how many calls were made
  pub sent : List ℕ
  pub taken : List ℕ
  pub calls : ℕ

abbrev pub begun : List ℕ → At
begun busid = record { stage = Importing; unsent = request_of busid Importing; rest = []; sent = []; taken = []; calls = 0 }

module _ {A : Type 0} (told : A → Told) (counts : A → Counts) (sends : A → List ℕ → SendStep → A → Type 0) (polls : A → ℕ → PollStep → List ℕ → A → Type 0) where
  -- one send, and one poll
  pub record SendGoes (old : A) (piece : List ℕ) (step : SendStep) (new : A) : Type 0 where
    pub goes : sends old piece step new
    pub told_so : WentOut (take (took_count step) piece) (told old) (told new)
    pub counted : SendCounts step (counts old) (counts new)

  pub record PollGoes (old : A) (room : ℕ) (step : PollStep) (bytes : List ℕ) (new : A) : Type 0 where
    pub goes : polls old room step bytes new
    pub told_so : CameIn bytes (told old) (told new)
    pub counted : PollCounts step (counts old) (counts new)

  -- A call that moves a byte or is idle, or an answer that leads to the next stage. Nothing is polled until the request is
  -- sent whole.
  pub data Step (busid : List ℕ) (s : At) (old : A) (t : At) (new : A) : Type 0 where
    Sent : (n : ℕ) → 0 < n → n ≤ length s.unsent → SendGoes old s.unsent (send.Took n) new
        → t ≡ record s { unsent = drop n s.unsent; sent = s.sent ++ take n s.unsent; calls = s.calls + 1 } → Step busid s old t new
    SentNone : 0 < length s.unsent → SendGoes old s.unsent send.Idle new → t ≡ record s { calls = s.calls + 1 } → Step busid s old t new
    Took : (room : ℕ) (bytes : List ℕ) → s.unsent ≡ [] → Awaits s.stage s.rest room → 0 < length bytes → length bytes ≤ room
        → PollGoes old room (poll.Got (length bytes)) bytes new
        → t ≡ record s { rest = s.rest ++ bytes; taken = s.taken ++ bytes; calls = s.calls + 1 } → Step busid s old t new
    TookNone : (room : ℕ) → s.unsent ≡ [] → Awaits s.stage s.rest room → PollGoes old room poll.Idle [] new → t ≡ record s { calls = s.calls + 1 }
        → Step busid s old t new
    Imported : (device : DeviceRecord) → s.stage ≡ Importing → s.unsent ≡ [] → SpellsImport 0 (Some device) s.rest → new ≡ old
        → t ≡ record s { stage = Describing (devid_of device); unsent = request_of busid (Describing (devid_of device)); rest = [] } → Step busid s old t new
    Described : (devid : ℕ) (head : RetSubmitHead) (ends : Ends) → s.stage ≡ Describing devid → s.unsent ≡ [] → IsAnswer s.stage head s.rest
        → head.status ≡ pos 0 → Finds (drop URB_HEADER s.rest) ends → new ≡ old
        → t ≡ record s { stage = Configuring devid ends; unsent = request_of busid (Configuring devid ends); rest = [] } → Step busid s old t new

  -- such steps in a row
  pub data Path (busid : List ℕ) (s : At) (old : A) : At → A → Type 0 where
    here : Path busid s old s old
    on : (t : At) (mid : A) (u : At) (new : A) → Path busid s old t mid → Step busid t mid u new → Path busid s old u new

  -- the request is not sent whole, or its answer is awaited
  abbrev pub IsOpen : At → Type 0
  IsOpen t = (0 < length t.unsent) ⊎ ((t.unsent ≡ []) × Undecided t.stage t.rest)

  -- the first event that ends it, where so many calls may be made
  pub data Last (turns : ℕ) (t : At) (mid : A) (why : AttachFault) (new : A) : Type 0 where
    SendFailed : 0 < length t.unsent → t.calls < turns → SendGoes mid t.unsent send.Failed new → why ≡ fault.LinkFault → Last turns t mid why new
    PollFailed : (room : ℕ) → t.unsent ≡ [] → Awaits t.stage t.rest room → t.calls < turns → PollGoes mid room poll.Failed [] new → why ≡ fault.LinkFault
        → Last turns t mid why new
    PollClosed : (room : ℕ) → t.unsent ≡ [] → Awaits t.stage t.rest room → t.calls < turns → PollGoes mid room poll.Closed [] new → why ≡ fault.Closed
        → Last turns t mid why new
    SendWants : 0 < length t.unsent → t.calls < turns → SendGoes mid t.unsent send.Memory new → why ≡ fault.Memory → Last turns t mid why new
    PollWants : (room : ℕ) → t.unsent ≡ [] → Awaits t.stage t.rest room → t.calls < turns → PollGoes mid room poll.Memory [] new → why ≡ fault.Memory
        → Last turns t mid why new
    Wants : new ≡ mid → why ≡ fault.Memory → Last turns t mid why new
    Spent : IsOpen t → t.calls ≡ turns → new ≡ mid → why ≡ fault.Spent → Last turns t mid why new
    Refused : (f : Field) → t.unsent ≡ [] → IsBad t.stage t.rest f → new ≡ mid → why ≡ fault.Bad f → Last turns t mid why new
    NoDevice : (status : ℕ) → t.stage ≡ Importing → t.unsent ≡ [] → SpellsImport status None t.rest → new ≡ mid → why ≡ fault.NoDevice status
        → Last turns t mid why new
    Faulty : (head : RetSubmitHead) → t.unsent ≡ [] → IsAnswer t.stage head t.rest → head.status ≢ pos 0 → new ≡ mid → why ≡ fault.DeviceFault head.status
        → Last turns t mid why new
    NoEnds : (devid : ℕ) (head : RetSubmitHead) → t.stage ≡ Describing devid → t.unsent ≡ [] → IsAnswer t.stage head t.rest → head.status ≡ pos 0
        → (f : DescFault) → FaultIs (drop URB_HEADER t.rest) f → new ≡ mid → why ≡ fault.Desc f → Last turns t mid why new

  pub record Stops (turns : ℕ) (busid : List ℕ) (s : At) (old : A) (why : AttachFault) (new : A) : Type 0 where
    pub at : At
    pub mid : A
    pub path : Path busid s old at mid
    pub calls : at.calls ≤ turns
    pub last : Last turns at mid why new

  -- the device was set to its configuration
  pub record Attaches (turns : ℕ) (busid : List ℕ) (s : At) (old : A) (attached : Attached) (new : A) : Type 0 where
    pub at : At
    pub path : Path busid s old at new
    pub configured : at.stage ≡ Configuring attached.devid attached.ends
    pub whole : at.unsent ≡ []
    pub head : RetSubmitHead
    pub answer : IsAnswer at.stage head at.rest
    pub status : head.status ≡ pos 0
    pub next : attached.next ≡ 3
    pub calls : at.calls ≤ turns
