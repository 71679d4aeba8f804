-- OP_REP_DEVLIST in its parts (Linux kernel documentation, "USB/IP protocol"), beside the answer to an import
use Rattle.std.specs.Prelude.{◌≡◌, ℕ, ◌+◌, ◌*◌, ◌<◌, ◌^◌, length, take, drop, slice_index, List, [], ◌∷◌, ◌++◌}
use Rattle.std.specs.Int.{w32, to_be_bytes}
use Rattle.usbip_wire.specs.declared.device.DeviceRecord.{DeviceRecord}
use Rattle.usbip_wire.specs.declared.down.Down.{Down}
use Rattle.usbip_wire.specs.declared.down.Down.TheVariants.{Count, Device, Interface, Import, RetSubmit, RetUnlink, More, Bad}
use Rattle.usbip_wire.specs.declared.op.TheConstants.{REP_DEVLIST}
use Rattle.usbip_wire.specs.Device.{record_bytes, IsRecord}
use Rattle.usbip_wire.specs.ImportReply.{SpellsImport}
use Rattle.usbip_wire.specs.Op.{op_header}

-- the head of a list of so many devices
abbrev pub count_bytes : ℕ → ℕ → List ℕ
count_bytes status number = op_header REP_DEVLIST status ++ to_be_bytes w32 number

-- These bytes are this part of the operations, where so many devices of a list, and so many interfaces of
-- its last device, are still awaited. The padding of an interface may hold anything.
abbrev pub SpellsPart : ℕ → ℕ → Down → List ℕ → Type 0
SpellsPart devices interfaces (Count status number) bytes =
    (devices ≡ 0) × (interfaces ≡ 0) × (status < 2 ^ 32) × (number < 2 ^ 32) × (bytes ≡ count_bytes status number)
SpellsPart devices interfaces (Device device) bytes = (0 < devices) × (interfaces ≡ 0) × IsRecord device × (bytes ≡ record_bytes device)
SpellsPart devices interfaces (Interface class subclass protocol) bytes =
    (0 < interfaces) × (padding : ℕ) × (bytes ≡ class ∷ subclass ∷ protocol ∷ padding ∷ [])
SpellsPart devices interfaces (Import status device) bytes = (devices ≡ 0) × (interfaces ≡ 0) × SpellsImport status device bytes
SpellsPart devices interfaces (RetSubmit head) bytes = ⊥
SpellsPart devices interfaces (RetUnlink head) bytes = ⊥
SpellsPart devices interfaces More bytes = ⊥
SpellsPart devices interfaces (Bad f) bytes = ⊥

-- ---- a whole list

-- class, subclass and protocol of each interface
abbrev pub AreTriples : List (List ℕ) → Type 0
AreTriples [] = Unit {0}
AreTriples (interface ∷ interfaces) = (length interface ≡ 3) × AreTriples interfaces

abbrev pub AreRecords : List DeviceRecord → Type 0
AreRecords [] = Unit {0}
AreRecords (device ∷ devices) = IsRecord device × AreRecords devices

-- as many interfaces as these records say
abbrev pub interfaces_of : List DeviceRecord → ℕ
interfaces_of [] = 0
interfaces_of (device ∷ devices) = device.interfaces + interfaces_of devices

-- the layout of some interfaces, each with a byte of padding
abbrev pub interfaces_bytes : List (List ℕ) → List ℕ
interfaces_bytes [] = []
interfaces_bytes (interface ∷ interfaces) = (interface ++ 0 ∷ []) ++ interfaces_bytes interfaces

-- the layout of some devices, each with its own of these interfaces
abbrev pub devices_bytes : List DeviceRecord → List (List ℕ) → List ℕ
devices_bytes [] interfaces = []
devices_bytes (device ∷ devices) interfaces =
    record_bytes device
    ++ (interfaces_bytes (take device.interfaces interfaces) ++ devices_bytes devices (drop device.interfaces interfaces))

-- the layout of a list
abbrev pub list_bytes : ℕ → List DeviceRecord → List (List ℕ) → List ℕ
list_bytes status devices interfaces = count_bytes status (length devices) ++ devices_bytes devices interfaces

-- its length
abbrev pub list_size : ℕ → ℕ → ℕ
list_size devices interfaces = 12 + (312 * devices + 4 * interfaces)

-- what a reader tells of these interfaces, and of these devices
abbrev pub interfaces_told : List (List ℕ) → List Down
interfaces_told [] = []
interfaces_told (interface ∷ interfaces) =
    Interface (slice_index interface 0) (slice_index interface 1) (slice_index interface 2) ∷ interfaces_told interfaces

abbrev pub devices_told : List DeviceRecord → List (List ℕ) → List Down
devices_told [] interfaces = []
devices_told (device ∷ devices) interfaces =
    Device device ∷ (interfaces_told (take device.interfaces interfaces) ++ devices_told devices (drop device.interfaces interfaces))

-- the parts of a list
abbrev pub list_told : ℕ → List DeviceRecord → List (List ℕ) → List Down
list_told status devices interfaces = Count status (length devices) ∷ devices_told devices interfaces
