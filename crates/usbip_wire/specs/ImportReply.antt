-- OP_REP_IMPORT (Linux kernel documentation, "USB/IP protocol")
use Rattle.std.specs.Prelude.{◌≡◌, ℕ, ◌<◌, ◌^◌, Option, Some, None, List, ◌++◌}
use Rattle.usbip_wire.specs.declared.device.DeviceRecord.{DeviceRecord}
use Rattle.usbip_wire.specs.declared.op.TheConstants.{REP_IMPORT}
use Rattle.usbip_wire.specs.Device.{record_bytes, IsRecord}
use Rattle.usbip_wire.specs.Op.{op_header}

-- the layout
abbrev pub import_bytes : ℕ → Option DeviceRecord → List ℕ
import_bytes status None = op_header REP_IMPORT status
import_bytes status (Some device) = op_header REP_IMPORT status ++ record_bytes device

-- its length
abbrev pub import_size : Option DeviceRecord → ℕ
import_size None = 8
import_size (Some device) = 320

-- the device is there exactly where the status is 0
abbrev pub IsImported : ℕ → Option DeviceRecord → Type 0
IsImported status None = status ≡ 0 → ⊥
IsImported status (Some device) = (status ≡ 0) × IsRecord device

-- these bytes are this answer to an import
pub record SpellsImport (status : ℕ) (device : Option DeviceRecord) (bytes : List ℕ) : Type 0 where
  pub wide : status < 2 ^ 32
  pub imported : IsImported status device
  pub layout : bytes ≡ import_bytes status device
