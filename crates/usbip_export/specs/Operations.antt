-- what a node answers before an import (Linux kernel documentation, "USB/IP protocol": the operations)
use Rattle.std.specs.Prelude.{◌≢◌, ℕ, List, [], ◌∷◌, ◌++◌, Some, None}
use Rattle.usbip_wire.specs.declared.op_request.OpRequest.{OpRequest}
use Rattle.usbip_wire.specs.declared.op_request.OpRequest.TheVariants.{DevList, Import}
use Rattle.usbip_wire.specs.DevList.{list_bytes}
use Rattle.usbip_wire.specs.ImportReply.{import_bytes}
use Rattle.usbip_export.specs.Identity.{busid, instrument, interface}

-- the list of exported devices: the instrument alone
abbrev pub device_list : List ℕ
device_list = list_bytes 0 (instrument ∷ []) (interface ∷ [])

-- the instrument is imported
abbrev pub import_done : List ℕ
import_done = import_bytes 0 (Some instrument)

-- no such device is there: status 1, and no record
abbrev pub import_failed : List ℕ
import_failed = import_bytes 1 None

-- none of these requests imports the instrument
abbrev pub ImportNone : List OpRequest → Type 0
ImportNone [] = Unit {0}
ImportNone (DevList ∷ requests) = ImportNone requests
ImportNone (Import id ∷ requests) = (id ≢ busid) × ImportNone requests

-- the replies to such requests, in their order
abbrev pub replies : List OpRequest → List ℕ
replies [] = []
replies (DevList ∷ requests) = device_list ++ replies requests
replies (Import id ∷ requests) = import_failed ++ replies requests
