-- a device record (Linux kernel documentation, "USB/IP protocol": OP_REP_DEVLIST, from its path to bNumInterfaces)
use Rattle.std.specs.Prelude.{◌≡◌, ℕ, ◌<◌, ◌^◌, List, [], ◌∷◌, ◌++◌, length}
use Rattle.usbip_wire.specs.declared.device.DeviceRecord.{DeviceRecord}
use Rattle.usbip_wire.specs.Urb.{fields, halves}

-- the layout
unfoldable pub record_bytes : DeviceRecord → List ℕ
record_bytes device =
    device.path
    ++ (device.busid
    ++ (fields (device.busnum ∷ device.devnum ∷ device.speed ∷ [])
    ++ (halves (device.id_vendor ∷ device.id_product ∷ device.bcd_device ∷ [])
    ++ (device.device_class
    ∷ device.device_subclass
    ∷ device.device_protocol
    ∷ device.configuration_value
    ∷ device.configurations
    ∷ device.interfaces
    ∷ []))))

-- each field has its width
pub record IsRecord (device : DeviceRecord) : Type 0 where
  pub path : length device.path ≡ 256
  pub busid : length device.busid ≡ 32
  pub busnum : device.busnum < 2 ^ 32
  pub devnum : device.devnum < 2 ^ 32
  pub speed : device.speed < 2 ^ 32
  pub id_vendor : device.id_vendor < 2 ^ 16
  pub id_product : device.id_product < 2 ^ 16
  pub bcd_device : device.bcd_device < 2 ^ 16
