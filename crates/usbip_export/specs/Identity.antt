-- the instrument as USB/IP exports it (Linux kernel documentation, "USB/IP protocol": the device record)
use Rattle.std.specs.Prelude.{ℕ, ◌*◌, ◌+◌, ◌-◌, ◌^◌, List, [], ◌∷◌, ◌++◌, length, replicate, codes}
use Rattle.usbip_wire.specs.declared.device.DeviceRecord.{DeviceRecord}
use Rattle.usb_setup.specs.Identity as usb

-- a text in a field of so many bytes, padded with zeros
abbrev pub padded : ℕ → List ℕ → List ℕ
padded size text = text ++ replicate (size - length text) 0

abbrev pub path : List ℕ
path = padded 256 (codes "/sys/devices/tmc/1-1")

abbrev pub busid : List ℕ
busid = padded 32 (codes "1-1")

abbrev pub busnum : ℕ
busnum = 1

abbrev pub devnum : ℕ
devnum = 2

-- by what a client names the imported device in each submit
abbrev pub devid : ℕ
devid = busnum * 2 ^ 16 + devnum

-- full speed, as enum usb_device_speed of Linux counts
abbrev pub speed : ℕ
speed = 2

-- the record; what a descriptor says too is taken from there
abbrev pub instrument : DeviceRecord
instrument = record {
  path = path;
  busid = busid;
  busnum = busnum;
  devnum = devnum;
  speed = speed;
  id_vendor = usb.device.idVendor;
  id_product = usb.device.idProduct;
  bcd_device = usb.device.bcdDevice;
  device_class = usb.device.bDeviceClass;
  device_subclass = usb.device.bDeviceSubClass;
  device_protocol = usb.device.bDeviceProtocol;
  configuration_value = usb.own_configuration.bConfigurationValue;
  configurations = usb.device.bNumConfigurations;
  interfaces = usb.own_configuration.bNumInterfaces;
}

-- class, subclass and protocol of its interface
abbrev pub interface : List ℕ
interface = usb.own_interface.bInterfaceClass ∷ usb.own_interface.bInterfaceSubClass ∷ usb.own_interface.bInterfaceProtocol ∷ []
