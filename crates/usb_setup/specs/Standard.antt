-- standard descriptors: USB 2.0 chapter 9, the fields under the standard's names and in the order of its tables
use Rattle.std.specs.Prelude.{ℕ, ◌+◌, ◌*◌, List, [], ◌∷◌, ◌++◌, length}
use Rattle.std.specs.List.{flat_map}
use Rattle.std.specs.Int.{w16, to_le_bytes}

-- table 9-5: descriptor types
abbrev pub device_type : ℕ
device_type = 1

abbrev pub configuration_type : ℕ
configuration_type = 2

abbrev pub string_type : ℕ
string_type = 3

abbrev pub interface_type : ℕ
interface_type = 4

abbrev pub endpoint_type : ℕ
endpoint_type = 5

-- the sizes that tables 9-8, 9-10, 9-12 and 9-13 give: bLength of a descriptor without more
abbrev pub device_size : ℕ
device_size = 18

abbrev pub configuration_size : ℕ
configuration_size = 9

abbrev pub interface_size : ℕ
interface_size = 9

abbrev pub endpoint_size : ℕ
endpoint_size = 7

-- a field of two bytes, the low one first (section 8.1)
abbrev pub word : ℕ → List ℕ
word n = to_le_bytes w16 n

-- table 9-8
pub record DeviceDescriptor : Type 0 where
  pub bcdUSB : ℕ
  pub bDeviceClass : ℕ
  pub bDeviceSubClass : ℕ
  pub bDeviceProtocol : ℕ
  pub bMaxPacketSize0 : ℕ
  pub idVendor : ℕ
  pub idProduct : ℕ
  pub bcdDevice : ℕ
  pub iManufacturer : ℕ
  pub iProduct : ℕ
  pub iSerialNumber : ℕ
  pub bNumConfigurations : ℕ

-- its bytes: bLength and bDescriptorType, then its fields
abbrev pub device_layout : DeviceDescriptor → List ℕ
device_layout d =
    device_size ∷ device_type ∷ []
    ++ word d.bcdUSB
    ++ d.bDeviceClass ∷ d.bDeviceSubClass ∷ d.bDeviceProtocol ∷ d.bMaxPacketSize0 ∷ []
    ++ word d.idVendor
    ++ word d.idProduct
    ++ word d.bcdDevice
    ++ d.iManufacturer ∷ d.iProduct ∷ d.iSerialNumber ∷ d.bNumConfigurations ∷ []

-- table 9-10
pub record ConfigurationDescriptor : Type 0 where
  pub wTotalLength : ℕ
  pub bNumInterfaces : ℕ
  pub bConfigurationValue : ℕ
  pub iConfiguration : ℕ
  pub bmAttributes : ℕ
  pub bMaxPower : ℕ

abbrev pub configuration_layout : ConfigurationDescriptor → List ℕ
configuration_layout d =
    configuration_size ∷ configuration_type ∷ []
    ++ word d.wTotalLength
    ++ d.bNumInterfaces ∷ d.bConfigurationValue ∷ d.iConfiguration ∷ d.bmAttributes ∷ d.bMaxPower ∷ []

-- table 9-12
pub record InterfaceDescriptor : Type 0 where
  pub bInterfaceNumber : ℕ
  pub bAlternateSetting : ℕ
  pub bNumEndpoints : ℕ
  pub bInterfaceClass : ℕ
  pub bInterfaceSubClass : ℕ
  pub bInterfaceProtocol : ℕ
  pub iInterface : ℕ

abbrev pub interface_layout : InterfaceDescriptor → List ℕ
interface_layout d =
    interface_size ∷ interface_type ∷ d.bInterfaceNumber ∷ d.bAlternateSetting ∷ d.bNumEndpoints
    ∷ d.bInterfaceClass ∷ d.bInterfaceSubClass ∷ d.bInterfaceProtocol ∷ d.iInterface ∷ []

-- table 9-13
pub record EndpointDescriptor : Type 0 where
  pub bEndpointAddress : ℕ
  pub bmAttributes : ℕ
  pub wMaxPacketSize : ℕ
  pub bInterval : ℕ

abbrev pub endpoint_layout : EndpointDescriptor → List ℕ
endpoint_layout d =
    endpoint_size ∷ endpoint_type ∷ d.bEndpointAddress ∷ d.bmAttributes ∷ [] ++ word d.wMaxPacketSize ++ d.bInterval ∷ []

-- tables 9-15 and 9-16: the language codes of string 0, and the 16-bit characters of every other string
abbrev pub string_layout : List ℕ → List ℕ
string_layout words = (2 + 2 * length words) ∷ string_type ∷ flat_map word words
