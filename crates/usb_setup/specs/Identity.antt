-- what the instrument says of itself
use Rattle.std.specs.Prelude.{ℕ, List, [], ◌∷◌, ◌++◌, codes, slice_index_or}
use Rattle.usb_setup.specs.Standard.{DeviceDescriptor, device_layout, ConfigurationDescriptor, configuration_layout, InterfaceDescriptor, interface_layout, EndpointDescriptor, endpoint_layout, string_layout}

-- USB 2.0, class by interface, packets of 64 bytes on endpoint 0, strings 1 to 3, one configuration
abbrev pub device : DeviceDescriptor
device = record {
  bcdUSB = 0x0200;
  bDeviceClass = 0;
  bDeviceSubClass = 0;
  bDeviceProtocol = 0;
  bMaxPacketSize0 = 64;
  idVendor = 0xF055;
  idProduct = 0x0488;
  bcdDevice = 0x0100;
  iManufacturer = 1;
  iProduct = 2;
  iSerialNumber = 3;
  bNumConfigurations = 1;
}

abbrev pub device_text : List ℕ
device_text = device_layout device

-- configuration 1, self-powered: it takes no current from the bus
abbrev pub own_configuration : ConfigurationDescriptor
own_configuration = record {
  wTotalLength = 39;
  bNumInterfaces = 1;
  bConfigurationValue = 1;
  iConfiguration = 0;
  bmAttributes = 0xC0;
  bMaxPower = 0;
}

-- interface 0: USBTMC with USB488
abbrev pub own_interface : InterfaceDescriptor
own_interface = record {
  bInterfaceNumber = 0;
  bAlternateSetting = 0;
  bNumEndpoints = 3;
  bInterfaceClass = 0xFE;
  bInterfaceSubClass = 0x03;
  bInterfaceProtocol = 1;
  iInterface = 0;
}

-- endpoint 1, Bulk-OUT, packets of 64 bytes
abbrev pub bulk_out : EndpointDescriptor
bulk_out = record { bEndpointAddress = 0x01; bmAttributes = 2; wMaxPacketSize = 64; bInterval = 0 }

-- endpoint 2, Bulk-IN, packets of 64 bytes
abbrev pub bulk_in : EndpointDescriptor
bulk_in = record { bEndpointAddress = 0x82; bmAttributes = 2; wMaxPacketSize = 64; bInterval = 0 }

-- endpoint 3, Interrupt-IN, packets of 8 bytes, polled every 10 frames
abbrev pub interrupt_in : EndpointDescriptor
interrupt_in = record { bEndpointAddress = 0x83; bmAttributes = 3; wMaxPacketSize = 8; bInterval = 10 }

abbrev pub configuration_text : List ℕ
configuration_text =
    configuration_layout own_configuration
    ++ interface_layout own_interface
    ++ endpoint_layout bulk_out
    ++ endpoint_layout bulk_in
    ++ endpoint_layout interrupt_in

-- string 0 is the list of languages, English (United States) alone; the others are its characters, all ASCII
abbrev pub strings : List (List ℕ)
strings = (0x0409 ∷ []) ∷ codes "EXAMPLE" ∷ codes "TMC1" ∷ codes "0" ∷ []

abbrev pub string_text : ℕ → List ℕ
string_text index = string_layout (slice_index_or strings index [])
