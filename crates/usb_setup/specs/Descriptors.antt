-- lists of descriptors: USB 2.0 chapter 9
use Rattle.std.specs.Prelude.{◌≡◌, ◌≢◌, ◌⊎◌, ℕ, ◌+◌, ◌*◌, ◌<◌, ◌≤◌, List, [], ◌++◌, length, slice_index, ◌==◌, if◌then◌else◌}
use Rattle.std.specs.List.{concat, AllByRecursion}
use Rattle.usb_setup.specs.Standard.{device_type, configuration_type, interface_type, endpoint_type, device_size, configuration_size, interface_size, endpoint_size, ConfigurationDescriptor, InterfaceDescriptor, EndpointDescriptor}

-- the two bytes from a place on, the low one first
abbrev pub word_at : ℕ → List ℕ → ℕ
word_at place bytes = slice_index bytes place + 256 * slice_index bytes (place + 1)

-- the fields of a descriptor that a reader of lists needs, each at its offset in the standard's table

-- of every descriptor, section 9.5
abbrev pub bLength : List ℕ → ℕ
bLength d = slice_index d 0

abbrev pub bDescriptorType : List ℕ → ℕ
bDescriptorType d = slice_index d 1

-- of a configuration, table 9-10
abbrev pub bConfigurationValue : List ℕ → ℕ
bConfigurationValue d = slice_index d 5

-- of an interface, table 9-12
abbrev pub bInterfaceNumber : List ℕ → ℕ
bInterfaceNumber d = slice_index d 2

abbrev pub bInterfaceClass : List ℕ → ℕ
bInterfaceClass d = slice_index d 5

abbrev pub bInterfaceSubClass : List ℕ → ℕ
bInterfaceSubClass d = slice_index d 6

abbrev pub bInterfaceProtocol : List ℕ → ℕ
bInterfaceProtocol d = slice_index d 7

-- of an endpoint, table 9-13
abbrev pub bEndpointAddress : List ℕ → ℕ
bEndpointAddress d = slice_index d 2

abbrev pub bmAttributes : List ℕ → ℕ
bmAttributes d = slice_index d 3

abbrev pub wMaxPacketSize : List ℕ → ℕ
wMaxPacketSize d = word_at 4 d

-- the least length of a descriptor of this type, 0 for a type that is skipped unread; what a longer one has more
-- is ignored, and a shorter one is invalid (section 9.5)
abbrev pub size_of : ℕ → ℕ
size_of t =
    if t == device_type then device_size
    else if t == configuration_type then configuration_size
    else if t == interface_type then interface_size
    else if t == endpoint_type then endpoint_size
    else 0

-- a descriptor with its length byte
pub record IsDescriptor (d : List ℕ) : Type 0 where
  pub counted : bLength d ≡ length d
  pub headed : 2 ≤ length d
  pub sized : size_of (bDescriptorType d) ≤ length d

-- a configuration descriptor is to stand first
abbrev pub BeginsWithConfiguration : List ℕ → Type 0
BeginsWithConfiguration bytes = (bDescriptorType bytes ≡ configuration_type) × (configuration_size ≤ bLength bytes)

-- the bytes are these descriptors in a row, a configuration descriptor first
pub record AreDescriptors (bytes : List ℕ) (ds : List (List ℕ)) : Type 0 where
  pub begins : BeginsWithConfiguration bytes
  pub in_row : bytes ≡ concat ds
  pub each : AllByRecursion IsDescriptor ds

-- the length byte in front is below 2, passes the end, or is below the size of its type
abbrev pub IsBad : List ℕ → Type 0
IsBad rest =
    (rest ≢ []) × ((bLength rest < 2) ⊎ ((length rest < bLength rest) ⊎ (bLength rest < size_of (bDescriptorType rest))))

-- behind whole descriptors one with a bad length stands at this place
pub record IsBadAt (bytes : List ℕ) (at : ℕ) : Type 0 where
  pub front : List (List ℕ)
  pub rest : List ℕ
  pub in_row : bytes ≡ concat front ++ rest
  pub each : AllByRecursion IsDescriptor front
  pub place : at ≡ length (concat front)
  pub bad : IsBad rest

-- the place at which bytes are no list of descriptors: the start where no configuration descriptor begins it,
-- else that of the first bad length
abbrev pub IsBrokenAt : List ℕ → ℕ → Type 0
IsBrokenAt bytes at =
    ((at ≡ 0) × ¬ BeginsWithConfiguration bytes) ⊎ (BeginsWithConfiguration bytes × IsBadAt bytes at)

-- a descriptor's text has these fields at their offsets, and begins with its size and its type
pub record HasConfigurationFields (text : List ℕ) (d : ConfigurationDescriptor) : Type 0 where
  pub size : bLength text ≡ size_of configuration_type
  pub kind : bDescriptorType text ≡ configuration_type
  pub value : bConfigurationValue text ≡ d.bConfigurationValue

pub record HasInterfaceFields (text : List ℕ) (d : InterfaceDescriptor) : Type 0 where
  pub size : bLength text ≡ size_of interface_type
  pub kind : bDescriptorType text ≡ interface_type
  pub number : bInterfaceNumber text ≡ d.bInterfaceNumber
  pub class : bInterfaceClass text ≡ d.bInterfaceClass
  pub subclass : bInterfaceSubClass text ≡ d.bInterfaceSubClass
  pub protocol : bInterfaceProtocol text ≡ d.bInterfaceProtocol

pub record HasEndpointFields (text : List ℕ) (d : EndpointDescriptor) : Type 0 where
  pub size : bLength text ≡ size_of endpoint_type
  pub kind : bDescriptorType text ≡ endpoint_type
  pub address : bEndpointAddress text ≡ d.bEndpointAddress
  pub attributes : bmAttributes text ≡ d.bmAttributes
  pub max_packet_size : wMaxPacketSize text ≡ d.wMaxPacketSize
