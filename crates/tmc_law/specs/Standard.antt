-- the standard requests (USB 2.0, section 9.4 and table 9-3)
use Rattle.std.specs.Prelude.{◌≡◌, ℕ, ◌+◌, ◌*◌, ◌<◌, Bool, true, false, List, [], ◌∷◌}
use Rattle.usb_setup.specs.declared.setup.Setup.{Setup}
use Rattle.usb_setup.specs.Identity.{device_text, configuration_text, string_text, own_configuration}
use Rattle.tmc_law.specs.Endpoint.{Endpoint, BulkOut, BulkIn, InterruptIn, address_of}
use Rattle.tmc_law.specs.State.{State, is_halted, with_halt}

pub data Standard : Type 0 where
  GetDeviceStatus : Standard
  GetInterfaceStatus : Standard
  GetEndpointStatus : (endpoint : Endpoint) → Standard
  ClearHalt : (endpoint : Endpoint) → Standard
  GetDeviceDescriptor : Standard
  GetConfigurationDescriptor : Standard
  GetString : (index : ℕ) → Standard
  GetConfiguration : Standard
  SetConfiguration : Standard
  GetInterface : Standard
  SetInterface : Standard

-- bmRequestType and bRequest, wValue, and wIndex; wLength may be any
pub record HasFields (setup : Setup) (bmRequestType bRequest wValue wIndex : ℕ) : Type 0 where
  pub request_type : setup.request_type ≡ bmRequestType
  pub request : setup.request ≡ bRequest
  pub value : setup.value ≡ wValue
  pub index : setup.index ≡ wIndex

-- the high byte of wValue is the type of a descriptor (table 9-5), the low byte its index; wIndex may be any
abbrev pub descriptor : (kind index : ℕ) → ℕ
descriptor kind index = 256 * kind + index

-- the rows of the table that the instrument knows
abbrev pub IsStandard : Standard → Setup → Type 0
IsStandard GetDeviceStatus setup = HasFields setup 0x80 0 0 0
IsStandard GetInterfaceStatus setup = HasFields setup 0x81 0 0 0
IsStandard (GetEndpointStatus endpoint) setup = HasFields setup 0x82 0 0 (address_of endpoint)
-- CLEAR_FEATURE of ENDPOINT_HALT, which is feature 0 (table 9-6)
IsStandard (ClearHalt endpoint) setup = HasFields setup 0x02 1 0 (address_of endpoint)
IsStandard GetDeviceDescriptor setup = HasFields setup 0x80 6 (descriptor 1 0) setup.index
IsStandard GetConfigurationDescriptor setup = HasFields setup 0x80 6 (descriptor 2 0) setup.index
IsStandard (GetString index) setup = (index < 4) × HasFields setup 0x80 6 (descriptor 3 index) setup.index
IsStandard GetConfiguration setup = HasFields setup 0x80 8 0 0
IsStandard SetConfiguration setup = HasFields setup 0x00 9 own_configuration.bConfigurationValue 0
IsStandard GetInterface setup = HasFields setup 0x81 10 0 0
IsStandard SetInterface setup = HasFields setup 0x01 11 0 0

-- bit 0 of an endpoint's status: it is halted (figure 9-6)
abbrev pub halt_bit : Bool → ℕ
halt_bit true = 1
halt_bit false = 0

-- the data of the answer; bit 0 of the device's status says that it is self-powered (figure 9-4)
abbrev pub standard_layout : Standard → State → List ℕ
standard_layout GetDeviceStatus s = 1 ∷ 0 ∷ []
standard_layout GetInterfaceStatus s = 0 ∷ 0 ∷ []
standard_layout (GetEndpointStatus endpoint) s = halt_bit (is_halted endpoint s) ∷ 0 ∷ []
standard_layout (ClearHalt endpoint) s = []
standard_layout GetDeviceDescriptor s = device_text
standard_layout GetConfigurationDescriptor s = configuration_text
standard_layout (GetString index) s = string_text index
standard_layout GetConfiguration s = own_configuration.bConfigurationValue ∷ []
standard_layout SetConfiguration s = []
standard_layout GetInterface s = 0 ∷ []
standard_layout SetInterface s = []

-- endpoints 1 to 3 are not halted
abbrev pub without_halts : State → State
without_halts s = with_halt BulkOut false (with_halt BulkIn false (with_halt InterruptIn false s))

-- what the request does: it ends the halt of an endpoint, or those of all endpoints of a configuration or an interface
-- (section 9.4.5)
abbrev pub standard_effect : Standard → State → State
standard_effect (ClearHalt endpoint) s = with_halt endpoint false s
standard_effect SetConfiguration s = without_halts s
standard_effect SetInterface s = without_halts s
standard_effect _ s = s
