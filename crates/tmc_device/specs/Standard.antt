-- the standard requests of a device
use Rattle.std.specs.Prelude.{◌≡◌, ℕ, ◌<◌, List, [], ◌∷◌, ◌++◌}
use Rattle.usb_setup.specs.declared.setup.Setup.{Setup}
use Rattle.tmc_law.specs.State.{Pending}
use Rattle.tmc_law.specs.Control.{control_answer}
use Rattle.tmc_law.specs.Standard as law
use Rattle.endpoint_pipes.specs.Held.{endpoint_of}
use Rattle.tmc_device.specs.declared.standard.StandardRequest.{StandardRequest}
use Rattle.tmc_device.specs.declared.standard.StandardRequest.TheVariants as request
use Rattle.tmc_device.specs.declared.answer.Asked.{Asked}
use Rattle.tmc_device.specs.declared.body.Body.{Body}
use Rattle.tmc_device.specs.Body.{state_of}

-- the standard request that this is
abbrev pub standard_of : StandardRequest → law.Standard
standard_of request.DeviceStatus = law.GetDeviceStatus
standard_of request.InterfaceStatus = law.GetInterfaceStatus
standard_of (request.EndpointStatus ep) = law.GetEndpointStatus (endpoint_of ep)
standard_of (request.ClearHalt ep) = law.ClearHalt (endpoint_of ep)
standard_of request.DeviceDescriptor = law.GetDeviceDescriptor
standard_of request.ConfigurationDescriptor = law.GetConfigurationDescriptor
standard_of (request.String index) = law.GetString index
standard_of request.Configuration = law.GetConfiguration
standard_of request.SetConfiguration = law.SetConfiguration
standard_of request.Interface = law.GetInterface
standard_of request.SetInterface = law.SetInterface

-- its endpoint and its string are there
abbrev pub IsKnown : StandardRequest → Type 0
IsKnown (request.EndpointStatus ep) = ep < 4
IsKnown (request.ClearHalt ep) = ep < 4
IsKnown (request.String index) = index < 4
IsKnown _ = Unit {0}

-- the setup is this request's, or no request's, where its wValue names a descriptor
abbrev pub Describes : (value : ℕ) → StandardRequest → Type 0
Describes value found = IsKnown found × ((setup : Setup) → setup.request_type ≡ 0x80 → setup.request ≡ 6 → setup.value ≡ value → law.IsStandard (standard_of found) setup)

abbrev pub DescribesNothing : (value : ℕ) → Type 0
DescribesNothing value = (setup : Setup) (request : law.Standard) → setup.request_type ≡ 0x80 → setup.request ≡ 6 → setup.value ≡ value
    → law.IsStandard request setup → ⊥

-- a standard request was answered for the first control submit, and did what it asks
pub record IsDone (request : law.Standard) (submit : Pending) (behind : List Pending) (setup : Setup) (old new : Body) : Type 0 where
  pub state : state_of new ≡ law.standard_effect request (record (state_of old) { control = behind })
  pub puts : new.outputs.puts ≡ old.outputs.puts ++ control_answer submit setup (law.standard_layout request (state_of old)) ∷ []

abbrev pub DoesFirst : StandardRequest → Asked → (old new : Body) → Type 0
DoesFirst request asked old new = (submit : Pending) (behind : List Pending) → (state_of old).control ≡ submit ∷ behind →
    IsDone (standard_of request) submit behind asked.setup old new
