-- requests that are near to rows of the tables, step by step
use Rattle.std.proofs.Common.{◌≡◌, ◌<◌, true, false, [], ◌∷◌, refl, ap, arith, lit<}
use Rattle.usb_setup.specs.declared.setup.Setup.{Setup}
use Rattle.usbip_wire.specs.declared.submit.SubmitHead.{SubmitHead}
use Rattle.usbip_wire.specs.Up as up
use Rattle.tmc_wire.specs.declared.class_request.ClassRequest.{ClassRequest}
use Rattle.tmc_wire.specs.declared.class_request.ClassRequest.TheVariants.{AbortOut, CheckOut, AbortIn, CheckIn, Clear, CheckClear, Capabilities, Pulse, ReadStatus, Ren, GoLocal, Lockout}
use Rattle.tmc_wire.specs.ControlTable.{IsRow, fields}
use Rattle.tmc_law.specs.Endpoint.{ends}
use Rattle.tmc_law.specs.State.{State, start, arrived}
use Rattle.tmc_law.specs.Put.{returned}
use Rattle.tmc_law.specs.Control.{Asks}
use Rattle.tmc_law.specs.Standard.{Standard, IsStandard, GetDeviceStatus, GetInterfaceStatus, GetEndpointStatus, ClearHalt, GetDeviceDescriptor, GetConfigurationDescriptor, GetString, GetConfiguration, SetConfiguration, GetInterface, SetInterface}
use Rattle.tmc_law.specs.Class.{Unknown}
use Rattle.tmc_law.specs.Step.{Steps, Comes}
use Rattle.tmc_law.specs.Run.{Runs}
use Rattle.tmc_law.specs.WorkedUnknown.{stalling, string_submit, configure_submit, select_submit, pulse_submit}
use Rattle.tmc_law.proofs.WorkedComing.{asking_comes, telling_comes}

-- a class request has another bmRequestType than a standard one
type_of : (a b : Setup) → a ≡ b → a.request_type ≡ b.request_type
type_of a b e = ap (λ (s : Setup). s.request_type) e

no_class : (setup : Setup) → setup.request_type < 0xA1 → (request : ClassRequest) → IsRow ends request setup → ⊥
no_class setup below (AbortOut tag) row = omega (arith, type_of _ _ row.is, below)
no_class setup below CheckOut row = omega (arith, type_of _ _ row.is, below)
no_class setup below (AbortIn tag) row = omega (arith, type_of _ _ row.is, below)
no_class setup below CheckIn row = omega (arith, type_of _ _ row.is, below)
no_class setup below Clear row = omega (arith, type_of _ _ row.is, below)
no_class setup below CheckClear row = omega (arith, type_of _ _ row.is, below)
no_class setup below Capabilities row = omega (arith, type_of _ _ row.is, below)
no_class setup below Pulse row = omega (arith, type_of _ _ row.is, below)
no_class setup below (ReadStatus tag) row = omega (arith, type_of _ _ row.is, below)
no_class setup below (Ren true) row = omega (arith, type_of _ _ row.is, below)
no_class setup below (Ren false) row = omega (arith, type_of _ _ row.is, below)
no_class setup below GoLocal row = omega (arith, type_of _ _ row.is, below)
no_class setup below Lockout row = omega (arith, type_of _ _ row.is, below)

abbrev came : SubmitHead → State
came head = record start { control = arrived head [] ∷ [] }

stalls : (head : SubmitHead) (setup : Setup) → Steps start (Comes (up.Submit head [])) [] (came head) → Asks (arrived head []) setup → ((request : ClassRequest) → IsRow ends request setup → ⊥)
    → ((request : Standard) → IsStandard request setup → ⊥) → returned head.dir [] ≡ [] → Runs start (stalling head) start
stalls head setup comes asks no_class no_standard none = (
  came head,
  comes,
  (
    start,
    record {
      plugged = refl;
      leads = Unknown (arrived head []) [] setup refl asks (record { no_class = no_class; no_standard = no_standard }) (rw none refl) refl;
    },
    refl,
  ),
)

abbrev string_setup : Setup
string_setup = fields 0x80 6 0x0304 0x0409 255

no_string : (request : Standard) → IsStandard request string_setup → ⊥
no_string GetDeviceStatus has = omega (arith, has.request_type, has.request, has.value)
no_string GetInterfaceStatus has = omega (arith, has.request_type, has.request, has.value)
no_string (GetEndpointStatus endpoint) has = omega (arith, has.request_type, has.request, has.value)
no_string (ClearHalt endpoint) has = omega (arith, has.request_type, has.request, has.value)
no_string GetDeviceDescriptor has = omega (arith, has.request_type, has.request, has.value)
no_string GetConfigurationDescriptor has = omega (arith, has.request_type, has.request, has.value)
no_string (GetString index) has = omega (arith, has.0, has.1.request_type, has.1.request, has.1.value)
no_string GetConfiguration has = omega (arith, has.request_type, has.request, has.value)
no_string SetConfiguration has = omega (arith, has.request_type, has.request, has.value)
no_string GetInterface has = omega (arith, has.request_type, has.request, has.value)
no_string SetInterface has = omega (arith, has.request_type, has.request, has.value)

pub stalls_string : Runs start (stalling string_submit) start
stalls_string = stalls string_submit string_setup
    (asking_comes start 1 255 0x80 _ (record { plugged = refl; free = refl; few = refl }) refl refl)
    (record { fits = record { request_type = lit< tt; request = lit< tt; value = lit< tt; index = lit< tt; length = lit< tt }; layout = refl })
    (no_class string_setup (lit< tt)) no_string refl

abbrev configure_setup : Setup
configure_setup = fields 0x00 9 0 0 0

no_configure : (request : Standard) → IsStandard request configure_setup → ⊥
no_configure GetDeviceStatus has = omega (arith, has.request_type, has.request, has.value)
no_configure GetInterfaceStatus has = omega (arith, has.request_type, has.request, has.value)
no_configure (GetEndpointStatus endpoint) has = omega (arith, has.request_type, has.request, has.value)
no_configure (ClearHalt endpoint) has = omega (arith, has.request_type, has.request, has.value)
no_configure GetDeviceDescriptor has = omega (arith, has.request_type, has.request, has.value)
no_configure GetConfigurationDescriptor has = omega (arith, has.request_type, has.request, has.value)
no_configure (GetString index) has = omega (arith, has.0, has.1.request_type, has.1.request, has.1.value)
no_configure GetConfiguration has = omega (arith, has.request_type, has.request, has.value)
no_configure SetConfiguration has = omega (arith, has.request_type, has.request, has.value)
no_configure GetInterface has = omega (arith, has.request_type, has.request, has.value)
no_configure SetInterface has = omega (arith, has.request_type, has.request, has.value)

pub stalls_configure : Runs start (stalling configure_submit) start
stalls_configure = stalls configure_submit configure_setup
    (telling_comes start 1 0x00 _ (record { plugged = refl; free = refl; few = refl }) refl refl)
    (record { fits = record { request_type = lit< tt; request = lit< tt; value = lit< tt; index = lit< tt; length = lit< tt }; layout = refl })
    (no_class configure_setup (lit< tt)) no_configure refl

abbrev select_setup : Setup
select_setup = fields 0x01 11 1 0 0

no_select : (request : Standard) → IsStandard request select_setup → ⊥
no_select GetDeviceStatus has = omega (arith, has.request_type, has.request, has.value)
no_select GetInterfaceStatus has = omega (arith, has.request_type, has.request, has.value)
no_select (GetEndpointStatus endpoint) has = omega (arith, has.request_type, has.request, has.value)
no_select (ClearHalt endpoint) has = omega (arith, has.request_type, has.request, has.value)
no_select GetDeviceDescriptor has = omega (arith, has.request_type, has.request, has.value)
no_select GetConfigurationDescriptor has = omega (arith, has.request_type, has.request, has.value)
no_select (GetString index) has = omega (arith, has.0, has.1.request_type, has.1.request, has.1.value)
no_select GetConfiguration has = omega (arith, has.request_type, has.request, has.value)
no_select SetConfiguration has = omega (arith, has.request_type, has.request, has.value)
no_select GetInterface has = omega (arith, has.request_type, has.request, has.value)
no_select SetInterface has = omega (arith, has.request_type, has.request, has.value)

pub stalls_select : Runs start (stalling select_submit) start
stalls_select = stalls select_submit select_setup
    (telling_comes start 1 0x01 _ (record { plugged = refl; free = refl; few = refl }) refl refl)
    (record { fits = record { request_type = lit< tt; request = lit< tt; value = lit< tt; index = lit< tt; length = lit< tt }; layout = refl })
    (no_class select_setup (lit< tt)) no_select refl

request_of : (a b : Setup) → a ≡ b → a.request ≡ b.request
request_of a b e = ap (λ (s : Setup). s.request) e

index_of : (a b : Setup) → a ≡ b → a.index ≡ b.index
index_of a b e = ap (λ (s : Setup). s.index) e

abbrev pulse_setup : Setup
pulse_setup = fields 0xA1 64 0 1 1

no_class_pulse : (request : ClassRequest) → IsRow ends request pulse_setup → ⊥
no_class_pulse (AbortOut tag) row = omega (arith, request_of _ _ row.is, index_of _ _ row.is)
no_class_pulse CheckOut row = omega (arith, request_of _ _ row.is, index_of _ _ row.is)
no_class_pulse (AbortIn tag) row = omega (arith, request_of _ _ row.is, index_of _ _ row.is)
no_class_pulse CheckIn row = omega (arith, request_of _ _ row.is, index_of _ _ row.is)
no_class_pulse Clear row = omega (arith, request_of _ _ row.is, index_of _ _ row.is)
no_class_pulse CheckClear row = omega (arith, request_of _ _ row.is, index_of _ _ row.is)
no_class_pulse Capabilities row = omega (arith, request_of _ _ row.is, index_of _ _ row.is)
no_class_pulse Pulse row = omega (arith, request_of _ _ row.is, index_of _ _ row.is)
no_class_pulse (ReadStatus tag) row = omega (arith, request_of _ _ row.is, index_of _ _ row.is)
no_class_pulse (Ren true) row = omega (arith, request_of _ _ row.is, index_of _ _ row.is)
no_class_pulse (Ren false) row = omega (arith, request_of _ _ row.is, index_of _ _ row.is)
no_class_pulse GoLocal row = omega (arith, request_of _ _ row.is, index_of _ _ row.is)
no_class_pulse Lockout row = omega (arith, request_of _ _ row.is, index_of _ _ row.is)

no_pulse : (request : Standard) → IsStandard request pulse_setup → ⊥
no_pulse GetDeviceStatus has = omega (arith, has.request_type)
no_pulse GetInterfaceStatus has = omega (arith, has.request_type)
no_pulse (GetEndpointStatus endpoint) has = omega (arith, has.request_type)
no_pulse (ClearHalt endpoint) has = omega (arith, has.request_type)
no_pulse GetDeviceDescriptor has = omega (arith, has.request_type)
no_pulse GetConfigurationDescriptor has = omega (arith, has.request_type)
no_pulse (GetString index) has = omega (arith, has.1.request_type)
no_pulse GetConfiguration has = omega (arith, has.request_type)
no_pulse SetConfiguration has = omega (arith, has.request_type)
no_pulse GetInterface has = omega (arith, has.request_type)
no_pulse SetInterface has = omega (arith, has.request_type)

pub stalls_pulse : Runs start (stalling pulse_submit) start
stalls_pulse = stalls pulse_submit pulse_setup
    (asking_comes start 1 1 0xA1 _ (record { plugged = refl; free = refl; few = refl }) refl refl)
    (record { fits = record { request_type = lit< tt; request = lit< tt; value = lit< tt; index = lit< tt; length = lit< tt }; layout = refl })
    no_class_pulse no_pulse refl
