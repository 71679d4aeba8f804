-- a short descriptor, short capabilities, and a request that the device does not know, step by step
use Rattle.std.proofs.Common.{◌≡◌, true, false, [], ◌∷◌, refl, ap, arith, lit<}
use Rattle.usb_setup.specs.declared.setup.Setup.{Setup}
use Rattle.tmc_wire.specs.declared.class_request.ClassRequest.{ClassRequest}
use Rattle.tmc_wire.specs.declared.class_request.ClassRequest.TheVariants.{AbortOut, CheckOut, AbortIn, CheckIn, Clear, CheckClear, Capabilities, Pulse, ReadStatus, Ren, GoLocal, Lockout}
use Rattle.tmc_wire.specs.ControlTable.{IsRow, fields}
use Rattle.tmc_law.specs.Endpoint.{ends}
use Rattle.tmc_law.specs.State.{State, start, arrived}
use Rattle.tmc_law.specs.Put.{success, stalled}
use Rattle.tmc_law.specs.Control.{Asks}
use Rattle.tmc_law.specs.Standard.{Standard, IsStandard, GetDeviceStatus, GetInterfaceStatus, GetEndpointStatus, ClearHalt, GetDeviceDescriptor, GetConfigurationDescriptor, GetString, GetConfiguration, SetConfiguration, GetInterface, SetInterface}
use Rattle.tmc_law.specs.Class.{ByClass, Unknown, capabilities_layout}
use Rattle.tmc_law.specs.Step.{Steps, Answer}
use Rattle.tmc_law.specs.Run.{Runs}
use Rattle.tmc_law.specs.WorkedSession.{answered}
use Rattle.tmc_law.specs.WorkedControl.{descriptor_submit, unknown_submit, asking_control, part_submit, asking_part}
use Rattle.tmc_law.proofs.WorkedComing.{asking_comes}
use Rattle.tmc_law.proofs.WorkedAnswering.{answers_standard}

abbrev descriptor_came : State
descriptor_came = record start { control = arrived descriptor_submit [] ∷ [] }

abbrev unknown_came : State
unknown_came = record start { control = arrived unknown_submit [] ∷ [] }

abbrev descriptor_setup : Setup
descriptor_setup = record { request_type = 0x80; request = 6; value = 0x0100; index = 0; length = 8 }

abbrev unknown_setup : Setup
unknown_setup = record { request_type = 0xC0; request = 1; value = 0; index = 0; length = 4 }

descriptor_asks : Asks (arrived descriptor_submit []) descriptor_setup
descriptor_asks = record { fits = record { request_type = lit< tt; request = lit< tt; value = lit< tt; index = lit< tt; length = lit< tt }; layout = refl }

unknown_asks : Asks (arrived unknown_submit []) unknown_setup
unknown_asks = record { fits = record { request_type = lit< tt; request = lit< tt; value = lit< tt; index = lit< tt; length = lit< tt }; layout = refl }

tells_descriptor : Steps descriptor_came Answer (answered descriptor_submit success 8 (0x12 ∷ 0x01 ∷ 0x00 ∷ 0x02 ∷ 0x00 ∷ 0x00 ∷ 0x00 ∷ 0x40 ∷ []) ∷ []) start
tells_descriptor = answers_standard descriptor_came (arrived descriptor_submit []) [] descriptor_setup GetDeviceDescriptor refl refl descriptor_asks (record { request_type = refl; request = refl; value = refl; index = refl })

-- no row has its bmRequestType
type_of : (a b : Setup) → a ≡ b → a.request_type ≡ b.request_type
type_of a b e = ap (λ (s : Setup). s.request_type) e

no_class : (request : ClassRequest) → IsRow ends request unknown_setup → ⊥
no_class (AbortOut tag) row = omega (arith, type_of _ _ row.is)
no_class CheckOut row = omega (arith, type_of _ _ row.is)
no_class (AbortIn tag) row = omega (arith, type_of _ _ row.is)
no_class CheckIn row = omega (arith, type_of _ _ row.is)
no_class Clear row = omega (arith, type_of _ _ row.is)
no_class CheckClear row = omega (arith, type_of _ _ row.is)
no_class Capabilities row = omega (arith, type_of _ _ row.is)
no_class Pulse row = omega (arith, type_of _ _ row.is)
no_class (ReadStatus tag) row = omega (arith, type_of _ _ row.is)
no_class (Ren true) row = omega (arith, type_of _ _ row.is)
no_class (Ren false) row = omega (arith, type_of _ _ row.is)
no_class GoLocal row = omega (arith, type_of _ _ row.is)
no_class Lockout row = omega (arith, type_of _ _ row.is)

no_standard : (request : Standard) → IsStandard request unknown_setup → ⊥
no_standard GetDeviceStatus has = omega (arith, has.request_type)
no_standard GetInterfaceStatus has = omega (arith, has.request_type)
no_standard (GetEndpointStatus endpoint) has = omega (arith, has.request_type)
no_standard (ClearHalt endpoint) has = omega (arith, has.request_type)
no_standard GetDeviceDescriptor has = omega (arith, has.request_type)
no_standard GetConfigurationDescriptor has = omega (arith, has.request_type)
no_standard (GetString index) has = omega (arith, has.1.request_type)
no_standard GetConfiguration has = omega (arith, has.request_type)
no_standard SetConfiguration has = omega (arith, has.request_type)
no_standard GetInterface has = omega (arith, has.request_type)
no_standard SetInterface has = omega (arith, has.request_type)

stalls : Steps unknown_came Answer (answered unknown_submit stalled 0 [] ∷ []) start
stalls = record {
  plugged = refl;
  leads = Unknown (arrived unknown_submit []) [] unknown_setup refl unknown_asks (record { no_class = no_class; no_standard = no_standard }) refl refl;
}

pub asks_control : Runs start asking_control start
asks_control = (
  descriptor_came,
  asking_comes start 1 18 0x80 _ (record { plugged = refl; free = refl; few = refl }) refl refl,
  (
    start,
    tells_descriptor,
    (
      unknown_came,
      asking_comes start 2 4 0xC0 _ (record { plugged = refl; free = refl; few = refl }) refl refl,
      (start, stalls, refl),
    ),
  ),
)

abbrev part_came : State
part_came = record start { control = arrived part_submit [] ∷ [] }

part_asks : Asks (arrived part_submit []) (fields 0xA1 7 0 0 4)
part_asks = record { fits = record { request_type = lit< tt; request = lit< tt; value = lit< tt; index = lit< tt; length = lit< tt }; layout = refl }

tells_part : Steps part_came Answer (answered part_submit success 4 (0x01 ∷ 0x00 ∷ 0x00 ∷ 0x01 ∷ []) ∷ []) start
tells_part = record {
  plugged = refl;
  leads = ByClass (arrived part_submit []) [] (fields 0xA1 7 0 0 4) Capabilities (record { layout = capabilities_layout; behind = []; state = start })
      refl part_asks (record { fits = tt; is = refl }) refl refl refl;
}

pub asks_part : Runs start asking_part start
asks_part = (
  part_came,
  asking_comes start 1 24 0xA1 _ (record { plugged = refl; free = refl; few = refl }) refl refl,
  (start, tells_part, refl),
)
