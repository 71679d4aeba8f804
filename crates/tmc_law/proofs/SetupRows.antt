-- the rows of the tables of requests are disjoint
use Rattle.std.proofs.Common.{◌≡◌, ◌∙◌, ℕ, ◌+◌, ◌-◌, ◌≤◌, true, false, cond, eqb, refl, ap, sym, arith}
use Rattle.std.proofs.lemmas.Bool.{ne_eqb}
use Rattle.usb_setup.specs.declared.setup.Setup.{Setup}
use Rattle.tmc_wire.specs.declared.class_request.ClassRequest.{ClassRequest}
use Rattle.tmc_wire.specs.declared.class_request.ClassRequest.TheVariants.{AbortOut, CheckOut, AbortIn, CheckIn, Clear, CheckClear, Capabilities, Pulse, ReadStatus, Ren, GoLocal, Lockout}
use Rattle.tmc_wire.specs.ControlTable.{row, IsRow}
use Rattle.tmc_law.specs.Endpoint.{Endpoint, Control, BulkOut, BulkIn, InterruptIn, address_of, ends}
use Rattle.tmc_law.specs.Standard.{Standard, GetDeviceStatus, GetInterfaceStatus, GetEndpointStatus, ClearHalt, GetDeviceDescriptor, GetConfigurationDescriptor, GetString, GetConfiguration, SetConfiguration, GetInterface, SetInterface, IsStandard, HasFields}

-- the endpoint with an address
abbrev endpoint_at : ℕ → Endpoint
endpoint_at address = cond (eqb address 0x00) Control (cond (eqb address 0x01) BulkOut (cond (eqb address 0x82) BulkIn InterruptIn))

own_endpoint : (e : Endpoint) → endpoint_at (address_of e) ≡ e
own_endpoint Control = refl
own_endpoint BulkOut = refl
own_endpoint BulkIn = refl
own_endpoint InterruptIn = refl

-- the standard request with a type, a bRequest, a wValue and a wIndex
abbrev named : (kind request value index : ℕ) → Standard
named kind request value index =
    cond (eqb request 0) (cond (eqb kind 0x80) GetDeviceStatus (cond (eqb kind 0x81) GetInterfaceStatus (GetEndpointStatus (endpoint_at index))))
    (cond (eqb request 1) (ClearHalt (endpoint_at index))
    (cond (eqb request 6) (cond (eqb value 256) GetDeviceDescriptor (cond (eqb value 512) GetConfigurationDescriptor (GetString (value - 768))))
    (cond (eqb request 8) GetConfiguration
    (cond (eqb request 9) SetConfiguration
    (cond (eqb request 10) GetInterface SetInterface)))))

at : (setup : Setup) (kind request value index : ℕ) (s : Standard) → HasFields setup kind request value index → named kind request value index ≡ s
    → named setup.request_type setup.request setup.value setup.index ≡ s
at setup kind request value index s h e = rw (h.request_type, h.request, h.value, h.index) e

string_at : (index : ℕ) → cond (eqb (768 + index) 256) GetDeviceDescriptor (cond (eqb (768 + index) 512) GetConfigurationDescriptor (GetString ((768 + index) - 768))) ≡ GetString index
string_at index =
    rw (ne_eqb (768 + index) 256 (λ e. omega (arith, e)), ne_eqb (768 + index) 512 (λ e. omega (arith, e)))
    (ap (λ (n : ℕ). GetString n) (less index))
  where
    less : (n : ℕ) → (768 + n) - 768 ≡ n
    less n = omega arith

own : (s : Standard) (setup : Setup) → IsStandard s setup → named setup.request_type setup.request setup.value setup.index ≡ s
own GetDeviceStatus setup h = at setup _ _ _ _ GetDeviceStatus h refl
own GetInterfaceStatus setup h = at setup _ _ _ _ GetInterfaceStatus h refl
own (GetEndpointStatus e) setup h = at setup _ _ _ _ (GetEndpointStatus e) h (ap (λ (d : Endpoint). GetEndpointStatus d) (own_endpoint e))
own (ClearHalt e) setup h = at setup _ _ _ _ (ClearHalt e) h (ap (λ (d : Endpoint). ClearHalt d) (own_endpoint e))
own GetDeviceDescriptor setup h = at setup _ _ _ _ GetDeviceDescriptor h refl
own GetConfigurationDescriptor setup h = at setup _ _ _ _ GetConfigurationDescriptor h refl
own (GetString index) setup h = at setup 0x80 6 (768 + index) setup.index (GetString index) (record { request_type = h.1.request_type; request = h.1.request; value = h.1.value ∙ omega arith; index = h.1.index }) (string_at index)
own GetConfiguration setup h = at setup _ _ _ _ GetConfiguration h refl
own SetConfiguration setup h = at setup _ _ _ _ SetConfiguration h refl
own GetInterface setup h = at setup _ _ _ _ GetInterface h refl
own SetInterface setup h = at setup _ _ _ _ SetInterface h refl

pub one_standard : (setup : Setup) (a b : Standard) → IsStandard a setup → IsStandard b setup → a ≡ b
one_standard setup a b p q = sym (own a setup p) ∙ own b setup q

-- ---- bmRequestType tells a class request from a standard one

class_kind : (r : ClassRequest) → 0xA1 ≤ (row ends r).request_type
class_kind (AbortOut tag) = omega arith
class_kind CheckOut = omega arith
class_kind (AbortIn tag) = omega arith
class_kind CheckIn = omega arith
class_kind Clear = omega arith
class_kind CheckClear = omega arith
class_kind Capabilities = omega arith
class_kind Pulse = omega arith
class_kind (ReadStatus tag) = omega arith
class_kind (Ren true) = omega arith
class_kind (Ren false) = omega arith
class_kind GoLocal = omega arith
class_kind Lockout = omega arith

standard_kind : (s : Standard) (setup : Setup) → IsStandard s setup → setup.request_type ≤ 0x82
standard_kind GetDeviceStatus setup h = omega (arith, h.request_type)
standard_kind GetInterfaceStatus setup h = omega (arith, h.request_type)
standard_kind (GetEndpointStatus e) setup h = omega (arith, h.request_type)
standard_kind (ClearHalt e) setup h = omega (arith, h.request_type)
standard_kind GetDeviceDescriptor setup h = omega (arith, h.request_type)
standard_kind GetConfigurationDescriptor setup h = omega (arith, h.request_type)
standard_kind (GetString index) setup h = omega (arith, h.1.request_type)
standard_kind GetConfiguration setup h = omega (arith, h.request_type)
standard_kind SetConfiguration setup h = omega (arith, h.request_type)
standard_kind GetInterface setup h = omega (arith, h.request_type)
standard_kind SetInterface setup h = omega (arith, h.request_type)

pub not_both : (setup : Setup) (a : ClassRequest) (b : Standard) → IsRow ends a setup → IsStandard b setup → ⊥
not_both setup a b p q = omega (arith, class_kind a, standard_kind b setup q, ap (λ (s : Setup). s.request_type) p.is)
