-- a device record that was appended in its parts
use Rattle.std.proofs.Common.{◌≡◌, ℕ, List, [], ◌∷◌, ◌++◌}
use Rattle.usbip_wire.proofs.Appends.{two_appended, three_appended}
use Rattle.usbip_wire.specs.declared.device.DeviceRecord.{DeviceRecord}
use Rattle.usbip_wire.specs.Device.{record_bytes}
use Rattle.usbip_wire.specs.Urb.{fields, halves}

-- its last six bytes
abbrev pub last_bytes : DeviceRecord → List ℕ
last_bytes d = d.device_class ∷ d.device_subclass ∷ d.device_protocol ∷ d.configuration_value ∷ d.configurations ∷ d.interfaces ∷ []

pub record_appended : (d : DeviceRecord) (old a b c e new : List ℕ) → a ≡ old ++ d.path → b ≡ a ++ d.busid
    → c ≡ b ++ fields (d.busnum ∷ d.devnum ∷ d.speed ∷ []) → e ≡ c ++ halves (d.id_vendor ∷ d.id_product ∷ d.bcd_device ∷ [])
    → new ≡ e ++ last_bytes d → new ≡ old ++ record_bytes d
unfolding record_bytes
record_appended d old a b c e new ea eb ec ee en =
    let f : List ℕ = fields (d.busnum ∷ d.devnum ∷ d.speed ∷ []) in
    let h : List ℕ = halves (d.id_vendor ∷ d.id_product ∷ d.bcd_device ∷ []) in
    two_appended old d.path (d.busid ++ (f ++ (h ++ last_bytes d))) a new ea
    (two_appended a d.busid (f ++ (h ++ last_bytes d)) b new eb (three_appended b f h (last_bytes d) c e new ec ee en))
