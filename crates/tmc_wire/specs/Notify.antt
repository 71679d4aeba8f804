-- Interrupt-IN packets: USBTMC 1.0 section 3.4, USB488 1.0 section 3.4
use Rattle.std.specs.Prelude.{◌≡◌, ℕ, ◌+◌, ◌≤◌, List, ◌∷◌, length}
use Rattle.tmc_wire.specs.declared.notify.Notify.{Notify}
use Rattle.tmc_wire.specs.declared.notify.Notify.TheVariants.{Status, Service, Other}

-- bNotify1 is 0x80 with the tag of the READ_STATUS_BYTE request, 2 to 127, and bNotify2 the status byte
pub record IsStatusPacket (tag byte : ℕ) (bytes : List ℕ) : Type 0 where
  pub more : List ℕ
  pub least : 2 ≤ tag
  pub greatest : tag ≤ 127
  pub layout : bytes ≡ (0x80 + tag) ∷ byte ∷ more

-- bNotify1 is 0x81, and bNotify2 the status byte
pub record IsServicePacket (byte : ℕ) (bytes : List ℕ) : Type 0 where
  pub more : List ℕ
  pub layout : bytes ≡ 0x81 ∷ byte ∷ more

-- any other packet of two bytes or more
pub record IsOtherPacket (bytes : List ℕ) : Type 0 where
  pub whole : 2 ≤ length bytes
  pub no_status : (tag byte : ℕ) → IsStatusPacket tag byte bytes → ⊥
  pub no_service : (byte : ℕ) → IsServicePacket byte bytes → ⊥

abbrev pub IsPacket : Notify → List ℕ → Type 0
IsPacket (Status tag byte) = IsStatusPacket tag byte
IsPacket (Service byte) = IsServicePacket byte
IsPacket Other = IsOtherPacket
