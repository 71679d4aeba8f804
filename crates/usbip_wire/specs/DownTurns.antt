-- parts of the operations in a row, each where what the one before it left is awaited
use Rattle.std.specs.Prelude.{◌≡◌, ℕ, ◌<◌, ◌^◌, List, [], ◌∷◌, ◌++◌, length}
use Rattle.usbip_wire.specs.declared.device.DeviceRecord.{DeviceRecord}
use Rattle.usbip_wire.specs.declared.down.Down.{Down}
use Rattle.usbip_wire.specs.declared.down.DownPhase.{DownPhase}
use Rattle.usbip_wire.specs.DevList.{AreRecords, AreTriples, interfaces_of}
use Rattle.usbip_wire.specs.DownFed.{SpellsParts, NoneWhole}
use Rattle.usbip_wire.specs.DownForm.{after}
use Rattle.usbip_wire.specs.DownPieces.{Given}

-- what is awaited behind these parts
abbrev pub awaited : DownPhase → List Down → DownPhase
awaited phase [] = phase
awaited phase (what ∷ whats) = awaited (after phase what) whats

-- These bytes are these parts in turn, and then this rest. No front of the rest is a part that is then awaited.
pub record ReadsInTurn (phase : DownPhase) (bytes : List ℕ) (whats : List Down) (rest : List ℕ) : Type 0 where
  pub front : List ℕ
  pub holds : bytes ≡ front ++ rest
  pub spelled : SpellsParts phase whats front
  pub none_whole : NoneWhole (awaited phase whats) [] rest

-- what was given
abbrev pub whats_of : List Given → List Down
whats_of [] = []
whats_of (message ∷ messages) = message.what ∷ whats_of messages

-- a status, devices and interfaces that put_device_list writes
pub record IsList (status : ℕ) (devices : List DeviceRecord) (interfaces : List (List ℕ)) : Type 0 where
  pub wide : status < 2 ^ 32
  pub few : length devices < 2 ^ 32
  pub each : interfaces_of devices ≡ length interfaces
  pub records : AreRecords devices
  pub triples : AreTriples interfaces
