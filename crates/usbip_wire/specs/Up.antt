-- the messages from the client to the device, and their spelling
use Rattle.std.specs.Prelude.{◌≡◌, ℕ, List, [], ◌∷◌, ◌++◌}
use Rattle.usbip_wire.specs.declared.submit.SubmitHead.{SubmitHead}
use Rattle.usbip_wire.specs.declared.unlink.UnlinkHead.{UnlinkHead}
use Rattle.usbip_wire.specs.Submit.{SpellsSubmit}
use Rattle.usbip_wire.specs.Unlink.{SpellsUnlink}

pub data Message : Type 0 where
  Submit : (head : SubmitHead) (transferred : List ℕ) → Message
  Unlink : (head : UnlinkHead) → Message

-- these bytes are this message to the device with this devid
abbrev pub Spells : ℕ → Message → List ℕ → Type 0
Spells devid (Submit head transferred) bytes = SpellsSubmit devid head transferred bytes
Spells devid (Unlink head) bytes = SpellsUnlink devid head bytes

-- these bytes are these messages in a row
abbrev pub SpellsAll : ℕ → List Message → List ℕ → Type 0
SpellsAll devid [] bytes = bytes ≡ []
SpellsAll devid (message ∷ messages) bytes =
    (front rest : List ℕ) × (bytes ≡ front ++ rest) × Spells devid message front × SpellsAll devid messages rest
