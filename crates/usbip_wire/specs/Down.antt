-- the messages from the device to the client, and their spelling
use Rattle.std.specs.Prelude.{◌≡◌, ℕ, true, Some, List, [], ◌∷◌, ◌++◌}
use Rattle.usbip_wire.specs.declared.ret_submit.RetSubmitHead.{RetSubmitHead}
use Rattle.usbip_wire.specs.declared.ret_unlink.RetUnlinkHead.{RetUnlinkHead}
use Rattle.usbip_wire.specs.declared.dirs.Outstanding.{Outstanding}
use Rattle.usbip_wire.specs.Dirs.{find, submit_of, is_unlink}
use Rattle.usbip_wire.specs.RetSubmit.{Asked, SpellsRetSubmit}
use Rattle.usbip_wire.specs.RetUnlink.{SpellsRetUnlink}

pub data Message : Type 0 where
  RetSubmit : (head : RetSubmitHead) (transferred : List ℕ) → Message
  RetUnlink : (head : RetUnlinkHead) → Message

-- these bytes are this message, where it answers a submit that asked for this
abbrev pub Spells : Asked → Message → List ℕ → Type 0
Spells asked (RetSubmit head transferred) bytes = SpellsRetSubmit asked head transferred bytes
Spells asked (RetUnlink head) bytes = SpellsRetUnlink head bytes

-- an answer, beside what was asked
pub record Answer : Type 0 where
  pub asked : Asked
  pub message : Message

-- these bytes are these answers in a row
abbrev pub SpellsAll : List Answer → List ℕ → Type 0
SpellsAll [] bytes = bytes ≡ []
SpellsAll (answer ∷ answers) bytes =
    (front rest : List ℕ) × (bytes ≡ front ++ rest) × Spells answer.asked answer.message front × SpellsAll answers rest

-- these bytes are this answer to one of these outstanding messages
abbrev pub SpellsAnswer : List Outstanding → Message → List ℕ → Type 0
SpellsAnswer entries (RetSubmit head transferred) bytes =
    (asked : Asked) × (submit_of (find head.seqnum entries) ≡ Some (asked.dir, asked.size)) × Spells asked (RetSubmit head transferred) bytes
SpellsAnswer entries (RetUnlink head) bytes = (is_unlink (find head.seqnum entries) ≡ true) × SpellsRetUnlink head bytes

-- these bytes are this answer to a message that may be outstanding
abbrev pub SpellsAnyAnswer : Message → List ℕ → Type 0
SpellsAnyAnswer message bytes = (entries : List Outstanding) × SpellsAnswer entries message bytes
