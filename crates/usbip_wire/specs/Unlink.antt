-- USBIP_CMD_UNLINK (Linux kernel documentation, "USB/IP protocol")
use Rattle.std.specs.Prelude.{◌≡◌, ℕ, List, [], ◌∷◌, ◌++◌, length, replicate}
use Rattle.usbip_wire.specs.declared.urb.TheConstants.{CMD_UNLINK}
use Rattle.usbip_wire.specs.declared.unlink.UnlinkHead.{UnlinkHead}
use Rattle.usbip_wire.specs.Urb.{AreWide, fields}

-- the fields that an unlink of this link does not use
pub record Rest : Type 0 where
  pub direction : ℕ
  pub ep : ℕ
  pub padding : List ℕ

-- as this product writes them
abbrev pub unused : Rest
unused = record { direction = 0; ep = 0; padding = replicate 24 0 }

-- the six fields in front of the padding
abbrev pub unlink_words : UnlinkHead → Rest → List ℕ
unlink_words head rest = CMD_UNLINK ∷ head.seqnum ∷ head.devid ∷ rest.direction ∷ rest.ep ∷ head.target ∷ []

-- the layout: six fields, and 24 bytes of padding
unfoldable pub unlink_bytes : UnlinkHead → Rest → List ℕ
unlink_bytes head rest = fields (unlink_words head rest) ++ rest.padding

-- these bytes are this unlink to the device with this devid; the fields that it does not use may hold anything
pub record SpellsUnlink (devid : ℕ) (head : UnlinkHead) (bytes : List ℕ) : Type 0 where
  pub rest : Rest
  pub imported : head.devid ≡ devid
  pub padded : length rest.padding ≡ 24
  pub wide : AreWide (unlink_words head rest)
  pub layout : bytes ≡ unlink_bytes head rest
