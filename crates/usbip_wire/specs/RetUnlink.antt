-- USBIP_RET_UNLINK (Linux kernel documentation, "USB/IP protocol")
use Rattle.std.specs.Prelude.{◌≡◌, ℕ, List, [], ◌∷◌, ◌++◌, length, replicate}
use Rattle.std.specs.Int.{w32, cast_unsigned}
use Rattle.usbip_wire.specs.declared.urb.TheConstants.{RET_UNLINK}
use Rattle.usbip_wire.specs.declared.ret_unlink.RetUnlinkHead.{RetUnlinkHead}
use Rattle.usbip_wire.specs.Urb.{AreWide, Fits32, fields}

-- the fields that an answer of this link does not use
pub record Rest : Type 0 where
  pub devid : ℕ
  pub direction : ℕ
  pub ep : ℕ
  pub padding : List ℕ

-- as this product writes them
abbrev pub unused : Rest
unused = record { devid = 0; direction = 0; ep = 0; padding = replicate 24 0 }

-- the six fields in front of the padding
abbrev pub ret_unlink_words : RetUnlinkHead → Rest → List ℕ
ret_unlink_words head rest = RET_UNLINK ∷ head.seqnum ∷ rest.devid ∷ rest.direction ∷ rest.ep ∷ cast_unsigned w32 head.status ∷ []

-- the layout: six fields, and 24 bytes of padding
unfoldable pub ret_unlink_bytes : RetUnlinkHead → Rest → List ℕ
ret_unlink_bytes head rest = fields (ret_unlink_words head rest) ++ rest.padding

-- these bytes are this answer to an unlink; the fields that it does not use may hold anything
pub record SpellsRetUnlink (head : RetUnlinkHead) (bytes : List ℕ) : Type 0 where
  pub rest : Rest
  pub status : Fits32 head.status
  pub padded : length rest.padding ≡ 24
  pub wide : AreWide (ret_unlink_words head rest)
  pub layout : bytes ≡ ret_unlink_bytes head rest
