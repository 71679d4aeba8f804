-- setup packets: USB 2.0 section 9.3
use Rattle.std.specs.Prelude.{ℕ, ◌<◌, ◌^◌, List, [], ◌∷◌, ◌++◌}
use Rattle.std.specs.Int.{w16, to_le_bytes}
use Rattle.usb_setup.specs.declared.setup.Setup.{Setup}

-- table 9-2: bmRequestType, bRequest, wValue, wIndex and wLength, the words with the low byte first
abbrev pub setup_layout : Setup → List ℕ
setup_layout setup =
    setup.request_type ∷ setup.request ∷ []
    ++ to_le_bytes w16 setup.value
    ++ to_le_bytes w16 setup.index
    ++ to_le_bytes w16 setup.length

-- each field is a byte or a word
pub record Fits (setup : Setup) : Type 0 where
  pub request_type : setup.request_type < 2 ^ 8
  pub request : setup.request < 2 ^ 8
  pub value : setup.value < 2 ^ 16
  pub index : setup.index < 2 ^ 16
  pub length : setup.length < 2 ^ 16
