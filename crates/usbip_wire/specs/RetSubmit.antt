-- USBIP_RET_SUBMIT (Linux kernel documentation, "USB/IP protocol")
use Rattle.std.specs.Prelude.{◌≡◌, ℕ, ◌≤◌, List, [], ◌∷◌, ◌++◌, length}
use Rattle.std.specs.Int.{w32, cast_unsigned}
use Rattle.usbip_wire.specs.declared.urb.Dir.{Dir}
use Rattle.usbip_wire.specs.declared.urb.Dir.TheVariants.{Out, In}
use Rattle.usbip_wire.specs.declared.urb.TheConstants.{RET_SUBMIT, NOT_ISOCHRONOUS}
use Rattle.usbip_wire.specs.declared.ret_submit.RetSubmitHead.{RetSubmitHead}
use Rattle.usbip_wire.specs.Urb.{AreWide, Fits32, fields, IsNoPacketCount}

-- what an answer depends on: the direction and the length of the submit that it answers
pub record Asked : Type 0 where
  pub dir : Dir
  pub size : ℕ

-- the fields that an answer of this link does not use; the padding is two fields
pub record Rest : Type 0 where
  pub devid : ℕ
  pub direction : ℕ
  pub ep : ℕ
  pub start_frame : ℕ
  pub number_of_packets : ℕ
  pub error_count : ℕ
  pub padding_high : ℕ
  pub padding_low : ℕ

-- as this product writes them
abbrev pub unused : Rest
unused =
    record { devid = 0; direction = 0; ep = 0; start_frame = 0; number_of_packets = NOT_ISOCHRONOUS; error_count = 0; padding_high = 0; padding_low = 0 }

-- the twelve fields
abbrev pub ret_submit_words : RetSubmitHead → Rest → List ℕ
ret_submit_words head rest =
    RET_SUBMIT
    ∷ head.seqnum
    ∷ rest.devid
    ∷ rest.direction
    ∷ rest.ep
    ∷ cast_unsigned w32 head.status
    ∷ head.actual
    ∷ rest.start_frame
    ∷ rest.number_of_packets
    ∷ rest.error_count
    ∷ rest.padding_high
    ∷ rest.padding_low
    ∷ []

-- the layout: twelve fields, and the data
unfoldable pub ret_submit_bytes : RetSubmitHead → Rest → List ℕ → List ℕ
ret_submit_bytes head rest transferred = fields (ret_submit_words head rest) ++ transferred

-- the data comes with the answer to an IN submit, and none comes with the answer to an OUT submit
abbrev pub Returns : Dir → ℕ → List ℕ → Type 0
Returns Out actual transferred = transferred ≡ []
Returns In actual transferred = length transferred ≡ actual

-- these bytes are this answer to such a submit; the fields that it does not use may hold anything
pub record SpellsRetSubmit (asked : Asked) (head : RetSubmitHead) (transferred bytes : List ℕ) : Type 0 where
  pub rest : Rest
  pub within : head.actual ≤ asked.size
  pub packets : IsNoPacketCount rest.number_of_packets
  pub status : Fits32 head.status
  pub wide : AreWide (ret_submit_words head rest)
  pub returned : Returns asked.dir head.actual transferred
  pub layout : bytes ≡ ret_submit_bytes head rest transferred
