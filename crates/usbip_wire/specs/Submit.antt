-- USBIP_CMD_SUBMIT (Linux kernel documentation, "USB/IP protocol")
use Rattle.std.specs.Prelude.{◌≡◌, ℕ, ◌≤◌, List, [], ◌∷◌, ◌++◌, length}
use Rattle.tmc_base.specs.declared.limits.TheConstants.{SUBMIT_MAX}
use Rattle.usbip_wire.specs.declared.urb.Dir.{Dir}
use Rattle.usbip_wire.specs.declared.urb.Dir.TheVariants.{Out, In}
use Rattle.usbip_wire.specs.declared.urb.TheConstants.{CMD_SUBMIT, ENDPOINT_MAX, NOT_ISOCHRONOUS}
use Rattle.usbip_wire.specs.declared.submit.SubmitHead.{SubmitHead}
use Rattle.usbip_wire.specs.Urb.{AreWide, fields, direction_code, IsNoPacketCount}

-- the fields that a submit of this link does not use
pub record Rest : Type 0 where
  pub transfer_flags : ℕ
  pub start_frame : ℕ
  pub number_of_packets : ℕ
  pub interval : ℕ

-- as this product writes them
abbrev pub unused : Rest
unused = record { transfer_flags = 0; start_frame = 0; number_of_packets = NOT_ISOCHRONOUS; interval = 0 }

-- the ten fields in front of the setup packet
abbrev pub submit_words : SubmitHead → Rest → List ℕ
submit_words head rest =
    CMD_SUBMIT
    ∷ head.seqnum
    ∷ head.devid
    ∷ direction_code head.dir
    ∷ head.ep
    ∷ rest.transfer_flags
    ∷ head.length
    ∷ rest.start_frame
    ∷ rest.number_of_packets
    ∷ rest.interval
    ∷ []

-- the layout: ten fields, the setup packet, and the data
unfoldable pub submit_bytes : SubmitHead → Rest → List ℕ → List ℕ
submit_bytes head rest transferred = fields (submit_words head rest) ++ (head.setup ++ transferred)

-- the data goes with an OUT submit, and none goes with an IN submit
abbrev pub Carries : Dir → ℕ → List ℕ → Type 0
Carries Out size transferred = length transferred ≡ size
Carries In size transferred = transferred ≡ []

-- these bytes are this submit to the device with this devid; the fields that it does not use may hold anything
pub record SpellsSubmit (devid : ℕ) (head : SubmitHead) (transferred bytes : List ℕ) : Type 0 where
  pub rest : Rest
  pub imported : head.devid ≡ devid
  pub endpoint : head.ep ≤ ENDPOINT_MAX
  pub short : head.length ≤ SUBMIT_MAX
  pub packets : IsNoPacketCount rest.number_of_packets
  pub setup : length head.setup ≡ 8
  pub carried : Carries head.dir head.length transferred
  pub wide : AreWide (submit_words head rest)
  pub layout : bytes ≡ submit_bytes head rest transferred
