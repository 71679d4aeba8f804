-- a descriptor and capabilities that are wanted in part, and a request that the device does not know
use Rattle.std.specs.Prelude.{List, [], ◌∷◌}
use Rattle.usbip_wire.specs.declared.submit.SubmitHead.{SubmitHead}
use Rattle.tmc_law.specs.Put.{success, stalled}
use Rattle.tmc_law.specs.Step.{Answer}
use Rattle.tmc_law.specs.Run.{Entry}
use Rattle.tmc_law.specs.WorkedSession.{asking_submit, submits, step, answered}

-- GET_DESCRIPTOR of the device, of which the setup wants 8 bytes
abbrev pub descriptor_submit : SubmitHead
descriptor_submit = asking_submit 1 18 (0x80 ∷ 0x06 ∷ 0x00 ∷ 0x01 ∷ 0x00 ∷ 0x00 ∷ 0x08 ∷ 0x00 ∷ [])

-- a vendor's request
abbrev pub unknown_submit : SubmitHead
unknown_submit = asking_submit 2 4 (0xC0 ∷ 0x01 ∷ 0x00 ∷ 0x00 ∷ 0x00 ∷ 0x00 ∷ 0x04 ∷ 0x00 ∷ [])

abbrev pub asking_control : List Entry
asking_control =
    submits descriptor_submit []
    ∷ step Answer (answered descriptor_submit success 8 (0x12 ∷ 0x01 ∷ 0x00 ∷ 0x02 ∷ 0x00 ∷ 0x00 ∷ 0x00 ∷ 0x40 ∷ []) ∷ [])
    ∷ submits unknown_submit []
    ∷ step Answer (answered unknown_submit stalled 0 [] ∷ [])
    ∷ []

-- GET_CAPABILITIES, of which the setup wants 4 bytes
abbrev pub part_submit : SubmitHead
part_submit = asking_submit 1 24 (0xA1 ∷ 0x07 ∷ 0x00 ∷ 0x00 ∷ 0x00 ∷ 0x00 ∷ 0x04 ∷ 0x00 ∷ [])

abbrev pub asking_part : List Entry
asking_part = submits part_submit [] ∷ step Answer (answered part_submit success 4 (0x01 ∷ 0x00 ∷ 0x00 ∷ 0x01 ∷ []) ∷ []) ∷ []
