-- requests that are near to rows of the tables, and stall
use Rattle.std.specs.Prelude.{List, [], ◌∷◌}
use Rattle.usbip_wire.specs.declared.submit.SubmitHead.{SubmitHead}
use Rattle.tmc_law.specs.Put.{stalled}
use Rattle.tmc_law.specs.Step.{Answer}
use Rattle.tmc_law.specs.Run.{Entry}
use Rattle.tmc_law.specs.WorkedSession.{asking_submit, telling_submit, submits, step, answered}

abbrev pub stalling : SubmitHead → List Entry
stalling head = submits head [] ∷ step Answer (answered head stalled 0 [] ∷ []) ∷ []

-- GET_DESCRIPTOR of string 4, where the last one is string 3
abbrev pub string_submit : SubmitHead
string_submit = asking_submit 1 255 (0x80 ∷ 0x06 ∷ 0x04 ∷ 0x03 ∷ 0x09 ∷ 0x04 ∷ 0xff ∷ 0x00 ∷ [])

-- SET_CONFIGURATION of none
abbrev pub configure_submit : SubmitHead
configure_submit = telling_submit 1 (0x00 ∷ 0x09 ∷ 0x00 ∷ 0x00 ∷ 0x00 ∷ 0x00 ∷ 0x00 ∷ 0x00 ∷ [])

-- SET_INTERFACE of alternate setting 1
abbrev pub select_submit : SubmitHead
select_submit = telling_submit 1 (0x01 ∷ 0x0b ∷ 0x01 ∷ 0x00 ∷ 0x00 ∷ 0x00 ∷ 0x00 ∷ 0x00 ∷ [])

-- INDICATOR_PULSE of interface 1, where there is interface 0 alone
abbrev pub pulse_submit : SubmitHead
pulse_submit = asking_submit 1 1 (0xA1 ∷ 0x40 ∷ 0x00 ∷ 0x00 ∷ 0x01 ∷ 0x00 ∷ 0x01 ∷ 0x00 ∷ [])
