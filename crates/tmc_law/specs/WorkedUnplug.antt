-- a submit on each endpoint, and then the device is unplugged
use Rattle.std.specs.Prelude.{List, [], ◌∷◌}
use Rattle.usbip_wire.specs.declared.submit.SubmitHead.{SubmitHead}
use Rattle.tmc_law.specs.Put.{unplugged}
use Rattle.tmc_law.specs.Step.{Unplug}
use Rattle.tmc_law.specs.Run.{Entry}
use Rattle.tmc_law.specs.WorkedSession.{out_submit, in_submit, notify_submit, asking_submit, submits, step, answered}
use Rattle.tmc_law.specs.WorkedQuery.{query_text}

-- INDICATOR_PULSE
abbrev pub pulse_submit : SubmitHead
pulse_submit = asking_submit 4 1 (0xA1 ∷ 0x40 ∷ 0x00 ∷ 0x00 ∷ 0x00 ∷ 0x00 ∷ 0x01 ∷ 0x00 ∷ [])

abbrev pub unplugging : List Entry
unplugging =
    submits (notify_submit 1 8) []
    ∷ submits (in_submit 2 4096) []
    ∷ submits (out_submit 3 20) query_text
    ∷ submits pulse_submit []
    ∷ step Unplug
    (answered pulse_submit unplugged 0 []
    ∷ answered (out_submit 3 20) unplugged 0 []
    ∷ answered (in_submit 2 4096) unplugged 0 []
    ∷ answered (notify_submit 1 8) unplugged 0 []
    ∷ [])
    ∷ []
