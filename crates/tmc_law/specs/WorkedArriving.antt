-- submits that this link's messages do not spell: they arrive all the same
use Rattle.std.specs.Prelude.{List, [], ◌∷◌}
use Rattle.usbip_wire.specs.declared.submit.SubmitHead.{SubmitHead}
use Rattle.usbip_wire.specs.Up as up
use Rattle.tmc_law.specs.Put.{stalled}
use Rattle.tmc_law.specs.Step.{Comes}
use Rattle.tmc_law.specs.Run.{Entry}
use Rattle.tmc_law.specs.WorkedSession.{in_submit, submits, step, answered}

-- endpoint 16, where USB has endpoints up to 15
abbrev pub far_submit : SubmitHead
far_submit = record (in_submit 1 4096) { ep = 16 }

-- it is turned away, as on any endpoint that the instrument does not have
abbrev pub coming_to_no_endpoint : List Entry
coming_to_no_endpoint = step (Comes (up.Submit far_submit [])) (answered far_submit stalled 0 [] ∷ []) ∷ []

-- bus 1, device 3
abbrev pub other_submit : SubmitHead
other_submit = record (in_submit 1 4096) { devid = 0x00010003 }

-- it is queued: the number of the device is read with the bytes alone
abbrev pub coming_for_another : List Entry
coming_for_another = submits other_submit [] ∷ []
