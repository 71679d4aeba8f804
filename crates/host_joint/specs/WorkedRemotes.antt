-- an example remote ticket, and one whose device is unplugged
use Rattle.std.specs.Prelude.{ℕ, List, [], ◌∷◌}
use Rattle.usbip_wire.specs.declared.submit.SubmitHead.{SubmitHead}
use Rattle.tmc_law.specs.State.{State, Unplugged, start}
use Rattle.tmc_law.specs.Put.{unplugged}
use Rattle.tmc_law.specs.Step.{Unplug}
use Rattle.tmc_law.specs.Run.{Entry}
use Rattle.tmc_law.specs.WorkedRemote.{remote_submit}
use Rattle.tmc_law.specs.WorkedSession.{asking_submit, submits, step, answered}

-- REN_CONTROL that begins remote control
abbrev pub ren_submit : (seqnum : ℕ) → SubmitHead
ren_submit seqnum = asking_submit seqnum 1 (0xA1 ∷ 0xA0 ∷ 0x01 ∷ 0x00 ∷ 0x00 ∷ 0x00 ∷ 0x01 ∷ 0x00 ∷ [])

-- the device is unplugged while the request is pending
abbrev pub unplugging_remote : List Entry
unplugging_remote = submits remote_submit [] ∷ step Unplug (answered remote_submit unplugged 0 [] ∷ []) ∷ []

abbrev pub unplugged_remote : State
unplugged_remote = record start { presence = Unplugged }
