-- the instrument is operated from remote, and says what it can; local operation is locked out, and allowed again
use Rattle.std.specs.Prelude.{List, [], ◌∷◌}
use Rattle.usbip_wire.specs.declared.submit.SubmitHead.{SubmitHead}
use Rattle.instr_plain.specs.declared.log.LogEntry.{LogEntry}
use Rattle.instr_plain.specs.declared.log.LogEntry.TheVariants as entry
use Rattle.instr_plain.specs.declared.remote.RemoteAct.TheVariants as act
use Rattle.tmc_law.specs.Put.{success}
use Rattle.tmc_law.specs.Step.{Answer}
use Rattle.tmc_law.specs.Run.{Entry}
use Rattle.tmc_law.specs.WorkedSession.{asking_submit, submits, step, answered}

-- REN_CONTROL
abbrev pub remote_submit : SubmitHead
remote_submit = asking_submit 1 1 (0xA1 ∷ 0xA0 ∷ 0x01 ∷ 0x00 ∷ 0x00 ∷ 0x00 ∷ 0x01 ∷ 0x00 ∷ [])

-- GET_CAPABILITIES
abbrev pub capabilities_submit : SubmitHead
capabilities_submit = asking_submit 2 24 (0xA1 ∷ 0x07 ∷ 0x00 ∷ 0x00 ∷ 0x00 ∷ 0x00 ∷ 0x18 ∷ 0x00 ∷ [])

abbrev pub operating : List Entry
operating =
    submits remote_submit []
    ∷ step Answer (answered remote_submit success 1 (0x01 ∷ []) ∷ [])
    ∷ submits capabilities_submit []
    ∷ step Answer
    (answered capabilities_submit success 24
    (0x01 ∷ 0x00 ∷ 0x00 ∷ 0x01 ∷ 0x04 ∷ 0x00 ∷ 0x00 ∷ 0x00 ∷ 0x00 ∷ 0x00 ∷ 0x00 ∷ 0x00
    ∷ 0x00 ∷ 0x01 ∷ 0x07 ∷ 0x07 ∷ 0x00 ∷ 0x00 ∷ 0x00 ∷ 0x00 ∷ 0x00 ∷ 0x00 ∷ 0x00 ∷ 0x00 ∷ [])
    ∷ [])
    ∷ []

abbrev pub remote_log : List LogEntry
remote_log = entry.Remote act.On ∷ []

-- LOCAL_LOCKOUT
abbrev pub lockout_submit : SubmitHead
lockout_submit = asking_submit 2 1 (0xA1 ∷ 0xA2 ∷ 0x00 ∷ 0x00 ∷ 0x00 ∷ 0x00 ∷ 0x01 ∷ 0x00 ∷ [])

-- GO_TO_LOCAL
abbrev pub local_submit : SubmitHead
local_submit = asking_submit 3 1 (0xA1 ∷ 0xA1 ∷ 0x00 ∷ 0x00 ∷ 0x00 ∷ 0x00 ∷ 0x01 ∷ 0x00 ∷ [])

abbrev pub locking : List Entry
locking =
    submits remote_submit []
    ∷ step Answer (answered remote_submit success 1 (0x01 ∷ []) ∷ [])
    ∷ submits lockout_submit []
    ∷ step Answer (answered lockout_submit success 1 (0x01 ∷ []) ∷ [])
    ∷ submits local_submit []
    ∷ step Answer (answered local_submit success 1 (0x01 ∷ []) ∷ [])
    ∷ []

abbrev pub locked_log : List LogEntry
locked_log = entry.Remote act.On ∷ entry.Remote act.Lockout ∷ entry.Remote act.GoLocal ∷ []

-- REN_CONTROL that ends remote control
abbrev pub release_submit : SubmitHead
release_submit = asking_submit 4 1 (0xA1 ∷ 0xA0 ∷ 0x00 ∷ 0x00 ∷ 0x00 ∷ 0x00 ∷ 0x01 ∷ 0x00 ∷ [])

-- INDICATOR_PULSE
abbrev pub pulse_submit : SubmitHead
pulse_submit = asking_submit 5 1 (0xA1 ∷ 0x40 ∷ 0x00 ∷ 0x00 ∷ 0x00 ∷ 0x00 ∷ 0x01 ∷ 0x00 ∷ [])

abbrev pub releasing : List Entry
releasing =
    submits release_submit []
    ∷ step Answer (answered release_submit success 1 (0x01 ∷ []) ∷ [])
    ∷ submits pulse_submit []
    ∷ step Answer (answered pulse_submit success 1 (0x01 ∷ []) ∷ [])
    ∷ []

abbrev pub released_log : List LogEntry
released_log = entry.Remote act.On ∷ entry.Remote act.Lockout ∷ entry.Remote act.GoLocal ∷ entry.Remote act.Off ∷ []
