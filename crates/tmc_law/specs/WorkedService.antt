-- a message that enables MAV, and whose response requests service
use Rattle.std.specs.Prelude.{ℕ, List, [], ◌∷◌, ◌++◌, codes}
use Rattle.usbip_wire.specs.declared.submit.SubmitHead.{SubmitHead}
use Rattle.instr_plain.specs.declared.log.LogEntry.{LogEntry}
use Rattle.instr_plain.specs.declared.log.LogEntry.TheVariants as entry
use Rattle.tmc_law.specs.Put.{success}
use Rattle.tmc_law.specs.Step.{Take, Exec, Answer, Notify}
use Rattle.tmc_law.specs.Run.{Entry}
use Rattle.tmc_law.specs.WorkedSession.{out_submit, notify_submit, asking_submit, submits, step, answered}

-- DEV_DEP_MSG_OUT, tag 1, 13 bytes that end the message
abbrev pub enabling_text : List ℕ
enabling_text =
    0x01 ∷ 0x01 ∷ 0xfe ∷ 0x00 ∷ 0x0d ∷ 0x00 ∷ 0x00 ∷ 0x00 ∷ 0x01 ∷ 0x00 ∷ 0x00 ∷ 0x00 ∷ [] ++ (codes "*SRE 16;*IDN?" ++ 0x00 ∷ 0x00 ∷ 0x00 ∷ [])

-- READ_STATUS_BYTE with tag 2
abbrev pub status_submit : SubmitHead
status_submit = asking_submit 3 3 (0xA1 ∷ 0x80 ∷ 0x02 ∷ 0x00 ∷ 0x00 ∷ 0x00 ∷ 0x03 ∷ 0x00 ∷ [])

abbrev pub requesting : List Entry
requesting =
    submits (out_submit 1 28) enabling_text
    ∷ step (Take 1) (answered (out_submit 1 28) success 28 [] ∷ [])
    ∷ step Exec []
    -- the service packet has the status byte: RQS and MAV
    ∷ submits (notify_submit 2 8) []
    ∷ step Notify (answered (notify_submit 2 8) success 2 (0x81 ∷ 0x50 ∷ []) ∷ [])
    -- the poll reads it once more, and takes RQS back
    ∷ submits status_submit []
    ∷ step Answer (answered status_submit success 3 (0x01 ∷ 0x02 ∷ 0x00 ∷ []) ∷ [])
    ∷ submits (notify_submit 4 8) []
    ∷ step Notify (answered (notify_submit 4 8) success 2 (0x82 ∷ 0x50 ∷ []) ∷ [])
    ∷ []

abbrev pub service_log : List LogEntry
service_log = entry.Exec 1 (codes "*SRE 16;*IDN?") ∷ entry.Poll 3 ∷ []
