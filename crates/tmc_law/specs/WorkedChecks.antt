-- a check where nothing runs, and one that is answered with PENDING
use Rattle.std.specs.Prelude.{ℕ, List, [], ◌∷◌}
use Rattle.usbip_wire.specs.declared.submit.SubmitHead.{SubmitHead}
use Rattle.instr_plain.specs.declared.log.LogEntry.{LogEntry}
use Rattle.instr_plain.specs.declared.log.LogEntry.TheVariants as entry
use Rattle.tmc_law.specs.Put.{success}
use Rattle.tmc_law.specs.Step.{Answer, Pend}
use Rattle.tmc_law.specs.Run.{Entry}
use Rattle.tmc_law.specs.WorkedSession.{asking_submit, submits, step, answered}

-- INITIATE_CLEAR
abbrev pub clear_submit : SubmitHead
clear_submit = asking_submit 2 1 (0xA1 ∷ 0x05 ∷ 0x00 ∷ 0x00 ∷ 0x00 ∷ 0x00 ∷ 0x01 ∷ 0x00 ∷ [])

-- CHECK_CLEAR_STATUS
abbrev pub check_submit : (seqnum : ℕ) → SubmitHead
check_submit seqnum = asking_submit seqnum 2 (0xA1 ∷ 0x06 ∷ 0x00 ∷ 0x00 ∷ 0x00 ∷ 0x00 ∷ 0x02 ∷ 0x00 ∷ [])

abbrev pub checking : List Entry
checking =
    -- SPLIT_NOT_IN_PROGRESS
    submits (check_submit 1) []
    ∷ step Answer (answered (check_submit 1) success 2 (0x82 ∷ 0x00 ∷ []) ∷ [])
    ∷ submits clear_submit []
    ∷ step Answer (answered clear_submit success 1 (0x01 ∷ []) ∷ [])
    ∷ submits (check_submit 3) []
    ∷ step Pend (answered (check_submit 3) success 2 (0x02 ∷ 0x00 ∷ []) ∷ [])
    ∷ submits (check_submit 4) []
    ∷ step Answer (answered (check_submit 4) success 2 (0x01 ∷ 0x00 ∷ []) ∷ [])
    ∷ []

abbrev pub check_log : List LogEntry
check_log = entry.Clear ∷ []
