-- behind the first packet of a response, all is cleared
use Rattle.std.specs.Prelude.{List, [], ◌∷◌, ◌++◌}
use Rattle.usbip_wire.specs.declared.submit.SubmitHead.{SubmitHead}
use Rattle.usbip_wire.specs.Up as up
use Rattle.instr_plain.specs.declared.log.LogEntry.{LogEntry}
use Rattle.instr_plain.specs.declared.log.LogEntry.TheVariants as entry
use Rattle.tmc_law.specs.Put.{success, stalled}
use Rattle.tmc_law.specs.Step.{Comes, Answer}
use Rattle.tmc_law.specs.Run.{Entry}
use Rattle.tmc_law.specs.WorkedSession.{out_submit, asking_submit, telling_submit, submits, step, answered}
use Rattle.tmc_law.specs.WorkedQuery.{request_text, response_submit}
use Rattle.tmc_law.specs.WorkedRead.{first_packet, read_log}

-- INITIATE_CLEAR
abbrev pub clear_submit : SubmitHead
clear_submit = asking_submit 4 1 (0xA1 ∷ 0x05 ∷ 0x00 ∷ 0x00 ∷ 0x00 ∷ 0x00 ∷ 0x01 ∷ 0x00 ∷ [])

-- CHECK_CLEAR_STATUS
abbrev pub check_submit : SubmitHead
check_submit = asking_submit 6 2 (0xA1 ∷ 0x06 ∷ 0x00 ∷ 0x00 ∷ 0x00 ∷ 0x00 ∷ 0x02 ∷ 0x00 ∷ [])

-- CLEAR_FEATURE of the halt of Bulk-OUT
abbrev pub usable_submit : SubmitHead
usable_submit = telling_submit 7 (0x02 ∷ 0x01 ∷ 0x00 ∷ 0x00 ∷ 0x01 ∷ 0x00 ∷ 0x00 ∷ 0x00 ∷ [])

abbrev pub clearing : List Entry
clearing =
    submits clear_submit []
    -- the Bulk-IN submit ends with what it had
    ∷ step Answer (answered clear_submit success 1 (0x01 ∷ []) ∷ answered response_submit success 64 first_packet ∷ [])
    -- Bulk-OUT is halted
    ∷ step (Comes (up.Submit (out_submit 5 12) request_text)) (answered (out_submit 5 12) stalled 0 [] ∷ [])
    ∷ submits check_submit []
    ∷ step Answer (answered check_submit success 2 (0x01 ∷ 0x00 ∷ []) ∷ [])
    ∷ submits usable_submit []
    ∷ step Answer (answered usable_submit success 0 [] ∷ [])
    ∷ []

abbrev pub clear_log : List LogEntry
clear_log = read_log ++ entry.Clear ∷ []
