-- a request where there is no response, which is aborted
use Rattle.std.specs.Prelude.{List, [], ◌∷◌}
use Rattle.usbip_wire.specs.declared.submit.SubmitHead.{SubmitHead}
use Rattle.instr_plain.specs.declared.log.LogEntry.{LogEntry}
use Rattle.instr_plain.specs.declared.log.LogEntry.TheVariants as entry
use Rattle.tmc_law.specs.Put.{success}
use Rattle.tmc_law.specs.Step.{Take, Answer, Fill}
use Rattle.tmc_law.specs.Run.{Entry}
use Rattle.tmc_law.specs.WorkedSession.{out_submit, in_submit, asking_submit, submits, step, answered}
use Rattle.tmc_law.specs.WorkedQuery.{request_text}

-- INITIATE_ABORT_BULK_IN of the transfer with tag 2
abbrev pub abort_submit : SubmitHead
abort_submit = asking_submit 3 2 (0xA2 ∷ 0x03 ∷ 0x02 ∷ 0x00 ∷ 0x82 ∷ 0x00 ∷ 0x02 ∷ 0x00 ∷ [])

-- CHECK_ABORT_BULK_IN_STATUS
abbrev pub check_submit : SubmitHead
check_submit = asking_submit 4 8 (0xA2 ∷ 0x04 ∷ 0x00 ∷ 0x00 ∷ 0x82 ∷ 0x00 ∷ 0x08 ∷ 0x00 ∷ [])

abbrev pub requesting_nothing : List Entry
requesting_nothing =
    submits (out_submit 1 12) request_text
    ∷ step (Take 1) (answered (out_submit 1 12) success 12 [] ∷ [])
    ∷ submits (in_submit 2 4096) []
    ∷ submits abort_submit []
    ∷ step Answer (answered abort_submit success 2 (0x01 ∷ 0x02 ∷ []) ∷ [])
    ∷ step (Fill 1) (answered (in_submit 2 4096) success 0 [] ∷ [])
    ∷ submits check_submit []
    ∷ step Answer (answered check_submit success 8 (0x01 ∷ 0x00 ∷ 0x00 ∷ 0x00 ∷ 0x00 ∷ 0x00 ∷ 0x00 ∷ 0x00 ∷ []) ∷ [])
    ∷ []

abbrev pub bare_log : List LogEntry
bare_log = entry.Bare ∷ []
