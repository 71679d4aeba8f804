-- a second message comes while the response to the first one is unread
use Rattle.std.specs.Prelude.{ℕ, List, [], ◌∷◌, ◌++◌, codes}
use Rattle.instr_plain.specs.declared.log.LogEntry.{LogEntry}
use Rattle.instr_plain.specs.declared.log.LogEntry.TheVariants as entry
use Rattle.tmc_law.specs.Put.{success}
use Rattle.tmc_law.specs.Step.{Take, Exec}
use Rattle.tmc_law.specs.Run.{Entry}
use Rattle.tmc_law.specs.WorkedSession.{out_submit, submits, step, answered}
use Rattle.tmc_law.specs.WorkedQuery.{query_text}

-- DEV_DEP_MSG_OUT, tag 2, 5 bytes that end the message
abbrev pub second_text : List ℕ
second_text =
    0x01 ∷ 0x02 ∷ 0xfd ∷ 0x00 ∷ 0x05 ∷ 0x00 ∷ 0x00 ∷ 0x00 ∷ 0x01 ∷ 0x00 ∷ 0x00 ∷ 0x00 ∷ [] ++ (codes "*IDN?" ++ 0x00 ∷ 0x00 ∷ 0x00 ∷ [])

abbrev pub interrupting : List Entry
interrupting =
    submits (out_submit 1 20) query_text
    ∷ step (Take 1) (answered (out_submit 1 20) success 20 [] ∷ [])
    ∷ step Exec []
    ∷ submits (out_submit 2 20) second_text
    -- the response is dropped, and QYE is set
    ∷ step (Take 1) (answered (out_submit 2 20) success 20 [] ∷ [])
    ∷ step Exec []
    ∷ []

abbrev pub interrupt_log : List LogEntry
interrupt_log = entry.Exec 1 (codes "*IDN?") ∷ entry.Interrupt ∷ entry.Exec 2 (codes "*IDN?") ∷ []
