-- a message in two transfers, the first of which takes two packets: 100 spaces, and then `*IDN?`
use Rattle.std.specs.Prelude.{ℕ, List, [], ◌∷◌, ◌++◌, codes, replicate}
use Rattle.instr_plain.specs.declared.log.LogEntry.{LogEntry}
use Rattle.instr_plain.specs.declared.log.LogEntry.TheVariants as entry
use Rattle.tmc_law.specs.Put.{success}
use Rattle.tmc_law.specs.Step.{Take, Exec}
use Rattle.tmc_law.specs.Run.{Entry}
use Rattle.tmc_law.specs.WorkedSession.{out_submit, submits, step, answered}

-- DEV_DEP_MSG_OUT, tag 1, 100 bytes of a message that goes on
abbrev pub spaces_text : List ℕ
spaces_text = 0x01 ∷ 0x01 ∷ 0xfe ∷ 0x00 ∷ 0x64 ∷ 0x00 ∷ 0x00 ∷ 0x00 ∷ 0x00 ∷ 0x00 ∷ 0x00 ∷ 0x00 ∷ [] ++ replicate 100 32

-- DEV_DEP_MSG_OUT, tag 2, 5 bytes that end the message
abbrev pub last_text : List ℕ
last_text =
    0x01 ∷ 0x02 ∷ 0xfd ∷ 0x00 ∷ 0x05 ∷ 0x00 ∷ 0x00 ∷ 0x00 ∷ 0x01 ∷ 0x00 ∷ 0x00 ∷ 0x00 ∷ [] ++ (codes "*IDN?" ++ 0x00 ∷ 0x00 ∷ 0x00 ∷ [])

abbrev pub spaced : List ℕ
spaced = replicate 100 32 ++ codes "*IDN?"

abbrev pub sending_parts : List Entry
sending_parts =
    submits (out_submit 1 112) spaces_text
    ∷ step (Take 1) []
    ∷ step (Take 1) (answered (out_submit 1 112) success 112 [] ∷ [])
    ∷ submits (out_submit 2 20) last_text
    ∷ step (Take 1) (answered (out_submit 2 20) success 20 [] ∷ [])
    ∷ step Exec []
    ∷ []

abbrev pub parts_log : List LogEntry
parts_log = entry.Exec 2 spaced ∷ []
