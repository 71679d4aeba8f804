-- the query `READ? 60`, up to the first packet of its response, which is too long for one
use Rattle.std.specs.Prelude.{ℕ, List, [], ◌∷◌, ◌++◌, codes}
use Rattle.std.specs.List.{range_with_len}
use Rattle.usbip_wire.specs.declared.submit.SubmitHead.{SubmitHead}
use Rattle.instr_plain.specs.declared.log.LogEntry.{LogEntry}
use Rattle.instr_plain.specs.declared.log.LogEntry.TheVariants as entry
use Rattle.tmc_law.specs.Put.{success}
use Rattle.tmc_law.specs.Step.{Take, Exec, Begin, Fill}
use Rattle.tmc_law.specs.Run.{Entry}
use Rattle.tmc_law.specs.WorkedSession.{out_submit, submits, step, answered}
use Rattle.tmc_law.specs.WorkedQuery.{request_submit, request_text, response_submit}

abbrev pub read_submit : SubmitHead
read_submit = out_submit 1 20

-- DEV_DEP_MSG_OUT, tag 1, 8 bytes that end the message
abbrev pub read_text : List ℕ
read_text = 0x01 ∷ 0x01 ∷ 0xfe ∷ 0x00 ∷ 0x08 ∷ 0x00 ∷ 0x00 ∷ 0x00 ∷ 0x01 ∷ 0x00 ∷ 0x00 ∷ 0x00 ∷ [] ++ codes "READ? 60"

-- the response: a block of 60 samples, and NL
abbrev pub block : List ℕ
block = codes "#260" ++ (range_with_len 0 60 ++ 10 ∷ [])

-- DEV_DEP_MSG_IN, tag 2, 65 bytes that end the response: the first packet has 52 of them
abbrev pub first_packet : List ℕ
first_packet =
    0x02 ∷ 0x02 ∷ 0xfd ∷ 0x00 ∷ 0x41 ∷ 0x00 ∷ 0x00 ∷ 0x00 ∷ 0x01 ∷ 0x00 ∷ 0x00 ∷ 0x00 ∷ [] ++ (codes "#260" ++ range_with_len 0 48)

-- the second one has the last 13, and 3 of alignment
abbrev pub second_packet : List ℕ
second_packet = range_with_len 48 12 ++ (10 ∷ 0x00 ∷ 0x00 ∷ 0x00 ∷ [])

abbrev pub reading : List Entry
reading =
    submits read_submit read_text
    ∷ submits request_submit request_text
    ∷ submits response_submit []
    ∷ step (Take 1) (answered read_submit success 20 [] ∷ [])
    ∷ step Exec []
    ∷ step (Take 1) (answered request_submit success 12 [] ∷ [])
    ∷ step (Begin 65) []
    ∷ step (Fill 1) []
    ∷ []

abbrev pub read_log : List LogEntry
read_log = entry.Exec 1 (codes "READ? 60") ∷ entry.Took 65 ∷ []
