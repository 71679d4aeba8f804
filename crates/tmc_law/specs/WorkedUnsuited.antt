-- headers that do not suit the state, and a submit of no bytes
use Rattle.std.specs.Prelude.{ℕ, List, [], ◌∷◌, ◌++◌, codes, replicate}
use Rattle.tmc_law.specs.Put.{success, stalled}
use Rattle.tmc_law.specs.Step.{Take}
use Rattle.tmc_law.specs.Run.{Entry}
use Rattle.tmc_law.specs.WorkedSession.{out_submit, submits, step, answered}
use Rattle.tmc_law.specs.WorkedQuery.{request_text}
use Rattle.tmc_law.specs.WorkedInterrupt.{second_text}
use Rattle.tmc_law.specs.WorkedTrigger.{trigger_text}

-- DEV_DEP_MSG_OUT, tag 1, 4 bytes of a message that goes on
abbrev pub part_text : List ℕ
part_text = 0x01 ∷ 0x01 ∷ 0xfe ∷ 0x00 ∷ 0x04 ∷ 0x00 ∷ 0x00 ∷ 0x00 ∷ 0x00 ∷ 0x00 ∷ 0x00 ∷ 0x00 ∷ [] ++ codes "*IDN"

-- DEV_DEP_MSG_OUT, tag 1, the first 52 of 5000 bytes, where a message has at most 4096
abbrev pub long_text : List ℕ
long_text = 0x01 ∷ 0x01 ∷ 0xfe ∷ 0x00 ∷ 0x88 ∷ 0x13 ∷ 0x00 ∷ 0x00 ∷ 0x01 ∷ 0x00 ∷ 0x00 ∷ 0x00 ∷ [] ++ replicate 52 0

abbrev pub sending_nothing : List Entry
sending_nothing = submits (out_submit 1 0) [] ∷ step (Take 1) (answered (out_submit 1 0) success 0 [] ∷ []) ∷ []

-- a request inside a message
abbrev pub sending_inside : List Entry
sending_inside =
    submits (out_submit 1 16) part_text
    ∷ step (Take 1) (answered (out_submit 1 16) success 16 [] ∷ [])
    ∷ submits (out_submit 2 12) request_text
    ∷ step (Take 1) (answered (out_submit 2 12) stalled 0 [] ∷ [])
    ∷ []

-- a trigger inside a message
abbrev pub triggering_inside : List Entry
triggering_inside =
    submits (out_submit 1 16) part_text
    ∷ step (Take 1) (answered (out_submit 1 16) success 16 [] ∷ [])
    ∷ submits (out_submit 2 12) trigger_text
    ∷ step (Take 1) (answered (out_submit 2 12) stalled 0 [] ∷ [])
    ∷ []

-- a message while a response is owed
abbrev pub sending_while_owed : List Entry
sending_while_owed =
    submits (out_submit 1 12) request_text
    ∷ step (Take 1) (answered (out_submit 1 12) success 12 [] ∷ [])
    ∷ submits (out_submit 2 20) second_text
    ∷ step (Take 1) (answered (out_submit 2 20) stalled 0 [] ∷ [])
    ∷ []

abbrev pub sending_too_much : List Entry
sending_too_much = submits (out_submit 1 64) long_text ∷ step (Take 1) (answered (out_submit 1 64) stalled 0 [] ∷ []) ∷ []
