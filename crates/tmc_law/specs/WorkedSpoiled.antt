-- bytes that are no header, and submits that are too long or too short for their transfer
use Rattle.std.specs.Prelude.{ℕ, List, [], ◌∷◌, ◌++◌, take, replicate}
use Rattle.usbip_wire.specs.declared.submit.SubmitHead.{SubmitHead}
use Rattle.tmc_law.specs.Put.{success, stalled}
use Rattle.tmc_law.specs.Step.{Take, Answer}
use Rattle.tmc_law.specs.Run.{Entry}
use Rattle.tmc_law.specs.WorkedSession.{out_submit, telling_submit, submits, step, answered}
use Rattle.tmc_law.specs.WorkedQuery.{query_text}
use Rattle.tmc_law.specs.WorkedAbortOut.{first_text}

-- MsgID 3 is none of Bulk-OUT
abbrev pub unknown_text : List ℕ
unknown_text = 0x03 ∷ 0x01 ∷ 0xfe ∷ 0x00 ∷ 0x05 ∷ 0x00 ∷ 0x00 ∷ 0x00 ∷ 0x01 ∷ 0x00 ∷ 0x00 ∷ 0x00 ∷ []

-- the transfer has 20 bytes
abbrev pub long_text : List ℕ
long_text = query_text ++ 0x00 ∷ 0x00 ∷ 0x00 ∷ 0x00 ∷ []

abbrev pub short_text : List ℕ
short_text = take 16 query_text

-- CLEAR_FEATURE of the halt of Bulk-OUT
abbrev pub usable_submit : SubmitHead
usable_submit = telling_submit 2 (0x02 ∷ 0x01 ∷ 0x00 ∷ 0x00 ∷ 0x01 ∷ 0x00 ∷ 0x00 ∷ 0x00 ∷ [])

abbrev pub sending_unknown : List Entry
sending_unknown =
    submits (out_submit 1 12) unknown_text
    ∷ step (Take 1) (answered (out_submit 1 12) stalled 0 [] ∷ [])
    ∷ submits usable_submit []
    ∷ step Answer (answered usable_submit success 0 [] ∷ [])
    ∷ []

abbrev pub sending_long : List Entry
sending_long =
    submits (out_submit 1 24) long_text
    ∷ step (Take 1) (answered (out_submit 1 24) stalled 0 [] ∷ [])
    ∷ submits usable_submit []
    ∷ step Answer (answered usable_submit success 0 [] ∷ [])
    ∷ []

-- 16 bytes are less than the transfer, and end in a short packet
abbrev pub sending_short : List Entry
sending_short =
    submits (out_submit 1 16) short_text
    ∷ step (Take 1) (answered (out_submit 1 16) stalled 0 [] ∷ [])
    ∷ submits usable_submit []
    ∷ step Answer (answered usable_submit success 0 [] ∷ [])
    ∷ []

-- 40 bytes are less than the 48 that the transfer in progress still wants
abbrev pub sending_rest : List Entry
sending_rest =
    submits (out_submit 1 64) first_text
    ∷ step (Take 1) (answered (out_submit 1 64) success 64 [] ∷ [])
    ∷ submits (out_submit 2 40) (replicate 40 32)
    ∷ step (Take 1) (answered (out_submit 2 40) stalled 0 [] ∷ [])
    ∷ []
