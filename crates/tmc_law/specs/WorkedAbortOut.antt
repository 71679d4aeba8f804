-- a message of 100 bytes in two submits, aborted between them
use Rattle.std.specs.Prelude.{ℕ, List, [], ◌∷◌, ◌++◌, replicate}
use Rattle.usbip_wire.specs.declared.submit.SubmitHead.{SubmitHead}
use Rattle.tmc_law.specs.Put.{success, stalled}
use Rattle.tmc_law.specs.Step.{Take, Answer, Pend}
use Rattle.tmc_law.specs.Run.{Entry}
use Rattle.tmc_law.specs.WorkedSession.{out_submit, asking_submit, telling_submit, submits, step, answered}

-- DEV_DEP_MSG_OUT, tag 1, 100 bytes that end the message: the first 52 of them
abbrev pub first_text : List ℕ
first_text = 0x01 ∷ 0x01 ∷ 0xfe ∷ 0x00 ∷ 0x64 ∷ 0x00 ∷ 0x00 ∷ 0x00 ∷ 0x01 ∷ 0x00 ∷ 0x00 ∷ 0x00 ∷ [] ++ replicate 52 32

-- the other 48
abbrev pub second_text : List ℕ
second_text = replicate 48 32

-- INITIATE_ABORT_BULK_OUT of the transfer with tag 1
abbrev pub abort_submit : SubmitHead
abort_submit = asking_submit 3 2 (0xA2 ∷ 0x01 ∷ 0x01 ∷ 0x00 ∷ 0x01 ∷ 0x00 ∷ 0x02 ∷ 0x00 ∷ [])

-- CHECK_ABORT_BULK_OUT_STATUS
abbrev pub check_submit : (seqnum : ℕ) → SubmitHead
check_submit seqnum = asking_submit seqnum 8 (0xA2 ∷ 0x02 ∷ 0x00 ∷ 0x00 ∷ 0x01 ∷ 0x00 ∷ 0x08 ∷ 0x00 ∷ [])

-- CLEAR_FEATURE of the halt of Bulk-OUT
abbrev pub usable_submit : SubmitHead
usable_submit = telling_submit 6 (0x02 ∷ 0x01 ∷ 0x00 ∷ 0x00 ∷ 0x01 ∷ 0x00 ∷ 0x00 ∷ 0x00 ∷ [])

abbrev pub aborting_out : List Entry
aborting_out =
    submits (out_submit 1 64) first_text
    ∷ step (Take 1) (answered (out_submit 1 64) success 64 [] ∷ [])
    ∷ submits (out_submit 2 48) second_text
    ∷ submits abort_submit []
    -- the second submit is not taken any more
    ∷ step Answer (answered abort_submit success 2 (0x01 ∷ 0x01 ∷ []) ∷ answered (out_submit 2 48) stalled 0 [] ∷ [])
    -- PENDING, and then SUCCESS; the transfer is dropped whole
    ∷ submits (check_submit 4) []
    ∷ step Pend (answered (check_submit 4) success 8 (0x02 ∷ 0x00 ∷ 0x00 ∷ 0x00 ∷ 0x00 ∷ 0x00 ∷ 0x00 ∷ 0x00 ∷ []) ∷ [])
    ∷ submits (check_submit 5) []
    ∷ step Answer (answered (check_submit 5) success 8 (0x01 ∷ 0x00 ∷ 0x00 ∷ 0x00 ∷ 0x00 ∷ 0x00 ∷ 0x00 ∷ 0x00 ∷ []) ∷ [])
    ∷ submits usable_submit []
    ∷ step Answer (answered usable_submit success 0 [] ∷ [])
    ∷ []
