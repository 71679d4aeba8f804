-- aborts of Bulk-OUT that do not begin: no transfer is in progress, another one is, or an abort runs
use Rattle.std.specs.Prelude.{ℕ, List, [], ◌∷◌}
use Rattle.usbip_wire.specs.declared.submit.SubmitHead.{SubmitHead}
use Rattle.tmc_law.specs.Put.{success}
use Rattle.tmc_law.specs.Step.{Take, Answer}
use Rattle.tmc_law.specs.Run.{Entry}
use Rattle.tmc_law.specs.WorkedSession.{out_submit, asking_submit, submits, step, answered}
use Rattle.tmc_law.specs.WorkedAbortOut.{first_text}

-- INITIATE_ABORT_BULK_OUT
abbrev pub abort_submit : (seqnum tag : ℕ) → SubmitHead
abort_submit seqnum tag = asking_submit seqnum 2 (0xA2 ∷ 0x01 ∷ tag ∷ 0x00 ∷ 0x01 ∷ 0x00 ∷ 0x02 ∷ 0x00 ∷ [])

abbrev pub declining : List Entry
declining =
    -- FAILED
    submits (abort_submit 1 1) []
    ∷ step Answer (answered (abort_submit 1 1) success 2 (0x80 ∷ 0x00 ∷ []) ∷ [])
    ∷ submits (out_submit 2 64) first_text
    ∷ step (Take 1) (answered (out_submit 2 64) success 64 [] ∷ [])
    -- TRANSFER_NOT_IN_PROGRESS, and the tag that is
    ∷ submits (abort_submit 3 7) []
    ∷ step Answer (answered (abort_submit 3 7) success 2 (0x81 ∷ 0x01 ∷ []) ∷ [])
    ∷ submits (abort_submit 4 1) []
    ∷ step Answer (answered (abort_submit 4 1) success 2 (0x01 ∷ 0x01 ∷ []) ∷ [])
    -- SPLIT_IN_PROGRESS
    ∷ submits (abort_submit 5 1) []
    ∷ step Answer (answered (abort_submit 5 1) success 2 (0x83 ∷ 0x00 ∷ []) ∷ [])
    ∷ []
