-- aborts of Bulk-IN that do not begin: another transfer is in progress, an abort runs, or no transfer is in progress
use Rattle.std.specs.Prelude.{ℕ, List, [], ◌∷◌}
use Rattle.usbip_wire.specs.declared.submit.SubmitHead.{SubmitHead}
use Rattle.tmc_law.specs.Put.{success}
use Rattle.tmc_law.specs.Step.{Answer, Fill}
use Rattle.tmc_law.specs.Run.{Entry}
use Rattle.tmc_law.specs.WorkedSession.{asking_submit, submits, step, answered}
use Rattle.tmc_law.specs.WorkedQuery.{response_submit}
use Rattle.tmc_law.specs.WorkedRead.{first_packet}
use Rattle.tmc_law.specs.WorkedAbortIn.{check_submit}

-- INITIATE_ABORT_BULK_IN
abbrev pub abort_submit : (seqnum tag : ℕ) → SubmitHead
abort_submit seqnum tag = asking_submit seqnum 2 (0xA2 ∷ 0x03 ∷ tag ∷ 0x00 ∷ 0x82 ∷ 0x00 ∷ 0x02 ∷ 0x00 ∷ [])

-- behind the first packet of a response
abbrev pub declining_in : List Entry
declining_in =
    -- TRANSFER_NOT_IN_PROGRESS, and the tag that is
    submits (abort_submit 4 7) []
    ∷ step Answer (answered (abort_submit 4 7) success 2 (0x81 ∷ 0x02 ∷ []) ∷ [])
    ∷ submits (abort_submit 5 2) []
    ∷ step Answer (answered (abort_submit 5 2) success 2 (0x01 ∷ 0x02 ∷ []) ∷ [])
    -- SPLIT_IN_PROGRESS, before the packet of length 0 and behind it
    ∷ submits (abort_submit 6 2) []
    ∷ step Answer (answered (abort_submit 6 2) success 2 (0x83 ∷ 0x02 ∷ []) ∷ [])
    ∷ step (Fill 1) (answered response_submit success 64 first_packet ∷ [])
    ∷ submits (abort_submit 7 2) []
    ∷ step Answer (answered (abort_submit 7 2) success 2 (0x83 ∷ 0x00 ∷ []) ∷ [])
    ∷ submits (check_submit 8) []
    ∷ step Answer (answered (check_submit 8) success 8 (0x01 ∷ 0x00 ∷ 0x00 ∷ 0x00 ∷ 0x34 ∷ 0x00 ∷ 0x00 ∷ 0x00 ∷ []) ∷ [])
    -- FAILED
    ∷ submits (abort_submit 9 2) []
    ∷ step Answer (answered (abort_submit 9 2) success 2 (0x80 ∷ 0x00 ∷ []) ∷ [])
    ∷ []
