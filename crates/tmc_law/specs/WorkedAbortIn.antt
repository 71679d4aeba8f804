-- behind the first packet of a response, its transfer is aborted
use Rattle.std.specs.Prelude.{ℕ, List, [], ◌∷◌}
use Rattle.usbip_wire.specs.declared.submit.SubmitHead.{SubmitHead}
use Rattle.tmc_law.specs.Put.{success}
use Rattle.tmc_law.specs.Step.{Answer, Pend, Fill}
use Rattle.tmc_law.specs.Run.{Entry}
use Rattle.tmc_law.specs.WorkedSession.{asking_submit, submits, step, answered}
use Rattle.tmc_law.specs.WorkedQuery.{response_submit}
use Rattle.tmc_law.specs.WorkedRead.{first_packet}

-- INITIATE_ABORT_BULK_IN of the transfer with tag 2
abbrev pub abort_submit : SubmitHead
abort_submit = asking_submit 4 2 (0xA2 ∷ 0x03 ∷ 0x02 ∷ 0x00 ∷ 0x82 ∷ 0x00 ∷ 0x02 ∷ 0x00 ∷ [])

-- CHECK_ABORT_BULK_IN_STATUS
abbrev pub check_submit : (seqnum : ℕ) → SubmitHead
check_submit seqnum = asking_submit seqnum 8 (0xA2 ∷ 0x04 ∷ 0x00 ∷ 0x00 ∷ 0x82 ∷ 0x00 ∷ 0x08 ∷ 0x00 ∷ [])

abbrev pub aborting_in : List Entry
aborting_in =
    submits abort_submit []
    ∷ step Answer (answered abort_submit success 2 (0x01 ∷ 0x02 ∷ []) ∷ [])
    -- PENDING: a packet is still to be read; 52 bytes of data were given
    ∷ submits (check_submit 5) []
    ∷ step Answer (answered (check_submit 5) success 8 (0x02 ∷ 0x01 ∷ 0x00 ∷ 0x00 ∷ 0x34 ∷ 0x00 ∷ 0x00 ∷ 0x00 ∷ []) ∷ [])
    -- the packet of length 0 ends the submit
    ∷ step (Fill 1) (answered response_submit success 64 first_packet ∷ [])
    ∷ submits (check_submit 6) []
    ∷ step Answer (answered (check_submit 6) success 8 (0x01 ∷ 0x00 ∷ 0x00 ∷ 0x00 ∷ 0x34 ∷ 0x00 ∷ 0x00 ∷ 0x00 ∷ []) ∷ [])
    ∷ []

-- the same, with PENDING behind the packet too
abbrev pub checking_in : List Entry
checking_in =
    submits abort_submit []
    ∷ step Answer (answered abort_submit success 2 (0x01 ∷ 0x02 ∷ []) ∷ [])
    ∷ submits (check_submit 5) []
    ∷ step Pend (answered (check_submit 5) success 8 (0x02 ∷ 0x01 ∷ 0x00 ∷ 0x00 ∷ 0x34 ∷ 0x00 ∷ 0x00 ∷ 0x00 ∷ []) ∷ [])
    ∷ step (Fill 1) (answered response_submit success 64 first_packet ∷ [])
    -- no packet is still to be read
    ∷ submits (check_submit 6) []
    ∷ step Pend (answered (check_submit 6) success 8 (0x02 ∷ 0x00 ∷ 0x00 ∷ 0x00 ∷ 0x34 ∷ 0x00 ∷ 0x00 ∷ 0x00 ∷ []) ∷ [])
    ∷ submits (check_submit 7) []
    ∷ step Answer (answered (check_submit 7) success 8 (0x01 ∷ 0x00 ∷ 0x00 ∷ 0x00 ∷ 0x34 ∷ 0x00 ∷ 0x00 ∷ 0x00 ∷ []) ∷ [])
    ∷ []
