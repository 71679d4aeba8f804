-- behind the first packet of a response, Bulk-IN halts
use Rattle.std.specs.Prelude.{List, [], ◌∷◌}
use Rattle.usbip_wire.specs.declared.submit.SubmitHead.{SubmitHead}
use Rattle.usbip_wire.specs.Up as up
use Rattle.tmc_law.specs.Endpoint.{BulkIn}
use Rattle.tmc_law.specs.Put.{success, stalled}
use Rattle.tmc_law.specs.Step.{Comes, Answer, Halt}
use Rattle.tmc_law.specs.Run.{Entry}
use Rattle.tmc_law.specs.WorkedSession.{in_submit, asking_submit, telling_submit, submits, step, answered}
use Rattle.tmc_law.specs.WorkedQuery.{response_submit}
use Rattle.tmc_law.specs.WorkedRead.{first_packet}

-- GET_STATUS of Bulk-IN
abbrev pub status_submit : SubmitHead
status_submit = asking_submit 5 2 (0x82 ∷ 0x00 ∷ 0x00 ∷ 0x00 ∷ 0x82 ∷ 0x00 ∷ 0x02 ∷ 0x00 ∷ [])

-- CLEAR_FEATURE of its halt
abbrev pub usable_submit : SubmitHead
usable_submit = telling_submit 6 (0x02 ∷ 0x01 ∷ 0x00 ∷ 0x00 ∷ 0x82 ∷ 0x00 ∷ 0x00 ∷ 0x00 ∷ [])

abbrev pub halting : List Entry
halting =
    -- the submit ends with what it had, and the rest of the response is dropped
    step (Halt BulkIn) (answered response_submit stalled 64 first_packet ∷ [])
    ∷ step (Comes (up.Submit (in_submit 4 4096) [])) (answered (in_submit 4 4096) stalled 0 [] ∷ [])
    ∷ submits status_submit []
    ∷ step Answer (answered status_submit success 2 (0x01 ∷ 0x00 ∷ []) ∷ [])
    ∷ submits usable_submit []
    ∷ step Answer (answered usable_submit success 0 [] ∷ [])
    ∷ []
