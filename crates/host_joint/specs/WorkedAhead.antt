-- the query `*IDN?` with its request written ahead, and both unlinked before a packet of them was taken
use Rattle.std.specs.Prelude.{List, [], ◌∷◌, true, false}
use Rattle.usbip_wire.specs.declared.submit.SubmitHead.{SubmitHead}
use Rattle.usbip_wire.specs.declared.unlink.UnlinkHead.{UnlinkHead}
use Rattle.usbip_wire.specs.Up as up
use Rattle.tmc_law.specs.Endpoint.{Endpoint, Control, BulkOut, BulkIn, InterruptIn}
use Rattle.tmc_law.specs.Put.{Unlinked, stalled, unlinked}
use Rattle.tmc_law.specs.Step.{Comes, Halt}
use Rattle.tmc_law.specs.Run.{Entry}
use Rattle.tmc_law.specs.WorkedQuery.{query_submit, request_submit, query_text, request_text}
use Rattle.tmc_law.specs.WorkedSession.{out_submit, in_submit, unlink, submits, step, answered}
use Rattle.tmc_law.specs.State.{State}
use Rattle.host_joint.specs.WorkedTies.{last_request}
use Rattle.host_joint.specs.WorkedPieces.{behind_first}

-- its submits, and their unlinks, the last one first
abbrev pub ahead_asked : Endpoint → List SubmitHead
ahead_asked Control = []
ahead_asked BulkOut = query_submit ∷ request_submit ∷ []
ahead_asked BulkIn = []
ahead_asked InterruptIn = []

abbrev pub ahead_unlinks : List UnlinkHead
ahead_unlinks = unlink 3 2 ∷ unlink 4 1 ∷ []

abbrev pub cancelling_ahead : List Entry
cancelling_ahead =
    submits query_submit query_text
    ∷ submits request_submit request_text
    ∷ step (Comes (up.Unlink (unlink 3 2))) (Unlinked (unlink 3 2) (record { seqnum = 3; status = unlinked }) ∷ [])
    ∷ step (Comes (up.Unlink (unlink 4 1))) (Unlinked (unlink 4 1) (record { seqnum = 4; status = unlinked }) ∷ [])
    ∷ []

-- the request of the message of two transfers, and its unlink, before it was taken
abbrev pub cancelling_request : List Entry
cancelling_request = submits (out_submit 3 12) last_request ∷ step (Comes (up.Unlink (unlink 4 3))) (Unlinked (unlink 4 3) (record { seqnum = 4; status = unlinked }) ∷ []) ∷ []

-- a read that is left over behind the first piece of its response, and its unlink
abbrev pub cancelling_read : List Entry
cancelling_read = submits (in_submit 5 4096) [] ∷ step (Comes (up.Unlink (unlink 6 5))) (Unlinked (unlink 6 5) (record { seqnum = 6; status = unlinked }) ∷ []) ∷ []

-- Bulk-OUT halts before a packet of the query was taken, and Bulk-IN before the second piece begins, of which two reads were written
abbrev pub closing_ahead : List Entry
closing_ahead =
    submits query_submit query_text
    ∷ submits request_submit request_text
    ∷ step (Halt BulkOut) (answered query_submit stalled 0 [] ∷ answered request_submit stalled 0 [] ∷ [])
    ∷ []

abbrev pub halting_reads : List Entry
halting_reads =
    submits (in_submit 6 4096) []
    ∷ submits (in_submit 7 4096) []
    ∷ step (Halt BulkIn) (answered (in_submit 6 4096) stalled 0 [] ∷ answered (in_submit 7 4096) stalled 0 [] ∷ [])
    ∷ []

abbrev pub halted_before : State
halted_before = record behind_first { halted = record { bulk_out = false; bulk_in = true; interrupt_in = false } }
