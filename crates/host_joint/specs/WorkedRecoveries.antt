-- in the middle of the second piece Bulk-IN halts, or the host cancels: runs of the device, and what its host recovers by
use Rattle.std.specs.Prelude.{ℕ, List, [], ◌∷◌, ◌++◌, true, false}
use Rattle.usbip_wire.specs.declared.submit.SubmitHead.{SubmitHead}
use Rattle.usbip_wire.specs.Up as up
use Rattle.instr_plain.specs.declared.log.LogEntry.{LogEntry}
use Rattle.instr_plain.specs.declared.log.LogEntry.TheVariants as entry
use Rattle.tmc_law.specs.Endpoint.{BulkIn}
use Rattle.tmc_law.specs.State.{State, Sending, Unplugged, start, AbortsIn, Clears}
use Rattle.tmc_law.specs.Put.{Unlinked, success, stalled, unlinked, unplugged}
use Rattle.tmc_law.specs.Step.{Comes, Answer, Begin, Fill, Halt, Unplug}
use Rattle.tmc_law.specs.Run.{Entry}
use Rattle.tmc_law.specs.WorkedSession.{in_submit, asking_submit, telling_submit, unlink, submits, step, answered}
use Rattle.tmc_law.specs.WorkedParts.{spaced}
use Rattle.host_joint.specs.Bond.{Situation, Reading}
use Rattle.host_joint.specs.WorkedPieces.{first_data, second_piece, second_log}

-- the second piece was requested, and nothing of it was read; whether an unlink is on its way or not
abbrev pub reading_rest : Situation
reading_rest = Reading 2 spaced 4 4000 first_data [] true

-- INITIATE_ABORT_BULK_IN of the transfer with tag 4
abbrev pub abort_submit : (seqnum : ℕ) → SubmitHead
abort_submit seqnum = asking_submit seqnum 2 (0xA2 ∷ 0x03 ∷ 0x04 ∷ 0x00 ∷ 0x82 ∷ 0x00 ∷ 0x02 ∷ 0x00 ∷ [])

-- CHECK_ABORT_BULK_IN_STATUS
abbrev pub check_submit : (seqnum : ℕ) → SubmitHead
check_submit seqnum = asking_submit seqnum 8 (0xA2 ∷ 0x04 ∷ 0x00 ∷ 0x00 ∷ 0x82 ∷ 0x00 ∷ 0x08 ∷ 0x00 ∷ [])

-- CLEAR_FEATURE of the halt of Bulk-IN, and of that of Bulk-OUT
abbrev pub usable_in : (seqnum : ℕ) → SubmitHead
usable_in seqnum = telling_submit seqnum (0x02 ∷ 0x01 ∷ 0x00 ∷ 0x00 ∷ 0x82 ∷ 0x00 ∷ 0x00 ∷ 0x00 ∷ [])

abbrev pub usable_out : (seqnum : ℕ) → SubmitHead
usable_out seqnum = telling_submit seqnum (0x02 ∷ 0x01 ∷ 0x00 ∷ 0x00 ∷ 0x01 ∷ 0x00 ∷ 0x00 ∷ 0x00 ∷ [])

-- INITIATE_CLEAR, and CHECK_CLEAR_STATUS
abbrev pub clear_submit : (seqnum : ℕ) → SubmitHead
clear_submit seqnum = asking_submit seqnum 1 (0xA1 ∷ 0x05 ∷ 0x00 ∷ 0x00 ∷ 0x00 ∷ 0x00 ∷ 0x01 ∷ 0x00 ∷ [])

abbrev pub check_clear_submit : (seqnum : ℕ) → SubmitHead
check_clear_submit seqnum = asking_submit seqnum 2 (0xA1 ∷ 0x06 ∷ 0x00 ∷ 0x00 ∷ 0x00 ∷ 0x00 ∷ 0x02 ∷ 0x00 ∷ [])

-- INITIATE_ABORT_BULK_OUT of the transfer with tag 1
abbrev pub abort_out_submit : (seqnum : ℕ) → SubmitHead
abort_out_submit seqnum = asking_submit seqnum 2 (0xA2 ∷ 0x01 ∷ 0x01 ∷ 0x00 ∷ 0x01 ∷ 0x00 ∷ 0x02 ∷ 0x00 ∷ [])

-- no transfer is in progress at power-on
abbrev pub aborting_nothing : List Entry
aborting_nothing = submits (abort_out_submit 1) [] ∷ step Answer (answered (abort_out_submit 1) success 2 (0x80 ∷ 0x00 ∷ []) ∷ []) ∷ []

-- ---- Bulk-IN halts

-- the piece has begun, and none of its bytes was given
abbrev pub halting_second : List Entry
halting_second = submits (in_submit 6 4096) [] ∷ step (Begin 9) [] ∷ step (Halt BulkIn) (answered (in_submit 6 4096) stalled 0 [] ∷ []) ∷ []

abbrev pub halted_inside : State
halted_inside = record start { halted = record { bulk_out = false; bulk_in = true; interrupt_in = false }; log = second_log }

-- no transfer is in progress any more, and the endpoint becomes usable
abbrev pub aborting_none : List Entry
aborting_none = submits (abort_submit 7) [] ∷ step Answer (answered (abort_submit 7) success 2 (0x80 ∷ 0x00 ∷ []) ∷ []) ∷ []

abbrev pub usable_again : State
usable_again = record start { log = second_log }

abbrev pub freeing : List Entry
freeing = submits (usable_in 8) [] ∷ step Answer (answered (usable_in 8) success 0 [] ∷ []) ∷ []

-- or the host clears all
abbrev pub clearing_halted : List Entry
clearing_halted = submits (clear_submit 7) [] ∷ step Answer (answered (clear_submit 7) success 1 (0x01 ∷ []) ∷ []) ∷ []

abbrev pub checking_clear : List Entry
checking_clear = submits (check_clear_submit 8) [] ∷ step Answer (answered (check_clear_submit 8) success 2 (0x01 ∷ 0x00 ∷ []) ∷ []) ∷ []

abbrev pub freeing_out : List Entry
freeing_out = submits (usable_out 9) [] ∷ step Answer (answered (usable_out 9) success 0 [] ∷ []) ∷ []

abbrev pub freeing_in : List Entry
freeing_in = submits (usable_in 10) [] ∷ step Answer (answered (usable_in 10) success 0 [] ∷ []) ∷ []

abbrev pub cleared_log : List LogEntry
cleared_log = second_log ++ entry.Clear ∷ []

abbrev pub clearing_all : State
clearing_all = record start { halted = record { bulk_out = true; bulk_in = true; interrupt_in = false }; running = Clears; log = cleared_log }

abbrev pub cleared_at_last : State
cleared_at_last = record start { log = cleared_log }

-- ---- the host cancels

-- the unlink hits the read, which had no bytes
abbrev pub cancelling_second : List Entry
cancelling_second =
    submits (in_submit 6 4096) []
    ∷ step (Begin 9) []
    ∷ step (Comes (up.Unlink (unlink 7 6))) (Unlinked (unlink 7 6) (record { seqnum = 7; status = unlinked }) ∷ [])
    ∷ []

abbrev pub cancelled_inside : State
cancelled_inside = record usable_again { side = Sending (record { tag = 4; size = 9; left = second_piece }) }

-- the transfer is aborted, its packet is read, and the check says that it is over
abbrev pub aborting_second : List Entry
aborting_second = submits (abort_submit 8) [] ∷ step Answer (answered (abort_submit 8) success 2 (0x01 ∷ 0x04 ∷ []) ∷ []) ∷ []

abbrev pub wanting : State
wanting = record usable_again { side = Sending (record { tag = 4; size = 9; left = [] }); running = AbortsIn true 0 }

abbrev pub drained : State
drained = record usable_again { running = AbortsIn false 0 }

abbrev pub draining : List Entry
draining = submits (in_submit 9 4096) [] ∷ step (Fill 1) (answered (in_submit 9 4096) success 0 [] ∷ []) ∷ []

abbrev pub checking_second : List Entry
checking_second =
    submits (check_submit 10) []
    ∷ step Answer (answered (check_submit 10) success 8 (0x01 ∷ 0x00 ∷ 0x00 ∷ 0x00 ∷ 0x00 ∷ 0x00 ∷ 0x00 ∷ 0x00 ∷ []) ∷ [])
    ∷ []

-- or Bulk-IN halts before its packet is read
abbrev pub wanting_halted : State
wanting_halted = record halted_inside { running = AbortsIn true 0 }

-- or the device is unplugged before it answers the abort
abbrev pub unplugging_abort : List Entry
unplugging_abort = submits (abort_submit 8) [] ∷ step Unplug (answered (abort_submit 8) unplugged 0 [] ∷ []) ∷ []

abbrev pub unplugged_aborting : State
unplugged_aborting = record cancelled_inside { presence = Unplugged }

-- or right behind the unlink
abbrev pub unplugging_cancelled : List Entry
unplugging_cancelled = cancelling_second ++ step Unplug [] ∷ []
