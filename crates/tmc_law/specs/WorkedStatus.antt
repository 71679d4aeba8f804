-- the status byte is read, and comes in a packet: behind the answer to its request, or before it
use Rattle.std.specs.Prelude.{List, [], ◌∷◌}
use Rattle.usbip_wire.specs.declared.submit.SubmitHead.{SubmitHead}
use Rattle.instr_plain.specs.declared.log.LogEntry.{LogEntry}
use Rattle.instr_plain.specs.declared.log.LogEntry.TheVariants as entry
use Rattle.usbip_wire.specs.Up as up
use Rattle.tmc_law.specs.Put.{Unlinked, success, stalled}
use Rattle.tmc_law.specs.Step.{Comes, Answer, Poll, Notify}
use Rattle.tmc_law.specs.Run.{Entry}
use Rattle.tmc_law.specs.WorkedSession.{notify_submit, asking_submit, unlink, submits, step, answered}

-- READ_STATUS_BYTE with tag 5
abbrev pub status_submit : SubmitHead
status_submit = asking_submit 2 3 (0xA1 ∷ 0x80 ∷ 0x05 ∷ 0x00 ∷ 0x00 ∷ 0x00 ∷ 0x03 ∷ 0x00 ∷ [])

-- up to the request
abbrev pub status_asked : List Entry
status_asked = submits (notify_submit 1 8) [] ∷ submits status_submit [] ∷ []

-- the answer: SUCCESS and the tag, and no status byte
abbrev pub answer_first : List Entry
answer_first =
    step Answer (answered status_submit success 3 (0x01 ∷ 0x05 ∷ 0x00 ∷ []) ∷ [])
    ∷ step Notify (answered (notify_submit 1 8) success 2 (0x85 ∷ 0x00 ∷ []) ∷ [])
    ∷ []

abbrev pub packet_first : List Entry
packet_first =
    step Poll []
    ∷ step Notify (answered (notify_submit 1 8) success 2 (0x85 ∷ 0x00 ∷ []) ∷ [])
    ∷ step Answer (answered status_submit success 3 (0x01 ∷ 0x05 ∷ 0x00 ∷ []) ∷ [])
    ∷ []

abbrev pub status_log : List LogEntry
status_log = entry.Poll 2 ∷ []

-- the request is polled, and then it is unlinked: it is answered first, and so the unlink misses
abbrev pub unlink_behind_poll : List Entry
unlink_behind_poll =
    step Poll []
    ∷ step (Comes (up.Unlink (unlink 3 2)))
    (answered status_submit success 3 (0x01 ∷ 0x05 ∷ 0x00 ∷ []) ∷ Unlinked (unlink 3 2) (record { seqnum = 3; status = success }) ∷ [])
    ∷ step Notify (answered (notify_submit 1 8) success 2 (0x85 ∷ 0x00 ∷ []) ∷ [])
    ∷ []

-- a submit that has no room for the packet halts Interrupt-IN, and the packet stays
abbrev pub no_room : List Entry
no_room =
    submits (notify_submit 1 1) []
    ∷ submits status_submit []
    ∷ step Answer (answered status_submit success 3 (0x01 ∷ 0x05 ∷ 0x00 ∷ []) ∷ [])
    ∷ step Notify (answered (notify_submit 1 1) stalled 0 [] ∷ [])
    ∷ []

-- tag 1 is none, and tag 6 comes while a packet is queued
abbrev pub wrong_submit : SubmitHead
wrong_submit = asking_submit 1 3 (0xA1 ∷ 0x80 ∷ 0x01 ∷ 0x00 ∷ 0x00 ∷ 0x00 ∷ 0x03 ∷ 0x00 ∷ [])

abbrev pub early_submit : SubmitHead
early_submit = asking_submit 3 3 (0xA1 ∷ 0x80 ∷ 0x06 ∷ 0x00 ∷ 0x00 ∷ 0x00 ∷ 0x03 ∷ 0x00 ∷ [])

-- FAILED, SUCCESS and INTERRUPT_IN_BUSY
abbrev pub statuses : List Entry
statuses =
    submits wrong_submit []
    ∷ step Answer (answered wrong_submit success 3 (0x80 ∷ 0x01 ∷ 0x00 ∷ []) ∷ [])
    ∷ submits status_submit []
    ∷ step Answer (answered status_submit success 3 (0x01 ∷ 0x05 ∷ 0x00 ∷ []) ∷ [])
    ∷ submits early_submit []
    ∷ step Answer (answered early_submit success 3 (0x20 ∷ 0x06 ∷ 0x00 ∷ []) ∷ [])
    ∷ []
