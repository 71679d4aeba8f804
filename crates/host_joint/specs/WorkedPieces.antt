-- the response to the message of two transfers, read in two pieces: a run of the device, and what its host has in hand
use Rattle.std.specs.Prelude.{ℕ, List, [], ◌∷◌, ◌++◌, codes, replicate, true, false}
use Rattle.tmc_wire.specs.declared.header.OutHeader.TheVariants.{Message, Request}
use Rattle.instr_plain.specs.declared.log.LogEntry.{LogEntry}
use Rattle.instr_plain.specs.declared.log.LogEntry.TheVariants as entry
use Rattle.instr_plain.specs.Standing.{at_power_on}
use Rattle.tmc_law.specs.State.{State, Owed, start}
use Rattle.tmc_law.specs.Put.{success}
use Rattle.tmc_law.specs.Step.{Take, Begin, Fill}
use Rattle.tmc_law.specs.Run.{Entry}
use Rattle.tmc_law.specs.WorkedSession.{out_submit, in_submit, submits, step, answered}
use Rattle.tmc_law.specs.WorkedParts.{spaced, spaces_text, last_text, parts_log}
use Rattle.host_joint.specs.Jobs.{Job}
use Rattle.host_joint.specs.Asking.{Ask}
use Rattle.host_joint.specs.Hand.{Hand, Reads}
use Rattle.host_joint.specs.WorkedTies.{told_to, last_request}

-- the first 10 bytes of the response, and the other 9
abbrev pub first_data : List ℕ
first_data = codes "EXAMPLE,TM"

abbrev pub second_data : List ℕ
second_data = codes "C1,0,1.0" ++ 10 ∷ []

-- DEV_DEP_MSG_IN, tag 3, 10 bytes of a response that goes on
abbrev pub first_piece : List ℕ
first_piece = 0x02 ∷ 0x03 ∷ 0xfc ∷ 0x00 ∷ 0x0a ∷ 0x00 ∷ 0x00 ∷ 0x00 ∷ 0x00 ∷ 0x00 ∷ 0x00 ∷ 0x00 ∷ [] ++ (first_data ++ 0x00 ∷ 0x00 ∷ [])

-- REQUEST_DEV_DEP_MSG_IN, tag 4, at most 4000 bytes
abbrev pub next_request : List ℕ
next_request = 0x02 ∷ 0x04 ∷ 0xfb ∷ 0x00 ∷ 0xa0 ∷ 0x0f ∷ 0x00 ∷ 0x00 ∷ 0x00 ∷ 0x00 ∷ 0x00 ∷ 0x00 ∷ []

-- DEV_DEP_MSG_IN, tag 4, 9 bytes that end the response
abbrev pub second_piece : List ℕ
second_piece = 0x02 ∷ 0x04 ∷ 0xfb ∷ 0x00 ∷ 0x09 ∷ 0x00 ∷ 0x00 ∷ 0x00 ∷ 0x01 ∷ 0x00 ∷ 0x00 ∷ 0x00 ∷ [] ++ (second_data ++ 0x00 ∷ 0x00 ∷ 0x00 ∷ [])

-- The device takes a request, and then gives a piece. It may begin one of fewer bytes than are unread.
abbrev pub requesting_first : List Entry
requesting_first = submits (out_submit 3 12) last_request ∷ step (Take 1) (answered (out_submit 3 12) success 12 [] ∷ []) ∷ []

abbrev pub giving_first : List Entry
giving_first = submits (in_submit 4 4096) [] ∷ step (Begin 10) [] ∷ step (Fill 1) (answered (in_submit 4 4096) success 24 first_piece ∷ []) ∷ []

abbrev pub requesting_second : List Entry
requesting_second = submits (out_submit 5 12) next_request ∷ step (Take 1) (answered (out_submit 5 12) success 12 [] ∷ []) ∷ []

abbrev pub giving_second : List Entry
giving_second = submits (in_submit 6 4096) [] ∷ step (Begin 9) [] ∷ step (Fill 1) (answered (in_submit 6 4096) success 24 second_piece ∷ []) ∷ []

-- the device behind the first request, whose piece has not begun
abbrev pub requested_first : State
requested_first = record told_to { side = Owed 3 4000 }

-- the device behind each piece
abbrev pub first_log : List LogEntry
first_log = parts_log ++ entry.Took 10 ∷ []

abbrev pub second_log : List LogEntry
second_log = first_log ++ entry.Took 9 ∷ []

abbrev pub behind_first : State
behind_first = record start { log = first_log; standing = record at_power_on { unread = second_data } }

-- and behind the second request, whose piece has not begun
abbrev pub requested_second : State
requested_second = record behind_first { side = Owed 4 4000 }

abbrev pub behind_second : State
behind_second = record start { log = second_log }

-- what the host has in hand when it requested each piece
abbrev pub reading_first : Hand
reading_first = Reads 2 spaced 3 4000 [] []

abbrev pub reading_second : Hand
reading_second = Reads 2 spaced 4 4000 first_data []

-- a host that takes the second piece for the first one
abbrev pub skipping : Hand
skipping = Reads 2 spaced 4 4000 [] second_piece

-- ---- the same as an ask

-- the transfers of the message, and the two requests
abbrev pub spaces_job : Job
spaces_job = record { head = out_submit 1 112; header = Message 1 100 false; message = replicate 100 32; bytes = spaces_text }

abbrev pub last_job : Job
last_job = record { head = out_submit 2 20; header = Message 2 5 true; message = codes "*IDN?"; bytes = last_text }

abbrev pub request_job : Job
request_job = record { head = out_submit 3 12; header = Request 3 4000; message = []; bytes = last_request }

abbrev pub next_job : Job
next_job = record { head = out_submit 5 12; header = Request 4 4000; message = []; bytes = next_request }

-- what a host knows of it that wrote these transfers, of which so many were answered, and whose first pieces had this data
abbrev pub asked_with : (tag : ℕ) (written : List Job) (answered : ℕ) (sofar : List ℕ) → Ask
asked_with tag written answered sofar =
    record { last = 2; message = spaced; tag = tag; size = 4000; written = written; answered = answered; sofar = sofar; read = []; gone = false }
