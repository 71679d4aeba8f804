-- example hosts: one that tells a message of two transfers, and what has in hand one that reads the response to `*IDN?`, or that of another
use Rattle.std.specs.Prelude.{ℕ, List, [], ◌∷◌, codes, replicate, true, false}
use Rattle.usbip_wire.specs.Up as up
use Rattle.instr_plain.specs.Standing.{at_power_on}
use Rattle.tmc_law.specs.Endpoint.{BulkOut}
use Rattle.tmc_law.specs.State.{State, start}
use Rattle.tmc_law.specs.Put.{Unlinked, stalled, unlinked}
use Rattle.tmc_law.specs.Step.{Comes, Halt}
use Rattle.tmc_law.specs.Run.{Entry}
use Rattle.tmc_law.specs.WorkedQuery.{identity, query_log, response_text}
use Rattle.tmc_law.specs.WorkedParts.{spaced, spaces_text, parts_log}
use Rattle.tmc_law.specs.WorkedSession.{out_submit, unlink, submits, step, answered}
use Rattle.host_joint.specs.Hand.{Hand, Says, Said, Reads}

-- the first transfer of the message that is told has 100 spaces
abbrev pub telling : Hand
telling = Says spaced (replicate 100 32)

-- its second one has `*IDN?`, and the number 2
abbrev pub told : Hand
told = Said 2 spaced

-- the device behind the execution of that message
abbrev pub told_to : State
told_to = record start { log = parts_log; standing = record at_power_on { unread = identity } }

-- a piece of the response to `*IDN?` was requested, and nothing of it was read
abbrev pub querying : Hand
querying = Reads 1 (codes "*IDN?") 2 4000 [] []

-- the device behind that response
abbrev pub queried : State
queried = record start { log = query_log }

-- a host that takes the bytes of that response for those of the response to its own message, which no device executed
abbrev pub foreign : Hand
foreign = Reads 4 (codes "*IDN?") 2 4000 [] response_text

-- the request of the response to that message, tag 3, of at most 4,000 bytes
abbrev pub last_request : List ℕ
last_request = 0x02 ∷ 0x03 ∷ 0xfc ∷ 0x00 ∷ 0xa0 ∷ 0x0f ∷ 0x00 ∷ 0x00 ∷ 0x00 ∷ 0x00 ∷ 0x00 ∷ 0x00 ∷ []

-- the first transfer of that message is unlinked before a packet of it was taken, or Bulk-OUT halts then
abbrev pub stopping : List Entry
stopping = submits (out_submit 1 112) spaces_text ∷ step (Comes (up.Unlink (unlink 2 1))) (Unlinked (unlink 2 1) (record { seqnum = 2; status = unlinked }) ∷ []) ∷ []

abbrev pub closing : List Entry
closing = submits (out_submit 1 112) spaces_text ∷ step (Halt BulkOut) (answered (out_submit 1 112) stalled 0 [] ∷ []) ∷ []

abbrev pub closed_before : State
closed_before = record start { halted = record { bulk_out = true; bulk_in = false; interrupt_in = false } }
