-- worked records: what they are made of, and asks that are answered
use Rattle.std.specs.Prelude.{ℕ, ℤ, pos, neg_ℤ, true, List, [], ◌∷◌, ◌++◌, codes, replicate, Some}
use Rattle.usb_setup.specs.declared.ends.Ends.{Ends}
use Rattle.usbip_wire.specs.Down as down
use Rattle.host_hub.specs.declared.kind.Kind.TheVariants as kind
use Rattle.host_hub.specs.declared.outcome.End.TheVariants as end
use Rattle.host_hub.specs.declared.outcome.Outcome.TheVariants as outcome
use Rattle.host_hub.specs.Order.{Part, Read, Request, Setting}
use Rattle.host_hub.specs.Record.{Asked, Asking, Fell, Happening, Of, Past, Settled, Stopped, Took, Wrote, Cancelled}

-- the instrument's interface
abbrev pub instrument : Ends
instrument = record { configuration = 1; interface = 0; protocol = 1; bulk_out = 0x01; bulk_in = 0x82; notify = Some 0x83; notify_size = 8 }

abbrev pub setting : Setting
setting = record { first = 1; devid = 0x00010002; ends = instrument; depth = 1 }

abbrev pub success : ℤ
success = pos 0

-- the answer to a submit: so many bytes were transferred, and these came back
abbrev pub answer : (number actual : ℕ) → (bytes : List ℕ) → Happening
answer number actual bytes = Took (down.RetSubmit (record { seqnum = number; status = success; actual = actual }) bytes)

abbrev pub unlink_answer : (number : ℕ) → ℤ → Happening
unlink_answer number status = Took (down.RetUnlink (record { seqnum = number; status = status }))

abbrev pub query : (session limit : ℕ) → (message : List ℕ) → Asking
query session limit message = record { session = session; kind = kind.Ask; limit = limit; message = message }

abbrev pub telling : (session : ℕ) → (message : List ℕ) → Asking
telling session message = record { session = session; kind = kind.Tell; limit = 0; message = message }

-- the header of a piece of fewer than 65,536 bytes, with EOM where `attributes` is 1
abbrev pub piece_header : (tag inverse low high attributes : ℕ) → List ℕ
piece_header tag inverse low high attributes = 0x02 ∷ tag ∷ inverse ∷ 0x00 ∷ low ∷ high ∷ 0x00 ∷ 0x00 ∷ attributes ∷ 0x00 ∷ 0x00 ∷ 0x00 ∷ []

-- ---- `*IDN?` is answered with 19 bytes

abbrev pub identify : List ℕ
identify = codes "*IDN?"

abbrev pub identity : List ℕ
identity = codes "EXAMPLE,TMC1,0,1.0" ++ 10 ∷ []

abbrev pub identity_text : List ℕ
identity_text = piece_header 2 0xfd 19 0 1 ++ (identity ++ 0x00 ∷ [])

abbrev pub query_record : Past
query_record =
    Settled 1 outcome.Complete
    ∷ answer 3 32 identity_text
    ∷ Wrote 3 (Of 1) Read
    ∷ answer 2 12 []
    ∷ Wrote 2 (Of 1) (Request 2 4000)
    ∷ answer 1 20 []
    ∷ Wrote 1 (Of 1) (Part 1 identify true)
    ∷ Asked 1 (query 0 4000 identify)
    ∷ []

-- ---- a response of 4,084 bytes fills the first read, and the second one is answered with none

abbrev pub read_values : List ℕ
read_values = codes "READ? 4077"

abbrev pub values : List ℕ
values = replicate 4084 0x31

abbrev pub values_text : List ℕ
values_text = piece_header 2 0xfd 0xf4 0x0f 1 ++ values

abbrev pub full_record : Past
full_record =
    Settled 1 outcome.Complete
    ∷ answer 4 0 []
    ∷ Wrote 4 (Of 1) Read
    ∷ answer 3 4096 values_text
    ∷ Wrote 3 (Of 1) Read
    ∷ answer 2 12 []
    ∷ Wrote 2 (Of 1) (Request 2 5000)
    ∷ answer 1 24 []
    ∷ Wrote 1 (Of 1) (Part 1 read_values true)
    ∷ Asked 1 (query 0 5000 read_values)
    ∷ []

-- ---- a response that is longer than its limit, and the next ask

abbrev pub events : List ℕ
events = codes "*ESR?"

abbrev pub limited_record : Past
limited_record =
    Settled 2 outcome.Complete
    ∷ answer 6 16 (piece_header 4 0xfb 4 0 1 ++ codes "132" ++ 10 ∷ [])
    ∷ Wrote 6 (Of 2) Read
    ∷ answer 5 12 []
    ∷ Wrote 5 (Of 2) (Request 4 200)
    ∷ answer 4 20 []
    ∷ Wrote 4 (Of 2) (Part 3 events true)
    ∷ Asked 2 (query 0 200 events)
    ∷ Settled 1 outcome.Limit
    ∷ answer 3 32 (piece_header 2 0xfd 18 0 0 ++ codes "EXAMPLE,TMC1,0,1.0" ++ 0x00 ∷ 0x00 ∷ [])
    ∷ Wrote 3 (Of 1) Read
    ∷ answer 2 12 []
    ∷ Wrote 2 (Of 1) (Request 2 18)
    ∷ answer 1 20 []
    ∷ Wrote 1 (Of 1) (Part 1 identify true)
    ∷ Asked 1 (query 0 18 identify)
    ∷ []

-- ---- the device is unplugged: status -108 ends the hub, and all that is live settles

abbrev pub complete_query : List ℕ
complete_query = codes "*OPC?"

abbrev pub unplugged_record : Past
unplugged_record =
    Settled 3 outcome.Unplugged
    ∷ Settled 2 outcome.Unplugged
    ∷ Settled 1 outcome.Unplugged
    ∷ Fell (down.RetSubmit (record { seqnum = 1; status = neg_ℤ (pos 108); actual = 0 }) []) end.Unplugged
    ∷ Asked 3 (telling 2 (codes "CONF 3"))
    ∷ Asked 2 (query 1 200 complete_query)
    ∷ Wrote 1 (Of 1) (Part 1 complete_query true)
    ∷ Asked 1 (query 0 200 complete_query)
    ∷ []

-- ---- the second of two tickets is cancelled while it waits

abbrev pub dropped_record : Past
dropped_record =
    Settled 2 outcome.Cancelled
    ∷ Cancelled 2
    ∷ Asked 2 (query 1 200 complete_query)
    ∷ Wrote 1 (Of 1) (Part 1 complete_query true)
    ∷ Asked 1 (query 0 200 complete_query)
    ∷ []

-- ---- Bulk-IN halts behind the first read: the ticket has what came, and the hub ends, which does not recover from that yet

abbrev pub halted_record : Past
halted_record =
    Stopped (end.DeviceFault (neg_ℤ (pos 32)))
    ∷ Settled 1 (outcome.Halted 2)
    ∷ Took (down.RetSubmit (record { seqnum = 4; status = neg_ℤ (pos 32); actual = 0 }) [])
    ∷ Wrote 4 (Of 1) Read
    ∷ answer 3 4096 (piece_header 2 0xfd 0x8f 0x13 1 ++ values)
    ∷ Wrote 3 (Of 1) Read
    ∷ answer 2 12 []
    ∷ Wrote 2 (Of 1) (Request 2 9000)
    ∷ answer 1 24 []
    ∷ Wrote 1 (Of 1) (Part 1 (codes "READ? 5000") true)
    ∷ Asked 1 (query 0 9000 (codes "READ? 5000"))
    ∷ []
