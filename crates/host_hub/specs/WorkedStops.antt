-- worked records: tickets that are cancelled, and the recoveries behind them
use Rattle.std.specs.Prelude.{ℕ, ℤ, neg_ℤ, pos, true, false, List, [], ◌∷◌, ◌++◌, codes, replicate}
use Rattle.tmc_wire.specs.declared.class_request.ClassRequest.TheVariants as class
use Rattle.host_recover.specs.Letter.{BulkOut}
use Rattle.host_hub.specs.declared.outcome.Outcome.TheVariants as outcome
use Rattle.host_hub.specs.Order.{Class, ClearHalt, Part, Read, Request, Unlink}
use Rattle.host_hub.specs.Record.{Asked, Cancelled, Of, Past, Recovers, Recovery, Settled, Wrote}
use Rattle.host_hub.specs.Worked.{answer, complete_query, events, piece_header, query, success, unlink_answer}

-- ECONNRESET: the submit was taken back
abbrev pub unlinked : ℤ
unlinked = neg_ℤ (pos 104)

-- ---- `*OPC?` is cancelled while its response is read

abbrev pub reading : (message : List ℕ) → Past
reading message =
    Wrote 3 (Of 1) Read
    ∷ answer 2 12 []
    ∷ Wrote 2 (Of 1) (Request 2 200)
    ∷ answer 1 20 []
    ∷ Wrote 1 (Of 1) (Part 1 message true)
    ∷ Asked 1 (query 0 200 message)
    ∷ []

abbrev pub unlinking : (message : List ℕ) → Past
unlinking message = Wrote 4 (Of 1) (Unlink 3) ∷ Cancelled 1 ∷ reading message

-- `1` NL
abbrev pub complete_text : (tag inverse : ℕ) → List ℕ
complete_text tag inverse = piece_header tag inverse 2 0 1 ++ 0x31 ∷ 0x0a ∷ 0x00 ∷ 0x00 ∷ []

-- the response had been sent: it outruns the unlink
abbrev pub race_record : Past
race_record = unlink_answer 4 success ∷ Settled 1 outcome.Complete ∷ answer 3 16 (complete_text 2 0xfd) ∷ unlinking complete_query

-- or it had not: the read is taken back, and the response is aborted
abbrev pub cancelled : (message : List ℕ) → Past
cancelled message = Settled 1 outcome.Cancelled ∷ unlink_answer 4 unlinked ∷ unlinking message

abbrev pub recovered : (message : List ℕ) → Past
recovered message =
    answer 7 8 (1 ∷ 0 ∷ 0 ∷ 0 ∷ 2 ∷ 0 ∷ 0 ∷ 0 ∷ [])
    ∷ Wrote 7 Recovery (Class class.CheckIn)
    ∷ answer 6 0 []
    ∷ Wrote 6 Recovery Read
    ∷ answer 5 2 (1 ∷ 2 ∷ [])
    ∷ Wrote 5 Recovery (Class (class.AbortIn 2))
    ∷ Recovers
    ∷ cancelled message

abbrev pub cancel_record : Past
cancel_record = recovered complete_query

-- ---- a command that has no response is asked for one, cancelled, and another ask is answered

abbrev pub command : List ℕ
command = codes "CONF 3"

abbrev pub unanswered_record : Past
unanswered_record =
    Settled 2 outcome.Complete
    ∷ answer 10 16 (piece_header 4 0xfb 4 0 1 ++ codes "132" ++ 10 ∷ [])
    ∷ Wrote 10 (Of 2) Read
    ∷ answer 9 12 []
    ∷ Wrote 9 (Of 2) (Request 4 200)
    ∷ answer 8 20 []
    ∷ Wrote 8 (Of 2) (Part 3 events true)
    ∷ Asked 2 (query 0 200 events)
    ∷ recovered command

-- ---- a message is taken back in the midst of its one transfer

abbrev pub long_query : List ℕ
long_query = complete_query ++ replicate 1019 0x20

abbrev pub aborted_record : Past
aborted_record =
    Settled 2 outcome.Complete
    ∷ answer 8 16 (complete_text 3 0xfc)
    ∷ Wrote 8 (Of 2) Read
    ∷ answer 7 12 []
    ∷ Wrote 7 (Of 2) (Request 3 200)
    ∷ answer 6 20 []
    ∷ Wrote 6 (Of 2) (Part 2 complete_query true)
    ∷ Asked 2 (query 0 200 complete_query)
    ∷ answer 5 0 []
    ∷ Wrote 5 Recovery (ClearHalt BulkOut)
    ∷ answer 4 8 (1 ∷ 0 ∷ 0 ∷ 0 ∷ 0 ∷ 0 ∷ 0 ∷ 0 ∷ [])
    ∷ Wrote 4 Recovery (Class class.CheckOut)
    ∷ answer 3 2 (1 ∷ 1 ∷ [])
    ∷ Wrote 3 Recovery (Class (class.AbortOut 1))
    ∷ Recovers
    ∷ Settled 1 outcome.Cancelled
    ∷ unlink_answer 2 unlinked
    ∷ Wrote 2 (Of 1) (Unlink 1)
    ∷ Cancelled 1
    ∷ Wrote 1 (Of 1) (Part 1 long_query true)
    ∷ Asked 1 (query 0 200 long_query)
    ∷ []

-- ---- a message of three transfers is taken back behind the first: the device knows no transfer, and is cleared

abbrev pub split_query : List ℕ
split_query = complete_query ++ replicate 2495 0x20

abbrev pub first_part : List ℕ
first_part = complete_query ++ replicate 1019 0x20

abbrev pub second_part : List ℕ
second_part = replicate 1024 0x20

abbrev pub split_record : Past
split_record =
    Settled 2 outcome.Complete
    ∷ answer 10 16 (complete_text 4 0xfb)
    ∷ Wrote 10 (Of 2) Read
    ∷ answer 9 12 []
    ∷ Wrote 9 (Of 2) (Request 4 200)
    ∷ answer 8 20 []
    ∷ Wrote 8 (Of 2) (Part 3 complete_query true)
    ∷ Asked 2 (query 1 200 complete_query)
    ∷ answer 7 0 []
    ∷ Wrote 7 Recovery (ClearHalt BulkOut)
    ∷ answer 6 2 (1 ∷ 0 ∷ [])
    ∷ Wrote 6 Recovery (Class class.CheckClear)
    ∷ answer 5 1 (1 ∷ [])
    ∷ Wrote 5 Recovery (Class class.Clear)
    ∷ answer 4 2 (0x80 ∷ 0 ∷ [])
    ∷ Wrote 4 Recovery (Class (class.AbortOut 2))
    ∷ Recovers
    ∷ Settled 1 outcome.Cancelled
    ∷ unlink_answer 3 unlinked
    ∷ Wrote 3 (Of 1) (Unlink 2)
    ∷ Cancelled 1
    ∷ Wrote 2 (Of 1) (Part 2 second_part false)
    ∷ answer 1 1036 []
    ∷ Wrote 1 (Of 1) (Part 1 first_part false)
    ∷ Asked 1 (query 0 200 split_query)
    ∷ []
