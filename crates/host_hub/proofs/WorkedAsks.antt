-- asks that are answered, and ends of the hub
use Rattle.std.specs.Prelude.{ℕ, pos, neg_ℤ, true, List, codes}
use Rattle.std.proofs.Common.{lit≤, ◌≢◌, [], ◌∷◌, ◌++◌, refl}
use Rattle.usbip_wire.specs.Down as down
use Rattle.usbip_wire.specs.declared.ret_submit.RetSubmitHead.{RetSubmitHead}
use Rattle.host_hub.specs.declared.outcome.End.TheVariants as end
use Rattle.host_hub.specs.declared.outcome.Outcome.TheVariants as outcome
use Rattle.host_hub.specs.Order.{Part, Read, Request}
use Rattle.host_hub.specs.Record.{Asking, Past, Of, Settled}
use Rattle.host_hub.specs.Law.{ByItself, Kept}
use Rattle.host_hub.specs.Steps.{Comes, asked, took, wrote}
use Rattle.host_hub.specs.Worked.{setting, success, query, telling, piece_header, identify, identity_text, query_record, read_values, values, values_text, full_record, events, limited_record, complete_query, unplugged_record, halted_record, dropped_record}
use Rattle.host_hub.proofs.Cancelling.{waiting_cancelled}
use Rattle.host_hub.proofs.Endings.{fell_kept, stopped_kept}
use Rattle.host_hub.proofs.Entries.{submit_answer}
use Rattle.host_hub.proofs.Rows.{asks, goes, idles, queues, settles, start}
use Rattle.host_hub.proofs.Stepping.{settles_lawful, settles_settled}

abbrev pub head : (seqnum actual : ℕ) → RetSubmitHead
head seqnum actual = record { seqnum = seqnum; status = success; actual = actual }

-- ---- a query

abbrev query_asking : Asking
query_asking = query 0 4000 identify

abbrev query1 : Past
query1 = wrote setting (asked [] query_asking) 1 (Part 1 identify true)

query1_kept : Kept setting query1
query1_kept = asks start 1 query_asking (Part 1 identify true) refl refl refl refl refl (refl, refl) (refl, refl) refl refl (lit≤ tt) (lit≤ tt)

abbrev query2 : Past
query2 = wrote setting (took query1 (head 1 20) []) 1 (Request 2 4000)

query2_kept : Kept setting query2
query2_kept =
    goes query1_kept
    (record { running = refl; turn = refl; found = refl; plain = refl; submits = refl; within = lit≤ tt; returned = refl; good = refl; free = refl })
    query_asking (Request 2 4000) refl (refl, refl) refl refl refl refl refl (lit≤ tt) (lit≤ tt)

abbrev query3 : Past
query3 = wrote setting (took query2 (head 2 12) []) 1 (Read)

query3_kept : Kept setting query3
query3_kept =
    goes query2_kept
    (record { running = refl; turn = refl; found = refl; plain = refl; submits = refl; within = lit≤ tt; returned = refl; good = refl; free = refl })
    query_asking (Read) refl (refl, refl) refl refl refl refl refl (lit≤ tt) (lit≤ tt)

pub query_kept : Kept setting query_record
query_kept =
    idles (settles query3_kept (head 3 32) identity_text
    (record { running = refl; turn = refl; found = refl; plain = refl; submits = refl; within = lit≤ tt; returned = refl; good = refl; free = refl })
    (outcome.Complete) refl)
    refl (refl, refl)

-- ---- a response that fills its first read

abbrev full_asking : Asking
full_asking = query 0 5000 read_values

abbrev full1 : Past
full1 = wrote setting (asked [] full_asking) 1 (Part 1 read_values true)

full1_kept : Kept setting full1
full1_kept = asks start 1 full_asking (Part 1 read_values true) refl refl refl refl refl (refl, refl) (refl, refl) refl refl (lit≤ tt) (lit≤ tt)

abbrev full2 : Past
full2 = wrote setting (took full1 (head 1 24) []) 1 (Request 2 5000)

full2_kept : Kept setting full2
full2_kept =
    goes full1_kept
    (record { running = refl; turn = refl; found = refl; plain = refl; submits = refl; within = lit≤ tt; returned = refl; good = refl; free = refl })
    full_asking (Request 2 5000) refl (refl, refl) refl refl refl refl refl (lit≤ tt) (lit≤ tt)

abbrev full3 : Past
full3 = wrote setting (took full2 (head 2 12) []) 1 (Read)

full3_kept : Kept setting full3
full3_kept =
    goes full2_kept
    (record { running = refl; turn = refl; found = refl; plain = refl; submits = refl; within = lit≤ tt; returned = refl; good = refl; free = refl })
    full_asking (Read) refl (refl, refl) refl refl refl refl refl (lit≤ tt) (lit≤ tt)

abbrev full4 : Past
full4 = wrote setting (took full3 (head 3 4096) values_text) 1 (Read)

full4_kept : Kept setting full4
full4_kept =
    goes {bytes = values_text} full3_kept
    (record { running = refl; turn = refl; found = refl; plain = refl; submits = refl; within = lit≤ tt; returned = refl; good = refl; free = refl })
    full_asking (Read) refl (refl, refl) refl refl refl refl refl (lit≤ tt) (lit≤ tt)

pub full_kept : Kept setting full_record
full_kept =
    idles (settles full4_kept (head 4 0) []
    (record { running = refl; turn = refl; found = refl; plain = refl; submits = refl; within = lit≤ tt; returned = refl; good = refl; free = refl })
    (outcome.Complete) refl)
    refl (refl, refl)

-- ---- a response that is longer than its limit, and the next ask

abbrev limited_asking : Asking
limited_asking = query 0 18 identify

abbrev limited_text : List ℕ
limited_text = piece_header 2 0xfd 18 0 0 ++ codes "EXAMPLE,TMC1,0,1.0" ++ 0x00 ∷ 0x00 ∷ []

abbrev limited1 : Past
limited1 = wrote setting (asked [] limited_asking) 1 (Part 1 identify true)

limited1_kept : Kept setting limited1
limited1_kept = asks start 1 limited_asking (Part 1 identify true) refl refl refl refl refl (refl, refl) (refl, refl) refl refl (lit≤ tt) (lit≤ tt)

abbrev limited2 : Past
limited2 = wrote setting (took limited1 (head 1 20) []) 1 (Request 2 18)

limited2_kept : Kept setting limited2
limited2_kept =
    goes limited1_kept
    (record { running = refl; turn = refl; found = refl; plain = refl; submits = refl; within = lit≤ tt; returned = refl; good = refl; free = refl })
    limited_asking (Request 2 18) refl (refl, refl) refl refl refl refl refl (lit≤ tt) (lit≤ tt)

abbrev limited3 : Past
limited3 = wrote setting (took limited2 (head 2 12) []) 1 (Read)

limited3_kept : Kept setting limited3
limited3_kept =
    goes limited2_kept
    (record { running = refl; turn = refl; found = refl; plain = refl; submits = refl; within = lit≤ tt; returned = refl; good = refl; free = refl })
    limited_asking (Read) refl (refl, refl) refl refl refl refl refl (lit≤ tt) (lit≤ tt)

abbrev limited : Past
limited = Settled 1 outcome.Limit ∷ took limited3 (head 3 32) limited_text

limited_kept : Kept setting limited
limited_kept =
    idles (settles limited3_kept (head 3 32) limited_text
    (record { running = refl; turn = refl; found = refl; plain = refl; submits = refl; within = lit≤ tt; returned = refl; good = refl; free = refl })
    (outcome.Limit) refl)
    refl (refl, refl)

abbrev events_asking : Asking
events_asking = query 0 200 events

abbrev events1 : Past
events1 = wrote setting (asked limited events_asking) 2 (Part 3 events true)

events1_kept : Kept setting events1
events1_kept = asks limited_kept 2 events_asking (Part 3 events true) refl refl refl refl refl (refl, refl) (refl, refl) refl refl (lit≤ tt) (lit≤ tt)

abbrev events2 : Past
events2 = wrote setting (took events1 (head 4 20) []) 2 (Request 4 200)

events2_kept : Kept setting events2
events2_kept =
    goes events1_kept
    (record { running = refl; turn = refl; found = refl; plain = refl; submits = refl; within = lit≤ tt; returned = refl; good = refl; free = refl })
    events_asking (Request 4 200) refl (refl, refl) refl refl refl refl refl (lit≤ tt) (lit≤ tt)

abbrev events3 : Past
events3 = wrote setting (took events2 (head 5 12) []) 2 (Read)

events3_kept : Kept setting events3
events3_kept =
    goes events2_kept
    (record { running = refl; turn = refl; found = refl; plain = refl; submits = refl; within = lit≤ tt; returned = refl; good = refl; free = refl })
    events_asking (Read) refl (refl, refl) refl refl refl refl refl (lit≤ tt) (lit≤ tt)

pub next_kept : Kept setting limited_record
next_kept =
    idles (settles events3_kept (head 6 16) (piece_header 4 0xfb 4 0 1 ++ codes "132" ++ 10 ∷ [])
    (record { running = refl; turn = refl; found = refl; plain = refl; submits = refl; within = lit≤ tt; returned = refl; good = refl; free = refl })
    (outcome.Complete) refl)
    refl (refl, refl)

-- ---- the device is unplugged

some : {A : Type 0} {x : A} {xs : List A} → x ∷ xs ≢ []
some e = cc

abbrev first_asking : Asking
first_asking = query 0 200 complete_query

abbrev plugged1 : Past
plugged1 = wrote setting (asked [] first_asking) 1 (Part 1 complete_query true)

plugged1_kept : Kept setting plugged1
plugged1_kept = asks start 1 first_asking (Part 1 complete_query true) refl refl refl refl refl (refl, refl) (refl, refl) refl refl (lit≤ tt) (lit≤ tt)

abbrev two : Past
two = asked plugged1 (query 1 200 complete_query)

two_kept : Kept setting two
two_kept = queues plugged1_kept (query 1 200 complete_query) refl 1 first_asking refl refl (refl, refl) some some

pub dropped_kept : Kept setting dropped_record
dropped_kept = waiting_cancelled setting two 2 two_kept refl refl refl

abbrev three : Past
three = asked two (telling 2 (codes "CONF 3"))

three_kept : Kept setting three
three_kept = queues two_kept (telling 2 (codes "CONF 3")) refl 1 first_asking refl refl (refl, refl) some some

abbrev gone : RetSubmitHead
gone = record { seqnum = 1; status = neg_ℤ (pos 108); actual = 0 }

pub unplugged_kept : Kept setting unplugged_record
unplugged_kept =
    fell_kept setting three (down.RetSubmit gone []) end.Unplugged three_kept refl
    (submit_answer setting three (record { number = 1; owner = Of 1; order = Part 1 complete_query true }) gone [] three_kept.lawful refl refl (lit≤ tt) refl) refl

-- ---- Bulk-IN halts

abbrev halted_asking : Asking
halted_asking = query 0 9000 (codes "READ? 5000")

abbrev halted_text : List ℕ
halted_text = piece_header 2 0xfd 0x8f 0x13 1 ++ values

abbrev stall : RetSubmitHead
stall = record { seqnum = 4; status = neg_ℤ (pos 32); actual = 0 }

abbrev halted1 : Past
halted1 = wrote setting (asked [] halted_asking) 1 (Part 1 (codes "READ? 5000") true)

halted1_kept : Kept setting halted1
halted1_kept = asks start 1 halted_asking (Part 1 (codes "READ? 5000") true) refl refl refl refl refl (refl, refl) (refl, refl) refl refl (lit≤ tt) (lit≤ tt)

abbrev halted2 : Past
halted2 = wrote setting (took halted1 (head 1 24) []) 1 (Request 2 9000)

halted2_kept : Kept setting halted2
halted2_kept =
    goes halted1_kept
    (record { running = refl; turn = refl; found = refl; plain = refl; submits = refl; within = lit≤ tt; returned = refl; good = refl; free = refl })
    halted_asking (Request 2 9000) refl (refl, refl) refl refl refl refl refl (lit≤ tt) (lit≤ tt)

abbrev halted3 : Past
halted3 = wrote setting (took halted2 (head 2 12) []) 1 (Read)

halted3_kept : Kept setting halted3
halted3_kept =
    goes halted2_kept
    (record { running = refl; turn = refl; found = refl; plain = refl; submits = refl; within = lit≤ tt; returned = refl; good = refl; free = refl })
    halted_asking (Read) refl (refl, refl) refl refl refl refl refl (lit≤ tt) (lit≤ tt)

abbrev halted4 : Past
halted4 = wrote setting (took halted3 (head 3 4096) halted_text) 1 (Read)

halted4_kept : Kept setting halted4
halted4_kept =
    goes {bytes = halted_text} halted3_kept
    (record { running = refl; turn = refl; found = refl; plain = refl; submits = refl; within = lit≤ tt; returned = refl; good = refl; free = refl })
    halted_asking (Read) refl (refl, refl) refl refl refl refl refl (lit≤ tt) (lit≤ tt)

halted_comes : Comes setting halted4 1 4 Read stall []
halted_comes = record {
  turn = refl;
  found = refl;
  plain = refl;
  may = submit_answer setting halted4 (record { number = 4; owner = Of 1; order = Read }) stall [] halted4_kept.lawful refl refl (lit≤ tt) refl;
  good = refl;
}

pub halted_kept : Kept setting halted_record
halted_kept =
    stopped_kept setting (Settled 1 (outcome.Halted 2) ∷ took halted4 stall []) (end.DeviceFault (neg_ℤ (pos 32)))
    (settles_lawful setting halted4 1 4 Read (outcome.Halted 2) stall [] halted4_kept refl halted_comes refl) refl
    (ByItself refl (settles_settled setting halted4 1 4 Read (outcome.Halted 2) stall [] halted4_kept halted_comes))
