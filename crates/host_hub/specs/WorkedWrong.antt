-- what the wrong records stand behind
use Rattle.std.specs.Prelude.{[], ◌∷◌}
use Rattle.tmc_wire.specs.declared.class_request.ClassRequest.TheVariants as class
use Rattle.host_hub.specs.declared.outcome.Outcome.TheVariants as outcome
use Rattle.host_hub.specs.Order.{Class, Listen, Unlink}
use Rattle.host_hub.specs.Record.{Asked, Cancelled, Of, Past, Settled, Wrote}
use Rattle.host_hub.specs.Worked.{answer, complete_query, query, unlink_answer}
use Rattle.host_hub.specs.WorkedStatus.{poll_asking}
use Rattle.host_hub.specs.WorkedStops.{complete_text, reading, unlinked, unlinking}

-- the response had been sent whole
abbrev pub raced : Past
raced = answer 3 16 (complete_text 2 0xfd) ∷ unlinking complete_query

-- the read was taken back
abbrev pub lost : Past
lost = unlink_answer 4 unlinked ∷ unlinking complete_query

-- another ticket waits behind one that was cancelled, whose response has yet to be aborted
abbrev pub unrecovered : Past
unrecovered =
    Settled 1 outcome.Cancelled
    ∷ unlink_answer 4 unlinked
    ∷ Wrote 4 (Of 1) (Unlink 3)
    ∷ Cancelled 1
    ∷ Asked 2 (query 0 200 complete_query)
    ∷ reading complete_query

-- a status read was cancelled behind its answer and before its packet: its tag is stale
abbrev pub stale_cancelled : Past
stale_cancelled =
    Settled 1 outcome.Cancelled
    ∷ unlink_answer 3 unlinked
    ∷ Wrote 3 (Of 1) (Unlink 1)
    ∷ Cancelled 1
    ∷ answer 2 3 (1 ∷ 2 ∷ 0x50 ∷ [])
    ∷ Wrote 2 (Of 1) (Class (class.ReadStatus 2))
    ∷ Wrote 1 (Of 1) Listen
    ∷ Asked 1 poll_asking
    ∷ []

-- the packet comes while the next one is active, whose answer has come
abbrev pub stale_packet : Past
stale_packet =
    answer 4 2 (0x82 ∷ 0x50 ∷ [])
    ∷ answer 5 3 (1 ∷ 3 ∷ 0x40 ∷ [])
    ∷ Wrote 5 (Of 2) (Class (class.ReadStatus 3))
    ∷ Wrote 4 (Of 2) Listen
    ∷ Asked 2 poll_asking
    ∷ stale_cancelled
