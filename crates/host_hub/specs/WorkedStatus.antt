-- a worked record: a tell that asks for service, and a status read whose packet comes before its answer
use Rattle.std.specs.Prelude.{true, List, [], ◌∷◌, codes, ℕ}
use Rattle.tmc_wire.specs.declared.class_request.ClassRequest.TheVariants as class
use Rattle.host_hub.specs.declared.kind.Kind.TheVariants as kind
use Rattle.host_hub.specs.declared.outcome.Outcome.TheVariants as outcome
use Rattle.host_hub.specs.Order.{Class, Listen, Part}
use Rattle.host_hub.specs.Record.{Asked, Asking, Of, Past, Settled, Wrote}
use Rattle.host_hub.specs.Worked.{answer, telling}

abbrev pub enabling : List ℕ
enabling = codes "*SRE 16;*IDN?"

abbrev pub poll_asking : Asking
poll_asking = record { session = 0; kind = kind.Status; limit = 0; message = [] }

abbrev pub told : Past
told = Settled 1 outcome.Done ∷ answer 1 28 [] ∷ Wrote 1 (Of 1) (Part 1 enabling true) ∷ Asked 1 (telling 0 enabling) ∷ []

-- a request for service came first, with its byte, and then the packet with the read's tag
abbrev pub status_record : Past
status_record =
    Settled 2 (outcome.Status 0x50)
    ∷ answer 3 3 (1 ∷ 2 ∷ 0x50 ∷ [])
    ∷ Wrote 5 (Of 2) Listen
    ∷ answer 4 2 (0x82 ∷ 0x50 ∷ [])
    ∷ Wrote 4 (Of 2) Listen
    ∷ answer 2 2 (0x81 ∷ 0x50 ∷ [])
    ∷ Wrote 3 (Of 2) (Class (class.ReadStatus 2))
    ∷ Wrote 2 (Of 2) Listen
    ∷ Asked 2 poll_asking
    ∷ told
