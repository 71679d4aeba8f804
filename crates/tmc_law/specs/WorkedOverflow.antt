-- a submit that a packet fills, and one that has no room for the next packet
use Rattle.std.specs.Prelude.{List, [], ◌∷◌}
use Rattle.tmc_law.specs.Put.{success, stalled}
use Rattle.tmc_law.specs.Step.{Take, Exec, Begin, Fill}
use Rattle.tmc_law.specs.Run.{Entry}
use Rattle.tmc_law.specs.WorkedSession.{in_submit, submits, step, answered}
use Rattle.tmc_law.specs.WorkedQuery.{request_submit, request_text}
use Rattle.tmc_law.specs.WorkedRead.{read_submit, read_text, first_packet}

abbrev pub overflowing : List Entry
overflowing =
    submits read_submit read_text
    ∷ submits request_submit request_text
    ∷ submits (in_submit 3 64) []
    ∷ step (Take 1) (answered read_submit success 20 [] ∷ [])
    ∷ step Exec []
    ∷ step (Take 1) (answered request_submit success 12 [] ∷ [])
    ∷ step (Begin 65) []
    ∷ step (Fill 1) (answered (in_submit 3 64) success 64 first_packet ∷ [])
    -- the last packet has 16 bytes
    ∷ submits (in_submit 4 8) []
    ∷ step (Fill 1) (answered (in_submit 4 8) stalled 0 [] ∷ [])
    ∷ []
