use Rattle.std.proofs.Common.{◌≢◌, [], ◌∷◌, ◌++◌, refl, arith}
use Rattle.usbip_wire.specs.Up as up
use Rattle.tmc_law.specs.Endpoint.{Control, BulkOut, BulkIn}
use Rattle.tmc_law.specs.State.{State, start, arrived}
use Rattle.tmc_law.specs.Put.{success, stalled}
use Rattle.tmc_law.specs.Halts.{DoesHalt}
use Rattle.tmc_law.specs.Run.{Runs}
use Rattle.tmc_law.specs.WorkedQuery.{query_submit, request_submit, response_submit, query_text, request_text}
use Rattle.tmc_law.specs.WorkedParts.{sending_parts}
use Rattle.tmc_law.specs.WorkedSession.{in_submit, answered}
use Rattle.host_joint.specs.WorkedAsks.{query_ask}
use Rattle.host_joint.specs.WorkedAhead.{closing_ahead, halting_reads, halted_before}
use Rattle.host_joint.specs.WorkedPieces.{first_data, requesting_first, giving_first, requesting_second, requested_second, next_job, asked_with}
use Rattle.host_joint.specs.WorkedTies.{closed_before}
use Rattle.host_joint.proofs.Coming.{comes}
use Rattle.host_joint.proofs.worked_ahead.worked_answers_go_on.Goals as goal

out_halts : BulkOut ≢ Control
out_halts e = cc

in_halts : BulkIn ≢ Control
in_halts e = cc

abbrev one_came : State
one_came = record start { bulk_out = arrived query_submit query_text ∷ [] }

abbrev both_came : State
both_came = record start { bulk_out = arrived query_submit query_text ∷ arrived request_submit request_text ∷ [] }

closes : Runs start closing_ahead closed_before
closes = (
  one_came,
  comes start query_submit query_text BulkOut (record { plugged = refl; wide = refl; eight = refl; setup = refl; carried = refl; bytes = refl; free = refl; few = refl }) (record { number = refl; way = refl; usable = refl }),
  (
    both_came,
    comes one_came request_submit request_text BulkOut (record { plugged = refl; wide = refl; eight = refl; setup = refl; carried = refl; bytes = refl; free = refl; few = refl }) (record { number = refl; way = refl; usable = refl }),
    (closed_before, record { plugged = refl; leads = DoesHalt out_halts refl refl refl }, refl),
  ),
)

pub returns-clause-outs : goal.returns-clause-outs
returns-clause-outs c =
    let asks = c.asking_stays.ensures.run [] closing_ahead query_ask start closed_before (up.Submit response_submit [] ∷ []) [] refl closes
    (record { endpoint = BulkOut; number = refl; way = refl }, (record { endpoint = BulkOut; number = refl; way = refl }, (record { endpoint = BulkIn; number = refl; way = refl }, tt))) refl ((λ e. cc), ((λ e. cc), ((λ e. cc), tt)))
    c.worked_asks_are_written_ahead.ensures.written in
    c.answers_go_on.ensures.outs query_ask (up.Submit response_submit [] ∷ []) query_submit (record { seqnum = 1; status = stalled; actual = 0 }) [] (answered request_submit stalled 0 [] ∷ []) closed_before refl refl asks

abbrev read_came : State
read_came = record requested_second { bulk_in = arrived (in_submit 6 4096) [] ∷ [] }

abbrev reads_came : State
reads_came = record requested_second { bulk_in = arrived (in_submit 6 4096) [] ∷ arrived (in_submit 7 4096) [] ∷ [] }

halts : Runs requested_second halting_reads halted_before
halts = (
  read_came,
  comes requested_second (in_submit 6 4096) [] BulkIn (record { plugged = refl; wide = refl; eight = refl; setup = refl; carried = refl; bytes = refl; free = refl; few = refl }) (record { number = refl; way = refl; usable = refl }),
  (
    reads_came,
    comes read_came (in_submit 7 4096) [] BulkIn (record { plugged = refl; wide = refl; eight = refl; setup = refl; carried = refl; bytes = refl; free = refl; few = refl }) (record { number = refl; way = refl; usable = refl }),
    (halted_before, record { plugged = refl; leads = DoesHalt in_halts refl refl refl }, refl),
  ),
)

pub returns-clause-ins : goal.returns-clause-ins
returns-clause-ins c =
    let one = c.messages_are_written.ensures.one_read (asked_with 4 (next_job ∷ []) 1 first_data) [] [] requested_second (in_submit 6 4096) (record { number = refl; way = refl; size = refl }) refl c.worked_pieces_are_asked.ensures.again in
    let both = c.messages_are_written.ensures.one_read (asked_with 4 (next_job ∷ []) 1 first_data) (up.Submit (in_submit 6 4096) [] ∷ []) [] requested_second (in_submit 7 4096) (record { number = refl; way = refl; size = refl }) refl one in
    let asks = c.asking_stays.ensures.run (sending_parts ++ (requesting_first ++ (giving_first ++ requesting_second))) halting_reads (asked_with 4 (next_job ∷ []) 1 first_data) requested_second halted_before [] []
    c.worked_pieces_are_read.ensures.reached halts (record { endpoint = BulkIn; number = refl; way = refl }, (record { endpoint = BulkIn; number = refl; way = refl }, tt)) refl ((λ e. cc), ((λ e. cc), ((λ e. cc), tt))) both in
    c.answers_go_on.ensures.ins (asked_with 4 (next_job ∷ []) 1 first_data) [] (in_submit 6 4096) (record { seqnum = 6; status = stalled; actual = 0 }) [] (answered (in_submit 7 4096) stalled 0 [] ∷ []) halted_before refl refl asks

pub returns-clause-empty : goal.returns-clause-empty
returns-clause-empty c ups downs s asks =
    omega (arith, c.answers_go_on.ensures.first (asked_with 4 (next_job ∷ []) 1 first_data) ups (in_submit 6 4096) (record { seqnum = 6; status = success; actual = 0 }) [] downs s refl refl refl asks)
