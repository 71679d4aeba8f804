use Rattle.std.proofs.Common.{◌≢◌, Some, [], ◌∷◌, ◌++◌, refl}
use Rattle.usbip_wire.specs.Up as up
use Rattle.tmc_law.specs.Endpoint.{Control, InterruptIn}
use Rattle.tmc_law.specs.State.{start}
use Rattle.tmc_law.specs.Put.{stalled}
use Rattle.tmc_law.specs.Halts.{DoesHalt}
use Rattle.tmc_law.specs.Step.{Steps, Comes, Halt}
use Rattle.tmc_law.specs.WorkedParts.{sending_parts, spaced}
use Rattle.tmc_law.specs.WorkedSession.{in_submit, notify_submit, step, answered}
use Rattle.host_joint.specs.WorkedNotices.{notice_came, deaf}
use Rattle.host_joint.specs.WorkedPieces.{first_data, behind_first, requested_first, requested_second, requesting_first, giving_first, asked_with}
use Rattle.host_joint.specs.WorkedRecoveries.{reading_rest, halting_second, halted_inside}
use Rattle.host_joint.specs.WorkedTies.{told_to}
use Rattle.host_joint.proofs.Coming.{comes}
use Rattle.host_joint.proofs.Serving.{requests_first, gives_first}
use Rattle.host_joint.proofs.Stopping.{halts_second}
use Rattle.host_joint.proofs.worked_notices.worked_notices_leave_asks.Goals as goal

pub returns-clause-written : goal.returns-clause-written
returns-clause-written c = c.messages_are_written.ensures.interrupt (asked_with 4 [] 0 first_data) [] [] behind_first (notify_submit 5 2) refl c.worked_pieces_are_asked.ensures.between.0

notice_comes : Steps behind_first (Comes (up.Submit (notify_submit 5 2) [])) [] notice_came
notice_comes =
    comes behind_first (notify_submit 5 2) [] InterruptIn (record { plugged = refl; wide = refl; eight = refl; setup = refl; carried = refl; bytes = refl; free = refl; few = refl }) (record { number = refl; way = refl; usable = refl })

pub returns-clause-came : goal.returns-clause-came
returns-clause-came c =
    let join = c.runs_join.ensures.together in
    let reached = join sending_parts (requesting_first ++ giving_first) start told_to behind_first c.a_message_comes_in_parts.ensures
    (join requesting_first giving_first told_to requested_first behind_first (requests_first c.headers_are_read_again.ensures.out_one) gives_first) in
    c.asking_stays.ensures.step (sending_parts ++ (requesting_first ++ giving_first)) (asked_with 4 [] 0 first_data) behind_first notice_came (Comes (up.Submit (notify_submit 5 2) [])) [] [] [] reached notice_comes
    (record { endpoint = InterruptIn; number = refl; way = refl }, tt) tt (returns-clause-written c)

halts_it : InterruptIn ≢ Control
halts_it e = cc

notice_halts : Steps notice_came (Halt InterruptIn) (answered (notify_submit 5 2) stalled 0 [] ∷ []) deaf
notice_halts = record { plugged = refl; leads = DoesHalt halts_it refl refl refl }

pub returns-clause-halted : goal.returns-clause-halted
returns-clause-halted c =
    let join = c.runs_join.ensures.together in
    let reached = join sending_parts (requesting_first ++ giving_first) start told_to behind_first c.a_message_comes_in_parts.ensures
    (join requesting_first giving_first told_to requested_first behind_first (requests_first c.headers_are_read_again.ensures.out_one) gives_first) in
    let more = join (sending_parts ++ (requesting_first ++ giving_first)) (step (Comes (up.Submit (notify_submit 5 2) [])) [] ∷ []) start behind_first notice_came reached (notice_came, notice_comes, refl) in
    c.asking_stays.ensures.step ((sending_parts ++ (requesting_first ++ giving_first)) ++ step (Comes (up.Submit (notify_submit 5 2) [])) [] ∷ []) (asked_with 4 [] 0 first_data) notice_came deaf (Halt InterruptIn) [] []
    (answered (notify_submit 5 2) stalled 0 [] ∷ []) more notice_halts tt tt (returns-clause-came c)

pub returns-clause-taken : goal.returns-clause-taken
returns-clause-taken c =
    c.answers_are_taken.ensures.interrupts (asked_with 4 [] 0 first_data) [] (notify_submit 5 2) (record { seqnum = 5; status = stalled; actual = 0 }) [] [] deaf refl (returns-clause-halted c)

pub returns-clause-kept : goal.returns-clause-kept
returns-clause-kept c =
    let ran = c.worked_pieces_are_read.ensures.paused.2 in (
      ran.0,
      c.bonds_stay.ensures.ran reading_rest halting_second (Some (in_submit 6 4096)) [] 7 2 spaced ran.0 [] [] requested_second halted_inside halts_second c.worked_halts_are_recovered.ensures.reading ran.1,
    )
