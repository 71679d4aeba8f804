use Rattle.std.proofs.Common.{Some, [], refl, lit<}
use Rattle.tmc_law.specs.WorkedParts.{spaced, sending_parts}
use Rattle.tmc_law.specs.WorkedSession.{devid, in_submit}
use Rattle.host_joint.specs.Bond.{Requests, AbortsIn}
use Rattle.host_joint.specs.Hand.{WritesRead}
use Rattle.host_joint.specs.WorkedPieces.{requested_first, requested_second, giving_first, behind_first, reading_first, reading_second}
use Rattle.host_joint.specs.WorkedRecoveries.{abort_submit, cancelled_inside}
use Rattle.host_joint.specs.WorkedTies.{told_to}
use Rattle.host_joint.proofs.Serving.{gives_first}
use Rattle.host_joint.proofs.worked_steps.worked_messages_stay.Goals as goal

pub returns-clause-rest : goal.returns-clause-rest
returns-clause-rest c = c.ties_begin.ensures.rest sending_parts 3 told_to c.a_message_comes_in_parts.ensures c.worked_asks_hand_over.ensures.message refl refl refl refl (tt, tt) (lit< tt, tt)

pub returns-clause-ran : goal.returns-clause-ran
returns-clause-ran c response ran =
    let wrote = c.writes_keep_ties.ensures reading_first reading_first (in_submit 4 4096) [] 4 [] [] requested_first (WritesRead 2 3 4000 spaced [] [] refl (record { number = refl; way = refl; size = refl }) refl refl) refl
    c.worked_pieces_are_read.ensures.requested.1 in
    c.ties_stay.ensures.ran giving_first reading_first (Some (in_submit 4 4096)) 5 2 spaced response [] [] requested_first behind_first gives_first wrote ran

pub returns-clause-told : goal.returns-clause-told
returns-clause-told c text response more t spelled tells front ran =
    c.joints_stay.ensures.ran devid reading_second (Some (in_submit 6 4096)) 7 2 spaced response text [] [] more requested_second t tells front (c.worked_pieces_are_joined.ensures.reads text spelled) ran

pub returns-clause-aborted : goal.returns-clause-aborted
returns-clause-aborted c text response more t spelled tells front ran =
    c.joints_stay.ensures.ran_joined devid (Requests (abort_submit 8) (AbortsIn 4)) (Some (abort_submit 8)) [] 9 2 spaced response text [] [] more cancelled_inside t tells front (c.worked_recoveries_are_joined.ensures.aborts text spelled).0 ran
