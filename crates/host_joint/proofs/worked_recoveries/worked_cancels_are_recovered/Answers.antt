use Rattle.std.proofs.Common.{true, [], ◌∷◌, ◌++◌, None, refl}
use Rattle.usbip_wire.specs.Up as up
use Rattle.tmc_law.specs.WorkedParts.{spaced}
use Rattle.tmc_law.specs.WorkedSession.{in_submit, unlink}
use Rattle.host_joint.specs.Hand.{WritesRead}
use Rattle.host_joint.specs.WorkedPieces.{first_data, reading_second, requested_second}
use Rattle.host_joint.specs.WorkedRecoveries.{usable_again, cancelling_second, cancelled_inside, aborting_second, draining, checking_second}
use Rattle.host_joint.proofs.Stopping.{wants_packet, gave_packet, cancels_second, aborts_second, drains, checks_second}
use Rattle.host_joint.proofs.Restoring.{BondLaws, cancelled, recovered}
use Rattle.host_joint.proofs.worked_recoveries.worked_cancels_are_recovered.Goals as goal

pub returns-clause-runs : goal.returns-clause-runs
returns-clause-runs c =
    let join = c.runs_join.ensures.together in
    join cancelling_second (aborting_second ++ (draining ++ checking_second)) requested_second cancelled_inside usable_again cancels_second
    (join aborting_second (draining ++ checking_second) cancelled_inside wants_packet usable_again aborts_second
    (join draining checking_second wants_packet gave_packet usable_again drains checks_second))

pub returns-clause-cancels : goal.returns-clause-cancels
returns-clause-cancels c =
    c.cancels_begin.ensures.unlink 2 spaced 4 4000 first_data [] (in_submit 6 4096) (unlink 7 6) 7 (up.Submit (in_submit 6 4096) [] ∷ []) [] requested_second refl refl
    (c.writes_keep_ties.ensures reading_second reading_second (in_submit 6 4096) [] 6 [] [] requested_second
    (WritesRead 2 4 4000 spaced first_data [] refl (record { number = refl; way = refl; size = refl }) refl refl) refl c.worked_pieces_are_read.ensures.again.1)

pub returns-clause-cancelled : goal.returns-clause-cancelled
returns-clause-cancelled c =
    let laws : BondLaws = record {
      stays = c.bonds_stay.ensures.bound;
      submit = c.cancelled_answers_are_taken.ensures.submit;
      unlinked = c.cancelled_answers_are_taken.ensures.unlink;
      writes = c.recoveries_go_on.ensures.writes;
      answer = c.recoveries_go_on.ensures.answer;
      drains = c.recoveries_go_on.ensures.drains;
      drained = c.recoveries_go_on.ensures.drained;
    } in
    let bound = cancelled laws (returns-clause-cancels c) in
    (bound, c.cancelled_asks_own.ensures.reading 2 spaced 4 4000 first_data [] true None [] 8 [] [] cancelled_inside bound)

pub returns-clause-aborts : goal.returns-clause-aborts
returns-clause-aborts c = c.cancels_begin.ensures.to_in 2 spaced 4 4000 first_data [] 8 [] [] cancelled_inside (returns-clause-cancelled c).0

pub returns-clause-recovered : goal.returns-clause-recovered
returns-clause-recovered c =
    let laws : BondLaws = record {
      stays = c.bonds_stay.ensures.bound;
      submit = c.cancelled_answers_are_taken.ensures.submit;
      unlinked = c.cancelled_answers_are_taken.ensures.unlink;
      writes = c.recoveries_go_on.ensures.writes;
      answer = c.recoveries_go_on.ensures.answer;
      drains = c.recoveries_go_on.ensures.drains;
      drained = c.recoveries_go_on.ensures.drained;
    } in
    c.recoveries_end.ensures.rest 11 [] [] usable_again refl refl (recovered laws (returns-clause-aborts c))
