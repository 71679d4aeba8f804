use Rattle.std.proofs.Common.{true, [], ◌∷◌, ◌++◌, None, refl}
use Rattle.usbip_wire.specs.Up as up
use Rattle.tmc_law.specs.WorkedParts.{spaced}
use Rattle.tmc_law.specs.WorkedSession.{in_submit}
use Rattle.host_joint.specs.Hand.{WritesRead}
use Rattle.host_joint.specs.WorkedPieces.{first_data, reading_second, requested_second}
use Rattle.host_joint.specs.WorkedRecoveries.{reading_rest, halting_second, halted_inside, aborting_none, freeing, usable_again, clearing_halted, checking_clear, freeing_out, freeing_in, cleared_at_last}
use Rattle.host_joint.proofs.Stopping.{halts_second, aborts_none, frees, clears_second, cleared_second, freed_out, clears_halted, checks_clear, frees_out, frees_in}
use Rattle.host_joint.proofs.Restoring.{BondLaws, halted, aborted, freed, cleared}
use Rattle.host_joint.proofs.worked_recoveries.worked_halts_are_recovered.Goals as goal

pub returns-clause-runs : goal.returns-clause-runs
returns-clause-runs c =
    c.runs_join.ensures.together halting_second (aborting_none ++ freeing) requested_second halted_inside usable_again halts_second
    (c.runs_join.ensures.together aborting_none freeing halted_inside halted_inside usable_again aborts_none frees)

pub returns-clause-reading : goal.returns-clause-reading
returns-clause-reading c =
    c.cancels_begin.ensures.read 2 spaced 4 4000 first_data [] (in_submit 6 4096) 7 (up.Submit (in_submit 6 4096) [] ∷ []) [] requested_second
    (c.writes_keep_ties.ensures reading_second reading_second (in_submit 6 4096) [] 6 [] [] requested_second
    (WritesRead 2 4 4000 spaced first_data [] refl (record { number = refl; way = refl; size = refl }) refl refl) refl c.worked_pieces_are_read.ensures.again.1)

pub returns-clause-halted : goal.returns-clause-halted
returns-clause-halted c =
    let laws : BondLaws = record {
      stays = c.bonds_stay.ensures.bound;
      submit = c.cancelled_answers_are_taken.ensures.submit;
      unlinked = c.cancelled_answers_are_taken.ensures.unlink;
      writes = c.recoveries_go_on.ensures.writes;
      answer = c.recoveries_go_on.ensures.answer;
      drains = c.recoveries_go_on.ensures.drains;
      drained = c.recoveries_go_on.ensures.drained;
    } in
    let bound = halted laws (returns-clause-reading c) in
    (bound, c.cancelled_asks_own.ensures.reading 2 spaced 4 4000 first_data [] true None [] 7 [] [] halted_inside bound)

pub returns-clause-aborted : goal.returns-clause-aborted
returns-clause-aborted c =
    let laws : BondLaws = record {
      stays = c.bonds_stay.ensures.bound;
      submit = c.cancelled_answers_are_taken.ensures.submit;
      unlinked = c.cancelled_answers_are_taken.ensures.unlink;
      writes = c.recoveries_go_on.ensures.writes;
      answer = c.recoveries_go_on.ensures.answer;
      drains = c.recoveries_go_on.ensures.drains;
      drained = c.recoveries_go_on.ensures.drained;
    } in
    let stands = c.cancels_begin.ensures.to_in 2 spaced 4 4000 first_data [] 7 [] [] halted_inside (returns-clause-halted c).0 in
    (stands, aborted laws stands)

pub returns-clause-usable : goal.returns-clause-usable
returns-clause-usable c =
    let laws : BondLaws = record {
      stays = c.bonds_stay.ensures.bound;
      submit = c.cancelled_answers_are_taken.ensures.submit;
      unlinked = c.cancelled_answers_are_taken.ensures.unlink;
      writes = c.recoveries_go_on.ensures.writes;
      answer = c.recoveries_go_on.ensures.answer;
      drains = c.recoveries_go_on.ensures.drains;
      drained = c.recoveries_go_on.ensures.drained;
    } in
    c.recoveries_end.ensures.rest 9 [] [] usable_again refl refl (freed laws (returns-clause-aborted c).1)

pub returns-clause-cleared : goal.returns-clause-cleared
returns-clause-cleared c =
    let laws : BondLaws = record {
      stays = c.bonds_stay.ensures.bound;
      submit = c.cancelled_answers_are_taken.ensures.submit;
      unlinked = c.cancelled_answers_are_taken.ensures.unlink;
      writes = c.recoveries_go_on.ensures.writes;
      answer = c.recoveries_go_on.ensures.answer;
      drains = c.recoveries_go_on.ensures.drains;
      drained = c.recoveries_go_on.ensures.drained;
    } in
    let join = c.runs_join.ensures.together in (
      join clearing_halted (checking_clear ++ (freeing_out ++ freeing_in)) halted_inside clears_second cleared_at_last clears_halted
          (join checking_clear (freeing_out ++ freeing_in) clears_second cleared_second cleared_at_last checks_clear
          (join freeing_out freeing_in cleared_second freed_out cleared_at_last frees_out frees_in)),
      c.recoveries_end.ensures.cleared 11 [] [] cleared_at_last refl refl
          (cleared laws (c.cancels_begin.ensures.to_clear reading_rest 7 [] [] halted_inside (returns-clause-halted c).0)),
    )

pub returns-clause-waiting : goal.returns-clause-waiting
returns-clause-waiting c waits unlinks next ups downs bound = let runs = bound.bond.held.running.1 in absurd (cc)
