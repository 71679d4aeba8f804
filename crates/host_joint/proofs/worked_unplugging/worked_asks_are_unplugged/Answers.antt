use Rattle.std.proofs.Common.{[], ◌∷◌, refl}
use Rattle.tmc_law.specs.State.{State, Unplugged, arrived}
use Rattle.tmc_law.specs.Step.{Unplug, Steps}
use Rattle.tmc_law.specs.WorkedSession.{in_submit}
use Rattle.host_joint.specs.WorkedPieces.{first_data, requested_second, next_job, asked_with}
use Rattle.host_joint.specs.WorkedRecoveries.{halted_inside}
use Rattle.host_joint.proofs.worked_unplugging.worked_asks_are_unplugged.Goals as goal

abbrev gone : State
gone = record halted_inside { presence = Unplugged }

unplugs_halted : Steps halted_inside Unplug [] gone
unplugs_halted = record { plugged = refl; leads = record { answered = refl; is = refl } }

pub returns-clause-answered : goal.returns-clause-answered
returns-clause-answered c puts t step =
    let over = c.unplugging_is_the_end.ensures.answered (record requested_second { bulk_in = arrived (in_submit 6 4096) [] ∷ [] }) t puts step in
    (over.0, over.1)

pub returns-clause-halted : goal.returns-clause-halted
returns-clause-halted c puts t step =
    let over = c.unplugging_is_the_end.ensures.answered halted_inside t puts step in
    (over.0, over.1)

pub returns-clause-asked : goal.returns-clause-asked
returns-clause-asked c =
    let was = c.unplugged_asks_were_in_hand.ensures (asked_with 4 (next_job ∷ []) 1 first_data) halted_inside gone [] [] [] unplugs_halted c.worked_halts_are_asked.ensures.taken.0 in
    (was, c.what_is_read_is_owned.ensures.unplugged (asked_with 4 (next_job ∷ []) 1 first_data) [] [] gone was)

pub returns-clause-last : goal.returns-clause-last
returns-clause-last c move puts t step = c.unplugging_is_the_end.ensures.last halted_inside gone t [] puts move unplugs_halted step
