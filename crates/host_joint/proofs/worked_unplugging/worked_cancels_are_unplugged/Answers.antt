use Rattle.std.proofs.Common.{true, Some, None, [], ◌∷◌, inl, refl}
use Rattle.usbip_wire.specs.Up as up
use Rattle.tmc_law.specs.State.{State, Unplugged}
use Rattle.tmc_law.specs.Put.{Unlinked, unlinked}
use Rattle.tmc_law.specs.Run.{Runs}
use Rattle.tmc_law.specs.Step.{Unplug}
use Rattle.tmc_law.specs.WorkedParts.{spaced}
use Rattle.tmc_law.specs.WorkedSession.{in_submit, unlink, step}
use Rattle.host_joint.specs.Hand.{WritesRead}
use Rattle.host_joint.specs.WorkedPieces.{first_data, requested_second, reading_second}
use Rattle.host_joint.specs.WorkedRecoveries.{reading_rest, cancelling_second, cancelled_inside, halted_inside, unplugging_cancelled, unplugged_aborting, usable_again}
use Rattle.host_joint.proofs.Stopping.{cancels_second}
use Rattle.host_joint.proofs.worked_unplugging.worked_cancels_are_unplugged.Goals as goal

pub returns-clause-cancels : goal.returns-clause-cancels
returns-clause-cancels c =
    let wrote = c.hosts_go_on_until_unplugged.ensures.tie reading_second reading_second (in_submit 6 4096) [] 6 [] [] requested_second
    (WritesRead 2 4 4000 spaced first_data [] refl (record { number = refl; way = refl; size = refl }) refl refl) refl (inl c.worked_pieces_are_read.ensures.again.1) in
    c.hosts_go_on_until_unplugged.ensures.cancel reading_second (Some (in_submit 6 4096)) 7 reading_rest (Some (in_submit 6 4096)) (unlink 7 6 ∷ []) 8 (up.Submit (in_submit 6 4096) [] ∷ [])
    (up.Submit (in_submit 6 4096) [] ∷ up.Unlink (unlink 7 6) ∷ []) [] requested_second
    (λ downs s tie. c.cancels_begin.ensures.unlink 2 spaced 4 4000 first_data [] (in_submit 6 4096) (unlink 7 6) 7 (up.Submit (in_submit 6 4096) [] ∷ []) downs s refl refl tie) wrote

pub returns-clause-gone : goal.returns-clause-gone
returns-clause-gone c =
    let goes : Runs requested_second unplugging_cancelled unplugged_aborting = c.runs_join.ensures.together cancelling_second (step Unplug [] ∷ []) requested_second cancelled_inside unplugged_aborting cancels_second
    (unplugged_aborting, record { plugged = refl; leads = record { answered = refl; is = refl } }, refl) in
    let bound = c.ties_hold_until_unplugged.ensures.bound reading_rest unplugging_cancelled (Some (in_submit 6 4096)) (unlink 7 6 ∷ []) 8 [] [] requested_second unplugged_aborting goes (returns-clause-cancels c) in (
      goes,
      bound,
      c.unplugged_hosts_own.ensures.reading 2 spaced 4 4000 first_data [] true (Some (in_submit 6 4096)) (unlink 7 6 ∷ []) 8 [] (Unlinked (unlink 7 6) (record { seqnum = 7; status = unlinked }) ∷ []) unplugged_aborting bound,
    )

pub returns-clause-next : goal.returns-clause-next
returns-clause-next c =
    c.answers_come_until_unplugged.ensures.next reading_rest (Some (in_submit 6 4096)) (unlink 7 6 ∷ []) 8 (Unlinked (unlink 7 6) (record { seqnum = 7; status = unlinked })) [] [] unplugged_aborting (returns-clause-gone c).1

abbrev halted_gone : State
halted_gone = record halted_inside { presence = Unplugged }

pub returns-clause-halted : goal.returns-clause-halted
returns-clause-halted c =
    let bound = c.answers_come_until_unplugged.ensures.bound_behind reading_rest None [] 7 [] [] halted_inside halted_gone (record { plugged = refl; leads = record { answered = refl; is = refl } }) c.worked_halts_are_recovered.ensures.halted.0 in
    (bound, c.unplugged_hosts_own.ensures.reading 2 spaced 4 4000 first_data [] true None [] 7 [] [] halted_gone bound)

pub returns-clause-rest : goal.returns-clause-rest
returns-clause-rest c =
    c.hosts_go_on_until_unplugged.ensures.rest 11 [] [] usable_again refl refl (inl (c.remote_tickets_are_tied.ensures.stands 11 [] [] usable_again c.worked_cancels_are_recovered.ensures.recovered))
