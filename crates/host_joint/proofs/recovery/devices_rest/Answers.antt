use Rattle.host_joint.specs.Positions.{rests, cleared}
use Rattle.host_joint.proofs.Numbered.{begins_new}
use Rattle.host_joint.proofs.Resting.{rests_closed, cleared_closed}
use Rattle.host_joint.proofs.Requesting.{quiet_goes}
use Rattle.host_joint.proofs.recovery.devices_rest.Goals as goal

pub returns-clause-stays : goal.returns-clause-stays
returns-clause-stays c ups s t move puts step none free at = quiet_goes rests s t move puts ups rests_closed none free step.leads at

pub returns-clause-stays_cleared : goal.returns-clause-stays_cleared
returns-clause-stays_cleared c ups s t move puts step none free at = quiet_goes cleared s t move puts ups cleared_closed none free step.leads at

pub returns-clause-rest : goal.returns-clause-rest
returns-clause-rest c next last messages s most below free at =
    let fresh = begins_new next last messages s most below in
    record { control = free; bulk_out = at.bulk_out; bulk_in = at.bulk_in; transfer = at.out.0; part = at.out.1; waiting = fresh.1; side = at.side; running = at.running; log = fresh.0 }

pub returns-clause-rest_cleared : goal.returns-clause-rest_cleared
returns-clause-rest_cleared c next last messages s most below free at =
    let fresh = begins_new next last messages s most below in
    record { control = free; bulk_out = at.bulk_out; bulk_in = at.bulk_in; transfer = at.out.0; part = at.out.1; waiting = fresh.1; side = at.side; running = at.running; log = fresh.0 }
