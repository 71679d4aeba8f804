use Rattle.host_joint.proofs.Draining.{drain_goes}
use Rattle.host_joint.proofs.recovery.drains_stay.Goals as goal

pub returns : goal.returns
returns c run head ups downs puts s t move before is only fit control plugged step at =
    drain_goes head ups downs puts s t move is (record {
      fits = λ e. c.pending_submits_are_sound.ensures.stand run s e before;
      polled = λ e front submit behind line polled. let place = c.pending_submits_are_sound.ensures.polled run s e front submit behind before line polled in (place.0, place.1);
    }) only fit control plugged step.leads at
