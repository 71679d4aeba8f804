use Rattle.host_joint.specs.Asking.{StaysPlugged}
use Rattle.host_joint.specs.Tie.{IsUndisturbed, Tie}
use Rattle.host_joint.specs.Bond.{Bound}
use Rattle.host_joint.proofs.Joining.{joint_goes, joint_ran, tie_kept, bound_kept}
use Rattle.host_joint.proofs.joints.joints_stay.Goals as goal

pub returns-clause-joint : goal.returns-clause-joint
returns-clause-joint c devid hand waits next =
    joint_goes (record {
      together = c.runs_join.ensures.together;
      taken_together = c.runs_join.ensures.taken_together;
      ins = c.runs_join.ensures.inputs;
      outs = c.runs_join.ensures.outputs;
      messages = c.runs_take_in_messages.ensures;
      over = c.messages_are_refused_by_what_is_pending.ensures;
      free = c.urbs_are_determined.ensures.free;
    }) IsUndisturbed (λ ups downs t. Tie hand waits next ups downs t) (tie_kept c.ties_stay.ensures.tie c.no_submit_is_refused.ensures hand waits next) tt devid

pub returns-clause-ran : goal.returns-clause-ran
returns-clause-ran c devid hand waits next n message response =
    joint_ran (record {
      together = c.runs_join.ensures.together;
      taken_together = c.runs_join.ensures.taken_together;
      ins = c.runs_join.ensures.inputs;
      outs = c.runs_join.ensures.outputs;
      messages = c.runs_take_in_messages.ensures;
      over = c.messages_are_refused_by_what_is_pending.ensures;
      free = c.urbs_are_determined.ensures.free;
    }) IsUndisturbed (λ ups downs t. Tie hand waits next ups downs t) (tie_kept c.ties_stay.ensures.tie c.no_submit_is_refused.ensures hand waits next) tt n message response
    (λ run ups downs s t goes tie ran. c.ties_stay.ensures.ran run hand waits next n message response ups downs s t goes tie ran) devid

pub returns-clause-joined : goal.returns-clause-joined
returns-clause-joined c devid situation waits unlinks next =
    joint_goes (record {
      together = c.runs_join.ensures.together;
      taken_together = c.runs_join.ensures.taken_together;
      ins = c.runs_join.ensures.inputs;
      outs = c.runs_join.ensures.outputs;
      messages = c.runs_take_in_messages.ensures;
      over = c.messages_are_refused_by_what_is_pending.ensures;
      free = c.urbs_are_determined.ensures.free;
    }) StaysPlugged (λ ups downs t. Bound situation waits unlinks next ups downs t) (bound_kept c.bonds_stay.ensures.bound c.no_submit_is_refused.ensures situation waits unlinks next) tt devid

pub returns-clause-ran_joined : goal.returns-clause-ran_joined
returns-clause-ran_joined c devid situation waits unlinks next n message response =
    joint_ran (record {
      together = c.runs_join.ensures.together;
      taken_together = c.runs_join.ensures.taken_together;
      ins = c.runs_join.ensures.inputs;
      outs = c.runs_join.ensures.outputs;
      messages = c.runs_take_in_messages.ensures;
      over = c.messages_are_refused_by_what_is_pending.ensures;
      free = c.urbs_are_determined.ensures.free;
    }) StaysPlugged (λ ups downs t. Bound situation waits unlinks next ups downs t) (bound_kept c.bonds_stay.ensures.bound c.no_submit_is_refused.ensures situation waits unlinks next) tt n message response
    (λ run ups downs s t goes bound ran. c.bonds_stay.ensures.ran situation run waits unlinks next n message response ups downs s t goes bound ran) devid
