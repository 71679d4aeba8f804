use Rattle.std.proofs.Common.{inl}
use Rattle.host_joint.specs.Tie.{Tie}
use Rattle.host_joint.specs.Bond.{Bound}
use Rattle.host_joint.specs.Unplugged.{TiedUntil, BoundUntil, HaltsNothing}
use Rattle.host_joint.proofs.Joining.{joint_goes, goes_on}
use Rattle.host_joint.proofs.UntilJoined.{until_kept, any_kind, unhalted_kind, tells_any, tied_never, bound_never}
use Rattle.host_joint.proofs.unplugged.joints_stay_until_unplugged.Goals as goal

pub returns-clause-joint : goal.returns-clause-joint
returns-clause-joint c devid hand waits next =
    joint_goes (record {
      together = c.runs_join.ensures.together;
      taken_together = c.runs_join.ensures.taken_together;
      ins = c.runs_join.ensures.inputs;
      outs = c.runs_join.ensures.outputs;
      messages = c.runs_take_in_messages.ensures;
      over = c.messages_are_refused_by_what_is_pending.ensures;
      free = c.urbs_are_determined.ensures.free;
    }) HaltsNothing (λ ups downs t. TiedUntil hand waits next ups downs t)
    (until_kept HaltsNothing (λ ups downs s. Tie hand waits next ups downs s)
    (λ run ups downs s t goes kind tie. c.ties_hold_until_unplugged.ensures.tie run hand waits next ups downs s t goes kind tie) unhalted_kind (tied_never c.no_submit_is_refused.ensures hand waits next)) tt devid

pub returns-clause-joined : goal.returns-clause-joined
returns-clause-joined c devid situation waits unlinks next written read steps more s t tells =
    joint_goes (record {
      together = c.runs_join.ensures.together;
      taken_together = c.runs_join.ensures.taken_together;
      ins = c.runs_join.ensures.inputs;
      outs = c.runs_join.ensures.outputs;
      messages = c.runs_take_in_messages.ensures;
      over = c.messages_are_refused_by_what_is_pending.ensures;
      free = c.urbs_are_determined.ensures.free;
    }) (λ run. Unit {0}) (λ ups downs t. BoundUntil situation waits unlinks next ups downs t)
    (until_kept (λ run. Unit {0}) (λ ups downs s. Bound situation waits unlinks next ups downs s)
    (λ run ups downs s t goes kind bound. c.ties_hold_until_unplugged.ensures.bound situation run waits unlinks next ups downs s t goes bound) any_kind (bound_never c.no_submit_is_refused.ensures situation waits unlinks next)) tt devid
    written read steps more s t (tells_any devid s more t tells)

pub returns-clause-begins : goal.returns-clause-begins
returns-clause-begins c devid hand waits next written read steps s joint =
    goes_on (λ ups downs t. Tie hand waits next ups downs t) (λ ups downs t. TiedUntil hand waits next ups downs t) devid written read steps s (λ ups downs tie. inl tie) joint

pub returns-clause-begins_joined : goal.returns-clause-begins_joined
returns-clause-begins_joined c devid situation waits unlinks next written read steps s joined =
    goes_on (λ ups downs t. Bound situation waits unlinks next ups downs t) (λ ups downs t. BoundUntil situation waits unlinks next ups downs t) devid written read steps s (λ ups downs bound. inl bound) joined
