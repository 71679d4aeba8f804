use Rattle.std.proofs.Common.{[], ◌∷◌, ◌++◌}
use Rattle.host_joint.specs.Bond.{Bound}
use Rattle.host_joint.specs.Joint.{entries_of}
use Rattle.host_joint.specs.Unplugged.{TiedUntil}
use Rattle.host_joint.specs.Hits.{BoundTelling}
use Rattle.host_joint.proofs.Joining.{joint_goes, writes_on}
use Rattle.host_joint.proofs.UntilJoined.{until_kept, any_kind, tells_any, bound_never, bound_spelled, next_by}
use Rattle.host_joint.proofs.hits.joints_tell_hits.Goals as goal

pub returns-clause-begins : goal.returns-clause-begins
returns-clause-begins c devid before waits next after unlinks later message text written read steps s spelled goes =
    writes_on (λ ups downs t. TiedUntil before waits next ups downs t) (λ ups downs t. BoundTelling after waits unlinks later ups downs t) devid message text written read steps s spelled
    (λ ups downs tie.
    (c.hosts_go_on_until_unplugged.ensures.cancel before waits next after waits unlinks later ups (ups ++ message ∷ []) downs s (λ downs t. goes ups downs t) tie, c.unlinks_tell_hits.ensures.begins before waits next ups downs s tie))

pub returns-clause-writes : goal.returns-clause-writes
returns-clause-writes c devid before after waits unlinks others next later message text written read steps s spelled goes =
    writes_on (λ ups downs t. BoundTelling before waits unlinks next ups downs t) (λ ups downs t. BoundTelling after waits others later ups downs t) devid message text written read steps s spelled
    (λ ups downs both. (c.hosts_go_on_until_unplugged.ensures.bound before waits unlinks next after waits others later ups (ups ++ message ∷ []) downs s (λ downs t. goes ups downs t) both.0, both.1))

pub returns-clause-stay : goal.returns-clause-stay
returns-clause-stay c devid situation waits unlinks next written read steps more s t bulk one tells =
    let kept = until_kept (λ run. Unit {0}) (λ ups downs s. Bound situation waits unlinks next ups downs s)
    (λ run ups downs s t goes kind bound. c.ties_hold_until_unplugged.ensures.bound situation run waits unlinks next ups downs s t goes bound) any_kind (bound_never c.no_submit_is_refused.ensures situation waits unlinks next) in
    joint_goes (record {
      together = c.runs_join.ensures.together;
      taken_together = c.runs_join.ensures.taken_together;
      ins = c.runs_join.ensures.inputs;
      outs = c.runs_join.ensures.outputs;
      messages = c.runs_take_in_messages.ensures;
      over = c.messages_are_refused_by_what_is_pending.ensures;
      free = c.urbs_are_determined.ensures.free;
    }) (λ run. Unit {0}) (λ ups downs t. BoundTelling situation waits unlinks next ups downs t)
    (record {
      kind = any_kind;
      goes = λ run ups downs s t goes kind both. c.unlinks_tell_hits.ensures.run situation run waits unlinks next ups downs s t goes bulk one both;
      taken = λ head transferred ups downs s f both over. kept.taken head transferred ups downs s f both.0 over;
    }) tt devid written read steps more s t (tells_any devid s more t tells)

pub returns-clause-answer : goal.returns-clause-answer
returns-clause-answer c devid situation waits unlinks next written read this more message steps s apart j split spelled =
    let x = next_by (λ ups downs t. BoundTelling situation waits unlinks next ups downs t) (entries_of waits unlinks) (λ put ups downs s bytes both one. bound_spelled situation waits unlinks next apart put ups downs s bytes both.0 one)
    (c.answers_are_determined.ensures.free (entries_of waits unlinks)) devid written read this more message steps s j split spelled in
    record {
      put = x.put;
      ups = x.ups;
      downs = x.downs;
      is = x.is;
      given = c.answers_come_until_unplugged.ensures.next situation waits unlinks next x.put x.ups x.downs s x.tie.0;
      tells = x.tie.1;
      later = λ after left others both. x.later (λ ups downs t. BoundTelling after left others next ups downs t) both;
    }
