use Rattle.std.proofs.Common.{◌+◌, Some, None, []}
use Rattle.usbip_wire.specs.Up as up
use Rattle.host_joint.specs.Hand.{Free}
use Rattle.host_joint.specs.Tie.{asked_of, Tie}
use Rattle.host_joint.specs.Bond.{Stands, Requests, Resting, BehindClear, finds}
use Rattle.host_joint.specs.Joint.{entries_of}
use Rattle.host_joint.specs.Reasons.{both, Spares, BoundUsable}
use Rattle.host_joint.proofs.Joining.{joint_goes, writes_on, goes_on, first_spelled, rising_asked, apart_asked, few_total}
use Rattle.host_joint.proofs.UntilJoined.{next_by}
use Rattle.host_joint.proofs.Freeing.{spares-append, spares_front}
use Rattle.host_joint.proofs.reasons.usable_joints_go_on.Goals as goal

pub returns-clause-begins : goal.returns-clause-begins
returns-clause-begins c devid next written read steps s joint =
    goes_on (λ ups downs t. Tie Free None next ups downs t) (λ ups downs t. BoundUsable both (Stands Resting) None [] next ups downs t) devid written read steps s (λ ups downs tie. c.endpoints_stay_usable.ensures.begins next ups downs s tie) joint

pub returns-clause-stay : goal.returns-clause-stay
returns-clause-stay c which devid situation waits unlinks next written read steps more s t tells front mild_so =
    joint_goes (record {
      together = c.runs_join.ensures.together;
      taken_together = c.runs_join.ensures.taken_together;
      ins = c.runs_join.ensures.inputs;
      outs = c.runs_join.ensures.outputs;
      messages = c.runs_take_in_messages.ensures;
      over = c.messages_are_refused_by_what_is_pending.ensures;
      free = c.urbs_are_determined.ensures.free;
    }) (λ run. Spares which run) (λ ups downs t. BoundUsable which situation waits unlinks next ups downs t) (record {
      kind = record { more = spares-append which; front = spares_front which };
      goes = λ run ups downs s t goes spares b. c.endpoints_stay_usable.ensures.stays which situation run waits unlinks next ups downs s t goes spares mild_so b;
      taken = λ head transferred ups downs s f b over.
          c.no_submit_is_refused.ensures (asked_of waits) unlinks head transferred ups downs s f b.bound.bond.fitting.0 (record { rising = rising_asked waits; apart = apart_asked waits }) (few_total waits) b.bound.bond.lines over;
    }) tt devid written read steps more s t tells front

pub returns-clause-writes : goal.returns-clause-writes
returns-clause-writes c which later devid letter head next text written read steps s is fits number known spelled joined =
    writes_on (λ ups downs t. BoundUsable which (Stands (finds letter)) None [] next ups downs t) (λ ups downs t. BoundUsable later (Requests head letter) (Some head) [] (next + 1) ups downs t) devid (up.Submit head []) text written read steps s spelled
    (λ ups downs b. c.endpoints_stay_usable.ensures.writes which later letter head next ups downs s is fits number known b) joined

pub returns-clause-goes_on : goal.returns-clause-goes_on
returns-clause-goes_on c which later devid before after waits left unlinks others next written read steps s moves joined =
    goes_on (λ ups downs t. BoundUsable which before waits unlinks next ups downs t) (λ ups downs t. BoundUsable later after left others next ups downs t) devid written read steps s moves joined

pub returns-clause-answer : goal.returns-clause-answer
returns-clause-answer c which devid situation waits unlinks next written read this more message steps s apart j split spelled =
    let x = next_by (λ ups downs t. BoundUsable which situation waits unlinks next ups downs t) (entries_of waits unlinks) (λ put ups downs s bytes b one. first_spelled situation waits unlinks next put ups downs s bytes apart b.bound one)
    (c.answers_are_determined.ensures.free (entries_of waits unlinks)) devid written read this more message steps s j split spelled in
    record { put = x.put; ups = x.ups; downs = x.downs; is = x.is; usable = x.tie; later = λ after left others b. x.later (λ ups downs t. BoundUsable which after left others next ups downs t) b }

pub returns-clause-ends : goal.returns-clause-ends
returns-clause-ends c devid next written read steps s joined =
    goes_on (λ ups downs t. BoundUsable both (Stands Resting) None [] next ups downs t) (λ ups downs t. Tie Free None next ups downs t) devid written read steps s (λ ups downs b. c.endpoints_stay_usable.ensures.rest next ups downs s b) joined

pub returns-clause-ends_cleared : goal.returns-clause-ends_cleared
returns-clause-ends_cleared c devid next written read steps s joined =
    goes_on (λ ups downs t. BoundUsable both (Stands BehindClear) None [] next ups downs t) (λ ups downs t. Tie Free None next ups downs t) devid written read steps s (λ ups downs b. c.endpoints_stay_usable.ensures.cleared next ups downs s b) joined
