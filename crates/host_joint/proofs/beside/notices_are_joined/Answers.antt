use Rattle.std.proofs.Common.{◌+◌, None, Some, []}
use Rattle.usbip_wire.specs.Up as up
use Rattle.host_joint.specs.Asking.{StaysPlugged}
use Rattle.host_joint.specs.Tie.{IsUndisturbed}
use Rattle.host_joint.specs.Bond.{Stands, Resting}
use Rattle.host_joint.specs.StatusReads.{Quiet}
use Rattle.host_joint.specs.Hand.{Free}
use Rattle.host_joint.specs.Beside.{HasAsk, HasRecovery, Beside, entries_beside}
use Rattle.host_joint.proofs.Joining.{joint_goes, writes_on, goes_on, undisturbed-append, undisturbed_front, plugged-append, plugged_front}
use Rattle.host_joint.proofs.UntilJoined.{next_by, never_bad_by}
use Rattle.host_joint.proofs.Besides.{beside_kept, beside_spelled}
use Rattle.host_joint.proofs.beside.notices_are_joined.Goals as goal

pub returns-clause-calm : goal.returns-clause-calm
returns-clause-calm c doing notify older next devid =
    joint_goes (record {
      together = c.runs_join.ensures.together;
      taken_together = c.runs_join.ensures.taken_together;
      ins = c.runs_join.ensures.inputs;
      outs = c.runs_join.ensures.outputs;
      messages = c.runs_take_in_messages.ensures;
      over = c.messages_are_refused_by_what_is_pending.ensures;
      free = c.urbs_are_determined.ensures.free;
    }) IsUndisturbed (λ ups downs t. Beside doing notify older next ups downs t)
    (beside_kept IsUndisturbed (record { more = undisturbed-append; front = undisturbed_front }) c.no_submit_is_refused.ensures doing notify older next
    (λ run ups downs s t goes calm b. c.hosts_go_on_beside_notices.ensures.calm doing notify older run next ups downs s t goes calm b)) tt devid

pub returns-clause-plugged : goal.returns-clause-plugged
returns-clause-plugged c doing notify older next devid written read steps more s t may =
    joint_goes (record {
      together = c.runs_join.ensures.together;
      taken_together = c.runs_join.ensures.taken_together;
      ins = c.runs_join.ensures.inputs;
      outs = c.runs_join.ensures.outputs;
      messages = c.runs_take_in_messages.ensures;
      over = c.messages_are_refused_by_what_is_pending.ensures;
      free = c.urbs_are_determined.ensures.free;
    }) StaysPlugged (λ ups downs t. Beside doing notify older next ups downs t)
    (beside_kept StaysPlugged (record { more = plugged-append; front = plugged_front }) c.no_submit_is_refused.ensures doing notify older next
    (λ run ups downs s t goes plugged b. c.hosts_go_on_beside_notices.ensures.plugged doing notify older run next ups downs s t may goes plugged b)) tt devid written read steps more s t

pub returns-clause-begins : goal.returns-clause-begins
returns-clause-begins c notify older next devid written read steps s is joint =
    goes_on (λ ups downs t. Quiet notify older next ups downs t) (λ ups downs t. Beside (HasRecovery (Stands Resting) None []) notify older next ups downs t) devid written read steps s
    (λ ups downs q. c.notices_are_kept_out.ensures.begins notify older next ups downs s is q) joint

pub returns-clause-turns : goal.returns-clause-turns
returns-clause-turns c doing after notify older next devid written read steps s apart turns joint =
    goes_on (λ ups downs t. Beside doing notify older next ups downs t) (λ ups downs t. Beside after notify older next ups downs t) devid written read steps s
    (λ ups downs b. c.hosts_go_on_beside_notices.ensures.turns doing after notify older next ups downs s apart turns b) joint

pub returns-clause-rests : goal.returns-clause-rests
returns-clause-rests c notify older next devid written read steps s joint =
    goes_on (λ ups downs t. Beside (HasRecovery (Stands Resting) None []) notify older next ups downs t) (λ ups downs t. Quiet notify older next ups downs t) devid written read steps s
    (λ ups downs b. c.notices_are_kept_out.ensures.rests notify older next ups downs s b) joint

pub returns-clause-ends : goal.returns-clause-ends
returns-clause-ends c notify older next devid written read steps s joint =
    goes_on (λ ups downs t. Beside (HasAsk Free None) notify older next ups downs t) (λ ups downs t. Quiet notify older next ups downs t) devid written read steps s
    (λ ups downs b. c.notices_are_kept_out.ensures.ends notify older next ups downs s b) joint

pub returns-clause-writes : goal.returns-clause-writes
returns-clause-writes c doing after notify older next later devid message text written read steps s other apart more spelled writes joint =
    writes_on (λ ups downs t. Beside doing notify older next ups downs t) (λ ups downs t. Beside after notify older later ups downs t) devid message text written read steps s spelled
    (λ ups downs b. c.hosts_go_on_beside_notices.ensures.writes doing after notify older next later message ups downs s other apart more writes b) joint

pub returns-clause-notify : goal.returns-clause-notify
returns-clause-notify c doing head older next devid text written read steps s is number apart spelled joint =
    writes_on (λ ups downs t. Beside doing None older next ups downs t) (λ ups downs t. Beside doing (Some head) older (next + 1) ups downs t) devid (up.Submit head []) text written read steps s spelled
    (λ ups downs b. c.notices_are_kept_out.ensures.notify doing head older next ups downs s is number apart b) joint

pub returns-clause-next : goal.returns-clause-next
returns-clause-next c doing notify older next devid written read this more message steps s apart j split spelled =
    let x = next_by (λ ups downs t. Beside doing notify older next ups downs t) (entries_beside doing notify) (beside_spelled doing notify older next apart)
    (c.answers_are_determined.ensures.free (entries_beside doing notify)) devid written read this more message steps s j split spelled in
    record {
      put = x.put;
      ups = x.ups;
      downs = x.downs;
      is = x.is;
      given = c.hosts_go_on_beside_notices.ensures.answer doing notify older x.put next x.ups x.downs s x.tie;
      later = λ after left others b. x.later (λ ups downs t. Beside after left others next ups downs t) b;
    }

pub returns-clause-bad : goal.returns-clause-bad
returns-clause-bad c doing notify older next devid written read rest more steps s f apart =
    never_bad_by (record { alone = c.bad_fields_are_alone.ensures.answer; refused = c.bad_fields_are_refused.ensures.answer; stay = c.bad_fields_stay.ensures.answer })
    (λ ups downs t. Beside doing notify older next ups downs t) (entries_beside doing notify) (beside_spelled doing notify older next apart) devid written read rest more steps s f
