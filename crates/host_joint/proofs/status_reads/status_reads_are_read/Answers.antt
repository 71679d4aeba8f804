use Rattle.std.proofs.Common.{◌+◌, true, Some, None, []}
use Rattle.usbip_wire.specs.Up as up
use Rattle.host_joint.specs.Asking.{StaysPlugged}
use Rattle.host_joint.specs.Bond.{Bound, Stands, Resting}
use Rattle.host_joint.specs.StatusReads.{StatusRead, ReadsStatus, Quiet, while, entries_by}
use Rattle.host_joint.proofs.Joining.{joint_goes, writes_on, goes_on}
use Rattle.host_joint.proofs.UntilJoined.{next_by, never_bad_by}
use Rattle.host_joint.proofs.StatusTied.{quiet_kept, read_spelled}
use Rattle.host_joint.proofs.status_reads.status_reads_are_read.Goals as goal

pub returns-clause-begins : goal.returns-clause-begins
returns-clause-begins c devid older next written given steps s is joint =
    goes_on (λ ups downs t. Bound (Stands Resting) None [] next ups downs t) (λ ups downs t. Quiet None older next ups downs t) devid written given steps s
    (λ ups downs bound. c.packets_are_told.ensures.begins older next ups downs s is bound) joint

pub returns-clause-goes_on : goal.returns-clause-goes_on
returns-clause-goes_on c devid notify older next =
    joint_goes (record {
      together = c.runs_join.ensures.together;
      taken_together = c.runs_join.ensures.taken_together;
      ins = c.runs_join.ensures.inputs;
      outs = c.runs_join.ensures.outputs;
      messages = c.runs_take_in_messages.ensures;
      over = c.messages_are_refused_by_what_is_pending.ensures;
      free = c.urbs_are_determined.ensures.free;
    }) StaysPlugged (λ ups downs t. Quiet notify older next ups downs t)
    (quiet_kept c.packets_are_told.ensures.stays c.no_submit_is_refused.ensures notify older next) tt devid

pub returns-clause-notify : goal.returns-clause-notify
returns-clause-notify c devid head older next text written given steps s is number spelled joint =
    writes_on (λ ups downs t. Quiet None older next ups downs t) (λ ups downs t. Quiet (Some head) older (next + 1) ups downs t) devid (up.Submit head []) text written given steps s spelled
    (λ ups downs q. c.packets_are_told.ensures.notify head older next ups downs s is number q) joint

pub returns-clause-written : goal.returns-clause-written
returns-clause-written c devid head tag notify older next text written given steps s is tagged fits number spelled joint =
    let read : StatusRead = record { head = head; tag = tag; since = s.log; left = older } in
    writes_on (λ ups downs t. Quiet notify older next ups downs t) (λ ups downs t. ReadsStatus read true notify None older (next + 1) ups downs t) devid (up.Submit head []) text written given steps s spelled
    (λ ups downs q. c.status_reads_are_tied.ensures.begins head tag notify older next ups downs s is tagged fits number q) joint

pub returns-clause-again : goal.returns-clause-again
returns-clause-again c devid head read waits got older next text written given steps s is number spelled joint =
    writes_on (λ ups downs t. ReadsStatus read waits None got older next ups downs t) (λ ups downs t. ReadsStatus read waits (Some head) got older (next + 1) ups downs t) devid (up.Submit head []) text written given steps s spelled
    (λ ups downs r. c.status_reads_are_tied.ensures.notify head read waits got older next ups downs s is number r) joint

pub returns-clause-next : goal.returns-clause-next
returns-clause-next c devid read waits notify got older next written given this more message steps s j split spelled =
    let x = next_by (λ ups downs t. ReadsStatus read waits notify got older next ups downs t) (entries_by (while waits read.head) notify) (read_spelled read waits notify got older next)
    (c.answers_are_determined.ensures.free (entries_by (while waits read.head) notify)) devid written given this more message steps s j split spelled in
    record {
      put = x.put;
      ups = x.ups;
      downs = x.downs;
      is = x.is;
      tie = x.tie;
      later = λ still other has left r. x.later (λ ups downs t. ReadsStatus read still other has left next ups downs t) r;
      quiet = λ other left q. x.later (λ ups downs t. Quiet other left next ups downs t) q;
    }

pub returns-clause-bad : goal.returns-clause-bad
returns-clause-bad c devid read waits notify got older next =
    never_bad_by (record { alone = c.bad_fields_are_alone.ensures.answer; refused = c.bad_fields_are_refused.ensures.answer; stay = c.bad_fields_stay.ensures.answer })
    (λ ups downs t. ReadsStatus read waits notify got older next ups downs t) (entries_by (while waits read.head) notify) (read_spelled read waits notify got older next) devid
