use Rattle.std.proofs.Common.{Some, None, [], ◌+◌}
use Rattle.tmc_law.specs.Endpoint.{Control}
use Rattle.host_joint.specs.Lines.{sent_to, events_of}
use Rattle.host_joint.specs.Bond.{Bound, Stands, Resting}
use Rattle.host_joint.specs.Joint.{entries_for}
use Rattle.host_joint.specs.Remotes.{ActAt, Operating}
use Rattle.usbip_wire.specs.Up as up
use Rattle.host_joint.specs.Hand.{Free}
use Rattle.host_joint.specs.Tie.{Tie}
use Rattle.host_joint.proofs.Joining.{writes_on, goes_on}
use Rattle.host_joint.proofs.Until.{until_run}
use Rattle.host_joint.proofs.UntilJoined.{bond_spelled, next_by, never_bad_by}
use Rattle.host_joint.proofs.remotes.remote_tickets_are_read.Goals as goal

pub returns-clause-next : goal.returns-clause-next
returns-clause-next c devid act since head next written read this more message steps s j split spelled =
    let x = next_by (λ ups downs t. Operating act since head next ups downs t) (entries_for (Some head)) (λ put ups downs s bytes o one. bond_spelled (λ ups downs s. ActAt act since head (sent_to Control ups) (events_of Control downs) s) head next put ups downs s bytes o.bond one)
    (c.answers_are_determined.ensures.free (entries_for (Some head))) devid written read this more message steps s j split spelled in
    record { put = x.put; ups = x.ups; downs = x.downs; is = x.is; tie = x.tie; later = λ bound. x.later (λ ups downs t. Bound (Stands Resting) None [] next ups downs t) bound }

pub returns-clause-bad : goal.returns-clause-bad
returns-clause-bad c devid act since head next =
    never_bad_by (record { alone = c.bad_fields_are_alone.ensures.answer; refused = c.bad_fields_are_refused.ensures.answer; stay = c.bad_fields_stay.ensures.answer })
    (λ ups downs t. Operating act since head next ups downs t) (entries_for (Some head)) (λ put ups downs s bytes o one. bond_spelled (λ ups downs s. ActAt act since head (sent_to Control ups) (events_of Control downs) s) head next put ups downs s bytes o.bond one) devid

pub returns-clause-until : goal.returns-clause-until
returns-clause-until c act since head run next ups downs s t goes tie =
    until_run (record { apart = c.runs_join.ensures.apart; ins = c.runs_join.ensures.inputs; outs = c.runs_join.ensures.outputs }) (λ run. Unit {0}) (λ ups downs s. Operating act since head next ups downs s)
    (λ run ups downs s t goes kind plugged o. c.remote_tickets_are_tied.ensures.stays act since head run next ups downs s t goes plugged o) (λ a b h. tt) run ups downs s t goes tt tie

pub returns-clause-stands : goal.returns-clause-stands
returns-clause-stands c devid next written read steps s joint =
    goes_on (λ ups downs t. Tie Free None next ups downs t) (λ ups downs t. Bound (Stands Resting) None [] next ups downs t) devid written read steps s (λ ups downs tie. c.remote_tickets_are_tied.ensures.stands next ups downs s tie) joint

pub returns-clause-written : goal.returns-clause-written
returns-clause-written c devid act head next text written read steps s is fits number spelled joined =
    writes_on (λ ups downs t. Bound (Stands Resting) None [] next ups downs t) (λ ups downs t. Operating act s.log head (next + 1) ups downs t) devid (up.Submit head []) text written read steps s spelled
    (λ ups downs bound. c.remote_tickets_are_tied.ensures.begins act head next ups downs s is fits number bound) joined
