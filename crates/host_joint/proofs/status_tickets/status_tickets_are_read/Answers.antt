use Rattle.std.proofs.Common.{inl, [], ◌∷◌, ◌++◌}
use Rattle.host_joint.specs.Unplugged.{Until}
use Rattle.host_joint.specs.StatusTickets.{StatusHolds, entries_with}
use Rattle.host_joint.proofs.Until.{until_moves}
use Rattle.host_joint.proofs.Joining.{joint_goes, goes_on, writes_on}
use Rattle.host_joint.proofs.UntilJoined.{until_kept, any_kind, tells_any, next_by, never_bad_by}
use Rattle.host_joint.proofs.StatusTicketed.{status_never, status_spelled}
use Rattle.host_joint.proofs.status_tickets.status_tickets_are_read.Goals as goal

pub returns-clause-begins : goal.returns-clause-begins
returns-clause-begins c ticket notify older next devid written read steps s joint =
    goes_on (λ ups downs t. StatusHolds ticket notify older next ups downs t) (λ ups downs t. Until (λ ups downs t. StatusHolds ticket notify older next ups downs t) ups downs t) devid written read steps s (λ ups downs r. inl r) joint

pub returns-clause-stays : goal.returns-clause-stays
returns-clause-stays c ticket notify older next devid written read steps more s t tells =
    joint_goes (record {
      together = c.runs_join.ensures.together;
      taken_together = c.runs_join.ensures.taken_together;
      ins = c.runs_join.ensures.inputs;
      outs = c.runs_join.ensures.outputs;
      messages = c.runs_take_in_messages.ensures;
      over = c.messages_are_refused_by_what_is_pending.ensures;
      free = c.urbs_are_determined.ensures.free;
    }) (λ run. Unit {0}) (λ ups downs t. Until (λ ups downs t. StatusHolds ticket notify older next ups downs t) ups downs t)
    (until_kept (λ run. Unit {0}) (λ ups downs s. StatusHolds ticket notify older next ups downs s)
    (λ run ups downs s t goes kind r. c.status_tickets_are_held.ensures.until ticket notify older run next ups downs s t goes r) any_kind (status_never c.no_submit_is_refused.ensures ticket notify older next)) tt devid
    written read steps more s t (tells_any devid s more t tells)

pub returns-clause-writes : goal.returns-clause-writes
returns-clause-writes c ticket later notify left older others next after devid message text written read steps s spelled goes joined =
    writes_on (λ ups downs t. Until (λ ups downs t. StatusHolds ticket notify older next ups downs t) ups downs t) (λ ups downs t. Until (λ ups downs t. StatusHolds later left others after ups downs t) ups downs t) devid message text written read steps s spelled
    (λ ups downs r. until_moves (λ ups downs t. StatusHolds ticket notify older next ups downs t) (λ ups downs t. StatusHolds later left others after ups downs t) ups (ups ++ message ∷ []) downs s (λ downs t. goes ups downs t) r) joined

pub returns-clause-next : goal.returns-clause-next
returns-clause-next c ticket notify older next devid written read this more message steps s apart j split spelled =
    let x = next_by (λ ups downs t. Until (λ ups downs t. StatusHolds ticket notify older next ups downs t) ups downs t) (entries_with ticket notify) (status_spelled ticket notify older next apart)
    (c.answers_are_determined.ensures.free (entries_with ticket notify)) devid written read this more message steps s j split spelled in
    record {
      put = x.put;
      ups = x.ups;
      downs = x.downs;
      is = x.is;
      given = c.status_tickets_are_held.ensures.next ticket notify older next x.put x.ups x.downs s x.tie;
      later = λ after left others r. x.later (λ ups downs t. Until (λ ups downs t. StatusHolds after left others next ups downs t) ups downs t) r;
    }

pub returns-clause-bad : goal.returns-clause-bad
returns-clause-bad c ticket notify older next devid written read rest more steps s f apart =
    never_bad_by (record { alone = c.bad_fields_are_alone.ensures.answer; refused = c.bad_fields_are_refused.ensures.answer; stay = c.bad_fields_stay.ensures.answer })
    (λ ups downs t. Until (λ ups downs t. StatusHolds ticket notify older next ups downs t) ups downs t) (entries_with ticket notify) (status_spelled ticket notify older next apart) devid written read rest more steps s f
