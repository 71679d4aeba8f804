use Rattle.std.proofs.Common.{inl, None, [], ◌∷◌, ◌++◌}
use Rattle.host_joint.specs.Bond.{Stands, Resting}
use Rattle.host_joint.specs.Joint.{entries_of}
use Rattle.host_joint.specs.Unplugged.{Until, BoundUntil}
use Rattle.host_joint.specs.Races.{TicketHolds, waits_of, unlinks_of}
use Rattle.host_joint.proofs.Until.{until_moves}
use Rattle.host_joint.proofs.Joining.{joint_goes, goes_on, writes_on}
use Rattle.host_joint.proofs.UntilJoined.{until_kept, any_kind, tells_any, next_by, never_bad_by}
use Rattle.host_joint.proofs.Ticketed.{ticket_never, ticket_spelled}
use Rattle.host_joint.proofs.races.tickets_are_read.Goals as goal

pub returns-clause-begins : goal.returns-clause-begins
returns-clause-begins c ticket next devid written read steps s joint =
    goes_on (λ ups downs t. TicketHolds ticket next ups downs t) (λ ups downs t. Until (λ ups downs t. TicketHolds ticket next ups downs t) ups downs t) devid written read steps s (λ ups downs o. inl o) joint

pub returns-clause-stays : goal.returns-clause-stays
returns-clause-stays c ticket next devid written read steps more s t tells =
    joint_goes (record {
      together = c.runs_join.ensures.together;
      taken_together = c.runs_join.ensures.taken_together;
      ins = c.runs_join.ensures.inputs;
      outs = c.runs_join.ensures.outputs;
      messages = c.runs_take_in_messages.ensures;
      over = c.messages_are_refused_by_what_is_pending.ensures;
      free = c.urbs_are_determined.ensures.free;
    }) (λ run. Unit {0}) (λ ups downs t. Until (λ ups downs t. TicketHolds ticket next ups downs t) ups downs t)
    (until_kept (λ run. Unit {0}) (λ ups downs s. TicketHolds ticket next ups downs s)
    (λ run ups downs s t goes kind o. c.tickets_are_held.ensures.until ticket run next ups downs s t goes o) any_kind (ticket_never c.no_submit_is_refused.ensures ticket next)) tt devid
    written read steps more s t (tells_any devid s more t tells)

pub returns-clause-writes : goal.returns-clause-writes
returns-clause-writes c ticket later next after devid message text written read steps s spelled goes joined =
    writes_on (λ ups downs t. Until (λ ups downs t. TicketHolds ticket next ups downs t) ups downs t) (λ ups downs t. Until (λ ups downs t. TicketHolds later after ups downs t) ups downs t) devid message text written read steps s spelled
    (λ ups downs o. until_moves (λ ups downs t. TicketHolds ticket next ups downs t) (λ ups downs t. TicketHolds later after ups downs t) ups (ups ++ message ∷ []) downs s (λ downs t. goes ups downs t) o) joined

pub returns-clause-next : goal.returns-clause-next
returns-clause-next c ticket next devid written read this more message steps s apart j split spelled =
    let x = next_by (λ ups downs t. Until (λ ups downs t. TicketHolds ticket next ups downs t) ups downs t) (entries_of (waits_of ticket) (unlinks_of ticket)) (ticket_spelled ticket next apart)
    (c.answers_are_determined.ensures.free (entries_of (waits_of ticket) (unlinks_of ticket))) devid written read this more message steps s j split spelled in
    record {
      put = x.put;
      ups = x.ups;
      downs = x.downs;
      is = x.is;
      given = c.tickets_are_held.ensures.next ticket next x.put x.ups x.downs s x.tie;
      later = λ after o. x.later (λ ups downs t. Until (λ ups downs t. TicketHolds after next ups downs t) ups downs t) o;
      rests = λ bound. x.later (λ ups downs t. BoundUntil (Stands Resting) None [] next ups downs t) bound;
    }

pub returns-clause-bad : goal.returns-clause-bad
returns-clause-bad c ticket next devid written read rest more steps s f apart =
    never_bad_by (record { alone = c.bad_fields_are_alone.ensures.answer; refused = c.bad_fields_are_refused.ensures.answer; stay = c.bad_fields_stay.ensures.answer })
    (λ ups downs t. Until (λ ups downs t. TicketHolds ticket next ups downs t) ups downs t) (entries_of (waits_of ticket) (unlinks_of ticket)) (ticket_spelled ticket next apart) devid written read rest more steps s f
