use Rattle.std.proofs.Common.{Some, None}
use Rattle.host_joint.specs.Joint.{entries_for, entries_of}
use Rattle.host_joint.specs.Unplugged.{TiedUntil, BoundUntil}
use Rattle.host_joint.proofs.UntilJoined.{tied_spelled, bound_spelled, next_by, never_bad_by}
use Rattle.host_joint.proofs.Until.{next_until}
use Rattle.host_joint.proofs.unplugged.the_next_answer_is_read_until_unplugged.Goals as goal

pub returns-clause-answer : goal.returns-clause-answer
returns-clause-answer c devid hand head next written read this more message steps s j split spelled =
    let given = c.answers_come_until_unplugged.ensures.given in
    let x = next_by (λ ups downs t. TiedUntil hand (Some head) next ups downs t) (entries_for (Some head)) (tied_spelled given hand (Some head) next) (c.answers_are_determined.ensures.free (entries_for (Some head)))
    devid written read this more message steps s j split spelled in
    record {
      put = x.put;
      ups = x.ups;
      downs = x.downs;
      is = x.is;
      given = given hand head next x.put x.ups x.downs s x.tie;
      later = λ after tie. x.later (λ ups downs t. TiedUntil after None next ups downs t) tie;
    }

pub returns-clause-bound : goal.returns-clause-bound
returns-clause-bound c devid situation waits unlinks next written read this more message steps s apart j split spelled =
    let x = next_by (λ ups downs t. BoundUntil situation waits unlinks next ups downs t) (entries_of waits unlinks) (bound_spelled situation waits unlinks next apart) (c.answers_are_determined.ensures.free (entries_of waits unlinks))
    devid written read this more message steps s j split spelled in
    record {
      put = x.put;
      ups = x.ups;
      downs = x.downs;
      is = x.is;
      given = next_until situation waits unlinks next x.put x.ups x.downs s x.tie;
      later = λ after left others bound. x.later (λ ups downs t. BoundUntil after left others next ups downs t) bound;
    }

pub returns-clause-bad : goal.returns-clause-bad
returns-clause-bad c devid hand waits next =
    never_bad_by (record { alone = c.bad_fields_are_alone.ensures.answer; refused = c.bad_fields_are_refused.ensures.answer; stay = c.bad_fields_stay.ensures.answer })
    (λ ups downs t. TiedUntil hand waits next ups downs t) (entries_for waits) (tied_spelled c.answers_come_until_unplugged.ensures.given hand waits next) devid

pub returns-clause-bad_bound : goal.returns-clause-bad_bound
returns-clause-bad_bound c devid situation waits unlinks next written read rest more steps s f apart =
    never_bad_by (record { alone = c.bad_fields_are_alone.ensures.answer; refused = c.bad_fields_are_refused.ensures.answer; stay = c.bad_fields_stay.ensures.answer })
    (λ ups downs t. BoundUntil situation waits unlinks next ups downs t) (entries_of waits unlinks) (bound_spelled situation waits unlinks next apart) devid written read rest more steps s f
