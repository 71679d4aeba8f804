use Rattle.host_joint.proofs.Joining.{never_bad, never_bad_bound, all_taken_in}
use Rattle.host_joint.proofs.joints.no_answer_is_refused.Goals as goal

pub returns-clause-bad : goal.returns-clause-bad
returns-clause-bad c =
    never_bad (record { given = c.answers_are_the_expected.ensures })
    (record { alone = c.bad_fields_are_alone.ensures.answer; refused = c.bad_fields_are_refused.ensures.answer; stay = c.bad_fields_stay.ensures.answer })

pub returns-clause-taken_in : goal.returns-clause-taken_in
returns-clause-taken_in c = all_taken_in (record { given = c.answers_are_the_expected.ensures })

pub returns-clause-bad_bound : goal.returns-clause-bad_bound
returns-clause-bad_bound c = never_bad_bound (record { alone = c.bad_fields_are_alone.ensures.answer; refused = c.bad_fields_are_refused.ensures.answer; stay = c.bad_fields_stay.ensures.answer })
