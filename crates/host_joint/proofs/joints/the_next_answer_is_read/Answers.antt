use Rattle.host_joint.proofs.Joining.{next_answer, next_of, all_read}
use Rattle.host_joint.proofs.joints.the_next_answer_is_read.Goals as goal

pub returns-clause-answer : goal.returns-clause-answer
returns-clause-answer c = next_answer (record { given = c.answers_are_the_expected.ensures }) c.answers_are_determined.ensures.free

pub returns-clause-none : goal.returns-clause-none
returns-clause-none c = all_read

pub returns-clause-bound : goal.returns-clause-bound
returns-clause-bound c = next_of c.answers_are_determined.ensures.free
