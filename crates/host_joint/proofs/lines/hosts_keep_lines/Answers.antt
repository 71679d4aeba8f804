use Rattle.host_joint.proofs.Booking.{begins, submit_written, unlink_written, submit_answered, unlink_answered}
use Rattle.host_joint.proofs.lines.hosts_keep_lines.Goals as goal

pub returns-clause-begins : goal.returns-clause-begins
returns-clause-begins c = begins

pub returns-clause-submit : goal.returns-clause-submit
returns-clause-submit c = submit_written

pub returns-clause-unlink : goal.returns-clause-unlink
returns-clause-unlink c = unlink_written

pub returns-clause-answer : goal.returns-clause-answer
returns-clause-answer c = submit_answered

pub returns-clause-unlink_answer : goal.returns-clause-unlink_answer
returns-clause-unlink_answer c = unlink_answered
