use Rattle.host_joint.specs.Lines.{unlinked_by, unlinks_in}
use Rattle.host_joint.proofs.ListHitting.{none_unlinked, front_none, run_tells, answer_tells, hit_of, missed_of}
use Rattle.host_joint.proofs.hits.lists_tell_hits.Goals as goal

pub returns-clause-begins : goal.returns-clause-begins
returns-clause-begins c asked ups downs s lines = none_unlinked asked downs (front_none (unlinked_by downs) (unlinks_in ups) lines.unlinked)

pub returns-clause-run : goal.returns-clause-run
returns-clause-run c =
    run_tells (record {
      answers = c.answers_fit.ensures.answers;
      joins = c.runs_join.ensures.together;
      lines = c.lines_stay.ensures.run;
      suits = c.answers_suit_their_submits.ensures.run;
    })

pub returns-clause-answer : goal.returns-clause-answer
returns-clause-answer c asked left head answer transferred downs endpoint rest apart first own kept tells = answer_tells asked left head downs endpoint rest apart first own kept tells

pub returns-clause-hit : goal.returns-clause-hit
returns-clause-hit c asked head answer downs tells some = hit_of asked head.target answer.status tells.0 some

pub returns-clause-missed : goal.returns-clause-missed
returns-clause-missed c asked head answer downs tells none = missed_of asked head.target answer.status tells.0 none
