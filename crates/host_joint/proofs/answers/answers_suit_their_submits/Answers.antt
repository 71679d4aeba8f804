use Rattle.host_joint.proofs.Suiting.{suits_run}
use Rattle.host_joint.proofs.answers.answers_suit_their_submits.Goals as goal

pub returns-clause-run : goal.returns-clause-run
returns-clause-run c =
    suits_run (record {
      answers = c.answers_fit.ensures.answers;
      fit = c.answers_fit.ensures.fit;
      stand = c.pending_submits_are_sound.ensures.stand;
      joins = c.runs_join.ensures.together;
    })

pub returns-clause-submit : goal.returns-clause-submit
returns-clause-submit c asked unlinks ups head answer transferred downs s suits lines =
    let own = suits.0.fitting in
    let taken = c.hosts_keep_lines.ensures.answer asked unlinks ups head answer transferred downs s own.endpoint own.number lines in
    (own.endpoint, taken.0, own.number, taken.1, suits.0)

pub returns-clause-unlink : goal.returns-clause-unlink
returns-clause-unlink c asked unlinks ups head answer downs s suits lines =
    let taken = c.hosts_keep_lines.ensures.unlink_answer asked unlinks ups head answer downs s lines in
    (taken.0, taken.1, suits.0)
