use Rattle.tmc_law.proofs.AnswersFit.{are_answers, all_fit, all_spelled, all_packets}
use Rattle.tmc_law.proofs.AnswersOnce.{all_once, target_gone}
use Rattle.tmc_law.proofs.answers.answers_fit.Goals as goal

pub returns-clause-answers : goal.returns-clause-answers
returns-clause-answers c = are_answers

pub returns-clause-fit : goal.returns-clause-fit
returns-clause-fit c = all_fit

pub returns-clause-spelled : goal.returns-clause-spelled
returns-clause-spelled c = all_spelled

pub returns-clause-packets : goal.returns-clause-packets
returns-clause-packets c = all_packets

pub returns-clause-once : goal.returns-clause-once
returns-clause-once c = all_once

pub returns-clause-unlinked : goal.returns-clause-unlinked
returns-clause-unlinked c = target_gone
