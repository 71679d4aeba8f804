use Rattle.host_hub.proofs.Fronts.{fronts, running_over}
use Rattle.host_hub.proofs.sentences.recoveries_begin_their_words.Goals as goal

pub returns-clause-front : goal.returns-clause-front
returns-clause-front c = λ setting past need lawful. (fronts c.each_answer_goes_on.ensures c.each_recovery_has_a_word.ensures setting past lawful).front need

pub returns-clause-over : goal.returns-clause-over
returns-clause-over c = λ setting past need lawful. running_over setting past lawful need
