use Rattle.usbip_wire.proofs.AnswerTurns.{answers_one, answers_again, answers_join, answers_begin, answers_read}
use Rattle.usbip_wire.proofs.laws.answers_are_read_in_turn.Goals as goal

pub returns-clause-determined : goal.returns-clause-determined
returns-clause-determined c = answers_one

pub returns-clause-again : goal.returns-clause-again
returns-clause-again c = answers_again

pub returns-clause-before : goal.returns-clause-before
returns-clause-before c = answers_join

pub returns-clause-begins : goal.returns-clause-begins
returns-clause-begins c = answers_begin

pub returns-clause-read : goal.returns-clause-read
returns-clause-read c = answers_read
