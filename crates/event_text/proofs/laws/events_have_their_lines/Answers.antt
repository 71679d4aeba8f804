use Rattle.std.proofs.Common.{ap, ◌∙◌}
use Rattle.event_text.specs.EventLine.{dev_said, event_said, line_words}
use Rattle.event_text.specs.Words.{words_of}
use Rattle.event_text.proofs.Spelled.{dev_was, dev_is, event_was, event_is, said_was, said_is}
use Rattle.event_text.proofs.laws.events_have_their_lines.Goals as goal

pub returns-clause-dev : goal.returns-clause-dev
returns-clause-dev c = λ line event. (λ said. dev_was line event said, λ is. ap (λ l. dev_said (words_of l)) is.0 ∙ dev_is event is.1)

pub returns-clause-event : goal.returns-clause-event
returns-clause-event c = λ line event. (λ said. event_was line event said, λ is. ap (λ l. event_said (words_of l)) is.0 ∙ event_is event is.1)

pub returns-clause-line : goal.returns-clause-line
returns-clause-line c = λ place line said. (λ says. said_was place line said says, λ is. ap (λ l. line_words place (words_of l)) is.0 ∙ said_is place said is.1)
