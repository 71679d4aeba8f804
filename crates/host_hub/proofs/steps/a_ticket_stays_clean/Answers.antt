use Rattle.host_hub.proofs.Clean.{clean_begins, clean_writes, clean_answers, clean_asked, clean_settles, clean_recovered}
use Rattle.host_hub.proofs.steps.a_ticket_stays_clean.Goals as goal

pub returns-clause-begins : goal.returns-clause-begins
returns-clause-begins c = clean_begins

pub returns-clause-writes : goal.returns-clause-writes
returns-clause-writes c = clean_writes

pub returns-clause-answers : goal.returns-clause-answers
returns-clause-answers c = clean_answers

pub returns-clause-asked : goal.returns-clause-asked
returns-clause-asked c = clean_asked

pub returns-clause-settles : goal.returns-clause-settles
returns-clause-settles c = clean_settles

pub returns-clause-recovered : goal.returns-clause-recovered
returns-clause-recovered c = clean_recovered
