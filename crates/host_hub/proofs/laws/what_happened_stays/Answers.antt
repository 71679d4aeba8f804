use Rattle.host_hub.proofs.Grows.{written_grows, taken_grows, book_grows}
use Rattle.host_hub.proofs.laws.what_happened_stays.Goals as goal

pub returns-clause-written : goal.returns-clause-written
returns-clause-written c = written_grows

pub returns-clause-taken : goal.returns-clause-taken
returns-clause-taken c = taken_grows

pub returns-clause-book : goal.returns-clause-book
returns-clause-book c = book_grows
