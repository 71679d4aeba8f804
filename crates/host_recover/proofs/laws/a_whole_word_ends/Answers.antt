use Rattle.host_recover.proofs.Words.{whole_ends, none_empty}
use Rattle.host_recover.proofs.laws.a_whole_word_ends.Goals as goal

pub returns-clause-whole : goal.returns-clause-whole
returns-clause-whole c = whole_ends

pub returns-clause-begun : goal.returns-clause-begun
returns-clause-begun c = none_empty
