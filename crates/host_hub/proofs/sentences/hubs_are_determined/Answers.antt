use Rattle.host_hub.proofs.Determined.{nothing_owed, one_of_its_own}
use Rattle.host_hub.proofs.sentences.hubs_are_determined.Goals as goal

pub returns-clause-one : goal.returns-clause-one
returns-clause-one c = one_of_its_own (record { ends = c.a_whole_word_ends.ensures.whole; one = c.the_next_submit_is_one.ensures })

pub returns-clause-none : goal.returns-clause-none
returns-clause-none c = nothing_owed (record { ends = c.a_whole_word_ends.ensures.whole; one = c.the_next_submit_is_one.ensures })
