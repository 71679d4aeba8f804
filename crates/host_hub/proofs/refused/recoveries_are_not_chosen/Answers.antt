use Rattle.host_hub.proofs.WorkedWrong.{not_before, not_more}
use Rattle.host_hub.proofs.refused.recoveries_are_not_chosen.Goals as goal

pub returns-clause-before : goal.returns-clause-before
returns-clause-before c = not_before

pub returns-clause-behind : goal.returns-clause-behind
returns-clause-behind c = not_more c.a_whole_word_ends.ensures.whole
