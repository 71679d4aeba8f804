use Rattle.host_hub.proofs.WorkedWrong.{not_whole, not_behind, not_late, not_lost}
use Rattle.host_hub.proofs.refused.outcomes_are_not_chosen.Goals as goal

pub returns-clause-whole : goal.returns-clause-whole
returns-clause-whole c = not_whole

pub returns-clause-behind : goal.returns-clause-behind
returns-clause-behind c = not_behind

pub returns-clause-late : goal.returns-clause-late
returns-clause-late c = not_late

pub returns-clause-lost : goal.returns-clause-lost
returns-clause-lost c = not_lost
