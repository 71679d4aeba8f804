use Rattle.host_hub.proofs.WorkedWrong.{not_none, not_unasked, not_twice}
use Rattle.host_hub.proofs.refused.unlinks_are_not_chosen.Goals as goal

pub returns-clause-none : goal.returns-clause-none
returns-clause-none c = not_none

pub returns-clause-unasked : goal.returns-clause-unasked
returns-clause-unasked c = not_unasked

pub returns-clause-twice : goal.returns-clause-twice
returns-clause-twice c = not_twice
