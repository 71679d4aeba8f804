use Rattle.host_hub.proofs.Stepping.{made_of, answer_works, answer_settles, no_unlinks_behind, no_unlinks_settled}
use Rattle.host_hub.proofs.steps.an_answer_comes.Goals as goal

pub returns-clause-made : goal.returns-clause-made
returns-clause-made c = made_of

pub returns-clause-goes_on : goal.returns-clause-goes_on
returns-clause-goes_on c = answer_works

pub returns-clause-settles : goal.returns-clause-settles
returns-clause-settles c = answer_settles

pub returns-clause-no_unlinks : goal.returns-clause-no_unlinks
returns-clause-no_unlinks c = no_unlinks_behind

pub returns-clause-none_settled : goal.returns-clause-none_settled
returns-clause-none_settled c = no_unlinks_settled
