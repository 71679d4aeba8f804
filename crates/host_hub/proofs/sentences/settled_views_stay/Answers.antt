use Rattle.std.specs.Prelude.{◌++◌}
use Rattle.host_hub.proofs.Lawful.{lawful_book}
use Rattle.host_hub.proofs.Tickets.{stays}
use Rattle.host_hub.proofs.Views.{views_stay}
use Rattle.host_hub.proofs.Within.{asking_stays}
use Rattle.host_hub.proofs.sentences.settled_views_stay.Goals as goal

pub returns-clause-asking : goal.returns-clause-asking
returns-clause-asking c = asking_stays

pub returns-clause-bytes : goal.returns-clause-bytes
returns-clause-bytes c = λ setting past more ticket outcome first lawful settled. (views_stay setting more past first lawful ticket outcome settled).0

pub returns-clause-last : goal.returns-clause-last
returns-clause-last c = λ setting past more ticket outcome first lawful settled. (views_stay setting more past first lawful ticket outcome settled).1

pub returns-clause-outcome : goal.returns-clause-outcome
returns-clause-outcome c = λ setting past more ticket outcome lawful settled. stays past more ticket outcome (lawful_book setting (more ++ past) lawful) settled
