use Rattle.host_hub.proofs.Tying.{tied_start, tied_sent, tied_got, tied_wrote, tied_took, tied_fell, tied_other}
use Rattle.host_hub.proofs.ties.records_are_tied.Goals as goal

pub returns-clause-start : goal.returns-clause-start
returns-clause-start c = tied_start

pub returns-clause-sent : goal.returns-clause-sent
returns-clause-sent c = tied_sent

pub returns-clause-got : goal.returns-clause-got
returns-clause-got c = tied_got

pub returns-clause-wrote : goal.returns-clause-wrote
returns-clause-wrote c = tied_wrote

pub returns-clause-took : goal.returns-clause-took
returns-clause-took c = tied_took

pub returns-clause-fell : goal.returns-clause-fell
returns-clause-fell c = tied_fell

pub returns-clause-other : goal.returns-clause-other
returns-clause-other c = tied_other
