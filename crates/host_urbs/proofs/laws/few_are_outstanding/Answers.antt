use Rattle.host_urbs.proofs.Once.{few, rise}
use Rattle.host_urbs.proofs.laws.few_are_outstanding.Goals as goal

pub returns-clause-most : goal.returns-clause-most
returns-clause-most c = few

pub returns-clause-rise : goal.returns-clause-rise
returns-clause-rise c = rise
