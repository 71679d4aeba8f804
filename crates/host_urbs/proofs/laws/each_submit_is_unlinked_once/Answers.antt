use Rattle.host_urbs.specs.Record.{outstanding}
use Rattle.host_urbs.proofs.Once.{one_unlink, exactly_one, never, all_named, less_one}
use Rattle.host_urbs.proofs.laws.each_submit_is_unlinked_once.Goals as goal

pub returns-clause-once : goal.returns-clause-once
returns-clause-once c = one_unlink

pub returns-clause-one : goal.returns-clause-one
returns-clause-one c = exactly_one

pub returns-clause-none : goal.returns-clause-none
returns-clause-none c = never

pub returns-clause-all : goal.returns-clause-all
returns-clause-all c = λ first past wanted number h due there. exactly_one first past number h (all_named number wanted (outstanding past) due there)

pub returns-clause-less : goal.returns-clause-less
returns-clause-less c = less_one
